-- What stays is held by the places of the entries, and back.
use Rattle.std.proofs.Common.{◌≡◌, ℕ, ◌+◌, suc, Bool, true, false, not, List, [], ◌∷◌, drop, Some, refl, arith}
use Rattle.std.specs.Prelude.{slice_get}
use Rattle.std.specs.List.{list_any}
use Rattle.std.proofs.lemmas.Bool.{false≢true, and_parts, and_from, or_parts, or_from, not_from_false}
use Rattle.dots_history.specs.declared.entry.Entry.{Entry}
use Rattle.dots_history.specs.Entries.{is_held, undoes}
use Rattle.dots_history.specs.Histories.{stays}
use Rattle.dots_history.specs.Places.{IsHeld}
use Rattle.dots_history.proofs.Fates.{NoneIs, none_of_none, none_more}
use Rattle.dots_history.proofs.PlaceLaws.{none_beyond, after_place}

none_from_any : (test : Entry → Bool) (later : List Entry) → list_any test later ≡ false → NoneIs test later
none_from_any test [] out = none_of_none test
none_from_any test (e ∷ later) out =
    let parts = or_parts (test e) (list_any test later) out in none_more test e later parts.0 (none_from_any test later parts.1)

any_from_none : (test : Entry → Bool) (later : List Entry) → NoneIs test later → list_any test later ≡ false
any_from_none test [] none = refl
any_from_none test (e ∷ later) none =
    or_from (test e) (list_any test later) (none 0 e refl) (any_from_none test later (λ k x found. none (suc k) x found))

not_is : (b : Bool) → not b ≡ true → b ≡ false
not_is true is = absurd (false≢true is)
not_is false is = refl

pub held_at_place : (entries : List Entry) (i : ℕ) (e : Entry) → slice_get entries i ≡ Some e → stays e (drop (suc i) entries) ≡ true → IsHeld entries i e
held_at_place entries i e there is =
    let parts = and_parts (is_held e.change) (not (list_any (undoes e) (drop (suc i) entries))) is in
    record {
      there = there;
      written = parts.0;
      not_undone =
          none_beyond (undoes e) i entries (none_from_any (undoes e) (drop (suc i) entries) (not_is (list_any (undoes e) (drop (suc i) entries)) parts.1));
    }

pub place_is_held : (entries : List Entry) (i : ℕ) (e : Entry) → IsHeld entries i e → stays e (drop (suc i) entries) ≡ true
place_is_held entries i e standing =
    and_from
    (is_held e.change)
    (not (list_any (undoes e) (drop (suc i) entries)))
    standing.written
    (not_from_false
    (list_any (undoes e) (drop (suc i) entries))
    (any_from_none (undoes e) (drop (suc i) entries) (λ k x found. standing.not_undone (suc i + k) x (omega arith) (after_place i entries k x found))))
