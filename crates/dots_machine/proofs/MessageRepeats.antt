-- The entry that is remembered is the one whose message is repeated.
use Rattle.std.proofs.Common.{◌≡◌, inl, inr, ℕ, zero, suc, ◌<◌, ◌≤◌, Bool, true, false, cond, ◌&&◌, List, [], ◌∷◌, drop, Option, Some, None, refl, sym, ap, ◌∙◌, subst, arith}
use Rattle.std.specs.Prelude.{slice_get, nat_lt, ◌==◌}
use Rattle.std.proofs.lemmas.Bool.{both_ways, cases_Bool, cases_order, and_parts, and_from, eqb-true, ltb-true}
use Rattle.std.proofs.lemmas.Bool.Decides.{nat_tests}
use Rattle.std.proofs.lemmas.Option.{none-some, same_Some}
use Rattle.dots_history.specs.declared.entry.Entry.{Entry}
use Rattle.dots_history.specs.Entries.{is_signal, signals, may_repeat}
use Rattle.dots_history.specs.Histories.{tally, is_recent, or_else, remembered}
use Rattle.dots_machine.specs.MessageRepeats.{Sent, IsRepeatOf}

signal_parts : (peer domain : ℕ) (e : Entry) → signals peer domain e ≡ true → (is_signal e.change ≡ true) × (e.peer ≡ peer) × (e.domain ≡ domain)
unfolding signals
signal_parts peer domain e is =
    let parts = and_parts (is_signal e.change) ((e.peer == peer) && (e.domain == domain)) is in
    let whose = and_parts (e.peer == peer) (e.domain == domain) parts.1 in
    (parts.0, eqb-true e.peer peer whose.0, eqb-true e.domain domain whose.1)

recent_is : (n peer domain : ℕ) (e : Entry) (later : List Entry) → signals peer domain e ≡ true → is_recent n e later ≡ nat_lt (tally (signals peer domain) later) n
recent_is n peer domain e later is =
    let parts = signal_parts peer domain e is in
    ap (λ b. b && nat_lt (tally (signals e.peer e.domain) later) n) parts.0
    ∙ ap (λ p. nat_lt (tally (signals p e.domain) later) n) parts.1
    ∙ ap (λ d. nat_lt (tally (signals peer d) later) n) parts.2

tally_drop : (test : Entry → Bool) (k : ℕ) (entries : List Entry) → tally test (drop k entries) ≤ tally test entries
tally_drop test zero [] = omega arith
tally_drop test zero (e ∷ later) = omega arith
tally_drop test (suc k) [] = omega arith
tally_drop test (suc k) (e ∷ later) = let less = tally_drop test k later in omega (arith, less)

no_either : (o p : Option Entry) → or_else o p ≡ None → (o ≡ None) × (p ≡ None)
no_either (Some x) p is = absurd (none-some x (sym is))
no_either None p is = (refl, is)

not_so : (b : Bool) (e : Entry) → cond b (Some e) None ≡ None → b ≡ false
not_so true e is = absurd (none-some e (sym is))
not_so false e is = refl

module _ (n t : ℕ) (sent : Sent) where
  abbrev recalled : List Entry → Option Entry
  recalled entries = remembered n t sent.peer sent.domain sent.id entries

  abbrev is_of : Entry → Bool
  is_of e = signals sent.peer sent.domain e

  abbrev may : Entry → Bool
  may e = may_repeat t sent.id e.time e.key

  abbrev answers : Entry → List Entry → Bool
  answers e later = is_of e && (is_recent n e later && may e)

  abbrev Repeats : List Entry → Entry → Type 0
  Repeats entries e = IsRepeatOf n t entries sent e

  -- nothing is remembered: no entry of them is such
  missing : (entries : List Entry) → recalled entries ≡ None → (j : ℕ) (x : Entry) → slice_get entries j ≡ Some x → is_of x ≡ true → tally is_of (drop (suc j) entries) < n → may x ≡ false
  missing [] none j x found own few = absurd (none-some x found)
  missing (e ∷ later) none (suc j) x found own few = missing later (no_either (recalled later) (cond (answers e later) (Some e) None) none).0 j x found own few
  missing (e ∷ later) none zero x found own few =
      elim (cases_Bool (may x)) [
        | inl is ↦
            let out : answers e later ≡ false = not_so (answers e later) e (no_either (recalled later) (cond (answers e later) (Some e) None) none).1 in
            let same : e ≡ x = same_Some e x found in
            let first : is_of e ≡ true = ap is_of same ∙ own in
            let recent : is_recent n e later ≡ true = recent_is n sent.peer sent.domain e later first ∙ grind (arith, nat_tests, few) in
            absurd (both_ways (answers e later) out (and_from (is_of e) (is_recent n e later && may e) first (and_from (is_recent n e later) (may e) recent (ap may same ∙ is))))
        | inr out ↦ out
      ]

  more : (e : Entry) (later : List Entry) (x : Entry) → Repeats later x → Repeats (e ∷ later) x
  more e later x is = record { place = suc is.place; there = is.there; of_both = is.of_both; recent = is.recent; may = is.may; last = further }
    where
      further : (j : ℕ) (y : Entry) → suc is.place < j → slice_get (e ∷ later) j ≡ Some y → is_of y ≡ true → may y ≡ false
      further zero y less found own = absurd (omega (arith, less))
      further (suc j) y less found own = is.last j y (omega (arith, less)) found own

  first : (e : Entry) (later : List Entry) → recalled later ≡ None → answers e later ≡ true → Repeats (e ∷ later) e
  first e later none is = record { place = zero; there = refl; of_both = parts.0; recent = few; may = both.1; last = further }
    where
      parts : (is_of e ≡ true) × ((is_recent n e later && may e) ≡ true)
      parts = and_parts (is_of e) (is_recent n e later && may e) is

      both : (is_recent n e later ≡ true) × (may e ≡ true)
      both = and_parts (is_recent n e later) (may e) parts.1

      few : tally is_of later < n
      few = ltb-true (tally is_of later) n (sym (recent_is n sent.peer sent.domain e later parts.0) ∙ both.0)

      further : (j : ℕ) (y : Entry) → zero < j → slice_get (e ∷ later) j ≡ Some y → is_of y ≡ true → may y ≡ false
      further zero y less found own = absurd (omega (arith, less))
      further (suc j) y less found own = let fewer = tally_drop is_of (suc j) later in missing later none j y found own (omega (arith, few, fewer))

  -- what is remembered is repeated
  pub is_repeated : (entries : List Entry) (x : Entry) → recalled entries ≡ Some x → Repeats entries x
  is_repeated [] x is = absurd (none-some x is)
  is_repeated (e ∷ later) x is = by_rest (is_repeated later) (recalled later) refl is
    where
      by_test : (b : Bool) → answers e later ≡ b → recalled later ≡ None → cond b (Some e) None ≡ Some x → Repeats (e ∷ later) x
      by_test true so none same = subst (Repeats (e ∷ later)) (same_Some e x same) (first e later none so)
      by_test false out none same = absurd (none-some x same)

      by_rest : ((y : Entry) → recalled later ≡ Some y → Repeats later y) → (o : Option Entry) → recalled later ≡ o
          → or_else o (cond (answers e later) (Some e) None) ≡ Some x → Repeats (e ∷ later) x
      by_rest deeper (Some y) at same = more e later x (deeper x (at ∙ same))
      by_rest deeper None at same = by_test (answers e later) refl at same

  -- one entry alone is repeated
  pub one_repeated : (entries : List Entry) (x y : Entry) → Repeats entries x → Repeats entries y → x ≡ y
  one_repeated entries x y a b =
      elim (cases_order a.place b.place) [
        | inl same ↦ same_Some x y (sym a.there ∙ ap (slice_get entries) same ∙ b.there)
        | inr (inl less) ↦ absurd (both_ways (may y) (a.last b.place y less b.there b.of_both) b.may)
        | inr (inr more) ↦ absurd (both_ways (may x) (b.last a.place x more a.there a.of_both) a.may)
      ]

  -- what is repeated is remembered
  pub is_remembered : (entries : List Entry) (x : Entry) → Repeats entries x → recalled entries ≡ Some x
  is_remembered entries x is = by_found (recalled entries) refl
    where
      by_found : (o : Option Entry) → recalled entries ≡ o → o ≡ Some x
      by_found None at = absurd (both_ways (may x) (missing entries at is.place x is.there is.of_both is.recent) is.may)
      by_found (Some y) at = ap Some (one_repeated entries y x (is_repeated entries y at) is)

  pub none_remembered : (entries : List Entry) → ((x : Entry) → Repeats entries x → ⊥) → recalled entries ≡ None
  none_remembered entries never = by_found (recalled entries) refl
    where
      by_found : (o : Option Entry) → recalled entries ≡ o → o ≡ None
      by_found None at = refl
      by_found (Some x) at = absurd (never x (is_repeated entries x at))

  pub never_repeated : (entries : List Entry) → recalled entries ≡ None → (x : Entry) → Repeats entries x → ⊥
  never_repeated entries none x is = none-some x (sym none ∙ is_remembered entries x is)
