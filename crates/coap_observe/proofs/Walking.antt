-- Keys that are passed one after the other.
use Rattle.std.proofs.Common.{◌≡◌, ℕ, ◌+◌, ◌<◌, Bool, true, false, cond, List, [], ◌∷◌, length, drop, get_or, drop-cons, add-one, Some, None, refl, sym, ap, ◌∙◌}
use Rattle.std.specs.List.{find}
use Rattle.dots_history.specs.Histories.{tally}

dropped_all : (keys : List ℕ) (place : ℕ) → place ≡ length keys → drop place keys ≡ []
dropped_all keys place is = ap (λ k. drop k keys) is ∙ drop_length keys
  where
    drop_length : (keys : List ℕ) → drop (length keys) keys ≡ []
    drop_length [] = refl
    drop_length (k ∷ keys) = drop_length keys

at_hand : (keys : List ℕ) (place key : ℕ) → place < length keys → key ≡ get_or keys place 0 → drop place keys ≡ key ∷ drop (place + 1) keys
at_hand keys place key less is = drop-cons keys place 0 less ∙ ap (λ n. get_or keys place 0 ∷ drop n keys) (sym (add-one place)) ∙ ap (λ k. k ∷ drop (place + 1) keys) (sym is)

pub found_here : (test : ℕ → Bool) (keys : List ℕ) (place key : ℕ) → place < length keys → key ≡ get_or keys place 0 → test key ≡ true → find test (drop place keys) ≡ Some key
found_here test keys place key less is passes =
    ap (find test) (at_hand keys place key less is)
    ∙ ap (λ b. cond b (Some key) (find test (drop (place + 1) keys))) passes

pub found_later : (test : ℕ → Bool) (keys : List ℕ) (place key : ℕ) → place < length keys → key ≡ get_or keys place 0 → test key ≡ false
    → find test (drop (place + 1) keys) ≡ find test (drop place keys)
found_later test keys place key less is fails =
    sym
    (ap (find test) (at_hand keys place key less is)
    ∙ ap (λ b. cond b (Some key) (find test (drop (place + 1) keys))) fails)

pub found_nowhere : (test : ℕ → Bool) (keys : List ℕ) (place : ℕ) → place ≡ length keys → find test (drop place keys) ≡ None
found_nowhere test keys place is = ap (find test) (dropped_all keys place is)

pub counted_here : (test : ℕ → Bool) (keys : List ℕ) (place key : ℕ) → place < length keys → key ≡ get_or keys place 0
    → tally test (drop place keys) ≡ cond (test key) 1 0 + tally test (drop (place + 1) keys)
counted_here test keys place key less is = ap (tally test) (at_hand keys place key less is)

pub counted_nowhere : (test : ℕ → Bool) (keys : List ℕ) (place : ℕ) → place ≡ length keys → tally test (drop place keys) ≡ 0
counted_nowhere test keys place is = ap (tally test) (dropped_all keys place is)
