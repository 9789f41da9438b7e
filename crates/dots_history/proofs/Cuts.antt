-- The front and the rest of a list of entries, at the place of an entry.
use Rattle.std.proofs.Common.{◌≡◌, ℕ, zero, suc, List, [], ◌∷◌, ◌++◌, take, drop, Some, ap}
use Rattle.std.specs.Prelude.{slice_get}
use Rattle.std.proofs.lemmas.Option.{none-some, same_Some}
use Rattle.dots_history.specs.declared.entry.Entry.{Entry}

pub take_push : (i : ℕ) (entries : List Entry) (e : Entry) → slice_get entries i ≡ Some e → take (suc i) entries ≡ take i entries ++ e ∷ []
take_push i [] e found = absurd (none-some e found)
take_push zero (x ∷ entries) e found = ap (λ y. y ∷ []) (same_Some x e found)
take_push (suc i) (x ∷ entries) e found = ap (λ ys. x ∷ ys) (take_push i entries e found)

pub drop_next : (i : ℕ) (entries : List Entry) (e : Entry) → slice_get entries i ≡ Some e → drop i entries ≡ e ∷ drop (suc i) entries
drop_next i [] e found = absurd (none-some e found)
drop_next zero (x ∷ entries) e found = ap (λ y. y ∷ entries) (same_Some x e found)
drop_next (suc i) (x ∷ entries) e found = drop_next i entries e found
