-- Lists of which some are left out.
use Rattle.std.proofs.Common.{◌≡◌, ◌+◌, ◌≤◌, Bool, true, false, cond, not, List, [], ◌∷◌, ◌++◌, filter, map, inl, inr, refl, sym, ap, ◌∙◌, subst, arith}
use Rattle.std.specs.List.{list_all}
use Rattle.std.proofs.lemmas.Bool.{and_parts, and_from}
use Rattle.dots_history.specs.declared.entry.Entry.{Entry}
use Rattle.dots_history.specs.Entries.{is_held, undoes}
use Rattle.dots_history.specs.Histories.{Mitigation, IsPart, tally, live}
use Rattle.dots_history.specs.Keeping.{moved}
use Rattle.dots_history.specs.declared.status.Status.TheVariants.{Open}
use Rattle.dots_history.specs.Views.{mitigations_with, held_with}
use Rattle.dots_history.proofs.Composing.{part_more, part_append}

pub part_tally : {A : Type 0} (test : A → Bool) (xs ys : List A) → IsPart xs ys → tally test xs ≤ tally test ys
part_tally test [] ys part = omega arith
part_tally test (x ∷ xs) [] part = absurd part
part_tally test (x ∷ xs) (y ∷ ys) (inl part) =
    let go = part_tally test xs ys part.1 in
    subst (λ z. cond (test z) 1 0 + tally test xs ≤ cond (test y) 1 0 + tally test ys) (sym part.0) (omega (arith, go))
part_tally test (x ∷ xs) (y ∷ ys) (inr part) = let go = part_tally test (x ∷ xs) ys part in omega (arith, go)

pub part_list_all : {A : Type 0} (test : A → Bool) (xs ys : List A) → IsPart xs ys → list_all test ys ≡ true → list_all test xs ≡ true
part_list_all test [] ys part all = refl
part_list_all test (x ∷ xs) [] part all = absurd part
part_list_all test (x ∷ xs) (y ∷ ys) (inl part) all =
    let parts = and_parts (test y) (list_all test ys) all in
    and_from (test x) (list_all test xs) (ap test part.0 ∙ parts.0) (part_list_all test xs ys part.1 parts.1)
part_list_all test (x ∷ xs) (y ∷ ys) (inr part) all = part_list_all test (x ∷ xs) ys part (and_parts (test y) (list_all test ys) all).1

pub part_map : {A B : Type 0} (f : A → B) (xs ys : List A) → IsPart xs ys → IsPart (map f xs) (map f ys)
part_map f [] ys part = record {}
part_map f (x ∷ xs) [] part = absurd part
part_map f (x ∷ xs) (y ∷ ys) (inl part) = inl (ap f part.0, part_map f xs ys part.1)
part_map f (x ∷ xs) (y ∷ ys) (inr part) = inr (part_map f (x ∷ xs) ys part)

both_or_none : {A : Type 0} (b : Bool) (y : A) (xs ys : List A) → IsPart xs ys → IsPart (cond b (y ∷ xs) xs) (cond b (y ∷ ys) ys)
both_or_none true y xs ys part = inl (refl, part)
both_or_none false y xs ys part = part

one_or_none : {A : Type 0} (b : Bool) (y : A) (xs ys : List A) → IsPart xs ys → IsPart xs (cond b (y ∷ ys) ys)
one_or_none true y xs ys part = part_more xs y ys part
one_or_none false y xs ys part = part

pub part_filter : {A : Type 0} (test : A → Bool) (xs ys : List A) → IsPart xs ys → IsPart (filter test xs) (filter test ys)
part_filter test [] ys part = record {}
part_filter test (x ∷ xs) [] part = absurd part
part_filter test (x ∷ xs) (y ∷ ys) (inl part) =
    subst
    (λ z. IsPart (filter test (z ∷ xs)) (filter test (y ∷ ys)))
    (sym part.0)
    (both_or_none (test y) y (filter test xs) (filter test ys) (part_filter test xs ys part.1))
part_filter test (x ∷ xs) (y ∷ ys) (inr part) =
    one_or_none (test y) y (filter test (x ∷ xs)) (filter test ys) (part_filter test (x ∷ xs) ys part)

-- with one more entry
pub part_with : (e : Entry) (ms ns : List Mitigation) → IsPart ms ns → IsPart (mitigations_with e ms) (mitigations_with e ns)
part_with e ms ns part =
    part_filter
    (λ (m : Mitigation). live e.time m.put m.status)
    (map (moved e) ms ++ record { put = e; status = Open } ∷ [])
    (map (moved e) ns ++ record { put = e; status = Open } ∷ [])
    (part_append (map (moved e) ms) (map (moved e) ns) (record { put = e; status = Open } ∷ []) (part_map (moved e) ms ns part))

pub part_held_with : (e : Entry) (hs gs : List Entry) → IsPart hs gs → IsPart (held_with e hs) (held_with e gs)
part_held_with e hs gs part =
    part_append
    (filter (λ (x : Entry). not (undoes x e)) hs)
    (filter (λ (x : Entry). not (undoes x e)) gs)
    (cond (is_held e.change) (e ∷ []) [])
    (part_filter (λ (x : Entry). not (undoes x e)) hs gs part)
