-- The host names of a file, one more at a time.
use Rattle.std.proofs.Common.{◌≡◌, ℕ, Bool, true, false, cond, not, ◌||◌, List, [], ◌∷◌, ◌++◌, map, filter, refl, sym, ap, ◌∙◌, append-nil, true≢false, if◌then◌else◌}
use Rattle.std.proofs.lemmas.List.Elements.{filter-append}
use Rattle.std.proofs.lemmas.Slice.Eq.{bytes_eq-Decides}
use Rattle.std.specs.Char.{to_ascii_lowercase}
use Rattle.std.specs.List.{list_any}
use Rattle.dots_settings.specs.Draft.{same_name, firsts_of}

pub same_then : (one other : List ℕ) → same_name one other ≡ true → map to_ascii_lowercase one ≡ map to_ascii_lowercase other
same_then one other is = (bytes_eq-Decides (map to_ascii_lowercase one) (map to_ascii_lowercase other)).0 is

then_same : (one other : List ℕ) → map to_ascii_lowercase one ≡ map to_ascii_lowercase other → same_name one other ≡ true
then_same one other is = (bytes_eq-Decides (map to_ascii_lowercase one) (map to_ascii_lowercase other)).1 is

pub same_turned : (one other : List ℕ) (b : Bool) → same_name one other ≡ b → same_name other one ≡ b
same_turned one other true is = then_same other one (sym (same_then one other is))
same_turned one other false is = by (same_name other one) refl
  where
    by : (b : Bool) → same_name other one ≡ b → b ≡ false
    by false e = refl
    by true e = absurd (true≢false (sym (then_same one other (sym (same_then other one e))) ∙ is))

-- what is the same as the second isn't the same as the first, where these two differ
pub same_no_more : (new old other : List ℕ) → same_name new old ≡ false → same_name old other ≡ true → same_name new other ≡ false
same_no_more new old other differ same = by (same_name new other) refl
  where
    by : (b : Bool) → same_name new other ≡ b → b ≡ false
    by false e = refl
    by true e = absurd (true≢false (sym (then_same new old (same_then new other e ∙ sym (same_then old other same))) ∙ differ))

-- names that are the same as another are of no account in the search for one that differs from it
any_among_others : (new old : List ℕ) (names : List (List ℕ)) → same_name new old ≡ false
    → list_any (same_name new) (filter (λ other. not (same_name old other)) names) ≡ list_any (same_name new) names
any_among_others new old [] differ = refl
any_among_others new old (first ∷ names) differ = by (any_among_others new old names differ) (same_name old first) refl
  where
    by : list_any (same_name new) (filter (λ other. not (same_name old other)) names) ≡ list_any (same_name new) names → (b : Bool) → same_name old first ≡ b
        → list_any (same_name new) (cond (not b) (first ∷ filter (λ other. not (same_name old other)) names) (filter (λ other. not (same_name old other)) names))
        ≡ (same_name new first || list_any (same_name new) names)
    by rest false e = ap (λ b. same_name new first || b) rest
    by rest true e = rest ∙ sym (ap (λ b. b || list_any (same_name new) names) (same_no_more new old first differ e))

same_goes : (firsts : List (List ℕ)) (old new : List ℕ) → same_name new old ≡ true → (known : Bool)
    → old ∷ filter (λ other. not (same_name old other)) (if known then firsts else firsts ++ new ∷ []) ≡ old ∷ filter (λ other. not (same_name old other)) firsts
same_goes firsts old new e true = refl
same_goes firsts old new e false = ap (λ xs. old ∷ xs)
    (filter-append (λ other. not (same_name old other)) firsts (new ∷ [])
    ∙ ap (λ b. filter (λ other. not (same_name old other)) firsts ++ cond (not b) (new ∷ []) []) (same_turned new old true e)
    ∙ append-nil (filter (λ other. not (same_name old other)) firsts))

other_stays : (firsts : List (List ℕ)) (old new : List ℕ) → same_name new old ≡ false → (known : Bool)
    → old ∷ filter (λ other. not (same_name old other)) (if known then firsts else firsts ++ new ∷ [])
    ≡ (if known then old ∷ filter (λ other. not (same_name old other)) firsts else (old ∷ filter (λ other. not (same_name old other)) firsts) ++ new ∷ [])
other_stays firsts old new e true = refl
other_stays firsts old new e false = ap (λ xs. old ∷ xs)
    (filter-append (λ other. not (same_name old other)) firsts (new ∷ [])
    ∙ ap (λ b. filter (λ other. not (same_name old other)) firsts ++ cond (not b) (new ∷ []) []) (same_turned new old false e))

step : (firsts : List (List ℕ)) (old new : List ℕ) (b : Bool) → same_name new old ≡ b
    → old ∷ filter (λ other. not (same_name old other)) (if list_any (same_name new) firsts then firsts else firsts ++ new ∷ [])
    ≡ (if (b || list_any (same_name new) (filter (λ other. not (same_name old other)) firsts)) then old ∷ filter (λ other. not (same_name old other)) firsts
    else (old ∷ filter (λ other. not (same_name old other)) firsts) ++ new ∷ [])
step firsts old new true e = same_goes firsts old new e (list_any (same_name new) firsts)
step firsts old new false e = other_stays firsts old new e (list_any (same_name new) firsts)
    ∙ sym (ap (λ b. if b then old ∷ filter (λ other. not (same_name old other)) firsts else (old ∷ filter (λ other. not (same_name old other)) firsts) ++ new ∷ []) (any_among_others new old firsts e))

-- a new name goes last, unless one before is the same
pub firsts_then : (names : List (List ℕ)) (new : List ℕ)
    → firsts_of (names ++ new ∷ []) ≡ (if list_any (same_name new) (firsts_of names) then firsts_of names else firsts_of names ++ new ∷ [])
firsts_then [] new = refl
firsts_then (old ∷ names) new = ap (λ xs. old ∷ filter (λ other. not (same_name old other)) xs) (firsts_then names new) ∙ step (firsts_of names) old new (same_name new old) refl
