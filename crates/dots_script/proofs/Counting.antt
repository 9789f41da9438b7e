-- Lists by their places.
use Rattle.std.proofs.Common.{◌≡◌, ℕ, ◌+◌, ◌≤◌, zero, suc, add-one, List, [], ◌∷◌, ◌++◌, take, drop, refl, sym, ap, ◌∙◌, append_assoc, append-nil, arith, Some, flat_map}
use Rattle.std.specs.Prelude.{slice_get}
use Rattle.std.specs.Option.{option_map}
use Rattle.ip_scope.specs.Prefix.{PrefixValue}
use Rattle.dots_settings.specs.declared.domains.DomainRow.{DomainRow}
use Rattle.dots_script.specs.Summary.{prefixes_line}

abbrev rest_of : {A : Type 0} → List A → List A
rest_of [] = []
rest_of (x ∷ xs) = xs

next_by : {A : Type 0} (n : ℕ) (xs : List A) (x : A) (ys : List A) → drop n xs ≡ x ∷ ys → drop (suc n) xs ≡ ys
next_by zero [] x ys is = absurd (cc is)
next_by zero (a ∷ xs) x ys is = ap rest_of is
next_by (suc n) [] x ys is = absurd (cc is)
next_by (suc n) (a ∷ xs) x ys is = next_by n xs x ys is

-- what stands behind one more of the lines
pub drop_next : {A : Type 0} (n : ℕ) (xs : List A) (x : A) (ys zs : List A) → zs ≡ drop n xs → zs ≡ x ∷ ys → ys ≡ drop (n + 1) xs
drop_next n xs x ys zs at first = rw (add-one n) (sym (next_by n xs x ys (sym at ∙ first)))

drop_none : {A : Type 0} (m : ℕ) (xs : List A) → xs ≡ [] → drop m xs ≡ []
drop_none zero xs none = none
drop_none (suc m) [] none = refl
drop_none (suc m) (x ∷ xs) none = absurd (cc none)

-- nothing is left behind the last of the lines
pub drop_beyond : {A : Type 0} (n m : ℕ) (xs : List A) → drop n xs ≡ [] → n ≤ m → drop m xs ≡ []
drop_beyond n m [] none few = drop_none m [] refl
drop_beyond zero m (x ∷ xs) none few = absurd (cc none)
drop_beyond (suc n) zero (x ∷ xs) none few = absurd (omega (arith, few))
drop_beyond (suc n) (suc m) (x ∷ xs) none few = drop_beyond n m xs none (omega (arith, few))

take_by : (n : ℕ) (domains : List DomainRow) (name : List ℕ) (prefixes : List PrefixValue) → option_map (λ domain. domain.name) (slice_get domains n) ≡ Some name
    → option_map (λ domain. domain.prefixes) (slice_get domains n) ≡ Some prefixes
    → flat_map prefixes_line (take (suc n) domains) ≡ flat_map prefixes_line (take n domains) ++ prefixes_line (record { name = name; prefixes = prefixes })
take_by n [] name prefixes is are = absurd (cc is)
take_by zero (domain ∷ domains) name prefixes is are =
    append-nil (prefixes_line domain) ∙ (λ i. prefixes_line (record { name = one_some domain.name name is i; prefixes = one_some domain.prefixes prefixes are i }))
  where
    one_some : {A : Type 0} (x y : A) → Some x ≡ Some y → x ≡ y
    one_some x y same = cc same
take_by (suc n) (domain ∷ domains) name prefixes is are =
    ap (λ (text : List ℕ). prefixes_line domain ++ text) (take_by n domains name prefixes is are)
    ∙ sym (append_assoc (prefixes_line domain) (flat_map prefixes_line (take n domains)) (prefixes_line (record { name = name; prefixes = prefixes })))

-- the lines of the domains, with one more
pub one_more : (n : ℕ) (domains : List DomainRow) (name : List ℕ) (prefixes : List PrefixValue) (old new front : List ℕ)
    → option_map (λ domain. domain.name) (slice_get domains n) ≡ Some name → option_map (λ domain. domain.prefixes) (slice_get domains n) ≡ Some prefixes
    → new ≡ old ++ prefixes_line (record { name = name; prefixes = prefixes }) → old ≡ front ++ flat_map prefixes_line (take n domains)
    → new ≡ front ++ flat_map prefixes_line (take (n + 1) domains)
one_more n domains name prefixes old new front is are added before =
    let line = prefixes_line (record { name = name; prefixes = prefixes }) in
    rw (add-one n) (added ∙ ap (λ (text : List ℕ). text ++ line) before ∙ append_assoc front (flat_map prefixes_line (take n domains)) line
    ∙ ap (λ (text : List ℕ). front ++ text) (sym (take_by n domains name prefixes is are)))
