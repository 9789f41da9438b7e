-- The lines of the domains, with one more.
use Rattle.std.proofs.Common.{◌≡◌, ℕ, ◌+◌, zero, suc, add-one, List, [], ◌∷◌, ◌++◌, take, sym, ap, ◌∙◌, append_assoc, append-nil, Some}
use Rattle.std.specs.List.{flat_map}
use Rattle.std.specs.Prelude.{slice_get}
use Rattle.std.specs.Option.{option_map}
use Rattle.ip_scope.specs.Prefix.{PrefixValue}
use Rattle.dots_settings.specs.declared.domains.DomainRow.{DomainRow}
use Rattle.host_checks.specs.Findings.{whole_family}

take_by : (n : ℕ) (domains : List DomainRow) (name : List ℕ) (prefixes : List PrefixValue) → option_map (λ domain. domain.name) (slice_get domains n) ≡ Some name
    → option_map (λ domain. domain.prefixes) (slice_get domains n) ≡ Some prefixes
    → flat_map whole_family (take (suc n) domains) ≡ flat_map whole_family (take n domains) ++ whole_family (record { name = name; prefixes = prefixes })
take_by n [] name prefixes is are = absurd (cc is)
take_by zero (domain ∷ domains) name prefixes is are =
    append-nil (whole_family domain) ∙ (λ i. whole_family (record { name = one_some domain.name name is i; prefixes = one_some domain.prefixes prefixes are i }))
  where
    one_some : {A : Type 0} (x y : A) → Some x ≡ Some y → x ≡ y
    one_some x y same = cc same
take_by (suc n) (domain ∷ domains) name prefixes is are =
    ap (λ (text : List ℕ). whole_family domain ++ text) (take_by n domains name prefixes is are)
    ∙ sym (append_assoc (whole_family domain) (flat_map whole_family (take n domains)) (whole_family (record { name = name; prefixes = prefixes })))

pub one_more : (n : ℕ) (domains : List DomainRow) (name : List ℕ) (prefixes : List PrefixValue) (old new front : List ℕ)
    → option_map (λ domain. domain.name) (slice_get domains n) ≡ Some name → option_map (λ domain. domain.prefixes) (slice_get domains n) ≡ Some prefixes
    → new ≡ old ++ whole_family (record { name = name; prefixes = prefixes }) → old ≡ front ++ flat_map whole_family (take n domains)
    → new ≡ front ++ flat_map whole_family (take (n + 1) domains)
one_more n domains name prefixes old new front is are added before =
    let line = whole_family (record { name = name; prefixes = prefixes }) in
    rw (add-one n) (added ∙ ap (λ (text : List ℕ). text ++ line) before ∙ append_assoc front (flat_map whole_family (take n domains)) line
    ∙ ap (λ (text : List ℕ). front ++ text) (sym (take_by n domains name prefixes is are)))
