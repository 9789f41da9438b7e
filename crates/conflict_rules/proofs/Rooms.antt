-- How many prefixes the targets of what is asked have together.
use Rattle.std.proofs.Common.{◌≡◌, ℕ, suc, ◌+◌, ◌<◌, List, [], ◌∷◌, ◌++◌, refl, cond, length, drop, get_or, drop-cons, add-one, flat_map, sym, ap, ◌∙◌, arith, length-append}
use Rattle.ip_scope.specs.Prefix.{PrefixValue}
use Rattle.acl_lists.specs.declared.alias.Alias.{Alias}
use Rattle.acl_lists.specs.declared.asked.Asked.{Asked}
use Rattle.dots_settings.specs.Settings.{SettingsValue}
use Rattle.dots_settings.specs.Lookups.{addresses_of}
use Rattle.dots_history.specs.declared.put.Target.{Target}
use Rattle.dots_history.specs.Bounds.{prefix_count}
use Rattle.dots_history.specs.Histories.{is_nil}
use Rattle.conflict_rules.specs.Targets.{prefixes_asked, own_target, alias_target, targets_of}

count_append : (xs ys : List Target) → prefix_count (xs ++ ys) ≡ prefix_count xs + prefix_count ys
count_append [] ys = omega arith
count_append (x ∷ xs) ys = let rest = count_append xs ys in omega (arith, rest)

-- that of a request itself
own_count : (settings : SettingsValue) (asked : Asked) → prefix_count (own_target settings asked) ≡ length (prefixes_asked settings asked)
own_count settings asked = by_prefixes (prefixes_asked settings asked)
  where
    by_prefixes : (ps : List PrefixValue)
        → prefix_count (cond (is_nil ps) [] (record { prefixes = ps; ports = asked.ports; protocols = asked.protocols } ∷ [])) ≡ length ps
    by_prefixes [] = refl
    by_prefixes (p ∷ ps) = omega arith

-- that of a request itself, and those of its aliases
pub whole_count : (settings : SettingsValue) (aliases : List Alias) (asked : Asked)
    → prefix_count (targets_of settings aliases asked)
    ≡ length (prefixes_asked settings asked) + prefix_count (flat_map (alias_target settings aliases) asked.aliases)
whole_count settings aliases asked =
    count_append (own_target settings asked) (flat_map (alias_target settings aliases) asked.aliases)
    ∙ ap (λ n. n + prefix_count (flat_map (alias_target settings aliases) asked.aliases)) (own_count settings asked)

pub asked_count : (settings : SettingsValue) (asked : Asked)
    → length (prefixes_asked settings asked) ≡ length asked.prefixes + length (flat_map (addresses_of settings) asked.names)
asked_count settings asked = length-append asked.prefixes (flat_map (addresses_of settings) asked.names)

-- one name, and those behind it
pub names_count : (f : List ℕ → List Target) (x : List ℕ) (names : List (List ℕ)) (index : ℕ) → index < length names → x ≡ get_or names index x
    → prefix_count (flat_map f (drop index names)) ≡ prefix_count (f x) + prefix_count (flat_map f (drop (index + 1) names))
names_count f x names index below is =
    let rest : List (List ℕ) = drop (suc index) names in
    let front : drop index names ≡ x ∷ rest = drop-cons names index x below ∙ ap (λ y. y ∷ rest) (sym is) in
    ap (λ ns. prefix_count (flat_map f ns)) front
    ∙ count_append (f x) (flat_map f rest)
    ∙ ap (λ n. prefix_count (f x) + prefix_count (flat_map f (drop n names))) (sym (add-one index))

pub addresses_count : (f : List ℕ → List PrefixValue) (x : List ℕ) (names : List (List ℕ)) (index : ℕ) → index < length names → x ≡ get_or names index x
    → length (flat_map f (drop index names)) ≡ length (f x) + length (flat_map f (drop (index + 1) names))
addresses_count f x names index below is =
    let rest : List (List ℕ) = drop (suc index) names in
    let front : drop index names ≡ x ∷ rest = drop-cons names index x below ∙ ap (λ y. y ∷ rest) (sym is) in
    ap (λ ns. length (flat_map f ns)) front
    ∙ length-append (f x) (flat_map f rest)
    ∙ ap (λ n. length (f x) + length (flat_map f (drop n names))) (sym (add-one index))
