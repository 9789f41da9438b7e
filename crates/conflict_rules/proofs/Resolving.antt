-- One target more of those whose prefixes are resolved.
use Rattle.std.proofs.Common.{◌≡◌, ℕ, suc, ◌+◌, ◌*◌, ◌^◌, ◌<◌, Bool, List, [], ◌∷◌, ◌++◌, refl, length, map, drop, get_or, drop-cons, add-one, sym, ap, ◌∙◌, arith, length-append}
use Rattle.ip_scope.specs.Prefix.{PrefixValue}
use Rattle.dots_history.specs.declared.put.Target.{Target}
use Rattle.dots_history.specs.Bounds.{prefix_count}
use Rattle.conflict_rules.specs.ByOverlap.{bits, resolved}
use Rattle.conflict_rules.proofs.Bits.{part_more}

-- the prefixes of this target, and those of the targets behind it
resolved_from : (x : Target) (targets : List Target) (index : ℕ) (prefixes : List PrefixValue)
    → index < length targets → x ≡ get_or targets index x → prefixes ≡ x.prefixes
    → prefixes ++ resolved (drop (index + 1) targets) ≡ resolved (drop index targets)
resolved_from x targets index prefixes below is its =
    let rest : List Target = drop (suc index) targets in
    let front : drop index targets ≡ x ∷ rest = drop-cons targets index x below ∙ ap (λ y. y ∷ rest) (sym is) in
    ap (λ n. prefixes ++ resolved (drop n targets)) (add-one index) ∙ ap (λ ps. ps ++ resolved rest) its ∙ sym (ap resolved front)

pub target_marked : (test : PrefixValue → Bool) (x : Target) (targets : List Target) (prefixes : List PrefixValue) (place index marks mark all : ℕ)
    → index < length targets → x ≡ get_or targets index x → prefixes ≡ x.prefixes
    → mark ≡ 2 ^ place * bits (map test prefixes)
    → marks + 2 ^ place * bits (map test (resolved (drop index targets))) ≡ all
    → marks + mark + 2 ^ (place + length prefixes) * bits (map test (resolved (drop (index + 1) targets))) ≡ all
target_marked test x targets prefixes place index marks mark all below is its marked so_far =
    part_more test prefixes (resolved (drop (index + 1) targets)) place marks mark all marked
    (ap (λ ps. marks + 2 ^ place * bits (map test ps)) (resolved_from x targets index prefixes below is its) ∙ so_far)

pub target_passed : (x : Target) (targets : List Target) (prefixes : List PrefixValue) (place index total : ℕ)
    → index < length targets → x ≡ get_or targets index x → prefixes ≡ x.prefixes
    → place + prefix_count (drop index targets) ≡ total
    → place + length prefixes + prefix_count (drop (index + 1) targets) ≡ total
target_passed x targets prefixes place index total below is its so_far =
    let rest : List Target = drop (suc index) targets in
    let front : drop index targets ≡ x ∷ rest = drop-cons targets index x below ∙ ap (λ y. y ∷ rest) (sym is) in
    let whole : prefix_count (drop index targets) ≡ length x.prefixes + prefix_count rest = ap prefix_count front in
    let behind : prefix_count (drop (index + 1) targets) ≡ prefix_count rest = ap (λ n. prefix_count (drop n targets)) (add-one index) in
    let size : length prefixes ≡ length x.prefixes = ap length its in
    omega (arith, whole, behind, size, so_far)

-- as many as the targets have
pub resolved_count : (targets : List Target) → length (resolved targets) ≡ prefix_count targets
resolved_count [] = refl
resolved_count (x ∷ xs) = length-append x.prefixes (resolved xs) ∙ ap (λ n. length x.prefixes + n) (resolved_count xs)
