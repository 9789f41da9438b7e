-- Items at each place.
use Rattle.std.proofs.Common.{◌≡◌, ℕ, ◌-◌, ◌≤◌, List, [], ◌∷◌, ◌++◌, length, map, take, drop, get_or, Option, Some, None, refl, sym, ap, ◌∙◌, append_assoc, option_map, arith}
use Rattle.std.proofs.lemmas.List.{take_all}
use Rattle.std.specs.Borrow.{Bor}
use Rattle.ip_scope.specs.Prefix.{PrefixValue}
use Rattle.ip_scope.specs.PrefixReader.{prefix_in}
use Rattle.ask_agent.specs.Lines.{all_some}

-- with what was found before
abbrev pub behind : {A : Type 0} → List A → Option (List A) → Option (List A)
behind before found = option_map (λ later. before ++ later) found

pub behind_none : {A : Type 0} (found : Option (List A)) → found ≡ behind [] found
behind_none None = refl
behind_none (Some xs) = refl

-- one more is found
pub behind_more : {A : Type 0} (before : List A) (x : A) (found : Option (List A)) → behind before (option_map (λ later. x ∷ later) found) ≡ behind (before ++ x ∷ []) found
behind_more before x None = refl
behind_more before x (Some xs) = ap Some (sym (append_assoc before (x ∷ []) xs))

-- the prefixes that texts write
abbrev pub written : List (Bor (List ℕ)) → Option (List PrefixValue)
written texts = all_some (map prefix_in (map (λ text. text.now) texts))

written_more : (before : List PrefixValue) (text : Bor (List ℕ)) (texts : List (Bor (List ℕ))) (value : PrefixValue) → Some value ≡ prefix_in text.now
    → behind before (written (text ∷ texts)) ≡ behind (before ++ value ∷ []) (written texts)
written_more before text texts value is = ap (λ o. behind before (all_some (o ∷ map prefix_in (map (λ text. text.now) texts)))) (sym is) ∙ behind_more before value (written texts)

pub one_more : (all : Option (List PrefixValue)) (before : List PrefixValue) (rest : List (Bor (List ℕ))) (other : Bor (List ℕ)) (value : PrefixValue) → all ≡ behind before (written rest)
    → 1 ≤ length rest → Some value ≡ prefix_in (get_or rest 0 other).now → all ≡ behind (before ++ value ∷ []) (written (take (length rest - 1) (drop 1 rest)))
one_more all before [] other value is some reads = absurd (omega arith)
one_more all before (text ∷ texts) other value is some reads =
    is ∙ written_more before text texts value reads ∙ ap (λ ts. behind (before ++ value ∷ []) (written ts)) (sym (take_all (length (text ∷ texts) - 1) texts (omega arith)))
