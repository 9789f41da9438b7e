-- The texts of a path are short enough for an option.
use Rattle.std.proofs.Common.{◌≡◌, ℕ, ◌≤◌, Bool, true, false, cond, List, [], ◌∷◌, ◌++◌, length, length-append, ap, subst, arith}
use Rattle.std.specs.Prelude.{◌==◌, not, codes, Option, Some, None}
use Rattle.std.proofs.lemmas.Bool.{cond-false, eq-eqb}
use Rattle.std.specs.List.{AllByRecursion}
use Rattle.coap_message.specs.Message.{CoapOption, AreOptions}
use Rattle.dots_keys.specs.Options.{values_of}
use Rattle.dots_keys.specs.Paths.{mitigation, parameter, path_of}
use Rattle.dots_gateway.specs.Forwarding.{without_observe}
use Rattle.dots_gateway.specs.Options.{IsShortBehind}

abbrev pub IsShortValue : List ℕ → Type 0
IsShortValue value = length value ≤ 65804

pub values_short : (number previous : ℕ) (options : List CoapOption) → AreOptions previous options → AllByRecursion IsShortValue (values_of number options)
values_short number previous [] are = tt
values_short number previous (o ∷ os) are = by_test (o.number == number) (values_short number o.number os are.3)
  where
    by_test : (b : Bool) → AllByRecursion IsShortValue (values_of number os) → AllByRecursion IsShortValue (cond b (o.value ∷ values_of number os) (values_of number os))
    by_test true rest = (are.2, rest)
    by_test false rest = rest

all_behind : (xs ys : List (List ℕ)) → AllByRecursion IsShortValue (xs ++ ys) → AllByRecursion IsShortValue ys
all_behind [] ys all = all
all_behind (x ∷ xs) ys all = all_behind xs ys all.1

all_before : (xs ys : List (List ℕ)) → AllByRecursion IsShortValue (xs ++ ys) → AllByRecursion IsShortValue xs
all_before [] ys all = tt
all_before (x ∷ xs) ys all = (all.0, all_before xs ys all.1)

parameter_short : (name : List ℕ) (text : Option (List ℕ)) → AllByRecursion IsShortValue (parameter name text) → IsShortBehind (length name) text
parameter_short name None all = tt
parameter_short name (Some value) all = omega (arith, all.0, length-append name value)

pub texts_short : (options : List CoapOption) (cdid cuid mid : Option (List ℕ)) → AreOptions 0 options → values_of 11 options ≡ path_of (mitigation cdid cuid mid)
    → IsShortBehind 5 cuid × IsShortBehind 4 mid
texts_short options cdid cuid mid are is =
    let all = subst (λ (xs : List (List ℕ)). AllByRecursion IsShortValue xs) is (values_short 11 0 options are) in
    let named = parameter (codes "cdid=") cdid ++ parameter (codes "cuid=") cuid in
    let parameters = all_behind (codes ".well-known" ∷ codes "dots" ∷ codes "mitigate" ∷ []) (named ++ parameter (codes "mid=") mid) all in
    let client = all_behind (parameter (codes "cdid=") cdid) (parameter (codes "cuid=") cuid) (all_before named (parameter (codes "mid=") mid) parameters) in
    (parameter_short (codes "cuid=") cuid client, parameter_short (codes "mid=") mid (all_behind named (parameter (codes "mid=") mid) parameters))

-- ---- options without Observe

pub observe_gone : (o : CoapOption) (os : List CoapOption) → o.number ≡ 6 → without_observe (o ∷ os) ≡ without_observe os
observe_gone o os is = cond-false (not (o.number == 6)) (o ∷ without_observe os) (without_observe os) (ap not (eq-eqb o.number 6 is))

weaker : (p q : ℕ) (os : List CoapOption) → q ≤ p → AreOptions p os → AreOptions q os
weaker p q [] less are = tt
weaker p q (o ∷ os) less are = (omega (arith, less, are.0), are.1, are.2, are.3)

-- options behind one that is left out
pub options_behind : (p : ℕ) (o : CoapOption) (os : List CoapOption) → AreOptions p (o ∷ os) → AreOptions p os
options_behind p o os are = weaker o.number p os are.0 are.3
