use Rattle.std.proofs.Common.{ℕ}
use Rattle.ip_scope.specs.declared.family.Family.{Family}
use Rattle.ip_scope.specs.PrefixText.{IsPrefixText}
use Rattle.ip_scope.proofs.PrefixTexts.{parts_of, if_none_from}
use Rattle.ip_scope.proofs.parse.read.Goals as goal

pub returns-in_err-length-clause-none : goal.returns-in_err-length-clause-none
returns-in_err-length-clause-none c =
    let none : (family : Family) (number len : ℕ) → ¬ (IsPrefixText c.args.text.now family number len) =
    λ family number len is.
    let parts = parts_of c.args.text.now family number len c.in_ok-address.address.now c.in_ok-address.digits.now is c.in_ok-address.ensures.last c.in_ok-address.ensures.found in
    c.in_err-length.ensures.none len parts.three_digits parts.digits in
    if_none_from _ _ none

pub returns-in_err-addr-clause-none : goal.returns-in_err-addr-clause-none
returns-in_err-addr-clause-none c =
    let none : (family : Family) (number len : ℕ) → ¬ (IsPrefixText c.args.text.now family number len) =
    λ family number len is.
    let parts = parts_of c.args.text.now family number len c.in_ok-address.address.now c.in_ok-address.digits.now is c.in_ok-address.ensures.last c.in_ok-address.ensures.found in
    c.in_err-addr.ensures.none family number parts.is_address in
    if_none_from _ _ none
