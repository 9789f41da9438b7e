use Rattle.ip_scope.proofs.Putting.{Puts-then}
use Rattle.ip_scope.proofs.put.put_dotted.Goals as goal

pub returns-clause-text : goal.returns-clause-text
returns-clause-text c =
    let one = Puts-then _ _ _ _ _ _ _ _ c.put_decimal-end.ensures.text c.put_all-end.ensures in
    let two = Puts-then _ _ _ _ _ _ _ _ one c.put_decimal-end-2.ensures.text in
    let three = Puts-then _ _ _ _ _ _ _ _ two c.put_all-end-2.ensures in
    let four = Puts-then _ _ _ _ _ _ _ _ three c.put_decimal-end-3.ensures.text in
    let five = Puts-then _ _ _ _ _ _ _ _ four c.put_all-end-3.ensures in
    Puts-then _ _ _ _ _ _ _ _ five c.put_decimal.ensures.text
