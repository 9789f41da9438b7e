-- The head that the code's stands for.
use Rattle.dots_keys.specs.declared.head.Head.{Head}
use Rattle.dots_keys.specs.Heads as heads
use Rattle.dots_keys.specs.OperationValues.{operation_value}

abbrev pub head_value : Head → heads.Head
head_value head = record { operation = operation_value head.operation; content = head.content; observe = head.observe }
