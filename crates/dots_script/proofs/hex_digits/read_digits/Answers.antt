use Rattle.std.proofs.Common.{arith}
use Rattle.hex.proofs.HexLemmas.{decode_of-ok}
use Rattle.dots_script.proofs.hex_digits.read_digits.Goals as goal

pub returns-then-len-eq0-clause-none : goal.returns-then-len-eq0-clause-none
returns-then-len-eq0-clause-none c = λ bytes hex.
    let long = (decode_of-ok _ bytes hex.bytes_are).2 in
    absurd (omega (arith, long, hex.some, c.if-len-eq0.true))

pub returns-then-len-gt-MAX_EVENT_BYTES-clause-none : goal.returns-then-len-gt-MAX_EVENT_BYTES-clause-none
returns-then-len-gt-MAX_EVENT_BYTES-clause-none c = λ bytes hex.
    let long = (decode_of-ok _ bytes hex.bytes_are).2 in
    absurd (omega (arith, long, hex.few, c.if-len-gt-MAX_EVENT_BYTES.true))
