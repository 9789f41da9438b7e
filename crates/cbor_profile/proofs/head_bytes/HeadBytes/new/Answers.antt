use Rattle.std.proofs.Common.{arith}
use Rattle.cbor_profile.specs.Parts.{number_of}
use Rattle.cbor_profile.proofs.Heads.{array_none, array_one, array_two, array_four, array_eight}
use Rattle.cbor_profile.proofs.head_bytes.HeadBytes.new.Goals as goal

pub returns-then-argument-lt24 : goal.returns-then-argument-lt24
returns-then-argument-lt24 c = array_none c.number-kind.result (number_of c.args.major) c.args.argument c.number-kind.ensures.value (omega arith)

pub returns-then-argument-lt256 : goal.returns-then-argument-lt256
returns-then-argument-lt256 c = array_one c.number-kind.result (number_of c.args.major) c.args.argument c.number-kind.ensures.value (omega arith) (omega arith)

pub returns-then-argument-lt65536 : goal.returns-then-argument-lt65536
returns-then-argument-lt65536 c = array_two c.number-kind.result (number_of c.args.major) c.args.argument c.to_be_bytes.result c.number-kind.ensures.value (omega arith) (omega arith) c.to_be_bytes.ensures

pub returns-then-argument-lt4294967296 : goal.returns-then-argument-lt4294967296
returns-then-argument-lt4294967296 c =
    array_four c.number-kind.result (number_of c.args.major) c.args.argument c.to_be_bytes-then-argument-lt4294967296.result c.number-kind.ensures.value (omega arith) (omega arith)
    c.to_be_bytes-then-argument-lt4294967296.ensures

pub returns : goal.returns
returns c = array_eight c.number-kind.result (number_of c.args.major) c.args.argument c.to_be_bytes-2.result c.number-kind.ensures.value (omega arith) c.to_be_bytes-2.ensures
