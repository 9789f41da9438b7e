use Rattle.std.proofs.Common.{refl, arith}
use Rattle.dots_client.proofs.Behind.{is_valid}
use Rattle.dots_client.proofs.writing.write_front.Goals as goal

pub encoded_len-requires : goal.encoded_len-requires
encoded_len-requires c = is_valid _ c.parts.ensures.are (omega arith) c.requires refl
