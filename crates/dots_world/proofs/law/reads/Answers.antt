use Rattle.dots_world.proofs.ReceivedAs.{read_as, asking_read, withdrawing_read}
use Rattle.dots_world.proofs.law.reads.Goals as goal

pub returns : goal.returns
returns c = record { meant = read_as; asked = asking_read; withdrawn = withdrawing_read }
