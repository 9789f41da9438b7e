use Rattle.std.proofs.Common.{◌∙◌, ap, take}
use Rattle.slot_store.specs.Formats.{seal}
use Rattle.slot_store.proofs.sealing.seal.Goals as goal

pub returns : goal.returns
unfolding seal
returns c = c.copy_from_slice.ensures.after ∙ ap (take 8) c.digest-digest.ensures
