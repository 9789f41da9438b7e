use Rattle.std.proofs.Common.{◌∙◌, ap, drop, get_or}
use Rattle.std.proofs.lemmas.List.{get_or-take, get_or-drop}
use Rattle.slot_store.proofs.header.stored_digest.Goals as goal

pub returns : goal.returns
returns c = λ place under. ap (λ bytes. get_or bytes place 0) c.copy_from_slice.ensures.after ∙ get_or-take 32 (drop 16 c.args.found.now) place 0 under ∙ get_or-drop 16 c.args.found.now place 0
