use Rattle.std.proofs.Common.{ap, sym, ◌∙◌}
use Rattle.std.specs.List.{position}
use Rattle.coap_block.specs.Blocks.{is_of_peer}
use Rattle.coap_block.proofs.Places.{taken_rest, missing_rest}
use Rattle.coap_block.proofs.observed.drop_oldest.Goals as goal

pub returns-in-Some : goal.returns-in-Some
returns-in-Some c = c.remove-oldest.ensures.items ∙ taken_rest (is_of_peer c.args.peer) c.args.observed.now.items c.in-Some.place (c.in-Some.ensures ∙ ap (position (is_of_peer c.args.peer)) c.as_slice.ensures.value)

pub returns-in_default : goal.returns-in_default
returns-in_default c = missing_rest (is_of_peer c.args.peer) c.args.observed.now.items (sym c.in_default.is ∙ c.place_of.ensures ∙ ap (position (is_of_peer c.args.peer)) c.as_slice.ensures.value)
