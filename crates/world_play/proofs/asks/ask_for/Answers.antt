use Rattle.std.proofs.Common.{◌∙◌, ap, pos}
use Rattle.acl_lists.specs.declared.asked.Asked.{Asked}
use Rattle.dots_client.specs.declared.ask.Ask.TheVariants as ask
use Rattle.world_play.specs.Asks.{scope_at, ask_for}
use Rattle.world_play.proofs.asks.ask_for.Goals as goal

pub returns : goal.returns
unfolding ask_for
returns c = ap (λ (asked : Asked). ask.New asked (pos 600)) (c.in_ok-asked.ensures ∙ ap scope_at c.address_for.ensures)
