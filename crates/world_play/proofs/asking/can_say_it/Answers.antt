use Rattle.std.proofs.Common.{ap, sym, subst, ◌∙◌}
use Rattle.std.specs.Prelude.{option_map}
use Rattle.dots_client.specs.declared.ask.Ask.{Ask}
use Rattle.dots_client.specs.Client.{IsKnown}
use Rattle.world_play.proofs.AskLemmas.{scope_there}
use Rattle.world_play.proofs.asking.can_say_it.Goals as goal

pub unreachable-requires : goal.unreachable-requires
unreachable-requires c =
    scope_there c.in-Refresh.mid c.args.ledger.now (subst (λ (ask : Ask). IsKnown ask c.args.ledger.now) c.in-Refresh.is c.requires)
    (sym c.scope_in.ensures ∙ ap (option_map (λ scope. scope.now)) c.in-None.is)
