use Rattle.std.proofs.Common.{◌≡◌, ◌-◌, length, subst, sym, take, drop}
use Rattle.ip_scope.specs.Prefix.{PrefixValue}
use Rattle.std.proofs.Common.{List}
use Rattle.ask_agent.proofs.Lists.{behind, written, one_more}
use Rattle.ask_agent.proofs.fields.read_prefixes.Goals as goal

pub loop-rest-preserved : goal.loop-rest-preserved
loop-rest-preserved c =
    subst (λ (found : List PrefixValue). written c.args.texts.now ≡ behind found (written (take (length c.loop-rest.rest.now - 1) (drop 1 c.loop-rest.rest.now)))) (sym c.in_ok-push.ensures.ok)
    (one_more _ c.loop-rest.prefixes c.loop-rest.rest.now _ c.in-Ok.prefix c.loop-rest.invariant c.in-len1-up.len_at_least c.in-Ok.ensures.value)
