use Rattle.std.proofs.Common.{[], ◌∷◌, List, ℕ, refl, sym, ap, subst, ◌∙◌}
use Rattle.std.proofs.lemmas.Bool.{false≢true}
use Rattle.dots_keys.specs.declared.exchange.Exchange.{Exchange}
use Rattle.dots_keys.specs.Exchanges.{is_request}
use Rattle.dots_keys.specs.Replies.{plain}
use Rattle.dots_host.specs.declared.out.OwnedOut.TheVariants as owned
use Rattle.dots_host.specs.Runs.{Added, Gives}
use Rattle.dots_host.proofs.RunLemmas.{added_none}
use Rattle.dots_gateway.proofs.Steps.{err_ok}
use Rattle.gateway_agent.specs.Passing.{answered, silent}
use Rattle.gateway_agent.proofs.Fresh.{ok_same}
use Rattle.gateway_agent.proofs.refusing.refuse.Goals as goal

pub returns-in_default-clause-refuses : goal.returns-in_default-clause-refuses
returns-in_default-clause-refuses g c = (
  [],
  silent (λ m is spelled asks. err_ok (c.in_default.ensures.only m is spelled)) refl,
  added_none _ (Gives (g.W.Wire.moment c.args.wire.now) []) tt,
)

pub returns-then-not-is_request-clause-refuses : goal.returns-then-not-is_request-clause-refuses
returns-then-not-is_request-clause-refuses g c = (
  [],
  silent (λ m is spelled asks. false≢true (c.if-not-is_request.ensures ∙ ap is_request (ok_same (c.in-Ok.ensures.only m is spelled)) ∙ asks)) refl,
  added_none _ (Gives (g.W.Wire.moment c.args.wire.now) []) tt,
)

pub returns-clause-refuses : goal.returns-clause-refuses
returns-clause-refuses g c = (
  _,
  answered c.in-Ok.message c.in-Ok.ensures.found.0 c.in-Ok.ensures.found.1 (sym c.if-not-is_request.ensures) refl,
  subst (λ (bytes : List ℕ). Added (g.W.Wire.acts c.args.wire.now) (g.W.Wire.acts c.send_to.new.wire) (Gives (g.W.Wire.moment c.args.wire.now) (owned.To c.args.peer bytes ∷ [])))
      (c.bytes.ensures.value ∙ c.plain-reply.ensures ∙ ap (λ (x : Exchange). plain c.args.code x c.args.text.now) c.of.ensures)
      c.send_to.ensures.gives,
)
