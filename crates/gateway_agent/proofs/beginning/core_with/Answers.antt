use Rattle.std.proofs.Common.{ℕ, sym, ap, subst, ◌∙◌, arith}
use Rattle.dots_gateway.specs.Exchanges.{AreRestorable, restored}
use Rattle.dots_gateway.specs.Gateway.{GatewayValue, gateway_at}
use Rattle.dots_gateway.specs.Routes.{routes_of}
use Rattle.gateway_agent.specs.Exchanges.{most_young}
use Rattle.gateway_agent.specs.Passing.{begun}
use Rattle.gateway_agent.proofs.OpeningLemmas.{core_is}
use Rattle.gateway_agent.proofs.beginning.core_with.Goals as goal

pub restore-requires-clause-fresh : goal.restore-requires-clause-fresh
restore-requires-clause-fresh c = ap (λ (g : GatewayValue). g.exchanges.next) c.in_ok-core.ensures

pub restore-requires-clause-room : goal.restore-requires-clause-room
restore-requires-clause-room c =
    let room = ap (λ (g : GatewayValue). g.exchanges.room) c.in_ok-core.ensures in
    let few = c.young.ensures.few in
    let most = c.most_young.ensures.most in
    omega (arith, room, few, most)

pub restore-requires-clause-order : goal.restore-requires-clause-order
restore-requires-clause-order c = subst (λ (n : ℕ). AreRestorable c.young.result.now n) (sym c.requires.next) c.young.ensures.restorable

pub returns : goal.returns
returns c =
    let settings = c.args.settings.now in
    let store = c.args.store.now in
    c.pass_time.ensures
    ∙ ap (gateway_at c.args.at) (c.restore.ensures ∙ ap (λ (g : GatewayValue). record g { exchanges = restored c.young.result.now c.args.next g.exchanges }) c.in_ok-core.ensures)
    ∙ core_is (routes_of settings) c.args.upstream c.most_young.result (most_young store.journal.slots) store.exchanges c.args.at c.args.next c.young.result.now c.requires.store c.young.ensures.young c.requires.next
    ∙ ap (λ (r : ℕ). (begun (routes_of settings) c.args.upstream r store.exchanges c.args.at).core) c.most_young.ensures.most
