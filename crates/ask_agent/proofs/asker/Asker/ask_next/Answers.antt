use Rattle.std.proofs.Common.{◌≡◌, ◌+◌, true, List, Some, None, sym, ap, subst, append-nil, arith}
use Rattle.std.specs.Prelude.{is_some}
use Rattle.ask_agent.specs.declared.planned.Planned.{Planned}
use Rattle.ask_agent.specs.declared.unsent.Unsent.{Unsent}
use Rattle.ask_agent.specs.Asking.{AskState, Makes, next_ask}
use Rattle.ask_agent.proofs.Asks.{stated, asked_next, next_seen, reached_within}
use Rattle.ask_agent.proofs.asker.Asker.ask_next.Goals as goal

pub returns-in-Some : goal.returns-in-Some
returns-in-Some c =
    let own = c.self.inside in
    let seen = c.self.view_is in
    let fields = stated own.server own.time own.core own.asks own.reached own.unsent.items own.refused in
    let makes = subst (λ (p : Planned). Makes own.core p.ask own.time (Some c.in-Some.why) c.make.new.core) c.index-items-self.is c.in-Some.ensures in
    next_seen _ fields _ seen
    (asked_next fields _ c.items.result.now c.index-items-self.result (Some c.in-Some.why) c.make.new.core (subst (λ (s : AskState). is_some (next_ask s) ≡ true) (sym seen) c.requires) c.items.ensures makes
    (ap (λ (us : List Unsent). stated own.server own.time c.make.new.core own.asks (own.reached + 1) us own.refused) c.push_reserved.ensures.items))

pub invariant_of-self-in-None : goal.invariant_of-self-in-None
invariant_of-self-in-None c =
    let own = c.self.inside in
    let reached = reached_within own.time own.asks own.reached (subst (λ (s : AskState). is_some (next_ask s) ≡ true) (sym c.self.view_is) c.requires) in
    record { within = omega (arith, reached); room = omega (arith, c.self.invariant.room) }

pub returns-in-None : goal.returns-in-None
returns-in-None c =
    let own = c.self.inside in
    let seen = c.self.view_is in
    let fields = stated own.server own.time own.core own.asks own.reached own.unsent.items own.refused in
    let makes = subst (λ (p : Planned). Makes own.core p.ask own.time None c.make.new.core) c.index-items-self.is c.in-None.ensures in
    next_seen _ fields _ seen
    (asked_next fields _ c.items.result.now c.index-items-self.result None c.make.new.core (subst (λ (s : AskState). is_some (next_ask s) ≡ true) (sym seen) c.requires) c.items.ensures makes
    (ap (λ (us : List Unsent). stated own.server own.time c.make.new.core own.asks (own.reached + 1) us own.refused) (sym (append-nil own.unsent.items))))
