use Rattle.std.proofs.Common.{sym, ap, ◌∙◌, subst}
use Rattle.dots_registry.specs.RegistryValues.{RegistryValue, IsOf}
use Rattle.stream_table.specs.Places.{IsAt, line_at}
use Rattle.stream_table.proofs.Placing.{is_there}
use Rattle.dots_data.specs.Accepting.{IsInUse, FrontCanBeCarriedOut}
use Rattle.dots_server.specs.ServerValues.{ServerValue}
use Rattle.dots_server.specs.Pieces.{CanAnswerFront}
use Rattle.dots_server.proofs.FrontsInUse.{in_use, can_answer, stands_there}
use Rattle.dots_server.proofs.server.Server.front_at.Goals as goal

pub caller_there-caller-requires-clause-there : goal.caller_there-caller-requires-clause-there
caller_there-caller-requires-clause-there c = (c.requires.0, subst (λ (server : ServerValue). IsAt c.requires.0 c.args.place server.lines) (sym c.self.view_is) c.requires.1)

pub caller_there-caller-requires-clause-rows : goal.caller_there-caller-requires-clause-rows
caller_there-caller-requires-clause-rows c = c.self.invariant.rows

pub front-requires-clause-is_of : goal.front-requires-clause-is_of
front-requires-clause-is_of c = subst (λ (tables : RegistryValue). IsOf c.self.inside.settings tables) (sym c.registry.ensures) c.self.invariant.represents.represents.is_of

pub front-requires-clause-in_use : goal.front-requires-clause-in_use
front-requires-clause-in_use c =
    let old : ServerValue = record { settings = c.self.inside.settings; registry = c.self.inside.ledger.registry; journal = c.self.inside.ledger.journal; watch = c.self.inside.watch; lines = c.self.inside.lines } in
    subst (λ (tables : RegistryValue). IsInUse old.settings tables) (sym c.registry.ensures) (in_use old c.self.invariant)

pub front-requires-clause-acts : goal.front-requires-clause-acts
front-requires-clause-acts c = c.caller_there-caller.ensures.acts

pub front-requires-clause-there : goal.front-requires-clause-there
front-requires-clause-there c = is_there c.requires.0 c.args.place c.self.inside.lines (subst (λ (server : ServerValue). IsAt c.requires.0 c.args.place server.lines) (sym c.self.view_is) c.requires.1)

pub invariant_of-self : goal.invariant_of-self
invariant_of-self c = c.self.invariant

pub returns-clause-stands : goal.returns-clause-stands
returns-clause-stands c = λ conn at settings state represents.
    let old : ServerValue = record { settings = c.self.inside.settings; registry = c.self.inside.ledger.registry; journal = c.self.inside.ledger.journal; watch = c.self.inside.watch; lines = c.self.inside.lines } in
    stands_there old c.args.self.now c.self.view_is c.registry.result.now c.registry.ensures conn c.args.place at c.caller_there-caller.result c.front.result
    (c.caller_there-caller.ensures.caller conn (subst (λ (server : ServerValue). IsAt conn c.args.place server.lines) (sym c.self.view_is) at))
    c.front.ensures.stands settings state represents

pub returns-clause-room : goal.returns-clause-room
returns-clause-room c = λ line there waiting. c.front.ensures.room line (ap (λ (server : ServerValue). line_at c.args.place server.lines) c.self.view_is ∙ there) waiting

pub returns-clause-size : goal.returns-clause-size
returns-clause-size c = λ line there. c.front.ensures.size line (ap (λ (server : ServerValue). line_at c.args.place server.lines) c.self.view_is ∙ there)

pub returns-clause-ready : goal.returns-clause-ready
returns-clause-ready c =
    let old : ServerValue = record { settings = c.self.inside.settings; registry = c.self.inside.ledger.registry; journal = c.self.inside.ledger.journal; watch = c.self.inside.watch; lines = c.self.inside.lines } in
    subst (λ (server : ServerValue). CanAnswerFront c.front.result server) c.self.view_is
    (can_answer old c.front.result (subst (λ (tables : RegistryValue). FrontCanBeCarriedOut old.settings tables c.front.result) c.registry.ensures c.front.ensures.ready))

pub returns-clause-same : goal.returns-clause-same
returns-clause-same c = c.self.view_is
