use Rattle.std.proofs.Common.{take, Option, ap, ◌∙◌, subst}
use Rattle.std.specs.Prelude.{is_some, option_map}
use Rattle.stream_table.specs.Lines.{Line}
use Rattle.stream_table.specs.Places.{NowBuffers, line_at, conn_of, with_more}
use Rattle.dots_server.specs.ServerValues.{ServerValue}
use Rattle.dots_server.proofs.Connecting.{held_lives}
use Rattle.dots_server.proofs.server.Server.hold.Goals as goal

pub take-requires : goal.take-requires
take-requires c = ap (λ (o : Option Line). is_some (option_map conn_of o)) (ap (λ (server : ServerValue). line_at c.args.place server.lines) c.self.view_is ∙ c.requires.1)

pub invariant_of-self : goal.invariant_of-self
invariant_of-self c =
    let old : ServerValue = record { settings = c.self.inside.settings; registry = c.self.inside.ledger.registry; journal = c.self.inside.ledger.journal; watch = c.self.inside.watch; lines = c.self.inside.lines } in
    held_lives c.args.place (with_more (take c.take.result c.args.piece.now)) old c.take.new.self c.requires.0
    (c.take.ensures.held c.requires.0 (ap (λ (server : ServerValue). line_at c.args.place server.lines) c.self.view_is ∙ c.requires.1)) c.self.invariant

pub returns-clause-count : goal.returns-clause-count
returns-clause-count c = λ line there. c.take.ensures.count line (ap (λ (server : ServerValue). line_at c.args.place server.lines) c.self.view_is ∙ there)

pub returns-clause-held : goal.returns-clause-held
returns-clause-held c = λ line there.
    subst (λ (server : ServerValue). NowBuffers c.args.place (with_more (take c.take.result c.args.piece.now)) server.lines c.take.new.self line) c.self.view_is
    (c.take.ensures.held line (ap (λ (server : ServerValue). line_at c.args.place server.lines) c.self.view_is ∙ there))

pub returns-clause-others : goal.returns-clause-others
returns-clause-others c = ap (λ (server : ServerValue). record server { lines = c.take.new.self }) c.self.view_is
