use Rattle.std.proofs.Common.{◌≡◌, List, Result, Ok, Err, sym, ap, ◌∙◌, subst}
use Rattle.dots_host.specs.Runs.{Added}
use Rattle.stream_table.specs.declared.refused.Refused.{Refused}
use Rattle.stream_table.specs.Lines.{PeerLines, opened, opening}
use Rattle.dots_machine.specs.Machine.{turned_away}
use Rattle.session_core.specs.Notifying.{SentTo}
use Rattle.session_core.proofs.Sends.{sent_none}
use Rattle.dots_server.specs.ServerValues.{ServerValue, IsServing}
use Rattle.dots_server.proofs.Connecting.{with_lines, opened_lives}
use Rattle.dots_server.proofs.server.Server.open_connection.Goals as goal

pub invariant_of-self : goal.invariant_of-self
invariant_of-self g c =
    let old : ServerValue = record { settings = c.self.inside.settings; registry = c.self.inside.ledger.registry; journal = c.self.inside.ledger.journal; watch = c.self.inside.watch; lines = c.self.inside.lines } in
    subst (λ (lines : List PeerLines). IsServing (record old { lines = lines })) (sym c.open.ensures.rows) (opened_lives c.args.peer c.args.conn old c.self.invariant)

pub invariant_of-self-in-Err : goal.invariant_of-self-in-Err
invariant_of-self-in-Err g c =
    let old : ServerValue = record { settings = c.self.inside.settings; registry = c.self.inside.ledger.registry; journal = c.self.inside.ledger.journal; watch = c.self.inside.watch; lines = c.self.inside.lines } in
    subst (λ (lines : List PeerLines). IsServing (record old { lines = lines })) (sym c.open.ensures.rows) (opened_lives c.args.peer c.args.conn old c.self.invariant)

pub returns-in-Ok-clause-lines : goal.returns-in-Ok-clause-lines
returns-in-Ok-clause-lines g c =
    let old : ServerValue = record { settings = c.self.inside.settings; registry = c.self.inside.ledger.registry; journal = c.self.inside.ledger.journal; watch = c.self.inside.watch; lines = c.self.inside.lines } in
    ap (λ (lines : List PeerLines). record old { lines = lines }) c.open.ensures.rows ∙ ap (with_lines (opened c.args.peer c.args.conn)) c.self.view_is

pub returns-in-Ok-clause-sent : goal.returns-in-Ok-clause-sent
returns-in-Ok-clause-sent g c =
    let host = c.args.host.now in
    let answer : Ok tt ≡ opening c.args.peer c.args.conn c.args.self.now.lines = sym c.in-Ok.is ∙ c.open.ensures.answer ∙ ap (λ (server : ServerValue). opening c.args.peer c.args.conn server.lines) c.self.view_is in
    subst (λ (taken : Result Unit Refused). Added (g.H.Wire.acts host) (g.H.Wire.acts host) (SentTo (g.H.Wire.moment host) (g.H.Wire.moment host) (turned_away c.args.conn taken))) answer
    (sent_none (g.H.Wire.acts host) (g.H.Wire.moment host))

pub returns-in-Err-clause-lines : goal.returns-in-Err-clause-lines
returns-in-Err-clause-lines g c =
    let old : ServerValue = record { settings = c.self.inside.settings; registry = c.self.inside.ledger.registry; journal = c.self.inside.ledger.journal; watch = c.self.inside.watch; lines = c.self.inside.lines } in
    ap (λ (lines : List PeerLines). record old { lines = lines }) c.open.ensures.rows ∙ ap (with_lines (opened c.args.peer c.args.conn)) c.self.view_is

pub returns-in-Err-clause-sent : goal.returns-in-Err-clause-sent
returns-in-Err-clause-sent g c =
    let host = c.args.host.now in
    let left = c.close.new.host in
    let answer : Err c.in-Err.field-0 ≡ opening c.args.peer c.args.conn c.args.self.now.lines = sym c.in-Err.is ∙ c.open.ensures.answer ∙ ap (λ (server : ServerValue). opening c.args.peer c.args.conn server.lines) c.self.view_is in
    subst (λ (taken : Result Unit Refused). Added (g.H.Wire.acts host) (g.H.Wire.acts left) (SentTo (g.H.Wire.moment host) (g.H.Wire.moment left) (turned_away c.args.conn taken))) answer c.close.ensures.acts
