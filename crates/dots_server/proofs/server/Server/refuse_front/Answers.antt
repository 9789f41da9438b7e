use Rattle.std.proofs.Common.{List, ℕ, [], ◌∷◌, subst}
use Rattle.dots_host.specs.declared.out.OwnedOut.TheVariants as owned
use Rattle.dots_host.specs.Runs.{Added}
use Rattle.session_core.specs.Notifying.{SentTo}
use Rattle.session_core.proofs.Sends.{sent_then, keeps_then}
use Rattle.dots_server.proofs.server.Server.refuse_front.Goals as goal

pub returns-clause-sent : goal.returns-clause-sent
returns-clause-sent g c =
    let host = c.args.host.now in
    let between = c.send_reply.new.host in
    let left = c.end_connection.new.host in
    sent_then (g.H.Wire.acts host) (g.H.Wire.acts between) (g.H.Wire.acts left) (g.H.Wire.moment host) (g.H.Wire.moment between) (g.H.Wire.moment left)
    (owned.Conn c.args.conn _ ∷ []) (owned.Close c.args.conn ∷ [])
    (subst (λ (reply : List ℕ). Added (g.H.Wire.acts host) (g.H.Wire.acts between) (SentTo (g.H.Wire.moment host) (g.H.Wire.moment between) (owned.Conn c.args.conn reply ∷ []))) c.refusal-reply.ensures c.send_reply.ensures.acts)
    c.end_connection.ensures.sent

pub returns-clause-media : goal.returns-clause-media
returns-clause-media g c =
    keeps_then (g.H.Disk.media c.args.host.now) (g.H.Disk.media c.send_reply.new.host) (g.H.Disk.media c.end_connection.new.host) c.send_reply.ensures.media c.end_connection.ensures.media

pub returns-clause-leads : goal.returns-clause-leads
returns-clause-leads g c = g.met.H.Wire.leads_then _ _ _ c.send_reply.ensures.leads c.end_connection.ensures.leads
