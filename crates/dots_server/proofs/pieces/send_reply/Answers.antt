use Rattle.std.proofs.Common.{◌≡◌, ℕ, List, [], ◌∷◌, ◌++◌, length, take, sym, ap, ◌∙◌, subst}
use Rattle.std.proofs.Math.Seq.{take-append_seam}
use Rattle.dots_host.specs.declared.out.OwnedOut.TheVariants as owned
use Rattle.dots_host.specs.Runs.{Added}
use Rattle.session_core.specs.Notifying.{SentTo}
use Rattle.dots_server.proofs.pieces.send_reply.Goals as goal

front_is : (len : ℕ) (reply rest now : List ℕ) → len ≡ length reply → now ≡ reply ++ rest → take len now ≡ reply
front_is len reply rest now size is = ap (take len) is ∙ subst (λ n. take n (reply ++ rest) ≡ reply) (sym size) (take-append_seam reply rest)

pub returns-clause-acts : goal.returns-clause-acts
returns-clause-acts g c =
    let host = c.args.host.now in
    let left = c.send_on.new.host in
    subst (λ (reply : List ℕ). Added (g.H.Wire.acts host) (g.H.Wire.acts left) (SentTo (g.H.Wire.moment host) (g.H.Wire.moment left) (owned.Conn c.args.conn reply ∷ [])))
    (front_is c.write-len.result c.args.reply.now _ _ c.write-len.ensures.len c.write-len.ensures.written)
    c.send_on.ensures.acts
