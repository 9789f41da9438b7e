use Rattle.std.proofs.Common.{ℕ, List, ap, ◌∙◌, arith}
use Rattle.conflict_rules.specs.ByMid.{collides}
use Rattle.conflict_rules.specs.Lives.{lives_of}
use Rattle.dots_registry.proofs.Peers.{peers_inside, peers_outside}
use Rattle.dots_registry.proofs.fitting.are_of_peer.Goals as goal

pub returns-then-entry-domains : goal.returns-then-entry-domains
returns-then-entry-domains c = λ entries represents.
    peers_inside
    c.collides.result
    c.args.entry.now
    c.args.live.now.time
    entries
    (c.collides.ensures entries represents
    ∙ ap (λ (cuid : List ℕ). collides (lives_of c.args.entry.now.domain c.args.live.now.time entries) c.args.entry.now.peer cuid) c.bytes.ensures.value)

pub returns : goal.returns
returns c = λ entries represents.
    peers_outside
    c.args.live.now
    c.domains.result
    c.args.entry.now
    entries
    c.domains.ensures
    (omega (arith, c.if-entry-domains.false))
    represents
