-- A host that hands in no restart: none is seen above either.
use Rattle.std.proofs.Common.{◌≡◌, inl, inr, List, [], ◌∷◌, ◌++◌, Option, refl, sym, subst, ◌∙◌}
use Rattle.dots_host.specs.declared.event.Event.{Event}
use Rattle.dots_host.specs.declared.event.Event.TheVariants as event
use Rattle.dots_host.specs.Acts.{WireAct, took, gave, Timed, wire_acts}
use Rattle.coap_block.specs.Blocks.{Blocks}
use Rattle.coap_block.specs.Around.{SeesEvent, IsSeen, AreSeen, IsSeenFrom}
use Rattle.dots_edge.specs.Edge.{Edge, acts_told}
use Rattle.dots_edge.specs.Edge as edge
use Rattle.dots_edge.specs.Restarts.{IsNoRestart, AreNoRestarts}
use Rattle.dots_machine.specs.Endings.{IsRestart, AnyRestart, NeverRestarts}

restart_came : (came : Event) (old new : Blocks) → SeesEvent came event.Restart old new → came ≡ event.Restart
restart_came (event.Datagram from bytes) old new sees = absurd sees
restart_came event.Restart old new sees = refl
restart_came event.End old new sees = sym sees.0
restart_came event.Failed old new sees = sym sees.0
restart_came (event.Opened conn peer) old new sees = sym sees.0
restart_came (event.Piece conn bytes) old new sees = sym sees.0
restart_came (event.Closed conn) old new sees = sym sees.0
restart_came event.Tick old new sees = sym sees.0

not_seen : (old mid : Blocks) (inner outer : WireAct) → IsSeen old inner outer mid → IsNoRestart inner → IsRestart outer → ⊥
not_seen old mid (took came at) (took event.Restart time) seen never is = subst (λ w. IsNoRestart (took w at)) (restart_came came old mid seen.0) never
not_seen old mid (took came at) (took (event.Datagram from bytes) time) seen never is = is
not_seen old mid (took came at) (took event.End time) seen never is = is
not_seen old mid (took came at) (took event.Failed time) seen never is = is
not_seen old mid (took came at) (took (event.Opened conn peer) time) seen never is = is
not_seen old mid (took came at) (took (event.Piece conn bytes) time) seen never is = is
not_seen old mid (took came at) (took (event.Closed conn) time) seen never is = is
not_seen old mid (took came at) (took event.Tick time) seen never is = is
not_seen old mid (took came at) (gave out done) seen never is = is
not_seen old mid (gave out done) (took came time) seen never is = seen
not_seen old mid (gave out done) (gave given was) seen never is = is

none_seen : (old new : Blocks) (inners outers : List Timed) → AreSeen old inners outers new → AreNoRestarts inners → AnyRestart outers → ⊥
none_seen old new [] [] are never any = any
none_seen old new [] (outer ∷ outers) are never any = are
none_seen old new (inner ∷ inners) [] are never any = are
none_seen old new (inner ∷ inners) (outer ∷ outers) are never (inl here) = not_seen old are.0 inner.act outer.act are.2 never.0 here
none_seen old new (inner ∷ inners) (outer ∷ outers) are never (inr later) = none_seen are.0 new inners outers are.3 never.1 later

same_rest : (front one other : List Timed) → front ++ one ≡ front ++ other → one ≡ other
same_rest [] one other same = same
same_rest (timed ∷ front) one other same = same_rest front one other (cc same)

pub known_seen : (first host : Edge) (seen : Option (List Timed)) → edge.NeverRestarts first host → IsSeenFrom (acts_told first) (acts_told host) seen → NeverRestarts (acts_told first) seen
known_seen first host seen never handed =
    subst (λ acts. NeverRestarts (acts_told first) acts) (sym handed.seen_is) (
      handed.outers,
      refl,
      none_seen _ handed.blocks handed.inners handed.outers handed.are (subst AreNoRestarts (same_rest (wire_acts 0 first.calls) never.0 handed.inners (sym never.1 ∙ handed.inner_is)) never.2),
    )
