-- Where no block is asked for and no payload is long, what is seen above is what is inside.
use Rattle.std.proofs.Common.{inl, inr, ◌≡◌, ℕ, ◌≤◌, true, List, [], ◌∷◌, length, Option, Some, None, refl, sym, ap, subst, ◌∙◌}
use Rattle.std.specs.Prelude.{Bool, nat_lt, nat_le}
use Rattle.std.proofs.lemmas.Bool.{cases_Bool, le-leb}
use Rattle.coap_message.specs.Message.{CoapMessage, spelling}
use Rattle.dots_host.specs.declared.event.Event.{Event}
use Rattle.dots_host.specs.declared.event.Event.TheVariants as event
use Rattle.dots_host.specs.declared.out.OwnedOut.{OwnedOut}
use Rattle.dots_host.specs.declared.out.OwnedOut.TheVariants as owned
use Rattle.dots_host.specs.Acts.{Timed, WireAct, took, gave}
use Rattle.coap_block.specs.declared.stored.StoredBody.{StoredBody}
use Rattle.coap_block.specs.Blocks.{Asked, Blocks, blocks_in, is_get, seen_of, awaited_by, Sees, Sends, same, IsAnswered, answer_of, head_size}
use Rattle.coap_block.proofs.Notices.{short_notice}
use Rattle.coap_block.specs.Around.{SeesEvent, SendsOut, IsSeen, AreSeen, AsksNoBlock, IsShort, IsPlain, ArePlain, no_blocks}

-- no reply is awaited of which a block was asked for
abbrev AwaitsWhole : Option Asked → Type 0
AwaitsWhole awaited = (asked : Asked) → awaited ≡ Some asked → asked.block ≡ None

awaits_none : AwaitsWhole None
awaits_none asked is = absurd (cc is)

seen_same : (m : CoapMessage) → blocks_in m.options ≡ [] → seen_of m ≡ m
seen_same m none = elim (cases_Bool (is_get m)) [
  | inl get ↦ rw (get, none) refl
  | inr other ↦ rw other refl
]

some_once : (one other : Asked) → Some one ≡ Some other → one ≡ other
some_once one other is = cc is

awaits_whole : (peer : ℕ) (m : CoapMessage) → blocks_in m.options ≡ [] → AwaitsWhole (awaited_by peer m)
awaits_whole peer m none asked is = elim (cases_Bool (is_get m)) [
  | inl get ↦ sym (ap (λ asked. asked.block) (some_once _ asked (rw (get, none) at is)))
  | inr other ↦ absurd (cc (rw other at is))
]

sees_same : (peer : ℕ) (bytes seen : List ℕ) (awaited : Option Asked) → AsksNoBlock bytes → Sees peer bytes seen awaited → (seen ≡ bytes) × AwaitsWhole awaited
sees_same peer bytes seen awaited plain (inl m) =
    let none = plain m.message m.is m.spells in
    (m.seen_as ∙ ap spelling (seen_same m.message none) ∙ sym m.spells, subst AwaitsWhole (sym m.awaits) (awaits_whole peer m.message none))
sees_same peer bytes seen awaited plain (inr unread) = (unread.1, subst AwaitsWhole (sym unread.2) awaits_none)

answered_whole : (stored : List StoredBody) (asked : Asked) (m : CoapMessage) → asked.block ≡ None → length m.payload ≤ 1024 → answer_of stored asked m ≡ same
answered_whole stored asked m none short =
    let fits : nat_le (length m.payload) 1024 ≡ true = le-leb (length m.payload) 1024 short in
    elim (cases_Bool (nat_lt 1024 (head_size m))) [
      | inl long ↦ rw long refl
      | inr other ↦ rw (other, none, fits) refl
    ]

sends_same : (old : Blocks) (peer : ℕ) (bytes leaves : List ℕ) (new : Blocks) → AwaitsWhole old.awaited → IsShort bytes → Sends old peer bytes leaves new → (bytes ≡ leaves) × AwaitsWhole new.awaited
sends_same old peer bytes leaves new whole short (inl reply) =
    let stays = answered_whole old.stored reply.asked reply.message (whole reply.asked reply.awaited) (short reply.message reply.is reply.spells) in
    let left = subst (λ answer. IsAnswered answer reply.asked reply.message old.stored leaves new.stored) stays reply.answered in
    (reply.spells ∙ sym left.0, subst AwaitsWhole (sym reply.over) awaits_none)
sends_same old peer bytes leaves new whole short (inr (inl notice)) = absurd (short_notice old.observed peer notice.message notice.observed notice.of (short notice.message notice.is notice.spells))
sends_same old peer bytes leaves new whole short (inr (inr other)) = (sym other.1, subst (λ blocks. AwaitsWhole blocks.awaited) (sym other.2) whole)

took_same : (old new : Blocks) (came seen : Event) (at time : ℕ) → seen ≡ came → time ≡ at → new ≡ record old { awaited = None } → (took seen time ≡ took came at) × AwaitsWhole new.awaited
took_same old new came seen at time is now over = (ap (λ e. took e time) is ∙ ap (λ t. took came t) now, subst (λ blocks. AwaitsWhole blocks.awaited) (sym over) awaits_none)

event_same : (old new : Blocks) (came seen : Event) (at time : ℕ) → IsPlain (took came at) (took seen time) → SeesEvent came seen old new → time ≡ at → (took seen time ≡ took came at) × AwaitsWhole new.awaited
event_same old new (event.Datagram from bytes) (event.Datagram by seen) at time plain sees now =
    let read = sees_same from bytes seen new.awaited plain sees.1 in
    (ap (λ peer. took (event.Datagram peer seen) time) sees.0 ∙ ap (λ text. took (event.Datagram from text) time) read.0 ∙ ap (λ t. took (event.Datagram from bytes) t) now, read.1)
event_same old new (event.Datagram from bytes) (event.Opened c f) at time plain sees now = absurd sees
event_same old new (event.Datagram from bytes) (event.Piece c b) at time plain sees now = absurd sees
event_same old new (event.Datagram from bytes) (event.Closed c) at time plain sees now = absurd sees
event_same old new (event.Datagram from bytes) event.Tick at time plain sees now = absurd sees
event_same old new (event.Datagram from bytes) event.Restart at time plain sees now = absurd sees
event_same old new (event.Datagram from bytes) event.End at time plain sees now = absurd sees
event_same old new (event.Datagram from bytes) event.Failed at time plain sees now = absurd sees
event_same old new event.Restart seen at time plain sees now =
    (ap (λ e. took e time) sees.0 ∙ ap (λ t. took event.Restart t) now, subst (λ blocks. AwaitsWhole blocks.awaited) (sym sees.1) awaits_none)
event_same old new (event.Opened c f) seen at time plain sees now = took_same old new (event.Opened c f) seen at time sees.0 now sees.1
event_same old new (event.Piece c b) seen at time plain sees now = took_same old new (event.Piece c b) seen at time sees.0 now sees.1
event_same old new (event.Closed c) seen at time plain sees now = took_same old new (event.Closed c) seen at time sees.0 now sees.1
event_same old new event.Tick seen at time plain sees now = took_same old new event.Tick seen at time sees.0 now sees.1
event_same old new event.End seen at time plain sees now = took_same old new event.End seen at time sees.0 now sees.1
event_same old new event.Failed seen at time plain sees now = took_same old new event.Failed seen at time sees.0 now sees.1

gave_same : (old new : Blocks) (leaves given : OwnedOut) (done was : Bool) → AwaitsWhole old.awaited → given ≡ leaves → was ≡ done → new ≡ old → (gave given was ≡ gave leaves done) × AwaitsWhole new.awaited
gave_same old new leaves given done was whole is now still = (ap (λ out. gave out was) is ∙ ap (gave leaves) now, subst (λ blocks. AwaitsWhole blocks.awaited) (sym still) whole)

out_same : (old new : Blocks) (leaves given : OwnedOut) (done was : Bool) → AwaitsWhole old.awaited → IsPlain (gave leaves done) (gave given was) → SendsOut given leaves old new → was ≡ done
    → (gave given was ≡ gave leaves done) × AwaitsWhole new.awaited
out_same old new (owned.To to leaves) (owned.To peer bytes) done was whole plain sends now =
    let left = sends_same old peer bytes leaves new whole plain sends.1 in
    (ap (λ p. gave (owned.To p bytes) was) (sym sends.0) ∙ ap (λ text. gave (owned.To to text) was) left.0 ∙ ap (gave (owned.To to leaves)) now, left.1)
out_same old new (owned.Conn c b) (owned.To peer bytes) done was whole plain sends now = absurd sends
out_same old new (owned.Close c) (owned.To peer bytes) done was whole plain sends now = absurd sends
out_same old new leaves (owned.Conn c b) done was whole plain sends now = gave_same old new leaves (owned.Conn c b) done was whole (sym sends.0) now sends.1
out_same old new leaves (owned.Close c) done was whole plain sends now = gave_same old new leaves (owned.Close c) done was whole (sym sends.0) now sends.1

act_same : (old new : Blocks) (inner outer : WireAct) → AwaitsWhole old.awaited → IsPlain inner outer → IsSeen old inner outer new → (outer ≡ inner) × AwaitsWhole new.awaited
act_same old new (took came at) (took seen time) whole plain is = event_same old new came seen at time plain is.0 is.1
act_same old new (gave leaves done) (gave given was) whole plain is = out_same old new leaves given done was whole plain is.0 is.1
act_same old new (took came at) (gave given was) whole plain is = absurd is
act_same old new (gave leaves done) (took seen time) whole plain is = absurd is

timed_same : (inner outer : Timed) → outer.moment ≡ inner.moment → outer.act ≡ inner.act → outer ≡ inner
timed_same inner outer moment act = ap (λ m. record { moment = m; act = outer.act }) moment ∙ ap (λ (a : WireAct). record { moment = inner.moment; act = a }) act

same_since : (old : Blocks) (inners outers : List Timed) (new : Blocks) → AwaitsWhole old.awaited → AreSeen old inners outers new → ArePlain inners outers → outers ≡ inners
same_since old [] [] new whole are plain = refl
same_since old [] (o ∷ outers) new whole are plain = absurd are
same_since old (i ∷ inners) [] new whole are plain = absurd are
same_since old (i ∷ inners) (o ∷ outers) new whole are plain =
    let step = act_same old are.0 i.act o.act whole plain.0 are.2 in
    ap (λ act. act ∷ outers) (timed_same i o are.1 step.0) ∙ ap (λ later. i ∷ later) (same_since are.0 inners outers new step.1 are.3 plain.1)

pub all_same : (inners outers : List Timed) (blocks : Blocks) → AreSeen no_blocks inners outers blocks → ArePlain inners outers → outers ≡ inners
all_same inners outers blocks are plain = same_since no_blocks inners outers blocks awaits_none are plain
