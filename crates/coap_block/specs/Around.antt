-- A host around a host: what it tells of its own acts, and how they stand to those of the host inside.
use Rattle.std.specs.Prelude.{◌≡◌, ℕ, ◌-◌, ◌≤◌, nat_le, Bool, true, false, if◌then◌else◌, List, [], ◌∷◌, ◌++◌, length, take, drop, Option, Some, None, ⊤}
use Rattle.coap_message.specs.Message.{CoapMessage, IsMessage, spelling}
use Rattle.dots_host.specs.declared.act.Act.{Act}
use Rattle.dots_host.specs.declared.act.Act.TheVariants as act
use Rattle.dots_host.specs.declared.event.Event.{Event}
use Rattle.dots_host.specs.declared.event.Event.TheVariants as event
use Rattle.dots_host.specs.declared.out.OwnedOut.{OwnedOut}
use Rattle.dots_host.specs.declared.out.OwnedOut.TheVariants as owned
use Rattle.dots_host.specs.Acts.{Timed, WireAct, took, gave}
use Rattle.coap_block.specs.Blocks.{Blocks, blocks_in, Sees, Sends}

-- the host inside, the calls of the wire as those above see them, and what is known of blocks between them
pub record Wrapped (H : Type 0) : Type 0 where
  pub inner : H
  pub log : List Act
  pub blocks : Blocks

-- ---- what it tells

abbrev pub wire_of : Act → WireAct
wire_of (act.Took event at) = took event at
wire_of (act.Gave out done) = gave out done
wire_of _ = took event.Failed 0

-- the calls above, each at the moment of the act inside
abbrev pub retimed : List Timed → List Act → List Timed
retimed [] log = []
retimed (timed ∷ acts) [] = []
retimed (timed ∷ acts) (call ∷ log) = (record { moment = timed.moment; act = wire_of call }) ∷ retimed acts log

-- how many acts there were inside before the first call above
abbrev pub earlier : List Timed → List Act → ℕ
earlier acts log = length acts - length log

-- the acts as seen above: those before the first call as they were, and then the calls
abbrev pub with_calls : List Timed → List Act → List Timed
with_calls acts log = take (earlier acts log) acts ++ retimed (drop (earlier acts log) acts) log

abbrev pub if_told : Bool → List Timed → Option (List Timed)
if_told true acts = Some acts
if_told false acts = None

-- where the host inside tells its acts, and each call above was one of them
abbrev pub seen_above : Option (List Timed) → List Act → Option (List Timed)
seen_above None log = None
seen_above (Some inner) log = if_told (nat_le (length log) (length inner)) (with_calls inner log)

-- ---- the relation

-- nothing is awaited, stored or observed
abbrev pub no_blocks : Blocks
no_blocks = record { awaited = None; stored = []; observed = [] }

-- An event came, and was seen so. Any event ends the waiting for a reply, and a restart forgets all bodies and observers.
abbrev pub SeesEvent : Event → Event → Blocks → Blocks → Type 0
SeesEvent (event.Datagram from bytes) (event.Datagram by seen) old new = (by ≡ from) × Sees from bytes seen new.awaited × (new.stored ≡ old.stored) × (new.observed ≡ old.observed)
SeesEvent (event.Datagram from bytes) _ old new = ⊥
SeesEvent event.Restart seen old new = (seen ≡ event.Restart) × (new ≡ no_blocks)
SeesEvent came seen old new = (seen ≡ came) × (new ≡ record old { awaited = None })

-- a send was given, and left so
abbrev pub SendsOut : OwnedOut → OwnedOut → Blocks → Blocks → Type 0
SendsOut (owned.To peer bytes) (owned.To to leaves) old new = (to ≡ peer) × Sends old peer bytes leaves new
SendsOut (owned.To peer bytes) _ old new = ⊥
SendsOut given leaves old new = (leaves ≡ given) × (new ≡ old)

-- what leaves of a send, where that was written, or the send as it is
abbrev pub leaves_of : OwnedOut → Bool → List ℕ → OwnedOut
leaves_of (owned.To peer bytes) written text = owned.To peer (if written then text else bytes)
leaves_of given written text = given

-- one act inside, and the same act as seen above
abbrev pub IsSeen : Blocks → WireAct → WireAct → Blocks → Type 0
IsSeen old (took came at) (took seen time) new = SeesEvent came seen old new × (time ≡ at)
IsSeen old (gave leaves done) (gave given was) new = SendsOut given leaves old new × (was ≡ done)
IsSeen old _ _ new = ⊥

-- the acts inside, and the same acts as seen above
abbrev pub AreSeen : Blocks → List Timed → List Timed → Blocks → Type 0
AreSeen old [] [] new = new ≡ old
AreSeen old (inner ∷ inners) (outer ∷ outers) new =
    (mid : Blocks) × (outer.moment ≡ inner.moment) × IsSeen old inner.act outer.act mid × AreSeen mid inners outers new
AreSeen old _ _ new = ⊥

-- since a start, where both are told
pub record Start : Type 0 where
  pub inner : List Timed
  pub outer : List Timed
  pub blocks : Blocks

pub record SeenSince (start : Start) (inner outer : List Timed) (blocks : Blocks) : Type 0 where
  pub inners : List Timed
  pub outers : List Timed
  pub inner_is : inner ≡ start.inner ++ inners
  pub outer_is : outer ≡ start.outer ++ outers
  pub are : AreSeen start.blocks inners outers blocks

abbrev pub AreSince : Start → Option (List Timed) → Option (List Timed) → Blocks → Type 0
AreSince start (Some inner) (Some outer) blocks = SeenSince start inner outer blocks
AreSince start (Some inner) None blocks = ⊥
AreSince start None outer blocks = ⊤

-- whatever the start, what was seen since then goes on being what the acts inside come to
abbrev pub GoesOnSeen : Option (List Timed) → List Act → Blocks → Option (List Timed) → List Act → Blocks → Type 0
GoesOnSeen inner log blocks inner_now log_now blocks_now =
    (start : Start) → AreSince start inner (seen_above inner log) blocks → AreSince start inner_now (seen_above inner_now log_now) blocks_now

-- before any call above, where the host inside has these acts
abbrev pub from_acts : List Timed → Start
from_acts acts = record { inner = acts; outer = acts; blocks = no_blocks }

-- What the host inside told at first it still tells, and then more. Those above saw the same acts at first, and then these as they were handed on.
pub record HandsOn (old new : List Timed) (seen : Option (List Timed)) : Type 0 where
  pub inners : List Timed
  pub outers : List Timed
  pub blocks : Blocks
  pub inner_is : new ≡ old ++ inners
  pub seen_is : seen ≡ Some (old ++ outers)
  pub are : AreSeen no_blocks inners outers blocks

-- The host inside told the old acts where the host around it was made, and tells the new ones now: so the acts are seen above. Where it tells none, none are.
abbrev pub IsSeenFrom : Option (List Timed) → Option (List Timed) → Option (List Timed) → Type 0
IsSeenFrom old None seen = seen ≡ None
IsSeenFrom None (Some new) seen = ⊥
IsSeenFrom (Some old) (Some new) seen = HandsOn old new seen

-- The acts inside are those of a run above, with this property, as the host around handed them on.
pub record IsRunAround (P : List Timed → Type 0) (inner : List Timed) : Type 0 where
  pub outers : List Timed
  pub blocks : Blocks
  pub has : P outers
  pub are : AreSeen no_blocks inner outers blocks

-- ---- where no block is asked for, and no payload is long

abbrev pub AsksNoBlock : List ℕ → Type 0
AsksNoBlock bytes = (message : CoapMessage) → IsMessage message → bytes ≡ spelling message → blocks_in message.options ≡ []

abbrev pub IsShort : List ℕ → Type 0
IsShort bytes = (message : CoapMessage) → IsMessage message → bytes ≡ spelling message → length message.payload ≤ 1024

-- a datagram that came has no Block2, and the payload of one that was to be sent has at most 1,024 bytes
abbrev pub IsPlain : WireAct → WireAct → Type 0
IsPlain (took (event.Datagram from bytes) at) outer = AsksNoBlock bytes
IsPlain (gave leaves done) (gave (owned.To peer bytes) was) = IsShort bytes
IsPlain inner outer = ⊤

abbrev pub ArePlain : List Timed → List Timed → Type 0
ArePlain (inner ∷ inners) (outer ∷ outers) = IsPlain inner.act outer.act × ArePlain inners outers
ArePlain inners outers = ⊤
