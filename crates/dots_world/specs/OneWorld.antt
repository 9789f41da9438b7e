-- A world in which nobody lacked memory. Its events decide it.
use Rattle.std.specs.Prelude.{◌≡◌, ◌≢◌, ℕ, suc, List, [], ◌∷◌, length, slice_get, count_by, Option, Some, None}
use Rattle.std.specs.List.{range_with_len}
use Rattle.dots_host.specs.declared.event.Event.{Event}
use Rattle.dots_host.specs.declared.event.Event.TheVariants as event
use Rattle.dots_host.specs.declared.out.OwnedOut.{OwnedOut}
use Rattle.dots_host.specs.Runs.{outs_of}
use Rattle.dots_load.specs.Report.{unavailable}
use Rattle.dots_client.specs.declared.heard.Heard.TheVariants as heard
use Rattle.gateway_agent.specs.Passing.{GatewayState}
use Rattle.gateway_agent.specs.PassingWell.{PassesWell}
use Rattle.dots_machine.specs.Answering.{AreBytes}
use Rattle.dots_world.specs.Plans.{Party, a_client, the_gateway, the_server, Plan, to_gateway}
use Rattle.dots_world.specs.Worlds.{Packet, World, WorldEvent, delivers, passed, ReceivesPacket, AllHandOut, Comes, Begins}

-- the server sends no 5.00, as which it tells its want of memory
abbrev pub StepsWell : {S : Type 0} → (S → Event → ℕ → List (S × OwnedOut) → S → Type 0) → S → Event → ℕ → List (S × OwnedOut) → S → Type 0
StepsWell step old came at owed new = step old came at owed new × (count_by unavailable (outs_of owed) ≡ 0)

-- and the gateway lacks none for what it passes on
abbrev pub PassesOnWell : {S : Type 0} → Plan → World S → Event → World S → Type 0
PassesOnWell plan old came new = (outs : List OwnedOut) × (gateway : GatewayState) × PassesWell old.gateway came old.time outs gateway × (new ≡ passed plan old outs gateway)

-- a client takes what was granted
abbrev pub ReceivesWell : {S : Type 0} → Plan → World S → ℕ → List ℕ → World S → Type 0
ReceivesWell plan old i bytes new = (receives : ReceivesPacket plan old i bytes new) × (receives.said ≢ heard.NoMemory)

-- ---- what happens

abbrev pub ComesWell : {S : Type 0} → (S → Event → ℕ → List (S × OwnedOut) → S → Type 0) → Plan → World S → Packet → Option Party → World S → Type 0
ComesWell step plan old p None new = Comes step plan old p None new
ComesWell step plan old p (Some the_server) new = Comes (StepsWell step) plan old p (Some the_server) new
ComesWell step plan old p (Some the_gateway) new = (peer : ℕ) × (to_gateway plan p.source ≡ Some peer) × PassesOnWell plan old (event.Datagram peer p.bytes) new
ComesWell step plan old p (Some (a_client i)) new = ReceivesWell plan old i p.bytes new

abbrev pub DeliversWell : {S : Type 0} → (S → Event → ℕ → List (S × OwnedOut) → S → Type 0) → Plan → World S → Option Packet → World S → Type 0
DeliversWell step plan old None new = new ≡ old
DeliversWell step plan old (Some p) new = AreBytes p.bytes × ComesWell step plan old p p.target new

abbrev pub BeginsWell : {S : Type 0} → (S → Event → ℕ → List (S × OwnedOut) → S → Type 0) → Plan → World S → WorldEvent → World S → Type 0
BeginsWell step plan old (delivers k) new = DeliversWell step plan old (slice_get old.packets k) new
BeginsWell step plan old what new = Begins (StepsWell step) plan old what new

abbrev pub HappensWell : {S : Type 0} → (S → Event → ℕ → List (S × OwnedOut) → S → Type 0) → Plan → World S → WorldEvent → World S → Type 0
HappensWell {S} step plan old what new = (between : World S) × BeginsWell step plan old what between × AllHandOut plan (range_with_len 0 (length plan.clients)) between new

-- a run as `Runs`, in which nobody lacks memory
abbrev pub RunsWell : {S : Type 0} → (S → Event → ℕ → List (S × OwnedOut) → S → Type 0) → Plan → World S → List WorldEvent → World S → Type 0
RunsWell step plan old [] new = new ≡ old
RunsWell {S} step plan old (what ∷ events) new = (between : World S) × HappensWell step plan old what between × RunsWell step plan between events new

-- The same, where each event is chosen by its place and by the world before it.
abbrev pub RunsChosenWell : {S : Type 0} → (S → Event → ℕ → List (S × OwnedOut) → S → Type 0) → (ℕ → World S → WorldEvent) → Plan → ℕ → World S → List WorldEvent → World S → Type 0
RunsChosenWell step choose plan k old [] new = new ≡ old
RunsChosenWell {S} step choose plan k old (what ∷ events) new =
    (between : World S) × (what ≡ choose k old) × HappensWell step plan old what between × RunsChosenWell step choose plan (suc k) between events new
