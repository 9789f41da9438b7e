-- How the events of a gateway stop, and what it has done then.
use Rattle.std.specs.Prelude.{◌≡◌, ◌⊎◌, ℕ, ◌^◌, List, [], ◌∷◌, ◌++◌, length, Option, Some, Result, Ok, Err, IfOk, ⊤}
use Rattle.dots_host.specs.declared.event.Event.{Event}
use Rattle.dots_host.specs.declared.event.Event.TheVariants as event
use Rattle.dots_host.specs.Acts.{WireAct, took, Timed}
use Rattle.dots_host.specs.Runs.{Owing, resting, Added, GoOn, EndsBy, events_in}
use Rattle.dots_host.specs.Media.{Media}
use Rattle.dots_host.specs.Becoming.{RestsWith}
use Rattle.dots_host.specs.Beside.{KeepsActs}
use Rattle.dots_settings.specs.Settings.{SettingsValue}
use Rattle.dots_gateway.specs.declared.exchange.Exchange.{Exchange}
use Rattle.slot_store.specs.Gates.{Sees}
use Rattle.slot_store.specs.Opening.{Is}
use Rattle.slot_journal.specs.Sizes.{slots_of}
use Rattle.slot_journal.specs.Untaken.{IsFailure}
use Rattle.slot_journal.specs.declared.fault.JournalFault.TheVariants as fault
use Rattle.gateway_agent.specs.Crashes.{HasThe}
use Rattle.gateway_agent.specs.Exchanges.{IsStore, most_young}
use Rattle.gateway_agent.specs.Refusing.{RefusesStore}
use Rattle.gateway_agent.specs.declared.stopping.GatewayHalt.{GatewayHalt}
use Rattle.gateway_agent.specs.declared.stopping.GatewayHalt.TheVariants as halt
use Rattle.gateway_agent.specs.declared.stopping.GatewayEnding.{GatewayEnding}
use Rattle.gateway_agent.specs.declared.stopping.GatewayEnding.TheVariants as ending
use Rattle.gateway_agent.specs.Passing.{GatewayState, opened}
use Rattle.gateway_agent.specs.Sent.{HasSent}
use Rattle.gateway_agent.specs.Surviving.{Story, past_of, NoneBefore, Survives, LeavesAt, time_at}
use Rattle.gateway_agent.specs.Turning.{time_in}

-- how many exchanges wait when End is taken, or what stopped the events before
abbrev pub Answer : Type 0
Answer = Result ℕ GatewayHalt

-- an event was taken last, which is neither the end nor a failure of the wire, and nothing was sent of it
abbrev pub EndsUnsent : List Timed → Type 0
EndsUnsent acts = (before : List Timed) × (last : Timed) × (came : Event) × (at : ℕ) × (last.act ≡ took came at) × (acts ≡ before ++ last ∷ []) × GoOn acts

-- The acts stop so: the last event is told. Where the disk failed nothing was sent of it, and at a restart nothing is.
abbrev pub Stops : Answer → List Timed → Type 0
Stops (Ok waiting) acts = EndsBy event.End acts
Stops (Err halt.NextFailed) acts = EndsBy event.Failed acts
Stops (Err halt.DiskFailed) acts = EndsUnsent acts
Stops (Err (halt.Unrecovered fault)) acts = EndsBy event.Restart acts
Stops (Err halt.TooMany) acts = GoOn acts × (events_in acts ≡ 2 ^ 40)

-- whether the disk failed in the middle of an event, which then owes its sends
abbrev pub IsSettled : Answer → Owing GatewayState → Type 0
IsSettled (Err halt.DiskFailed) end = ⊤
IsSettled _ end = end.owed ≡ []

-- a restart found what had been left: where it didn't, that was for want of memory or for a failure of the disk
abbrev pub IsFound : Answer → Type 0
IsFound (Err (halt.Unrecovered fault)) = IsFailure fault
IsFound _ = ⊤

-- what must have failed where the events stop so, of the wire and of the disk
abbrev pub StopsFor : GatewayHalt → Type 0 → Type 0 → Type 0
StopsFor halt.NextFailed wire disk = wire
StopsFor halt.DiskFailed wire disk = disk
StopsFor (halt.Unrecovered fault.DiskFault) wire disk = disk
StopsFor _ wire disk = ⊤

-- ---- what is known of a run

-- a restart is among the acts
abbrev pub IsRestart : WireAct → Type 0
IsRestart (took event.Restart at) = ⊤
IsRestart _ = ⊥

abbrev pub AnyRestart : List Timed → Type 0
AnyRestart [] = ⊥
AnyRestart (timed ∷ acts) = IsRestart timed.act ⊎ AnyRestart acts

-- The acts are told, and no restart was added to them.
abbrev pub NeverRestarts : Option (List Timed) → Option (List Timed) → Type 0
NeverRestarts (Some old) (Some new) = (more : List Timed) × (new ≡ old ++ more) × ¬ (AnyRestart more)
NeverRestarts _ _ = ⊥

-- A run is known from what its disk rested with at the start. Where the disk isn't told, it is known from its acts, if no restart is among them:
-- what a gateway recovers at a restart is what the disk has.
abbrev pub IsFollowed : Type 0 → Option (List Timed) → Option (List Timed) → Type 0
IsFollowed Rests acts acts_now = Rests ⊎ NeverRestarts acts acts_now

-- The acts are a run of the machine from this state, and stop so. Where the disk rested at the start, a crash at any moment leaves a disk that
-- means what was kept, with all of which a packet was sent before.
abbrev pub HasCome : SettingsValue → ℕ → GatewayState → Answer → Option Media → Option Media → Type 0 → List GatewayState → Owing GatewayState → List Timed → Type 0
HasCome settings most start how media media_now Rests trace end acts =
    Story (resting start) acts trace end × Stops how acts
    × (Rests → NoneBefore (past_of media) acts × Survives settings most start media media_now acts trace end.last.kept)

-- A run from a state has stopped so, in this end: at End so many exchanges wait, and what was kept is kept.
pub record Came (settings : SettingsValue) (most : ℕ) (start : GatewayState) (how : Answer) (media media_now : Option Media) (Rests : Type 0) (acts acts_now : Option (List Timed)) (end : Owing GatewayState) : Type 0 where
  pub settled : IsSettled how end
  pub found : IsFound how
  pub waits : IfOk how (λ waiting. waiting ≡ length end.last.core.exchanges.waiting)
  pub grows : (more : List Exchange) × (end.last.kept ≡ start.kept ++ more)
  pub trace : List GatewayState
  pub told : Added acts acts_now (HasCome settings most start how media media_now Rests trace end)

-- nothing is pending on the disk, which is told
abbrev pub IsAtRest : Option Media → Type 0
IsAtRest media = (seen : ℕ → ℕ) × RestsWith media (Is seen)

-- At each moment each image that a crash may leave has what was sent: each exchange of which a packet was handed to the wire for the upstream and
-- that is at most 246 seconds old at the machine's time, and a last number that no packet's is above.
abbrev pub SurvivesSent : SettingsValue → ℕ → GatewayState → Option Media → Option Media → List Timed → List GatewayState → List Exchange → Type 0
SurvivesSent settings most start before now acts trace kept =
    LeavesAt before now (λ m image. HasSent settings most start.core.upstream m (time_at m acts trace (time_in start)) kept acts image)

-- A gateway with these settings has run: it opened a store, whose exchanges are what the disk held, where it is told; its acts are a run
-- from these at the time 0, or at that of the last of them; and where nothing was pending on the disk, what was sent survives a crash.
pub record HasRun (settings : SettingsValue) (upstream : ℕ) (how : Answer) (media media_now : Option Media) (acts acts_now : Option (List Timed)) : Type 0 where
  pub stored : List Exchange
  pub store : IsStore (most_young (slots_of settings)) stored
  pub was_stored : (seen : ℕ → ℕ) → Sees media seen → HasThe settings stored seen
  pub came : IsFollowed ((seen : ℕ → ℕ) × Sees media seen) acts acts_now → (end : Owing GatewayState)
      × (came : Came settings (most_young (slots_of settings)) (opened settings upstream stored 0) how media media_now (IsAtRest media) acts acts_now end)
      × Added acts acts_now (λ more. IsAtRest media → SurvivesSent settings (most_young (slots_of settings)) (opened settings upstream stored 0) media media_now more came.trace end.last.kept)

-- What the run of a gateway with these settings has done, by how it ended. Where the store didn't open no event was taken.
abbrev pub Behaves : SettingsValue → ℕ → GatewayEnding → ℕ → Option Media → Option Media → Option (List Timed) → Option (List Timed) → Type 0
Behaves settings upstream (ending.Ended waiting) extent media media_now acts acts_now = HasRun settings upstream (Ok waiting) media media_now acts acts_now
Behaves settings upstream (ending.Halted how) extent media media_now acts acts_now = HasRun settings upstream (Err how) media media_now acts acts_now
Behaves settings upstream (ending.Unopened fault) extent media media_now acts acts_now =
    KeepsActs acts acts_now × ((seen : ℕ → ℕ) → Sees media seen → RefusesStore settings extent seen media_now fault)

-- what must have failed where a run ends so, of the wire and of the disk
abbrev pub EndsFor : GatewayEnding → Type 0 → Type 0 → Type 0
EndsFor (ending.Ended waiting) wire disk = ⊤
EndsFor (ending.Halted how) wire disk = StopsFor how wire disk
EndsFor (ending.Unopened fault.DiskFault) wire disk = disk
EndsFor (ending.Unopened _) wire disk = ⊤

-- a store that doesn't open did so for want of memory or a failure of the disk
abbrev pub Completes : GatewayEnding → Type 0
Completes (ending.Unopened fault) = IsFailure fault
Completes (ending.Halted (halt.Unrecovered fault)) = IsFailure fault
Completes _ = ⊤
