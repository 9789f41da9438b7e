-- How the command of a gateway ends, with which status, and what it has done then.
use Rattle.std.specs.Prelude.{◌≡◌, ℕ, ◌+◌, ◌≤◌, ◌⊎◌, Bool, true, false, List, length, Option, Some, None, IfSome}
use Rattle.std.specs.Io.KnownBytes.{Appends}
use Rattle.dots_host.specs.Writing.{AppendsBeginning, Writes}
use Rattle.dots_host.specs.Media.{Media}
use Rattle.dots_settings.specs.declared.fault.SettingsFault.{SettingsFault}
use Rattle.dots_settings.specs.declared.fault.SettingsFault.TheVariants as fault
use Rattle.dots_settings.specs.Settings.{SettingsValue}
use Rattle.dots_settings.specs.Lines.{lines_of}
use Rattle.dots_settings.specs.File.{SettingsAre, SettingsFail, IsNoLineFault}
use Rattle.dots_gateway.specs.declared.exchange.Exchange.{Exchange}
use Rattle.slot_store.specs.Gates.{Sees}
use Rattle.slot_store.specs.Layout.{needed_of}
use Rattle.slot_journal.specs.Sizes.{slots_of}
use Rattle.gateway_agent.specs.Crashes.{HasThe}
use Rattle.gateway_agent.specs.Exchanges.{IsStore, most_young}
use Rattle.gateway_agent.specs.declared.stopping.GatewayHalt.{GatewayHalt}
use Rattle.gateway_agent.specs.declared.stopping.GatewayHalt.TheVariants as halt
use Rattle.gateway_agent.specs.declared.stopping.GatewayEnding.{GatewayEnding}
use Rattle.gateway_agent.specs.declared.stopping.GatewayEnding.TheVariants as gateway
use Rattle.gateway_agent.specs.Running as agent
pub use Rattle.gateway_agent.specs.Running.{IsRestart, AnyRestart, NeverRestarts}
use Rattle.dots_machine.specs.Endings.{recovery_status, fault_line, WritesRefusal}
use Rattle.dots_machine.specs.Outside.{Outside, SourceFailed, WireFailed, DiskFailed, ReportFailed}
use Rattle.gateway_command.specs.declared.ending.CommandEnding.{CommandEnding}
use Rattle.gateway_command.specs.declared.ending.CommandEnding.TheVariants as ending
use Rattle.gateway_command.specs.Report.{waiting_line}

-- ---- the status

abbrev pub halt_status : GatewayHalt → ℕ
halt_status halt.NextFailed = 5
halt_status halt.DiskFailed = 6
halt_status halt.TooMany = 11
halt_status (halt.Unrecovered fault) = recovery_status fault

abbrev pub status_of : CommandEnding → ℕ
status_of (ending.Ran (gateway.Ended waiting)) = 0
status_of (ending.Refused fault) = 3
status_of ending.NoMemory = 4
status_of ending.SettingsFailed = 5
status_of (ending.ReportFailed waiting) = 9
status_of (ending.Ran (gateway.Unopened fault)) = recovery_status fault
status_of (ending.Ran (gateway.Halted how)) = halt_status how

-- whether such a run came to its host
abbrev pub has_hosted : CommandEnding → Bool
has_hosted (ending.Ran how) = true
has_hosted (ending.ReportFailed waiting) = true
has_hosted _ = false

-- ---- the settings

-- The file gives settings that name no upstream. At fault is the line behind the last one.
pub record LacksUpstream (file : List ℕ) (why : SettingsFault) : Type 0 where
  pub settings : SettingsValue
  pub are : SettingsAre file settings
  pub none : settings.upstream ≡ None
  pub behind : why ≡ fault.Line (length (lines_of file) + 1)

-- the fault of a file for a gateway
abbrev pub IsAtFault : List ℕ → SettingsFault → Type 0
IsAtFault file why = SettingsFail file why ⊎ LacksUpstream file why

-- the source tells its bytes, and they are at fault for a gateway
pub record GivesFault (left : Option (List ℕ)) : Type 0 where
  pub file : List ℕ
  pub told : left ≡ Some file
  pub fault : SettingsFault
  pub at_fault : IsAtFault file fault

-- the source tells its bytes, and they give settings with an upstream
pub record GivesGateway (left : Option (List ℕ)) : Type 0 where
  pub file : List ℕ
  pub told : left ≡ Some file
  pub settings : SettingsValue
  pub are : SettingsAre file settings
  pub upstream : ℕ
  pub named : settings.upstream ≡ Some upstream

-- ---- the gateway

-- a disk that holds a store was opened, and found again, want of memory and failures aside
abbrev pub Opens : SettingsValue → GatewayEnding → ℕ → Option Media → Type 0
Opens settings how extent media = (seen : ℕ → ℕ) (exchanges : List Exchange) → Sees media seen → HasThe settings exchanges seen
    → IsStore (most_young (slots_of settings)) exchanges → needed_of (slots_of settings) ≤ extent → agent.Completes how

-- What was written of a gateway that ended so, where the report could be written: at the end how many exchanges wait; where a disk is refused its
-- line, the whole of it or, where the sink failed, a beginning; and else nothing.
abbrev pub Reports : GatewayEnding → Option (List ℕ) → Option (List ℕ) → Type 0 → Type 0
Reports (gateway.Ended waiting) old new failed = Appends old new (waiting_line waiting)
Reports (gateway.Unopened fault) old new failed = WritesRefusal fault old new failed
Reports (gateway.Halted (halt.Unrecovered fault)) old new failed = WritesRefusal fault old new failed
Reports (gateway.Halted _) old new failed = new ≡ old

-- the same by the ending of the command: how many exchanges wait was written, or the sink failed
abbrev pub ReportsEnd : GatewayEnding → CommandEnding → Option (List ℕ) → Option (List ℕ) → Type 0 → Type 0
ReportsEnd how (ending.Ran told) old new failed = (told ≡ how) × Reports how old new failed
ReportsEnd how (ending.ReportFailed waiting) old new failed = (how ≡ gateway.Ended waiting) × AppendsBeginning old new (waiting_line waiting) × failed
ReportsEnd how _ old new failed = ⊥

-- A gateway with these settings and this upstream ran: what it has done by how it ended, what must have failed, and what was written of it.
pub record Runs (ending : CommandEnding) (settings : SettingsValue) (upstream : ℕ) (before now : Outside) : Type 0 where
  pub how : GatewayEnding
  pub behaves : agent.Behaves settings upstream how before.extent before.media now.media before.acts now.acts
  pub failed : agent.EndsFor how (WireFailed before now) (DiskFailed before now)
  pub opens : Opens settings how before.extent before.media
  pub reports_end : ReportsEnd how ending before.written now.written (ReportFailed before now)

-- ---- the command

-- What a run of this ending has done. Where it didn't come to its host, the host told no act; where it did, its settings are those of the file,
-- where the source told its bytes.
abbrev pub Behaves : CommandEnding → Outside → Outside → Type 0
Behaves (ending.Refused fault) before now =
    (now.acts ≡ before.acts) × ¬ (IsNoLineFault fault) × IfSome before.left (λ file. IsAtFault file fault)
    × Writes before.written now.written (fault_line fault) (ReportFailed before now)
Behaves ending.SettingsFailed before now = (now.acts ≡ before.acts) × (now.written ≡ before.written) × SourceFailed before now
Behaves ending.NoMemory before now = (now.acts ≡ before.acts) × (now.written ≡ before.written)
Behaves how before now =
    (settings : SettingsValue) × IfSome before.left (λ file. SettingsAre file settings)
    × (upstream : ℕ) × (settings.upstream ≡ Some upstream) × Runs how settings upstream before now

-- the source gives settings with an upstream; and the disk is told, has the size that they need, and holds a store of exchanges
pub record IsReady (left : Option (List ℕ)) (media : Option Media) (extent : ℕ) : Type 0 where
  pub gives : GivesGateway left
  pub seen : ℕ → ℕ
  pub sees : Sees media seen
  pub exchanges : List Exchange
  pub image_has : HasThe gives.settings exchanges seen
  pub store : IsStore (most_young (slots_of gives.settings)) exchanges
  pub large : needed_of (slots_of gives.settings) ≤ extent
