-- What must have failed where the events of a gateway stop, and what is found at a restart.
use Rattle.std.proofs.Common.{◌≡◌, ◌≢◌, ℕ, ◌+◌, ◌≤◌, max, List, [], Option, refl, sym, ap, ◌∙◌, subst, append-nil, arith}
use Rattle.std.specs.Prelude.{Err}
use Rattle.dots_host.specs.Causes.{Rose}
use Rattle.dots_host.specs.declared.event.Event.TheVariants as event
use Rattle.dots_host.specs.declared.event.What.{What}
use Rattle.dots_host.specs.declared.event.What.TheVariants as what_is
use Rattle.dots_host.specs.Acts.{Timed}
use Rattle.dots_host.specs.Runs.{Gives}
use Rattle.dots_host.proofs.RunLemmas.{added_weaker}
use Rattle.dots_host.specs.Media.{Media}
use Rattle.dots_host.specs.Becoming.{Leaves, RestsWith, IsMoment}
use Rattle.dots_host.specs.Beside.{KeepsActs}
use Rattle.dots_settings.specs.Settings.{SettingsValue}
use Rattle.dots_gateway.specs.declared.exchange.Exchange.{Exchange}
use Rattle.slot_journal.specs.declared.fault.JournalFault.{JournalFault}
use Rattle.slot_journal.specs.declared.fault.JournalFault.TheVariants as fault_is
use Rattle.slot_journal.specs.Refused.{Caused}
use Rattle.gateway_agent.specs.Exchanges.{next_number, young_at}
use Rattle.gateway_agent.specs.Stores.{IsOn}
use Rattle.gateway_agent.specs.declared.stopping.GatewayHalt.{GatewayHalt}
use Rattle.gateway_agent.specs.declared.stopping.GatewayHalt.TheVariants as halt
use Rattle.gateway_agent.specs.declared.stopping.GatewayEnding.TheVariants as ending
use Rattle.gateway_agent.specs.Passing.{GatewayState, restarted, time_from}
use Rattle.gateway_agent.specs.Keeping.{AgentValue, Counts, IsIn}
use Rattle.gateway_agent.specs.Turning.{HasTurn, Took, IsTaken, most_of}
use Rattle.gateway_agent.specs.Running.{StopsFor, EndsFor}
use Rattle.gateway_agent.proofs.Joining.{counts_at}
use Rattle.gateway_agent.proofs.Turning.{none_added, keeps_itself}

-- ---- causes

-- an event at which a run goes on, but for a restart, is one that a gateway takes
pub taken_of : (what : What) → what ≢ what_is.End → what ≢ what_is.Failed → what ≢ what_is.Restart → IsTaken what
taken_of what_is.End end failed other = absurd (end refl)
taken_of what_is.Failed end failed other = absurd (failed refl)
taken_of what_is.Restart end failed other = absurd (other refl)
taken_of (what_is.Datagram from len) end failed other = tt
taken_of (what_is.Opened c p) end failed other = tt
taken_of (what_is.Piece c n) end failed other = tt
taken_of (what_is.Closed c) end failed other = tt
taken_of what_is.Tick end failed other = tt

pub unrecovered_stops : (A : Type 0) (fault : JournalFault) (wire : Type 0) (before now : ℕ) → Caused {A = A} before now (Err fault) → StopsFor (halt.Unrecovered fault) wire (Rose before now)
unrecovered_stops A fault_is.DiskFault wire before now caused = caused
unrecovered_stops A fault_is.NoMemory wire before now caused = tt
unrecovered_stops A (fault_is.NotOurs at) wire before now caused = tt
unrecovered_stops A (fault_is.SettingsChanged stored given) wire before now caused = tt
unrecovered_stops A (fault_is.TooSmall needed found) wire before now caused = tt

pub unopened_ends : (A : Type 0) (fault : JournalFault) (wire : Type 0) (before now : ℕ) → Caused {A = A} before now (Err fault) → EndsFor (ending.Unopened fault) wire (Rose before now)
unopened_ends A fault_is.DiskFault wire before now caused = caused
unopened_ends A fault_is.NoMemory wire before now caused = tt
unopened_ends A (fault_is.NotOurs at) wire before now caused = tt
unopened_ends A (fault_is.SettingsChanged stored given) wire before now caused = tt
unopened_ends A (fault_is.TooSmall needed found) wire before now caused = tt

-- what failed later failed since
pub stops_more : (how : GatewayHalt) (wire wire_more disk disk_more : Type 0) → (wire → wire_more) → (disk → disk_more) → StopsFor how wire disk → StopsFor how wire_more disk_more
stops_more halt.NextFailed wire wire_more disk disk_more w d is = w is
stops_more halt.TooMany wire wire_more disk disk_more w d is = tt
stops_more halt.DiskFailed wire wire_more disk disk_more w d is = d is
stops_more (halt.Unrecovered fault_is.DiskFault) wire wire_more disk disk_more w d is = d is
stops_more (halt.Unrecovered fault_is.NoMemory) wire wire_more disk disk_more w d is = tt
stops_more (halt.Unrecovered (fault_is.NotOurs at)) wire wire_more disk disk_more w d is = tt
stops_more (halt.Unrecovered (fault_is.SettingsChanged stored given)) wire wire_more disk disk_more w d is = tt
stops_more (halt.Unrecovered (fault_is.TooSmall needed found)) wire wire_more disk disk_more w d is = tt

pub rose_since : (first before now : ℕ) → first ≤ before → Rose before now → Rose first now
rose_since first before now le rose = omega (arith, le, rose)

-- ---- a restart

-- a gateway that begins with what counts begins as with all that was kept
pub begun_alike : (some kept : List Exchange) (at : ℕ) → Counts some kept
    → (time_from some at ≡ time_from kept at) × (young_at (time_from some at) some ≡ young_at (time_from kept at) kept) × (next_number some ≡ next_number kept)
begun_alike some kept at counts =
    let time : time_from some at ≡ time_from kept at = ap (λ (t : ℕ). max at t) counts.time in
    let alike = counts_at some kept (time_from kept at) counts (omega arith) in
    (time, ap (λ (t : ℕ). young_at t some) time ∙ alike.young, ap (λ (n : ℕ). n + 1) alike.number)

-- the disk was opened anew, and nothing is sent
pub restart_took : (settings : SettingsValue) (state : GatewayState) (at : ℕ) (old now : AgentValue) (media media_new : Option Media) (moment : ℕ) (acts acts_new : Option (List Timed))
    → IsIn old state → IsIn now (restarted state at) → IsMoment moment media_new → KeepsActs acts acts_new
    → (RestsWith media (IsOn settings old.store) → Leaves media media_new (HasTurn settings (most_of old) state (restarted state at)))
    → (RestsWith media (IsOn settings old.store) → RestsWith media_new (IsOn settings now.store))
    → Took settings state event.Restart at old now media media_new acts acts_new
restart_took settings state at old now media media_new moment acts acts_new was is here silent writes rests = record {
  outs = [];
  new = restarted state at;
  made = (refl, refl);
  grows = ([], sym (append-nil state.kept));
  timely = omega arith;
  is_in = is;
  turned = record {
    between = media_new;
    moment = moment;
    is_moment = here;
    gives = added_weaker acts acts_new (λ more. more ≡ []) (Gives moment []) (none_added acts acts_new silent) (λ more none. subst (Gives moment []) (sym none) tt);
    writes = writes;
    rests = rests;
    sends = keeps_itself media_new;
  };
}
