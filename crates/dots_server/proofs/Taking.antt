-- What one event comes to in a run.
use Rattle.std.proofs.Common.{◌≡◌, ◌≢◌, ◌⊎◌, ℕ, ◌≤◌, max, inl, inr, List, [], ◌∷◌, Option, Err, refl, sym, ap, ◌∙◌, arith, append-nil}
use Rattle.dots_host.specs.declared.event.Event.{Event}
use Rattle.dots_host.specs.declared.event.Event.TheVariants as event
use Rattle.dots_host.specs.declared.event.What.{What}
use Rattle.dots_host.specs.declared.event.What.TheVariants as what_is
use Rattle.dots_host.specs.Acts.{Timed}
use Rattle.dots_host.specs.Causes.{Rose}
use Rattle.dots_host.specs.Runs.{Turn, Gives}
use Rattle.dots_host.proofs.RunLemmas.{added_none}
use Rattle.dots_host.specs.Media.{Media}
use Rattle.dots_host.specs.Becoming.{Leaves, RestsWith, IsMoment}
use Rattle.dots_host.specs.Beside.{KeepsActs}
use Rattle.slot_store.proofs.Steps.{leaves_as}
use Rattle.dots_settings.specs.Settings.{SettingsValue}
use Rattle.dots_history.specs.declared.entry.Entry.{Entry}
use Rattle.dots_history.specs.Fits.{last_time}
use Rattle.dots_history.proofs.Composing.{kept_later}
use Rattle.slot_journal.specs.declared.fault.JournalFault.{JournalFault}
use Rattle.slot_journal.specs.declared.fault.JournalFault.TheVariants as fault_is
use Rattle.slot_journal.specs.Refused.{Caused}
use Rattle.slot_journal.specs.DiskEntries.{HasEntries}
use Rattle.slot_journal.specs.DiskEntries as journal
use Rattle.dots_machine.specs.declared.ending.Stop.{Stop}
use Rattle.dots_machine.specs.declared.ending.Stop.TheVariants as stop
use Rattle.dots_host.specs.declared.out.OwnedOut.TheVariants as owned
use Rattle.dots_machine.specs.declared.verdict.Verdict.TheVariants as verdict
use Rattle.dots_machine.specs.Machine.{State, later, restarted, receiving, Decides, with_entry, StepInto}
use Rattle.dots_machine.proofs.Hearing.{hears_time}
use Rattle.dots_machine.proofs.Fronts.{front_time, fronts_time}
use Rattle.dots_server.specs.ServerValues.{ServerValue, RestartsWith}
use Rattle.dots_server.specs.Turning.{IsServed, HasTurn, Broke}
use Rattle.dots_server.proofs.Turning.{keeps_itself, added_behind}
use Rattle.dots_server.specs.Running.{StopsFor, FailsOnlyFor}
use Rattle.dots_server.specs.Taking.{stored_of, Took}
use Rattle.dots_server.proofs.Looping.{restarts_stored}

module _ (settings : SettingsValue) (state : State) (at : ℕ) (old : ServerValue) (entries : List Entry) (kept : RestartsWith old settings state entries) where
  -- what the disk holds at a restart
  restart_has : (image : ℕ → ℕ) → HasEntries settings image entries → HasTurn settings state (restarted settings state at) image
  restart_has image image_has = inl (record {
    entries = entries;
    image_has = image_has;
    calm = kept.represents.ledger.calm;
    kept = kept_later settings.limits.remembered (last_time state.history) (restarted settings state at).time entries state.history (omega arith) kept.rests;
  })

  module _ (media media_new : Option Media) (acts acts_new : Option (List Timed)) (silent : KeepsActs acts acts_new)
      (moments : RestsWith media (journal.Represents old.journal settings entries) → Leaves media media_new (λ image. HasEntries settings image entries)) where
    restart_writes : RestsWith media (journal.Represents old.journal settings entries) → Leaves media media_new (HasTurn settings state (restarted settings state at))
    restart_writes rests = leaves_as media media_new (λ image. HasEntries settings image entries) (HasTurn settings state (restarted settings state at)) restart_has (moments rests)

    -- the server began anew, in a turn without sends
    pub restart_took : (now : ServerValue) (moment : ℕ) → IsMoment moment media_new → RestartsWith now settings (restarted settings state at) entries → RestsWith media_new (journal.Represents now.journal settings entries)
        → Took settings state event.Restart at old now entries media media_new acts acts_new
    restart_took now moment here begun rests_new = record {
      turns = (record { sends = []; left = restarted settings state at }) ∷ [];
      new = restarted settings state at;
      few = entries;
      step = (refl, refl);
      kept = begun;
      chained = (
        stored_of now entries,
        media_new,
        acts_new,
        refl,
        ([], sym (append-nil state.history)),
        restarts_stored now settings (restarted settings state at) entries begun,
        record {
          between = media_new;
          moment = moment;
          is_moment = here;
          gives = added_behind acts acts_new acts_new (Gives moment []) silent (added_none acts_new (Gives moment []) tt);
          writes = restart_writes;
          rests = λ rests. rests_new;
          sends = keeps_itself media_new;
        },
        (refl, refl, refl),
      );
      left = refl;
    }

    -- it didn't
    pub restart_broke : Broke settings state (restarted settings state at) (journal.Represents old.journal settings entries) media media_new acts acts_new
    restart_broke = record {
      written = state.history;
      adds = ([], sym (append-nil state.history));
      on = ([], sym (append-nil state.history));
      silent = silent;
      writes = restart_writes;
      own = kept.represents.represents.own;
    }

-- an event at which a run goes on, but for a restart, is one that a server takes
pub served_of : (what : What) → what ≢ what_is.End → what ≢ what_is.Failed → what ≢ what_is.Restart → IsServed what
served_of what_is.End end failed other = absurd (end refl)
served_of what_is.Failed end failed other = absurd (failed refl)
served_of what_is.Restart end failed other = absurd (other refl)
served_of (what_is.Datagram from len) end failed other = tt
served_of (what_is.Opened c p) end failed other = tt
served_of (what_is.Piece c n) end failed other = tt
served_of (what_is.Closed c) end failed other = tt
served_of what_is.Tick end failed other = tt

-- the disk fails in the middle of an event no earlier than the last entry
pub into_timely : (settings : SettingsValue) (old : State) (what : Event) (at : ℕ) (turns : List (Turn State)) (last : Turn State) → last_time old.history ≤ old.time → StepInto settings old what at turns last
    → last_time old.history ≤ last.left.time
into_timely settings old (event.Datagram peer datagram) at turns last timely into = by_cut into.3
  where
    by_cut : ((into.1.history ≢ old.history) × (last ≡ (record { sends = []; left = into.1 })))
        ⊎ ((reply : List ℕ) × (entry : Entry) × Decides settings into.1 peer datagram (verdict.Accept reply entry)
        × (last ≡ (record { sends = owned.To peer reply ∷ []; left = with_entry into.1 entry })))
        → last_time old.history ≤ last.left.time
    by_cut (inl back) =
        let is : last.left.time ≡ max at old.time = ap (λ (turn : Turn State). turn.left.time) back.1 ∙ hears_time settings peer datagram (later old at) into.1 into.2 in
        omega (arith, timely, is)
    by_cut (inr (reply, entry, decides, is_last)) =
        let is : last.left.time ≡ max at old.time = ap (λ (turn : Turn State). turn.left.time) is_last ∙ hears_time settings peer datagram (later old at) into.1 into.2 in
        omega (arith, timely, is)
into_timely settings old event.End at turns last timely into = absurd into
into_timely settings old event.Failed at turns last timely into = absurd into
into_timely settings old (event.Opened c p) at turns last timely into = absurd into
into_timely settings old (event.Piece c p) at turns last timely into =
    let from = receiving c p (later old at) in
    let is : last.left.time ≡ max at old.time = front_time settings c into.0 last.sends last.left into.2 ∙ fronts_time settings c from turns into.0 into.1 in
    omega (arith, timely, is)
into_timely settings old (event.Closed c) at turns last timely into = absurd into
into_timely settings old event.Tick at turns last timely into =
    let is : last.left.time ≡ max at old.time = ap (λ (turn : Turn State). turn.left.time) into.2 in
    omega (arith, timely, is)
into_timely settings old event.Restart at turns last timely into = absurd into

-- a disk that isn't recovered failed, or the count of its faults stayed
pub recover_stops : (A : Type 0) (fault : JournalFault) (wire : Type 0) (before now : ℕ) → Caused {A = A} before now (Err fault) → StopsFor (stop.Unrecovered fault) wire (Rose before now)
recover_stops A fault_is.DiskFault wire before now caused = caused
recover_stops A fault_is.NoMemory wire before now caused = tt
recover_stops A (fault_is.NotOurs at) wire before now caused = tt
recover_stops A (fault_is.SettingsChanged stored given) wire before now caused = tt
recover_stops A (fault_is.TooSmall needed found) wire before now caused = tt

pub recover_counts : (A : Type 0) (fault : JournalFault) (first before now : ℕ) → before ≡ first → Caused {A = A} before now (Err fault) → FailsOnlyFor (stop.Unrecovered fault) first now
recover_counts A fault_is.DiskFault first before now same caused = tt
recover_counts A fault_is.NoMemory first before now same caused = caused ∙ same
recover_counts A (fault_is.NotOurs at) first before now same caused = caused ∙ same
recover_counts A (fault_is.SettingsChanged stored given) first before now same caused = caused ∙ same
recover_counts A (fault_is.TooSmall needed found) first before now same caused = caused ∙ same

-- what failed later failed since
pub stops_more : (how : Stop) (wire wire_more disk disk_more : Type 0) → (wire → wire_more) → (disk → disk_more) → StopsFor how wire disk → StopsFor how wire_more disk_more
stops_more stop.Ended wire wire_more disk disk_more w d is = absurd is
stops_more stop.NextFailed wire wire_more disk disk_more w d is = w is
stops_more stop.TooMany wire wire_more disk disk_more w d is = tt
stops_more stop.DiskFailed wire wire_more disk disk_more w d is = d is
stops_more (stop.Unrecovered fault_is.DiskFault) wire wire_more disk disk_more w d is = d is
stops_more (stop.Unrecovered fault_is.NoMemory) wire wire_more disk disk_more w d is = tt
stops_more (stop.Unrecovered (fault_is.NotOurs at)) wire wire_more disk disk_more w d is = tt
stops_more (stop.Unrecovered (fault_is.SettingsChanged stored given)) wire wire_more disk disk_more w d is = tt
stops_more (stop.Unrecovered (fault_is.TooSmall needed found)) wire wire_more disk disk_more w d is = tt

pub rose_since : (first before now : ℕ) → first ≤ before → Rose before now → Rose first now
rose_since first before now le rose = omega (arith, le, rose)
