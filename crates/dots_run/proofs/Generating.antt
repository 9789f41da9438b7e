-- A memory host with an empty disk, over which a server began and then took all events.
use Rattle.std.proofs.Common.{◌≡◌, ℕ, true, ◌==◌, List, [], ◌++◌, Option, Some, None, sym, ap, ◌∙◌, subst, arith}
use Rattle.std.proofs.lemmas.Bool.Decides.{nat_tests}
use Rattle.std.specs.Prelude.{count_by}
use Rattle.dots_host.specs.declared.act.Act.{Act}
use Rattle.dots_host.specs.declared.event.Event.TheVariants as event
use Rattle.dots_host.specs.declared.out.OwnedOut.{OwnedOut}
use Rattle.dots_host.specs.Acts.{Timed, wire_acts}
use Rattle.dots_host.specs.Memory.{told}
use Rattle.dots_host.specs.Runs.{Owing, resting, Added, EndsBy}
use Rattle.dots_host.specs.Beside.{KeepsActs}
use Rattle.dots_host.specs.Media.{blank, grown, byte_of}
use Rattle.dots_host.specs.Hosted.{Hosted, HandsOut}
use Rattle.dots_host.specs.Stored.{Stored, media_of}
use Rattle.dots_settings.specs.Settings.{SettingsValue}
use Rattle.dots_settings.specs.File.{SettingsAre}
use Rattle.dots_history.specs.declared.entry.Entry.{Entry}
use Rattle.slot_journal.specs.DiskEntries.{HasEntries}
use Rattle.slot_journal.proofs.Crashing.{one_history, zeros_have_nothing}
use Rattle.dots_machine.specs.Machine.{State, begun_from}
use Rattle.dots_machine.specs.Surviving.{Story}
use Rattle.dots_load.specs.Domains.{settings_text}
use Rattle.dots_load.specs.Events.{load_events}
use Rattle.dots_load.specs.Report.{sends_in, unavailable, load_text}
use Rattle.dots_load.proofs.Coming.{all_come}
use Rattle.dots_run.specs.Load.{rows_of, LoadReported, RunsToEnd}

-- an empty disk sees zeros
pub sees_zeros : (disk : Stored) → disk.base ≡ [] → disk.acts ≡ [] → (media_of disk).now.seen ≡ byte_of []
sees_zeros disk base acts = ap (λ (calls : List Act). (grown (blank disk.base) calls).now.seen) acts ∙ ap (λ (bytes : List ℕ). byte_of bytes) base

-- so it holds no entry
stored_nothing : (settings : SettingsValue) (stored : List Entry) → HasEntries settings (byte_of []) stored → stored ≡ []
stored_nothing settings stored holds = one_history settings (byte_of []) stored [] holds (zeros_have_nothing settings)

told_all : (between : Option (List Timed)) (acts : List Timed) (P : List Timed → Type 0) → KeepsActs (Some []) between → Added between (Some acts) P → P acts
told_all None acts P keeps added = absurd added
told_all (Some front) acts P keeps added = subst P (sym (added.1 ∙ ap (λ (f : List Timed). f ++ added.0) keeps)) added.2

-- where no act came before, what was added is all that the host did
pub all_told : (old new : Stored) (between : Option (List Timed)) (P : List Timed → Type 0) → old.acts ≡ [] → old.whole ≡ true → new.whole ≡ true → KeepsActs (told old.whole old.acts) between
    → Added between (told new.whole new.acts) P → P (wire_acts 0 new.acts)
all_told old new between P none first last keeps added =
    told_all between (wire_acts 0 new.acts) P
    (subst (λ (acts : Option (List Timed)). KeepsActs acts between) (ap (λ w. told w old.acts) first ∙ ap (λ (calls : List Act). told true calls) none) keeps)
    (subst (λ (acts : Option (List Timed)). Added between acts P) (ap (λ w. told w new.acts) last) added)

-- an end that owes nothing is a state at rest
at_rest : (end : Owing State) → end.owed ≡ [] → end ≡ resting end.last
at_rest end none = ap (λ (owed : List (State × OwnedOut)). record { last = end.last; owed = owed }) none

-- a run from what an empty disk held
pub runs_to_end : (settings : SettingsValue) → SettingsAre settings_text settings → (stored : List Entry) → HasEntries settings (byte_of []) stored → (from : State) → from ≡ begun_from settings stored
    → (acts : List Timed) (trace : List State) (end : Owing State) (rows : ℕ) → end.owed ≡ [] → Story settings (resting from) acts trace end → EndsBy event.End acts → rows ≡ rows_of end.last → RunsToEnd acts rows
runs_to_end settings are stored holds from begun acts trace end rows none run ends counted = record {
  settings = settings;
  are = are;
  trace = trace;
  end = end.last;
  run = subst (λ (state : State). Story settings (resting state) acts trace (resting end.last)) (begun ∙ ap (λ (entries : List Entry). begun_from settings entries) (stored_nothing settings stored holds))
      (subst (λ (to : Owing State). Story settings (resting from) acts trace to) (at_rest end none) run);
  ends = ends;
  rows_are = counted;
}

none_counted : (n : ℕ) → (n == 0) ≡ true → n ≡ 0
none_counted n is = grind (arith, nat_tests)

-- a run over a host to which the events of a seed came, of which each call was recorded
pub load_told : (seed : ℕ) (old new : Hosted) (rows : ℕ) (text : List ℕ) → old.coming ≡ load_events seed → old.disk.acts ≡ [] → HandsOut old new → new.disk.whole ≡ true
    → RunsToEnd (wire_acts 0 new.disk.acts) rows → (count_by unavailable (sends_in (wire_acts 0 new.disk.acts)) == 0) ≡ true → text ≡ load_text (wire_acts 0 new.disk.acts) rows → LoadReported seed text
load_told seed old new rows text coming none hands whole runs served is = record {
  settings = runs.settings;
  are = runs.are;
  acts = wire_acts 0 new.disk.acts;
  trace = runs.trace;
  end = runs.end;
  run = runs.run;
  events = all_come seed old new coming none hands whole runs.ends;
  served = none_counted (count_by unavailable (sends_in (wire_acts 0 new.disk.acts))) served;
  text_is = is ∙ ap (λ (n : ℕ). load_text (wire_acts 0 new.disk.acts) n) runs.rows_are;
}
