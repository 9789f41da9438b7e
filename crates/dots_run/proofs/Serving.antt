-- What a server has done, from what its disk held.
use Rattle.std.proofs.Common.{◌≡◌, ◌∙◌, ℕ, inl, inr, true, max, List, [], ◌++◌, Option, Some, None, Err, sym, ap, subst, arith}
use Rattle.std.specs.Prelude.{IfSome}
use Rattle.std.specs.List.{list_all}
use Rattle.dots_host.specs.Acts.{Timed}
use Rattle.dots_host.specs.Runs.{Owing, resting, Added}
use Rattle.dots_host.specs.Writing.{AppendsBeginning}
use Rattle.dots_host.proofs.RunLemmas.{added_then}
use Rattle.dots_host.specs.Media.{Media}
use Rattle.dots_host.specs.Becoming.{Leaves, RestsWith}
use Rattle.dots_host.specs.Beside.{KeepsActs}
use Rattle.slot_store.specs.Gates.{Sees}
use Rattle.slot_store.specs.Opening.{Is}
use Rattle.slot_store.proofs.Steps.{leaves_as}
use Rattle.dots_settings.specs.Settings.{SettingsValue}
use Rattle.dots_settings.specs.File.{SettingsAre}
use Rattle.dots_history.specs.declared.entry.Entry.{Entry}
use Rattle.dots_history.specs.Calm.{is_own}
use Rattle.dots_history.specs.Fits.{is_calm, last_time}
use Rattle.dots_history.proofs.Composing.{kept_refl}
use Rattle.dots_history.proofs.Containing.{scrub_rows_inside, acl_rows_inside}
use Rattle.slot_journal.specs.declared.fault.JournalFault.{JournalFault}
use Rattle.slot_journal.specs.declared.fault.JournalFault.TheVariants as faults
use Rattle.slot_journal.specs.Refused.{Caused}
use Rattle.slot_journal.specs.DiskEntries.{HasEntries}
use Rattle.slot_journal.specs.Kept.{HasKept}
use Rattle.dots_machine.specs.declared.ending.Ending.{Ending}
use Rattle.dots_machine.specs.declared.ending.Ending.TheVariants as ending
use Rattle.dots_machine.specs.declared.ending.Stop.{Stop}
use Rattle.dots_machine.specs.declared.ending.Stop.TheVariants as stop
use Rattle.dots_machine.specs.Machine.{State, afresh, begun_from, restarted}
use Rattle.dots_machine.specs.Outside.{Outside}
use Rattle.dots_machine.specs.Report.{Contained, report_of}
use Rattle.dots_machine.specs.Surviving.{past_of, NoneBefore, Survives}
use Rattle.dots_machine.specs.Commands.{is_served}
use Rattle.dots_machine.specs.Endings.{has_hosted, IsKnown, by_disk, by_acts, NeverRestarts, Ran, HasRun, RunsFrom, Reports, ServesTo, Behaves}
use Rattle.dots_machine.proofs.Laws.{keeps_laws}
use Rattle.dots_machine.proofs.Surviving.{story_trace, survives_opening}
use Rattle.dots_server.specs.Running.{Came, IsFollowed}
use Rattle.dots_run.specs.Refusals.{Wrote, FailsOnly, EndsSized}
use Rattle.dots_server.proofs.Turning.{none_added}

contained_by : (settings : SettingsValue) (state : State) → list_all (is_own settings) state.history ≡ true → Contained settings state
contained_by settings state own = record { scrubs = scrub_rows_inside settings state.time state.history own; lists = acl_rows_inside settings state.time state.history own }

module _ (settings : SettingsValue) (stored : List Entry) (how : Stop) (before between now : Outside) (end : Owing State) (calm : is_calm settings stored ≡ true)
    (silent : KeepsActs before.acts between.acts) (opened : (seen : ℕ → ℕ) → RestsWith before.media (Is seen) → Leaves before.media between.media (λ image. HasEntries settings image stored))
    (Rests : Type 0) (rested : (seen : ℕ → ℕ) → RestsWith before.media (Is seen) → Rests) where
  abbrev from : State
  from = begun_from settings stored

  has_first : (image : ℕ → ℕ) → HasEntries settings image stored → HasKept settings settings.limits.remembered from.time from.history image
  has_first image image_has = record { entries = stored; image_has = image_has; calm = calm; kept = kept_refl settings.limits.remembered from.time stored }

  lived_by : (trace : List State) (acts : List Timed) → (grows : (extra : List Entry) × (end.last.history ≡ stored ++ extra)) → Ran settings from trace end how acts
      → (Rests → NoneBefore (past_of between.media) acts × Survives settings from between.media now.media acts trace end.last.history) → HasRun settings from how before now trace end acts
  lived_by trace acts grows ran survived = record {
    ran = ran;
    laws = keeps_laws settings from ran.whole ran.states ran.state (story_trace settings (resting from) (resting ran.state) ran.whole ran.states ran.run);
    survives = λ seen rests.
        let (late, survives) = survived (rested seen rests) in
        survives_opening settings from before.media between.media now.media acts trace end.last.history grows.0 grows.1 late (Is seen) rests
        (leaves_as before.media between.media (λ image. HasEntries settings image stored) (HasKept settings settings.limits.remembered from.time from.history) has_first (opened seen rests)) survives;
  }

  pub lives_from : (wrote : State → Type 0) → Came settings from how between.media now.media Rests between.acts now.acts end → wrote end.last → RunsFrom settings stored how before now wrote
  lives_from wrote came reports = record {
    end = end;
    settled = came.settled;
    found = came.found;
    trace = came.trace;
    has_run = added_then before.acts between.acts now.acts (λ more. more ≡ []) _ (HasRun settings from how before now came.trace end) (none_added before.acts between.acts silent) came.told
        (λ front back none told. subst (λ f. HasRun settings from how before now came.trace end (f ++ back)) (sym none) (lived_by came.trace back came.grows told.0 told.1));
    contained = contained_by settings end.last came.own;
    reports = reports;
  }

module _ (settings : SettingsValue) (stored : List Entry) (before between now : Outside) (calm : is_calm settings stored ≡ true)
    (silent : KeepsActs before.acts between.acts) (opened : (seen : ℕ → ℕ) → RestsWith before.media (Is seen) → Leaves before.media between.media (λ image. HasEntries settings image stored))
    (was_stored : (seen : ℕ → ℕ) → Sees before.media seen → HasEntries settings seen stored) (Rests : Type 0) (rested : (seen : ℕ → ℕ) → RestsWith before.media (Is seen) → Rests) where
  -- a run with this ending came there, where the disk is told, or where the acts are and none is a restart
  abbrev pub CameThere : Ending → Type 0
  CameThere how =
      IsKnown before now
      → (stopped : Stop) × (end : Owing State) × Came settings (begun_from settings stored) stopped between.media now.media Rests between.acts now.acts end × Wrote how stopped settings end.last before now

  abbrev pub WroteAny : Ending → Type 0
  WroteAny how = (stopped : Stop) × (state : State) × (list_all (is_own settings) state.history ≡ true) × Wrote how stopped settings state before now

  pub serves_to : (how : Ending) → EndsSized how → CameThere how → WroteAny how → ServesTo how settings before now
  serves_to (ending.Served how) sized came any = record {
    stored = stored;
    calm = calm;
    was_stored = was_stored;
    runs_from = λ told.
        let (stopped, end, there, wrote) = came told in
        lives_from settings stored how before between now end calm silent opened Rests rested (Reports how settings before now)
        (subst (λ h. Came settings (begun_from settings stored) h between.media now.media Rests between.acts now.acts end) (sym wrote.0) there) wrote.1;
    sized = sized;
    any = (any.1, contained_by settings any.1 any.2, any.3.1);
  }
  serves_to ending.ReportFailed sized came any = (
    record {
      stored = stored;
      calm = calm;
      was_stored = was_stored;
      runs_from = λ told.
          let (stopped, end, there, wrote) = came told in
          lives_from settings stored stop.Ended before between now end calm silent opened Rests rested (λ state. AppendsBeginning before.written now.written (report_of settings state))
          (subst (λ h. Came settings (begun_from settings stored) h between.media now.media Rests between.acts now.acts end) (sym wrote.0) there) wrote.1;
      sized = tt;
      any = (any.1, contained_by settings any.1 any.2, any.3.1);
    },
    any.3.2,
  )
  serves_to ending.WrongWords sized came any = absurd any.3
  serves_to (ending.Printed how) sized came any = absurd any.3
  serves_to (ending.Refused fault) sized came any = absurd any.3
  serves_to ending.SettingsFailed sized came any = absurd any.3
  serves_to ending.NoMemory sized came any = absurd any.3
  serves_to (ending.Unrecovered fault) sized came any = absurd any.3

-- where no restart was taken since, none was taken from there on
pub never_since : (xs ys zs : Option (List Timed)) → KeepsActs xs ys → Added ys zs (λ _. Unit {0}) → NeverRestarts xs zs → NeverRestarts ys zs
never_since None ys zs keeps added never = absurd never
never_since (Some xs) ys None keeps added never = absurd never
never_since (Some xs) None (Some zs) keeps added never = absurd added
never_since (Some xs) (Some ys) (Some zs) keeps added never = (never.0, never.1 ∙ ap (λ front. front ++ never.0) (sym keeps), never.2)

-- a run that is told by what the disk held, or by its acts, is followed from where the server began
pub followed_by : (Rests : Type 0) (before now : Outside) (ys : Option (List Timed)) → KeepsActs before.acts ys → Added ys now.acts (λ _. Unit {0}) → ((seen : ℕ → ℕ) → Sees before.media seen → Rests)
    → IsKnown before now → IsFollowed Rests ys now.acts
followed_by Rests before now ys keeps added rested (by_disk seen sees) = inl (rested seen sees)
followed_by Rests before now ys keeps added rested (by_acts never) = inr (never_since before.acts ys now.acts keeps added never)

-- a run begins at the time of the last entry
pub begun_zero : (settings : SettingsValue) (stored : List Entry) → restarted settings (begun_from settings stored) 0 ≡ begun_from settings stored
begun_zero settings stored = ap (λ t. afresh settings stored t) (no_later (last_time stored))
  where
    no_later : (t : ℕ) → max 0 t ≡ t
    no_later t = omega arith

pub sees_of : (media : Option Media) (seen : ℕ → ℕ) → RestsWith media (Is seen) → Sees media seen
sees_of None seen rests = absurd rests
sees_of (Some media) seen rests = rests.1

-- a run that came to its host behaves as it served
pub behaves_hosted : (words : List (List ℕ)) (before now : Outside) (how : Ending) → has_hosted how ≡ true → is_served words ≡ true → (settings : SettingsValue)
    → IfSome before.left (λ bytes. SettingsAre bytes settings) → ServesTo how settings before now → Behaves how words before now
behaves_hosted words before now (ending.Served how) hosted served settings are serves = (served, settings, are, serves)
behaves_hosted words before now ending.ReportFailed hosted served settings are serves = (served, settings, are, serves)
behaves_hosted words before now (ending.Unrecovered fault) hosted served settings are serves = (served, settings, are, serves)
behaves_hosted words before now ending.WrongWords hosted served settings are serves = absurd (cc hosted)
behaves_hosted words before now (ending.Printed how) hosted served settings are serves = absurd (cc hosted)
behaves_hosted words before now (ending.Refused fault) hosted served settings are serves = absurd (cc hosted)
behaves_hosted words before now ending.SettingsFailed hosted served settings are serves = absurd (cc hosted)
behaves_hosted words before now ending.NoMemory hosted served settings are serves = absurd (cc hosted)

-- a disk that isn't recovered failed, or the count of its faults stayed
pub unrecovered_counts : (A : Type 0) (fault : JournalFault) (before now : ℕ) → Caused {A = A} before now (Err fault) → FailsOnly (ending.Unrecovered fault) before now
unrecovered_counts A faults.DiskFault before now caused = tt
unrecovered_counts A faults.NoMemory before now caused = caused
unrecovered_counts A (faults.NotOurs at) before now caused = caused
unrecovered_counts A (faults.SettingsChanged stored given) before now caused = caused
unrecovered_counts A (faults.TooSmall needed found) before now caused = caused
