-- Which endings are left, where the settings are at fault, where nothing is, and where a word is to be shown.
use Rattle.std.proofs.Common.{◌≡◌, ◌≢◌, ℕ, ◌<◌, ◌≤◌, Bool, true, false, ◌&&◌, ◌||◌, List, [], ◌∷◌, codes, Result, Ok, ◌⊎◌, inl, inr, refl, sym, ◌∙◌, subst, arith}
use Rattle.std.proofs.lemmas.Bool.{true≢false}
use Rattle.std.proofs.lemmas.Bool.Decides.{nat_tests}
use Rattle.std.specs.Prelude.{IfSome, bytes_eq}
use Rattle.coap_message.specs.Message.{spelling}
use Rattle.coap_message.proofs.Faults.{breaks_no_message}
use Rattle.coap_message.specs.declared.printing.Printed.TheVariants as printed
use Rattle.coap_message.specs.Printing.{IsPrinted, PrintsFault, PrintsNoHex}
use Rattle.dots_host.specs.Causes.{Rose}
use Rattle.dots_settings.specs.declared.fault.SettingsFault.{SettingsFault}
use Rattle.dots_settings.specs.File.{SettingsAre, SettingsFail}
use Rattle.dots_settings.specs.Settings.{SettingsValue}
use Rattle.dots_settings.proofs.OneFile.{no_settings_at_fault, one_settings}
use Rattle.dots_history.specs.Fits.{is_calm}
use Rattle.slot_store.specs.Layout.{needed_of}
use Rattle.slot_journal.specs.declared.fault.JournalFault.{JournalFault}
use Rattle.slot_journal.specs.declared.fault.JournalFault.TheVariants as faults
use Rattle.slot_journal.specs.Sizes.{slots_of}
use Rattle.slot_journal.specs.DiskEntries.{HasEntries}
use Rattle.slot_journal.specs.Refused.{IsNoSize, IsSmallBy}
use Rattle.slot_journal.specs.Untaken.{IsFailure}
use Rattle.dots_registry.proofs.Recovering.{fails_alone}
use Rattle.dots_machine.specs.declared.ending.Ending.{Ending}
use Rattle.dots_machine.specs.declared.ending.Ending.TheVariants as ending
use Rattle.dots_machine.specs.declared.ending.Printing.TheVariants as printings
use Rattle.dots_machine.specs.declared.ending.Stop.TheVariants as stop
use Rattle.dots_machine.specs.Commands.{is_word, is_replay, is_serve, is_served, is_show, is_command, second_of}
use Rattle.dots_run.proofs.Commands.{served_by}
use Rattle.dots_run.specs.Outcomes.{IsTooSmall}
use Rattle.dots_run.specs.Refusals.{FailsOnly}
use Rattle.dots_machine.specs.Outside.{Outside, SourceFailed, WireFailed, DiskFailed, ReportFailed}
use Rattle.dots_machine.specs.Endings.{by_disk, recovery_status, status_of, has_hosted, IsDiskFailure, Unrecovers, Behaves, GivesSettings, GivesFault, IsReady, IsReadable}

two_names : (name word : List ℕ) → (bytes_eq name (codes "replay") && is_word word) ≡ true → (bytes_eq name (codes "show") && is_word word) ≡ true → ⊥
two_names [] word r s = absurd (cc r)
two_names (c ∷ name) word r s = grind (arith, nat_tests)

-- the words are one command at most
no_replay : (words : List (List ℕ)) → is_replay words ≡ true → is_show words ≡ true → ⊥
no_replay [] r s = absurd (cc r)
no_replay (name ∷ []) r s = absurd (cc r)
no_replay (name ∷ word ∷ []) r s = two_names name word r s
no_replay (name ∷ word ∷ more ∷ words) r s = absurd (cc r)

no_serve : (words : List (List ℕ)) → is_serve words ≡ true → is_show words ≡ true → ⊥
no_serve [] r s = absurd (cc r)
no_serve (name ∷ []) r s = absurd (cc r)
no_serve (name ∷ word ∷ []) r s = absurd (cc r)
no_serve (name ∷ word ∷ more ∷ words) r s = absurd (cc s)

one_command : (words : List (List ℕ)) → is_served words ≡ true → is_show words ≡ true → ⊥
one_command words served show = served_by words ⊥ served (λ replay. no_replay words replay show) (λ serve. no_serve words serve show)

served_is_command : (words : List (List ℕ)) → is_served words ≡ true → is_command words ≡ false → ⊥
served_is_command words served none = true≢false (subst (λ b. (b || is_show words) ≡ false) served none)

or_true : (b : Bool) → (b || true) ≡ false → ⊥
or_true true e = cc e
or_true false e = cc e

show_is_command : (words : List (List ℕ)) → is_show words ≡ true → is_command words ≡ false → ⊥
show_is_command words s c = or_true (is_served words) (subst (λ b. (is_served words || b) ≡ false) s c)

one_text : {E : Type 0} (x y : List ℕ) (read : Result (List ℕ) E) → read ≡ Ok x → read ≡ Ok y → x ≡ y
one_text x y read a b = cc (sym a ∙ b)

-- the status of a disk that isn't recovered
late_status : (fault : JournalFault) → 4 ≤ recovery_status fault
late_status faults.NoMemory = omega arith
late_status faults.DiskFault = omega arith
late_status (faults.NotOurs at) = omega arith
late_status (faults.SettingsChanged stored given) = omega arith
late_status (faults.TooSmall needed found) = omega arith

no_five : (fault : JournalFault) → recovery_status fault ≡ 5 → ⊥
no_five faults.NoMemory is = omega (arith, is)
no_five faults.DiskFault is = omega (arith, is)
no_five (faults.NotOurs at) is = omega (arith, is)
no_five (faults.SettingsChanged stored given) is = omega (arith, is)
no_five (faults.TooSmall needed found) is = omega (arith, is)

no_nine : (fault : JournalFault) → recovery_status fault ≡ 9 → ⊥
no_nine faults.NoMemory is = omega (arith, is)
no_nine faults.DiskFault is = omega (arith, is)
no_nine (faults.NotOurs at) is = omega (arith, is)
no_nine (faults.SettingsChanged stored given) is = omega (arith, is)
no_nine (faults.TooSmall needed found) is = omega (arith, is)

no_ten : (fault : JournalFault) → recovery_status fault ≡ 10 → IsNoSize fault → ⊥
no_ten faults.NoMemory is sized = omega (arith, is)
no_ten faults.DiskFault is sized = omega (arith, is)
no_ten (faults.NotOurs at) is sized = omega (arith, is)
no_ten (faults.SettingsChanged stored given) is sized = omega (arith, is)
no_ten (faults.TooSmall needed found) is sized = sized

-- memory ran out, the settings couldn't be read, or no read of them failed
abbrev pub SourceReadAll : ℕ → ℕ → Ending → Type 0
SourceReadAll before now how = (how ≡ ending.NoMemory) ⊎ (how ≡ ending.SettingsFailed) ⊎ (now ≡ before)

pub has_source_read : (before now : ℕ) (how : Ending) → status_of how ≢ 4 → status_of how ≢ 5 → SourceReadAll before now how → now ≡ before
has_source_read before now how four five (inl is) = absurd (four (subst (λ how. status_of how ≡ 4) (sym is) refl))
has_source_read before now how four five (inr (inl is)) = absurd (five (subst (λ how. status_of how ≡ 5) (sym is) refl))
has_source_read before now how four five (inr (inr same)) = same

module _ (words : List (List ℕ)) (before now : Outside) where
  never_served : (settings : SettingsValue) → GivesFault before.left → IfSome before.left (λ bytes. SettingsAre bytes settings) → ⊥
  never_served settings given told =
      let are : SettingsAre given.bytes settings = subst (λ left. IfSome left (λ bytes. SettingsAre bytes settings)) given.told told in
      no_settings_at_fault given.bytes settings given.fault are given.fails

  never_refused : (fault : SettingsFault) → GivesSettings before.left → IfSome before.left (λ bytes. SettingsFail bytes fault) → ⊥
  never_refused fault given told =
      let fails : SettingsFail given.bytes fault = subst (λ left. IfSome left (λ bytes. SettingsFail bytes fault)) given.told told in
      no_settings_at_fault given.bytes given.settings fault given.are fails

  abbrev SourceRead : Ending → Type 0
  SourceRead how = SourceReadAll before.source_faults now.source_faults how

  refused_source_read : (fault : SettingsFault) → SourceRead (ending.Refused fault) → now.source_faults ≡ before.source_faults
  refused_source_read fault (inl is) = absurd (cc is)
  refused_source_read fault (inr (inl is)) = absurd (cc is)
  refused_source_read fault (inr (inr same)) = same

  abbrev EndsRefused : Ending → Type 0
  EndsRefused how =
      ((status_of how ≡ 3) × (now.source_faults ≡ before.source_faults)) ⊎ (status_of how ≡ 4) ⊎ ((status_of how ≡ 5) × Rose before.source_faults now.source_faults)

  pub ends_refused : (how : Ending) → is_served words ≡ true → GivesFault before.left → SourceRead how → Behaves how words before now → EndsRefused how
  ends_refused ending.WrongWords served given source_read behaves = absurd (served_is_command words served behaves.0)
  ends_refused (ending.Printed how) served given source_read behaves = absurd (one_command words served behaves.0)
  ends_refused (ending.Refused fault) served given source_read behaves = inl (refl, refused_source_read fault source_read)
  ends_refused ending.NoMemory served given source_read behaves = inr (inl refl)
  ends_refused ending.SettingsFailed served given source_read behaves = inr (inr (refl, behaves.3))
  ends_refused (ending.Unrecovered fault) served given source_read behaves = absurd (never_served behaves.1 given behaves.2)
  ends_refused (ending.Served how) served given source_read behaves = absurd (never_served behaves.1 given behaves.2)
  ends_refused ending.ReportFailed served given source_read behaves = absurd (never_served behaves.1 given behaves.2)

  abbrev EndsWell : ℕ → Type 0
  EndsWell status = (status ≡ 0) ⊎ (status ≡ 4) ⊎ (status ≡ 11)

  module _ (ready : IsReady before.left before.media before.extent) (read : SourceFailed before now → ⊥) (came : WireFailed before now → ⊥) (kept : DiskFailed before now → ⊥) (written : ReportFailed before now → ⊥) where
    same_settings : (settings : SettingsValue) → IfSome before.left (λ bytes. SettingsAre bytes settings) → ready.gives.settings ≡ settings
    same_settings settings told =
        one_settings ready.gives.bytes ready.gives.settings settings ready.gives.are (subst (λ left. IfSome left (λ bytes. SettingsAre bytes settings)) ready.gives.told told)

    -- a disk that is ready isn't refused
    no_refusal : (settings : SettingsValue) → IfSome before.left (λ bytes. SettingsAre bytes settings) → (fault : JournalFault) → Unrecovers settings fault before now → IsFailure fault
    no_refusal settings told fault un =
        let same = same_settings settings told in
        fails_alone settings before.extent ready.seen now.media ready.stored fault (un.cause ready.seen ready.sees) (subst (λ s. HasEntries s ready.seen ready.stored) same ready.image_has)
        (subst (λ s. is_calm s ready.stored ≡ true) same ready.calm) (subst (λ s. needed_of (slots_of s) ≤ before.extent) same ready.large)

    wants_memory : (fault : JournalFault) → IsFailure fault → IsDiskFailure fault before now → EndsWell (recovery_status fault)
    wants_memory faults.NoMemory is failed = inr (inl refl)
    wants_memory faults.DiskFault is failed = absurd (kept failed)
    wants_memory (faults.NotOurs at) is failed = absurd is
    wants_memory (faults.SettingsChanged stored given) is failed = absurd is
    wants_memory (faults.TooSmall needed found) is failed = absurd is

    pub ends_well : (how : Ending) → is_served words ≡ true → Behaves how words before now → EndsWell (status_of how)
    ends_well ending.WrongWords served behaves = absurd (served_is_command words served behaves.0)
    ends_well (ending.Printed how) served behaves = absurd (one_command words served behaves.0)
    ends_well (ending.Refused fault) served behaves = absurd (never_refused fault ready.gives behaves.3)
    ends_well ending.NoMemory served behaves = inr (inl refl)
    ends_well ending.SettingsFailed served behaves = absurd (read behaves.3)
    ends_well (ending.Unrecovered fault) served behaves = wants_memory fault (no_refusal behaves.1 behaves.2 fault behaves.3) behaves.3.failed
    ends_well (ending.Served stop.Ended) served behaves = inl refl
    ends_well (ending.Served stop.NextFailed) served behaves = absurd (came behaves.3.any.2.1)
    ends_well (ending.Served stop.TooMany) served behaves = inr (inr refl)
    ends_well (ending.Served stop.DiskFailed) served behaves = absurd (kept behaves.3.any.2.1)
    ends_well (ending.Served (stop.Unrecovered fault)) served behaves = wants_memory fault (behaves.3.runs_from (by_disk ready.seen ready.sees)).found behaves.3.any.2.1
    ends_well ending.ReportFailed served behaves = absurd (written behaves.3.1)

  no_fault_printed : (word text : List ℕ) → IsReadable word → PrintsFault word text ⊎ PrintsNoHex word text → ⊥
  no_fault_printed word text readable (inl fault) =
      let same = one_text _ _ _ readable.writes.bytes_are fault.writes.bytes_are in
      breaks_no_message _ fault.fault readable.message fault.breaks readable.is (sym same)
  no_fault_printed word text readable (inr no_hex) = no_hex.none (spelling readable.message) readable.writes

  readable_of : (word text : List ℕ) → IsPrinted word (printed.Message text) → IsReadable word
  readable_of word text shows = record { message = shows.message; is = shows.is; writes = shows.writes }

  pub ends_printed : (how : Ending) → is_show words ≡ true → IsReadable (second_of words) → (ReportFailed before now → ⊥) → Behaves how words before now → (status_of how ≡ 0) ⊎ (status_of how ≡ 4)
  ends_printed ending.WrongWords show readable written behaves = absurd (show_is_command words show behaves.0)
  ends_printed (ending.Printed printings.Written) show readable written behaves = inl refl
  ends_printed (ending.Printed printings.Failed) show readable written behaves = absurd (written behaves.2.3)
  ends_printed (ending.Printed printings.Unreadable) show readable written behaves = absurd (no_fault_printed (second_of words) behaves.2.0 readable behaves.2.1)
  ends_printed (ending.Refused fault) show readable written behaves = absurd (one_command words behaves.0 show)
  ends_printed ending.NoMemory show readable written behaves = inr refl
  ends_printed ending.SettingsFailed show readable written behaves = absurd (one_command words behaves.0 show)
  ends_printed (ending.Unrecovered fault) show readable written behaves = absurd (one_command words behaves.0 show)
  ends_printed (ending.Served how) show readable written behaves = absurd (one_command words behaves.0 show)
  ends_printed ending.ReportFailed show readable written behaves = absurd (one_command words behaves.0 show)

  pub ends_unreadable : (how : Ending) → is_show words ≡ true → (IsReadable (second_of words) → ⊥) → Behaves how words before now → (status_of how ≡ 1) ⊎ (status_of how ≡ 4)
  ends_unreadable ending.WrongWords show none behaves = absurd (show_is_command words show behaves.0)
  ends_unreadable (ending.Printed printings.Written) show none behaves = absurd (none (readable_of (second_of words) behaves.2.0 behaves.2.1))
  ends_unreadable (ending.Printed printings.Failed) show none behaves = absurd (none (readable_of (second_of words) behaves.2.0 behaves.2.1))
  ends_unreadable (ending.Printed printings.Unreadable) show none behaves = inl refl
  ends_unreadable (ending.Refused fault) show none behaves = absurd (one_command words behaves.0 show)
  ends_unreadable ending.NoMemory show none behaves = inr refl
  ends_unreadable ending.SettingsFailed show none behaves = absurd (one_command words behaves.0 show)
  ends_unreadable (ending.Unrecovered fault) show none behaves = absurd (one_command words behaves.0 show)
  ends_unreadable (ending.Served how) show none behaves = absurd (one_command words behaves.0 show)
  ends_unreadable ending.ReportFailed show none behaves = absurd (one_command words behaves.0 show)

  -- a status of 2 is that of wrong words alone
  pub wrong_words : (how : Ending) → status_of how ≡ 2 → Behaves how words before now → is_command words ≡ false
  wrong_words ending.WrongWords is behaves = behaves.0
  wrong_words (ending.Printed printings.Written) is behaves = absurd (omega (arith, is))
  wrong_words (ending.Printed printings.Failed) is behaves = absurd (omega (arith, is))
  wrong_words (ending.Printed printings.Unreadable) is behaves = absurd (omega (arith, is))
  wrong_words (ending.Refused fault) is behaves = absurd (omega (arith, is))
  wrong_words ending.NoMemory is behaves = absurd (omega (arith, is))
  wrong_words ending.SettingsFailed is behaves = absurd (omega (arith, is))
  wrong_words (ending.Served stop.Ended) is behaves = absurd (omega (arith, is))
  wrong_words (ending.Served stop.NextFailed) is behaves = absurd (omega (arith, is))
  wrong_words (ending.Served stop.TooMany) is behaves = absurd (omega (arith, is))
  wrong_words (ending.Served stop.DiskFailed) is behaves = absurd (omega (arith, is))
  wrong_words (ending.Served (stop.Unrecovered fault)) is behaves = let out = late_status fault in absurd (omega (arith, is, out))
  wrong_words (ending.Unrecovered fault) is behaves = let out = late_status fault in absurd (omega (arith, is, out))
  wrong_words ending.ReportFailed is behaves = absurd (omega (arith, is))

  pub no_command : (how : Ending) → is_command words ≡ false → Behaves how words before now → status_of how ≡ 2
  no_command ending.WrongWords none behaves = refl
  no_command (ending.Printed how) none behaves = absurd (show_is_command words behaves.0 none)
  no_command (ending.Refused fault) none behaves = absurd (served_is_command words behaves.0 none)
  no_command ending.NoMemory none behaves = absurd (true≢false (sym behaves.0 ∙ none))
  no_command ending.SettingsFailed none behaves = absurd (served_is_command words behaves.0 none)
  no_command (ending.Unrecovered fault) none behaves = absurd (served_is_command words behaves.0 none)
  no_command (ending.Served how) none behaves = absurd (served_is_command words behaves.0 none)
  no_command ending.ReportFailed none behaves = absurd (served_is_command words behaves.0 none)

  -- what must have failed where the status is 5, and where it is 9
  pub has_read : (how : Ending) → status_of how ≡ 5 → Behaves how words before now → SourceFailed before now ⊎ WireFailed before now
  has_read ending.WrongWords is behaves = absurd (omega (arith, is))
  has_read (ending.Printed printings.Written) is behaves = absurd (omega (arith, is))
  has_read (ending.Printed printings.Failed) is behaves = absurd (omega (arith, is))
  has_read (ending.Printed printings.Unreadable) is behaves = absurd (omega (arith, is))
  has_read (ending.Refused fault) is behaves = absurd (omega (arith, is))
  has_read ending.NoMemory is behaves = absurd (omega (arith, is))
  has_read ending.SettingsFailed is behaves = inl behaves.3
  has_read (ending.Served stop.Ended) is behaves = absurd (omega (arith, is))
  has_read (ending.Served stop.NextFailed) is behaves = inr behaves.3.any.2.1
  has_read (ending.Served stop.TooMany) is behaves = absurd (omega (arith, is))
  has_read (ending.Served stop.DiskFailed) is behaves = absurd (omega (arith, is))
  has_read (ending.Served (stop.Unrecovered fault)) is behaves = absurd (no_five fault is)
  has_read (ending.Unrecovered fault) is behaves = absurd (no_five fault is)
  has_read ending.ReportFailed is behaves = absurd (omega (arith, is))

  pub has_written : (how : Ending) → status_of how ≡ 9 → Behaves how words before now → ReportFailed before now
  has_written ending.WrongWords is behaves = absurd (omega (arith, is))
  has_written (ending.Printed printings.Written) is behaves = absurd (omega (arith, is))
  has_written (ending.Printed printings.Failed) is behaves = behaves.2.3
  has_written (ending.Printed printings.Unreadable) is behaves = absurd (omega (arith, is))
  has_written (ending.Refused fault) is behaves = absurd (omega (arith, is))
  has_written ending.NoMemory is behaves = absurd (omega (arith, is))
  has_written ending.SettingsFailed is behaves = absurd (omega (arith, is))
  has_written (ending.Served stop.Ended) is behaves = absurd (omega (arith, is))
  has_written (ending.Served stop.NextFailed) is behaves = absurd (omega (arith, is))
  has_written (ending.Served stop.TooMany) is behaves = absurd (omega (arith, is))
  has_written (ending.Served stop.DiskFailed) is behaves = absurd (omega (arith, is))
  has_written (ending.Served (stop.Unrecovered fault)) is behaves = absurd (no_nine fault is)
  has_written (ending.Unrecovered fault) is behaves = absurd (no_nine fault is)
  has_written ending.ReportFailed is behaves = behaves.3.1

  -- the disk failed where the status is 6
  six : (fault : JournalFault) → recovery_status fault ≡ 6 → IsDiskFailure fault before now → DiskFailed before now
  six faults.DiskFault is failed = failed
  six faults.NoMemory is failed = absurd (omega (arith, is))
  six (faults.NotOurs at) is failed = absurd (omega (arith, is))
  six (faults.SettingsChanged stored given) is failed = absurd (omega (arith, is))
  six (faults.TooSmall needed found) is failed = absurd (omega (arith, is))

  pub has_failed : (how : Ending) → status_of how ≡ 6 → Behaves how words before now → DiskFailed before now
  has_failed ending.WrongWords is behaves = absurd (omega (arith, is))
  has_failed (ending.Printed printings.Written) is behaves = absurd (omega (arith, is))
  has_failed (ending.Printed printings.Failed) is behaves = absurd (omega (arith, is))
  has_failed (ending.Printed printings.Unreadable) is behaves = absurd (omega (arith, is))
  has_failed (ending.Refused fault) is behaves = absurd (omega (arith, is))
  has_failed ending.NoMemory is behaves = absurd (omega (arith, is))
  has_failed ending.SettingsFailed is behaves = absurd (omega (arith, is))
  has_failed (ending.Unrecovered fault) is behaves = six fault is behaves.3.failed
  has_failed (ending.Served stop.Ended) is behaves = absurd (omega (arith, is))
  has_failed (ending.Served stop.NextFailed) is behaves = absurd (omega (arith, is))
  has_failed (ending.Served stop.TooMany) is behaves = absurd (omega (arith, is))
  has_failed (ending.Served stop.DiskFailed) is behaves = behaves.3.any.2.1
  has_failed (ending.Served (stop.Unrecovered fault)) is behaves = six fault is behaves.3.any.2.1
  has_failed ending.ReportFailed is behaves = absurd (omega (arith, is))

  -- the disk is too small where the status is 10
  ten : (settings : SettingsValue) (fault : JournalFault) → recovery_status fault ≡ 10 → IsSmallBy settings before.extent fault → before.extent < needed_of (slots_of settings)
  ten settings (faults.TooSmall needed found) is small =
      let all = small.0 in
      let there = small.1 in
      let less = small.2 in
      omega (arith, all, there, less)
  ten settings faults.NoMemory is small = absurd (omega (arith, is))
  ten settings faults.DiskFault is small = absurd (omega (arith, is))
  ten settings (faults.NotOurs at) is small = absurd (omega (arith, is))
  ten settings (faults.SettingsChanged stored given) is small = absurd (omega (arith, is))

  pub is_too_small : (how : Ending) → status_of how ≡ 10 → Behaves how words before now → IsTooSmall before.left before.extent
  is_too_small ending.WrongWords is behaves = absurd (omega (arith, is))
  is_too_small (ending.Printed printings.Written) is behaves = absurd (omega (arith, is))
  is_too_small (ending.Printed printings.Failed) is behaves = absurd (omega (arith, is))
  is_too_small (ending.Printed printings.Unreadable) is behaves = absurd (omega (arith, is))
  is_too_small (ending.Refused fault) is behaves = absurd (omega (arith, is))
  is_too_small ending.NoMemory is behaves = absurd (omega (arith, is))
  is_too_small ending.SettingsFailed is behaves = absurd (omega (arith, is))
  is_too_small (ending.Unrecovered fault) is behaves =
      record { settings = behaves.1; valid = behaves.3.valid; are = behaves.2; less = ten behaves.1 fault is behaves.3.small }
  is_too_small (ending.Served stop.Ended) is behaves = absurd (omega (arith, is))
  is_too_small (ending.Served stop.NextFailed) is behaves = absurd (omega (arith, is))
  is_too_small (ending.Served stop.TooMany) is behaves = absurd (omega (arith, is))
  is_too_small (ending.Served stop.DiskFailed) is behaves = absurd (omega (arith, is))
  is_too_small (ending.Served (stop.Unrecovered fault)) is behaves = absurd (no_ten fault is behaves.3.sized)
  is_too_small ending.ReportFailed is behaves = absurd (omega (arith, is))

-- no call of the disk failed where the status isn't 6
pub only_six : (how : Ending) (before now : ℕ) → status_of how ≢ 6 → FailsOnly how before now → now ≡ before
only_six ending.WrongWords before now six only = only
only_six (ending.Printed how) before now six only = only
only_six (ending.Refused fault) before now six only = only
only_six ending.NoMemory before now six only = only
only_six ending.SettingsFailed before now six only = only
only_six ending.ReportFailed before now six only = only
only_six (ending.Unrecovered faults.DiskFault) before now six only = absurd (six refl)
only_six (ending.Unrecovered faults.NoMemory) before now six only = only
only_six (ending.Unrecovered (faults.NotOurs at)) before now six only = only
only_six (ending.Unrecovered (faults.SettingsChanged stored given)) before now six only = only
only_six (ending.Unrecovered (faults.TooSmall needed found)) before now six only = only
only_six (ending.Served stop.Ended) before now six only = only
only_six (ending.Served stop.NextFailed) before now six only = only
only_six (ending.Served stop.TooMany) before now six only = only
only_six (ending.Served stop.DiskFailed) before now six only = absurd (six refl)
only_six (ending.Served (stop.Unrecovered faults.DiskFault)) before now six only = absurd (six refl)
only_six (ending.Served (stop.Unrecovered faults.NoMemory)) before now six only = only
only_six (ending.Served (stop.Unrecovered (faults.NotOurs at))) before now six only = only
only_six (ending.Served (stop.Unrecovered (faults.SettingsChanged stored given))) before now six only = only
only_six (ending.Served (stop.Unrecovered (faults.TooSmall needed found))) before now six only = only

-- a status of these is one of an ending before the host is called
pub not_served : (how : Ending) → 1 ≤ status_of how → status_of how ≤ 3 → has_hosted how ≡ false
not_served ending.WrongWords low high = refl
not_served (ending.Printed how) low high = refl
not_served (ending.Refused fault) low high = refl
not_served ending.NoMemory low high = refl
not_served ending.SettingsFailed low high = refl
not_served (ending.Served stop.Ended) low high = absurd (omega (arith, low))
not_served (ending.Served stop.NextFailed) low high = absurd (omega (arith, high))
not_served (ending.Served stop.TooMany) low high = absurd (omega (arith, high))
not_served (ending.Served stop.DiskFailed) low high = absurd (omega (arith, high))
not_served (ending.Served (stop.Unrecovered fault)) low high = let out = late_status fault in absurd (omega (arith, high, out))
not_served (ending.Unrecovered fault) low high = let out = late_status fault in absurd (omega (arith, high, out))
not_served ending.ReportFailed low high = absurd (omega (arith, high))
