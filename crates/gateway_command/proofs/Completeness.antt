-- Which endings are left where the settings are at fault and where nothing is, and what a status says of a run.
use Rattle.std.proofs.Common.{◌≡◌, ◌≢◌, ℕ, ◌≤◌, true, false, List, Some, None, ◌⊎◌, inl, inr, refl, sym, ◌∙◌, ap, subst, arith}
use Rattle.std.proofs.lemmas.Bool.{true≢false}
use Rattle.std.specs.Prelude.{IfSome}
use Rattle.dots_settings.specs.declared.fault.SettingsFault.{SettingsFault}
use Rattle.dots_settings.specs.File.{SettingsAre}
use Rattle.dots_settings.specs.Settings.{SettingsValue}
use Rattle.dots_settings.proofs.OneFile.{no_settings_at_fault, one_settings}
use Rattle.slot_store.specs.Layout.{needed_of}
use Rattle.slot_journal.specs.Sizes.{slots_of}
use Rattle.gateway_agent.specs.Crashes.{HasThe}
use Rattle.gateway_agent.specs.Exchanges.{IsStore, most_young}
use Rattle.gateway_agent.specs.declared.stopping.GatewayEnding.{GatewayEnding}
use Rattle.gateway_agent.specs.Running.{Completes}
use Rattle.dots_machine.specs.Outside.{Outside, SourceFailed, WireFailed, DiskFailed, ReportFailed}
use Rattle.gateway_command.specs.declared.ending.CommandEnding.{CommandEnding}
use Rattle.gateway_command.specs.declared.ending.CommandEnding.TheVariants as ending
use Rattle.gateway_command.specs.Commands.{is_gateway}
use Rattle.gateway_command.specs.Outcomes.{GatewayOutcome}
use Rattle.gateway_command.specs.Running.{status_of, has_hosted, IsAtFault, GivesFault, GivesGateway, Opens, Behaves, IsReady}
use Rattle.gateway_command.proofs.Endings.{EndsWell, ran_late, ran_well, never_nine, wire_failed, disk_failed}

some_or_none : (number : ℕ) → Some number ≡ None → ⊥
some_or_none number e = cc

-- a file gives settings with an upstream or is at fault, and not both
one_or_other : (file : List ℕ) (settings : SettingsValue) (upstream : ℕ) (why : SettingsFault) → SettingsAre file settings → settings.upstream ≡ Some upstream → IsAtFault file why → ⊥
one_or_other file settings upstream why are named (inl fails) = no_settings_at_fault file settings why are fails
one_or_other file settings upstream why are named (inr lacks) =
    some_or_none upstream (sym named ∙ sym (ap (λ (s : SettingsValue). s.upstream) (one_settings file lacks.settings settings lacks.are are)) ∙ lacks.none)

-- memory ran out, the settings couldn't be read, or no read of them failed
abbrev pub SourceReadAll : ℕ → ℕ → CommandEnding → Type 0
SourceReadAll before now how = (how ≡ ending.NoMemory) ⊎ (how ≡ ending.SettingsFailed) ⊎ (now ≡ before)

has_source_read : (before now : ℕ) (how : CommandEnding) → status_of how ≢ 4 → status_of how ≢ 5 → SourceReadAll before now how → now ≡ before
has_source_read before now how four five (inl is) = absurd (four (subst (λ how. status_of how ≡ 4) (sym is) refl))
has_source_read before now how four five (inr (inl is)) = absurd (five (subst (λ how. status_of how ≡ 5) (sym is) refl))
has_source_read before now how four five (inr (inr same)) = same

refused_source_read : (before now : ℕ) (fault : SettingsFault) → SourceReadAll before now (ending.Refused fault) → now ≡ before
refused_source_read before now fault (inl is) = absurd (cc is)
refused_source_read before now fault (inr (inl is)) = absurd (cc is)
refused_source_read before now fault (inr (inr same)) = same

-- a status of these is one of an ending before the host is called
pub not_hosted : (how : CommandEnding) → 1 ≤ status_of how → status_of how ≤ 3 → has_hosted how ≡ false
not_hosted (ending.Refused fault) low high = refl
not_hosted ending.NoMemory low high = refl
not_hosted ending.SettingsFailed low high = refl
not_hosted (ending.Ran how) low high = let late = ran_late how low in absurd (omega (arith, high, late))
not_hosted (ending.ReportFailed waiting) low high = absurd (omega (arith, high))

-- that of other words is of none
pub no_two : (how : CommandEnding) → status_of how ≡ 2 → ⊥
no_two (ending.Refused fault) is = omega (arith, is)
no_two ending.NoMemory is = omega (arith, is)
no_two ending.SettingsFailed is = omega (arith, is)
no_two (ending.Ran how) is = let late = ran_late how (omega (arith, is)) in omega (arith, is, late)
no_two (ending.ReportFailed waiting) is = omega (arith, is)

module _ (before now : Outside) where
  never_served : (settings : SettingsValue) (upstream : ℕ) → settings.upstream ≡ Some upstream → GivesFault before.left → IfSome before.left (λ file. SettingsAre file settings) → ⊥
  never_served settings upstream named given told =
      let are : SettingsAre given.file settings = subst (λ left. IfSome left (λ file. SettingsAre file settings)) given.told told in
      one_or_other given.file settings upstream given.fault are named given.at_fault

  never_refused : (fault : SettingsFault) → GivesGateway before.left → IfSome before.left (λ file. IsAtFault file fault) → ⊥
  never_refused fault given told =
      let at_fault : IsAtFault given.file fault = subst (λ left. IfSome left (λ file. IsAtFault file fault)) given.told told in
      one_or_other given.file given.settings given.upstream fault given.are given.named at_fault

  abbrev EndsRefused : CommandEnding → Type 0
  EndsRefused how =
      ((status_of how ≡ 3) × (now.source_faults ≡ before.source_faults)) ⊎ (status_of how ≡ 4) ⊎ ((status_of how ≡ 5) × SourceFailed before now)

  ends_refused : (how : CommandEnding) → GivesFault before.left → SourceReadAll before.source_faults now.source_faults how → Behaves how before now → EndsRefused how
  ends_refused (ending.Refused fault) given source_read behaves = inl (refl, refused_source_read before.source_faults now.source_faults fault source_read)
  ends_refused ending.NoMemory given source_read behaves = inr (inl refl)
  ends_refused ending.SettingsFailed given source_read behaves = inr (inr (refl, behaves.2))
  ends_refused (ending.Ran how) given source_read behaves = absurd (never_served behaves.0 behaves.2 behaves.3 given behaves.1)
  ends_refused (ending.ReportFailed waiting) given source_read behaves = absurd (never_served behaves.0 behaves.2 behaves.3 given behaves.1)

  -- a disk that is ready isn't refused
  opens_ready : (ready : IsReady before.left before.media before.extent) (settings : SettingsValue) (how : GatewayEnding) → IfSome before.left (λ file. SettingsAre file settings)
      → Opens settings how before.extent before.media → Completes how
  opens_ready ready settings how told opens =
      let same : ready.gives.settings ≡ settings = one_settings ready.gives.file ready.gives.settings settings ready.gives.are
      (subst (λ left. IfSome left (λ file. SettingsAre file settings)) ready.gives.told told) in
      opens ready.seen ready.exchanges ready.sees (subst (λ s. HasThe s ready.exchanges ready.seen) same ready.image_has)
      (subst (λ s. IsStore (most_young (slots_of s)) ready.exchanges) same ready.store) (subst (λ s. needed_of (slots_of s) ≤ before.extent) same ready.large)

  ends_well : IsReady before.left before.media before.extent → (SourceFailed before now → ⊥) → (WireFailed before now → ⊥) → (DiskFailed before now → ⊥) → (ReportFailed before now → ⊥)
      → (how : CommandEnding) → Behaves how before now → EndsWell (WireFailed before now) (DiskFailed before now) (status_of how)
  ends_well ready read came kept written (ending.Refused fault) behaves = absurd (never_refused fault ready.gives behaves.2)
  ends_well ready read came kept written ending.NoMemory behaves = inr (inl refl)
  ends_well ready read came kept written ending.SettingsFailed behaves = absurd (read behaves.2)
  ends_well ready read came kept written (ending.Ran how) behaves =
      let runs = behaves.4 in
      subst (λ g. EndsWell (WireFailed before now) (DiskFailed before now) (status_of (ending.Ran g))) (sym runs.reports_end.0)
      (ran_well (WireFailed before now) (DiskFailed before now) came kept runs.how (opens_ready ready behaves.0 runs.how behaves.1 runs.opens) runs.failed)
  ends_well ready read came kept written (ending.ReportFailed waiting) behaves = absurd (written behaves.4.reports_end.2)

  has_read : (how : CommandEnding) → status_of how ≡ 5 → Behaves how before now → SourceFailed before now ⊎ WireFailed before now
  has_read (ending.Refused fault) is behaves = absurd (omega (arith, is))
  has_read ending.NoMemory is behaves = absurd (omega (arith, is))
  has_read ending.SettingsFailed is behaves = inl behaves.2
  has_read (ending.Ran how) is behaves =
      let runs = behaves.4 in
      inr (wire_failed (WireFailed before now) (DiskFailed before now) runs.how (subst (λ g. status_of (ending.Ran g) ≡ 5) runs.reports_end.0 is) runs.failed)
  has_read (ending.ReportFailed waiting) is behaves = absurd (omega (arith, is))

  has_failed : (how : CommandEnding) → status_of how ≡ 6 → Behaves how before now → DiskFailed before now
  has_failed (ending.Refused fault) is behaves = absurd (omega (arith, is))
  has_failed ending.NoMemory is behaves = absurd (omega (arith, is))
  has_failed ending.SettingsFailed is behaves = absurd (omega (arith, is))
  has_failed (ending.Ran how) is behaves =
      let runs = behaves.4 in
      disk_failed (WireFailed before now) (DiskFailed before now) runs.how (subst (λ g. status_of (ending.Ran g) ≡ 6) runs.reports_end.0 is) runs.failed
  has_failed (ending.ReportFailed waiting) is behaves = absurd (omega (arith, is))

  has_written : (how : CommandEnding) → status_of how ≡ 9 → Behaves how before now → ReportFailed before now
  has_written (ending.Refused fault) is behaves = absurd (omega (arith, is))
  has_written ending.NoMemory is behaves = absurd (omega (arith, is))
  has_written ending.SettingsFailed is behaves = absurd (omega (arith, is))
  has_written (ending.Ran how) is behaves = absurd (never_nine how is)
  has_written (ending.ReportFailed waiting) is behaves = behaves.4.reports_end.2

  -- what the status of a run says
  pub outcome_by : (words : List (List ℕ)) (how : CommandEnding) → is_gateway words ≡ true → SourceReadAll before.source_faults now.source_faults how → Behaves how before now
      → GatewayOutcome words (status_of how) before now
  outcome_by words how asks source_read behaves = record {
    commands = (λ is. absurd (no_two how is), λ none. absurd (true≢false (sym asks ∙ none)));
    read = λ is. has_read how is behaves;
    source_read = λ four five. has_source_read before.source_faults now.source_faults how four five source_read;
    disk = λ is. has_failed how is behaves;
    written = λ is. has_written how is behaves;
    refused = λ _ given. ends_refused how given source_read behaves;
    complete = λ _ ready read came kept written. ends_well ready read came kept written how behaves;
  }

  -- and that of other words
  pub other_words : (words : List (List ℕ)) → is_gateway words ≡ false → now.source_faults ≡ before.source_faults → GatewayOutcome words 2 before now
  other_words words none same = record {
    commands = (λ _. none, λ _. refl);
    read = λ is. absurd (omega (arith, is));
    source_read = λ _ _. same;
    disk = λ is. absurd (omega (arith, is));
    written = λ is. absurd (omega (arith, is));
    refused = λ asks given. absurd (true≢false (sym asks ∙ none));
    complete = λ asks ready read came kept written. absurd (true≢false (sym asks ∙ none));
  }
