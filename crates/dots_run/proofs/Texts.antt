-- A run over a script, from text to text.
use Rattle.std.proofs.Common.{◌≡◌, List, ℕ, [], ◌∷◌, Option, Some, None, false, refl, sym, ap, subst}
use Rattle.dots_host.specs.Acts.{Timed}
use Rattle.dots_host.specs.Runs.{Added}
use Rattle.dots_host.specs.Writing.{AppendsBeginning}
use Rattle.coap_block.specs.Blocks.{Blocks}
use Rattle.coap_block.specs.Around.{AreSeen, HandsOn, IsSeenFrom, no_blocks}
use Rattle.dots_script.specs.Lines.{to_come}
use Rattle.dots_script.specs.Accounts.{Outer, Accounts}
use Rattle.dots_settings.specs.Settings.{SettingsValue}
use Rattle.dots_machine.specs.declared.ending.Ending.{Ending}
use Rattle.dots_machine.specs.declared.ending.Ending.TheVariants as ending
use Rattle.dots_machine.specs.declared.ending.Stop.{Stop}
use Rattle.dots_machine.specs.declared.ending.Stop.TheVariants as stop
use Rattle.dots_host.specs.Media.{byte_of, blank}
use Rattle.dots_host.specs.Beside.{KeepsActs}
use Rattle.slot_store.specs.Gates.{Sees}
use Rattle.slot_journal.proofs.Crashing.{one_history, zeros_have_nothing}
use Rattle.dots_machine.specs.Machine.{State, begun_from}
use Rattle.dots_machine.specs.Outside.{Outside}
use Rattle.dots_machine.specs.Endings.{by_disk, HasRun, RunsFrom, Serves, Reports, Behaves, status_of, has_hosted}
use Rattle.dots_machine.specs.Report.{report_of}
use Rattle.dots_run.specs.Blocks.{seeing, RunsInBlocks}
use Rattle.dots_run.specs.Scripted.{Replays, JoinsTexts}

abbrev pub outer_of : Option (List ℕ) → Option (List ℕ) → ℕ → Outer
outer_of script written failures = record { script = script; written = written; failures = failures }

all_added : (acts : List Timed) (P : List Timed → Type 0) → Added (Some []) (Some acts) P → P acts
all_added acts P a = subst P (sym a.1) a.2

-- where nothing was seen, nothing was handed on
no_more : (acts seen : List Timed) (blocks : Blocks) → AreSeen no_blocks acts seen blocks → KeepsActs (Some []) (Some seen) → acts ≡ []
no_more [] seen blocks are keeps = refl
no_more (act ∷ acts) seen blocks are keeps = absurd (subst (λ seen. AreSeen no_blocks (act ∷ acts) seen blocks) keeps are)

-- the disk of a script's host is told, and holds nothing before the first call
module _ (words : List (List ℕ)) (before after : Outside) (acts seen : List Timed) (blocks : Blocks) (handed_on : AreSeen no_blocks acts seen blocks)
    (none : before.acts ≡ Some []) (some : after.acts ≡ Some seen) (empty : before.media ≡ Some (blank [])) (handed : Option (List Timed)) (told : handed ≡ Some acts) (start now : Outer) (accounts : Accounts start now acts) where
  sees_zeros : Sees before.media (byte_of [])
  sees_zeros = subst (λ media. Sees media (byte_of [])) (sym empty) refl

  stored_nothing : (settings : SettingsValue) (how : Stop) (wrote : State → Type 0) (serves : Serves settings how before after wrote) → serves.stored ≡ []
  stored_nothing settings how wrote serves = one_history settings (byte_of []) serves.stored [] (serves.was_stored (byte_of []) sees_zeros) (zeros_have_nothing settings)

  served : (settings : SettingsValue) (how : Stop) (wrote : State → Type 0) → Serves settings how before after wrote → Replays settings how before after handed start now wrote
  served settings how wrote serves =
      let runs_from = subst (λ stored. RunsFrom settings stored how before after wrote) (stored_nothing settings how wrote serves) (serves.runs_from (by_disk (byte_of []) sees_zeros)) in
      let has_run : Added (Some []) (Some seen) (HasRun settings (begun_from settings []) how before after runs_from.trace runs_from.end) =
      subst (λ old. Added old (Some seen) (HasRun settings (begun_from settings []) how before after runs_from.trace runs_from.end)) none
      (subst (λ new. Added before.acts new (HasRun settings (begun_from settings []) how before after runs_from.trace runs_from.end)) some runs_from.has_run) in
      record {
        acts = acts;
        acts_are = told;
        seen = seen;
        seen_are = some;
        blocks = blocks;
        handed_on = handed_on;
        end = runs_from.end;
        trace = runs_from.trace;
        has_run = all_added seen (HasRun settings (begun_from settings []) how before after runs_from.trace runs_from.end) has_run;
        accounts = accounts;
        reports = runs_from.reports;
      }

  pub joins : (how : Ending) → Behaves how words before after → (has_hosted how ≡ false → now ≡ start) → JoinsTexts how before after handed start now
  joins ending.WrongWords behaves same = same refl
  joins (ending.Printed showing) behaves same = same refl
  joins (ending.Refused fault) behaves same = same refl
  joins ending.SettingsFailed behaves same = same refl
  joins ending.NoMemory behaves same = same refl
  joins (ending.Unrecovered fault) behaves same =
      let silent : KeepsActs (Some []) (Some seen) = subst (λ old. KeepsActs old (Some seen)) none (subst (λ new. KeepsActs before.acts new) some behaves.3.silent) in
      subst (λ acts. Accounts start now acts) (no_more acts seen blocks handed_on silent) accounts
  joins (ending.Served how) behaves same = (behaves.1, behaves.2, served behaves.1 how (Reports how behaves.1 before after) behaves.3)
  joins ending.ReportFailed behaves same =
      (behaves.1, behaves.2, served behaves.1 stop.Ended (λ state. AppendsBeginning before.written after.written (report_of behaves.1 state)) behaves.3.0)

-- the same of a host that had no acts, from which replies leave in blocks
pub joins_blocks : (words : List (List ℕ)) (status : ℕ) (before now : Outside) (acts : List Timed) (uncalled : Type 0) → before.acts ≡ Some [] → now.acts ≡ Some acts
    → before.media ≡ Some (blank []) → (start end : Outer) → Accounts start end acts → (uncalled → end ≡ start) → RunsInBlocks words status before now uncalled
    → (how : Ending) × (seen : List Timed) × (status ≡ status_of how) × IsSeenFrom before.acts now.acts (Some seen) × Behaves how words before (seeing now (Some seen))
    × JoinsTexts how before (seeing now (Some seen)) now.acts start end
joins_blocks words status before now acts uncalled none some empty start end accounts stays did =
    let from : HandsOn [] acts did.seen = subst (λ old. IsSeenFrom old (Some acts) did.seen) none (subst (λ new. IsSeenFrom before.acts new did.seen) some did.handed_on) in
    let behaves = subst (λ seen. Behaves did.ending words before (seeing now seen)) from.seen_is did.behaves in
    let handed_on = subst (λ acts. AreSeen no_blocks acts from.outers from.blocks) (sym from.inner_is) from.are in (
      did.ending,
      from.outers,
      did.status_is,
      subst (IsSeenFrom before.acts now.acts) from.seen_is did.handed_on,
      behaves,
      joins words before (seeing now (Some from.outers)) acts from.outers from.blocks handed_on none refl empty now.acts some start end accounts did.ending behaves (λ idle. stays (did.idle idle)),
    )

nothing_ahead : (left : Option (List ℕ)) → to_come [] left ≡ left
nothing_ahead None = refl
nothing_ahead (Some text) = refl

-- a host stands at first as its source and its sink do
pub is_at_first : (left written : Option (List ℕ)) (failures : ℕ) → outer_of (to_come [] left) written failures ≡ outer_of left written failures
is_at_first left written failures = ap (λ script. outer_of script written failures) (nothing_ahead left)
