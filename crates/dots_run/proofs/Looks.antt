-- What an onlooker has seen of a run from what the disk held.
use Rattle.std.specs.Prelude.{IfSome}
use Rattle.std.proofs.Common.{◌≡◌, ◌∙◌, ℕ, true, false, List, [], ◌++◌, Option, sym, subst}
use Rattle.std.proofs.lemmas.Bool.{true≢false}
use Rattle.dots_host.specs.Acts.{Timed}
use Rattle.dots_host.specs.declared.act.Act.{Act}
use Rattle.coap_block.specs.Around.{seen_above}
use Rattle.coap_block.proofs.AroundLemmas.{seen_at_first}
use Rattle.dots_machine.specs.Commands.{is_served}
use Rattle.dots_machine.specs.Endings.{IsKnown, Behaves}
use Rattle.dots_run.specs.Blocks.{seeing}
use Rattle.dots_host.specs.Runs.{Owing, Added}
use Rattle.dots_host.specs.Beside.{KeepsActs}
use Rattle.dots_host.proofs.RunLemmas.{added_then}
use Rattle.dots_settings.specs.Settings.{SettingsValue}
use Rattle.dots_settings.specs.File.{SettingsAre}
use Rattle.dots_history.specs.declared.entry.Entry.{Entry}
use Rattle.dots_history.specs.Fits.{is_calm}
use Rattle.dots_machine.specs.declared.ending.Ending.{Ending}
use Rattle.dots_machine.specs.declared.ending.Ending.TheVariants as ending
use Rattle.dots_machine.specs.declared.ending.Stop.{Stop}
use Rattle.dots_machine.specs.declared.ending.Stop.TheVariants as stop
use Rattle.dots_machine.specs.Machine.{State, begun_from}
use Rattle.dots_machine.specs.Outside.{Outside}
use Rattle.dots_server.specs.ServerValues.{ServerValue}
use Rattle.dots_server.specs.Onlooking.{RunIsSeen}
use Rattle.dots_server.proofs.Turning.{none_added}
use Rattle.dots_run.specs.Onlooking.{SawBy, SawRun, Saw, SawWhereKnown}

-- no act was told while the disk was recovered
pub saw_from : (settings : SettingsValue) (stored : List Entry) (before between now : Option (List Timed)) → is_calm settings stored ≡ true → KeepsActs before between
    → (saw : List ServerValue → Type 0) (how : Stop)
    → (trace : List State) × (end : Owing State) × (seen : List ServerValue) × saw seen × Added between now (RunIsSeen settings (begun_from settings stored) trace end how seen)
    → SawRun settings before now how saw
saw_from settings stored before between now calm silent saw how got =
    let (trace, end, seen, has_seen, told) = got in
    let Q : List Timed → Type 0 = RunIsSeen settings (begun_from settings stored) trace end how seen in record {
      stored = stored;
      calm = calm;
      trace = trace;
      end = end;
      seen = seen;
      has_seen = has_seen;
      told = added_then before between now (λ more. more ≡ []) Q Q (none_added before between silent) told (λ front back none q. subst (λ f. Q (f ++ back)) (sym none) q);
    }

-- what was seen of a run that served events, and whatever follows from that
pub saw_served : (how : Ending) (known : Type 0) (saw next : Stop → Type 0) (unseen : Type 0) → SawBy how (λ _. Unit {0}) ⊥ → (known → SawBy how saw ⊥)
    → ((stopped : Stop) → saw stopped → next stopped) → SawBy how (λ stopped. known → next stopped) unseen
saw_served (ending.Served how) known saw next unseen served got follows = λ k. follows how (got k)
saw_served ending.ReportFailed known saw next unseen served got follows = λ k. follows stop.Ended (got k)
saw_served ending.WrongWords known saw next unseen served got follows = absurd served
saw_served (ending.Printed how) known saw next unseen served got follows = absurd served
saw_served (ending.Refused fault) known saw next unseen served got follows = absurd served
saw_served ending.SettingsFailed known saw next unseen served got follows = absurd served
saw_served ending.NoMemory known saw next unseen served got follows = absurd served
saw_served (ending.Unrecovered fault) known saw next unseen served got follows = absurd served

-- what follows from what was seen, and nothing else
saw_more : (how : Ending) (saw next : Stop → Type 0) (unseen : Type 0) → ((stopped : Stop) → saw stopped → next stopped) → SawBy how saw unseen → SawBy how next unseen
saw_more (ending.Served how) saw next unseen follows got = follows how got
saw_more ending.ReportFailed saw next unseen follows got = follows stop.Ended got
saw_more ending.WrongWords saw next unseen follows got = got
saw_more (ending.Printed how) saw next unseen follows got = got
saw_more (ending.Refused fault) saw next unseen follows got = got
saw_more ending.SettingsFailed saw next unseen follows got = got
saw_more ending.NoMemory saw next unseen follows got = got
saw_more (ending.Unrecovered fault) saw next unseen follows got = got

-- what follows where nothing was seen
pub saw_unseen : (how : Ending) (saw : Stop → Type 0) (unseen next : Type 0) → (unseen → next) → SawBy how saw unseen → SawBy how saw next
saw_unseen (ending.Served how) saw unseen next follows got = got
saw_unseen ending.ReportFailed saw unseen next follows got = got
saw_unseen ending.WrongWords saw unseen next follows got = follows got
saw_unseen (ending.Printed how) saw unseen next follows got = follows got
saw_unseen (ending.Refused fault) saw unseen next follows got = follows got
saw_unseen ending.SettingsFailed saw unseen next follows got = follows got
saw_unseen ending.NoMemory saw unseen next follows got = follows got
saw_unseen (ending.Unrecovered fault) saw unseen next follows got = follows got

-- words that aren't served show nothing
pub saw_nothing : (how : Ending) (words : List (List ℕ)) (before now : Outside) → is_served words ≡ false → Behaves how words before now → (saw : Stop → Type 0) {unseen : Type 0} → unseen → SawBy how saw unseen
saw_nothing (ending.Served how) words before now none behaves saw is = absurd (true≢false (sym behaves.0 ∙ none))
saw_nothing ending.ReportFailed words before now none behaves saw is = absurd (true≢false (sym behaves.0 ∙ none))
saw_nothing ending.WrongWords words before now none behaves saw is = is
saw_nothing (ending.Printed how) words before now none behaves saw is = is
saw_nothing (ending.Refused fault) words before now none behaves saw is = is
saw_nothing ending.SettingsFailed words before now none behaves saw is = is
saw_nothing ending.NoMemory words before now none behaves saw is = is
saw_nothing (ending.Unrecovered fault) words before now none behaves saw is = is

-- the settings are those that the source gave
pub saw_given : (how : Ending) (before now : Outside) (settings : SettingsValue) (unseen : Type 0) (saw : List ServerValue → Type 0) → IfSome before.left (λ bytes. SettingsAre bytes settings)
    → SawBy how (λ stopped. IsKnown before now → SawRun settings before.acts now.acts stopped saw) unseen → SawWhereKnown how before now unseen saw
saw_given how before now settings unseen saw given got =
    saw_more how (λ stopped. IsKnown before now → SawRun settings before.acts now.acts stopped saw) (λ stopped. IsKnown before now → Saw before now stopped saw) unseen
    (λ stopped run known. record { settings = settings; given = given; run = run known }) got

-- the same of the acts as they were seen above
pub saw_above : (how : Ending) (before now : Outside) (log : List Act) (unseen : Type 0) (saw : List ServerValue → Type 0)
    → SawWhereKnown how (seeing before (seen_above before.acts [])) (seeing now (seen_above now.acts log)) unseen saw → SawWhereKnown how before (seeing now (seen_above now.acts log)) unseen saw
saw_above how before now log unseen saw got = subst (λ acts. SawWhereKnown how (seeing before acts) (seeing now (seen_above now.acts log)) unseen saw) (seen_at_first before.acts) got
