-- Runs and their reports.
use Rattle.std.proofs.Common.{◌≡◌, ℕ, Bool, false, List, ◌++◌, Option, Result, Ok, Err, subst}
use Rattle.std.specs.Prelude.{flat_map}
use Rattle.std.proofs.lemmas.Bool.{false≢true}
use Rattle.dots_host.specs.declared.event.Event.TheVariants as event
use Rattle.dots_host.specs.Acts.{Timed}
use Rattle.dots_host.specs.Runs.{Trace, resting, Added, EndsBy}
use Rattle.dots_host.proofs.RunLemmas.{added_weaker}
use Rattle.dots_client.specs.declared.granted.Granted.{Granted}
use Rattle.dots_host.specs.declared.turns.Halt.{Halt}
use Rattle.dots_host.specs.declared.turns.Stop.{Stop}
use Rattle.dots_host.specs.declared.turns.Stop.TheVariants as stop
use Rattle.dots_host.specs.Stopping.{StopsBy, until, is_over_by}
use Rattle.dots_host.proofs.Until.{plain_run}
use Rattle.dots_host.specs.AgentWriting.{Wrote}
use Rattle.dots_host.proofs.Wrote.{wrote_both, wrote_first}
use Rattle.ask_agent.specs.declared.unsent.Unsent.{Unsent}
use Rattle.ask_agent.specs.declared.ending.AskEnding.{AskEnding}
use Rattle.ask_agent.specs.Asking.{AskState, step}
use Rattle.ask_agent.specs.Running.{Stops, HasAsked}
use Rattle.ask_agent.specs.Report.{unsent_line, granted_line, report_of}

pub report_both : {E : Type 0} (result : Result Unit E) (state : AskState) (asks : List Unsent) (rows : List Granted) (old mid new : Option (List ℕ)) (before between now : ℕ) → asks ≡ state.unsent
    → rows ≡ state.client.ledger → Wrote {E = E} old before mid between (Ok tt) (flat_map unsent_line asks) → Wrote mid between new now result (flat_map granted_line rows)
    → Wrote old before new now result (report_of state)
report_both result state asks rows old mid new before between now these those first second =
    subst (λ (us : List Unsent). Wrote old before new now result (flat_map unsent_line us ++ flat_map granted_line state.client.ledger)) these
    (subst (λ (rs : List Granted). Wrote old before new now result (flat_map unsent_line asks ++ flat_map granted_line rs)) those
    (wrote_both result old mid new before between now (flat_map unsent_line asks) (flat_map granted_line rows) first second))

pub report_lost : {E : Type 0} (fault : E) (state : AskState) (asks : List Unsent) (old new : Option (List ℕ)) (before now : ℕ) → asks ≡ state.unsent
    → Wrote old before new now (Err fault) (flat_map unsent_line asks) → Wrote old before new now (Err fault) (report_of state)
report_lost fault state asks old new before now these first =
    subst (λ (us : List Unsent). Wrote old before new now (Err fault) (flat_map unsent_line us ++ flat_map granted_line state.client.ledger)) these
    (wrote_first fault old new before now (flat_map unsent_line asks) (flat_map granted_line state.client.ledger) first)

-- ---- a client that goes on until the end

abbrev pub never : AskState → Bool
never state = false

-- it is never over, so End came
pub ended : (why : Stop) (acts : List Timed) → false ≡ is_over_by (Ok why) → StopsBy (Ok why) acts → EndsBy event.End acts
ended stop.End acts over ends = ends
ended stop.Over acts over goes = absurd (false≢true over)

pub has_asked : (start end : AskState) (how : AskEnding) (result : Result Stop Halt) (old new : Option (List Timed)) → ((acts : List Timed) → StopsBy result acts → Stops how acts)
    → Added old new (λ more. ((trace : List AskState) × Trace (until never step) (resting start) more trace (resting end)) × StopsBy result more) → Added old new (HasAsked start how end)
has_asked start end how result old new stops came =
    added_weaker old new _ _ came
    (λ more ran. record { trace = ran.0.0; run = plain_run never step (resting start) (resting end) more ran.0.0 ran.0.1; stops = stops more ran.1 })
