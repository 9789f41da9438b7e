-- The generated run of a number has one report.
use Rattle.std.proofs.Common.{◌≡◌, ℕ, List, [], refl, sym, ap, ◌∙◌, subst}
use Rattle.dots_host.specs.Memory.{Coming}
use Rattle.dots_host.specs.Runs.{resting}
use Rattle.dots_settings.proofs.OneFile.{one_settings}
use Rattle.dots_machine.specs.Machine.{State, begun_from}
use Rattle.dots_machine.specs.Surviving.{Story}
use Rattle.dots_machine.proofs.Surviving.{story_trace}
use Rattle.dots_load.specs.Datagrams.{EachComing, AreBytes}
use Rattle.dots_load.specs.Domains.{settings_text}
use Rattle.dots_load.proofs.Alike.{one_outcome, one_text}
use Rattle.dots_load.proofs.Byting.{all_bytes}
use Rattle.dots_run.specs.Load.{rows_of, LoadReported}
use Rattle.dots_run.proofs.Unwatched.{Unwatching, UnwatchedStep, decided, unwatched_trace, all_unwatching}

pub one_report : (seed : ℕ) (one other : List ℕ) → LoadReported seed one → LoadReported seed other → one ≡ other
one_report seed one other a b =
    let settings = one_settings settings_text b.settings a.settings b.are a.are in
    let first = story_trace a.settings (resting (begun_from a.settings [])) (resting a.end) a.acts a.trace a.run in
    let second = story_trace a.settings (resting (begun_from a.settings [])) (resting b.end) b.acts b.trace (subst (λ s. Story s (resting (begun_from s [])) b.acts b.trace (resting b.end)) settings b.run) in
    let same = a.events ∙ sym b.events in
    let each = subst (λ (came : List Coming). EachComing AreBytes came) (sym a.events) (all_bytes seed) in
    let bytes = subst (λ (came : List Coming). EachComing AreBytes came) (sym b.events) (all_bytes seed) in
    let unwatched = unwatched_trace a.settings (resting (begun_from a.settings [])) a.acts a.trace (resting a.end) each (subst (λ (came : List Coming). EachComing Unwatching came) (sym a.events) (all_unwatching seed)) refl first in
    let also = unwatched_trace a.settings (resting (begun_from a.settings [])) b.acts b.trace (resting b.end) bytes (subst (λ (came : List Coming). EachComing Unwatching came) (sym b.events) (all_unwatching seed)) refl second in
    let outcome = one_outcome (UnwatchedStep a.settings) (decided a.settings) (resting (begun_from a.settings [])) a.acts b.acts a.trace b.trace a.end b.end unwatched also same each a.served b.served in
    a.text_is ∙ one_text a.acts b.acts (rows_of a.end) (rows_of b.end) same outcome.0 (ap (λ (end : State). rows_of end) outcome.1) ∙ sym b.text_is
