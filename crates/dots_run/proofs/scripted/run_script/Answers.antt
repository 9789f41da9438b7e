use Rattle.std.proofs.Common.{◌≡◌, ◌∙◌, map, string_bytes, refl, ap, subst}
use Rattle.dots_host.specs.Acts.{wire_acts}
use Rattle.dots_host.specs.Logged.{acts_told}
use Rattle.dots_machine.specs.Outside.{Outside}
use Rattle.dots_script.specs.Accounts.{Outer, outer}
use Rattle.dots_script.specs.Scripting.{Scripting}
use Rattle.dots_run.specs.Outcomes.{Outcome}
use Rattle.dots_run.specs.Blocks.{RunsInBlocks}
use Rattle.dots_run.specs.Scripted.{outside_first, outside_with}
use Rattle.dots_run.proofs.Blank.{ready_blank}
use Rattle.dots_run.proofs.Texts.{outer_of, joins_blocks, is_at_first}
use Rattle.dots_run.proofs.Asking.{not_served}
use Rattle.dots_run.proofs.scripted.run_script.Goals as goal

pub returns-in-Ok-clause-runs : goal.returns-in-Ok-clause-runs
returns-in-Ok-clause-runs g c =
    let left = g.P.Source.left in
    let faults = g.P.Source.faults in
    let holds = g.K.Sink.holds in
    let words = map string_bytes c.args.words.now in
    let said = c.run_blocks-status.ensures in
    let status = c.run_blocks-status.result.status in
    let host = c.run_blocks-status.result.host in
    let start : Outer = outer_of (left c.args.script) (holds c.args.sends) (faults c.args.script) in
    let given = g.S.Source.left c.args.settings.now in
    let after : Outside =
    outside_with (g.S.Source.left c.run_blocks-status.new.settings) (g.S.Source.faults c.run_blocks-status.new.settings) host (g.R.Sink.holds c.run_blocks-status.new.report) (g.R.Sink.faults c.run_blocks-status.new.report) in
    let before : (h : Scripting _ _) → Outside =
    λ h. outside_with given (g.S.Source.faults c.args.settings.now) h (g.R.Sink.holds c.args.report.now) (g.R.Sink.faults c.args.report.now) in
    let empty : Outside = outside_first given (g.S.Source.faults c.args.settings.now) (g.R.Sink.holds c.args.report.now) (g.R.Sink.faults c.args.report.now) in
    let first = c.in-Ok.ensures.host in
    let stays : host ≡ c.in-Ok.host → outer left faults holds host ≡ start =
    λ kept. ap (outer left faults holds) (kept ∙ first) ∙ is_at_first (left c.args.script) (holds c.args.sends) (faults c.args.script) in
    let acts = wire_acts 0 host.disk.acts in
    record {
      machine = λ none.
          joins_blocks words status empty after acts (host ≡ c.in-Ok.host) refl refl refl start (outer left faults holds host) (said.leads start c.in-Ok.ensures.accounts) stays
          (subst (λ h. RunsInBlocks words status (before h) after (host ≡ c.in-Ok.host)) first (said.machine none).runs);
      told = λ topic is.
          let (how, status_is, reported) = said.told topic is in
          let kept = said.unserved (not_served words topic is) in
          record {
            how = how;
            status_is = status_is;
            reported = reported;
            no_acts = ap (λ (h : Scripting _ _). acts_told h.disk) (kept ∙ first);
            stays = stays kept;
          };
      outcome = subst (λ h. Outcome words status (before h) after) first said.outcome;
      ready = λ gives. ready_blank given gives;
    }
