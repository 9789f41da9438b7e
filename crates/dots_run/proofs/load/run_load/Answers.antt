use Rattle.std.proofs.Common.{◌∙◌, ◌==◌, List, string_bytes, sym, ap}
use Rattle.std.proofs.lemmas.Result.{IfOk-weaker}
use Rattle.std.specs.Prelude.{count_by}
use Rattle.dots_host.specs.declared.act.Act.{Act}
use Rattle.dots_host.specs.Acts.{wire_acts}
use Rattle.dots_load.specs.Report.{sends_in, unavailable, load_text}
use Rattle.dots_run.specs.Load.{LoadReported}
use Rattle.dots_run.proofs.Generating.{load_told}
use Rattle.dots_run.proofs.load.run_load.Goals as goal

pub returns-then-is_served : goal.returns-then-is_served
returns-then-is_served c =
    let whole = sym c.whole.ensures ∙ c.if-whole.true in
    let served = ap (λ (acts : List Act). count_by unavailable (sends_in (wire_acts 0 acts)) == 0) (sym c.acts.ensures) ∙ sym c.is_served.ensures ∙ c.if-is_served.true in
    IfOk-weaker c.report_of.result _ (λ text. LoadReported c.args.seed (string_bytes text))
    (λ text is.
    load_told c.args.seed c.in_ok-host.host c.serve_to_end.new.host c.in_ok-rows.rows (string_bytes text) c.in_ok-host.ensures.coming c.in_ok-host.ensures.acts.0 c.serve_to_end.ensures.hands whole
    (c.in_ok-rows.ensures.served whole) served (is ∙ ap (λ (acts : List Act). load_text (wire_acts 0 acts) c.in_ok-rows.rows) c.acts-then-is_served.ensures)) c.report_of.ensures
