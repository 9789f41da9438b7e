use Rattle.std.proofs.Common.{◌≡◌, ℕ, ◌+◌, ◌≤◌, List, ◌++◌, length, sym, ap, ◌∙◌}
use Rattle.std.proofs.lemmas.Bool.{eqb-true}
use Rattle.std.proofs.lemmas.List.{nil_from_length}
use Rattle.std.specs.Prelude.{codes}
use Rattle.dots_host.specs.Memory.{Coming}
use Rattle.dots_script.specs.Accounts.{LineSays}
use Rattle.dots_script.specs.Lines.{with_feed}
use Rattle.dots_script.specs.Summary.{count_line}
use Rattle.dots_script.proofs.Passing.{HasPassed, passed_none, passes, passed_all, passed_fault}
use Rattle.dots_script.proofs.script_check.check_lines.Goals as goal

passes_one : (script rest behind : List ℕ) (number events more : ℕ) → HasPassed script rest number events
    → (line : List ℕ) × (said : List Coming) × (rest ≡ with_feed line ++ behind) × LineSays line said × (length said ≡ more) × (more ≤ 1) → HasPassed script behind (number + 1) (events + more)
passes_one script rest behind number events more old (line, said, split, says, count, few) = passes script rest behind line number events more said old split says count few

pub loop-rest-init : goal.loop-rest-init
loop-rest-init c = passed_none c.args.script.now

pub loop-rest-preserved : goal.loop-rest-preserved
loop-rest-preserved c = passes_one _ _ _ _ _ _ c.loop-rest.invariant c.in-Some.ensures.passed

pub returns-in-Ok : goal.returns-in-Ok
returns-in-Ok c = passed_fault c.args.script.now c.loop-rest.rest.now c.in-Ok.text c.loop-rest.number c.loop-rest.events c.loop-rest.invariant c.in_default.ensures.fault c.in-Ok.ensures

pub returns : goal.returns
returns c =
    let events = c.loop-rest.events in
    passed_all c.args.script.now c.loop-rest.rest.now c.from_vec.result c.loop-rest.number events c.loop-rest.invariant
    (nil_from_length c.loop-rest.rest.now (eqb-true (length c.loop-rest.rest.now) 0 (sym c.loop-rest-test.ensures)))
    (c.from_vec.ensures ∙ c.in_ok-add_count.ensures ∙ ap (λ (y : List ℕ). y ++ count_line (codes "events") events) c.new-text.ensures.items)
