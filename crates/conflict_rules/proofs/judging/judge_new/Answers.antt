use Rattle.std.proofs.Common.{ap, ◌∙◌, sym, subst, map}
use Rattle.std.specs.List.{list_any}
use Rattle.conflict_rules.specs.Results.{Gives}
use Rattle.conflict_rules.specs.Targets.{is_unknown}
use Rattle.conflict_rules.proofs.Faults.{new_is}
use Rattle.conflict_rules.proofs.judging.judge_new.Goals as goal

pub returns : goal.returns
returns g c =
    subst
    (Gives c.judge_targets.result)
    (new_is
    c.args.settings.now
    (map g.T.Mitigates.live c.args.live.now)
    c.args.aliases.now
    c.args.time
    _
    c.args.request.now
    _
    c.request.view_is
    (ap (list_any (is_unknown c.args.aliases.now)) (sym c.items.ensures) ∙ sym c.some_unknown.ensures ∙ c.if-some_unknown.false)
    c.in_ok-targets.ensures)
    c.judge_targets.ensures
