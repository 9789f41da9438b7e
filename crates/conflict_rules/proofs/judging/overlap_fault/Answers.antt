use Rattle.std.proofs.Common.{Some, ap, ◌∙◌, map}
use Rattle.conflict_rules.specs.Wanted.{wanted}
use Rattle.conflict_rules.specs.ByOverlap.{resolved}
use Rattle.conflict_rules.specs.declared.fault.PutFault.TheVariants as faults
use Rattle.conflict_rules.specs.Marking.{marked}
use Rattle.conflict_rules.proofs.Faults.{fault_is, marked_meeting}
use Rattle.conflict_rules.proofs.judging.overlap_fault.Goals as goal

pub returns-in_ok-prefixes-in-Other : goal.returns-in_ok-prefixes-in-Other
returns-in_ok-prefixes-in-Other g c =
    ap
    (λ ps. Some (faults.Other ps))
    (c.in_ok-prefixes-in-Other.ensures
    ∙ ap (λ ts. marked (resolved ts) c.in-Other.meeting) c.items.ensures
    ∙ marked_meeting
    (map g.T.Mitigates.live c.args.live.now)
    c.request.inside.cuid.now
    (wanted c.request.inside.mid c.request.inside.asked.now c.args.targets.now c.request.inside.trigger)
    c.limits-limits.result
    c.in-Other.meeting c.in-Other.ensures)
    ∙ fault_is c.args.settings.now (map g.T.Mitigates.live c.args.live.now) c.args.targets.now _ c.args.request.now _ _ c.request.view_is c.limits-limits.ensures.value c.in-Other.ensures

pub returns-in-Full : goal.returns-in-Full
returns-in-Full g c =
    fault_is c.args.settings.now (map g.T.Mitigates.live c.args.live.now) c.args.targets.now _ c.args.request.now _ _ c.request.view_is c.limits-limits.ensures.value c.in-Full.ensures

pub returns-in-Fresh : goal.returns-in-Fresh
returns-in-Fresh g c =
    fault_is c.args.settings.now (map g.T.Mitigates.live c.args.live.now) c.args.targets.now _ c.args.request.now _ _ c.request.view_is c.limits-limits.ensures.value c.in-Fresh.ensures
