use Rattle.std.proofs.Common.{ap, ◌∙◌, sym, subst, map, Ok, arith}
use Rattle.std.proofs.lemmas.List.{length-map}
use Rattle.conflict_rules.specs.Requests.{Request, ClientValue}
use Rattle.conflict_rules.specs.Judging.{refreshed, judge_new, judge_put}
use Rattle.conflict_rules.specs.Results.{Gives}
use Rattle.conflict_rules.proofs.Mids.{asked_by, within_there, taken, at_place, refreshes, changes, is_new}
use Rattle.conflict_rules.proofs.judging.judge_put.Goals as goal

pub put_at-requires : goal.put_at-requires
put_at-requires g c =
    let there = at_place c.args.settings.now (map g.T.Mitigates.live c.args.live.now) c.args.client.now c.args.time
    (asked_by c.request.inside.peer c.request.inside.cuid.now c.request.inside.mid c.request.inside.asked.now c.request.inside.lifetime c.request.inside.trigger)
    (sym c.is_of_another.ensures ∙ c.if-is_of_another.false)
    c.in-Refresh.at
    (sym c.in-Refresh.ensures) in
    let within = within_there (map g.T.Mitigates.live c.args.live.now) c.in-Refresh.at there.0 there.1 in
    omega (arith, within, length-map c.args.live.now g.T.Mitigates.live)

pub returns-in-Collision : goal.returns-in-Collision
returns-in-Collision g c =
    ap (judge_put c.args.settings.now (map g.T.Mitigates.live c.args.live.now) c.args.client.now c.args.time) (sym c.request.view_is)
    ∙ taken c.args.settings.now (map g.T.Mitigates.live c.args.live.now) c.args.client.now c.args.time
    (asked_by c.request.inside.peer c.request.inside.cuid.now c.request.inside.mid c.request.inside.asked.now c.request.inside.lifetime c.request.inside.trigger)
    (sym c.is_of_another.ensures ∙ c.if-is_of_another.false)
    (sym c.in-Collision.ensures)

pub returns-in-Changed : goal.returns-in-Changed
returns-in-Changed g c =
    ap (judge_put c.args.settings.now (map g.T.Mitigates.live c.args.live.now) c.args.client.now c.args.time) (sym c.request.view_is)
    ∙ changes c.args.settings.now (map g.T.Mitigates.live c.args.live.now) c.args.client.now c.args.time
    (asked_by c.request.inside.peer c.request.inside.cuid.now c.request.inside.mid c.request.inside.asked.now c.request.inside.lifetime c.request.inside.trigger)
    (sym c.is_of_another.ensures ∙ c.if-is_of_another.false)
    (sym c.in-Changed.ensures)

pub returns-in-Refresh : goal.returns-in-Refresh
returns-in-Refresh g c =
    let there = at_place c.args.settings.now (map g.T.Mitigates.live c.args.live.now) c.args.client.now c.args.time
    (asked_by c.request.inside.peer c.request.inside.cuid.now c.request.inside.mid c.request.inside.asked.now c.request.inside.lifetime c.request.inside.trigger)
    (sym c.is_of_another.ensures ∙ c.if-is_of_another.false)
    c.in-Refresh.at
    (sym c.in-Refresh.ensures) in
    subst
    (Gives c.refreshed.result)
    (sym (ap (judge_put c.args.settings.now (map g.T.Mitigates.live c.args.live.now) c.args.client.now c.args.time) (sym c.request.view_is)
    ∙ refreshes c.args.settings.now (map g.T.Mitigates.live c.args.live.now) c.args.client.now c.args.time
    (asked_by c.request.inside.peer c.request.inside.cuid.now c.request.inside.mid c.request.inside.asked.now c.request.inside.lifetime c.request.inside.trigger)
    (sym c.is_of_another.ensures ∙ c.if-is_of_another.false)
    c.in-Refresh.at
    there.0
    (sym c.in-Refresh.ensures)
    there.1
    ∙ ap (λ (r : Request). Ok (refreshed c.args.settings.now there.0.put r)) c.request.view_is
    ∙ ap (λ put. Ok (refreshed c.args.settings.now put c.args.request.now)) (sym (c.put_at.ensures there.0 there.1))))
    c.refreshed.ensures

pub returns-in-New : goal.returns-in-New
returns-in-New g c =
    subst
    (Gives c.judge_new.result)
    (sym (ap (judge_put c.args.settings.now (map g.T.Mitigates.live c.args.live.now) c.args.client.now c.args.time) (sym c.request.view_is)
    ∙ is_new c.args.settings.now (map g.T.Mitigates.live c.args.live.now) c.args.client.now c.args.time
    (asked_by c.request.inside.peer c.request.inside.cuid.now c.request.inside.mid c.request.inside.asked.now c.request.inside.lifetime c.request.inside.trigger)
    (sym c.is_of_another.ensures ∙ c.if-is_of_another.false)
    (sym c.in-New.ensures)
    ∙ ap (judge_new c.args.settings.now (map g.T.Mitigates.live c.args.live.now) c.args.client.now.aliases c.args.time) c.request.view_is
    ∙ ap
    (λ (v : ClientValue). judge_new c.args.settings.now (map g.T.Mitigates.live c.args.live.now) v.aliases c.args.time c.args.request.now)
    (sym c.client.view_is)))
    c.judge_new.ensures
