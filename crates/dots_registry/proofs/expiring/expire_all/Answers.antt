use Rattle.std.proofs.Common.{◌≡◌, ◌<◌, refl, sym, ap, ◌∙◌, subst}
use Rattle.dots_registry.proofs.Ended.{others_still}
use Rattle.live_mitigations.specs.LiveValues.{LiveValue, ComesTo, SlotsCome}
use Rattle.dots_history.specs.Histories.{held}
use Rattle.held_resources.specs.Tables.{lost_in}
use Rattle.held_resources.proofs.HistoryTables.{lost_is}
use Rattle.installed_filters.specs.Filters.{FiltersValue, filters_at}
use Rattle.installed_filters.proofs.HistoryRows.{Between, between_first, between_next, between_last}
use Rattle.dots_registry.proofs.expiring.expire_all.Goals as goal

pub loop-domain-init : goal.loop-domain-init
loop-domain-init c = record {
  comes = λ entries comes. comes;
  same = record { domains = refl; limits = refl; time = refl };
  others = λ domain out. refl;
  between = λ entries less alive held_so represents. between_first _ _ _ entries less alive represents;
  room = record { scrubs = refl; acls = refl };
  slots = λ filed come. come;
}

pub loop-domain-preserved : goal.loop-domain-preserved
loop-domain-preserved c =
    let before = c.loop-domain.invariant in
    let same : c.next_due.new.self ≡ c.loop-domain.live = c.next_due.ensures.same in
    record {
      comes = λ entries comes. c.expire.ensures.comes entries (subst (λ (l : LiveValue). ComesTo c.args.now l entries) (sym same) (before.comes entries comes));
      same = record {
        domains = c.expire.ensures.same.domains ∙ ap (λ (l : LiveValue). l.domains) same ∙ before.same.domains;
        limits = c.expire.ensures.same.limits ∙ ap (λ (l : LiveValue). l.limits) same ∙ before.same.limits;
        time = c.expire.ensures.same.time ∙ ap (λ (l : LiveValue). l.time) same ∙ before.same.time;
      };
      others = others_still
          c.loop-domain.ended
          c.in-Some.domain
          c.joined-ended.result
          c.joined-ended.ensures
          c.args.live.now
          c.loop-domain.live
          c.next_due.new.self
          c.expire.new.self
          same
          c.expire.ensures.others
          before.others;
      between = λ entries less alive held_so represents.
          between_next
          (lost_in c.args.held.now)
          c.args.now
          c.in-Some.domain
          c.next_due.new.self
          c.expire.new.self
          c.loop-domain.filters
          c.retain_live.new.self
          entries
          (subst (λ (l : LiveValue). c.in-Some.domain < l.domains) (sym same) c.in-Some.ensures.some.0)
          c.expire.ensures.same
          c.expire.ensures.own
          c.expire.ensures.others
          (lost_is c.args.held.now (held entries) held_so)
          (c.retain_live.ensures ∙ ap (λ kept. filters_at (lost_in c.args.held.now) c.in-Some.domain c.args.now kept c.loop-domain.filters) c.rows.ensures.kept)
          (subst (λ (l : LiveValue). Between c.args.now l c.loop-domain.filters entries) (sym same) (before.between entries less alive held_so represents));
      room = record {
        scrubs = ap (λ (f : FiltersValue). f.scrub_room) c.retain_live.ensures ∙ before.room.scrubs;
        acls = ap (λ (f : FiltersValue). f.acl_room) c.retain_live.ensures ∙ before.room.acls;
      };
      slots = λ filed come. c.expire.ensures.slots filed (subst (λ (l : LiveValue). SlotsCome c.args.now l.tables filed) (sym same) (before.slots filed come));
    }

pub returns-clause-represents : goal.returns-clause-represents
returns-clause-represents c = λ entries less alive held_so represents.
    between_last c.args.now _ c.loop-domain.filters entries c.in_default.ensures.none (c.loop-domain.invariant.between entries less alive held_so represents)
