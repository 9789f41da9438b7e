use Rattle.std.proofs.Common.{◌∙◌, [], refl, sym, subst, arith}
use Rattle.std.proofs.lemmas.List.{take_all}
use Rattle.world_play.specs.Playing.{IsEarly, Goes, RunsSo}
use Rattle.world_play.proofs.Leading.{early_at, goes_on, goes_nowhere, runs_none}
use Rattle.world_play.proofs.played.Played.run.Goals as goal

pub happen-requires : goal.happen-requires
happen-requires c = record {
  sound = c.loop-event.invariant.sound;
  early = subst IsEarly (sym c.event-item.is) (early_at c.args.events.now c.loop-event.event-index c.event-item.result c.requires.early c.loop-event-test.true);
}

pub loop-event-preserved : goal.loop-event-preserved
loop-event-preserved c = record {
  sound = c.in-Ok.ensures.sound;
  parties = c.in-Ok.ensures.parties ∙ c.loop-event.invariant.parties;
  runs = λ settings. goes_on settings c.args.self.parties c.loop-event.played.parties c.args.events.now c.loop-event.event-index c.event-item.result c.args.self c.loop-event.played c.in-Ok.next c.loop-event-test.true c.event-item.is
      c.loop-event.invariant.parties (c.loop-event.invariant.runs settings) (c.in-Ok.ensures.happens settings);
}

pub loop-event-init : goal.loop-event-init
loop-event-init c = record { sound = c.requires.sound; parties = refl; runs = λ settings. goes_nowhere settings (RunsSo settings c.args.self.parties []) c.args.self (runs_none settings c.args.self.parties) }

pub returns : goal.returns
returns c = record {
  runs = λ settings.
      subst (λ events. Goes settings (RunsSo settings c.args.self.parties events) c.args.self c.loop-event.played) (take_all c.loop-event.event-index c.args.events.now (omega (arith, c.loop-event-test.false)))
      (c.loop-event.invariant.runs settings);
}
