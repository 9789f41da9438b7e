use Rattle.std.proofs.Common.{arith, rules}
use Rattle.dots_edge.proofs.PlaceLemmas.{sound_written, idle_written, opened_written}
use Rattle.dots_edge.proofs.connections.Connections.turn_of.Goals as goal

pub invariant_of-self : goal.invariant_of-self
invariant_of-self c =
    let all = c.args.self.now in
    let old = c.in-Some.place.now in
    let new = c.turn_at.new.place in
    record {
      sized = search rules;
      idle = idle_written all.places.items all.turn all.looks c.args.place old new (search rules) c.in-Some.ensures.value all.idle (λ far _. absurd (omega (arith, far, c.requires.looks)));
      sound = sound_written all.places.items c.args.place old new (search rules) c.in-Some.ensures.value all.sound c.turn_at.ensures.sound;
    }

pub returns-in-Some-clause-open : goal.returns-in-Some-clause-open
returns-in-Some-clause-open c =
    opened_written c.args.self.now.places.items c.args.place c.in-Some.place.now c.turn_at.new.place (search rules) c.in-Some.ensures.value c.turn_at.ensures.opened
