use Rattle.std.proofs.Common.{rules}
use Rattle.dots_edge.proofs.PlaceLemmas.{sound_written, idle_written}
use Rattle.dots_edge.proofs.connections.Connections.close.Goals as goal

pub invariant_of-self : goal.invariant_of-self
invariant_of-self c =
    let all = c.args.self.now in
    let old = c.in-Some.place.now in
    let new = c.close_at.new.place in
    record {
      sized = search rules;
      idle = idle_written all.places.items all.turn all.looks c.args.conn old new (search rules) c.in-Some.ensures.value all.idle (λ _. c.close_at.ensures.idle);
      sound = sound_written all.places.items c.args.conn old new (search rules) c.in-Some.ensures.value all.sound c.close_at.ensures.sound;
    }
