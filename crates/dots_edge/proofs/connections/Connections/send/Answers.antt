use Rattle.std.proofs.Common.{rules}
use Rattle.dots_edge.proofs.PlaceLemmas.{sound_written, opened_written, none_beyond}
use Rattle.dots_edge.proofs.connections.Connections.send.Goals as goal

pub invariant_of-self : goal.invariant_of-self
invariant_of-self c =
    let all = c.args.self.now in
    let old = c.in-Some.place.now in
    let new = c.send_at.new.place in
    record {
      sized = search rules;
      idle = λ place _ far. absurd (none_beyond all.turn place far);
      sound = sound_written all.places.items c.args.conn old new (search rules) c.in-Some.ensures.value all.sound c.send_at.ensures.sound;
    }

pub returns-in-Some-clause-open : goal.returns-in-Some-clause-open
returns-in-Some-clause-open c =
    opened_written c.args.self.now.places.items c.args.conn c.in-Some.place.now c.send_at.new.place (search rules) c.in-Some.ensures.value c.send_at.ensures.opened
