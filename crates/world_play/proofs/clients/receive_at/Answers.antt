use Rattle.std.proofs.Common.{refl, ap, sym, ◌∙◌}
use Rattle.dots_world.specs.Worlds.{answers_to}
use Rattle.world_play.proofs.Handed.{heard_quiet, there_at}
use Rattle.world_play.proofs.clients.receive_at.Goals as goal

pub returns-in-Granted-clause-received : goal.returns-in-Granted-clause-received
returns-in-Granted-clause-received c = record {
  client = c.index_mut-client.result.now;
  there = there_at c.args.clients.now.items c.args.place c.index_mut-client.result.now c.requires.there c.index_mut-client.ensures.value;
  said = c.got.result;
  after = c.got.new.self;
  receives = c.got.ensures;
  enough = λ none. let no = sym c.in-Granted.is ∙ none in cc no;
  leaves = refl;
  posted = heard_quiet c.args.place c.args.behind c.got.result c.args.packets.now.items (ap answers_to c.in-Granted.is);
}

pub returns-in-Withdrawn-clause-received : goal.returns-in-Withdrawn-clause-received
returns-in-Withdrawn-clause-received c = record {
  client = c.index_mut-client.result.now;
  there = there_at c.args.clients.now.items c.args.place c.index_mut-client.result.now c.requires.there c.index_mut-client.ensures.value;
  said = c.got.result;
  after = c.got.new.self;
  receives = c.got.ensures;
  enough = λ none. let no = sym c.in-Withdrawn.is ∙ none in cc no;
  leaves = refl;
  posted = heard_quiet c.args.place c.args.behind c.got.result c.args.packets.now.items (ap answers_to c.in-Withdrawn.is);
}

pub returns-in-Refused-clause-received : goal.returns-in-Refused-clause-received
returns-in-Refused-clause-received c = record {
  client = c.index_mut-client.result.now;
  there = there_at c.args.clients.now.items c.args.place c.index_mut-client.result.now c.requires.there c.index_mut-client.ensures.value;
  said = c.got.result;
  after = c.got.new.self;
  receives = c.got.ensures;
  enough = λ none. let no = sym c.in-Refused.is ∙ none in cc no;
  leaves = refl;
  posted = heard_quiet c.args.place c.args.behind c.got.result c.args.packets.now.items (ap answers_to c.in-Refused.is);
}

pub returns-in-Nothing-clause-received : goal.returns-in-Nothing-clause-received
returns-in-Nothing-clause-received c = record {
  client = c.index_mut-client.result.now;
  there = there_at c.args.clients.now.items c.args.place c.index_mut-client.result.now c.requires.there c.index_mut-client.ensures.value;
  said = c.got.result;
  after = c.got.new.self;
  receives = c.got.ensures;
  enough = λ none. let no = sym c.in-Nothing.is ∙ none in cc no;
  leaves = refl;
  posted = heard_quiet c.args.place c.args.behind c.got.result c.args.packets.now.items (ap answers_to c.in-Nothing.is);
}
