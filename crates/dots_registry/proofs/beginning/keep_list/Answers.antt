use Rattle.dots_registry.proofs.Sizing.{most_below, kept_room}
use Rattle.dots_registry.proofs.beginning.keep_list.Goals as goal

pub returns-clause-room : goal.returns-clause-room
returns-clause-room c = kept_room c.args.settings.now c.new.result c.slots.result c.limits-limits.ensures.valid c.slots.ensures.slots c.new.ensures

pub returns-clause-fewer : goal.returns-clause-fewer
returns-clause-fewer c = λ registry is_of. most_below c.args.settings.now registry c.limits-limits.ensures.valid is_of
