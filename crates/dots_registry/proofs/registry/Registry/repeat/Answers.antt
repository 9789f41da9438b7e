use Rattle.std.proofs.Common.{◌∙◌}
use Rattle.dots_registry.proofs.RegistryValues.{joined}
use Rattle.dots_registry.proofs.Rings.{repeat_is}
use Rattle.dots_registry.proofs.registry.Registry.repeat.Goals as goal

pub returns : goal.returns
returns c = λ entries represents.
    c.look.ensures
    ∙ repeat_is
    (joined c.self.inside.live c.self.inside.held c.self.inside.remembered c.self.inside.filters c.self.inside.last)
    c.args.self.now
    c.time.result
    c.args.peer
    c.args.domain
    c.args.id
    entries
    c.self.view_is
    c.time.ensures
    represents
