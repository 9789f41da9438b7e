use Rattle.std.proofs.Common.{Some, refl, ap}
use Rattle.dots_registry.specs.Gathering.{GatheringValue}
use Rattle.dots_registry.proofs.Gatherings.{ring_there, put_there, put_fits_there, awaits_put}
use Rattle.dots_registry.proofs.Rings.{made_pairs}
use Rattle.dots_registry.proofs.RegistryValues.{joined, still_of}
use Rattle.dots_registry.proofs.gathering.Gathering.put.Goals as goal

pub remember-entry-requires : goal.remember-entry-requires
remember-entry-requires c =
    ring_there
    (joined c.self.inside.live c.self.inside.held c.self.inside.remembered c.self.inside.filters c.self.inside.last)
    c.args.self.now.tables
    c.args.entry
    (ap (λ (g : GatheringValue). g.tables) c.self.view_is)
    c.requires.fits

pub put-requires-clause-inside : goal.put-requires-clause-inside
put-requires-clause-inside c =
    put_there
    (joined c.self.inside.live c.self.inside.held c.self.inside.remembered c.self.inside.filters c.self.inside.last)
    c.args.self.now.tables
    c.args.entry
    c.remember-entry.result
    (ap (λ (g : GatheringValue). g.tables) c.self.view_is)
    c.remember-entry.ensures.entry
    c.requires.fits
    c.requires.puts

pub put-requires-clause-room : goal.put-requires-clause-room
put-requires-clause-room c =
    put_fits_there
    (joined c.self.inside.live c.self.inside.held c.self.inside.remembered c.self.inside.filters c.self.inside.last)
    c.args.self.now.tables
    c.args.entry
    c.remember-entry.result
    (ap (λ (g : GatheringValue). g.tables) c.self.view_is)
    c.remember-entry.ensures.entry
    c.requires.fits
    c.requires.puts

pub returns-clause-awaits : goal.returns-clause-awaits
returns-clause-awaits c = λ settings before is_of awaits place fits.
    awaits_put
    (joined c.self.inside.live c.self.inside.held c.self.inside.remembered c.self.inside.filters c.self.inside.last)
    c.args.self.now.tables
    c.put.new.self
    c.remember-entry.new.remembered
    c.args.slot
    settings
    before
    c.args.entry
    c.remember-entry.result
    (ap (λ (g : GatheringValue). g.tables) c.self.view_is)
    is_of
    awaits
    place
    fits
    c.requires.at
    c.requires.puts
    c.remember-entry.ensures.entry
    c.put.ensures.same
    c.remember-entry.ensures.rings
    (c.put.ensures.represents before)
    c.put.ensures.slots

pub returns-clause-settings : goal.returns-clause-settings
returns-clause-settings c = λ settings is_of.
    still_of
    settings
    (joined c.self.inside.live c.self.inside.held c.self.inside.remembered c.self.inside.filters c.self.inside.last)
    c.args.self.now.tables
    c.put.new.self
    c.self.inside.held
    c.remember-entry.new.remembered
    c.self.inside.filters
    (Some c.args.slot)
    (ap (λ (g : GatheringValue). g.tables) c.self.view_is)
    c.put.ensures.same.domains
    c.put.ensures.same.limits
    refl
    (made_pairs c.args.slot c.args.entry c.self.inside.remembered c.remember-entry.new.remembered c.remember-entry.ensures.rings)
    (record { scrubs = refl; acls = refl })
    is_of
