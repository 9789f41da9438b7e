use Rattle.std.proofs.Common.{Some, ap, ◌∙◌}
use Rattle.dots_history.specs.Histories.{held}
use Rattle.dots_history.specs.Held.{acls_of}
use Rattle.held_resources.specs.Rows.{HeldRows}
use Rattle.installed_filters.specs.Filters.{FiltersValue}
use Rattle.dots_registry.specs.Gathering.{GatheringValue}
use Rattle.dots_registry.proofs.Filed.{rows_here}
use Rattle.dots_registry.proofs.Gatherings.{ring_there, held_there, name_there, slot_there, lists_there, awaits_write}
use Rattle.dots_registry.proofs.Rings.{made_pairs}
use Rattle.dots_registry.proofs.RegistryValues.{joined, still_of}
use Rattle.dots_registry.proofs.gathering.Gathering.write.Goals as goal

pub write-requires-clause-room : goal.write-requires-clause-room
write-requires-clause-room c =
    lists_there
    (joined c.self.inside.live c.self.inside.held c.self.inside.remembered c.self.inside.filters c.self.inside.last)
    c.args.self.now.tables
    c.args.entry
    c.acls-acls.result.now
    (ap (λ (g : GatheringValue). g.tables) c.self.view_is)
    c.requires.fits
    c.requires.at
    (λ entries held_so. c.acls-acls.ensures entries held_so ∙ ap (λ cuid. acls_of (record { domain = c.args.entry.domain; cuid = cuid }) (held entries)) c.bytes.ensures.value)

pub remember-entry-requires : goal.remember-entry-requires
remember-entry-requires c =
    ring_there
    (joined c.self.inside.live c.self.inside.held c.self.inside.remembered c.self.inside.filters c.self.inside.last)
    c.args.self.now.tables
    c.args.entry
    (ap (λ (g : GatheringValue). g.tables) c.self.view_is)
    c.requires.fits

pub apply-requires-clause-fits : goal.apply-requires-clause-fits
apply-requires-clause-fits c =
    held_there
    (joined c.self.inside.live c.self.inside.held c.self.inside.remembered c.self.inside.filters c.self.inside.last)
    c.args.self.now.tables
    c.args.entry
    c.remember-entry.result
    (ap (λ (g : GatheringValue). g.tables) c.self.view_is)
    c.remember-entry.ensures.entry
    c.requires.fits

pub apply-requires-clause-name : goal.apply-requires-clause-name
apply-requires-clause-name c =
    name_there
    (joined c.self.inside.live c.self.inside.held c.self.inside.remembered c.self.inside.filters c.self.inside.last)
    c.args.self.now.tables
    c.args.entry
    c.remember-entry.result
    (ap (λ (g : GatheringValue). g.tables) c.self.view_is)
    c.remember-entry.ensures.entry
    c.requires.fits

pub apply-requires-clause-room : goal.apply-requires-clause-room
apply-requires-clause-room c =
    slot_there
    (joined c.self.inside.live c.self.inside.held c.self.inside.remembered c.self.inside.filters c.self.inside.last)
    c.args.self.now.tables
    c.args.slot
    c.args.entry
    c.remember-entry.result
    (ap (λ (g : GatheringValue). g.tables) c.self.view_is)
    c.requires.fits
    c.requires.at
    c.remember-entry.ensures.entry

pub returns-clause-awaits : goal.returns-clause-awaits
returns-clause-awaits c = λ settings before is_of awaits place fits.
    awaits_write
    (joined c.self.inside.live c.self.inside.held c.self.inside.remembered c.self.inside.filters c.self.inside.last)
    c.args.self.now.tables
    c.note.new.self
    c.apply.new.self
    c.remember-entry.new.remembered
    c.write.new.self
    c.acls-acls.result.now
    c.args.slot
    settings
    before
    c.args.entry
    c.remember-entry.result
    (ap (λ (g : GatheringValue). g.tables) c.self.view_is)
    is_of
    awaits
    place
    fits
    c.requires.at
    c.remember-entry.ensures.entry
    c.note.ensures.same
    c.apply.ensures.sizes
    (ap (λ (r : HeldRows). r.room) c.apply.ensures.slots)
    c.remember-entry.ensures.rings
    (ap (λ (r : HeldRows). r.rows)
    (rows_here c.self.inside.held.slots c.apply.new.self.slots c.args.slot c.args.entry c.remember-entry.result c.remember-entry.ensures.entry c.apply.ensures.slots))
    (c.note.ensures.represents before)
    (c.apply.ensures.represents before)
    c.note.ensures.slots
    (λ held_so. let entries = before in c.acls-acls.ensures entries held_so ∙ ap (λ cuid. acls_of (record { domain = c.args.entry.domain; cuid = cuid }) (held entries)) c.bytes.ensures.value)
    c.write.ensures

pub returns-clause-settings : goal.returns-clause-settings
returns-clause-settings c = λ settings is_of.
    still_of
    settings
    (joined c.self.inside.live c.self.inside.held c.self.inside.remembered c.self.inside.filters c.self.inside.last)
    c.args.self.now.tables
    c.note.new.self
    c.apply.new.self
    c.remember-entry.new.remembered
    c.write.new.self
    (Some c.args.slot)
    (ap (λ (g : GatheringValue). g.tables) c.self.view_is)
    c.note.ensures.same.domains
    c.note.ensures.same.limits
    c.apply.ensures.sizes
    (made_pairs c.args.slot c.args.entry c.self.inside.remembered c.remember-entry.new.remembered c.remember-entry.ensures.rings)
    (record { scrubs = ap (λ (f : FiltersValue). f.scrub_room) c.write.ensures; acls = ap (λ (f : FiltersValue). f.acl_room) c.write.ensures })
    is_of
