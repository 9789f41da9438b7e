use Rattle.std.proofs.Common.{[], ◌∷◌, ◌++◌, map, Some, refl, ap, sym, ◌∙◌, ◌≤◌, length, subst}
use Rattle.dots_history.specs.Filed.{entry_of}
use Rattle.dots_registry.specs.RegistryValues.{RegistryValue}
use Rattle.dots_registry.specs.Filed.{RepresentsFiled}
use Rattle.dots_history.specs.Tables.{bare}
use Rattle.dots_registry.proofs.Filed.{quiet_rows, filed_more, room_more}
use Rattle.dots_registry.proofs.Rings.{made_pairs}
use Rattle.dots_registry.proofs.RegistryValues.{joined, still_of, fits_ring, put_inside, put_room, put_represents}
use Rattle.held_resources.specs.Tables.{lost_in}
use Rattle.installed_filters.specs.Filters.{FiltersValue, filters_put}
use Rattle.dots_registry.proofs.Filtering.{put_fits, put_filtered, put_within}
use Rattle.dots_registry.proofs.registry.Registry.put.Goals as goal

pub remember-entry-requires : goal.remember-entry-requires
remember-entry-requires c = fits_ring (joined c.self.inside.live c.self.inside.held c.self.inside.remembered c.self.inside.filters c.self.inside.last) c.args.self.now c.args.entry c.self.view_is c.requires.fits

pub put-requires-2-clause-inside : goal.put-requires-2-clause-inside
put-requires-2-clause-inside c =
    put_inside
    (joined c.self.inside.live c.self.inside.held c.self.inside.remembered c.self.inside.filters c.self.inside.last)
    c.args.self.now
    c.args.entry
    c.remember-entry.result
    c.self.view_is
    c.remember-entry.ensures.entry
    c.requires.fits
    c.requires.puts

pub put-requires-2-clause-room : goal.put-requires-2-clause-room
put-requires-2-clause-room c =
    put_room
    (joined c.self.inside.live c.self.inside.held c.self.inside.remembered c.self.inside.filters c.self.inside.last)
    c.args.self.now
    c.args.entry
    c.remember-entry.result
    c.self.view_is
    c.remember-entry.ensures.entry
    c.requires.fits
    c.requires.puts

pub returns-clause-represents : goal.returns-clause-represents
returns-clause-represents c = λ entries represents.
    put_represents
    (joined c.self.inside.live c.self.inside.held c.self.inside.remembered c.self.inside.filters c.self.inside.last)
    c.args.self.now
    c.put-2.new.self
    c.remember-entry.new.remembered
    c.put.new.self
    (Some c.args.slot)
    c.args.slot
    c.args.entry
    c.remember-entry.result
    entries
    c.self.view_is
    c.remember-entry.ensures.entry
    c.requires.fits
    c.requires.puts
    c.put-2.ensures.same
    c.remember-entry.ensures.rings
    (c.put-2.ensures.represents entries)
    (put_filtered (joined c.self.inside.live c.self.inside.held c.self.inside.remembered c.self.inside.filters c.self.inside.last) c.args.self.now c.args.entry c.put.new.self entries c.self.view_is c.requires.fits c.requires.at c.requires.puts
    (c.put.ensures ∙ ap (λ kept. filters_put (lost_in c.self.inside.held) c.args.entry kept c.self.inside.filters) c.rows.ensures.kept))
    represents

pub returns-clause-settings : goal.returns-clause-settings
returns-clause-settings c = λ settings is_of.
    still_of
    settings
    (joined c.self.inside.live c.self.inside.held c.self.inside.remembered c.self.inside.filters c.self.inside.last)
    c.args.self.now
    c.put-2.new.self
    c.self.inside.held
    c.remember-entry.new.remembered
    c.put.new.self
    (Some c.args.slot)
    c.self.view_is
    c.put-2.ensures.same.domains
    c.put-2.ensures.same.limits
    refl
    (made_pairs c.args.slot c.args.entry c.self.inside.remembered c.remember-entry.new.remembered c.remember-entry.ensures.rings)
    (record { scrubs = ap (λ (f : FiltersValue). f.scrub_room) c.put.ensures; acls = ap (λ (f : FiltersValue). f.acl_room) c.put.ensures })
    is_of

pub rows-requires : goal.rows-requires
rows-requires c = put_within (joined c.self.inside.live c.self.inside.held c.self.inside.remembered c.self.inside.filters c.self.inside.last) c.args.self.now c.args.entry c.self.view_is c.requires.fits c.requires.puts

pub put-requires-clause-room : goal.put-requires-clause-room
put-requires-clause-room c =
    subst
    (λ kept. length (filters_put (lost_in c.self.inside.held) c.args.entry kept c.self.inside.filters).scrubs ≤ c.self.inside.filters.scrub_room)
    (sym c.rows.ensures.kept)
    (put_fits (joined c.self.inside.live c.self.inside.held c.self.inside.remembered c.self.inside.filters c.self.inside.last) c.args.self.now c.args.entry c.self.view_is c.requires.fits c.requires.at c.requires.puts)

pub returns-clause-filed : goal.returns-clause-filed
returns-clause-filed c = λ filed represents.
    filed_more
    (joined c.self.inside.live c.self.inside.held c.self.inside.remembered c.self.inside.filters c.self.inside.last)
    c.args.self.now
    c.put-2.new.self
    c.self.inside.held
    c.remember-entry.new.remembered
    c.put.new.self
    c.args.slot
    c.args.entry
    filed
    c.self.view_is
    c.requires.fits
    c.put-2.ensures.same
    refl
    c.remember-entry.ensures.rings
    (quiet_rows (record { entry = c.args.entry; slot = c.args.slot }) c.self.inside.held.slots.rows c.requires.puts)
    (c.put-2.ensures.slots filed c.args.entry (ap bare (sym c.remember-entry.ensures.entry)))
    (returns-clause-represents c (map entry_of filed))
    represents

pub invariant_of-self : goal.invariant_of-self
invariant_of-self c = record {
  filed = c.self.invariant.filed ++ record { entry = c.args.entry; slot = c.args.slot } ∷ [];
  represents = returns-clause-filed c c.self.invariant.filed (subst (λ (r : RegistryValue). RepresentsFiled r c.self.invariant.filed) c.self.view_is c.self.invariant.represents);
  room = room_more
      (joined c.self.inside.live c.self.inside.held c.self.inside.remembered c.self.inside.filters c.self.inside.last)
      c.put-2.new.self
      c.self.inside.held
      c.remember-entry.new.remembered
      c.put.new.self
      (Some c.args.slot)
      c.put-2.ensures.same
      refl
      refl
      c.self.invariant.room;
}
