use Rattle.std.proofs.Common.{◌<◌, [], ◌∷◌, ◌++◌, map, Some, subst, sym, ap, ◌∙◌}
use Rattle.dots_history.specs.Filed.{entry_of}
use Rattle.dots_registry.specs.RegistryValues.{RegistryValue}
use Rattle.dots_registry.specs.Filed.{RepresentsFiled}
use Rattle.held_resources.specs.Rows.{HeldRows}
use Rattle.dots_registry.proofs.Filed.{name_here, room_here, rows_here, filed_more, room_more}
use Rattle.installed_filters.specs.Filters.{FiltersValue, filters_lost}
use Rattle.held_resources.specs.Tables.{lost_in}
use Rattle.dots_registry.proofs.Filtering.{loss_quiet, loss_within, loss_filtered}
use Rattle.dots_registry.proofs.Rings.{made_pairs}
use Rattle.dots_registry.proofs.RegistryValues.{joined, still_of, fits_ring, held_fits, held_after, write_represents}
use Rattle.dots_registry.proofs.registry.Registry.lose.Goals as goal

pub remember-entry-requires : goal.remember-entry-requires
remember-entry-requires c = fits_ring (joined c.self.inside.live c.self.inside.held c.self.inside.remembered c.self.inside.filters c.self.inside.last) c.args.self.now c.args.entry c.self.view_is c.requires.fits

pub apply-requires-clause-fits : goal.apply-requires-clause-fits
apply-requires-clause-fits c =
    held_fits
    (joined c.self.inside.live c.self.inside.held c.self.inside.remembered c.self.inside.filters c.self.inside.last)
    c.args.self.now
    c.args.entry
    c.remember-entry.result
    c.self.view_is
    c.remember-entry.ensures.entry
    c.requires.fits

pub returns-clause-represents : goal.returns-clause-represents
returns-clause-represents c = λ entries represents.
    write_represents
    (joined c.self.inside.live c.self.inside.held c.self.inside.remembered c.self.inside.filters c.self.inside.last)
    c.args.self.now
    c.note.new.self
    c.apply.new.self
    c.remember-entry.new.remembered
    c.lose.new.self
    (Some c.args.slot)
    c.args.slot
    c.args.entry
    c.remember-entry.result
    entries
    c.self.view_is
    c.remember-entry.ensures.entry
    c.requires.fits
    c.note.ensures.same
    c.apply.ensures.sizes
    c.remember-entry.ensures.rings
    (c.note.ensures.represents entries)
    (c.apply.ensures.represents entries)
    (λ here.
    loss_filtered
    (joined c.self.inside.live c.self.inside.held c.self.inside.remembered c.self.inside.filters c.self.inside.last)
    c.args.self.now
    c.note.new.self
    c.apply.new.self
    c.args.entry
    c.lose.new.self
    entries
    c.self.view_is
    c.requires.fits
    c.requires.at
    c.requires.loss
    c.note.ensures.same
    (c.note.ensures.represents entries here.live)
    (held_after (joined c.self.inside.live c.self.inside.held c.self.inside.remembered c.self.inside.filters c.self.inside.last) c.args.self.now c.apply.new.self c.args.slot c.args.entry c.remember-entry.result entries
    c.self.view_is c.remember-entry.ensures.entry c.requires.fits c.apply.ensures.sizes (c.apply.ensures.represents entries) here)
    (c.lose.ensures ∙ ap (λ rows. filters_lost (lost_in c.apply.new.self) c.args.entry.peer c.args.entry.domain rows c.self.inside.filters) c.rows.ensures.kept)
    here)
    represents

pub returns-clause-settings : goal.returns-clause-settings
returns-clause-settings c = λ settings is_of.
    still_of
    settings
    (joined c.self.inside.live c.self.inside.held c.self.inside.remembered c.self.inside.filters c.self.inside.last)
    c.args.self.now
    c.note.new.self
    c.apply.new.self
    c.remember-entry.new.remembered
    c.lose.new.self
    (Some c.args.slot)
    c.self.view_is
    c.note.ensures.same.domains
    c.note.ensures.same.limits
    c.apply.ensures.sizes
    (made_pairs c.args.slot c.args.entry c.self.inside.remembered c.remember-entry.new.remembered c.remember-entry.ensures.rings)
    (record { scrubs = ap (λ (f : FiltersValue). f.scrub_room) c.lose.ensures; acls = ap (λ (f : FiltersValue). f.acl_room) c.lose.ensures })
    is_of

pub note-requires-clause-quiet : goal.note-requires-clause-quiet
note-requires-clause-quiet c = loss_quiet c.args.entry c.requires.loss

pub rows-requires : goal.rows-requires
rows-requires c =
    subst (λ n. c.args.entry.domain < n) (sym c.note.ensures.same.domains)
    (loss_within (joined c.self.inside.live c.self.inside.held c.self.inside.remembered c.self.inside.filters c.self.inside.last) c.args.self.now c.args.entry
    c.self.view_is c.requires.fits c.requires.loss)

pub apply-requires-clause-name : goal.apply-requires-clause-name
apply-requires-clause-name c =
    name_here (joined c.self.inside.live c.self.inside.held c.self.inside.remembered c.self.inside.filters c.self.inside.last) c.args.self.now c.args.entry c.remember-entry.result
    c.self.view_is c.remember-entry.ensures.entry c.requires.fits

pub apply-requires-clause-room : goal.apply-requires-clause-room
apply-requires-clause-room c =
    room_here (joined c.self.inside.live c.self.inside.held c.self.inside.remembered c.self.inside.filters c.self.inside.last) c.args.self.now c.args.slot c.args.entry
    c.remember-entry.result c.self.view_is c.self.invariant c.requires.fits c.requires.at c.remember-entry.ensures.entry

pub returns-clause-filed : goal.returns-clause-filed
returns-clause-filed c = λ filed represents.
    filed_more
    (joined c.self.inside.live c.self.inside.held c.self.inside.remembered c.self.inside.filters c.self.inside.last)
    c.args.self.now
    c.note.new.self
    c.apply.new.self
    c.remember-entry.new.remembered
    c.lose.new.self
    c.args.slot
    c.args.entry
    filed
    c.self.view_is
    c.requires.fits
    c.note.ensures.same
    c.apply.ensures.sizes
    c.remember-entry.ensures.rings
    (ap (λ (r : HeldRows). r.rows)
    (rows_here c.self.inside.held.slots c.apply.new.self.slots c.args.slot c.args.entry c.remember-entry.result c.remember-entry.ensures.entry c.apply.ensures.slots))
    (c.note.ensures.slots filed)
    (returns-clause-represents c (map entry_of filed))
    represents

pub invariant_of-self : goal.invariant_of-self
invariant_of-self c = record {
  filed = c.self.invariant.filed ++ record { entry = c.args.entry; slot = c.args.slot } ∷ [];
  represents = returns-clause-filed c c.self.invariant.filed (subst (λ (r : RegistryValue). RepresentsFiled r c.self.invariant.filed) c.self.view_is c.self.invariant.represents);
  room = room_more
      (joined c.self.inside.live c.self.inside.held c.self.inside.remembered c.self.inside.filters c.self.inside.last)
      c.note.new.self
      c.apply.new.self
      c.remember-entry.new.remembered
      c.lose.new.self
      (Some c.args.slot)
      c.note.ensures.same
      c.apply.ensures.sizes
      (ap (λ (r : HeldRows). r.room) c.apply.ensures.slots)
      c.self.invariant.room;
}
