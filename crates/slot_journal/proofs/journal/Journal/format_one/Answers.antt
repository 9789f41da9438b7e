use Rattle.std.proofs.Common.{◌⊎◌, []}
use Rattle.slot_store.specs.declared.format.Format.TheVariants.{One}
use Rattle.slot_store.specs.Layout.{IsBlank, IsJournal}
use Rattle.slot_store.proofs.Steps.{leaves_as}
use Rattle.slot_journal.specs.Sizes.{slots_of}
use Rattle.slot_journal.specs.DiskEntries.{HasEntries}
use Rattle.slot_journal.proofs.Crashing.{none_held}
use Rattle.slot_journal.proofs.journal.Journal.format_one.Goals as goal

pub returns-clause-moments : goal.returns-clause-moments
returns-clause-moments g c = λ rests.
    leaves_as (g.D.Disk.media c.args.disk.now) _
    (λ image. IsBlank (slots_of c.args.settings.now) image [] ⊎ IsJournal (slots_of c.args.settings.now) c.args.settings.now.digest One image [])
    (λ image. HasEntries c.args.settings.now image []) (none_held c.args.settings.now)
    (rw (c.slots.ensures.slots, c.digest.ensures.value) at (c.format_one.ensures.moments rests))

pub returns-clause-formatted : goal.returns-clause-formatted
returns-clause-formatted g c = rw (c.slots.ensures.slots, c.digest.ensures.value) at c.format_one.ensures.formatted
