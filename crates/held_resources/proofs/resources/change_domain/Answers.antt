use Rattle.std.proofs.Common.{ap, ◌∙◌, sym, refl, subst, set, length}
use Rattle.std.specs.Prelude.{slice_get}
use Rattle.std.proofs.lemmas.Option.{slice_get_read}
use Rattle.held_resources.specs.Tables.{clients_with, update}
use Rattle.held_resources.specs.Accepting.{Takes}
use Rattle.held_resources.proofs.HistoryTables.{set_updated}
use Rattle.held_resources.proofs.resources.change_domain.Goals as goal

pub apply-requires : goal.apply-requires
apply-requires c =
    subst
    (Takes c.args.entry.peer c.args.entry.cuid c.args.entry.change)
    c.index-domains-place.is
    (c.requires
    c.index-domains-place.result
    (ap (slice_get c.args.domains.now) (sym c.from-place.ensures)
    ∙ slice_get_read c.args.domains.now (length c.args.domains.now) c.from-place.result c.index-domains-place.result refl c.if-place-domains.true c.index-domains-place.is))

pub returns-then-place-domains : goal.returns-then-place-domains
returns-then-place-domains c =
    ap
    (set c.args.domains.now c.from-place.result)
    (c.apply.ensures ∙ ap (clients_with c.args.entry.peer c.args.entry.cuid c.args.entry.change) (sym c.index-domains-place.is))
    ∙ set_updated
    (clients_with c.args.entry.peer c.args.entry.cuid c.args.entry.change)
    c.from-place.result
    c.args.domains.now
    c.index-domains-place.result
    c.if-place-domains.true
    c.index-domains-place.is
    ∙ ap (λ i. update (clients_with c.args.entry.peer c.args.entry.cuid c.args.entry.change) i c.args.domains.now) c.from-place.ensures
