use Rattle.std.proofs.Common.{ap, ◌∙◌, sym, List}
use Rattle.std.specs.Prelude.{slice_get}
use Rattle.held_resources.specs.Tables.{Clients}
use Rattle.held_resources.proofs.resources.change_clients.Goals as goal

pub change_domain-requires : goal.change_domain-requires
change_domain-requires c =
    λ clients some.
    c.requires clients (ap (λ (list : List Clients). slice_get list c.args.entry.domain) (sym c.as_mut_slice.ensures.value) ∙ some)
