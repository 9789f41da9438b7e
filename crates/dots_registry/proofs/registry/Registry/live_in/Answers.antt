use Rattle.std.proofs.Common.{◌≡◌, List, length, sym, ap, subst, ◌∙◌}
use Rattle.std.proofs.lemmas.List.{length-map}
use Rattle.dots_history.specs.declared.entry.Entry.{Entry}
use Rattle.dots_history.specs.Histories.{mitigations}
use Rattle.dots_history.specs.Views.{mitigations_of}
use Rattle.live_mitigations.specs.LiveRows.{mitigation_of}
use Rattle.dots_registry.specs.RegistryValues.{RegistryValue, Represents, time_of}
use Rattle.dots_registry.proofs.InDomains.{number_bare}
use Rattle.dots_registry.proofs.registry.Registry.live_in.Goals as goal

pub returns : goal.returns
returns c =
    subst
    (λ (registry : RegistryValue). (entries : List Entry) → Represents registry entries → length c.rows.result.now ≡ length (mitigations_of c.args.domain (mitigations (time_of registry) entries)))
    c.self.view_is
    (λ entries represents. sym (length-map c.rows.result.now mitigation_of) ∙ ap length (c.rows.ensures.live entries represents.live) ∙ number_bare c.args.domain c.self.inside.live.time entries)
