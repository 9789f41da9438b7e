use Rattle.std.proofs.Common.{◌≡◌, false, ◌&&◌, sym, ap, ◌∙◌, subst}
use Rattle.std.specs.Prelude.{◌||◌, ◌==◌}
use Rattle.std.specs.List.{list_any}
use Rattle.std.proofs.lemmas.Bool.{or_left}
use Rattle.dots_history.specs.Histories.{Mitigation, mitigations, held}
use Rattle.dots_history.specs.Rows.{triggers}
use Rattle.dots_history.specs.HistoryReading.{is_mitigated}
use Rattle.dots_registry.specs.RegistryValues.{RegistryValue, Represents, time_of}
use Rattle.dots_registry.proofs.RegistryValues.{joined}
use Rattle.dots_registry.proofs.Mitigating.{of_lost, by_kind}
use Rattle.dots_registry.proofs.registry.Registry.mitigating.Goals as goal

pub returns-then-triggers : goal.returns-then-triggers
returns-then-triggers c = λ entries represents.
    let here : Represents (joined c.self.inside.live c.self.inside.held c.self.inside.remembered c.self.inside.filters c.self.inside.last) entries
    = subst (λ (r : RegistryValue). Represents r entries) (sym c.self.view_is) represents in
    let ms = mitigations c.self.inside.live.time entries in
    subst
    (λ t. c.triggers.result ≡ is_mitigated t entries c.args.peer)
    (ap time_of c.self.view_is)
    (c.if-triggers.true
    ∙ sym (by_kind (held entries) c.args.peer ms
    ∙ or_left
    (list_any (λ (m : Mitigation). (m.put.peer == c.args.peer) && triggers m.put.change) ms)
    (list_any (of_lost (held entries) c.args.peer) ms)
    (sym (c.triggers.ensures entries here.live) ∙ c.if-triggers.true)))

pub returns-else-triggers : goal.returns-else-triggers
returns-else-triggers c = λ entries represents.
    let here : Represents (joined c.self.inside.live c.self.inside.held c.self.inside.remembered c.self.inside.filters c.self.inside.last) entries
    = subst (λ (r : RegistryValue). Represents r entries) (sym c.self.view_is) represents in
    let ms = mitigations (time_of c.args.self.now) entries in
    c.has_lost_one.ensures entries represents
    ∙ sym (by_kind (held entries) c.args.peer ms
    ∙ ap
    (λ b. b || list_any (of_lost (held entries) c.args.peer) ms)
    (subst
    (λ t. list_any (λ (m : Mitigation). (m.put.peer == c.args.peer) && triggers m.put.change) (mitigations t entries) ≡ false)
    (ap time_of c.self.view_is)
    (sym (c.triggers.ensures entries here.live) ∙ c.if-triggers.false)))
