use Rattle.std.proofs.Common.{◌≡◌, ℕ, Bool, List, Option, map, ap, ◌∙◌, sym, subst, arith}
use Rattle.std.specs.Prelude.{slice_get}
use Rattle.dots_history.specs.Histories.{Mitigation}
use Rattle.conflict_rules.specs.LiveViews.{LiveView, live_views_of, live_views_in}
use Rattle.live_mitigations.proofs.Room.{views_are}
use Rattle.dots_registry.specs.RegistryValues.{RegistryValue, Represents, time_of, domains_of}
use Rattle.dots_registry.specs.ObserverViews.{seen_of}
use Rattle.held_resources.specs.Tables.{lost_in}
use Rattle.conflict_rules.specs.Statuses.{view_with, views_in}
use Rattle.dots_registry.proofs.RegistryValues.{joined}
use Rattle.dots_registry.proofs.ViewRows.{views_so}
use Rattle.dots_registry.proofs.Seeing.{few_views}
use Rattle.dots_registry.proofs.registry.Registry.view.Goals as goal

pub returns-then-domain-domains-clause-few : goal.returns-then-domain-domains-clause-few
returns-then-domain-domains-clause-few c = few_views c.args.self.now c.args.domain c.args.cuid.now c.args.mid

pub returns-then-domain-domains-clause-history : goal.returns-then-domain-domains-clause-history
returns-then-domain-domains-clause-history c = λ entries represents inside.
    let here : Represents (joined c.self.inside.live c.self.inside.held c.self.inside.remembered c.self.inside.filters c.self.inside.last) entries
    = subst (λ (r : RegistryValue). Represents r entries) (sym c.self.view_is) represents in
    let lost = lost_in c.self.inside.held in
    let seen_by : (ℕ → ℕ → Bool) → List LiveView → Option (ℕ × ℕ) = λ test views. slice_get (seen_of c.args.mid (map (view_with test c.args.domain) views)) c.args.place in
    c.view_of.ensures c.self.inside.live.time
    ∙ ap (λ (ms : List Mitigation). seen_by lost (live_views_of c.self.inside.live.time c.args.cuid.now ms)) (c.rows.ensures.live entries here.live)
    ∙ ap (seen_by lost) (views_are c.self.inside.live.time c.args.domain c.args.cuid.now entries)
    ∙ ap
    (λ (views : List LiveView). slice_get (seen_of c.args.mid views) c.args.place)
    (views_so c.self.inside.held entries c.args.domain (live_views_in c.args.domain c.args.cuid.now c.self.inside.live.time entries) here.held)
    ∙ ap (λ (r : RegistryValue). slice_get (seen_of c.args.mid (views_in c.args.domain c.args.cuid.now (time_of r) entries)) c.args.place) c.self.view_is

pub returns-clause-history : goal.returns-clause-history
returns-clause-history c = λ entries represents inside.
    let same : c.self.inside.live.domains ≡ domains_of c.args.self.now = ap domains_of c.self.view_is in
    absurd (omega (arith, inside, same, c.domains.ensures, c.if-domain-domains.false))
