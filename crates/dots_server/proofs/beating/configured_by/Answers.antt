use Rattle.std.proofs.Common.{◌≡◌, ◌⊎◌, ℕ, option_map, None, inl, inr, sym, ap, ◌∙◌}
use Rattle.std.proofs.lemmas.Option.{none-some}
use Rattle.dots_settings.specs.declared.peer.Role.TheVariants as role
use Rattle.dots_settings.specs.Lookups.{no_domain}
use Rattle.dots_machine.specs.Domains.{config_domain}
use Rattle.held_resources.specs.Tables.{config_now}
use Rattle.dots_server.proofs.HearingPeers.{configured_by_role}
use Rattle.dots_server.proofs.beating.configured_by.Goals as goal

pub returns-in-Client : goal.returns-in-Client
returns-in-Client c = λ entries represents own.
    configured_by_role c.args.settings.now entries c.args.peer own c.domain_of.result _ (sym c.domain_of.ensures.role) (λ domain is. c.config.ensures entries represents)
    (λ none. by_role c.in-Client.is none)
  where
    by_role : ((domain : ℕ) × (c.domain_of.result ≡ role.Client domain)) ⊎ (c.domain_of.result ≡ role.Gateway) → config_domain c.domain_of.result ≡ None → option_map config_now c.config.result ≡ None
    by_role (inl (domain, is)) none = absurd (none-some domain (sym none ∙ ap config_domain is))
    by_role (inr is) none = absurd (none-some no_domain (sym none ∙ ap config_domain is))
