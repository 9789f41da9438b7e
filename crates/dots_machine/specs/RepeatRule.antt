-- Which requests come to the rule on repeats, and for how long it knows a message.
use Rattle.std.specs.Prelude.{◌≡◌, ℕ, Some, None}
use Rattle.coap_message.specs.declared.kind.Kind.{Kind}
use Rattle.coap_message.specs.declared.kind.Kind.TheVariants.{Con}
use Rattle.dots_settings.specs.declared.peer.Role.{Role}
use Rattle.dots_settings.specs.Settings.{SettingsValue}
use Rattle.dots_settings.specs.Lookups.{prefixes_of}
use Rattle.dots_keys.specs.declared.request.Request.{Request}
use Rattle.dots_keys.specs.declared.request.Request.TheVariants as request
use Rattle.dots_machine.specs.Domains.{domain_for, config_domain}
use Rattle.conflict_rules.specs.AskableTargets.{scope_fault}

-- A peer of this role asks to change what is kept of this domain, and nothing is wrong with the form of that: it is a PUT of a mitigation for
-- what may be asked for, a DELETE of one, or a PUT or DELETE of a session configuration.
abbrev pub AsksToChange : SettingsValue → Role → ℕ → Request → Type 0
AsksToChange settings who domain (request.PutMitigation path body) =
    (domain_for settings who path.cdid ≡ Some domain) × ((mid : ℕ) × (path.mid ≡ Some mid))
    × (scope_fault settings (prefixes_of settings domain) body.asked ≡ None)
AsksToChange settings who domain (request.DeleteMitigation path) =
    (domain_for settings who path.cdid ≡ Some domain) × ((mid : ℕ) × (path.mid ≡ Some mid))
AsksToChange settings who domain (request.PutConfig sid body) = config_domain who ≡ Some domain
AsksToChange settings who domain (request.DeleteConfig sid) = config_domain who ≡ Some domain
AsksToChange settings who domain _ = ⊥

-- for how many seconds a message may be heard again (RFC 7252, section 4.8.2: EXCHANGE_LIFETIME and NON_LIFETIME)
abbrev pub remembered_for : Kind → ℕ
remembered_for Con = 247
remembered_for _ = 145
