-- Domains that are found by name.
use Rattle.std.proofs.Common.{◌≡◌, ℕ, ◌≤◌, ◌<◌, Bool, true, false, cond, List, [], ◌∷◌, length, Option, Some, None, refl, sym, ap, ◌∙◌, arith}
use Rattle.std.specs.Prelude.{slice_get, position, bytes_eq, ◌==◌, option_map, option_and_then}
use Rattle.std.proofs.lemmas.Bool.{cond-true, cond-false, eq-eqb, ne_eqb}
use Rattle.std.proofs.lemmas.Option.{none-some, same_Some, slice_get_past}
use Rattle.dots_settings.specs.declared.domains.DomainRow.{DomainRow}
use Rattle.dots_settings.specs.Settings.{SettingsValue}
use Rattle.dots_settings.specs.Lookups.{no_domain}
use Rattle.host_checks.specs.Migrating.{number_named, number_in}

named_as : (new : SettingsValue) (o : Option DomainRow) (name : List ℕ) → option_map (λ (row : DomainRow). row.name) o ≡ Some name
    → option_and_then (number_named new) o ≡ position (λ (other : DomainRow). bytes_eq name other.name) new.domains
named_as new None name is = absurd (none-some name is)
named_as new (Some row) name is = ap (λ (x : List ℕ). position (λ (other : DomainRow). bytes_eq x other.name) new.domains) (same_Some row.name name is)

pub number_there : (old new : SettingsValue) (domain : ℕ) (name : List ℕ) → (domain == no_domain) ≡ false → option_map (λ (row : DomainRow). row.name) (slice_get old.domains domain) ≡ Some name
    → number_in old new domain ≡ position (λ (other : DomainRow). bytes_eq name other.name) new.domains
number_there old new domain name some is =
    cond-false (domain == no_domain) (Some no_domain) (option_and_then (number_named new) (slice_get old.domains domain)) some ∙ named_as new (slice_get old.domains domain) name is

pub number_beyond : (old new : SettingsValue) (domain : ℕ) → (domain == no_domain) ≡ false → length old.domains ≤ domain → number_in old new domain ≡ None
number_beyond old new domain some far =
    cond-false (domain == no_domain) (Some no_domain) (option_and_then (number_named new) (slice_get old.domains domain)) some
    ∙ ap (option_and_then (number_named new)) (slice_get_past old.domains domain far)

pub number_none : (old new : SettingsValue) (domain : ℕ) → (domain == no_domain) ≡ true → number_in old new domain ≡ Some no_domain
number_none old new domain none = cond-true (domain == no_domain) (Some no_domain) (option_and_then (number_named new) (slice_get old.domains domain)) none
