-- What the readers of settings answer, by the definitions.
use Rattle.std.proofs.Common.{◌≡◌, ◌==◌, ℕ, ◌≤◌, false, cond, find, zero, suc, List, [], ◌∷◌, length, Option, Some, None, refl, sym, ap, ◌∙◌, arith}
use Rattle.std.specs.Prelude.{slice_get, option_map, unwrap_or, IfSome}
use Rattle.std.specs.List.{list_any}
use Rattle.std.specs.Option.{option_map_or}
use Rattle.std.proofs.lemmas.Option.{none-some, same_Some}
use Rattle.ip_scope.specs.Prefix.{PrefixValue}
use Rattle.dots_settings.specs.declared.domains.DomainRow.{DomainRow}
use Rattle.dots_settings.specs.Settings.{SettingsValue, IsNoPeer, IsSettings}
use Rattle.dots_settings.specs.Lookups.{prefixes_of, role_of}
use Rattle.dots_settings.specs.declared.peer.PeerRow.{PeerRow}
use Rattle.dots_settings.specs.declared.peer.Role.TheVariants as role
use Rattle.dots_settings.proofs.Drafts.{both_false}

none_found : (peers : List PeerRow) (peer : ℕ) → list_any (λ row. row.peer == peer) peers ≡ false → find (λ row. row.peer == peer) peers ≡ None
none_found [] peer none = refl
none_found (row ∷ rows) peer none =
    let parts = both_false (row.peer == peer) (list_any (λ (x : PeerRow). x.peer == peer) rows) none in
    ap (λ b. cond b (Some row) (find (λ (x : PeerRow). x.peer == peer) rows)) parts.0 ∙ none_found rows peer parts.1

-- the upstream is a stranger
pub upstream_stranger : (settings : SettingsValue) → IsSettings settings → IfSome settings.upstream (λ peer. role_of settings peer ≡ role.Stranger)
upstream_stranger settings is = by settings.upstream is.no_peer
  where
    by : (o : Option ℕ) → IsNoPeer settings.peers o → IfSome o (λ peer. role_of settings peer ≡ role.Stranger)
    by None apart = tt
    by (Some peer) apart = ap (λ o. unwrap_or (option_map (λ (row : PeerRow). row.role) o) role.Stranger) (none_found settings.peers peer apart)

there : (o : Option DomainRow) (prefixes : List PrefixValue) → option_map (λ (d : DomainRow). d.prefixes) o ≡ Some prefixes
    → option_map_or (λ (d : DomainRow). d.prefixes) o [] ≡ prefixes
there None prefixes is = absurd (none-some prefixes is)
there (Some d) prefixes is = same_Some d.prefixes prefixes is

pub prefixes_there : (settings : SettingsValue) (domain : ℕ) (prefixes : List PrefixValue)
    → option_map (λ (d : DomainRow). d.prefixes) (slice_get settings.domains domain) ≡ Some prefixes → prefixes ≡ prefixes_of settings domain
prefixes_there settings domain prefixes is = sym (there (slice_get settings.domains domain) prefixes is)

none_beyond : (xs : List DomainRow) (k : ℕ) → length xs ≤ k → slice_get xs k ≡ None
none_beyond [] k beyond = refl
none_beyond (x ∷ xs) zero beyond = absurd (omega (arith, beyond))
none_beyond (x ∷ xs) (suc k) beyond = none_beyond xs k (omega (arith, beyond))

pub prefixes_beyond : (settings : SettingsValue) (domain : ℕ) → length settings.domains ≤ domain → [] ≡ prefixes_of settings domain
prefixes_beyond settings domain beyond =
    sym (ap (λ o. option_map_or (λ (d : DomainRow). d.prefixes) o []) (none_beyond settings.domains domain beyond))
