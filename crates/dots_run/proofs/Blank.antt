-- A disk of zeros is ready for any settings.
use Rattle.std.proofs.Common.{ℕ, ◌+◌, ◌^◌, ◌≤◌, List, [], length, Option, Some, refl, arith}
use Rattle.std.proofs.lemmas.List.Sums.{count_by-le-length}
use Rattle.std.proofs.Math.Nat.{mul-le-mul_right}
use Rattle.dots_host.specs.Media.{byte_of, blank}
use Rattle.dots_settings.specs.declared.limits.Limits.{Limits}
use Rattle.dots_settings.specs.declared.peer.PeerRow.{PeerRow}
use Rattle.dots_settings.specs.Settings.{SettingsValue, AreLimits, IsSettings}
use Rattle.dots_settings.proofs.Sound.{given_settings}
use Rattle.slot_store.specs.Layout.{needed_of}
use Rattle.dots_settings.specs.Sizes.{most_of_domain}
use Rattle.slot_journal.specs.Sizes.{is_client_role, actors_of, slots_of}
use Rattle.slot_journal.proofs.Crashing.{zeros_have_nothing}
use Rattle.dots_machine.specs.Endings.{GivesSettings, IsReady}

of_domain : (limits : Limits) → AreLimits limits → most_of_domain limits ≤ 328
of_domain limits are =
    let mitigations = are.domain_mitigations.1 in
    let clients = are.clients.1 in
    let aliases = are.aliases.1 in
    let acls = are.acls.1 in
    let each = mul-le-mul_right (limits.aliases + limits.acls) clients in
    omega (arith, mitigations, clients, aliases, acls, each)

-- any settings need at most 2^30 bytes
pub needs_little : (settings : SettingsValue) → IsSettings settings → needed_of (slots_of settings) ≤ 2 ^ 30
needs_little settings is =
    let domain = of_domain settings.limits is.limits in
    let domains = mul-le-mul_right (most_of_domain settings.limits) is.few in
    let few = is.few in
    let gateways = is.few_gateways in
    let clients = count_by-le-length (λ (row : PeerRow). is_client_role row.role) settings.peers in
    let peers = is.few_peers in
    let acting = mul-le-mul_right (length settings.domains + 1) gateways in
    let remembered = mul-le-mul_right (actors_of (length settings.domains) settings.peers) is.limits.remembered.1 in
    omega (arith, domain, domains, few, gateways, clients, peers, acting, remembered)

pub ready_blank : (left : Option (List ℕ)) → GivesSettings left → IsReady left (Some (blank [])) (2 ^ 30)
ready_blank left gives = record {
  gives = gives;
  seen = byte_of [];
  sees = refl;
  stored = [];
  image_has = zeros_have_nothing gives.settings;
  calm = refl;
  large = needs_little gives.settings (given_settings gives.bytes gives.settings gives.are);
}
