-- How many entries a compaction keeps is fewer than a half has slots.
use Rattle.std.proofs.Common.{◌≡◌, ℕ, zero, suc, ◌+◌, ◌*◌, ◌<◌, ◌≤◌, cond, List, [], ◌∷◌, length, map, Result, Ok, Err, refl, ap, ◌∙◌, arith}
use Rattle.std.specs.Prelude.{IfOk}
use Rattle.std.specs.List.{AllByRecursion, flat_map}
use Rattle.std.proofs.Math.Nat.{add-mul, mul_comm}
use Rattle.std.proofs.lemmas.List.{length-append, length-map}
use Rattle.std.proofs.lemmas.List.Sums.{sum_by-cons}
use Rattle.dots_settings.specs.declared.peer.PeerRow.{PeerRow}
use Rattle.dots_settings.specs.declared.peer.Role.{Role}
use Rattle.dots_settings.specs.declared.peer.Role.TheVariants as role
use Rattle.dots_settings.specs.Settings.{SettingsValue, IsSettings, IsNoStranger, is_gateway_role}
use Rattle.dots_history.specs.Slots.{Slots}
use Rattle.dots_history.specs.Calm.{numbers_from, loser_by, loser_of}
use Rattle.coap_exchange.specs.Pairs.{below, pairs_with_each, pair_with, pairs_of_role, pairs_of_row, pairs_of}
use Rattle.dots_registry.specs.RegistryValues.{RegistryValue, IsOf}
use Rattle.dots_registry.specs.Filed.{most_kept}
use Rattle.dots_settings.specs.Sizes.{most_of_domain}
use Rattle.slot_journal.specs.Sizes.{is_client_role, clients_of, gateways_of, actors_of, kept_at_most, slots_of}
use Rattle.dots_registry.proofs.LedgerValues.{pair_actor, most_by, most_is}

-- ---- lengths

numbers_many : (first n : ℕ) → length (numbers_from first n) ≡ n
numbers_many first zero = refl
numbers_many first (suc n) = ap suc (numbers_many (suc first) n)

below_many : (n : ℕ) → length (below n) ≡ n
below_many zero = refl
below_many (suc n) = let rest = below_many n in let both = length-append (below n) (n ∷ []) in omega (arith, rest, both)

each_many : (peer domains : ℕ) → length (pairs_with_each peer domains) ≡ domains
each_many peer domains = length-map (below domains) (pair_with peer) ∙ below_many domains

-- ---- the pairs of a peer

role_many : (domains peer : ℕ) (r : Role) → length (pairs_of_role domains peer r) ≡ cond (is_client_role r) 1 0 + cond (is_gateway_role r) 1 0 * (domains + 1)
role_many domains peer role.Stranger = omega arith
role_many domains peer (role.Client domain) = omega arith
role_many domains peer role.Gateway =
    let each = each_many peer domains in
    let both = length-append (pairs_with_each peer domains) (pair_with peer 65535 ∷ []) in
    omega (arith, each, both)

more_clients : (row : PeerRow) (peers : List PeerRow) → clients_of (row ∷ peers) ≡ cond (is_client_role row.role) 1 0 + clients_of peers
more_clients row peers = sum_by-cons (λ (r : PeerRow). cond (is_client_role r.role) 1 0) row peers

more_gateways : (row : PeerRow) (peers : List PeerRow) → gateways_of (row ∷ peers) ≡ cond (is_gateway_role row.role) 1 0 + gateways_of peers
more_gateways row peers = sum_by-cons (λ (r : PeerRow). cond (is_gateway_role r.role) 1 0) row peers

joined_counts : (front back c g cs gs all_cs all_gs more : ℕ) → front ≡ c + g * more → back ≡ cs + gs * more → all_cs ≡ c + cs → all_gs ≡ g + gs
    → front + back ≡ all_cs + all_gs * more
joined_counts front back c g cs gs all_cs all_gs more one rest clients gateways =
    let parts : all_gs * more ≡ g * more + gs * more = ap (λ n. n * more) gateways ∙ add-mul g gs more in
    omega (arith, one, rest, clients, parts)

pairs_many : (domains : ℕ) (peers : List PeerRow) → length (flat_map (pairs_of_row domains) peers) ≡ actors_of domains peers
pairs_many domains [] = omega arith
pairs_many domains (row ∷ peers) =
    length-append (pairs_of_row domains row) (flat_map (pairs_of_row domains) peers)
    ∙ joined_counts
    (length (pairs_of_row domains row))
    (length (flat_map (pairs_of_row domains) peers))
    (cond (is_client_role row.role) 1 0)
    (cond (is_gateway_role row.role) 1 0)
    (clients_of peers)
    (gateways_of peers)
    (clients_of (row ∷ peers))
    (gateways_of (row ∷ peers))
    (domains + 1)
    (role_many domains row.peer row.role)
    (pairs_many domains peers)
    (more_clients row peers)
    (more_gateways row peers)

-- ---- each peer is a client or a gateway

one_of_two : (r : Role) → IsNoStranger r → cond (is_client_role r) 1 0 + cond (is_gateway_role r) 1 0 ≡ 1
one_of_two role.Stranger is = absurd is
one_of_two (role.Client domain) is = refl
one_of_two role.Gateway is = refl

peers_many : (peers : List PeerRow) → AllByRecursion (λ (row : PeerRow). IsNoStranger row.role) peers → length peers ≡ clients_of peers + gateways_of peers
peers_many [] none = refl
peers_many (row ∷ peers) none =
    let rest = peers_many peers none.1 in
    let one = one_of_two row.role none.0 in
    let clients = more_clients row peers in
    let gateways = more_gateways row peers in
    omega (arith, rest, one, clients, gateways)

-- ---- client peers, whose signal may be lost

losers_many : (peers : List PeerRow) → length (flat_map loser_of peers) ≡ clients_of peers
losers_many [] = refl
losers_many (row ∷ peers) =
    let rest = losers_many peers in
    let one = by_role row.role in
    let both = length-append (loser_of row) (flat_map loser_of peers) in
    let clients = more_clients row peers in
    omega (arith, rest, one, both, clients)
  where
    by_role : (r : Role) → length (loser_by row.peer r) ≡ cond (is_client_role r) 1 0
    by_role role.Stranger = refl
    by_role (role.Client domain) = refl
    by_role role.Gateway = refl

-- ---- the whole

sums : (d d' each a a' n p cs gs losers : ℕ) → d ≡ d' → a ≡ a' → p ≡ cs + gs → losers ≡ cs
    → d * each + a * n + p + losers + 1 ≡ (d' * each + n * a' + cs + gs + 1) + cs
sums d d' each a a' n p cs gs losers domains actors peers lost =
    let first : d * each ≡ d' * each = ap (λ k. k * each) domains in
    let second : a * n ≡ n * a' = mul_comm a n ∙ ap (λ k. n * k) actors in
    omega (arith, first, second, peers, lost)

most_at : (settings : SettingsValue) → IsSettings settings → most_by settings ≡ kept_at_most settings + clients_of settings.peers
most_at settings is =
    sums
    (length (numbers_from 0 (length settings.domains)))
    (length settings.domains)
    (most_of_domain settings.limits)
    (length (map pair_actor (pairs_of settings)))
    (actors_of (length settings.domains) settings.peers)
    settings.limits.remembered
    (length (map (λ (row : PeerRow). row.peer) settings.peers))
    (clients_of settings.peers)
    (gateways_of settings.peers)
    (length (flat_map loser_of settings.peers))
    (numbers_many 0 (length settings.domains))
    (length-map (pairs_of settings) pair_actor ∙ pairs_many (length settings.domains) settings.peers)
    (length-map settings.peers (λ (row : PeerRow). row.peer) ∙ peers_many settings.peers is.no_stranger)
    (losers_many settings.peers)

-- a summand is at most the sum
less_sum : (x y c g : ℕ) → c ≤ x + y + c + g + 1
less_sum x y c g = omega arith

clients_fewer : (settings : SettingsValue) → clients_of settings.peers ≤ kept_at_most settings
clients_fewer settings =
    less_sum
    (length settings.domains * most_of_domain settings.limits)
    (settings.limits.remembered * actors_of (length settings.domains) settings.peers)
    (clients_of settings.peers)
    (gateways_of settings.peers)

pub most_below : (settings : SettingsValue) (registry : RegistryValue) → IsSettings settings → IsOf settings registry → most_kept registry < slots_of settings
most_below settings registry is is_of =
    let most = most_is settings registry is_of in
    let at = most_at settings is in
    let clients = clients_fewer settings in
    omega (arith, most, at, clients)

-- a list with as much room as a half has slots
pub kept_room : {E : Type 0} (settings : SettingsValue) (answer : Result Slots E) (room : ℕ) → IsSettings settings → room ≡ slots_of settings
    → IfOk answer (λ list. list ≡ record { items = []; room = room })
    → IfOk answer (λ list. (registry : RegistryValue) → IsOf settings registry → most_kept registry ≤ list.room)
kept_room settings (Ok list) room is slots same = λ registry is_of.
    let less = most_below settings registry is is_of in
    let all = ap (λ (l : Slots). l.room) same in
    omega (arith, less, all, slots)
kept_room settings (Err e) room is slots same = tt
