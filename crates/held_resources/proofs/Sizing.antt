-- How large the number of held entries can be, and that it is that of the capacities.
use Rattle.std.proofs.Common.{◌≡◌, ℕ, ◌+◌, ◌*◌, ◌≤◌, zero, suc, cond, List, [], ◌∷◌, length, refl, ap, ◌∙◌, arith}
use Rattle.std.specs.Prelude.{count_by}
use Rattle.std.specs.List.{flat_map}
use Rattle.std.proofs.Math.Nat.{mul-le-mul_right}
use Rattle.std.proofs.lemmas.List.{length-append}
use Rattle.std.proofs.lemmas.List.Sums.{sum_by-cons}
use Rattle.dots_settings.specs.declared.peer.PeerRow.{PeerRow}
use Rattle.dots_settings.specs.declared.peer.Role.{Role}
use Rattle.dots_settings.specs.declared.peer.Role.TheVariants as role
use Rattle.dots_settings.specs.Settings.{SettingsValue}
use Rattle.dots_settings.specs.Sizes.{most_of_domain}
use Rattle.dots_history.specs.Capacities.{Capacities, most_named}
use Rattle.dots_history.specs.Calm.{numbers_from, loser_by, loser_of}
use Rattle.held_resources.specs.Sizes.{is_client, most_held}

pub of_domains_most : (one other : ℕ) → one ≤ 16 → other ≤ 400 → one * other ≤ 6400
of_domains_most one other low less = omega (arith, mul-le-mul_right other low, less)

so_many : (first n : ℕ) → length (numbers_from first n) ≡ n
so_many first zero = refl
so_many first (suc n) = ap suc (so_many (suc first) n)

no_times : (n : ℕ) → n * 0 ≡ 0
no_times n = omega arith

-- the most that a view names of so many domains where no messages are remembered
pub most_of : (room : Capacities) (n : ℕ) → room.domains ≡ numbers_from 0 n
    → most_named room 0 ≡ n * (2 * room.mitigations + room.clients + room.clients * (room.aliases + room.acls)) + length room.peers + length room.losers + 1
most_of room n domains =
    let each = 2 * room.mitigations + room.clients + room.clients * (room.aliases + room.acls) in
    let none : length room.actors * 0 ≡ 0 = no_times (length room.actors) in
    ap (λ (ds : List ℕ). length ds * each + length room.actors * 0 + length room.peers + length room.losers + 1) domains
    ∙ ap (λ d. d * each + length room.actors * 0 + length room.peers + length room.losers + 1) (so_many 0 n)
    ∙ ap (λ k. n * each + k + length room.peers + length room.losers + 1) none
    ∙ plus_none (n * each) (length room.peers) (length room.losers)
  where
    plus_none : (a b c : ℕ) → a + 0 + b + c + 1 ≡ a + b + c + 1
    plus_none a b c = omega arith

pub most_is : (settings : SettingsValue) (room : Capacities) → room.domains ≡ numbers_from 0 (length settings.domains)
    → room.mitigations ≡ settings.limits.domain_mitigations → room.clients ≡ settings.limits.clients → room.aliases ≡ settings.limits.aliases
    → room.acls ≡ settings.limits.acls → length room.peers ≡ length settings.peers → room.losers ≡ flat_map loser_of settings.peers
    → most_named room 0 ≡ most_held settings
most_is settings room domains mitigations clients aliases acls peers losers =
    let n = length settings.domains in
    let most = most_of_domain settings.limits in
    let own = length room.losers in
    most_of room n domains
    ∙ ap (λ m. n * (2 * m + room.clients + room.clients * (room.aliases + room.acls)) + length room.peers + own + 1) mitigations
    ∙ ap (λ c. n * (2 * settings.limits.domain_mitigations + c + c * (room.aliases + room.acls)) + length room.peers + own + 1) clients
    ∙ ap (λ a. n * (2 * settings.limits.domain_mitigations + settings.limits.clients + settings.limits.clients * (a + room.acls)) + length room.peers + own + 1) aliases
    ∙ ap (λ a. n * (2 * settings.limits.domain_mitigations + settings.limits.clients + settings.limits.clients * (settings.limits.aliases + a)) + length room.peers + own + 1) acls
    ∙ ap (λ p. n * most + p + own + 1) peers
    ∙ ap (λ (ls : List (ℕ × ℕ)). n * most + length settings.peers + length ls + 1) losers

-- ---- client peers

own_many : (peer : ℕ) (r : Role) → length (loser_by peer r) ≡ cond (is_client r) 1 0
own_many peer (role.Client domain) = refl
own_many peer _ = refl

pub clients_many : (peers : List PeerRow) → count_by (λ (row : PeerRow). is_client row.role) peers ≡ length (flat_map loser_of peers)
clients_many [] = refl
clients_many (row ∷ peers) =
    let front = length-append (loser_of row) (flat_map loser_of peers) in
    let own = own_many row.peer row.role in
    let rest = clients_many peers in
    let more = sum_by-cons (λ (r : PeerRow). cond (is_client r.role) 1 0) row peers in
    omega (arith, front, own, rest, more)
