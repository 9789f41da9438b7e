-- What is kept of the rows is kept of the settings that they come to.
use Rattle.std.proofs.Common.{◌≡◌, ℕ, suc, ◌+◌, ◌<◌, ◌≤◌, ◌==◌, Bool, true, false, cond, not, ◌||◌, nat_lt, List, [], ◌∷◌, length, map, filter, position, bytes_eq, unwrap_or, option_map, Option, Some, None, is_none, refl, sym, ap, subst, ◌∙◌, true≢false, arith, lt-ltb}
use Rattle.std.specs.Prelude.{count_by}
use Rattle.std.specs.List.{list_any, AllByRecursion, position_or_len}
use Rattle.std.proofs.lemmas.Bool.{leb-true}
use Rattle.std.proofs.lemmas.List.Sums.{length-filter}
use Rattle.std.proofs.lemmas.Slice.Eq.{bytes_eq-Decides}
use Rattle.std.specs.Char.{to_ascii_lowercase}
use Rattle.dots_settings.specs.declared.draft.Address.{Address}
use Rattle.dots_settings.specs.declared.draft.Peer.{Peer}
use Rattle.dots_settings.specs.declared.draft.Scope.{Scope}
use Rattle.dots_settings.specs.declared.names.NameRow.{NameRow}
use Rattle.dots_settings.specs.declared.peer.PeerRow.{PeerRow}
use Rattle.dots_settings.specs.declared.peer.Role.TheVariants as role
use Rattle.dots_settings.specs.Draft.{DraftValue, same_name}
use Rattle.dots_settings.specs.Faults.{is_gateway}
use Rattle.dots_settings.specs.declared.domains.DomainRow.{DomainRow}
use Rattle.dots_settings.specs.Settings.{domain_of, draft_prefixes, draft_role, peer_row_of, name_row_of, draft_addresses, IsNoStranger, IsNoPeer, is_gateway_role}
use Rattle.dots_settings.proofs.Whole.{IsWhole, IsApart, IsDeclared, at_name, all_then}

pub mapped_length : {A B : Type 0} (f : A → B) (xs : List A) → length (map f xs) ≡ length xs
mapped_length f [] = refl
mapped_length f (x ∷ xs) = ap suc (mapped_length f xs)

mapped_filter : {A B : Type 0} (f : A → B) (p : B → Bool) (xs : List A) → length (filter p (map f xs)) ≡ length (filter (λ x. p (f x)) xs)
mapped_filter f p [] = refl
mapped_filter f p (x ∷ xs) = by (mapped_filter f p xs) (p (f x))
  where
    by : length (filter p (map f xs)) ≡ length (filter (λ y. p (f y)) xs) → (b : Bool) → length (cond b (f x ∷ filter p (map f xs)) (filter p (map f xs))) ≡ length (cond b (x ∷ filter (λ y. p (f y)) xs) (filter (λ y. p (f y)) xs))
    by rest true = ap suc rest
    by rest false = rest

mapped_count : {A B : Type 0} (f : A → B) (p : B → Bool) (xs : List A) → count_by p (map f xs) ≡ count_by (λ x. p (f x)) xs
mapped_count f p xs = sym (length-filter p (map f xs)) ∙ mapped_filter f p xs ∙ length-filter (λ x. p (f x)) xs

mapped_all : {A B : Type 0} (f : A → B) (P : B → Type 0) (xs : List A) → AllByRecursion (λ x. P (f x)) xs → AllByRecursion P (map f xs)
mapped_all f P [] all = tt
mapped_all f P (x ∷ xs) all = (all.0, mapped_all f P xs all.1)

-- ---- domains

pub domains_once : (draft : DraftValue) → IsWhole draft → (name : List ℕ) → count_by (λ domain. bytes_eq name domain.name) (map (domain_of draft) draft.domains) ≤ 1
domains_once draft whole name = subst (λ (n : ℕ). n ≤ 1) (sym (mapped_count (domain_of draft) (λ (d : DomainRow). bytes_eq name d.name) draft.domains)) (whole.domains name)

prefix_count : (draft : DraftValue) (name : List ℕ) → length (draft_prefixes draft name) ≡ count_by (λ (scope : Scope). bytes_eq scope.domain name) draft.scopes
prefix_count draft name =
    mapped_length (λ (scope : Scope). scope.prefix) (filter (λ (scope : Scope). bytes_eq scope.domain name) draft.scopes)
    ∙ length-filter (λ (scope : Scope). bytes_eq scope.domain name) draft.scopes

pub prefixes_few : (draft : DraftValue) → IsWhole draft → (names : List (List ℕ)) → AllByRecursion (λ domain. length domain.prefixes ≤ 16) (map (domain_of draft) names)
prefixes_few draft whole [] = tt
prefixes_few draft whole (name ∷ names) = (subst (λ (n : ℕ). n ≤ 16) (sym (prefix_count draft name)) (whole.scopes name), prefixes_few draft whole names)

-- ---- peers

gateway_row : (draft : DraftValue) (peer : Peer) → is_gateway_role (draft_role draft peer.domain) ≡ is_gateway peer
gateway_row draft peer = by peer.domain
  where
    placed : (o : Option ℕ) → is_gateway_role (unwrap_or (option_map role.Client o) role.Stranger) ≡ false
    placed None = refl
    placed (Some place) = refl

    by : (domain : Option (List ℕ)) → is_gateway_role (draft_role draft domain) ≡ is_none domain
    by None = refl
    by (Some name) = placed (position (bytes_eq name) draft.domains)

pub gateways_few : (draft : DraftValue) → IsWhole draft → count_by (λ row. is_gateway_role row.role) (map (peer_row_of draft) draft.peers) ≤ 4
gateways_few draft whole =
    let mapped = mapped_count (peer_row_of draft) (λ (row : PeerRow). is_gateway_role row.role) draft.peers in
    let same : count_by (λ (peer : Peer). is_gateway_role (draft_role draft peer.domain)) draft.peers ≡ count_by is_gateway draft.peers =
    (λ i. count_by (λ (peer : Peer). gateway_row draft peer i) draft.peers) in
    subst (λ (n : ℕ). n ≤ 4) (sym (mapped ∙ same)) whole.peers.gateways

pub peers_once : (draft : DraftValue) → IsWhole draft → (peer : ℕ) → count_by (λ row. row.peer == peer) (map (peer_row_of draft) draft.peers) ≤ 1
peers_once draft whole peer = subst (λ (n : ℕ). n ≤ 1) (sym (mapped_count (peer_row_of draft) (λ (row : PeerRow). row.peer == peer) draft.peers)) (whole.peers.once peer)

place_below : (p : List ℕ → Bool) (xs : List (List ℕ)) → list_any p xs ≡ true → position_or_len p xs < length xs
place_below p [] some = absurd (true≢false (sym some))
place_below p (x ∷ xs) some = by (place_below p xs) (p x) some
  where
    by : (list_any p xs ≡ true → position_or_len p xs < length xs) → (b : Bool) → (b || list_any p xs) ≡ true → cond (not b) (1 + position_or_len p xs) 0 < length (x ∷ xs)
    by rest true e = omega arith
    by rest false e = omega (arith, rest e)

declared_placed : (draft : DraftValue) (domain : Option (List ℕ)) → IsDeclared draft.domains domain → IsNoStranger (draft_role draft domain)
declared_placed draft None is = tt
declared_placed draft (Some name) is = by (nat_lt (position_or_len (bytes_eq name) draft.domains) (length draft.domains)) (lt-ltb _ _ (place_below (bytes_eq name) draft.domains is))
  where
    by : (b : Bool) → b ≡ true → IsNoStranger (unwrap_or (option_map role.Client (cond b (Some (position_or_len (bytes_eq name) draft.domains)) None)) role.Stranger)
    by true e = tt
    by false e = absurd (true≢false (sym e))

pub no_strangers : (draft : DraftValue) → IsWhole draft → AllByRecursion (λ row. IsNoStranger row.role) (map (peer_row_of draft) draft.peers)
no_strangers draft whole =
    mapped_all (peer_row_of draft) (λ (row : PeerRow). IsNoStranger row.role) draft.peers
    (all_then (λ (peer : Peer). IsDeclared draft.domains peer.domain) (λ (peer : Peer). IsNoStranger (draft_role draft peer.domain)) draft.peers (λ peer is. declared_placed draft peer.domain is)
    whole.peers.declared)

any_mapped : {A B : Type 0} (f : A → B) (p : B → Bool) (xs : List A) → list_any p (map f xs) ≡ list_any (λ x. p (f x)) xs
any_mapped f p [] = refl
any_mapped f p (x ∷ xs) = ap (λ b. p (f x) || b) (any_mapped f p xs)

pub upstream_apart : (draft : DraftValue) (upstream : Option ℕ) → IsApart draft.peers upstream → IsNoPeer (map (peer_row_of draft) draft.peers) upstream
upstream_apart draft None apart = tt
upstream_apart draft (Some upstream) apart = any_mapped (peer_row_of draft) (λ (row : PeerRow). row.peer == upstream) draft.peers ∙ apart

-- ---- host names

pub names_once : (draft : DraftValue) → IsWhole draft → (fqdn : List ℕ) → count_by (λ row. same_name fqdn row.name) (map (name_row_of draft) draft.names) ≤ 1
names_once draft whole fqdn = subst (λ (n : ℕ). n ≤ 1) (sym (mapped_count (name_row_of draft) (λ (row : NameRow). same_name fqdn row.name) draft.names)) (whole.names.once fqdn)

address_count : (draft : DraftValue) (fqdn : List ℕ) → length (draft_addresses draft fqdn) ≡ at_name fqdn draft.addresses
address_count draft fqdn =
    mapped_length (λ (address : Address). address.prefix) (filter (λ (address : Address). same_name fqdn address.name) draft.addresses)
    ∙ length-filter (λ (address : Address). same_name fqdn address.name) draft.addresses

same_itself : (name : List ℕ) → same_name name name ≡ true
same_itself name = (bytes_eq-Decides (map to_ascii_lowercase name) (map to_ascii_lowercase name)).1 refl

or_true : (a b : Bool) → b ≡ true → (a || b) ≡ true
or_true true b e = refl
or_true false b e = e

each_among : (names whole : List (List ℕ)) → ((name : List ℕ) → list_any (same_name name) names ≡ true → list_any (same_name name) whole ≡ true)
    → AllByRecursion (λ name. list_any (same_name name) whole ≡ true) names
each_among [] whole within = tt
each_among (name ∷ names) whole within = (
  within name (ap (λ b. b || list_any (same_name name) names) (same_itself name)),
  each_among names whole (λ other is. within other (or_true (same_name other name) _ is)),
)

pub names_addressed : (draft : DraftValue) → IsWhole draft → AllByRecursion (λ row. (1 ≤ length row.prefixes) × (length row.prefixes ≤ 4)) (map (name_row_of draft) draft.names)
names_addressed draft whole =
    mapped_all (name_row_of draft) (λ (row : NameRow). (1 ≤ length row.prefixes) × (length row.prefixes ≤ 4)) draft.names
    (all_then (λ (name : List ℕ). list_any (same_name name) draft.names ≡ true) (λ (name : List ℕ). (1 ≤ length (draft_addresses draft name)) × (length (draft_addresses draft name) ≤ 4)) draft.names
    (λ name is. (
      subst (λ (n : ℕ). 1 ≤ n) (sym (address_count draft name)) (leb-true 1 (at_name name draft.addresses) (sym (whole.names.told name) ∙ is)),
      subst (λ (n : ℕ). n ≤ 4) (sym (address_count draft name)) (whole.names.most name),
    )) (each_among draft.names draft.names (λ name is. is)))
