-- Members that are put in front of others.
use Rattle.std.proofs.Common.{◌≡◌, ℕ, List, [], ◌∷◌, map, refl, ap, ◌∙◌, Less}
use Rattle.std.specs.Prelude.{⊤, codes}
use Rattle.std.specs.Cmp.Lexicographic.{slice_cmp}
use Rattle.std.specs.Ordering.{nat_cmp, match_ordering}
use Rattle.acl_lists.specs.declared.alias.Alias.{Alias}
use Rattle.serde_json.specs.Data.{Data, string, array, Members, no_members, member, put}
use Rattle.serde_json.specs.View.{items_of}
use Rattle.list_json.specs.AliasPrinting.{number_data, prefix_data, range_data, with_items}
use Rattle.list_json.specs.Putting.{put_items, put_asked}

-- the name stands before those of the members
abbrev pub IsBefore : List ℕ → Members → Type 0
IsBefore name no_members = ⊤
IsBefore name (member other d ms) = slice_cmp nat_cmp name other ≡ Less

pub put_first : (name : List ℕ) (d : Data) (ms : Members) → IsBefore name ms → put name d ms ≡ member name d ms
put_first name d no_members before = refl
put_first name d (member other e ms) before =
    ap (λ o. match_ordering o (member name d (member other e ms)) (member other d ms) (member other e (put name d ms))) before

pub put_items_first : {A : Type 0} (name : List ℕ) (write : A → Data) (xs : List A) (ms : Members) → IsBefore name ms → put_items name (map write xs) ms ≡ with_items name write xs ms
put_items_first name write [] ms before = refl
put_items_first name write (x ∷ xs) ms before = put_first name (array (items_of (map write (x ∷ xs)))) ms before

pub before_items : {A : Type 0} (name later : List ℕ) (write : A → Data) (xs : List A) (ms : Members) → slice_cmp nat_cmp name later ≡ Less → IsBefore name ms → IsBefore name (with_items later write xs ms)
before_items name later write [] ms first before = before
before_items name later write (x ∷ xs) ms first before = first

abbrev pub protocol_members : Alias → Members
protocol_members alias = with_items (codes "target-protocol") number_data alias.asked.protocols no_members

abbrev pub prefix_members : Alias → Members
prefix_members alias = with_items (codes "target-prefix") prefix_data alias.asked.prefixes (protocol_members alias)

abbrev pub range_members : Alias → Members
range_members alias = with_items (codes "target-port-range") range_data alias.asked.ports (prefix_members alias)

abbrev pub name_members : Alias → Members
name_members alias = with_items (codes "target-fqdn") string alias.asked.names (range_members alias)

before_protocols : (name : List ℕ) (alias : Alias) → slice_cmp nat_cmp name (codes "target-protocol") ≡ Less → IsBefore name (protocol_members alias)
before_protocols name alias is = before_items name (codes "target-protocol") number_data alias.asked.protocols no_members is tt

before_prefixes : (name : List ℕ) (alias : Alias) → slice_cmp nat_cmp name (codes "target-prefix") ≡ Less → slice_cmp nat_cmp name (codes "target-protocol") ≡ Less → IsBefore name (prefix_members alias)
before_prefixes name alias is later = before_items name (codes "target-prefix") prefix_data alias.asked.prefixes (protocol_members alias) is (before_protocols name alias later)

before_ranges : (name : List ℕ) (alias : Alias) → slice_cmp nat_cmp name (codes "target-port-range") ≡ Less → slice_cmp nat_cmp name (codes "target-prefix") ≡ Less → slice_cmp nat_cmp name (codes "target-protocol") ≡ Less
    → IsBefore name (range_members alias)
before_ranges name alias first is later = before_items name (codes "target-port-range") range_data alias.asked.ports (prefix_members alias) first (before_prefixes name alias is later)

before_names : (alias : Alias) → IsBefore (codes "name") (name_members alias)
before_names alias = before_items (codes "name") (codes "target-fqdn") string alias.asked.names (range_members alias) refl (before_ranges (codes "name") alias refl refl refl)

-- what the members of an alias come to, put in one after the other
pub alias_members : (alias : Alias) (protocols prefixes ranges names all : Members)
    → protocols ≡ put_items (codes "target-protocol") (map number_data alias.asked.protocols) no_members
    → prefixes ≡ put_items (codes "target-prefix") (map prefix_data alias.asked.prefixes) protocols
    → ranges ≡ put_items (codes "target-port-range") (map range_data alias.asked.ports) prefixes
    → names ≡ put_items (codes "target-fqdn") (map string alias.asked.names) ranges
    → all ≡ put (codes "name") (string alias.name) names
    → all ≡ member (codes "name") (string alias.name) (name_members alias)
alias_members alias protocols prefixes ranges names all p q r s t =
    let p' = p ∙ put_items_first (codes "target-protocol") number_data alias.asked.protocols no_members tt in
    let q' = q ∙ ap (put_items (codes "target-prefix") (map prefix_data alias.asked.prefixes)) p' ∙ put_items_first (codes "target-prefix") prefix_data alias.asked.prefixes (protocol_members alias) (before_protocols (codes "target-prefix") alias refl) in
    let r' = r ∙ ap (put_items (codes "target-port-range") (map range_data alias.asked.ports)) q' ∙ put_items_first (codes "target-port-range") range_data alias.asked.ports (prefix_members alias) (before_prefixes (codes "target-port-range") alias refl refl) in
    let s' = s ∙ ap (put_items (codes "target-fqdn") (map string alias.asked.names)) r' ∙ put_items_first (codes "target-fqdn") string alias.asked.names (range_members alias) (before_ranges (codes "target-fqdn") alias refl refl refl) in
    t ∙ ap (put (codes "name") (string alias.name)) s' ∙ put_first (codes "name") (string alias.name) (name_members alias) (before_names alias)

pub alias_put : (alias : Alias) → put (codes "name") (string alias.name) (put_asked alias.asked no_members) ≡ member (codes "name") (string alias.name) (name_members alias)
alias_put alias =
    let asked = alias.asked in
    let protocols = put_items (codes "target-protocol") (map number_data asked.protocols) no_members in
    let prefixes = put_items (codes "target-prefix") (map prefix_data asked.prefixes) protocols in
    let ranges = put_items (codes "target-port-range") (map range_data asked.ports) prefixes in
    let names = put_items (codes "target-fqdn") (map string asked.names) ranges in
    alias_members alias protocols prefixes ranges names (put (codes "name") (string alias.name) names) refl refl refl refl refl
