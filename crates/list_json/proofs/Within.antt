-- What was read is within bounds.
use Rattle.std.proofs.Common.{◌≡◌, ℕ, ◌≤◌, List, [], ◌∷◌, length, Option, Some, None, Result, Ok, refl, ap, ◌∙◌, subst, arith}
use Rattle.std.specs.Prelude.{codes, ok_or}
use Rattle.std.proofs.lemmas.Bool.{leb-true}
use Rattle.acl_lists.specs.declared.ace.Ace.{Ace}
use Rattle.acl_lists.specs.declared.acl.Acl.{Acl}
use Rattle.acl_lists.specs.declared.acl.Activation.TheVariants as activation
use Rattle.acl_lists.specs.declared.alias.Alias.{Alias}
use Rattle.acl_lists.specs.declared.asked.Asked.{Asked}
use Rattle.ip_scope.specs.declared.family.Family.{Family}
use Rattle.serde_json.specs.Data.{Data, Items, no_items, item}
use Rattle.serde_json.specs.Events.{items_len}
use Rattle.serde_json.specs.Find.{get, as_array}
use Rattle.list_json.specs.declared.fault.Member.{Member}
use Rattle.list_json.specs.declared.fault.Member.TheVariants as the
use Rattle.list_json.specs.declared.fault.ListFault.{ListFault}
use Rattle.list_json.specs.declared.fault.ListFault.TheVariants as faults
use Rattle.list_json.specs.declared.shape.Shape.TheVariants as shape
use Rattle.list_json.specs.Aliases.{range_of, targets_of, alias_in}
use Rattle.list_json.specs.Lists.{word_of, entry_of, some_entries, aces_of, family_in, activation_in, acl_in}
use Rattle.list_json.specs.Shapes.{whole_object}
use Rattle.list_json.specs.Steps.{◌>>=◌, needed, otherwise, each_item, few_items, items_in}
use Rattle.list_json.specs.Values.{name_of, prefix_of, protocol_of}
use Rattle.list_json.specs.Within.{IsAliasWithin, IsAclWithin}
use Rattle.list_json.proofs.Again.{bound_ok, ok_same, few_bound}
use Rattle.list_json.proofs.AliasAgain.{target_same}
use Rattle.list_json.proofs.AliasAgain as aliases
use Rattle.list_json.proofs.ListAgain.{entries_same}
use Rattle.list_json.proofs.ListAgain as lists
use Rattle.acl_lists.specs.declared.limits.TheConstants.{MAX_ACES, MAX_ITEMS, MAX_NAMES}

-- ---- arrays

-- an item is read as one value
each_length : {A : Type 0} (read : Data → Result A ListFault) (ds : Items) (xs : List A) → each_item read ds ≡ Ok xs → length xs ≡ items_len ds
each_length read no_items [] is = refl
each_length read no_items (x ∷ xs) is = absurd (cc)
each_length read (item d ds) xs is =
    let first = bound_ok (read d) (λ value. each_item read ds >>= λ values. Ok (value ∷ values)) xs is in
    let later = bound_ok (each_item read ds) (λ values. Ok (first.0 ∷ values)) xs first.2 in
    let same = ap length (ok_same (first.0 ∷ later.0) xs later.2) in
    let go = each_length read ds later.0 later.1 in
    omega (arith, same, go)

-- of an array no more is read than it may have
pub items_few : {A : Type 0} (m : Member) (most : ℕ) (read : Data → Result A ListFault) (o : Option Data) (xs : List A) → items_in m most read o ≡ Ok xs → length xs ≤ most
items_few {A} m most read None xs is =
    let none : [] ≡ xs = ok_same {A = List A} [] xs is in
    let long = ap length none in
    omega (arith, long)
items_few m most read (Some d) xs is =
    let step = bound_ok (ok_or (few_items most d) (faults.Invalid m)) (each_item read) xs is in
    let long = each_length read step.0 xs step.2 in
    let few = leb-true (items_len step.0) most (few_bound most m (as_array d) step.0 step.1) in
    omega (arith, long, few)

-- ---- aliases

pub alias_within : (d : Data) (alias : Alias) → alias_in d ≡ Ok alias → IsAliasWithin alias
alias_within d alias is =
    let whole = bound_ok (whole_object shape.Alias the.Alias d) (aliases.behind_whole d) alias is in
    let name = bound_ok (needed the.Name (name_of the.Name) (get (codes "name") d)) (aliases.behind_name d) alias whole.2 in
    let asked = bound_ok (targets_of d) (aliases.behind_targets name.0) alias name.2 in
    let prefixes = bound_ok (items_in the.TargetPrefix MAX_ITEMS (prefix_of the.TargetPrefix) (get (codes "target-prefix") d)) (aliases.behind_prefixes d) asked.0 asked.1 in
    let ports = bound_ok (items_in the.TargetPortRange MAX_ITEMS range_of (get (codes "target-port-range") d)) (aliases.behind_ports d prefixes.0) asked.0 prefixes.2 in
    let protocols = bound_ok (items_in the.TargetProtocol MAX_ITEMS (protocol_of the.TargetProtocol) (get (codes "target-protocol") d)) (aliases.behind_protocols d prefixes.0 ports.0) asked.0 ports.2 in
    let names = bound_ok (items_in the.TargetFqdn MAX_NAMES (name_of the.TargetFqdn) (get (codes "target-fqdn") d)) (aliases.behind_names prefixes.0 ports.0 protocols.0) asked.0 protocols.2 in
    let rebuilt : Asked = record { prefixes = prefixes.0; ports = ports.0; protocols = protocols.0; names = names.0; aliases = [] } in
    let targets = target_same prefixes.0 ports.0 protocols.0 names.0 [] asked.0 names.2 in
    let same : record { name = name.0; asked = rebuilt } ≡ alias = ap (λ (a : Asked). record { name = name.0; asked = a }) targets ∙ ok_same (record { name = name.0; asked = asked.0 }) alias asked.2 in
    subst (λ (a : Alias). IsAliasWithin a) same
    (record {
      prefixes = items_few the.TargetPrefix MAX_ITEMS (prefix_of the.TargetPrefix) (get (codes "target-prefix") d) prefixes.0 prefixes.1;
      ports = items_few the.TargetPortRange MAX_ITEMS range_of (get (codes "target-port-range") d) ports.0 ports.1;
      protocols = items_few the.TargetProtocol MAX_ITEMS (protocol_of the.TargetProtocol) (get (codes "target-protocol") d) protocols.0 protocols.1;
      names = items_few the.TargetFqdn MAX_NAMES (name_of the.TargetFqdn) (get (codes "target-fqdn") d) names.0 names.1;
      aliases = refl;
    })

-- ---- access lists

aces_few : (family : Family) (d : Data) (aces : List Ace) → aces_of family d ≡ Ok aces → length aces ≤ MAX_ACES
aces_few family d aces is =
    let whole = bound_ok (whole_object shape.Aces the.Aces d) (lists.behind_aces family d) aces is in
    let items = bound_ok (items_in the.Ace MAX_ACES (entry_of family) (get (codes "ace") d)) some_entries aces whole.2 in
    let few = items_few the.Ace MAX_ACES (entry_of family) (get (codes "ace") d) items.0 items.1 in
    let same = ap length (entries_same items.0 aces items.2) in
    omega (arith, few, same)

needed_few : (family : Family) (o : Option Data) (aces : List Ace) → needed the.Aces (aces_of family) o ≡ Ok aces → length aces ≤ MAX_ACES
needed_few family None aces is = absurd (cc)
needed_few family (Some d) aces is = aces_few family d aces is

pub acl_within : (d : Data) (acl : Acl) → acl_in d ≡ Ok acl → IsAclWithin acl
acl_within d acl is =
    let whole = bound_ok (whole_object shape.List the.Acl d) (lists.behind_list d) acl is in
    let name = bound_ok (needed the.Name (name_of the.Name) (get (codes "name") d)) (lists.behind_name d) acl whole.2 in
    let family = bound_ok (needed the.AclKind (word_of family_in the.AclKind) (get (codes "type") d)) (lists.behind_family d name.0) acl name.2 in
    let active = bound_ok (otherwise activation.WhenMitigating (word_of activation_in the.ActivationType) (get (codes "activation-type") d)) (lists.behind_activation d name.0 family.0) acl family.2 in
    let aces = bound_ok (needed the.Aces (aces_of family.0) (get (codes "aces") d)) (λ aces. Ok (record { name = name.0; family = family.0; activation = active.0; aces = aces })) acl active.2 in
    subst (λ (a : Acl). IsAclWithin a) (ok_same (record { name = name.0; family = family.0; activation = active.0; aces = aces.0 }) acl aces.2)
    (needed_few family.0 (get (codes "aces") d) aces.0 aces.1)
