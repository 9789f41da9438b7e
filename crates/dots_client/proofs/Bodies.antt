-- The body of a request is read as what was asked.
use Rattle.std.proofs.Common.{◌≡◌, ℕ, suc, ◌<◌, ◌≤◌, ◌^◌, ℤ, pos, negsuc, Bool, true, false, List, [], ◌∷◌, ◌++◌, length, map, Option, Some, None, Result, Ok, Err, refl, sym, ap, ◌∙◌, append_assoc, arith}
use Rattle.std.specs.Prelude.{nat_lt, nat_le, ok_or, ◌&&◌, if◌then◌else◌, IsTrue}
use Rattle.std.specs.List.{AllByRecursion}
use Rattle.std.proofs.lemmas.Bool.{cond-true, le-leb, lt-ltb, and_from}
use Rattle.acl_lists.specs.declared.asked.Asked.{Asked}
use Rattle.cbor_profile.specs.Tree.{Tree, unsigned, text, array, count, items_of, pairs_of}
use Rattle.dots_keys.specs.declared.reject.Reject.{Reject}
use Rattle.dots_keys.specs.Results.{invalid, missing, ◌>>=◌}
use Rattle.dots_keys.specs.declared.request.MitigationBody.{MitigationBody}
use Rattle.dots_keys.specs.declared.scope.Scope.{Scope}
use Rattle.dots_keys.specs.Fields.{each_field, all_unsigned, fields_in, ended_with}
use Rattle.dots_keys.specs.Mitigations.{each_item, array_under, prefix_of, protocol_of, name_of, port_of, not_below, range_of, lifetime_of, scope_field, nothing_asked, has_target, whole_scope, scope_of, mitigation_of}
use Rattle.dots_lists.specs.Name.{is_name}
use Rattle.ip_scope.specs.Ports.{Ports}
use Rattle.ip_scope.specs.Prefix.{PrefixValue, IsPrefix}
use Rattle.ip_scope.specs.PrefixText.{Reads, prefix_text}
use Rattle.ip_scope.specs.PrefixReader.{prefix_in}
use Rattle.ip_scope.proofs.PrefixReading.{reads_prefix}
use Rattle.ip_scope.proofs.PrefixTexts.{IsPrefixText-prefix_text, prefix_of-itself}
use Rattle.reply_bodies.specs.Maps.{field, listed, map_of, integer}
use Rattle.reply_bodies.specs.Mitigations.{prefix_tree, range_tree, asked_fields}
use Rattle.reply_bodies.specs.Requests.{request_tree}
use Rattle.dots_client.specs.Asked.{CanAsk, IsRange}
use Rattle.dots_client.specs.Grants.{IsGranted}
use Rattle.acl_lists.specs.declared.limits.TheConstants.{MAX_ITEMS, MAX_NAMES}

-- ---- arrays

abbrev pub IsBack : {A : Type 0} → (Tree → Result A Reject) → (A → Tree) → A → Type 0
IsBack read write x = read (write x) ≡ Ok x

counted : {A : Type 0} (write : A → Tree) (xs : List A) → count (items_of (map write xs)) ≡ length xs
counted write [] = refl
counted write (x ∷ xs) = ap suc (counted write xs)

items_back : {A : Type 0} (read : Tree → Result A Reject) (write : A → Tree) (xs : List A) → AllByRecursion (IsBack read write) xs → each_item read (items_of (map write xs)) ≡ Ok xs
items_back read write [] back = refl
items_back read write (x ∷ xs) back =
    ap (λ r. r >>= λ value. each_item read (items_of (map write xs)) >>= λ values. Ok (value ∷ values)) back.0
    ∙ ap (λ r. r >>= λ values. Ok (x ∷ values)) (items_back read write xs back.1)

pub array_back : {A : Type 0} (key most : ℕ) (read : Tree → Result A Reject) (write : A → Tree) (xs : List A) → length xs ≤ most → AllByRecursion (IsBack read write) xs
    → array_under key most read (array (items_of (map write xs))) ≡ Ok xs
array_back key most read write xs few back =
    let size = counted write xs in
    ap (λ o. ok_or o (invalid key) >>= each_item read) (cond-true (nat_le (count (items_of (map write xs))) most) (Some (items_of (map write xs))) None (le-leb _ most (omega (arith, size, few))))
    ∙ items_back read write xs back

-- ---- each kind of item

prefix_text_again : (p : PrefixValue) → IsPrefix p → prefix_in (prefix_text p) ≡ Some p
prefix_text_again p valid =
    let reads : Reads (prefix_text p) p = record { number = p.number; spelled = IsPrefixText-prefix_text p valid; within = valid.length; cleared = sym (prefix_of-itself p valid) } in
    reads_prefix (prefix_text p) p reads

prefixes_back : (ps : List PrefixValue) → AllByRecursion IsPrefix ps → AllByRecursion (IsBack prefix_of prefix_tree) ps
prefixes_back [] all = record {}
prefixes_back (p ∷ ps) all = (ap (λ o. ok_or o (invalid 6)) (prefix_text_again p all.0), prefixes_back ps all.1)

protocols_back : (ns : List ℕ) → AllByRecursion (λ (n : ℕ). n < 256) ns → AllByRecursion (IsBack protocol_of unsigned) ns
protocols_back [] all = record {}
protocols_back (n ∷ ns) all = (ap (λ o. ok_or o (invalid 10)) (cond-true (nat_lt n 256) (Some n) None (lt-ltb n 256 all.0)), protocols_back ns all.1)

names_back : (key : ℕ) (names : List (List ℕ)) → AllByRecursion (λ (name : List ℕ). IsTrue (is_name name)) names → AllByRecursion (IsBack (name_of key) text) names
names_back key [] all = record {}
names_back key (name ∷ names) all = (ap (λ o. ok_or o (invalid key)) (cond-true (is_name name) (Some name) None all.0), names_back key names all.1)

range_back : (p : Ports) → IsRange p → range_of (range_tree p) ≡ Ok p
range_back p is =
    let lower : port_of 8 (unsigned p.lower) ≡ Ok p.lower = ap (λ o. ok_or o (invalid 8)) (cond-true (nat_lt p.lower (2 ^ 16)) (Some p.lower) None (lt-ltb p.lower (2 ^ 16) (omega (arith, is.0, is.1)))) in
    let upper : port_of 9 (unsigned p.upper) ≡ Ok p.upper = ap (λ o. ok_or o (invalid 9)) (cond-true (nat_lt p.upper (2 ^ 16)) (Some p.upper) None (lt-ltb p.upper (2 ^ 16) is.1)) in
    let above : not_below (Some p.lower) p.upper ≡ Ok p.upper = cond-true (nat_le p.lower p.upper) (Ok p.upper) (Err (invalid 9)) (le-leb p.lower p.upper is.0) in
    simp (lower, upper, above) refl

ports_back : (ps : List Ports) → AllByRecursion IsRange ps → AllByRecursion (IsBack range_of range_tree) ps
ports_back [] all = record {}
ports_back (p ∷ ps) all = (range_back p all.0, ports_back ps all.1)

lifetime_back : (lifetime : ℤ) → IsGranted lifetime → lifetime_of (integer lifetime) ≡ Ok lifetime
lifetime_back (pos n) is =
    cond-true (nat_le 1 n && nat_lt n (2 ^ 31)) (Ok (pos n)) (Err (invalid 14)) (and_from (nat_le 1 n) (nat_lt n (2 ^ 31)) (le-leb 1 n is.0) (lt-ltb n (2 ^ 31) is.1))
lifetime_back (negsuc n) is = ap (λ k. lifetime_of (integer (negsuc k))) is ∙ ap (λ k. Ok (negsuc k)) (sym is)

-- ---- the fields, one list after the other

abbrev Rest : Type 0
Rest = List (Tree × Tree)

module _ (gateway : Bool) where
  abbrev reading : Scope → Rest → Result Scope Reject
  reading said rest = each_field (scope_field gateway) said (fields_in (pairs_of rest))

  abbrev said : List PrefixValue → List Ports → List ℕ → List (List ℕ) → List (List ℕ) → Option ℤ → Scope
  said prefixes ports protocols names aliases lifetime =
      record { asked = record { prefixes = prefixes; ports = ports; protocols = protocols; names = names; aliases = aliases }; lifetime = lifetime; trigger = true }

  read_prefixes : (ps : List PrefixValue) (rest : Rest) → length ps ≤ MAX_ITEMS → AllByRecursion IsPrefix ps → reading nothing_asked (listed 6 (map prefix_tree ps) ++ rest) ≡ reading (said ps [] [] [] [] None) rest
  read_prefixes [] rest few all = refl
  read_prefixes (p ∷ ps) rest few all =
      ap (λ r. (r >>= λ x. Ok (said x [] [] [] [] None)) >>= λ more. reading more rest) (array_back 6 MAX_ITEMS prefix_of prefix_tree (p ∷ ps) few (prefixes_back (p ∷ ps) all))

  module _ (prefixes : List PrefixValue) where
    read_ports : (ps : List Ports) (rest : Rest) → length ps ≤ MAX_ITEMS → AllByRecursion IsRange ps
        → reading (said prefixes [] [] [] [] None) (listed 7 (map range_tree ps) ++ rest) ≡ reading (said prefixes ps [] [] [] None) rest
    read_ports [] rest few all = refl
    read_ports (p ∷ ps) rest few all =
        ap (λ r. (r >>= λ x. Ok (said prefixes x [] [] [] None)) >>= λ more. reading more rest) (array_back 7 MAX_ITEMS range_of range_tree (p ∷ ps) few (ports_back (p ∷ ps) all))

    module _ (ports : List Ports) where
      read_protocols : (ns : List ℕ) (rest : Rest) → length ns ≤ MAX_ITEMS → AllByRecursion (λ (n : ℕ). n < 256) ns
          → reading (said prefixes ports [] [] [] None) (listed 10 (map unsigned ns) ++ rest) ≡ reading (said prefixes ports ns [] [] None) rest
      read_protocols [] rest few all = refl
      read_protocols (n ∷ ns) rest few all =
          ap (λ r. (r >>= λ x. Ok (said prefixes ports x [] [] None)) >>= λ more. reading more rest) (array_back 10 MAX_ITEMS protocol_of unsigned (n ∷ ns) few (protocols_back (n ∷ ns) all))

      module _ (protocols : List ℕ) where
        read_names : (ns : List (List ℕ)) (rest : Rest) → length ns ≤ MAX_NAMES → AllByRecursion (λ (name : List ℕ). IsTrue (is_name name)) ns
            → reading (said prefixes ports protocols [] [] None) (listed 11 (map text ns) ++ rest) ≡ reading (said prefixes ports protocols ns [] None) rest
        read_names [] rest few all = refl
        read_names (n ∷ ns) rest few all =
            ap (λ r. (r >>= λ x. Ok (said prefixes ports protocols x [] None)) >>= λ more. reading more rest) (array_back 11 MAX_NAMES (name_of 11) text (n ∷ ns) few (names_back 11 (n ∷ ns) all))

        module _ (names : List (List ℕ)) where
          read_aliases : (ns : List (List ℕ)) (rest : Rest) → length ns ≤ MAX_NAMES → AllByRecursion (λ (name : List ℕ). IsTrue (is_name name)) ns
              → reading (said prefixes ports protocols names [] None) (listed 13 (map text ns) ++ rest) ≡ reading (said prefixes ports protocols names ns None) rest
          read_aliases [] rest few all = refl
          read_aliases (n ∷ ns) rest few all =
              ap (λ r. (r >>= λ x. Ok (said prefixes ports protocols names x None)) >>= λ more. reading more rest) (array_back 13 MAX_NAMES (name_of 13) text (n ∷ ns) few (names_back 13 (n ∷ ns) all))

  -- all keys are numbers
  listed_unsigned : (key : ℕ) (ts : List Tree) (rest : Rest) → all_unsigned (pairs_of rest) ≡ true → all_unsigned (pairs_of (listed key ts ++ rest)) ≡ true
  listed_unsigned key [] rest is = is
  listed_unsigned key (t ∷ ts) rest is = is

  module _ (asked : Asked) (lifetime : ℤ) (is : CanAsk asked) (lasts : IsGranted lifetime) where
    abbrev last : Rest
    last = field 14 (integer lifetime)

    abbrev l13 : Rest
    l13 = listed 13 (map text asked.aliases) ++ last

    abbrev l11 : Rest
    l11 = listed 11 (map text asked.names) ++ l13

    abbrev l10 : Rest
    l10 = listed 10 (map unsigned asked.protocols) ++ l11

    abbrev l7 : Rest
    l7 = listed 7 (map range_tree asked.ports) ++ l10

    abbrev l6 : Rest
    l6 = listed 6 (map prefix_tree asked.prefixes) ++ l7

    abbrev a6 : Rest
    a6 = listed 6 (map prefix_tree asked.prefixes)

    abbrev a7 : Rest
    a7 = a6 ++ listed 7 (map range_tree asked.ports)

    abbrev a10 : Rest
    a10 = a7 ++ listed 10 (map unsigned asked.protocols)

    abbrev a11 : Rest
    a11 = a10 ++ listed 11 (map text asked.names)

    in_order : asked_fields asked ++ last ≡ l6
    in_order =
        append_assoc a11 (listed 13 (map text asked.aliases)) last
        ∙ append_assoc a10 (listed 11 (map text asked.names)) l13
        ∙ append_assoc a7 (listed 10 (map unsigned asked.protocols)) l11
        ∙ append_assoc a6 (listed 7 (map range_tree asked.ports)) l10

    unsigned_all : all_unsigned (pairs_of l6) ≡ true
    unsigned_all =
        listed_unsigned 6 (map prefix_tree asked.prefixes) l7 (listed_unsigned 7 (map range_tree asked.ports) l10 (listed_unsigned 10 (map unsigned asked.protocols) l11
        (listed_unsigned 11 (map text asked.names) l13 (listed_unsigned 13 (map text asked.aliases) last refl))))

    read_last : reading (said asked.prefixes asked.ports asked.protocols asked.names asked.aliases None) last
        ≡ Ok (said asked.prefixes asked.ports asked.protocols asked.names asked.aliases (Some lifetime))
    read_last = ap (λ r. (r >>= λ x. Ok (said asked.prefixes asked.ports asked.protocols asked.names asked.aliases (Some x))) >>= λ more. Ok more) (lifetime_back lifetime lasts)

    read_all : reading nothing_asked l6 ≡ Ok (said asked.prefixes asked.ports asked.protocols asked.names asked.aliases (Some lifetime))
    read_all =
        read_prefixes asked.prefixes l7 is.few.prefixes is.prefixes
        ∙ read_ports asked.prefixes asked.ports l10 is.few.ports is.ports
        ∙ read_protocols asked.prefixes asked.ports asked.protocols l11 is.few.protocols is.protocols
        ∙ read_names asked.prefixes asked.ports asked.protocols asked.names l13 is.few.names is.names
        ∙ read_aliases asked.prefixes asked.ports asked.protocols asked.names asked.aliases last is.few.aliases is.aliases
        ∙ read_last

    scope_back : scope_of gateway (map_of (asked_fields asked ++ last)) ≡ whole_scope (said asked.prefixes asked.ports asked.protocols asked.names asked.aliases (Some lifetime))
    scope_back =
        ap (λ xs. scope_of gateway (map_of xs)) in_order
        ∙ ap (λ r. r >>= λ fields. each_field (scope_field gateway) nothing_asked fields >>= λ s. whole_scope s) (cond-true (all_unsigned (pairs_of l6)) (Ok (fields_in (pairs_of l6))) (Err (invalid 2)) unsigned_all)
        ∙ ap (λ r. r >>= λ s. whole_scope s) read_all

    ended_both : (b : Bool) (x : MitigationBody) → (((if b then Ok x else Err (missing 6)) >>= λ value. ended_with value []) >>= λ value. ended_with value []) ≡ (if b then Ok x else Err (missing 6))
    ended_both true x = refl
    ended_both false x = refl

    pub is_read : mitigation_of gateway (request_tree asked lifetime) ≡ (if has_target asked then Ok (record { asked = asked; lifetime = lifetime; trigger = true }) else Err (missing 6))
    is_read =
        ap (λ r. (r >>= λ value. ended_with value []) >>= λ value. ended_with value []) scope_back
        ∙ ended_both (has_target asked) (record { asked = asked; lifetime = lifetime; trigger = true })
