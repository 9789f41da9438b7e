-- No list of the rows so far is longer than it may be, and nothing stands in one twice.
use Rattle.std.proofs.Common.{◌≡◌, ℕ, ◌+◌, ◌<◌, ◌≤◌, ◌==◌, Bool, true, false, cond, not, ◌||◌, nat_le, List, [], ◌∷◌, ◌++◌, length, map, filter, bytes_eq, Option, Some, None, is_some, refl, sym, ap, subst, ◌∙◌, append-nil, append_assoc, length-append, true≢false, arith, if◌then◌else◌}
use Rattle.std.specs.Prelude.{count_by, ⊤}
use Rattle.std.specs.Char.{to_ascii_lowercase}
use Rattle.std.specs.List.{list_any, AllByRecursion}
use Rattle.std.proofs.lemmas.Bool.{eqb-true, le-leb}
use Rattle.std.proofs.lemmas.Bool.Decides.{nat_tests}
use Rattle.std.proofs.lemmas.List.Sums.{sum_by-append, length-filter}
use Rattle.dots_settings.specs.declared.draft.Address.{Address}
use Rattle.dots_settings.specs.declared.draft.Peer.{Peer}
use Rattle.dots_settings.specs.declared.draft.Scope.{Scope}
use Rattle.dots_settings.specs.declared.fault.SettingsFault.TheVariants as fault
use Rattle.dots_settings.specs.Form.{FormValue, domain_line, prefix_line, client_line, gateway_line, upstream_line, name_line, ceiling_line, indefinite_line, capacity_line, packet_line}
use Rattle.dots_settings.specs.Row.{Row}
use Rattle.dots_settings.specs.Draft.{DraftValue, draft_of, same_name}
use Rattle.dots_settings.specs.Faults.{fault_of, has_peer, is_gateway, is_upstream, is_twice, is_unknown, overlap_of, overlap_or_limit, is_too_much}
use Rattle.dots_settings.specs.File.{AreFaultless, IsSound}
use Rattle.dots_settings.specs.Admitting.{admitted}
use Rattle.dots_settings.proofs.Drafts.{both_false, not_twice, draft_then}
use Rattle.dots_settings.proofs.HostNames.{same_then}
use Rattle.dots_settings.proofs.Apart.{equal_then, not_too_much}

-- ---- counting

abbrev counted : Bool → ℕ
counted b = cond b 1 0

count_yes : {A : Type 0} (p : A → Bool) (xs : List A) (x : A) → p x ≡ true → count_by p (xs ++ x ∷ []) ≡ count_by p xs + 1
count_yes p xs x is =
    let one : counted (p x) ≡ 1 = ap counted is in
    omega (arith, one, sum_by-append (λ y. cond (p y) 1 0) xs (x ∷ []))

count_no : {A : Type 0} (p : A → Bool) (xs : List A) (x : A) → p x ≡ false → count_by p (xs ++ x ∷ []) ≡ count_by p xs
count_no p xs x is =
    let none : counted (p x) ≡ 0 = ap counted is in
    omega (arith, none, sum_by-append (λ y. cond (p y) 1 0) xs (x ∷ []))

pushed_at_most : {A : Type 0} (p : A → Bool) (xs : List A) (x : A) (most : ℕ) → count_by p xs ≤ most → (p x ≡ true → count_by p xs < most) → count_by p (xs ++ x ∷ []) ≤ most
pushed_at_most p xs x most few room = by (p x) refl
  where
    by : (b : Bool) → p x ≡ b → count_by p (xs ++ x ∷ []) ≤ most
    by true e = omega (arith, count_yes p xs x e, room e)
    by false e = omega (arith, count_no p xs x e)

none_pass : {A : Type 0} (p : A → Bool) (xs : List A) → list_any p xs ≡ false → length (filter p xs) ≡ 0
none_pass p [] none = refl
none_pass p (x ∷ xs) none =
    let parts = both_false (p x) (list_any p xs) none in
    ap (λ b. length (cond b (x ∷ filter p xs) (filter p xs))) parts.0 ∙ none_pass p xs parts.1

none_counted : {A : Type 0} (p : A → Bool) (xs : List A) → list_any p xs ≡ false → count_by p xs ≡ 0
none_counted p xs none = sym (length-filter p xs) ∙ none_pass p xs none

or_true : (b : Bool) → (b || true) ≡ true
or_true true = refl
or_true false = refl

any_push_no : {A : Type 0} (p : A → Bool) (xs : List A) (x : A) → p x ≡ false → list_any p (xs ++ x ∷ []) ≡ list_any p xs
any_push_no p [] x is = ap (λ b. b || false) is
any_push_no p (y ∷ ys) x is = ap (λ b. p y || b) (any_push_no p ys x is)

any_push_yes : {A : Type 0} (p : A → Bool) (xs : List A) (x : A) → p x ≡ true → list_any p (xs ++ x ∷ []) ≡ true
any_push_yes p [] x is = ap (λ b. b || false) is
any_push_yes p (y ∷ ys) x is = ap (λ b. p y || b) (any_push_yes p ys x is) ∙ or_true (p y)

any_push : {A : Type 0} (p : A → Bool) (xs : List A) (x : A) → list_any p xs ≡ true → list_any p (xs ++ x ∷ []) ≡ true
any_push p [] x is = absurd (true≢false (sym is))
any_push p (y ∷ ys) x is = by (any_push p ys x) (p y) is
  where
    by : (list_any p ys ≡ true → list_any p (ys ++ x ∷ []) ≡ true) → (b : Bool) → (b || list_any p ys) ≡ true → (b || list_any p (ys ++ x ∷ [])) ≡ true
    by rest true e = refl
    by rest false e = rest e

all_push : {A : Type 0} (P : A → Type 0) (xs : List A) (x : A) → AllByRecursion P xs → P x → AllByRecursion P (xs ++ x ∷ [])
all_push P [] x all here = (here, tt)
all_push P (y ∷ ys) x all here = (all.0, all_push P ys x all.1 here)

pub all_then : {A : Type 0} (P Q : A → Type 0) (xs : List A) → ((x : A) → P x → Q x) → AllByRecursion P xs → AllByRecursion Q xs
all_then P Q [] step all = tt
all_then P Q (x ∷ xs) step all = (step x all.0, all_then P Q xs step all.1)

below : (most n : ℕ) → nat_le most n ≡ false → n < most
below most n e = grind (arith, nat_tests)

-- ---- what is kept of each part

abbrev pub IsDeclared : List (List ℕ) → Option (List ℕ) → Type 0
IsDeclared domains None = ⊤
IsDeclared domains (Some name) = list_any (bytes_eq name) domains ≡ true

abbrev pub at_name : List ℕ → List Address → ℕ
at_name name addresses = count_by (λ (address : Address). same_name name address.name) addresses

pub record ArePeers (domains : List (List ℕ)) (peers : List Peer) : Type 0 where
  pub few : length peers ≤ 64
  pub gateways : count_by is_gateway peers ≤ 4
  pub once : (number : ℕ) → count_by (λ (peer : Peer). peer.number == number) peers ≤ 1
  pub declared : AllByRecursion (λ (peer : Peer). IsDeclared domains peer.domain) peers

pub record AreNames (names : List (List ℕ)) (addresses : List Address) : Type 0 where
  pub few : length names ≤ 64
  pub once : (name : List ℕ) → count_by (same_name name) names ≤ 1
  pub most : (name : List ℕ) → at_name name addresses ≤ 4
  pub told : (name : List ℕ) → list_any (same_name name) names ≡ nat_le 1 (at_name name addresses)

-- none of the peers is the upstream
abbrev pub IsApart : List Peer → Option ℕ → Type 0
IsApart peers None = ⊤
IsApart peers (Some upstream) = list_any (λ (peer : Peer). peer.number == upstream) peers ≡ false

pub record IsWhole (draft : DraftValue) : Type 0 where
  pub domains : (name : List ℕ) → count_by (bytes_eq name) draft.domains ≤ 1
  pub scopes : (name : List ℕ) → count_by (λ (scope : Scope). bytes_eq scope.domain name) draft.scopes ≤ 16
  pub peers : ArePeers draft.domains draft.peers
  pub upstream : IsApart draft.peers draft.upstream
  pub names : AreNames draft.names draft.addresses
  pub packets : length draft.packets ≤ 256

none_whole : IsWhole (draft_of [])
none_whole = record {
  domains = λ name. omega arith;
  scopes = λ name. omega arith;
  peers = record { few = omega arith; gateways = omega arith; once = λ number. omega arith; declared = tt };
  upstream = tt;
  names = record { few = omega arith; once = λ name. omega arith; most = λ name. omega arith; told = λ name. refl };
  packets = omega arith;
}

-- ---- one more line

not_unknown : (draft : DraftValue) (number : ℕ) (form : FormValue) → fault_of draft number form ≡ None → is_unknown draft form ≡ false
not_unknown draft number form none = by (is_twice draft form) (is_unknown draft form) (overlap_of draft form) (is_too_much draft form) none
  where
    by : (a b : Bool) (o : Option ℕ) (d : Bool) → (if a then Some (fault.Twice number) else if b then Some (fault.Unknown number) else overlap_or_limit number o d) ≡ None → b ≡ false
    by true b o d e = absurd (cc)
    by false true o d e = absurd (cc)
    by false false o d e = refl

declared_then : (domains : List (List ℕ)) (new : List ℕ) (domain : Option (List ℕ)) → IsDeclared domains domain → IsDeclared (domains ++ new ∷ []) domain
declared_then domains new None is = tt
declared_then domains new (Some name) is = any_push (bytes_eq name) domains new is

domain_then : (domains : List (List ℕ)) (name : List ℕ) → list_any (bytes_eq name) domains ≡ false → ((other : List ℕ) → count_by (bytes_eq other) domains ≤ 1)
    → (other : List ℕ) → count_by (bytes_eq other) (domains ++ name ∷ []) ≤ 1
domain_then domains name none once other = pushed_at_most (bytes_eq other) domains name 1 (once other) room
  where
    room : bytes_eq other name ≡ true → count_by (bytes_eq other) domains < 1
    room same =
        let here = subst (λ (x : List ℕ). count_by (bytes_eq x) domains ≡ 0) (sym (equal_then other name same)) (none_counted (bytes_eq name) domains none) in
        omega arith

scope_then : (scopes : List Scope) (scope : Scope) → nat_le 16 (count_by (λ (x : Scope). bytes_eq x.domain scope.domain) scopes) ≡ false
    → ((name : List ℕ) → count_by (λ (x : Scope). bytes_eq x.domain name) scopes ≤ 16) → (name : List ℕ) → count_by (λ (x : Scope). bytes_eq x.domain name) (scopes ++ scope ∷ []) ≤ 16
scope_then scopes scope few most name = pushed_at_most (λ (x : Scope). bytes_eq x.domain name) scopes scope 16 (most name) room
  where
    room : bytes_eq scope.domain name ≡ true → count_by (λ (x : Scope). bytes_eq x.domain name) scopes < 16
    room same = subst (λ (n : List ℕ). count_by (λ (x : Scope). bytes_eq x.domain n) scopes < 16) (equal_then scope.domain name same) (below 16 _ few)

peer_once : (peers : List Peer) (peer : Peer) → list_any (λ (x : Peer). x.number == peer.number) peers ≡ false → ((number : ℕ) → count_by (λ (x : Peer). x.number == number) peers ≤ 1)
    → (number : ℕ) → count_by (λ (x : Peer). x.number == number) (peers ++ peer ∷ []) ≤ 1
peer_once peers peer none once number = pushed_at_most (λ (x : Peer). x.number == number) peers peer 1 (once number) room
  where
    room : (peer.number == number) ≡ true → count_by (λ (x : Peer). x.number == number) peers < 1
    room same =
        let here = subst (λ (n : ℕ). count_by (λ (x : Peer). x.number == n) peers ≡ 0) (eqb-true peer.number number same) (none_counted (λ (x : Peer). x.number == peer.number) peers none) in
        omega arith

peer_then : (domains : List (List ℕ)) (peers : List Peer) (peer : Peer) → ArePeers domains peers → list_any (λ (x : Peer). x.number == peer.number) peers ≡ false → length peers < 64
    → (is_gateway peer ≡ true → count_by is_gateway peers < 4) → IsDeclared domains peer.domain → ArePeers domains (peers ++ peer ∷ [])
peer_then domains peers peer are none room gateways declared = record {
  few = omega (arith, length-append peers (peer ∷ []));
  gateways = pushed_at_most is_gateway peers peer 4 are.gateways gateways;
  once = peer_once peers peer none are.once;
  declared = all_push (λ (x : Peer). IsDeclared domains x.domain) peers peer are.declared declared;
}

apart_then : (peers : List Peer) (peer : Peer) (upstream : Option ℕ) → IsApart peers upstream → is_upstream upstream peer.number ≡ false → IsApart (peers ++ peer ∷ []) upstream
apart_then peers peer None apart other = tt
apart_then peers peer (Some upstream) apart other = any_push_no (λ (x : Peer). x.number == upstream) peers peer other ∙ apart

-- names that are the same are so with all others
same_counted : (one other : List ℕ) (names : List (List ℕ)) → same_name one other ≡ true → count_by (same_name one) names ≡ count_by (same_name other) names
same_counted one other names same = ap (λ (l : List ℕ). count_by (λ (x : List ℕ). bytes_eq l (map to_ascii_lowercase x)) names) (same_then one other same)

same_addresses : (one other : List ℕ) (addresses : List Address) → same_name one other ≡ true → at_name one addresses ≡ at_name other addresses
same_addresses one other addresses same = ap (λ (l : List ℕ). count_by (λ (x : Address). bytes_eq l (map to_ascii_lowercase x.name)) addresses) (same_then one other same)

same_any : (one other : List ℕ) (names : List (List ℕ)) → same_name one other ≡ true → list_any (same_name one) names ≡ list_any (same_name other) names
same_any one other names same = ap (λ (l : List ℕ). list_any (λ (x : List ℕ). bytes_eq l (map to_ascii_lowercase x)) names) (same_then one other same)

one_counted : (address : Address) (addresses : List Address) (name : List ℕ) → same_name name address.name ≡ true → nat_le 1 (at_name name (addresses ++ address ∷ [])) ≡ true
one_counted address addresses name same = le-leb 1 (at_name name (addresses ++ address ∷ [])) (omega (arith, count_yes (λ (x : Address). same_name name x.name) addresses address same))

known_then : (names : List (List ℕ)) (addresses : List Address) (address : Address) → AreNames names addresses → list_any (same_name address.name) names ≡ true → at_name address.name addresses < 4
    → AreNames names (addresses ++ address ∷ [])
known_then names addresses address are known room = record {
  few = are.few;
  once = are.once;
  most = λ name. pushed_at_most (λ (x : Address). same_name name x.name) addresses address 4 (are.most name) (λ same. omega (arith, same_addresses name address.name addresses same));
  told = λ name. told name (same_name name address.name) refl;
}
  where
    told : (name : List ℕ) (b : Bool) → same_name name address.name ≡ b → list_any (same_name name) names ≡ nat_le 1 (at_name name (addresses ++ address ∷ []))
    told name true e = same_any name address.name names e ∙ known ∙ sym (one_counted address addresses name e)
    told name false e = are.told name ∙ ap (λ n. nat_le 1 n) (sym (count_no (λ (x : Address). same_name name x.name) addresses address e))

new_then : (names : List (List ℕ)) (addresses : List Address) (address : Address) → AreNames names addresses → list_any (same_name address.name) names ≡ false → length names < 64
    → AreNames (names ++ address.name ∷ []) (addresses ++ address ∷ [])
new_then names addresses address are new room = record {
  few = omega (arith, length-append names (address.name ∷ []));
  once = λ name. pushed_at_most (same_name name) names address.name 1 (are.once name) (λ same. omega (arith, same_counted name address.name names same, none_counted (same_name address.name) names new));
  most = λ name. pushed_at_most (λ (x : Address). same_name name x.name) addresses address 4 (are.most name)
      (λ same. omega (arith, same_addresses name address.name addresses same, below 1 (at_name address.name addresses) (sym (are.told address.name) ∙ new)));
  told = λ name. told name (same_name name address.name) refl;
}
  where
    told : (name : List ℕ) (b : Bool) → same_name name address.name ≡ b → list_any (same_name name) (names ++ address.name ∷ []) ≡ nat_le 1 (at_name name (addresses ++ address ∷ []))
    told name true e = any_push_yes (same_name name) names address.name e ∙ sym (one_counted address addresses name e)
    told name false e =
        any_push_no (same_name name) names address.name e ∙ are.told name ∙ ap (λ n. nat_le 1 n) (sym (count_no (λ (x : Address). same_name name x.name) addresses address e))

name_then : (names : List (List ℕ)) (addresses : List Address) (address : Address) → AreNames names addresses
    → (if list_any (same_name address.name) names then nat_le 4 (at_name address.name addresses) else nat_le 64 (length names)) ≡ false
    → AreNames (if list_any (same_name address.name) names then names else names ++ address.name ∷ []) (addresses ++ address ∷ [])
name_then names addresses address are few = by (list_any (same_name address.name) names) refl few
  where
    by : (b : Bool) → list_any (same_name address.name) names ≡ b → (if b then nat_le 4 (at_name address.name addresses) else nat_le 64 (length names)) ≡ false
        → AreNames (if b then names else names ++ address.name ∷ []) (addresses ++ address ∷ [])
    by true e few = known_then names addresses address are e (below 4 _ few)
    by false e few = new_then names addresses address are e (below 64 _ few)

turned : (b : Bool) → not b ≡ false → b ≡ true
turned true e = refl
turned false e = absurd (true≢false e)

whole_then : (draft : DraftValue) (line : ℕ) (form : FormValue) → IsWhole draft → fault_of draft line form ≡ None → IsWhole (admitted draft line form)
whole_then draft line (domain_line name) whole none = record {
  domains = domain_then draft.domains name (not_twice draft line (domain_line name) none) whole.domains;
  scopes = whole.scopes;
  peers = record {
    few = whole.peers.few;
    gateways = whole.peers.gateways;
    once = whole.peers.once;
    declared =
        all_then (λ (x : Peer). IsDeclared draft.domains x.domain) (λ (x : Peer). IsDeclared (draft.domains ++ name ∷ []) x.domain) draft.peers
        (λ x is. declared_then draft.domains name x.domain is) whole.peers.declared;
  };
  upstream = whole.upstream;
  names = whole.names;
  packets = whole.packets;
}
whole_then draft line (prefix_line name value) whole none = record {
  domains = whole.domains;
  scopes = scope_then draft.scopes (record { domain = name; prefix = value; line = line }) (not_too_much draft line (prefix_line name value) none) whole.scopes;
  peers = whole.peers;
  upstream = whole.upstream;
  names = whole.names;
  packets = whole.packets;
}
whole_then draft line (client_line peer name) whole none =
    let new = both_false (has_peer draft peer) (is_upstream draft.upstream peer) (not_twice draft line (client_line peer name) none) in
    record {
      domains = whole.domains;
      scopes = whole.scopes;
      peers =
          peer_then draft.domains draft.peers (record { number = peer; domain = Some name }) whole.peers new.0
          (below 64 (length draft.peers) (not_too_much draft line (client_line peer name) none)) (λ is. absurd (true≢false (sym is)))
          (turned (list_any (bytes_eq name) draft.domains) (not_unknown draft line (client_line peer name) none));
      upstream = apart_then draft.peers (record { number = peer; domain = Some name }) draft.upstream whole.upstream new.1;
      names = whole.names;
      packets = whole.packets;
    }
whole_then draft line (gateway_line peer) whole none =
    let new = both_false (has_peer draft peer) (is_upstream draft.upstream peer) (not_twice draft line (gateway_line peer) none) in
    let few = both_false (nat_le 64 (length draft.peers)) (nat_le 4 (count_by is_gateway draft.peers)) (not_too_much draft line (gateway_line peer) none) in
    record {
      domains = whole.domains;
      scopes = whole.scopes;
      peers =
          peer_then draft.domains draft.peers (record { number = peer; domain = None }) whole.peers new.0 (below 64 (length draft.peers) few.0)
          (λ is. below 4 (count_by is_gateway draft.peers) few.1) tt;
      upstream = apart_then draft.peers (record { number = peer; domain = None }) draft.upstream whole.upstream new.1;
      names = whole.names;
      packets = whole.packets;
    }
whole_then draft line (upstream_line peer) whole none = record {
  domains = whole.domains;
  scopes = whole.scopes;
  peers = whole.peers;
  upstream = (both_false (is_some draft.upstream) (has_peer draft peer) (not_twice draft line (upstream_line peer) none)).1;
  names = whole.names;
  packets = whole.packets;
}
whole_then draft line (name_line fqdn value) whole none = record {
  domains = whole.domains;
  scopes = whole.scopes;
  peers = whole.peers;
  upstream = whole.upstream;
  names = name_then draft.names draft.addresses (record { name = fqdn; prefix = value }) whole.names (not_too_much draft line (name_line fqdn value) none);
  packets = whole.packets;
}
whole_then draft line (ceiling_line seconds) whole none = record { domains = whole.domains; scopes = whole.scopes; peers = whole.peers; upstream = whole.upstream; names = whole.names; packets = whole.packets }
whole_then draft line (indefinite_line granted) whole none = record { domains = whole.domains; scopes = whole.scopes; peers = whole.peers; upstream = whole.upstream; names = whole.names; packets = whole.packets }
whole_then draft line (capacity_line what (Some limit)) whole none = record { domains = whole.domains; scopes = whole.scopes; peers = whole.peers; upstream = whole.upstream; names = whole.names; packets = whole.packets }
whole_then draft line (capacity_line what None) whole none = whole
whole_then draft line (packet_line value) whole none = record {
  domains = whole.domains;
  scopes = whole.scopes;
  peers = whole.peers;
  upstream = whole.upstream;
  names = whole.names;
  packets = omega (arith, length-append draft.packets (value ∷ []), below 256 (length draft.packets) (not_too_much draft line (packet_line value) none));
}

whole_rows : (before rows : List Row) → AreFaultless before rows → IsWhole (draft_of before) → IsWhole (draft_of (before ++ rows))
whole_rows before [] are whole = subst (λ (xs : List Row). IsWhole (draft_of xs)) (sym (append-nil before)) whole
whole_rows before (row ∷ rows) are whole =
    let here = subst IsWhole (sym (draft_then before row.number row.text row.form are.0)) (whole_then (draft_of before) row.number row.form whole are.0) in
    subst (λ (xs : List Row). IsWhole (draft_of xs)) (append_assoc before (row ∷ []) rows) (whole_rows (before ++ row ∷ []) rows are.1 here)

pub sound_whole : (draft : DraftValue) → IsSound draft → IsWhole draft
sound_whole draft (rows, lines, stand, is) = subst IsWhole (sym is) (whole_rows [] rows stand.faultless none_whole)
