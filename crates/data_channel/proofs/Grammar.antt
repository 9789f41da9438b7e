-- Targets and paths are read as the grammar says.
use Rattle.std.proofs.Common.{◌≡◌, ℕ, ◌==◌, true, false, Bool, List, [], ◌∷◌, ◌++◌, refl, sym, ap, subst, ◌∙◌, Option, Some, None, Result, Ok, Err, IsTrue, append-nil, take-append-drop}
use Rattle.std.specs.Prelude.{codes, bytes_eq, if◌then◌else◌, is_some, option_and_then}
use Rattle.std.specs.List.{after_first, position_or_len}
use Rattle.std.proofs.lemmas.Slice.Eq.{bytes_eq-Decides}
use Rattle.std.proofs.Math.Seq.{take-append_seam, drop-append_seam, take-length, drop-length}
use Rattle.data_channel.specs.declared.place.Kind.{Kind}
use Rattle.data_channel.specs.declared.place.Kind.TheVariants as kind
use Rattle.data_channel.specs.declared.reject.RestReject.{RestReject}
use Rattle.data_channel.specs.declared.request.Head.{Head}
use Rattle.data_channel.specs.declared.request.Verb.{Verb}
use Rattle.data_channel.specs.Heads.{Gives, UnlessNoMemory, verb_in, head_at, IsHead}
use Rattle.data_channel.specs.Paths.{Place, is_segment, IsTarget, root, client_path, spelled, HasNames, IsPathOf, IsAt}
use Rattle.data_channel.specs.Places.{path_of, has_query, behind_front, segment, behind_segment, unnamed, by_alias, below_client, client_place, below_root, place_in}
use Rattle.data_channel.proofs.Answering.{failed, fulfils_more}
use Rattle.data_channel.proofs.Fronts.{front_is, position_of_sign, position_of_none, before_lacks, sign_splits, none_splits}

-- ---- targets

abbrev query_of : List ℕ → Option (List ℕ)
query_of target = if has_query target then Some (after_first (λ byte. byte == 63) target) else None

target_by : (target : List ℕ) (test : Bool) → has_query target ≡ test
    → IsTarget target (path_of target) (if test then Some (after_first (λ byte. byte == 63) target) else None)
target_by target true has = (before_lacks 63 target, sign_splits 63 target has)
target_by target false has = (before_lacks 63 target, none_splits 63 target has)

target_is : (target : List ℕ) → IsTarget target (path_of target) (query_of target)
target_is target = target_by target (has_query target) refl

query_by : (bytes : List ℕ) (test : Bool) → is_some (if test then Some bytes else None) ≡ test
query_by bytes true = refl
query_by bytes false = refl

-- ---- a place that is read has the path

found_at : (path : List ℕ) (of : Kind) (client name : List ℕ) (place : Place) → Some (record { kind = of; client = client; name = name }) ≡ Some place
    → HasNames of client name → path ≡ spelled of client name → IsPathOf path place
found_at path of client name place is names same =
    let one : record { kind = of; client = client; name = name } ≡ place = cc in
    subst (λ (p : Place). IsPathOf path p) one (names, same)

named_at : (path : List ℕ) (of : Kind) (client name : List ℕ) (place : Place) (test : Bool) → is_segment name ≡ test
    → (if test then Some (record { kind = of; client = client; name = name }) else None) ≡ Some place
    → (IsTrue (is_segment name) → HasNames of client name) → path ≡ spelled of client name → IsPathOf path place
named_at path of client name place true segment is names same = found_at path of client name place is (names segment) same
named_at path of client name place false segment is names same = absurd (cc)

below_by : (client below : List ℕ) (place : Place) (none aliases acls : Bool) (acl alias : Option (List ℕ)) → IsTrue (is_segment client)
    → bytes_eq below [] ≡ none → bytes_eq below (codes "/aliases") ≡ aliases → bytes_eq below (codes "/acls") ≡ acls
    → behind_front (codes "/acls/acl=") below ≡ acl → behind_front (codes "/aliases/alias=") below ≡ alias
    → (if none then Some (unnamed kind.Client client) else if aliases then Some (unnamed kind.Aliases client) else if acls then Some (unnamed kind.Acls client) else by_alias client acl alias) ≡ Some place
    → IsPathOf (client_path client ++ below) place
below_by client below place true aliases acls acl alias seg e1 e2 e3 e4 e5 is =
    found_at (client_path client ++ below) kind.Client client [] place is (seg, refl) (ap (λ b. client_path client ++ b) ((bytes_eq-Decides below []).0 e1) ∙ append-nil (client_path client))
below_by client below place false true acls acl alias seg e1 e2 e3 e4 e5 is =
    found_at (client_path client ++ below) kind.Aliases client [] place is (seg, refl) (ap (λ b. client_path client ++ b) ((bytes_eq-Decides below (codes "/aliases")).0 e2))
below_by client below place false false true acl alias seg e1 e2 e3 e4 e5 is =
    found_at (client_path client ++ below) kind.Acls client [] place is (seg, refl) (ap (λ b. client_path client ++ b) ((bytes_eq-Decides below (codes "/acls")).0 e3))
below_by client below place false false false acl (Some name) seg e1 e2 e3 e4 e5 is =
    named_at (client_path client ++ below) kind.Alias client name place (is_segment name) refl is (λ n. (seg, n)) (ap (λ b. client_path client ++ b) (front_is (codes "/aliases/alias=") below name e5))
below_by client below place false false false (Some name) None seg e1 e2 e3 e4 e5 is =
    named_at (client_path client ++ below) kind.Acl client name place (is_segment name) refl is (λ n. (seg, n)) (ap (λ b. client_path client ++ b) (front_is (codes "/acls/acl=") below name e4))
below_by client below place false false false None None seg e1 e2 e3 e4 e5 is = absurd (cc)

below_client_at : (client below : List ℕ) (place : Place) → IsTrue (is_segment client) → below_client client below ≡ Some place → IsPathOf (client_path client ++ below) place
below_client_at client below place seg is =
    below_by client below place (bytes_eq below []) (bytes_eq below (codes "/aliases")) (bytes_eq below (codes "/acls")) (behind_front (codes "/acls/acl=") below) (behind_front (codes "/aliases/alias=") below) seg refl refl refl refl refl is

client_at : (rest : List ℕ) (place : Place) → client_place rest ≡ Some place → IsPathOf (root ++ codes "/dots-client=" ++ rest) place
client_at rest place is =
    let whole : segment rest ++ behind_segment rest ≡ rest = take-append-drop (position_or_len (λ byte. byte == 47) rest) rest in
    subst (λ (r : List ℕ). IsPathOf (root ++ codes "/dots-client=" ++ r) place) whole (below_client_at (segment rest) (behind_segment rest) place (before_lacks 47 rest) is)

root_by : (below : List ℕ) (place : Place) (none : Bool) (client : Option (List ℕ)) → bytes_eq below [] ≡ none → behind_front (codes "/dots-client=") below ≡ client
    → (if none then Some (unnamed kind.Root []) else option_and_then client_place client) ≡ Some place → IsPathOf (root ++ below) place
root_by below place true client e1 e2 is = found_at (root ++ below) kind.Root [] [] place is (refl, refl) (ap (λ b. root ++ b) ((bytes_eq-Decides below []).0 e1))
root_by below place false (Some rest) e1 e2 is = subst (λ (b : List ℕ). IsPathOf (root ++ b) place) (sym (front_is (codes "/dots-client=") below rest e2)) (client_at rest place is)
root_by below place false None e1 e2 is = absurd (cc)

path_by : (path : List ℕ) (place : Place) (below : Option (List ℕ)) → behind_front root path ≡ below → option_and_then below_root below ≡ Some place → IsPathOf path place
path_by path place (Some below) e is =
    subst (λ (p : List ℕ). IsPathOf p place) (sym (front_is root path below e)) (root_by below place (bytes_eq below []) (behind_front (codes "/dots-client=") below) refl refl is)
path_by path place None e is = absurd (cc)

pub read_is_path : (path : List ℕ) (place : Place) → place_in path ≡ Some place → IsPathOf path place
read_is_path path place is = path_by path place (behind_front root path) refl is

-- ---- the path of a place is read as it

client_reads : (client : List ℕ) → is_segment client ≡ true → client_place client ≡ below_client client []
client_reads client seg = rw (position_of_none 47 client seg, take-length client, drop-length client) refl

below_reads : (client below : List ℕ) → is_segment client ≡ true → client_place (client ++ 47 ∷ below) ≡ below_client client (47 ∷ below)
below_reads client below seg = rw (position_of_sign 47 client below seg, take-append_seam client (47 ∷ below), drop-append_seam client (47 ∷ below)) refl

spelled_reads : (of : Kind) (client name : List ℕ) → HasNames of client name → place_in (spelled of client name) ≡ Some (record { kind = of; client = client; name = name })
spelled_reads kind.Root client name names = rw (names.0, names.1) refl
spelled_reads kind.Client client name names = client_reads client names.0 ∙ rw names.1 refl
spelled_reads kind.Aliases client name names = below_reads client (codes "aliases") names.0 ∙ rw names.1 refl
spelled_reads kind.Alias client name names = below_reads client (codes "aliases/alias=" ++ name) names.0 ∙ rw names.1 refl
spelled_reads kind.Acls client name names = below_reads client (codes "acls") names.0 ∙ rw names.1 refl
spelled_reads kind.Acl client name names = below_reads client (codes "acls/acl=" ++ name) names.0 ∙ rw names.1 refl

pub path_reads : (path : List ℕ) (place : Place) → IsPathOf path place → place_in path ≡ Some place
path_reads path place is = ap place_in is.1 ∙ spelled_reads place.kind place.client place.name is.0

found_by : (path : List ℕ) (found : Option Place) → place_in path ≡ found → IsAt path found
found_by path (Some place) e = read_is_path path place e
found_by path None e = λ place is. absurd (let one = path_reads path place is in cc)

-- ---- heads

head_is : (method target : List ℕ) (head : Result Head RestReject) → head_at (place_in (path_of target)) (verb_in method) (has_query target) ≡ head → IsHead method target head
head_is method target head is = (
  path_of target,
  query_of target,
  place_in (path_of target),
  target_is target,
  found_by (path_of target) (place_in (path_of target)) refl,
  sym is ∙ ap (λ query. head_at (place_in (path_of target)) (verb_in method) query) (sym (query_by (after_first (λ byte. byte == 63) target) (has_query target))),
)

head_of_target : (method target : List ℕ) (head : Result Head RestReject) → Gives head (head_at (place_in (path_of target)) (verb_in method) (has_query target)) → UnlessNoMemory head (IsHead method target head)
head_of_target method target (Ok head) is = head_is method target (Ok head) is
head_of_target method target (Err e) is =
    fulfils_more e (λ (r : head_at (place_in (path_of target)) (verb_in method) (has_query target) ≡ Err e). head_is method target (Err e) r) (failed e (head_at (place_in (path_of target)) (verb_in method) (has_query target)) is)

pub head_given : (method target : List ℕ) (head : Result Head RestReject) (found : Option Place) (asked : Option Verb) (query : Bool)
    → found ≡ place_in (path_of target) → asked ≡ verb_in method → query ≡ has_query target → Gives head (head_at found asked query) → UnlessNoMemory head (IsHead method target head)
head_given method target head found asked query e1 e2 e3 is =
    let placed = subst (λ (o : Option Place). Gives head (head_at o asked query)) e1 is in
    let spoken = subst (λ (v : Option Verb). Gives head (head_at (place_in (path_of target)) v query)) e2 placed in
    head_of_target method target head (subst (λ (q : Bool). Gives head (head_at (place_in (path_of target)) (verb_in method) q)) e3 spoken)
