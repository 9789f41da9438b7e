-- What stands before the body of a request is read as it was written.
use Rattle.std.proofs.Common.{◌≡◌, ℕ, ◌<◌, ◌≤◌, ◌^◌, true, false, List, [], ◌∷◌, ◌++◌, length, length-append, map, codes, decimal, Option, Some, None, Ok, Err, refl, ◌∙◌, arith}
use Rattle.std.specs.Prelude.{ℤ, ◌&&◌, nat_le, IsTrue}
use Rattle.std.specs.List.{AllByRecursion, list_all}
use Rattle.std.specs.Char.{is_ascii_graphic}
use Rattle.std.proofs.lemmas.Bool.{cond-true, and_parts, leb-true, le-leb}
use Rattle.std.proofs.lemmas.Fmt.{length-decimal-le, decimal_is_IsNumeral}
use Rattle.coap_message.specs.Message.{CoapOption}
use Rattle.dots_keys.specs.Replies.{dots_cbor}
use Rattle.dots_lists.specs.Name.{is_name}
use Rattle.dots_keys.specs.declared.reject.Reject.TheVariants as reject
use Rattle.dots_keys.specs.declared.head_request.Content.TheVariants as content
use Rattle.dots_keys.specs.declared.head_request.Observe.TheVariants as observe
use Rattle.dots_keys.specs.Heads.{head_of}
use Rattle.dots_keys.specs.Operations.{is_client_name, client_name, identifier, put_mitigation, delete_mitigation}
use Rattle.dots_keys.specs.Options.{first_critical, has_length}
use Rattle.dots_keys.specs.Paths.{mitigation, path_of}
use Rattle.dots_keys.proofs.Identifiers.{identifies}
use Rattle.acl_lists.specs.declared.asked.Asked.{Asked}
use Rattle.dots_client.specs.Requests.{uri_path, asking, withdrawing}

path_length : (n : ℕ) → n ≤ 255 → has_length 11 n ≡ true
path_length n le = rw (le-leb n 255 le) refl

-- a segment of at most 255 bytes is recognised
passed : (previous : Option ℕ) (segment : List ℕ) (options : List CoapOption) → length segment ≤ 255
    → first_critical previous (uri_path segment ∷ options) ≡ first_critical (Some 11) options
passed previous segment options le = rw (path_length (length segment) le) refl

pub name_length : (name : List ℕ) → IsTrue (is_name name) → length name ≤ 64
name_length name is =
    let parts = and_parts (nat_le 1 (length name) && nat_le (length name) 64) (list_all is_ascii_graphic name) is in
    leb-true (length name) 64 (and_parts (nat_le 1 (length name)) (nat_le (length name) 64) parts.0).1

pub client_length : (cuid : List ℕ) → IsTrue (is_client_name cuid) → length (codes "cuid=" ++ cuid) ≤ 255
client_length cuid is =
    let few = name_length cuid (and_parts (is_name cuid) _ is).0 in
    let sum = length-append (codes "cuid=") cuid in
    omega (arith, sum, few)

number_length : (mid : ℕ) → mid < 2 ^ 32 → length (decimal mid) ≤ 10
number_length mid below = length-decimal-le 10 mid (omega arith) (omega (arith, below)) (omega (arith, below))

pub mid_length : (mid : ℕ) → mid < 2 ^ 32 → length (codes "mid=" ++ decimal mid) ≤ 255
mid_length mid below =
    let few = number_length mid below in
    let sum = length-append (codes "mid=") (decimal mid) in
    omega (arith, sum, few)

-- the number before what stands behind these segments
abbrev pub after : Option ℕ → List (List ℕ) → Option ℕ
after previous [] = previous
after previous (segment ∷ segments) = after (Some 11) segments

abbrev pub AreShort : List (List ℕ) → Type 0
AreShort segments = AllByRecursion (λ (segment : List ℕ). length segment ≤ 255) segments

pub passed_all : (previous : Option ℕ) (segments : List (List ℕ)) (options : List CoapOption) → AreShort segments
    → first_critical previous (map uri_path segments ++ options) ≡ first_critical (after previous segments) options
passed_all previous [] options short = refl
passed_all previous (segment ∷ segments) options short =
    passed previous segment (map uri_path segments ++ options) short.0 ∙ passed_all (Some 11) segments options short.1

pub recognised : (cuid : List ℕ) (mid : ℕ) (options : List CoapOption) → IsTrue (is_client_name cuid) → mid < 2 ^ 32
    → first_critical None (map uri_path (path_of (mitigation None (Some cuid) (Some (decimal mid)))) ++ options) ≡ first_critical (Some 11) options
recognised cuid mid options named below =
    passed_all None (path_of (mitigation None (Some cuid) (Some (decimal mid)))) options
    (omega arith, (omega arith, (omega arith, (client_length cuid named, (mid_length mid below, tt)))))

pub client_back : (cuid : List ℕ) → IsTrue (is_client_name cuid) → client_name cuid ≡ Ok cuid
client_back cuid named = cond-true (is_client_name cuid) (Ok cuid) (Err reject.Parameter) named

pub mid_back : (mid : ℕ) → mid < 2 ^ 32 → identifier (decimal mid) ≡ Ok mid
mid_back mid below =
    let numeral = decimal_is_IsNumeral mid (omega (arith, below)) in
    identifies (decimal mid) mid numeral.0.1 numeral.1 numeral.0.0 (number_length mid below) below

pub asking_head : (number mid : ℕ) (cuid : List ℕ) (asked : Asked) (lifetime : ℤ) → IsTrue (is_client_name cuid) → mid < 2 ^ 32
    → head_of (asking number cuid mid asked lifetime) false
    ≡ Ok (record { operation = put_mitigation (record { cdid = None; cuid = cuid; mid = Some mid }); content = content.All; observe = observe.No })
asking_head number mid cuid asked lifetime named below =
    let critical = recognised cuid mid (dots_cbor ∷ []) named below in
    let client = client_back cuid named in
    let identified = mid_back mid below in
    simp (critical, client, identified) refl

pub withdrawing_head : (number mid : ℕ) (cuid : List ℕ) → IsTrue (is_client_name cuid) → mid < 2 ^ 32
    → head_of (withdrawing number cuid mid) false
    ≡ Ok (record { operation = delete_mitigation (record { cdid = None; cuid = cuid; mid = Some mid }); content = content.All; observe = observe.No })
withdrawing_head number mid cuid named below =
    let critical = recognised cuid mid [] named below in
    let client = client_back cuid named in
    let identified = mid_back mid below in
    simp (critical, client, identified) refl
