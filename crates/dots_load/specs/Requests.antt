-- The requests of a generated run: non-confirmable messages without a token, as a client sends them (RFC 9132, section 4.4).
use Rattle.std.specs.Prelude.{ℕ, ◌+◌, ◌*◌, ◌≤◌, List, [], ◌∷◌, ◌++◌, length, codes, decimal}
use Rattle.coap_message.specs.declared.kind.Kind.TheVariants.{Non}
use Rattle.coap_message.specs.Message.{CoapOption, CoapMessage, AreOptions}
use Rattle.coap_message.specs.Parts.{values_of}
use Rattle.cbor_profile.specs.Tree.{Tree, unsigned, text, array, mapping, items_of, pairs_of}
use Rattle.cbor_profile.specs.Canon.{canon}

-- a non-confirmable request without a token
abbrev pub request : ℕ → ℕ → List CoapOption → List ℕ → CoapMessage
request code identifier options payload = record { kind = Non; code = code; identifier = identifier; token = []; options = options; payload = payload }

-- options that can stand in a message, with few bytes in all
pub record AreShort (options : List CoapOption) : Type 0 where
  pub are : AreOptions 0 options
  pub size : 5 * length options + length (values_of options) ≤ 1000

-- a Uri-Path
abbrev pub segment : List ℕ → CoapOption
segment value = record { number = 11; value = value }

-- the path of all mitigations of a peer's client, whose cuid is `c` and the number of the peer
abbrev pub all_path : ℕ → List CoapOption
all_path peer = segment (codes ".well-known") ∷ segment (codes "dots") ∷ segment (codes "mitigate") ∷ segment (codes "cuid=c" ++ decimal peer) ∷ []

-- the path of one of them
abbrev pub mid_path : ℕ → ℕ → List CoapOption
mid_path peer mid = all_path peer ++ segment (codes "mid=" ++ decimal mid) ∷ []

-- the Content-Format `application/dots+cbor`, which is 271
abbrev pub dots_format : CoapOption
dots_format = record { number = 12; value = 1 ∷ 15 ∷ [] }

-- `10.D.C.0/24`
abbrev pub prefix_text : ℕ → ℕ → List ℕ
prefix_text domain third = codes "10." ++ (decimal domain ++ (codes "." ++ (decimal third ++ codes ".0/24")))

-- a map of one field
abbrev pub sole : ℕ → Tree → Tree
sole key value = mapping (pairs_of ((unsigned key, value) ∷ []))

-- an array of one item
abbrev pub only : Tree → Tree
only inside = array (items_of (inside ∷ []))

-- A mitigation-scope (1) of one scope (2), which has a target-prefix (6) and a lifetime (14).
abbrev pub scope_tree : List ℕ → ℕ → Tree
scope_tree prefix lifetime =
    sole 1 (sole 2 (only (mapping (pairs_of ((unsigned 6, only (text prefix)) ∷ (unsigned 14, unsigned lifetime) ∷ [])))))

-- the body of a request for a mitigation of a prefix
abbrev pub scope_body : List ℕ → ℕ → List ℕ
scope_body prefix lifetime = canon (scope_tree prefix lifetime)

-- GET of all mitigations of the client, DELETE of one, and PUT of one
abbrev pub get_all : ℕ → ℕ → CoapMessage
get_all identifier peer = request 1 identifier (all_path peer) []

abbrev pub delete_one : ℕ → ℕ → ℕ → CoapMessage
delete_one identifier peer mid = request 4 identifier (mid_path peer mid) []

abbrev pub put_one : ℕ → ℕ → ℕ → List ℕ → CoapMessage
put_one identifier peer mid body = request 3 identifier (mid_path peer mid ++ dots_format ∷ []) body
