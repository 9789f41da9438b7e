-- Observers in the order of their registration, each under a key that it keeps.
use Rattle.std.specs.Prelude.{◌≡◌, ℕ, Bool, not, ◌==◌, is_some, true, List, [], ◌∷◌, ◌++◌, map, filter, Option, Some, None, option_map, if◌then◌else◌}
use Rattle.std.specs.List.{find, list_any}
use Rattle.coap_observe.specs.Links.{Each, Apart, Distinct}
use Rattle.coap_observe.specs.Observed.{ObservedValue}

-- a key with its observer
abbrev pub Member : Type 0
Member = ℕ × ObservedValue

pub record RollValue : Type 0 where
  pub room : ℕ
  pub members : List Member

abbrev pub key_of : Member → ℕ
key_of member = member.0

abbrev pub one_of : Member → ObservedValue
one_of member = member.1

-- the keys, and the observers, in the order of registration
abbrev pub keys_of : List Member → List ℕ
keys_of members = map key_of members

abbrev pub observed_of : List Member → List ObservedValue
observed_of members = map one_of members

abbrev pub is_key : ℕ → Member → Bool
is_key key member = member.0 == key

abbrev pub has_key : ℕ → List Member → Bool
has_key key members = list_any (is_key key) members

abbrev pub one_at : ℕ → List Member → Option ObservedValue
one_at key members = option_map one_of (find (is_key key) members)

abbrev pub without_key : ℕ → List Member → List Member
without_key key members = filter (λ member. not (is_key key member)) members

-- the one under a key becomes another
abbrev pub changed : ℕ → (ObservedValue → ObservedValue) → Member → Member
changed key becomes member = if is_key key member then (member.0, becomes member.1) else member

abbrev pub with_key : ℕ → (ObservedValue → ObservedValue) → List Member → List Member
with_key key becomes members = map (changed key becomes) members

-- the key of the first that passes
abbrev pub first_key : (ObservedValue → Bool) → List Member → Option ℕ
first_key test members = option_map key_of (find (λ member. test (one_of member)) members)

-- ---- of one peer

abbrev pub peer_of : ObservedValue → ℕ
peer_of o = o.observer.peer

abbrev pub is_member_of : ℕ → Member → Bool
is_member_of peer member = peer_of (one_of member) == peer

-- the keys of a peer's observers
abbrev pub own_keys : ℕ → List Member → List ℕ
own_keys peer members = keys_of (filter (is_member_of peer) members)

-- ---- by the slots that they stand in

abbrev pub member_of : ℕ → Option ObservedValue → List Member
member_of key None = []
member_of key (Some one) = (key, one) ∷ []

abbrev pub members_of : (ℕ → Option ObservedValue) → List ℕ → List Member
members_of at [] = []
members_of at (key ∷ keys) = member_of key (at key) ++ members_of at keys

-- exactly the keys in the order have one, and each stands in it once
pub record AreThere (at : ℕ → Option ObservedValue) (keys : List ℕ) : Type 0 where
  pub there : Each (λ key. is_some (at key) ≡ true) keys
  pub nowhere : (key : ℕ) → Apart key keys → at key ≡ None
  pub distinct : Distinct keys
