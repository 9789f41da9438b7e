-- Where the row of each peer stands.
use Rattle.std.specs.Prelude.{◌≡◌, ℕ, zero, suc, ◌==◌, List, [], ◌∷◌, drop}
use Rattle.std.specs.List.{position_from}
use Rattle.std.specs.Map.{lookup}
use Rattle.session_core.specs.declared.contact.PeerContact.{PeerContact}

abbrev pub row_peer : PeerContact → ℕ
row_peer row = row.peer

-- a map has the first place of each peer in the list from a place on
abbrev pub AreFirsts : ℕ → List (ℕ × ℕ) → List ℕ → Type 0
AreFirsts place entries peers = (peer : ℕ) → lookup (λ other. peer == other) entries ≡ position_from (λ other. peer == other) place (drop place peers)

-- the row at a place becomes another, and the others are as they were
abbrev pub with_place : ℕ → (PeerContact → PeerContact) → List PeerContact → List PeerContact
with_place place becomes [] = []
with_place zero becomes (row ∷ rows) = becomes row ∷ rows
with_place (suc place) becomes (row ∷ rows) = row ∷ with_place place becomes rows
