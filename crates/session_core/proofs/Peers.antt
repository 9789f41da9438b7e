-- No row comes or goes.
use Rattle.std.proofs.Common.{◌≡◌, ℕ, ◌+◌, ◌<◌, true, List, [], ◌∷◌, length, map, take, drop, get_or, set, refl, sym, ap, ◌∙◌, inl, inr}
use Rattle.std.specs.Prelude.{◌==◌, ◌||◌}
use Rattle.std.specs.List.{list_any}
use Rattle.std.proofs.lemmas.Bool.{cases_Bool, cond-true, cond-false}
use Rattle.session_core.specs.declared.contact.PeerContact.{PeerContact}
use Rattle.session_core.specs.Contacts.{is_of, with_row, row_heard, heard_from}
use Rattle.session_core.specs.Places.{row_peer}
use Rattle.session_core.proofs.Placing.{peers_same}
use Rattle.session_core.proofs.Rows.{cut, placed_in}

with_row_keeps : (peer : ℕ) (becomes : PeerContact → PeerContact) (rows : List PeerContact) → ((row : PeerContact) → row_peer (becomes row) ≡ row_peer row)
    → map row_peer (with_row peer becomes rows) ≡ map row_peer rows
with_row_keeps peer becomes [] same = refl
with_row_keeps peer becomes (row ∷ rows) same =
    let is = is_of peer row in
    let one = becomes row ∷ rows in
    let other = row ∷ with_row peer becomes rows in
    elim (cases_Bool is) [
      | inl its ↦ ap (map row_peer) (cond-true is one other its) ∙ ap (λ p. p ∷ map row_peer rows) (same row)
      | inr out ↦ ap (map row_peer) (cond-false is one other out) ∙ ap (λ ps. row_peer row ∷ ps) (with_row_keeps peer becomes rows same)
    ]

-- when a peer is heard the peers stay
pub heard_keeps_peers : (peer now : ℕ) (rows : List PeerContact) → map row_peer (heard_from peer now rows) ≡ map row_peer rows
heard_keeps_peers peer now rows = with_row_keeps peer (row_heard now) rows (λ row. refl)

any_of : (peer : ℕ) (rows : List PeerContact) → list_any (is_of peer) rows ≡ list_any (λ p. p == peer) (map row_peer rows)
any_of peer [] = refl
any_of peer (row ∷ rows) = ap (λ b. is_of peer row || b) (any_of peer rows)

-- a peer of the list has a row
pub is_among : (peer : ℕ) (rows : List PeerContact) (peers : List ℕ) → map row_peer rows ≡ peers → list_any (λ p. p == peer) peers ≡ true
    → list_any (is_of peer) rows ≡ true
is_among peer rows peers are is = any_of peer rows ∙ ap (list_any (λ p. p == peer)) are ∙ is

-- another row of the same peer stands at a place
pub peers_set : (old rows : List PeerContact) (i : ℕ) (d new : PeerContact) → i < length old → rows ≡ old → row_peer new ≡ row_peer (get_or rows i d)
    → map row_peer (set rows i new) ≡ map row_peer old
peers_set old rows i d new less are same =
    let front = take i old in
    let rest = drop (i + 1) old in
    ap (λ xs. map row_peer (set xs i new)) are
    ∙ ap (map row_peer) (placed_in old i new less)
    ∙ peers_same front (get_or old i d) new rest (same ∙ ap (λ xs. row_peer (get_or xs i d)) are)
    ∙ ap (map row_peer) (sym (cut old i d less))
