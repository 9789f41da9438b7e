-- A peer that was never heard has no Message ID, and stays so as others are sent messages.
use Rattle.std.proofs.Common.{◌≡◌, ℕ, Bool, true, false, List, [], ◌∷◌, map, Option, Some, None, refl, sym, ap, ◌∙◌}
use Rattle.std.specs.Prelude.{find, option_map, option_and_then, ◌==◌, if◌then◌else◌}
use Rattle.std.proofs.lemmas.Bool.{cond-true, cond-false}
use Rattle.dots_host.specs.declared.out.OwnedOut.{OwnedOut}
use Rattle.coap_observe.specs.Seen.{Lists}
use Rattle.coap_observe.specs.Observed.{ObservedValue}
use Rattle.session_core.specs.declared.contact.Contact.{Contact}
use Rattle.session_core.specs.declared.contact.PeerContact.{PeerContact}
use Rattle.session_core.specs.Beating.{Beating, has_due, contact_sent, row_sent}
use Rattle.session_core.specs.Spacing.{with_beat}
use Rattle.session_core.specs.Places.{row_peer}
use Rattle.session_core.specs.Contacts.{is_of, with_row, number_in, number_at, number_of, contact_numbered, row_numbered}
use Rattle.session_core.specs.Beats.{after_beats}
use Rattle.session_core.specs.Notifying.{Bodies, OneNotified, missing, sent}

-- rows that become others keep their peers, and whom they were never heard from
abbrev pub KeepsUnheard : (PeerContact → PeerContact) → Type 0
KeepsUnheard becomes = (row : PeerContact) → (row_peer (becomes row) ≡ row_peer row) × (number_in row ≡ None → number_in (becomes row) ≡ None)

module _ (peer : ℕ) where
  at_front : (row : PeerContact) (rows : List PeerContact) → is_of peer row ≡ true → number_of peer (row ∷ rows) ≡ number_in row
  at_front row rows is = ap (option_and_then number_in) (cond-true (is_of peer row) (Some row) (find (is_of peer) rows) is)

  at_back : (row : PeerContact) (rows : List PeerContact) → is_of peer row ≡ false → number_of peer (row ∷ rows) ≡ number_of peer rows
  at_back row rows is = ap (option_and_then number_in) (cond-false (is_of peer row) (Some row) (find (is_of peer) rows) is)

  -- a row before rows, and another before others
  before : (row other : PeerContact) (rows others : List PeerContact) → row_peer other ≡ row_peer row → (number_in row ≡ None → number_in other ≡ None)
      → (number_of peer rows ≡ None → number_of peer others ≡ None) → number_of peer (row ∷ rows) ≡ None → number_of peer (other ∷ others) ≡ None
  before row other rows others same front back none = by_peer (is_of peer row) refl
    where
      by_peer : (own : Bool) → is_of peer row ≡ own → number_of peer (other ∷ others) ≡ None
      by_peer true is = at_front other others (ap (λ p. p == peer) same ∙ is) ∙ front (sym (at_front row rows is) ∙ none)
      by_peer false is = at_back other others (ap (λ p. p == peer) same ∙ is) ∙ back (sym (at_back row rows is) ∙ none)

  pub mapped_unheard : (becomes : PeerContact → PeerContact) → KeepsUnheard becomes → (rows : List PeerContact) → number_of peer rows ≡ None → number_of peer (map becomes rows) ≡ None
  mapped_unheard becomes keeps [] none = refl
  mapped_unheard becomes keeps (row ∷ rows) none =
      let one = keeps row in before row (becomes row) rows (map becomes rows) one.0 one.1 (mapped_unheard becomes keeps rows) none

  with_row_unheard : (other : ℕ) (becomes : PeerContact → PeerContact) → KeepsUnheard becomes → (rows : List PeerContact) → number_of peer rows ≡ None → number_of peer (with_row other becomes rows) ≡ None
  with_row_unheard other becomes keeps [] none = refl
  with_row_unheard other becomes keeps (row ∷ rows) none = by_other (is_of other row) refl (with_row_unheard other becomes keeps rows)
    where
      by_other : (own : Bool) → is_of other row ≡ own → (number_of peer rows ≡ None → number_of peer (with_row other becomes rows) ≡ None)
          → number_of peer (with_row other becomes (row ∷ rows)) ≡ None
      by_other true is later =
          let one = keeps row in
          ap (number_of peer) (cond-true (is_of other row) (becomes row ∷ rows) (row ∷ with_row other becomes rows) is) ∙ before row (becomes row) rows rows one.0 one.1 (λ is. is) none
      by_other false is later =
          ap (number_of peer) (cond-false (is_of other row) (becomes row ∷ rows) (row ∷ with_row other becomes rows) is)
          ∙ before row row rows (with_row other becomes rows) refl (λ is. is) later none

-- ---- a Message ID is taken

numbered_none : (contact : Option Contact) → option_map number_at contact ≡ None → option_map number_at (option_map contact_numbered contact) ≡ None
numbered_none None is = refl
numbered_none (Some contact) is = absurd (cc)

numbering_keeps : KeepsUnheard row_numbered
numbering_keeps row = (refl, numbered_none row.contact)

pub still_so : (lists : Lists) (bodies : Bodies) (rows : List ObservedValue) (contacts : List PeerContact) (place : ℕ) (one : ObservedValue) (made : Option (List ℕ)) (sends : List OwnedOut)
    (new : List ObservedValue) (left : List PeerContact) (next : ℕ) → OneNotified lists bodies rows contacts place one made sends new left next
    → (peer : ℕ) → number_of peer contacts ≡ None → number_of peer left ≡ None
still_so lists bodies rows contacts place one made sends new left next (missing unmade none same still on) peer unheard = ap (number_of peer) still ∙ unheard
still_so lists bodies rows contacts place one made sends new left next (sent bytes written id has is became counted on) peer unheard =
    ap (number_of peer) counted ∙ with_row_unheard peer one.observer.peer row_numbered numbering_keeps contacts unheard

-- ---- a tick

-- a row becomes another or not
either_keeps : (b : Bool) (other row : PeerContact) → row_peer other ≡ row_peer row → (number_in row ≡ None → number_in other ≡ None)
    → (row_peer (if b then other else row) ≡ row_peer row) × (number_in row ≡ None → number_in (if b then other else row) ≡ None)
either_keeps true other row same keeps = (same, keeps)
either_keeps false other row same keeps = (refl, λ is. is)

sent_none : (now : ℕ) (contact : Option Contact) → option_map number_at contact ≡ None → option_map number_at (option_map (contact_sent now) contact) ≡ None
sent_none now None is = refl
sent_none now (Some contact) is = absurd (cc)

pub beaten_unheard : (by : Beating) (now peer : ℕ) (rows : List PeerContact) → number_of peer rows ≡ None → number_of peer (after_beats by now rows) ≡ None
beaten_unheard by now peer rows none =
    mapped_unheard peer (with_beat by now) (λ row. either_keeps (has_due by now row) (row_sent now row) row refl (sent_none now row.contact)) rows none
