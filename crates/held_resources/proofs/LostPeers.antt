-- A signal of a peer is lost by the tables where an entry of the peer that is held says so.
use Rattle.std.proofs.Common.{◌≡◌, ℕ, Bool, true, false, ◌&&◌, not, List, [], ◌∷◌, map, inl, inr, refl, sym, ap, ◌∙◌, subst}
use Rattle.std.specs.Prelude.{◌||◌, ◌==◌}
use Rattle.std.specs.List.{list_any, list_all}
use Rattle.std.proofs.lemmas.Bool.{false≢true, both_ways, and_parts, and_from, or_cases, or_left, or_right, not_from_true, eqb-true, eq-eqb}
use Rattle.dots_history.specs.declared.entry.Entry.{Entry}
use Rattle.dots_history.specs.Entries.{is_lost, is_loss}
use Rattle.dots_history.specs.Rows.{loses, is_lost_in}
use Rattle.dots_history.specs.Capacities.{loses_as}
use Rattle.held_resources.specs.declared.signals.Signal.{Signal}
use Rattle.dots_history.specs.Held.{is_lost_of}
use Rattle.held_resources.specs.Tables.{Sizes, Tables, Have, is_known, is_placed, signal_of}
use Rattle.held_resources.proofs.Losses.{lost_loss}

abbrev of_peer : ℕ → ℕ × ℕ → List Entry → Bool
of_peer peer own es = is_lost_in es own.0 own.1 && (peer == own.0)

-- what is lost in a domain is lost
lost_in_one : (peer domain : ℕ) (es : List Entry) → is_lost_in es peer domain ≡ true → is_lost_of es peer ≡ true
lost_in_one peer domain [] is = is
lost_in_one peer domain (e ∷ es) is =
    elim (or_cases (loses peer domain e) (is_lost_in es peer domain) is) [
      | inl here ↦
          let parts = and_parts (is_lost e.change) ((e.peer == peer) && (e.domain == domain)) here in
          or_left
          (is_lost e.change && (e.peer == peer))
          (is_lost_of es peer)
          (and_from (is_lost e.change) (e.peer == peer) parts.0 (and_parts (e.peer == peer) (e.domain == domain) parts.1).0)
      | inr there ↦ or_right (is_lost e.change && (e.peer == peer)) (is_lost_of es peer) (lost_in_one peer domain es there)
    ]

-- by one of these pairs a signal of the peer is lost
one_lost : (peer : ℕ) (es : List Entry) (own : List (ℕ × ℕ)) → list_any (λ (o : ℕ × ℕ). of_peer peer o es) own ≡ true → is_lost_of es peer ≡ true
one_lost peer es [] is = absurd (false≢true is)
one_lost peer es (o ∷ own) is =
    elim (or_cases (of_peer peer o es) (list_any (λ (x : ℕ × ℕ). of_peer peer x es) own) is) [
      | inl here ↦
          let parts = and_parts (is_lost_in es o.0 o.1) (peer == o.0) here in
          lost_in_one peer o.1 es (ap (λ p. is_lost_in es p o.1) (eqb-true peer o.0 parts.1) ∙ parts.0)
      | inr there ↦ one_lost peer es own there
    ]

-- the pair of an entry, among these
its_pair : (e : Entry) (es : List Entry) (own : List (ℕ × ℕ)) → list_any (loses_as e) own ≡ true → is_lost_in es e.peer e.domain ≡ true
    → list_any (λ (o : ℕ × ℕ). of_peer e.peer o es) own ≡ true
its_pair e es [] is lost = absurd (false≢true is)
its_pair e es (o ∷ own) is lost =
    elim (or_cases (loses_as e o) (list_any (loses_as e) own) is) [
      | inl here ↦
          let parts = and_parts (e.peer == o.0) (e.domain == o.1) here in
          or_left
          (of_peer e.peer o es)
          (list_any (λ (x : ℕ × ℕ). of_peer e.peer x es) own)
          (and_from
          (is_lost_in es o.0 o.1)
          (e.peer == o.0)
          (ap (λ p. is_lost_in es p o.1) (sym (eqb-true e.peer o.0 parts.0)) ∙ ap (is_lost_in es e.peer) (sym (eqb-true e.domain o.1 parts.1)) ∙ lost)
          parts.0)
      | inr there ↦ or_right (of_peer e.peer o es) (list_any (λ (x : ℕ × ℕ). of_peer e.peer x es) own) (its_pair e es own there lost)
    ]

-- an entry that says that the signal is lost, among these
its_loss : (peer : ℕ) (sizes : Sizes) (all es : List Entry) → list_all (is_known sizes) es ≡ true
    → ((p d : ℕ) → is_lost_in es p d ≡ true → is_lost_in all p d ≡ true) → is_lost_of es peer ≡ true
    → list_any (λ (o : ℕ × ℕ). of_peer peer o all) sizes.own ≡ true
its_loss peer sizes all [] known more is = absurd (false≢true is)
its_loss peer sizes all (e ∷ es) known more is =
    let parts = and_parts (is_known sizes e) (list_all (is_known sizes) es) known in
    elim (or_cases (is_lost e.change && (e.peer == peer)) (is_lost_of es peer) is) [
      | inl here ↦
          let both = and_parts (is_lost e.change) (e.peer == peer) here in
          subst
          (λ p. list_any (λ (o : ℕ × ℕ). of_peer p o all) sizes.own ≡ true)
          (eqb-true e.peer peer both.1)
          (its_pair e all sizes.own
          (pair_known parts.0 both.0)
          (more e.peer e.domain
          (or_left
          (loses e.peer e.domain e)
          (is_lost_in es e.peer e.domain)
          (and_from
          (is_lost e.change)
          ((e.peer == e.peer) && (e.domain == e.domain))
          both.0
          (and_from (e.peer == e.peer) (e.domain == e.domain) (eq-eqb e.peer e.peer refl) (eq-eqb e.domain e.domain refl))))))
      | inr there ↦ its_loss peer sizes all es parts.1 (λ p d in_rest. more p d (or_right (loses p d e) (is_lost_in es p d) in_rest)) there
    ]
  where
    pair_known : is_known sizes e ≡ true → is_lost e.change ≡ true → list_any (loses_as e) sizes.own ≡ true
    pair_known is_so lost =
        elim (or_cases
        (not (is_loss e.change))
        (list_any (loses_as e) sizes.own)
        (and_parts (is_placed sizes e) (not (is_loss e.change) || list_any (loses_as e) sizes.own) is_so).1) [
          | inl out ↦ absurd (both_ways (not (is_loss e.change)) (not_from_true (is_loss e.change) (lost_loss e.change lost)) out)
          | inr of ↦ of
        ]

by_pairs : (peer : ℕ) (es : List Entry) (own : List (ℕ × ℕ))
    → list_any (λ (s : Signal). s.lost && (peer == s.peer)) (map (signal_of es) own) ≡ list_any (λ (o : ℕ × ℕ). of_peer peer o es) own
by_pairs peer es [] = refl
by_pairs peer es (o ∷ own) = ap (λ b. of_peer peer o es || b) (by_pairs peer es own)

same_truth : (a b : Bool) → (a ≡ true → b ≡ true) → (b ≡ true → a ≡ true) → a ≡ b
same_truth true b to from = sym (to refl)
same_truth false true to from = from refl
same_truth false false to from = refl

pub peer_lost : (tables : Tables) (es : List Entry) (peer : ℕ) → Have tables es
    → list_any (λ (s : Signal). s.lost && (peer == s.peer)) tables.signals ≡ is_lost_of es peer
peer_lost tables es peer have =
    ap (list_any (λ (s : Signal). s.lost && (peer == s.peer))) have.signals
    ∙ by_pairs peer es tables.sizes.own
    ∙ same_truth
    (list_any (λ (o : ℕ × ℕ). of_peer peer o es) tables.sizes.own)
    (is_lost_of es peer)
    (one_lost peer es tables.sizes.own)
    (its_loss peer tables.sizes es es have.known (λ p d lost. lost))
