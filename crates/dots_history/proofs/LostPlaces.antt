-- A signal is lost by what is held exactly where it is by the places of the entries.
use Rattle.std.proofs.Common.{◌≡◌, ℕ, ◌<◌, suc, zero, inl, inr, Bool, true, false, cond, ◌&&◌, List, [], ◌∷◌, ◌++◌, Some, None, refl, sym, ap, ◌∙◌, subst, arith}
use Rattle.std.specs.Prelude.{◌||◌, ◌==◌, option_to_list, slice_get}
use Rattle.std.specs.List.{list_any}
use Rattle.std.proofs.lemmas.Bool.{false≢true, cases_Bool, and_parts, and_from, or_cases, or_left, or_right, eqb-true, eq-eqb}
use Rattle.std.proofs.lemmas.Option.{none-some, same_Some}
use Rattle.dots_history.specs.declared.entry.Entry.{Entry}
use Rattle.dots_history.specs.declared.change.Change.{Change}
use Rattle.dots_history.specs.declared.change.Change.TheVariants as change
use Rattle.dots_history.specs.Entries.{same_client, is_held, undoes, undoes_of_client, undoes_of_peer, reconfigures, resumes, undoes_loss, is_lost, is_loss}
use Rattle.dots_history.specs.Histories.{stays, held}
use Rattle.dots_history.specs.Rows.{loses}
use Rattle.dots_history.specs.Places.{IsHeld, IsLost}
use Rattle.dots_history.proofs.HeldPlaces.{held_at_place, place_is_held}

lost_held : (c : Change) → is_lost c ≡ true → is_held c ≡ true
unfolding is_lost is_held
lost_held change.Lost is = refl
lost_held _ is = absurd (false≢true is)

lost_of_client : (c later : Change) → is_lost c ≡ true → undoes_of_client c later ≡ true → ⊥
unfolding is_lost undoes_of_client
lost_of_client change.Lost later is undone = false≢true undone
lost_of_client _ later is undone = false≢true is

lost_of_peer : (c later : Change) → is_lost c ≡ true → undoes_of_peer c later ≡ true → ⊥
unfolding is_lost undoes_of_peer
lost_of_peer change.Lost later is undone = false≢true undone
lost_of_peer _ later is undone = false≢true is

-- a later loss, or its end, of the same peer and domain undoes a loss
undone_by : (e x : Entry) → is_lost e.change ≡ true → is_loss x.change ≡ true → e.peer ≡ x.peer → e.domain ≡ x.domain → undoes e x ≡ true
unfolding undoes resumes undoes_loss
undone_by e x lost loss peer domain =
    or_right
    (same_client e x && undoes_of_client e.change x.change)
    (reconfigures e x || ((e.peer == x.peer) && ((e.domain == x.domain) && (is_lost e.change && is_loss x.change))))
    (or_right
    (reconfigures e x)
    ((e.peer == x.peer) && ((e.domain == x.domain) && (is_lost e.change && is_loss x.change)))
    (and_from
    (e.peer == x.peer)
    ((e.domain == x.domain) && (is_lost e.change && is_loss x.change))
    (eq-eqb e.peer x.peer peer)
    (and_from
    (e.domain == x.domain)
    (is_lost e.change && is_loss x.change)
    (eq-eqb e.domain x.domain domain)
    (and_from (is_lost e.change) (is_loss x.change) lost loss))))

-- and nothing else does
undone_parts : (e x : Entry) → is_lost e.change ≡ true → undoes e x ≡ true → (e.peer ≡ x.peer) × (e.domain ≡ x.domain) × (is_loss x.change ≡ true)
unfolding undoes reconfigures resumes undoes_loss
undone_parts e x lost undone =
    elim (or_cases
    (same_client e x && undoes_of_client e.change x.change)
    (((e.peer == x.peer) && undoes_of_peer e.change x.change)
    || ((e.peer == x.peer) && ((e.domain == x.domain) && (is_lost e.change && is_loss x.change))))
    undone) [
      | inl of_client ↦
          absurd (lost_of_client e.change x.change lost (and_parts (same_client e x) (undoes_of_client e.change x.change) of_client).1)
      | inr other ↦
          elim (or_cases
          ((e.peer == x.peer) && undoes_of_peer e.change x.change)
          ((e.peer == x.peer) && ((e.domain == x.domain) && (is_lost e.change && is_loss x.change)))
          other) [
            | inl of_peer ↦
                absurd (lost_of_peer e.change x.change lost (and_parts (e.peer == x.peer) (undoes_of_peer e.change x.change) of_peer).1)
            | inr of_loss ↦
                let all = and_parts (e.peer == x.peer) ((e.domain == x.domain) && (is_lost e.change && is_loss x.change)) of_loss in
                let rest = and_parts (e.domain == x.domain) (is_lost e.change && is_loss x.change) all.1 in
                (eqb-true e.peer x.peer all.0, eqb-true e.domain x.domain rest.0, (and_parts (is_lost e.change) (is_loss x.change) rest.1).1)
          ]
    ]

-- what is held of these, the first among it or not
front : (e : Entry) (later : List Entry) (test : Entry → Bool) (b : Bool) → stays e later ≡ b → list_any test (held (e ∷ later)) ≡ true
    → list_any test (option_to_list (cond b (Some e) None) ++ held later) ≡ true
front e later test b is there = sym (ap (λ c. list_any test (option_to_list (cond c (Some e) None) ++ held later)) is) ∙ there

to_front : (e : Entry) (later : List Entry) (test : Entry → Bool) (b : Bool) → stays e later ≡ b
    → list_any test (option_to_list (cond b (Some e) None) ++ held later) ≡ true → list_any test (held (e ∷ later)) ≡ true
to_front e later test b is there = ap (λ c. list_any test (option_to_list (cond c (Some e) None) ++ held later)) is ∙ there

behind : (e : Entry) (later : List Entry) (peer domain : ℕ) → IsLost later peer domain → IsLost (e ∷ later) peer domain
behind e later peer domain lost = record {
  place = suc lost.place;
  entry = lost.entry;
  there = lost.there;
  lost = lost.lost;
  of_peer = lost.of_peer;
  not_since = since;
}
  where
    since : (j : ℕ) (x : Entry) → suc lost.place < j → slice_get (e ∷ later) j ≡ Some x → is_loss x.change ≡ true → x.peer ≡ peer → x.domain ≡ domain → ⊥
    since zero x less found = absurd (omega (arith, less))
    since (suc k) x less found = lost.not_since k x (omega (arith, less)) found

at_front : (e : Entry) (later : List Entry) (peer domain : ℕ) → stays e later ≡ true → loses peer domain e ≡ true → IsLost (e ∷ later) peer domain
at_front e later peer domain still is =
    let parts = and_parts (is_lost e.change) ((e.peer == peer) && (e.domain == domain)) is in
    let of_peer = and_parts (e.peer == peer) (e.domain == domain) parts.1 in
    let standing = held_at_place (e ∷ later) zero e refl still in
    record {
      place = zero;
      entry = e;
      there = refl;
      lost = parts.0;
      of_peer = (eqb-true e.peer peer of_peer.0, eqb-true e.domain domain of_peer.1);
      not_since = λ j x less found loss peer_too domain_too.
          false≢true (sym (standing.not_undone j x less found)
          ∙ undone_by e x parts.0 loss (eqb-true e.peer peer of_peer.0 ∙ sym peer_too) (eqb-true e.domain domain of_peer.1 ∙ sym domain_too));
    }

pub lost_at_place : (entries : List Entry) (peer domain : ℕ) → list_any (loses peer domain) (held entries) ≡ true → IsLost entries peer domain
lost_at_place [] peer domain is = absurd (false≢true is)
lost_at_place (e ∷ later) peer domain is =
    elim (cases_Bool (stays e later)) [
      | inl still ↦
          elim (or_cases (loses peer domain e) (list_any (loses peer domain) (held later)) (front e later (loses peer domain) true still is)) [
            | inl here ↦ at_front e later peer domain still here
            | inr there ↦ behind e later peer domain (lost_at_place later peer domain there)
          ]
      | inr gone ↦ behind e later peer domain (lost_at_place later peer domain (front e later (loses peer domain) false gone is))
    ]

-- what is lost at a place is held
held_loss : (entries : List Entry) (peer domain : ℕ) (lost : IsLost entries peer domain) → IsHeld entries lost.place lost.entry
held_loss entries peer domain lost = record {
  there = lost.there;
  written = lost_held lost.entry.change lost.lost;
  not_undone = λ j x less found.
      elim (cases_Bool (undoes lost.entry x)) [
        | inl undone ↦
            let parts = undone_parts lost.entry x lost.lost undone in
            absurd (lost.not_since j x less found parts.2 (sym parts.0 ∙ lost.of_peer.0) (sym parts.1 ∙ lost.of_peer.1))
        | inr out ↦ out
      ];
}

-- an entry that stays at a place is among what is held
among : (test : Entry → Bool) (entries : List Entry) (i : ℕ) (e : Entry) → IsHeld entries i e → test e ≡ true → list_any test (held entries) ≡ true
among test [] i e standing is = absurd (none-some e standing.there)
among test (x ∷ later) zero e standing is =
    to_front x later test true
    (place_is_held (x ∷ later) zero x (subst (IsHeld (x ∷ later) zero) (sym (same_Some x e standing.there)) standing))
    (or_left (test x) (list_any test (held later)) (ap test (same_Some x e standing.there) ∙ is))
among test (x ∷ later) (suc i) e standing is =
    let rest : list_any test (held later) ≡ true =
    among test later i e (record {
      there = standing.there;
      written = standing.written;
      not_undone = λ j y less found. standing.not_undone (suc j) y (omega (arith, less)) found;
    }) is in
    elim (cases_Bool (stays x later)) [
      | inl still ↦ to_front x later test true still (or_right (test x) (list_any test (held later)) rest)
      | inr gone ↦ to_front x later test false gone rest
    ]

pub place_is_lost : (entries : List Entry) (peer domain : ℕ) → IsLost entries peer domain → list_any (loses peer domain) (held entries) ≡ true
place_is_lost entries peer domain lost =
    among (loses peer domain) entries lost.place lost.entry (held_loss entries peer domain lost)
    (and_from
    (is_lost lost.entry.change)
    ((lost.entry.peer == peer) && (lost.entry.domain == domain))
    lost.lost
    (and_from (lost.entry.peer == peer) (lost.entry.domain == domain) (eq-eqb lost.entry.peer peer lost.of_peer.0) (eq-eqb lost.entry.domain domain lost.of_peer.1)))
