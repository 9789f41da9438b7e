-- The slots in rings go on with a history.
use Rattle.std.proofs.Common.{◌≡◌, ℕ, ◌-◌, Bool, true, false, cond, not, ◌&&◌, List, [], ◌∷◌, ◌++◌, map, filter, Some, inl, inr, refl, sym, ap, subst, ◌∙◌, append-nil}
use Rattle.std.specs.Prelude.{◌==◌}
use Rattle.std.proofs.lemmas.Bool.{cond_both, cases_Bool, false≢true, eqb-true, eq-eqb}
use Rattle.std.proofs.lemmas.List.{map-append}
use Rattle.std.proofs.lemmas.List.Elements.{filter-append}
use Rattle.dots_history.specs.Entries.{is_signal, signals}
use Rattle.dots_history.specs.Histories.{or_else}
use Rattle.dots_history.specs.Places.{lasts}
use Rattle.coap_exchange.specs.declared.pair.Pair.{Pair}
use Rattle.coap_exchange.specs.declared.message.Message.{Message}
use Rattle.coap_exchange.specs.Rings as rings
use Rattle.coap_exchange.specs.Rings.{RingValue, empty_ring, grown, noted, is_ring_of, slots_of, renumbered, ring_renumbered}
use Rattle.dots_history.specs.Slots.{number_in}
use Rattle.coap_exchange.specs.Noting.{message_of}
use Rattle.coap_exchange.proofs.Lasts.{drop_nil, pushed_lasts, map_lasts, map_pushed}
use Rattle.dots_history.specs.Tables.{pushed}
use Rattle.dots_history.specs.Filed.{Filed, slot_of, refiled}
use Rattle.dots_registry.specs.Kept.{is_from, RingsAre, last_slot}

-- ---- one more in a list

filter_in : (test : Filed → Bool) (filed : List Filed) (x : Filed) → test x ≡ true → filter test (filed ++ x ∷ []) ≡ filter test filed ++ x ∷ []
filter_in test filed x is = filter-append test filed (x ∷ []) ∙ ap (λ b. filter test filed ++ cond b (x ∷ []) []) is

filter_out : (test : Filed → Bool) (filed : List Filed) (x : Filed) → test x ≡ false → filter test (filed ++ x ∷ []) ≡ filter test filed
filter_out test filed x out =
    filter-append test filed (x ∷ []) ∙ ap (λ b. filter test filed ++ cond b (x ∷ []) []) out ∙ append-nil (filter test filed)

-- ---- whose ring it is

eqb_swap : (a b : ℕ) → (a == b) ≡ (b == a)
eqb_swap a b =
    elim (cases_Bool (a == b)) [
      | inl is ↦ is ∙ sym (eq-eqb b a (sym (eqb-true a b is)))
      | inr out ↦
          elim (cases_Bool (b == a)) [
            | inl is ↦ absurd (false≢true (sym out ∙ eq-eqb a b (sym (eqb-true b a is))))
            | inr too ↦ out ∙ sym too
          ]
    ]

pub from_ring : (r : RingValue) (x : Filed) → is_from r.pair x ≡ (is_signal x.entry.change && is_ring_of x.entry.peer x.entry.domain r)
unfolding signals
from_ring r x =
    ap (λ b. is_signal x.entry.change && (b && (x.entry.domain == r.pair.domain))) (eqb_swap x.entry.peer r.pair.peer)
    ∙ ap (λ b. is_signal x.entry.change && ((r.pair.peer == x.entry.peer) && b)) (eqb_swap x.entry.domain r.pair.domain)

-- ---- the start

pub rings_start : (n : ℕ) (pairs : List Pair) → RingsAre n (map (empty_ring n) pairs) []
rings_start n [] = record {}
rings_start n (pair ∷ pairs) = (refl, sym (drop_nil (0 - n)), rings_start n pairs)

-- ---- an entry that is no signal entry

not_from : (r : RingValue) (x : Filed) → is_signal x.entry.change ≡ false → is_from r.pair x ≡ false
not_from r x quiet = from_ring r x ∙ ap (λ b. b && is_ring_of x.entry.peer x.entry.domain r) quiet

pub rings_other : (n : ℕ) (rs : List RingValue) (filed : List Filed) (x : Filed) → is_signal x.entry.change ≡ false → RingsAre n rs filed → RingsAre n rs (filed ++ x ∷ [])
rings_other n [] filed x quiet are = record {}
rings_other n (r ∷ rs) filed x quiet are =
    let out = not_from r x quiet in
    let other : Filed → Bool = λ y. not (is_from r.pair y) in (
      are.0,
      are.1 ∙ sym (ap (λ fs. lasts n (map slot_of fs)) (filter_out (is_from r.pair) filed x out)),
      subst (RingsAre n rs) (sym (filter_in other filed x (ap not out))) (rings_other n rs (filter other filed) x quiet are.2),
    )

-- ---- a signal entry

pub rings_noted : (n : ℕ) (rs : List RingValue) (filed : List Filed) (x : Filed) → is_signal x.entry.change ≡ true → RingsAre n rs filed
    → RingsAre n (noted x.entry.peer x.entry.domain (message_of x.slot x.entry) rs) (filed ++ x ∷ [])
rings_noted n [] filed x signal are = record {}
rings_noted n (r ∷ rs) filed x signal are =
    let message = message_of x.slot x.entry in
    let other : Filed → Bool = λ y. not (is_from r.pair y) in
    let own = map slot_of (filter (is_from r.pair) filed) in
    let same : is_from r.pair x ≡ is_ring_of x.entry.peer x.entry.domain r = from_ring r x ∙ ap (λ b. b && is_ring_of x.entry.peer x.entry.domain r) signal in
    cond_both
    (is_ring_of x.entry.peer x.entry.domain r)
    (grown message r ∷ rs)
    (r ∷ noted x.entry.peer x.entry.domain message rs)
    (λ all. RingsAre n all (filed ++ x ∷ []))
    (λ is.
    let here = same ∙ is in (
      are.0,
      map_pushed rings.slot_of r.room message r.messages
          ∙ ap (λ k. pushed k x.slot (slots_of r.messages)) are.0
          ∙ ap (pushed n x.slot) are.1
          ∙ pushed_lasts n x.slot own
          ∙ ap (lasts n) (sym (map-append slot_of (filter (is_from r.pair) filed) (x ∷ [])))
          ∙ ap (λ fs. lasts n (map slot_of fs)) (sym (filter_in (is_from r.pair) filed x here)),
      subst (RingsAre n rs) (sym (filter_out other filed x (ap not here))) are.2,
    ))
    (λ out.
    let there = same ∙ out in (
      are.0,
      are.1 ∙ sym (ap (λ fs. lasts n (map slot_of fs)) (filter_out (is_from r.pair) filed x there)),
      subst
          (RingsAre n (noted x.entry.peer x.entry.domain message rs))
          (sym (filter_in other filed x (ap not there)))
          (rings_noted n rs (filter other filed) x signal are.2),
    ))

-- ---- new numbers

slots_renumbered : (keep : List ℕ) (messages : List Message) → slots_of (map (renumbered keep) messages) ≡ map (number_in keep) (slots_of messages)
slots_renumbered keep [] = refl
slots_renumbered keep (m ∷ messages) = ap (λ rest. number_in keep m.slot ∷ rest) (slots_renumbered keep messages)

slots_refiled : (keep : List ℕ) (filed : List Filed) → map slot_of (map (refiled keep) filed) ≡ map (number_in keep) (map slot_of filed)
slots_refiled keep [] = refl
slots_refiled keep (x ∷ filed) = ap (λ rest. number_in keep x.slot ∷ rest) (slots_refiled keep filed)

-- a test that doesn't look at slots
pub filter_refiled : (keep : List ℕ) (test : Filed → Bool) (filed : List Filed) → ((x : Filed) → test (refiled keep x) ≡ test x)
    → filter test (map (refiled keep) filed) ≡ map (refiled keep) (filter test filed)
filter_refiled keep test [] blind = refl
filter_refiled keep test (x ∷ filed) blind =
    ap (λ rest. cond (test (refiled keep x)) (refiled keep x ∷ rest) rest) (filter_refiled keep test filed blind)
    ∙ ap (λ b. cond b (refiled keep x ∷ map (refiled keep) (filter test filed)) (map (refiled keep) (filter test filed))) (blind x)
    ∙ by_test (test x)
  where
    by_test : (b : Bool) → cond b (refiled keep x ∷ map (refiled keep) (filter test filed)) (map (refiled keep) (filter test filed))
        ≡ map (refiled keep) (cond b (x ∷ filter test filed) (filter test filed))
    by_test true = refl
    by_test false = refl

pub rings_moved : (n : ℕ) (keep : List ℕ) (rs : List RingValue) (filed : List Filed) → RingsAre n rs filed → RingsAre n (map (ring_renumbered keep) rs) (map (refiled keep) filed)
rings_moved n keep [] filed are = record {}
rings_moved n keep (r ∷ rs) filed are =
    let other : Filed → Bool = λ y. not (is_from r.pair y) in (
      are.0,
      slots_renumbered keep r.messages
          ∙ ap (map (number_in keep)) are.1
          ∙ map_lasts (number_in keep) n (map slot_of (filter (is_from r.pair) filed))
          ∙ ap (lasts n) (sym (slots_refiled keep (filter (is_from r.pair) filed)))
          ∙ ap (λ fs. lasts n (map slot_of fs)) (sym (filter_refiled keep (is_from r.pair) filed (λ x. refl))),
      subst (RingsAre n (map (ring_renumbered keep) rs)) (sym (filter_refiled keep other filed (λ x. refl))) (rings_moved n keep rs (filter other filed) are.2),
    )

-- ---- the last entry

pub last_more : (filed : List Filed) (x : Filed) → last_slot (filed ++ x ∷ []) ≡ Some x.slot
last_more [] x = refl
last_more (y ∷ filed) x = ap (λ o. or_else o (Some y.slot)) (last_more filed x)
