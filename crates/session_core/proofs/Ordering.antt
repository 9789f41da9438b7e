-- How far notifications came.
use Rattle.std.proofs.Common.{◌≡◌, ℕ, ◌+◌, ◌-◌, ◌<◌, ◌≤◌, zero, suc, Bool, true, false, List, [], ◌∷◌, ◌++◌, length, Option, Some, refl, sym, ap, ◌∙◌, subst, arith, inl, inr, append_assoc, append-nil}
use Rattle.std.specs.Prelude.{slice_get, is_some, if◌then◌else◌}
use Rattle.std.proofs.lemmas.List.{length-append}
use Rattle.std.proofs.lemmas.Bool.{cond-true, cond-false}
use Rattle.dots_host.specs.declared.out.OwnedOut.{OwnedOut}
use Rattle.dots_host.specs.declared.out.OwnedOut.TheVariants as owned
use Rattle.dots_host.specs.Acts.{Timed}
use Rattle.dots_host.specs.Runs.{Added}
use Rattle.coap_exchange.specs.Firsts.{replace_at}
use Rattle.coap_observe.specs.Seen.{Lists, list_for}
use Rattle.coap_observe.specs.Observed.{ObservedValue, is_due, notified}
use Rattle.coap_observe.specs.Observing.{after_notice}
use Rattle.session_core.specs.declared.contact.PeerContact.{PeerContact}
use Rattle.session_core.specs.Contacts.{number_of, numbered}
use Rattle.session_core.specs.Notifying.{Bodies, is_gone, notice_bytes, notice, Notifies, SentTo, IsMade, OneNotified, missing, sent}

-- none is notified
pub pass_all : (lists : Lists) (bodies : Bodies) (os : List ObservedValue) (numbers : List PeerContact) → Notifies lists bodies os numbers [] os numbers
pass_all lists bodies [] numbers = (refl, refl, refl)
pass_all lists bodies (o ∷ os) numbers = inl (os, refl, pass_all lists bodies os numbers)

pub notifies_then : (lists : Lists) (bodies : Bodies) (front back new last : List ObservedValue) (a b c : List PeerContact) (sends later : List OwnedOut)
    → Notifies lists bodies front a sends new b → Notifies lists bodies back b later last c → Notifies lists bodies (front ++ back) a (sends ++ later) (new ++ last) c
notifies_then lists bodies [] back new last a b c sends later f g =
    subst (λ xs. Notifies lists bodies back a (xs ++ later) (new ++ last) c) (sym f.0)
    (subst (λ xs. Notifies lists bodies back a later (xs ++ last) c) (sym f.1) (subst (λ n. Notifies lists bodies back n later last c) f.2 g))
notifies_then lists bodies (o ∷ front) back new last a b c sends later (inl f) g =
    inl (f.0 ++ last, ap (λ xs. xs ++ last) f.1, notifies_then lists bodies front back f.0 last a b c sends later f.2 g)
notifies_then lists bodies (o ∷ front) back new last a b c sends later (inr f) g =
    inr (
      f.0,
      f.1 ++ later,
      f.2 ++ last,
      f.3,
      f.4,
      ap (λ xs. xs ++ later) f.5,
      ap (λ xs. xs ++ last) f.6 ∙ append_assoc (after_notice lists f.0 o) f.2 last,
      notifies_then lists bodies front back f.2 last (numbered o.observer.peer a) b c f.1 later f.7 g,
    )

-- ---- one at a place

pub record Stands (rows : List ObservedValue) (place : ℕ) (one : ObservedValue) : Type 0 where
  pub front : List ObservedValue
  pub back : List ObservedValue
  pub are : rows ≡ front ++ one ∷ back
  pub length_is : length front ≡ place

some_is : (x y : ObservedValue) → Some x ≡ Some y → x ≡ y
some_is x y e = cc

pub stands_at : (rows : List ObservedValue) (place : ℕ) (one : ObservedValue) → slice_get rows place ≡ Some one → Stands rows place one
stands_at [] place one there = absurd (cc)
stands_at (x ∷ xs) zero one there = record { front = []; back = xs; are = ap (λ o. o ∷ xs) (some_is x one there); length_is = refl }
stands_at (x ∷ xs) (suc place) one there =
    let s = stands_at xs place one there in
    record { front = x ∷ s.front; back = s.back; are = ap (λ ys. x ∷ ys) s.are; length_is = let is = s.length_is in omega (arith, is) }

pub replaced : (becomes : ObservedValue → List ObservedValue) (front back : List ObservedValue) (one : ObservedValue) (place : ℕ) → length front ≡ place → replace_at place becomes (front ++ one ∷ back) ≡ front ++ (becomes one ++ back)
replaced becomes [] back one zero is = refl
replaced becomes [] back one (suc place) is = absurd (omega (arith, is))
replaced becomes (x ∷ front) back one zero is = absurd (omega (arith, is))
replaced becomes (x ∷ front) back one (suc place) is = ap (λ ys. x ∷ ys) (replaced becomes front back one place (omega (arith, is)))

heads : (x y : ObservedValue) (xs ys : List ObservedValue) → x ∷ xs ≡ y ∷ ys → x ≡ y
heads x y xs ys e = cc

tails : (x y : ObservedValue) (xs ys : List ObservedValue) → x ∷ xs ≡ y ∷ ys → xs ≡ ys
tails x y xs ys e = cc

-- two cuts of one list, of which the second isn't before the first
pub cut_between : (xs done rest front back : List ObservedValue) → xs ≡ done ++ rest → xs ≡ front ++ back → length done ≤ length front
    → (quiet : List ObservedValue) × (front ≡ done ++ quiet) × (rest ≡ quiet ++ back)
cut_between xs [] rest front back a b le = (front, refl, sym a ∙ b)
cut_between xs (d ∷ done) rest [] back a b le = absurd (omega (arith, le))
cut_between xs (d ∷ done) rest (f ∷ front) back a b le =
    let e = sym a ∙ b in
    let found = cut_between (done ++ rest) done rest front back refl (tails d f (done ++ rest) (front ++ back) e) (omega (arith, le)) in
    (found.0, ap (λ x. x ∷ front) (sym (heads d f (done ++ rest) (front ++ back) e)) ∙ ap (λ ys. d ∷ ys) found.1, found.2)

-- ---- how far it came

pub record Far (lists : Lists) (bodies : Bodies) (old : List ObservedValue) (numbers : List PeerContact) (from : ℕ) (rows : List ObservedValue) (left : List PeerContact) (sends : List OwnedOut) : Type 0 where
  pub front : List ObservedValue
  pub done : List ObservedValue
  pub rest : List ObservedValue
  pub was : old ≡ front ++ rest
  pub now : rows ≡ done ++ rest
  pub place : length done ≡ from
  pub notifies : Notifies lists bodies front numbers sends done left

pub far_first : (lists : Lists) (bodies : Bodies) (old : List ObservedValue) (numbers : List PeerContact) → Far lists bodies old numbers 0 old numbers []
far_first lists bodies old numbers = record { front = []; done = []; rest = old; was = refl; now = refl; place = refl; notifies = (refl, refl, refl) }

pub far_last : (lists : Lists) (bodies : Bodies) (old : List ObservedValue) (numbers : List PeerContact) (from : ℕ) (rows : List ObservedValue) (left : List PeerContact) (sends : List OwnedOut)
    → Far lists bodies old numbers from rows left sends → Notifies lists bodies old numbers sends rows left
far_last lists bodies old numbers from rows left sends far =
    let all = notifies_then lists bodies far.front far.rest far.done far.rest numbers left left sends [] far.notifies (pass_all lists bodies far.rest left) in
    subst (λ xs. Notifies lists bodies xs numbers sends rows left) (sym far.was)
    (subst (λ xs. Notifies lists bodies (far.front ++ far.rest) numbers sends xs left) (sym far.now)
    (subst (λ xs. Notifies lists bodies (far.front ++ far.rest) numbers xs (far.done ++ far.rest) left) (append-nil sends) all))

module _ (lists : Lists) (bodies : Bodies) (old : List ObservedValue) (numbers : List PeerContact) (from : ℕ) (rows : List ObservedValue) (left : List PeerContact) (sends : List OwnedOut)
    (far : Far lists bodies old numbers from rows left sends) (place : ℕ) (one : ObservedValue) (there : slice_get rows place ≡ Some one) (within : place < length rows) (later : from ≤ place) (due : is_due lists one ≡ true) where
  here : Stands rows place one
  here = stands_at rows place one there

  between : (quiet : List ObservedValue) × (here.front ≡ far.done ++ quiet) × (far.rest ≡ quiet ++ one ∷ here.back)
  between = cut_between rows far.done far.rest here.front (one ∷ here.back) far.now here.are (let a = far.place in let b = here.length_is in omega (arith, a, b, later))

  -- what stands before it and it
  abbrev through : List ObservedValue
  through = far.front ++ (between.0 ++ one ∷ [])

  was_there : old ≡ through ++ here.back
  was_there =
      far.was ∙ ap (λ xs. far.front ++ xs) (between.2 ∙ sym (append_assoc between.0 (one ∷ []) here.back))
      ∙ sym (append_assoc far.front (between.0 ++ one ∷ []) here.back)

  pub far_on : (made : Option (List ℕ)) (more : List OwnedOut) (new : List ObservedValue) (after : List PeerContact) (then_from : ℕ) → OneNotified lists bodies rows left place one made more new after then_from
      → Far lists bodies old numbers then_from new after (sends ++ more)
  far_on made more new after then_from (missing unmade none same still on) = record {
    front = through;
    done = here.front ++ one ∷ [];
    rest = here.back;
    was = was_there;
    now = same ∙ here.are ∙ sym (append_assoc here.front (one ∷ []) here.back);
    place = let a = length-append here.front (one ∷ []) in let b = here.length_is in omega (arith, a, b, on);
    notifies =
        subst (λ xs. Notifies lists bodies through numbers (sends ++ xs) (here.front ++ one ∷ []) after) (sym none)
        (subst (λ n. Notifies lists bodies through numbers (sends ++ []) (here.front ++ one ∷ []) n) (sym still)
        (subst (λ xs. Notifies lists bodies through numbers (sends ++ []) xs left) (sym (append_assoc far.done between.0 (one ∷ [])) ∙ ap (λ xs. xs ++ one ∷ []) (sym between.1))
        (notifies_then lists bodies far.front (between.0 ++ one ∷ []) far.done (between.0 ++ one ∷ []) numbers left left sends [] far.notifies (pass_all lists bodies (between.0 ++ one ∷ []) left))));
  }
  far_on made more new after then_from (sent bytes written id has is became counted on) = record {
    front = through;
    done = here.front ++ after_notice lists id one;
    rest = here.back;
    was = was_there;
    now =
        became ∙ ap (replace_at place (after_notice lists id)) here.are
        ∙ replaced (after_notice lists id) here.front here.back one place here.length_is
        ∙ sym (append_assoc here.front (after_notice lists id one) here.back);
    place = placed (is_gone lists one) refl;
    notifies =
        subst (λ xs. Notifies lists bodies through numbers (sends ++ xs) (here.front ++ after_notice lists id one) after) (sym is)
        (subst (λ n. Notifies lists bodies through numbers (sends ++ notice lists bodies id one ∷ []) (here.front ++ after_notice lists id one) n) (sym counted)
        (subst (λ xs. Notifies lists bodies through numbers (sends ++ notice lists bodies id one ∷ []) xs (numbered one.observer.peer left))
        (sym (append_assoc far.done between.0 (after_notice lists id one)) ∙ ap (λ xs. xs ++ after_notice lists id one) (sym between.1))
        (notifies_then lists bodies far.front (between.0 ++ one ∷ []) far.done (between.0 ++ after_notice lists id one) numbers left (numbered one.observer.peer left) sends
        (notice lists bodies id one ∷ []) far.notifies
        (notifies_then lists bodies between.0 (one ∷ []) between.0 (after_notice lists id one) left left (numbered one.observer.peer left) [] (notice lists bodies id one ∷ []) (pass_all lists bodies between.0 left)
        (inr (id, [], [], due, has, refl, sym (append-nil _), (refl, refl, refl)))))));
  }
    where
      placed : (b : Bool) → is_gone lists one ≡ b → length (here.front ++ after_notice lists id one) ≡ then_from
      placed true gone =
          let none = cond-true (is_gone lists one) [] (notified id (list_for lists one.observer) one ∷ []) gone in
          let to = on ∙ cond-true (is_gone lists one) place (place + 1) gone in
          let n = length-append here.front (after_notice lists id one) ∙ ap (λ xs. length here.front + length xs) none in
          let l = here.length_is in
          omega (arith, n, to, l)
      placed false stays =
          let stay = cond-false (is_gone lists one) [] (notified id (list_for lists one.observer) one ∷ []) stays in
          let to = on ∙ cond-false (is_gone lists one) place (place + 1) stays in
          let n = length-append here.front (after_notice lists id one) ∙ ap (λ xs. length here.front + length xs) stay in
          let l = here.length_is in
          omega (arith, n, to, l)

  -- fewer are left
  pub fewer : (made : Option (List ℕ)) (more : List OwnedOut) (new : List ObservedValue) (after : List PeerContact) (then_from : ℕ) → OneNotified lists bodies rows left place one made more new after then_from
      → length new - then_from < length rows - from
  fewer made more new after then_from (missing unmade none same still on) =
      let n = ap length same in omega (arith, n, on, within, later)
  fewer made more new after then_from (sent bytes written id has is became counted on) = by_gone (is_gone lists one) refl
    where
      by_gone : (b : Bool) → is_gone lists one ≡ b → length new - then_from < length rows - from
      by_gone b is_b =
          let becomes = after_notice lists id in
          let a = ap length here.are ∙ length-append here.front (one ∷ here.back) in
          let n = ap length (became ∙ ap (replace_at place becomes) here.are ∙ replaced becomes here.front here.back one place here.length_is) ∙ length-append here.front (becomes one ++ here.back) in
          let k = length-append (becomes one) here.back in
          let d = here.length_is in
          by_cases b is_b a n k d later
        where
          by_cases : (b : Bool) → is_gone lists one ≡ b → length rows ≡ length here.front + length (one ∷ here.back)
              → length new ≡ length here.front + length (after_notice lists id one ++ here.back)
              → length (after_notice lists id one ++ here.back) ≡ length (after_notice lists id one) + length here.back
              → length here.front ≡ place → from ≤ place → length new - then_from < length rows - from
          by_cases true gone a n k d l =
              let none = ap length (cond-true (is_gone lists one) [] (notified id (list_for lists one.observer) one ∷ []) gone) in
              let to = on ∙ cond-true (is_gone lists one) place (place + 1) gone in
              omega (arith, a, n, k, d, l, none, to)
          by_cases false stays a n k d l =
              let stay = ap length (cond-false (is_gone lists one) [] (notified id (list_for lists one.observer) one ∷ []) stays) in
              let to = on ∙ cond-false (is_gone lists one) place (place + 1) stays in
              omega (arith, a, n, k, d, l, stay, to)

-- what is made for the one at a place
pub made_of : (lists : Lists) (bodies : Bodies) (contacts : List PeerContact) (rows : List ObservedValue) (place peer : ℕ) (gone : Bool) (made : Option (List ℕ)) (one other : ObservedValue)
    → slice_get rows place ≡ Some one → slice_get rows place ≡ Some other → IsMade lists bodies contacts one peer gone made → IsMade lists bodies contacts other peer gone made
made_of lists bodies contacts rows place peer gone made one other there same =
    subst (λ o. IsMade lists bodies contacts one peer gone made → IsMade lists bodies contacts o peer gone made) (some_is one other (sym there ∙ same)) (λ m. m)

-- ---- one notification

there_at : (rows : List ObservedValue) (place : ℕ) → place < length rows → (one : ObservedValue) × (slice_get rows place ≡ Some one)
there_at [] place less = absurd (omega (arith, less))
there_at (o ∷ rows) zero less = (o, refl)
there_at (o ∷ rows) (suc place) less = there_at rows place (omega (arith, less))

pub has_number : (lists : Lists) (bodies : Bodies) (contacts : List PeerContact) (rows : List ObservedValue) (place peer : ℕ) (gone : Bool) (made : Option (List ℕ)) (bytes : List ℕ)
    → place < length rows → ((one : ObservedValue) → slice_get rows place ≡ Some one → IsMade lists bodies contacts one peer gone made) → made ≡ Some bytes
    → is_some (number_of peer contacts) ≡ true
has_number lists bodies contacts rows place peer gone made bytes less so is =
    let at = there_at rows place less in
    let m = subst (IsMade lists bodies contacts at.0 peer gone) is (so at.0 at.1) in
    ap (λ p. is_some (number_of p contacts)) m.peer_is ∙ ap is_some m.bytes.1

id_is : (a b : ℕ) → Some a ≡ Some b → a ≡ b
id_is a b same = cc

module _ (lists : Lists) (bodies : Bodies) (rows new : List ObservedValue) (contacts left : List PeerContact) (place : ℕ) (one : ObservedValue) (peer id : ℕ) (gone : Bool) (written bytes : List ℕ)
    (made : Option (List ℕ)) (next : ℕ) (a b : Option (List Timed)) (first last : ℕ) where
  pub one_notified : IsMade lists bodies contacts one peer gone made → made ≡ Some bytes → Some id ≡ number_of peer contacts → left ≡ numbered peer contacts
      → new ≡ replace_at place (after_notice lists id) rows → written ≡ bytes → Added a b (SentTo first last (owned.To peer written ∷ [])) → next ≡ (if gone then place else place + 1)
      → (sends : List OwnedOut) × OneNotified lists bodies rows contacts place one made sends new left next × Added a b (SentTo first last sends)
  one_notified is_made some number counted became same acts on =
      let is : IsMade lists bodies contacts one peer gone (Some bytes) = subst (IsMade lists bodies contacts one peer gone) some is_made in
      let mine : number_of one.observer.peer contacts ≡ Some id = ap (λ p. number_of p contacts) (sym is.peer_is) ∙ sym number in
      let id_same : is.bytes.0 ≡ id = id_is is.bytes.0 id (sym is.bytes.1 ∙ mine) in
      let out : owned.To peer written ≡ notice lists bodies id one =
      ap (λ p. owned.To p written) is.peer_is
      ∙ ap (λ bs. owned.To one.observer.peer bs) (same ∙ is.bytes.2 ∙ ap (λ i. notice_bytes lists bodies i one) id_same) in (
        notice lists bodies id one ∷ [],
        sent bytes some id mine refl became (counted ∙ ap (λ p. numbered p contacts) is.peer_is) (on ∙ ap (λ g. if g then place else place + 1) is.gone_is),
        subst (λ o. Added a b (SentTo first last (o ∷ []))) out acts,
      )
