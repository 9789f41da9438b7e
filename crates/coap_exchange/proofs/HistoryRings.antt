-- What is remembered after a list of calls, and of a history.
use Rattle.std.proofs.Common.{◌≡◌, ℕ, ◌-◌, Bool, true, false, cond, List, [], ◌∷◌, ◌++◌, map, filter, Option, Some, None, refl, sym, ap, subst, ◌∙◌, inl, inr}
use Rattle.std.specs.Prelude.{◌&&◌, ◌==◌, option_map, unwrap_or}
use Rattle.std.specs.List.{list_any, find}
use Rattle.std.proofs.lemmas.Bool.{cases_Bool, and_parts, or_cases, eqb-true, eq-eqb, cond-true, cond-false, false≢true, both_ways, false_from_ne_true, and_from, and_left, and_right}
use Rattle.dots_history.specs.declared.entry.Entry.{Entry}
use Rattle.dots_history.specs.Entries.{is_signal, signals, may_repeat}
use Rattle.dots_history.specs.Histories.{or_else, remembered}
use Rattle.dots_history.specs.Places.{lasts, last_of}
use Rattle.dots_history.proofs.Remembering.{by_lasts}
use Rattle.dots_history.specs.Tables.{ring, pushed}
use Rattle.dots_history.proofs.Rings.{ring_push}
use Rattle.coap_exchange.specs.declared.message.Message.{Message}
use Rattle.coap_exchange.specs.declared.pair.Pair.{Pair}
use Rattle.coap_exchange.specs.Noting.{Call, Note, Move, Said, after_call, after_calls, is_same, noted_by, all_noted, said_by_entry, said_by_message, message_of, HasLasts, AllHave, Remembers, AllRemember}
use Rattle.coap_exchange.specs.Pairs.{is_pair}
use Rattle.coap_exchange.specs.Rings.{RingValue, empty_ring, is_ring_of, ring_of, messages_of, reply_to, answers, reply_of, grown, noted, renumbered, ring_renumbered}
use Rattle.coap_exchange.proofs.Firsts.{one_there}
use Rattle.coap_exchange.proofs.Lasts.{drop_nil, pushed_lasts, map_lasts, map_pushed}

-- ---- one ring after a call

ring_same : (peer domain : ℕ) (message : Message) (rings : List RingValue)
    → ring_of peer domain (noted peer domain message rings) ≡ option_map (grown message) (ring_of peer domain rings)
ring_same peer domain message [] = refl
ring_same peer domain message (r ∷ rs) =
    elim (cases_Bool (is_ring_of peer domain r)) [
      | inl is ↦
          ap (ring_of peer domain) (cond-true (is_ring_of peer domain r) (grown message r ∷ rs) (r ∷ noted peer domain message rs) is)
          ∙ cond-true (is_ring_of peer domain r) (Some (grown message r)) (ring_of peer domain rs) is
          ∙ sym (ap (option_map (grown message)) (cond-true (is_ring_of peer domain r) (Some r) (ring_of peer domain rs) is))
      | inr out ↦
          ap (ring_of peer domain) (cond-false (is_ring_of peer domain r) (grown message r ∷ rs) (r ∷ noted peer domain message rs) out)
          ∙ cond-false (is_ring_of peer domain r) (Some r) (ring_of peer domain (noted peer domain message rs)) out
          ∙ ring_same peer domain message rs
          ∙ sym (ap (option_map (grown message)) (cond-false (is_ring_of peer domain r) (Some r) (ring_of peer domain rs) out))
    ]

same_pair : (peer domain other number : ℕ) (r : RingValue) → is_ring_of other number r ≡ true → is_ring_of peer domain r ≡ true → is_same peer domain other number ≡ true
same_pair peer domain other number r one two =
    let first = and_parts (r.pair.peer == other) (r.pair.domain == number) one in
    let second = and_parts (r.pair.peer == peer) (r.pair.domain == domain) two in
    and_from
    (other == peer)
    (number == domain)
    (eq-eqb other peer (sym (eqb-true r.pair.peer other first.0) ∙ eqb-true r.pair.peer peer second.0))
    (eq-eqb number domain (sym (eqb-true r.pair.domain number first.1) ∙ eqb-true r.pair.domain domain second.1))

ring_other : (peer domain other number : ℕ) (message : Message) (rings : List RingValue) → is_same peer domain other number ≡ false
    → ring_of peer domain (noted other number message rings) ≡ ring_of peer domain rings
ring_other peer domain other number message [] apart = refl
ring_other peer domain other number message (r ∷ rs) apart =
    elim (cases_Bool (is_ring_of other number r)) [
      | inl is ↦
          let out : is_ring_of peer domain r ≡ false =
          false_from_ne_true
          (is_ring_of peer domain r)
          (λ own. both_ways (is_same peer domain other number) apart (same_pair peer domain other number r is own))
          in
          ap (ring_of peer domain) (cond-true (is_ring_of other number r) (grown message r ∷ rs) (r ∷ noted other number message rs) is)
          ∙ cond-false (is_ring_of peer domain r) (Some (grown message r)) (ring_of peer domain rs) out
          ∙ sym (cond-false (is_ring_of peer domain r) (Some r) (ring_of peer domain rs) out)
      | inr not ↦
          ap (ring_of peer domain) (cond-false (is_ring_of other number r) (grown message r ∷ rs) (r ∷ noted other number message rs) not)
          ∙ ap (λ o. cond (is_ring_of peer domain r) (Some r) o) (ring_other peer domain other number message rs apart)
    ]

ring_moved : (peer domain : ℕ) (keep : List ℕ) (rings : List RingValue)
    → ring_of peer domain (map (ring_renumbered keep) rings) ≡ option_map (ring_renumbered keep) (ring_of peer domain rings)
ring_moved peer domain keep [] = refl
ring_moved peer domain keep (r ∷ rs) = by_test (is_ring_of peer domain r) (ring_moved peer domain keep rs)
  where
    by_test : (b : Bool) → ring_of peer domain (map (ring_renumbered keep) rs) ≡ option_map (ring_renumbered keep) (ring_of peer domain rs)
        → cond b (Some (ring_renumbered keep r)) (ring_of peer domain (map (ring_renumbered keep) rs))
        ≡ option_map (ring_renumbered keep) (cond b (Some r) (ring_of peer domain rs))
    by_test true rest = refl
    by_test false rest = rest

ring_empty : (peer domain n : ℕ) (pairs : List Pair) → list_any (is_pair peer domain) pairs ≡ true
    → (pair : Pair) × (ring_of peer domain (map (empty_ring n) pairs) ≡ Some (empty_ring n pair))
ring_empty peer domain n [] is = absurd (false≢true is)
ring_empty peer domain n (q ∷ qs) is =
    elim (cases_Bool (is_pair peer domain q)) [
      | inl own ↦ (q, cond-true (is_pair peer domain q) (Some (empty_ring n q)) (ring_of peer domain (map (empty_ring n) qs)) own)
      | inr out ↦
          elim (or_cases (is_pair peer domain q) (list_any (is_pair peer domain) qs) is) [
            | inl own ↦ absurd (both_ways (is_pair peer domain q) out own)
            | inr rest ↦
                let found = ring_empty peer domain n qs rest in
                (found.0, cond-false (is_pair peer domain q) (Some (empty_ring n q)) (ring_of peer domain (map (empty_ring n) qs)) out ∙ found.1)
          ]
    ]

pub record IsEmpty (n : ℕ) (r : RingValue) : Type 0 where
  pub room : r.room ≡ n
  pub messages : r.messages ≡ []

only_empty : (peer domain n : ℕ) (pairs : List Pair) (r : RingValue) → ring_of peer domain (map (empty_ring n) pairs) ≡ Some r → IsEmpty n r
only_empty peer domain n [] r there = cc there
only_empty peer domain n (q ∷ qs) r there =
    elim (cases_Bool (is_pair peer domain q)) [
      | inl own ↦
          let same = one_there (empty_ring n q) r (sym (cond-true (is_pair peer domain q) (Some (empty_ring n q)) (ring_of peer domain (map (empty_ring n) qs)) own) ∙ there) in
          subst (IsEmpty n) same (record { room = refl; messages = refl })
      | inr out ↦
          only_empty peer domain n qs r (sym (cond-false (is_pair peer domain q) (Some (empty_ring n q)) (ring_of peer domain (map (empty_ring n) qs)) out) ∙ there)
    ]

-- ---- after a list of calls

record HasLast (room peer domain : ℕ) (rings : List RingValue) (notes : List Message) : Type 0 where
  r : RingValue
  there : ring_of peer domain rings ≡ Some r
  room_is : r.room ≡ room
  messages : r.messages ≡ lasts room notes

after_one : (room peer domain : ℕ) (rings : List RingValue) (notes : List Message) (call : Call) → HasLast room peer domain rings notes
    → HasLast room peer domain (after_call rings call) (noted_by peer domain notes call)
after_one room peer domain rings notes (Note other number message) has =
    elim (cases_Bool (is_same peer domain other number)) [
      | inl same ↦
          let parts = and_parts (other == peer) (number == domain) same in
          let one : other ≡ peer = eqb-true other peer parts.0 in
          let two : number ≡ domain = eqb-true number domain parts.1 in
          record {
            r = grown message has.r;
            there =
                ap (λ p. ring_of peer domain (noted p number message rings)) one
                ∙ ap (λ d. ring_of peer domain (noted peer d message rings)) two
                ∙ ring_same peer domain message rings
                ∙ ap (option_map (grown message)) has.there;
            room_is = has.room_is;
            messages =
                ap (λ k. pushed k message has.r.messages) has.room_is
                ∙ ap (pushed room message) has.messages
                ∙ pushed_lasts room message notes
                ∙ ap (lasts room) (sym (cond-true (is_same peer domain other number) (notes ++ message ∷ []) notes same));
          }
      | inr apart ↦ record {
        r = has.r;
        there = ring_other peer domain other number message rings apart ∙ has.there;
        room_is = has.room_is;
        messages = has.messages ∙ ap (lasts room) (sym (cond-false (is_same peer domain other number) (notes ++ message ∷ []) notes apart));
      }
    ]
after_one room peer domain rings notes (Move keep) has = record {
  r = ring_renumbered keep has.r;
  there = ring_moved peer domain keep rings ∙ ap (option_map (ring_renumbered keep)) has.there;
  room_is = has.room_is;
  messages = ap (map (renumbered keep)) has.messages ∙ map_lasts (renumbered keep) room notes;
}

after_all : (room peer domain : ℕ) (calls : List Call) (rings : List RingValue) (notes : List Message) → HasLast room peer domain rings notes
    → HasLast room peer domain (after_calls rings calls) (all_noted peer domain notes calls)
after_all room peer domain [] rings notes has = has
after_all room peer domain (call ∷ calls) rings notes has =
    after_all room peer domain calls (after_call rings call) (noted_by peer domain notes call) (after_one room peer domain rings notes call has)

pub lasts_of_calls : (room : ℕ) (pairs : List Pair) (calls : List Call) (peer domain : ℕ) → list_any (is_pair peer domain) pairs ≡ true
    → messages_of peer domain (after_calls (map (empty_ring room) pairs) calls) ≡ lasts room (all_noted peer domain [] calls)
lasts_of_calls room pairs calls peer domain is =
    let found = ring_empty peer domain room pairs is in
    let has = after_all room peer domain calls (map (empty_ring room) pairs) [] (record {
      r = empty_ring room found.0;
      there = found.1;
      room_is = refl;
      messages = sym (nothing room);
    }) in
    ap (λ o. unwrap_or (option_map (λ (r : RingValue). r.messages) o) []) has.there ∙ has.messages
  where
    nothing : (n : ℕ) → lasts {A = Message} n [] ≡ []
    nothing n = drop_nil (0 - n)

-- ---- of a history

pub start_remembers : (n : ℕ) (pairs : List Pair) → AllRemember n (map (empty_ring n) pairs) []
start_remembers n pairs peer domain r there =
    let empty = only_empty peer domain n pairs r there in
    record { room = empty.room; messages = ap (map said_by_message) empty.messages ∙ sym (nothing n) }
  where
    nothing : (k : ℕ) → map said_by_entry (ring k peer domain []) ≡ []
    nothing k = ap (map said_by_entry) (drop_nil {A = Entry} (0 - k))

record HasImage {A B : Type 0} (f : A → B) (o : Option A) (y : B) : Type 0 where
  x : A
  there : o ≡ Some x
  image : f x ≡ y

image_of : {A B : Type 0} (f : A → B) (o : Option A) (y : B) → option_map f o ≡ Some y → HasImage f o y
image_of f None y is = cc is
image_of f (Some x) y is = record { x = x; there = refl; image = one_there (f x) y is }

signals_same : (peer domain : ℕ) (e : Entry) → is_signal e.change ≡ true → is_same peer domain e.peer e.domain ≡ true → signals peer domain e ≡ true
unfolding signals
signals_same peer domain e signal same = and_from (is_signal e.change) (is_same peer domain e.peer e.domain) signal same

signals_apart : (peer domain : ℕ) (e : Entry) → is_same peer domain e.peer e.domain ≡ false → signals peer domain e ≡ false
unfolding signals
signals_apart peer domain e apart = and_right (is_signal e.change) (is_same peer domain e.peer e.domain) apart

signals_none : (peer domain : ℕ) (e : Entry) → is_signal e.change ≡ false → signals peer domain e ≡ false
unfolding signals
signals_none peer domain e none = and_left (is_signal e.change) (is_same peer domain e.peer e.domain) none

-- a history that goes on without the pair
without : (n peer domain : ℕ) (entries : List Entry) (e : Entry) (r : RingValue) → signals peer domain e ≡ false → Remembers n entries peer domain r
    → Remembers n (entries ++ e ∷ []) peer domain r
without n peer domain entries e r none rem = record {
  room = rem.room;
  messages =
      rem.messages
      ∙ ap (map said_by_entry)
      (sym
      (ring_push n peer domain e entries
      ∙ cond-false (signals peer domain e) (pushed n e (ring n peer domain entries)) (ring n peer domain entries) none));
}

pub noted_remembers : (n slot : ℕ) (rings : List RingValue) (entries : List Entry) (e : Entry) → is_signal e.change ≡ true → AllRemember n rings entries
    → AllRemember n (noted e.peer e.domain (message_of slot e) rings) (entries ++ e ∷ [])
noted_remembers n slot rings entries e signal all peer domain r there =
    elim (cases_Bool (is_same peer domain e.peer e.domain)) [
      | inl same ↦
          let parts = and_parts (e.peer == peer) (e.domain == domain) same in
          let one : e.peer ≡ peer = eqb-true e.peer peer parts.0 in
          let two : e.domain ≡ domain = eqb-true e.domain domain parts.1 in
          let after = sym (ring_same peer domain (message_of slot e) rings)
          ∙ sym (ap (λ d. ring_of peer domain (noted peer d (message_of slot e) rings)) two)
          ∙ sym (ap (λ p. ring_of peer domain (noted p e.domain (message_of slot e) rings)) one)
          ∙ there
          in
          let old = image_of (grown (message_of slot e)) (ring_of peer domain rings) r after in
          subst (Remembers n (entries ++ e ∷ []) peer domain) old.image (more old.x (all peer domain old.x old.there) (signals_same peer domain e signal same))
      | inr apart ↦
          without n peer domain entries e r (signals_apart peer domain e apart)
          (all peer domain r (sym (ring_other peer domain e.peer e.domain (message_of slot e) rings apart) ∙ there))
    ]
  where
    more : (x : RingValue) → Remembers n entries peer domain x → signals peer domain e ≡ true
        → Remembers n (entries ++ e ∷ []) peer domain (grown (message_of slot e) x)
    more x rem is = record {
      room = rem.room;
      messages =
          map_pushed said_by_message x.room (message_of slot e) x.messages
          ∙ ap (λ k. pushed k (said_by_entry e) (map said_by_message x.messages)) rem.room
          ∙ ap (pushed n (said_by_entry e)) rem.messages
          ∙ sym (map_pushed said_by_entry n e (ring n peer domain entries))
          ∙ ap (map said_by_entry)
          (sym
          (ring_push n peer domain e entries
          ∙ cond-true (signals peer domain e) (pushed n e (ring n peer domain entries)) (ring n peer domain entries) is));
    }

pub other_remembers : (n : ℕ) (rings : List RingValue) (entries : List Entry) (e : Entry) → is_signal e.change ≡ false → AllRemember n rings entries
    → AllRemember n rings (entries ++ e ∷ [])
other_remembers n rings entries e none all peer domain r there =
    without n peer domain entries e r (signals_none peer domain e none) (all peer domain r there)

pub moved_remembers : (n : ℕ) (keep : List ℕ) (rings : List RingValue) (entries : List Entry) → AllRemember n rings entries
    → AllRemember n (map (ring_renumbered keep) rings) entries
moved_remembers n keep rings entries all peer domain r there =
    let old = image_of (ring_renumbered keep) (ring_of peer domain rings) r (sym (ring_moved peer domain keep rings) ∙ there) in
    subst (Remembers n entries peer domain) old.image (same old.x (all peer domain old.x old.there))
  where
    same_said : (ms : List Message) → map said_by_message (map (renumbered keep) ms) ≡ map said_by_message ms
    same_said [] = refl
    same_said (m ∷ ms) = ap (λ ss. said_by_message m ∷ ss) (same_said ms)

    same : (x : RingValue) → Remembers n entries peer domain x → Remembers n entries peer domain (ring_renumbered keep x)
    same x rem = record { room = rem.room; messages = same_said x.messages ∙ rem.messages }

-- ---- what was noted, call by call

pub start_has : (n : ℕ) (pairs : List Pair) → AllHave n (map (empty_ring n) pairs) (λ peer domain. [])
start_has n pairs peer domain r there =
    let empty = only_empty peer domain n pairs r there in
    record { room = empty.room; messages = empty.messages ∙ sym (drop_nil (0 - n)) }

pub step_has : (n : ℕ) (rings : List RingValue) (notes : ℕ → ℕ → List Message) (call : Call) → AllHave n rings notes
    → AllHave n (after_call rings call) (λ peer domain. noted_by peer domain (notes peer domain) call)
step_has n rings notes (Note other number message) all peer domain r there =
    elim (cases_Bool (is_same peer domain other number)) [
      | inl same ↦
          let parts = and_parts (other == peer) (number == domain) same in
          let one : other ≡ peer = eqb-true other peer parts.0 in
          let two : number ≡ domain = eqb-true number domain parts.1 in
          let after = sym (ring_same peer domain message rings)
          ∙ sym (ap (λ d. ring_of peer domain (noted peer d message rings)) two)
          ∙ sym (ap (λ p. ring_of peer domain (noted p number message rings)) one)
          ∙ there
          in
          let old = image_of (grown message) (ring_of peer domain rings) r after in
          subst (HasLasts n (noted_by peer domain (notes peer domain) (Note other number message))) old.image
          (more old.x (all peer domain old.x old.there) same)
      | inr apart ↦
          fewer r (all peer domain r (sym (ring_other peer domain other number message rings apart) ∙ there)) apart
    ]
  where
    more : (x : RingValue) → HasLasts n (notes peer domain) x → is_same peer domain other number ≡ true
        → HasLasts n (noted_by peer domain (notes peer domain) (Note other number message)) (grown message x)
    more x has is = record {
      room = has.room;
      messages =
          ap (λ k. pushed k message x.messages) has.room
          ∙ ap (pushed n message) has.messages
          ∙ pushed_lasts n message (notes peer domain)
          ∙ ap (lasts n) (sym (cond-true (is_same peer domain other number) (notes peer domain ++ message ∷ []) (notes peer domain) is));
    }

    fewer : (x : RingValue) → HasLasts n (notes peer domain) x → is_same peer domain other number ≡ false
        → HasLasts n (noted_by peer domain (notes peer domain) (Note other number message)) x
    fewer x has out = record {
      room = has.room;
      messages = has.messages ∙ ap (lasts n) (sym (cond-false (is_same peer domain other number) (notes peer domain ++ message ∷ []) (notes peer domain) out));
    }
step_has n rings notes (Move keep) all peer domain r there =
    let old = image_of (ring_renumbered keep) (ring_of peer domain rings) r (sym (ring_moved peer domain keep rings) ∙ there) in
    let has = all peer domain old.x old.there in
    subst (HasLasts n (map (renumbered keep) (notes peer domain))) old.image (record {
      room = has.room;
      messages = ap (map (renumbered keep)) has.messages ∙ map_lasts (renumbered keep) n (notes peer domain);
    })

-- ---- replies

abbrev may : ℕ → ℕ → Said → Bool
may now id s = may_repeat now id s.time s.key

filter_said : {A : Type 0} (f : A → Said) (p : Said → Bool) (xs : List A) → filter p (map f xs) ≡ map f (filter (λ x. p (f x)) xs)
filter_said f p [] = refl
filter_said f p (x ∷ xs) = by_test (p (f x)) (filter_said f p xs)
  where
    by_test : (b : Bool) → filter p (map f xs) ≡ map f (filter (λ y. p (f y)) xs)
        → cond b (f x ∷ filter p (map f xs)) (filter p (map f xs)) ≡ map f (cond b (x ∷ filter (λ y. p (f y)) xs) (filter (λ y. p (f y)) xs))
    by_test true rest = ap (λ ys. f x ∷ ys) rest
    by_test false rest = rest

or_map : {A : Type 0} (f : A → Said) (o : Option A) (x : A) → or_else (option_map f o) (Some (f x)) ≡ option_map f (or_else o (Some x))
or_map f None x = refl
or_map f (Some y) x = refl

last_said : {A : Type 0} (f : A → Said) (xs : List A) → last_of (map f xs) ≡ option_map f (last_of xs)
last_said f [] = refl
last_said f (x ∷ xs) = ap (λ o. or_else o (Some (f x))) (last_said f xs) ∙ or_map f (last_of xs) x

twice : {A : Type 0} (f : A → Said) (o : Option A) → option_map (λ (s : Said). s.reply) (option_map f o) ≡ option_map (λ x. (f x).reply) o
twice f None = refl
twice f (Some x) = refl

reply_said : {A : Type 0} (f : A → Said) (p : Said → Bool) (xs : List A)
    → option_map (λ x. (f x).reply) (last_of (filter (λ x. p (f x)) xs)) ≡ option_map (λ (s : Said). s.reply) (last_of (filter p (map f xs)))
reply_said f p xs =
    sym
    (ap (λ ys. option_map (λ (s : Said). s.reply) (last_of ys)) (filter_said f p xs)
    ∙ ap (option_map (λ (s : Said). s.reply)) (last_said f (filter (λ x. p (f x)) xs))
    ∙ twice f (last_of (filter (λ x. p (f x)) xs)))

pub replies_remembered : (n now peer domain id : ℕ) (rings : List RingValue) (entries : List Entry) (r : RingValue) → AllRemember n rings entries
    → ring_of peer domain rings ≡ Some r
    → reply_to id now (messages_of peer domain rings) ≡ option_map (λ (e : Entry). e.reply) (remembered n now peer domain id entries)
replies_remembered n now peer domain id rings entries r all there =
    ap (λ o. reply_to id now (unwrap_or (option_map (λ (x : RingValue). x.messages) o) [])) there
    ∙ reply_said said_by_message (may now id) r.messages
    ∙ ap (λ ss. option_map (λ (s : Said). s.reply) (last_of (filter (may now id) ss))) (all peer domain r there).messages
    ∙ sym (reply_said said_by_entry (may now id) (ring n peer domain entries))
    ∙ ap (option_map (λ (e : Entry). e.reply)) (sym (by_lasts n now peer domain id entries))

-- ---- which rings there are

pub pairs_noted : (peer domain : ℕ) (message : Message) (rings : List RingValue)
    → map (λ (r : RingValue). r.pair) (noted peer domain message rings) ≡ map (λ (r : RingValue). r.pair) rings
pairs_noted peer domain message [] = refl
pairs_noted peer domain message (r ∷ rs) = by_test (is_ring_of peer domain r) (pairs_noted peer domain message rs)
  where
    by_test : (b : Bool) → map (λ (x : RingValue). x.pair) (noted peer domain message rs) ≡ map (λ (x : RingValue). x.pair) rs
        → map (λ (x : RingValue). x.pair) (cond b (grown message r ∷ rs) (r ∷ noted peer domain message rs)) ≡ r.pair ∷ map (λ (x : RingValue). x.pair) rs
    by_test true rest = refl
    by_test false rest = ap (λ ps. r.pair ∷ ps) rest

pub pairs_moved : (keep : List ℕ) (rings : List RingValue) → map (λ (r : RingValue). r.pair) (map (ring_renumbered keep) rings) ≡ map (λ (r : RingValue). r.pair) rings
pairs_moved keep [] = refl
pairs_moved keep (r ∷ rs) = ap (λ ps. r.pair ∷ ps) (pairs_moved keep rs)
