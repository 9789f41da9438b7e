-- The slots in rings are those of the last signal entries of each peer and domain.
use Rattle.std.proofs.Common.{◌≡◌, ℕ, ◌+◌, ◌-◌, ◌<◌, ◌≤◌, zero, suc, Bool, true, false, cond, not, ◌&&◌, ◌||◌, List, [], ◌∷◌, length, drop, map, filter, inl, inr, refl, sym, ap, ◌∙◌, arith}
use Rattle.std.specs.Prelude.{nat_lt, ◌==◌}
use Rattle.std.specs.List.{list_any, list_all}
use Rattle.std.proofs.lemmas.Bool.{cond_both, cases_Bool, and_parts, false≢true, eqb-true, eq-eqb, ltb-true, ltb-false}
use Rattle.dots_history.specs.declared.entry.Entry.{Entry}
use Rattle.dots_history.specs.Entries.{is_signal, signals}
use Rattle.dots_history.specs.Histories.{tally, is_recent}
use Rattle.dots_history.specs.Places.{lasts}
use Rattle.coap_exchange.specs.declared.pair.Pair.{Pair}
use Rattle.coap_exchange.specs.Rings.{RingValue, is_ring_of, slots_of, all_slots}
use Rattle.dots_history.specs.Filed.{Filed, entry_of, slot_of}
use Rattle.live_mitigations.proofs.Members.{has, any_append}
use Rattle.dots_registry.specs.Kept.{is_from, RingsAre}
use Rattle.dots_registry.specs.RegistryValues.{has_ring}
use Rattle.dots_registry.proofs.Going.{from_ring}

-- the slots of the entries that are among the last n of their peer and domain
abbrev pub recents : ℕ → List Filed → List ℕ
recents n [] = []
recents n (x ∷ later) = cond (is_recent n x.entry (map entry_of later)) (x.slot ∷ recents n later) (recents n later)

-- ---- where nothing has a ring, nothing signals

no_ring : (sig : Bool) (b : Bool) → (not sig || false) ≡ true → (sig && b) ≡ false
no_ring true b is = absurd (false≢true is)
no_ring false b is = refl

none_recent : (n : ℕ) (filed : List Filed) → list_all (has_ring []) (map entry_of filed) ≡ true → recents n filed ≡ []
none_recent n [] all = refl
none_recent n (x ∷ later) all =
    let parts = and_parts (has_ring [] x.entry) (list_all (has_ring []) (map entry_of later)) all in
    ap
    (λ b. cond b (x.slot ∷ recents n later) (recents n later))
    (no_ring (is_signal x.entry.change) (nat_lt (tally (signals x.entry.peer x.entry.domain) (map entry_of later)) n) parts.0)
    ∙ none_recent n later parts.1

-- ---- the last n with one more before them

pub more_few : {A : Type 0} → (n : ℕ) (x : A) (xs : List A) → nat_lt (length xs) n ≡ true → lasts n (x ∷ xs) ≡ x ∷ lasts n xs
more_few n x xs few =
    let less : length xs < n = ltb-true (length xs) n few in
    let none : length xs - n ≡ 0 = omega (arith, less) in
    let still : length (x ∷ xs) - n ≡ 0 = omega (arith, less) in
    ap (λ k. drop k (x ∷ xs)) still ∙ sym (ap (λ k. x ∷ drop k xs) none)

pub more_many : {A : Type 0} → (n : ℕ) (x : A) (xs : List A) → nat_lt (length xs) n ≡ false → lasts n (x ∷ xs) ≡ lasts n xs
more_many n x xs many =
    let enough : n ≤ length xs = ltb-false (length xs) n many in
    let one : length (x ∷ xs) - n ≡ suc (length xs - n) = omega (arith, enough) in
    ap (λ k. drop k (x ∷ xs)) one

-- ---- how many signal after an entry

pub signal_parts : (peer domain : ℕ) (e : Entry) → signals peer domain e ≡ true → (is_signal e.change ≡ true) × (e.peer ≡ peer) × (e.domain ≡ domain)
unfolding signals
signal_parts peer domain e is =
    let parts = and_parts (is_signal e.change) ((e.peer == peer) && (e.domain == domain)) is in
    let whose = and_parts (e.peer == peer) (e.domain == domain) parts.1 in
    (parts.0, eqb-true e.peer peer whose.0, eqb-true e.domain domain whose.1)

count_is : (pair : Pair) (filed : List Filed) → tally (signals pair.peer pair.domain) (map entry_of filed) ≡ length (map slot_of (filter (is_from pair) filed))
count_is pair [] = refl
count_is pair (x ∷ later) =
    let rest = count_is pair later in
    cond_both
    (is_from pair x)
    (x ∷ filter (is_from pair) later)
    (filter (is_from pair) later)
    (λ fs. cond (is_from pair x) 1 0 + tally (signals pair.peer pair.domain) (map entry_of later) ≡ length (map slot_of fs))
    (λ is. ap (λ b. cond b 1 0 + tally (signals pair.peer pair.domain) (map entry_of later)) is ∙ (omega (arith, rest)))
    (λ out. ap (λ b. cond b 1 0 + tally (signals pair.peer pair.domain) (map entry_of later)) out ∙ (omega (arith, rest)))

-- an entry of the pair is recent by how many of it come later
pub own_recent : (n : ℕ) (pair : Pair) (x : Filed) (later : List Filed) → is_from pair x ≡ true
    → is_recent n x.entry (map entry_of later) ≡ nat_lt (length (map slot_of (filter (is_from pair) later))) n
own_recent n pair x later is =
    let parts = signal_parts pair.peer pair.domain x.entry is in
    ap (λ b. b && nat_lt (tally (signals x.entry.peer x.entry.domain) (map entry_of later)) n) parts.0
    ∙ ap (λ p. nat_lt (tally (signals p x.entry.domain) (map entry_of later)) n) parts.1
    ∙ ap (λ d. nat_lt (tally (signals pair.peer d) (map entry_of later)) n) parts.2
    ∙ ap (λ k. nat_lt k n) (count_is pair later)

-- any other is recent as if those of the pair weren't there
same_pair_signals : (pair : Pair) (e y : Entry) → signals e.peer e.domain y ≡ true → signals pair.peer pair.domain y ≡ true → is_signal e.change ≡ true
    → signals pair.peer pair.domain e ≡ true
unfolding signals
same_pair_signals pair e y one other signal =
    let mine = signal_parts e.peer e.domain y one in
    let theirs = signal_parts pair.peer pair.domain y other in
    ap (λ b. b && ((e.peer == pair.peer) && (e.domain == pair.domain))) signal
    ∙ ap (λ b. b && (e.domain == pair.domain)) (eq_is e.peer pair.peer (sym mine.1 ∙ theirs.1))
    ∙ eq_is e.domain pair.domain (sym mine.2 ∙ theirs.2)
  where
    eq_is : (a b : ℕ) → a ≡ b → (a == b) ≡ true
    eq_is a b same = eq-eqb a b same

zero_plus : (k : ℕ) → k ≡ 0 + k
zero_plus k = omega arith

count_without : (pair : Pair) (e : Entry) (filed : List Filed) → is_signal e.change ≡ true → signals pair.peer pair.domain e ≡ false
    → tally (signals e.peer e.domain) (map entry_of (filter (λ x. not (is_from pair x)) filed)) ≡ tally (signals e.peer e.domain) (map entry_of filed)
count_without pair e [] signal apart = refl
count_without pair e (x ∷ later) signal apart =
    let other : Filed → Bool = λ y. not (is_from pair y) in
    let rest = count_without pair e later signal apart in
    elim (cases_Bool (is_from pair x)) [
      | inl is ↦
          ap (λ b. tally (signals e.peer e.domain) (map entry_of (cond (not b) (x ∷ filter other later) (filter other later)))) is
          ∙ rest
          ∙ zero_plus (tally (signals e.peer e.domain) (map entry_of later))
          ∙ sym (ap (λ b. cond b 1 0 + tally (signals e.peer e.domain) (map entry_of later)) (not_mine is))
      | inr out ↦
          ap (λ b. tally (signals e.peer e.domain) (map entry_of (cond (not b) (x ∷ filter other later) (filter other later)))) out
          ∙ ap (λ k. cond (signals e.peer e.domain x.entry) 1 0 + k) rest
    ]
  where
    not_mine : is_from pair x ≡ true → signals e.peer e.domain x.entry ≡ false
    not_mine is =
        elim (cases_Bool (signals e.peer e.domain x.entry)) [
          | inl mine ↦ absurd (false≢true (sym apart ∙ same_pair_signals pair e x.entry mine is signal))
          | inr out ↦ out
        ]

other_recent : (n : ℕ) (pair : Pair) (x : Filed) (later : List Filed) → is_from pair x ≡ false
    → is_recent n x.entry (map entry_of (filter (λ y. not (is_from pair y)) later)) ≡ is_recent n x.entry (map entry_of later)
other_recent n pair x later out =
    elim (cases_Bool (is_signal x.entry.change)) [
      | inl signal ↦ ap (λ k. is_signal x.entry.change && nat_lt k n) (count_without pair x.entry later signal out)
      | inr quiet ↦
          ap (λ b. b && nat_lt (tally (signals x.entry.peer x.entry.domain) (map entry_of (filter (λ y. not (is_from pair y)) later))) n) quiet
          ∙ sym (ap (λ b. b && nat_lt (tally (signals x.entry.peer x.entry.domain) (map entry_of later)) n) quiet)
    ]

-- ---- those of a pair, and the others

left : (a b c : Bool) → (a || (b || c)) ≡ ((a || b) || c)
left true b c = refl
left false b c = refl

swap : (a b c : Bool) → (a || (b || c)) ≡ (b || (a || c))
swap true true c = refl
swap true false c = refl
swap false b c = refl

-- what is recent, of the pair and of others
split : (n s : ℕ) (pair : Pair) (filed : List Filed)
    → has s (recents n filed) ≡ (has s (lasts n (map slot_of (filter (is_from pair) filed))) || has s (recents n (filter (λ x. not (is_from pair x)) filed)))
split n s pair [] = sym (ap (λ xs. has s xs || false) (nothing (0 - n)))
  where
    nothing : (k : ℕ) → drop {A = ℕ} k [] ≡ []
    nothing zero = refl
    nothing (suc k) = refl
split n s pair (x ∷ later) =
    let other : Filed → Bool = λ y. not (is_from pair y) in
    let own = map slot_of (filter (is_from pair) later) in
    let rest = split n s pair later in
    elim (cases_Bool (is_from pair x)) [
      | inl is ↦
          ap (λ b. has s (cond b (x.slot ∷ recents n later) (recents n later))) (own_recent n pair x later is)
          ∙ own_split (nat_lt (length own) n) refl rest
          ∙ sym (ap (λ b. has s (lasts n (map slot_of (cond b (x ∷ filter (is_from pair) later) (filter (is_from pair) later)))) || has s (recents n (cond (not b) (x ∷ filter other later) (filter other later)))) is)
      | inr out ↦
          other_split (is_recent n x.entry (map entry_of later)) rest
          ∙ ap (λ b. has s (lasts n own) || has s (cond b (x.slot ∷ recents n (filter other later)) (recents n (filter other later)))) (sym (other_recent n pair x later out))
          ∙ sym (ap (λ b. has s (lasts n (map slot_of (cond b (x ∷ filter (is_from pair) later) (filter (is_from pair) later)))) || has s (recents n (cond (not b) (x ∷ filter other later) (filter other later)))) out)
    ]
  where
    own_split : (b : Bool) → nat_lt (length (map slot_of (filter (is_from pair) later))) n ≡ b
        → has s (recents n later) ≡ (has s (lasts n (map slot_of (filter (is_from pair) later))) || has s (recents n (filter (λ y. not (is_from pair y)) later)))
        → has s (cond b (x.slot ∷ recents n later) (recents n later))
        ≡ (has s (lasts n (x.slot ∷ map slot_of (filter (is_from pair) later))) || has s (recents n (filter (λ y. not (is_from pair y)) later)))
    own_split true few rest =
        ap (λ b. (x.slot == s) || b) rest
        ∙ left (x.slot == s) (has s (lasts n (map slot_of (filter (is_from pair) later)))) (has s (recents n (filter (λ y. not (is_from pair y)) later)))
        ∙ ap (λ xs. has s xs || has s (recents n (filter (λ y. not (is_from pair y)) later))) (sym (more_few n x.slot (map slot_of (filter (is_from pair) later)) few))
    own_split false many rest =
        rest ∙ ap (λ xs. has s xs || has s (recents n (filter (λ y. not (is_from pair y)) later))) (sym (more_many n x.slot (map slot_of (filter (is_from pair) later)) many))

    other_split : (b : Bool) → has s (recents n later) ≡ (has s (lasts n (map slot_of (filter (is_from pair) later))) || has s (recents n (filter (λ y. not (is_from pair y)) later)))
        → has s (cond b (x.slot ∷ recents n later) (recents n later))
        ≡ (has s (lasts n (map slot_of (filter (is_from pair) later))) || has s (cond b (x.slot ∷ recents n (filter (λ y. not (is_from pair y)) later)) (recents n (filter (λ y. not (is_from pair y)) later))))
    other_split true rest =
        ap (λ b. (x.slot == s) || b) rest
        ∙ swap (x.slot == s) (has s (lasts n (map slot_of (filter (is_from pair) later)))) (has s (recents n (filter (λ y. not (is_from pair y)) later)))
    other_split false rest = rest

-- ---- each signal entry of the others has another ring

one_left : (sig here rest : Bool) → (sig && here) ≡ false → (not sig || (here || rest)) ≡ true → (not sig || rest) ≡ true
one_left true true rest apart is = absurd (false≢true (sym apart))
one_left true false rest apart is = is
one_left false here rest apart is = refl

rest_have : (r : RingValue) (rs : List RingValue) (filed : List Filed) → list_all (has_ring (r ∷ rs)) (map entry_of filed) ≡ true
    → list_all (has_ring rs) (map entry_of (filter (λ x. not (is_from r.pair x)) filed)) ≡ true
rest_have r rs [] all = refl
rest_have r rs (x ∷ later) all =
    let other : Filed → Bool = λ y. not (is_from r.pair y) in
    let parts = and_parts (has_ring (r ∷ rs) x.entry) (list_all (has_ring (r ∷ rs)) (map entry_of later)) all in
    let go = rest_have r rs later parts.1 in
    elim (cases_Bool (is_from r.pair x)) [
      | inl is ↦ ap (λ b. list_all (has_ring rs) (map entry_of (cond (not b) (x ∷ filter other later) (filter other later)))) is ∙ go
      | inr out ↦
          ap (λ b. list_all (has_ring rs) (map entry_of (cond (not b) (x ∷ filter other later) (filter other later)))) out
          ∙ ap (λ b. b && list_all (has_ring rs) (map entry_of (filter other later)))
          (one_left (is_signal x.entry.change) (is_ring_of x.entry.peer x.entry.domain r) (list_any (is_ring_of x.entry.peer x.entry.domain) rs) (sym (from_ring r x) ∙ out) parts.0)
          ∙ go
    ]

pub rings_are_recents : (n s : ℕ) (rs : List RingValue) (filed : List Filed) → RingsAre n rs filed → list_all (has_ring rs) (map entry_of filed) ≡ true
    → has s (all_slots rs) ≡ has s (recents n filed)
rings_are_recents n s [] filed are all = sym (ap (has s) (none_recent n filed all))
rings_are_recents n s (r ∷ rs) filed are all =
    let other : Filed → Bool = λ y. not (is_from r.pair y) in
    any_append (λ other. other == s) (slots_of r.messages) (all_slots rs)
    ∙ ap (λ xs. has s xs || has s (all_slots rs)) are.1
    ∙ ap (λ b. has s (lasts n (map slot_of (filter (is_from r.pair) filed))) || b) (rings_are_recents n s rs (filter other filed) are.2 (rest_have r rs filed all))
    ∙ sym (split n s r.pair filed)
