-- The remembered reply is that of the last entry that answers, among the last signal entries of its peer and domain.
use Rattle.std.proofs.Common.{◌≡◌, ℕ, ◌+◌, ◌-◌, ◌<◌, ◌≤◌, zero, suc, Bool, true, false, cond, ◌&&◌, List, [], ◌∷◌, ◌++◌, length, drop, filter, Option, Some, None, inl, inr, refl, sym, ap, ◌∙◌, arith}
use Rattle.std.specs.Prelude.{option_to_list, nat_lt, ◌==◌}
use Rattle.std.proofs.lemmas.Bool.{cond_both, cond-true, cond-false, cases_Bool, and_parts, eqb-true, ltb-true, ltb-false}
use Rattle.dots_history.specs.declared.entry.Entry.{Entry}
use Rattle.dots_history.specs.Entries.{is_signal, signals, may_repeat}
use Rattle.dots_history.specs.Histories.{tally, is_recent, recent, or_else, remembered}
use Rattle.dots_history.specs.Places.{lasts, last_of, last_repeated}

signal_parts : (peer domain : ℕ) (e : Entry) → signals peer domain e ≡ true → (is_signal e.change ≡ true) × (e.peer ≡ peer) × (e.domain ≡ domain)
unfolding signals
signal_parts peer domain e is =
    let parts = and_parts (is_signal e.change) ((e.peer == peer) && (e.domain == domain)) is in
    let whose = and_parts (e.peer == peer) (e.domain == domain) parts.1 in
    (parts.0, eqb-true e.peer peer whose.0, eqb-true e.domain domain whose.1)

tally_is_length : (test : Entry → Bool) (entries : List Entry) → tally test entries ≡ length (filter test entries)
tally_is_length test [] = refl
tally_is_length test (e ∷ later) =
    let rest = tally_is_length test later in
    cond_both
    (test e)
    (e ∷ filter test later)
    (filter test later)
    (λ es. cond (test e) 1 0 + tally test later ≡ length es)
    (λ is. ap (λ b. cond b 1 0 + tally test later) is ∙ (omega (arith, rest)))
    (λ out. ap (λ b. cond b 1 0 + tally test later) out ∙ (omega (arith, rest)))

-- an entry that signals is recent by how many signal after it
recent_by_length : (n peer domain : ℕ) (e : Entry) (later : List Entry) → signals peer domain e ≡ true
    → is_recent n e later ≡ nat_lt (length (filter (signals peer domain) later)) n
recent_by_length n peer domain e later is =
    let parts = signal_parts peer domain e is in
    ap (λ b. b && nat_lt (tally (signals e.peer e.domain) later) n) parts.0
    ∙ ap (λ p. nat_lt (tally (signals p e.domain) later) n) parts.1
    ∙ ap (λ d. nat_lt (tally (signals peer d) later) n) parts.2
    ∙ ap (λ k. nat_lt k n) (tally_is_length (signals peer domain) later)

-- the last n with one more before them
lasts_more : {A : Type 0} → (n : ℕ) (x : A) (xs : List A) → option_to_list (cond (nat_lt (length xs) n) (Some x) None) ++ lasts n xs ≡ lasts n (x ∷ xs)
lasts_more n x xs =
    cond_both
    (nat_lt (length xs) n)
    (Some x)
    None
    (λ o. option_to_list o ++ lasts n xs ≡ lasts n (x ∷ xs))
    (λ few.
    let less : length xs < n = ltb-true (length xs) n few in
    let none : length xs - n ≡ 0 = omega (arith, less) in
    let still : length (x ∷ xs) - n ≡ 0 = omega (arith, less) in
    ap (λ k. x ∷ drop k xs) none ∙ sym (ap (λ k. drop k (x ∷ xs)) still))
    (λ many.
    let enough : n ≤ length xs = ltb-false (length xs) n many in
    let one : length (x ∷ xs) - n ≡ suc (length xs - n) = omega (arith, enough) in
    sym (ap (λ k. drop k (x ∷ xs)) one))

drop_nothing : (k : ℕ) → drop {A = Entry} k [] ≡ []
drop_nothing zero = refl
drop_nothing (suc k) = refl

-- the recent ones of a peer and domain are its last n
pub recent_are_lasts : (n peer domain : ℕ) (entries : List Entry) → filter (signals peer domain) (recent n entries) ≡ lasts n (filter (signals peer domain) entries)
recent_are_lasts n peer domain [] = sym (drop_nothing (length (filter (signals peer domain) []) - n))
recent_are_lasts n peer domain (e ∷ later) =
    let go = recent_are_lasts n peer domain later in
    elim (cases_Bool (signals peer domain e)) [
      | inl is ↦
          kept_signal (is_recent n e later) is
          ∙ ap (λ b. option_to_list (cond b (Some e) None) ++ filter (signals peer domain) (recent n later)) (recent_by_length n peer domain e later is)
          ∙ ap (λ es. option_to_list (cond (nat_lt (length (filter (signals peer domain) later)) n) (Some e) None) ++ es) go
          ∙ lasts_more n e (filter (signals peer domain) later)
          ∙ ap (λ b. lasts n (cond b (e ∷ filter (signals peer domain) later) (filter (signals peer domain) later))) (sym is)
      | inr out ↦
          dropped_signal (is_recent n e later) out
          ∙ go
          ∙ ap (λ b. lasts n (cond b (e ∷ filter (signals peer domain) later) (filter (signals peer domain) later))) (sym out)
    ]
  where
    kept_signal : (b : Bool) → signals peer domain e ≡ true
        → filter (signals peer domain) (option_to_list (cond b (Some e) None) ++ recent n later)
        ≡ option_to_list (cond b (Some e) None) ++ filter (signals peer domain) (recent n later)
    kept_signal true is = cond-true (signals peer domain e) (e ∷ filter (signals peer domain) (recent n later)) (filter (signals peer domain) (recent n later)) is
    kept_signal false is = refl

    dropped_signal : (b : Bool) → signals peer domain e ≡ false
        → filter (signals peer domain) (option_to_list (cond b (Some e) None) ++ recent n later) ≡ filter (signals peer domain) (recent n later)
    dropped_signal true out = cond-false (signals peer domain e) (e ∷ filter (signals peer domain) (recent n later)) (filter (signals peer domain) (recent n later)) out
    dropped_signal false out = refl

pub or_none : {A : Type 0} → (o : Option A) → or_else o None ≡ o
or_none (Some x) = refl
or_none None = refl

-- the last of those that signal and answer
abbrev answering : ℕ → ℕ → ℕ → ℕ → List Entry → List Entry
answering t peer domain id entries = filter (λ (e : Entry). may_repeat t id e.time e.key) (filter (signals peer domain) entries)

one_more : (s r m : Bool) (e : Entry) (rest : List Entry) (test : Entry → Bool) → test e ≡ m
    → or_else (last_of (filter test rest)) (cond (s && (r && m)) (Some e) None)
    ≡ last_of (filter test (cond (r && s) (e ∷ rest) rest))
one_more true true true e rest test is = ap last_of (sym (cond-true (test e) (e ∷ filter test rest) (filter test rest) is))
one_more true true false e rest test is =
    or_none (last_of (filter test rest)) ∙ ap last_of (sym (cond-false (test e) (e ∷ filter test rest) (filter test rest) is))
one_more true false m e rest test is = or_none (last_of (filter test rest))
one_more false true m e rest test is = or_none (last_of (filter test rest))
one_more false false m e rest test is = or_none (last_of (filter test rest))

both_filters : (r : Bool) (test : Entry → Bool) (e : Entry) (rest : List Entry)
    → filter test (option_to_list (cond r (Some e) None) ++ rest) ≡ cond (r && test e) (e ∷ filter test rest) (filter test rest)
both_filters true test e rest = refl
both_filters false test e rest = refl

pub by_recent : (n t peer domain id : ℕ) (entries : List Entry) → remembered n t peer domain id entries ≡ last_of (answering t peer domain id (recent n entries))
by_recent n t peer domain id [] = refl
by_recent n t peer domain id (e ∷ later) =
    let answers : Entry → Bool = λ x. may_repeat t id x.time x.key in
    ap (λ o. or_else o (cond (signals peer domain e && (is_recent n e later && may_repeat t id e.time e.key)) (Some e) None)) (by_recent n t peer domain id later)
    ∙ one_more
    (signals peer domain e)
    (is_recent n e later)
    (may_repeat t id e.time e.key)
    e
    (filter (signals peer domain) (recent n later))
    (λ (x : Entry). may_repeat t id x.time x.key)
    refl
    ∙ ap (λ es. last_of (filter (λ (x : Entry). may_repeat t id x.time x.key) es)) (sym (both_filters (is_recent n e later) (signals peer domain) e (recent n later)))

pub by_lasts : (n t peer domain id : ℕ) (entries : List Entry) → remembered n t peer domain id entries ≡ last_repeated n t peer domain id entries
by_lasts n t peer domain id entries =
    by_recent n t peer domain id entries
    ∙ ap (λ es. last_of (filter (λ (x : Entry). may_repeat t id x.time x.key) es)) (recent_are_lasts n peer domain entries)
