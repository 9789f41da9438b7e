-- The last so many signal entries of each peer and domain are those of themselves, with more entries too.
use Rattle.std.proofs.Common.{◌≡◌, ℕ, ◌+◌, ◌≤◌, ◌⊎◌, Bool, true, false, cond, ◌&&◌, List, [], ◌∷◌, ◌++◌, Some, None, inl, inr, refl, sym, ap, ◌∙◌, subst, arith}
use Rattle.std.specs.Prelude.{option_to_list, nat_lt, ◌==◌}
use Rattle.std.proofs.lemmas.Bool.{both_ways, cond_both, and_parts, and_cases, and_left, and_right, ltb-false, le-ltb, eqb-true}
use Rattle.dots_history.specs.declared.entry.Entry.{Entry}
use Rattle.dots_history.specs.Entries.{is_signal, signals}
use Rattle.dots_history.specs.Histories.{tally, is_recent, recent}

-- the part is the whole without some entries that aren't recent
abbrev pub HasRecent : ℕ → List Entry → List Entry → Type 0
HasRecent n [] [] = Unit {0}
HasRecent n (x ∷ part) [] = ⊥
HasRecent n [] (y ∷ whole) = (is_recent n y whole ≡ false) × HasRecent n [] whole
HasRecent n (x ∷ part) (y ∷ whole) = ((x ≡ y) × HasRecent n part whole) ⊎ ((is_recent n y whole ≡ false) × HasRecent n (x ∷ part) whole)

-- both numbers are the same, or both are n or more
abbrev Close : ℕ → ℕ → ℕ → Type 0
Close n a b = (a ≡ b) ⊎ ((n ≤ a) × (n ≤ b))

close_suc : (n a b : ℕ) → Close n a b → Close n (1 + a) (1 + b)
close_suc n a b (inl same) = inl (omega (arith, same))
close_suc n a b (inr both) = let left = both.0 in let right = both.1 in inr (omega (arith, left), omega (arith, right))

close_below : (n a b : ℕ) → Close n a b → nat_lt a n ≡ nat_lt b n
close_below n a b (inl same) = ap (λ k. nat_lt k n) same
close_below n a b (inr both) = le-ltb a n both.0 ∙ sym (le-ltb b n both.1)

close_zero : (n a b : ℕ) → Close n a b → Close n (0 + a) (0 + b)
close_zero n a b (inl same) = inl (omega (arith, same))
close_zero n a b (inr both) = let left = both.0 in let right = both.1 in inr (omega (arith, left), omega (arith, right))

-- what one more signal entry that is left out does
close_left : (n a b : ℕ) → Close n a b → n ≤ b → Close n a (1 + b)
close_left n a b (inl same) enough = inr (omega (arith, same, enough), omega (arith, enough))
close_left n a b (inr both) enough = let left = both.0 in inr (left, omega (arith, enough))

close_past : (n a b : ℕ) → Close n a b → Close n a (0 + b)
close_past n a b (inl same) = inl (omega (arith, same))
close_past n a b (inr both) = let left = both.0 in let right = both.1 in inr (left, omega (arith, right))

-- whose signal entry it is
pub signal_parts : (peer domain : ℕ) (e : Entry) → signals peer domain e ≡ true → (is_signal e.change ≡ true) × (e.peer ≡ peer) × (e.domain ≡ domain)
unfolding signals
signal_parts peer domain e is =
    let parts = and_parts (is_signal e.change) ((e.peer == peer) && (e.domain == domain)) is in
    let whose = and_parts (e.peer == peer) (e.domain == domain) parts.1 in
    (parts.0, eqb-true e.peer peer whose.0, eqb-true e.domain domain whose.1)

-- one that isn't recent has n or more of its peer and domain after it
old_signal : (n peer domain : ℕ) (e : Entry) (later : List Entry) → signals peer domain e ≡ true → is_recent n e later ≡ false → n ≤ tally (signals peer domain) later
old_signal n peer domain e later is old =
    let parts = signal_parts peer domain e is in
    elim (and_cases (is_signal e.change) (nat_lt (tally (signals e.peer e.domain) later) n) old) [
      | inl out ↦ absurd (both_ways (is_signal e.change) out parts.0)
      | inr many ↦
          let enough : n ≤ tally (signals e.peer e.domain) later = ltb-false (tally (signals e.peer e.domain) later) n many in
          subst (λ d. n ≤ tally (signals peer d) later) parts.2 (subst (λ p. n ≤ tally (signals p e.domain) later) parts.1 enough)
    ]

-- one entry that is left out changes the number only where that is n or more
left_close : (n peer domain : ℕ) (y : Entry) (later : List Entry) (a : ℕ) → is_recent n y later ≡ false → Close n a (tally (signals peer domain) later)
    → Close n a (tally (signals peer domain) (y ∷ later))
left_close n peer domain y later a old near =
    cond_both
    (signals peer domain y)
    1
    0
    (λ k. Close n a (k + tally (signals peer domain) later))
    (λ is. close_left n a (tally (signals peer domain) later) near (old_signal n peer domain y later is old))
    (λ out. close_past n a (tally (signals peer domain) later) near)

same_close : (n : ℕ) (test : Entry → Bool) (x y : Entry) (a b : ℕ) → x ≡ y → Close n a b → Close n (cond (test x) 1 0 + a) (cond (test y) 1 0 + b)
same_close n test x y a b same near =
    subst
    (λ z. Close n (cond (test x) 1 0 + a) (cond (test z) 1 0 + b))
    same
    (cond_both (test x) 1 0 (λ k. Close n (k + a) (k + b)) (λ is. close_suc n a b near) (λ out. close_zero n a b near))

close_tally : (n peer domain : ℕ) (part whole : List Entry) → HasRecent n part whole → Close n (tally (signals peer domain) part) (tally (signals peer domain) whole)
close_tally n peer domain [] [] has = inl refl
close_tally n peer domain (x ∷ part) [] has = absurd has
close_tally n peer domain [] (y ∷ whole) has = left_close n peer domain y whole 0 has.0 (close_tally n peer domain [] whole has.1)
close_tally n peer domain (x ∷ part) (y ∷ whole) (inl has) =
    same_close n (signals peer domain) x y (tally (signals peer domain) part) (tally (signals peer domain) whole) has.0 (close_tally n peer domain part whole has.1)
close_tally n peer domain (x ∷ part) (y ∷ whole) (inr has) =
    left_close n peer domain y whole (tally (signals peer domain) (x ∷ part)) has.0 (close_tally n peer domain (x ∷ part) whole has.1)

-- an entry is recent before the part where it is before the whole
pub as_recent : (n : ℕ) (x : Entry) (part whole : List Entry) → HasRecent n part whole → is_recent n x part ≡ is_recent n x whole
as_recent n x part whole has =
    ap
    (λ b. is_signal x.change && b)
    (close_below n (tally (signals x.peer x.domain) part) (tally (signals x.peer x.domain) whole) (close_tally n x.peer x.domain part whole has))

-- the same entries are recent in both
left_recent : (n : ℕ) (y : Entry) (whole rest : List Entry) → is_recent n y whole ≡ false
    → rest ≡ recent n whole → rest ≡ option_to_list (cond (is_recent n y whole) (Some y) None) ++ recent n whole
left_recent n y whole rest old same = same ∙ sym (ap (λ b. option_to_list (cond b (Some y) None) ++ recent n whole) old)

pub same_recent : (n : ℕ) (part whole : List Entry) → HasRecent n part whole → recent n part ≡ recent n whole
same_recent n [] [] has = refl
same_recent n (x ∷ part) [] has = absurd has
same_recent n [] (y ∷ whole) has = left_recent n y whole [] has.0 (same_recent n [] whole has.1)
same_recent n (x ∷ part) (y ∷ whole) (inl has) =
    ap (λ b. option_to_list (cond b (Some x) None) ++ recent n part) (as_recent n x part whole has.1)
    ∙ ap (λ rest. option_to_list (cond (is_recent n x whole) (Some x) None) ++ rest) (same_recent n part whole has.1)
    ∙ ap (λ z. option_to_list (cond (is_recent n z whole) (Some z) None) ++ recent n whole) has.0
same_recent n (x ∷ part) (y ∷ whole) (inr has) = left_recent n y whole (recent n (x ∷ part)) has.0 (same_recent n (x ∷ part) whole has.1)

-- the recent ones are such a part
pub left_here : (n : ℕ) (part : List Entry) (y : Entry) (whole : List Entry) → is_recent n y whole ≡ false → HasRecent n part whole → HasRecent n part (y ∷ whole)
left_here n [] y whole old has = (old, has)
left_here n (x ∷ part) y whole old has = inr (old, has)

pub recents_are : (n : ℕ) (entries : List Entry) → HasRecent n (recent n entries) entries
recents_are n [] = record {}
recents_are n (e ∷ later) =
    cond_both
    (is_recent n e later)
    (Some e)
    None
    (λ o. HasRecent n (option_to_list o ++ recent n later) (e ∷ later))
    (λ is. inl (refl, recents_are n later))
    (λ old. left_here n (recent n later) e later old (recents_are n later))

-- an entry that isn't recent isn't with one more entry
tally_more : (test : Entry → Bool) (entries more : List Entry) → tally test entries ≤ tally test (entries ++ more)
tally_more test [] more = omega arith
tally_more test (e ∷ later) more = let rest = tally_more test later more in omega (arith, rest)

pub old_still : (n : ℕ) (x : Entry) (later more : List Entry) → is_recent n x later ≡ false → is_recent n x (later ++ more) ≡ false
old_still n x later more old =
    elim (and_cases (is_signal x.change) (nat_lt (tally (signals x.peer x.domain) later) n) old) [
      | inl out ↦ and_left (is_signal x.change) (nat_lt (tally (signals x.peer x.domain) (later ++ more)) n) out
      | inr many ↦
          let enough : n ≤ tally (signals x.peer x.domain) later = ltb-false (tally (signals x.peer x.domain) later) n many in
          let rest = tally_more (signals x.peer x.domain) later more in
          and_right (is_signal x.change) (nat_lt (tally (signals x.peer x.domain) (later ++ more)) n) (le-ltb (tally (signals x.peer x.domain) (later ++ more)) n (omega (arith, enough, rest)))
    ]

pub push_recent : (n : ℕ) (part whole more : List Entry) → HasRecent n part whole → HasRecent n (part ++ more) (whole ++ more)
push_recent n [] [] [] has = record {}
push_recent n [] [] (e ∷ more) has = inl (refl, push_recent n [] [] more has)
push_recent n (x ∷ part) [] more has = absurd has
push_recent n [] (y ∷ whole) more has = left_here n more y (whole ++ more) (old_still n y whole more has.0) (push_recent n [] whole more has.1)
push_recent n (x ∷ part) (y ∷ whole) more (inl has) = inl (has.0, push_recent n part whole more has.1)
push_recent n (x ∷ part) (y ∷ whole) more (inr has) = inr (old_still n y whole more has.0, push_recent n (x ∷ part) whole more has.1)

-- the recent ones with more entries are those of the recent ones with more entries
pub recent_push : (n : ℕ) (entries more : List Entry) → recent n (entries ++ more) ≡ recent n (recent n entries ++ more)
recent_push n entries more = sym (same_recent n (recent n entries ++ more) (entries ++ more) (push_recent n (recent n entries) entries more (recents_are n entries)))
