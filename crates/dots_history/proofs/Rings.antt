-- The last so many signal entries of one peer and domain, with one more.
use Rattle.std.proofs.Common.{◌≡◌, ℕ, ◌+◌, ◌-◌, ◌<◌, ◌≤◌, Bool, true, false, cond, List, [], ◌∷◌, ◌++◌, length, length-drop, drop, filter, refl, sym, ap, ◌∙◌, append-nil, arith}
use Rattle.std.proofs.lemmas.List.Elements.{filter-append}
use Rattle.dots_history.specs.declared.entry.Entry.{Entry}
use Rattle.dots_history.specs.Entries.{signals}
use Rattle.dots_history.specs.Histories.{recent}
use Rattle.dots_history.specs.Places.{lasts}
use Rattle.dots_history.proofs.Remembering.{recent_are_lasts}
use Rattle.dots_history.specs.Tables.{ring, pushed}
use Rattle.dots_history.proofs.Recents.{recent_push}

-- those of the ring and of more entries
ring_more : (n peer domain : ℕ) (entries more : List Entry)
    → ring n peer domain (entries ++ more) ≡ lasts n (ring n peer domain entries ++ filter (signals peer domain) more)
ring_more n peer domain entries more =
    sym (recent_are_lasts n peer domain (entries ++ more))
    ∙ ap (filter (signals peer domain)) (recent_push n entries more)
    ∙ recent_are_lasts n peer domain (recent n entries ++ more)
    ∙ ap (lasts n) (filter-append (signals peer domain) (recent n entries) more)
    ∙ ap (λ es. lasts n (es ++ filter (signals peer domain) more)) (recent_are_lasts n peer domain entries)

none_more : (n peer domain : ℕ) (entries : List Entry) → lasts n (ring n peer domain entries ++ []) ≡ ring n peer domain entries
none_more n peer domain entries = sym (ring_more n peer domain entries []) ∙ ap (ring n peer domain) (append-nil entries)

pub ring_push : (n peer domain : ℕ) (e : Entry) (entries : List Entry)
    → ring n peer domain (entries ++ e ∷ []) ≡ cond (signals peer domain e) (pushed n e (ring n peer domain entries)) (ring n peer domain entries)
ring_push n peer domain e entries =
    ring_more n peer domain entries (e ∷ []) ∙ by_signal (signals peer domain e)
  where
    by_signal : (b : Bool)
        → lasts n (ring n peer domain entries ++ cond b (e ∷ []) []) ≡ cond b (pushed n e (ring n peer domain entries)) (ring n peer domain entries)
    by_signal true = refl
    by_signal false = none_more n peer domain entries

length_more : {A : Type 0} (x : A) (xs : List A) → length (xs ++ x ∷ []) ≡ length xs + 1
length_more x [] = omega arith
length_more x (y ∷ xs) = let rest = length_more x xs in omega (arith, rest)

pub push_room : {A : Type 0} (n : ℕ) (x : A) (xs : List A) → length xs < n → pushed n x xs ≡ xs ++ x ∷ []
push_room n x xs less =
    let long = length_more x xs in
    let none : length (xs ++ x ∷ []) - n ≡ 0 = omega (arith, less, long) in
    ap (λ k. drop k (xs ++ x ∷ [])) none

pub push_full : {A : Type 0} (n : ℕ) (x : A) (xs : List A) → length xs ≡ n → pushed n x xs ≡ drop 1 (xs ++ x ∷ [])
push_full n x xs full =
    let long = length_more x xs in
    let one : length (xs ++ x ∷ []) - n ≡ 1 = omega (arith, full, long) in
    ap (λ k. drop k (xs ++ x ∷ [])) one

pub ring_room : (n peer domain : ℕ) (entries : List Entry) → length (ring n peer domain entries) ≤ n
ring_room n peer domain entries =
    let xs = filter (signals peer domain) entries in
    let long = length-drop (length xs - n) xs in
    omega (arith, long)
