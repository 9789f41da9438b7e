-- One text after another in a buffer.
use Rattle.std.proofs.Common.{◌≡◌, ℕ, ◌+◌, ◌-◌, ◌<◌, ◌≤◌, List, [], ◌∷◌, ◌++◌, length, take, drop, get_or, codes, flat_map, refl, sym, ap, ◌∙◌, subst, arith, append_assoc, append-nil, length-append, drop-drop, length-drop, le-ltb, lt-ltb}
use Rattle.std.proofs.lemmas.Grind.{flat_map-append}
use Rattle.std.proofs.lemmas.List.{take_more, take_all}
use Rattle.std.proofs.lemmas.Slice.{take-put_mid, drop-put_mid}
use borrow.Rule.Slice.PartMut.{put_mid}
use Rattle.std.specs.Net.Text.{hex, groups_text, longest_zero_run, compressed_text, hex_groups_text}
use Rattle.ip_scope.specs.Puts.{Puts}

pub Puts-put_mid : (old : List ℕ) (at k : ℕ) (part text : List ℕ) → at ≤ length old → part ≡ text → length text ≡ k
    → Puts old (put_mid at k old part) at (at + length text) text
Puts-put_mid old at k part text within same long = record {
  end = refl;
  front = take-put_mid at k old part (at + length text) (omega (arith, ap length same)) within ∙ ap (λ t. take at old ++ t) same;
  rest = drop-put_mid at k old part (at + length text) (omega arith) within (omega (arith, ap length same));
}

drop_more : (n m : ℕ) (xs ys : List ℕ) → drop n xs ≡ drop n ys → drop (n + m) xs ≡ drop (n + m) ys
drop_more n m xs ys same = sym (drop-drop m n xs) ∙ ap (drop m) same ∙ drop-drop m n ys

pub Puts-then : (old between new : List ℕ) (from at to : ℕ) (s t : List ℕ) → Puts old between from at s → Puts between new at to t → Puts old new from to (s ++ t)
Puts-then old between new from at to s t first second = record {
  end = omega (arith, first.end, second.end, length-append s t);
  front = second.front ∙ ap (λ x. x ++ t) first.front ∙ append_assoc (take from old) s t;
  rest = second.rest ∙ (rw second.end (drop_more at (length t) between old first.rest));
}

pub Puts-as : (old new : List ℕ) (from to : ℕ) (s t : List ℕ) → s ≡ t → Puts old new from to s → Puts old new from to t
Puts-as old new from to s t same puts = subst (λ (text : List ℕ). Puts old new from to text) same puts

-- ---- groups

regroup : (a b c d : List ℕ) → ((a ++ b) ++ c) ++ d ≡ a ++ (b ++ (c ++ d))
regroup a b c d = simp append_assoc

pub groups_text-more : (first : ℕ) (rest : List ℕ) (i : ℕ) → i < length rest
    → (groups_text (first ∷ take i rest) ++ codes ":") ++ hex (get_or rest i 0) ≡ groups_text (first ∷ take (i + 1) rest)
groups_text-more first rest i within =
    let f = λ (t : ℕ). codes ":" ++ hex t in
    let more : flat_map f (take (i + 1) rest) ≡ flat_map f (take i rest) ++ (codes ":" ++ hex (get_or rest i 0)) =
    ap (flat_map f) (take_more rest i 0 within) ∙ flat_map-append f (take i rest) (get_or rest i 0 ∷ [])
    ∙ ap (λ t. flat_map f (take i rest) ++ t) (append-nil (f (get_or rest i 0))) in
    regroup (hex first) (flat_map f (take i rest)) (codes ":") (hex (get_or rest i 0)) ∙ sym (ap (λ t. hex first ++ t) more)

pub hex_groups_text-short : (groups : List ℕ) (len : ℕ) → len ≡ (longest_zero_run groups).1 → len < 2 → groups_text groups ≡ hex_groups_text groups
unfolding hex_groups_text
hex_groups_text-short groups len is short = rw (le-ltb 1 (longest_zero_run groups).1 (omega arith)) refl

pub hex_groups_text-long : (groups : List ℕ) (run : ℕ × ℕ) → run ≡ longest_zero_run groups → 2 ≤ run.1
    → (groups_text (take run.0 groups) ++ codes "::") ++ groups_text (take (length groups - (run.0 + run.1)) (drop (run.0 + run.1) groups)) ≡ hex_groups_text groups
unfolding hex_groups_text
hex_groups_text-long groups run is long =
    let all = take_all (length groups - (run.0 + run.1)) (drop (run.0 + run.1) groups) (omega (arith, length-drop (run.0 + run.1) groups)) in
    let P : ℕ × ℕ → Type 0 = λ found. (groups_text (take run.0 groups) ++ codes "::") ++ groups_text (drop (run.0 + run.1) groups) ≡ compressed_text groups found in
    rw all (subst P is (rw (lt-ltb 1 run.1 long) refl))
