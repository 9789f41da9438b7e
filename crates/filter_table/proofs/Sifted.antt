-- Ranks that are brought to the front, those between them being moved at once.
use Rattle.std.proofs.Common.{◌≡◌, ℕ, ◌+◌, ◌<◌, ◌≤◌, Bool, true, false, cond, List, [], ◌∷◌, ◌++◌, map, filter, length, get_or, take, drop, zero, suc, refl, sym, ap, subst, ◌∙◌, arith, one-add, append_assoc, append-nil, length-append}
use Rattle.std.specs.List.{remove, prefix_len, AllByRecursion}
use Rattle.std.proofs.lemmas.List.{take_at, drop_at, map-append, take-map, drop-map}
use Rattle.filter_table.specs.declared.rank.Rank.{Rank}
use Rattle.filter_table.specs.declared.level.Level.{Level}
use Rattle.filter_table.specs.Ranks.{is_before, slot_of, with_rank, ranked}
use Rattle.filter_table.specs.Numbers.{low_of}
use Rattle.filter_table.specs.Levels.{levels_of, one_less}
use Rattle.filter_table.specs.RankLaws.{AreRanked}
use Rattle.filter_table.specs.Sifting.{closed}
use Rattle.filter_table.proofs.Order.{with_first, with_later, ranked_remove}
use Rattle.filter_table.proofs.Each.{each_weaker}
use Rattle.filter_table.proofs.Ranked.{ranked_without, kinds_rise, are_ranked, not_between}
use Rattle.filter_table.proofs.Counting.{levels_without}

-- ---- what is moved

pub closed_parts : {A : Type 0} → (staying holes end : ℕ) (front gap part behind : List A) → length front ≡ staying → length gap ≡ holes → end ≡ staying + holes + length part
    → closed staying holes end (front ++ (gap ++ (part ++ behind))) ≡ front ++ (part ++ (gap ++ behind))
closed_parts staying holes end front gap part behind first second third =
    let all : front ++ (gap ++ (part ++ behind)) ≡ (front ++ (gap ++ part)) ++ behind =
    ap (λ xs. front ++ xs) (sym (append_assoc gap part behind)) ∙ sym (append_assoc front (gap ++ part) behind) in
    let long : length (front ++ (gap ++ part)) ≡ end = omega (arith, first, second, third, length-append front (gap ++ part), length-append gap part) in
    let whole : take end (front ++ (gap ++ (part ++ behind))) ≡ front ++ (gap ++ part) = ap (take end) all ∙ take_at (front ++ (gap ++ part)) behind end long in
    let rest : drop end (front ++ (gap ++ (part ++ behind))) ≡ behind = ap (drop end) all ∙ drop_at (front ++ (gap ++ part)) behind end long in
    rw whole rw rest rw (take_at front (gap ++ part) staying first) rw (drop_at front (gap ++ part) staying first) rw (take_at gap part holes second) rw (drop_at gap part holes second)
    (append_assoc front (part ++ gap) behind ∙ ap (λ xs. front ++ xs) (append_assoc part gap behind))

pub closed_map : {A B : Type 0} → (f : A → B) (staying holes end : ℕ) (xs : List A) → closed staying holes end (map f xs) ≡ map f (closed staying holes end xs)
closed_map f staying holes end xs =
    rw (take-map f end xs) rw (drop-map f end xs) rw (take-map f staying (take end xs)) rw (drop-map f staying (take end xs))
    rw (take-map f holes (drop staying (take end xs))) rw (drop-map f holes (drop staying (take end xs)))
    (sym (map-append f (take staying (take end xs) ++ (drop holes (drop staying (take end xs)) ++ take holes (drop staying (take end xs)))) (drop end xs)
    ∙ ap (λ ys. ys ++ map f (drop end xs)) (map-append f (take staying (take end xs)) (drop holes (drop staying (take end xs)) ++ take holes (drop staying (take end xs)))
    ∙ ap (λ ys. map f (take staying (take end xs)) ++ ys) (map-append f (drop holes (drop staying (take end xs))) (take holes (drop staying (take end xs)))))))

-- ---- the first that fails

pub record Splits (p : Rank → Bool) (xs : List Rank) : Type 0 where
  pub part : List Rank
  pub first : Rank
  pub behind : List Rank
  pub are : xs ≡ part ++ first ∷ behind
  pub long : length part ≡ prefix_len p xs
  pub fails : p first ≡ false
  pub left : filter p xs ≡ part ++ filter p behind

one_longer : (v : Bool) (n : ℕ) → v ≡ true → suc n ≡ cond v (1 + n) 0
one_longer true n is = sym (one-add n)
one_longer false n is = absurd (cc)

one_stays : (v : Bool) (x : Rank) (xs ys : List Rank) → v ≡ true → xs ≡ ys → cond v (x ∷ xs) xs ≡ x ∷ ys
one_stays true x xs ys is same = ap (λ zs. x ∷ zs) same
one_stays false x xs ys is same = absurd (cc)

pub splits : (p : Rank → Bool) (xs : List Rank) → prefix_len p xs < length xs → Splits p xs
splits p [] within = absurd (omega (arith, within))
splits p (x ∷ xs) within =
    elim (p x) as (λ v. p x ≡ v → Splits p (x ∷ xs)) [
      | true ↦ λ is.
          let short : prefix_len p xs < length xs = grind (arith, within, is) in
          let rest = splits p xs short in
          record {
            part = x ∷ rest.part;
            first = rest.first;
            behind = rest.behind;
            are = ap (λ ys. x ∷ ys) rest.are;
            long = ap suc rest.long ∙ one_longer (p x) (prefix_len p xs) is;
            fails = rest.fails;
            left = one_stays (p x) x (filter p xs) (rest.part ++ filter p rest.behind) is rest.left;
          }
      | false ↦ λ is. record { part = []; first = x; behind = xs; are = refl; long = rw is refl; fails = is; left = rw is refl }
    ] refl

pub all_pass : (p : Rank → Bool) (xs : List Rank) → length xs ≤ prefix_len p xs → filter p xs ≡ xs
all_pass p [] most = refl
all_pass p (x ∷ xs) most =
    elim (p x) as (λ v. p x ≡ v → filter p (x ∷ xs) ≡ x ∷ xs) [
      | true ↦ λ is. let more : length xs ≤ prefix_len p xs = grind (arith, most, is) in rw is (ap (λ ys. x ∷ ys) (all_pass p xs more))
      | false ↦ λ is. absurd (grind (arith, most, is))
    ] refl

-- ---- levels of those that are left

each_stays : (P : Rank → Type 0) (p : Rank → Bool) (xs : List Rank) → AllByRecursion P xs → AllByRecursion P (filter p xs)
each_stays P p [] all = all
each_stays P p (x ∷ xs) all =
    elim (p x) as (λ v. AllByRecursion P (cond v (x ∷ filter p xs) (filter p xs))) [ true ↦ (all.0, each_stays P p xs all.1) | false ↦ each_stays P p xs all.1 ]

not_first : (r : Rank) (xs : List Rank) → AllByRecursion (λ later. is_before later r ≡ false) xs → with_rank r xs ≡ r ∷ xs
not_first r [] all = refl
not_first r (x ∷ xs) all = with_first r x xs all.0

pub ranked_same : (xs : List Rank) → AreRanked xs → ranked xs ≡ xs
ranked_same [] order = refl
ranked_same (x ∷ xs) order = ap (with_rank x) (ranked_same xs order.1) ∙ not_first x xs order.0

removed_at : (front : List Rank) (r : Rank) (behind : List Rank) → remove (front ++ r ∷ behind) (length front) ≡ front ++ behind
removed_at [] r behind = refl
removed_at (x ∷ front) r behind = ap (λ ys. x ∷ ys) (removed_at front r behind)

read_at : (front : List Rank) (r : Rank) (behind : List Rank) → get_or (front ++ r ∷ behind) (length front) r ≡ r
read_at [] r behind = refl
read_at (x ∷ front) r behind = read_at front r behind

pub order_left : (front : List Rank) (r : Rank) (behind : List Rank) → AreRanked (front ++ r ∷ behind) → AreRanked (front ++ behind)
order_left front r behind order = subst AreRanked (removed_at front r behind) (ranked_without (front ++ r ∷ behind) (length front) order)

pub levels_left : (front : List Rank) (r : Rank) (behind : List Rank) → AreRanked (front ++ r ∷ behind) → levels_of (front ++ behind) ≡ one_less r.kind (levels_of (front ++ r ∷ behind))
levels_left front r behind order =
    let less : AreRanked (front ++ behind) = order_left front r behind order in
    let within : length front < length (front ++ r ∷ behind) = omega (arith, length-append front (r ∷ behind)) in
    let split : front ++ r ∷ behind ≡ with_rank r (front ++ behind) =
    sym (ranked_same (front ++ r ∷ behind) order) ∙ ranked_remove (front ++ r ∷ behind) (length front) r within (read_at front r behind)
    ∙ ap (λ ys. with_rank r (ranked ys)) (removed_at front r behind) ∙ ap (with_rank r) (ranked_same (front ++ behind) less) in
    levels_without r (front ++ r ∷ behind) (front ++ behind) split (kinds_rise (front ++ behind) less)

-- ---- the state of the pass

pub record Sifts (p : Rank → Bool) (old items : List Rank) (staying holes : ℕ) (numbers slots : List ℕ) (levels : List Level) : Type 0 where
  pub front : List Rank
  pub gap : List Rank
  pub rest : List Rank
  pub items_are : items ≡ front ++ (gap ++ rest)
  pub staying_is : length front ≡ staying
  pub holes_is : length gap ≡ holes
  pub same : front ++ filter p rest ≡ filter p old
  pub in_order : AreRanked (front ++ rest)
  pub levels_are : levels ≡ levels_of (front ++ rest)
  pub numbers_are : numbers ≡ map low_of items
  pub slots_are : slots ≡ map slot_of items

pub sift_start : (p : Rank → Bool) (old : List Rank) (numbers slots : List ℕ) (levels : List Level) → AreRanked old → numbers ≡ map low_of old → slots ≡ map slot_of old → levels ≡ levels_of old
    → Sifts p old old 0 0 numbers slots levels
sift_start p old numbers slots levels order news ones counted = record {
  front = [];
  gap = [];
  rest = old;
  items_are = refl;
  staying_is = refl;
  holes_is = refl;
  same = refl;
  in_order = order;
  levels_are = counted;
  numbers_are = news;
  slots_are = ones;
}

rest_is : (staying holes : ℕ) (front gap rest : List Rank) → length front ≡ staying → length gap ≡ holes → drop (staying + holes) (front ++ (gap ++ rest)) ≡ rest
rest_is staying holes front gap rest first second =
    ap (drop (staying + holes)) (sym (append_assoc front gap rest)) ∙ drop_at (front ++ gap) rest (staying + holes) (omega (arith, first, second, length-append front gap))

pub get_at : (front : List Rank) (r : Rank) (behind : List Rank) (d : Rank) (n : ℕ) → length front ≡ n → get_or (front ++ r ∷ behind) n d ≡ r
get_at [] r behind d zero is = refl
get_at [] r behind d (suc n) is = absurd (omega (arith, is))
get_at (x ∷ front) r behind d zero is = absurd (omega (arith, is))
get_at (x ∷ front) r behind d (suc n) is = get_at front r behind d n (omega (arith, is))

pub sift_next : (p : Rank → Bool) (old items later : List Rank) (staying holes end next : ℕ) (numbers fewer slots others : List ℕ) (levels counts : List Level) (d : Rank)
    → Sifts p old items staying holes numbers slots levels
    → end ≡ staying + holes + prefix_len p (drop (staying + holes) items) → end < length items → next + holes ≡ end
    → later ≡ closed staying holes end items → fewer ≡ closed staying holes end numbers → others ≡ closed staying holes end slots → counts ≡ one_less (get_or items end d).kind levels
    → Sifts p old later next (holes + 1) fewer others counts
sift_next p old items later staying holes end next numbers fewer slots others levels counts d state here within after rows news ones counted =
    let all = state.items_are in
    let rest : drop (staying + holes) items ≡ state.rest = ap (drop (staying + holes)) all ∙ rest_is staying holes state.front state.gap state.rest state.staying_is state.holes_is in
    let more : prefix_len p (drop (staying + holes) items) ≡ prefix_len p state.rest = ap (prefix_len p) rest in
    let long : length items ≡ staying + holes + length state.rest = omega (arith, ap length all, length-append state.front (state.gap ++ state.rest), length-append state.gap state.rest, state.staying_is, state.holes_is) in
    let cut = splits p state.rest (omega (arith, here, within, more, long)) in
    let parts : items ≡ state.front ++ (state.gap ++ (cut.part ++ cut.first ∷ cut.behind)) = all ∙ ap (λ ys. state.front ++ (state.gap ++ ys)) cut.are in
    let moved : later ≡ state.front ++ (cut.part ++ (state.gap ++ cut.first ∷ cut.behind)) =
    rows ∙ ap (closed staying holes end) parts ∙ closed_parts staying holes end state.front state.gap cut.part (cut.first ∷ cut.behind) state.staying_is state.holes_is (omega (arith, here, more, cut.long)) in
    let one : get_or items end d ≡ cut.first =
    ap (λ ys. get_or ys end d) (parts ∙ ap (λ ys. state.front ++ ys) (sym (append_assoc state.gap cut.part (cut.first ∷ cut.behind))) ∙ sym (append_assoc state.front (state.gap ++ cut.part) (cut.first ∷ cut.behind)))
    ∙ get_at (state.front ++ (state.gap ++ cut.part)) cut.first cut.behind d end
    (omega (arith, here, more, cut.long, state.staying_is, state.holes_is, length-append state.front (state.gap ++ cut.part), length-append state.gap cut.part)) in
    let order : AreRanked ((state.front ++ cut.part) ++ cut.first ∷ cut.behind) =
    subst AreRanked (ap (λ ys. state.front ++ ys) cut.are ∙ sym (append_assoc state.front cut.part (cut.first ∷ cut.behind))) state.in_order in
    record {
      front = state.front ++ cut.part;
      gap = state.gap ++ cut.first ∷ [];
      rest = cut.behind;
      items_are = moved ∙ sym (append_assoc state.front cut.part (state.gap ++ cut.first ∷ cut.behind))
          ∙ ap (λ ys. (state.front ++ cut.part) ++ ys) (sym (append_assoc state.gap (cut.first ∷ []) cut.behind));
      staying_is = omega (arith, length-append state.front cut.part, state.staying_is, cut.long, more, here, after);
      holes_is = omega (arith, length-append state.gap (cut.first ∷ []), state.holes_is);
      same = append_assoc state.front cut.part (filter p cut.behind) ∙ ap (λ ys. state.front ++ ys) (sym cut.left) ∙ state.same;
      in_order = order_left (state.front ++ cut.part) cut.first cut.behind order;
      levels_are = counted ∙ ap (λ (k : Rank). one_less k.kind levels) one ∙ ap (one_less cut.first.kind) (state.levels_are ∙ ap (λ ys. levels_of (state.front ++ ys)) cut.are
          ∙ ap levels_of (sym (append_assoc state.front cut.part (cut.first ∷ cut.behind)))) ∙ sym (levels_left (state.front ++ cut.part) cut.first cut.behind order);
      numbers_are = news ∙ ap (closed staying holes end) state.numbers_are ∙ closed_map low_of staying holes end items ∙ ap (map low_of) (sym rows);
      slots_are = ones ∙ ap (closed staying holes end) state.slots_are ∙ closed_map slot_of staying holes end items ∙ ap (map slot_of) (sym rows);
    }

-- what is left once none fails any more
pub record AreSifted (p : Rank → Bool) (old later : List Rank) (count : ℕ) (fewer others : List ℕ) (levels : List Level) : Type 0 where
  pub ranks : take count later ≡ filter p old
  pub numbers : take count fewer ≡ map low_of (filter p old)
  pub slots : take count others ≡ map slot_of (filter p old)
  pub levels_are : levels ≡ levels_of (filter p old)

pub sift_end : (p : Rank → Bool) (old items later : List Rank) (staying holes end count : ℕ) (numbers fewer slots others : List ℕ) (levels : List Level)
    → Sifts p old items staying holes numbers slots levels
    → staying + holes + prefix_len p (drop (staying + holes) items) ≡ length items → end ≡ length items → count + holes ≡ end
    → later ≡ closed staying holes end items → fewer ≡ closed staying holes end numbers → others ≡ closed staying holes end slots
    → AreSifted p old later count fewer others levels
sift_end p old items later staying holes end count numbers fewer slots others levels state here whole counted rows news ones =
    let all = state.items_are in
    let rest : drop (staying + holes) items ≡ state.rest = ap (drop (staying + holes)) all ∙ rest_is staying holes state.front state.gap state.rest state.staying_is state.holes_is in
    let more : prefix_len p (drop (staying + holes) items) ≡ prefix_len p state.rest = ap (prefix_len p) rest in
    let long : length items ≡ staying + holes + length state.rest = omega (arith, ap length all, length-append state.front (state.gap ++ state.rest), length-append state.gap state.rest, state.staying_is, state.holes_is) in
    let passes : filter p state.rest ≡ state.rest = all_pass p state.rest (omega (arith, here, more, long)) in
    let parts : items ≡ state.front ++ (state.gap ++ (state.rest ++ [])) = all ∙ ap (λ ys. state.front ++ (state.gap ++ ys)) (sym (append-nil state.rest)) in
    let moved : later ≡ (state.front ++ state.rest) ++ (state.gap ++ []) =
    rows ∙ ap (closed staying holes end) parts ∙ closed_parts staying holes end state.front state.gap state.rest [] state.staying_is state.holes_is (omega (arith, whole, long))
    ∙ sym (append_assoc state.front state.rest (state.gap ++ [])) in
    let left : state.front ++ state.rest ≡ filter p old = ap (λ ys. state.front ++ ys) (sym passes) ∙ state.same in
    let number : length (state.front ++ state.rest) ≡ count = omega (arith, length-append state.front state.rest, state.staying_is, whole, counted, long) in
    let ranks : take count later ≡ filter p old = ap (take count) moved ∙ take_at (state.front ++ state.rest) (state.gap ++ []) count number ∙ left in
    record {
      ranks = ranks;
      numbers = ap (take count) (news ∙ ap (closed staying holes end) state.numbers_are ∙ closed_map low_of staying holes end items ∙ ap (map low_of) (sym rows))
          ∙ take-map low_of count later ∙ ap (map low_of) ranks;
      slots = ap (take count) (ones ∙ ap (closed staying holes end) state.slots_are ∙ closed_map slot_of staying holes end items ∙ ap (map slot_of) (sym rows))
          ∙ take-map slot_of count later ∙ ap (map slot_of) ranks;
      levels_are = state.levels_are ∙ ap levels_of left;
    }

-- ---- taking out before and after ranks are put in order

filter_first : (p : Rank → Bool) (r x : Rank) (xs : List Rank) → is_before x r ≡ false → AllByRecursion (λ later. is_before later r ≡ false) xs → with_rank r (filter p (x ∷ xs)) ≡ r ∷ filter p (x ∷ xs)
filter_first p r x xs first later = not_first r (filter p (x ∷ xs)) (each_stays (λ later. is_before later r ≡ false) p (x ∷ xs) (first, later))

filter_with : (p : Rank → Bool) (r : Rank) (xs : List Rank) → AreRanked xs → filter p (with_rank r xs) ≡ cond (p r) (with_rank r (filter p xs)) (filter p xs)
filter_with p r [] order = elim (p r) as (λ v. cond v (r ∷ []) [] ≡ cond v (with_rank r []) []) [ true ↦ refl | false ↦ refl ]
filter_with p r (x ∷ xs) order =
    elim (is_before x r) as (λ v. is_before x r ≡ v → filter p (with_rank r (x ∷ xs)) ≡ cond (p r) (with_rank r (filter p (x ∷ xs))) (filter p (x ∷ xs))) [
      | true ↦ λ is.
          ap (filter p) (with_later r x xs is)
          ∙ (elim (p x) as (λ v. cond v (x ∷ filter p (with_rank r xs)) (filter p (with_rank r xs)) ≡ cond (p r) (with_rank r (cond v (x ∷ filter p xs) (filter p xs))) (cond v (x ∷ filter p xs) (filter p xs))) [
            | true ↦ ap (λ ys. x ∷ ys) (filter_with p r xs order.1)
                ∙ (elim (p r) as (λ w. x ∷ cond w (with_rank r (filter p xs)) (filter p xs) ≡ cond w (with_rank r (x ∷ filter p xs)) (x ∷ filter p xs)) [
                  | true ↦ sym (with_later r x (filter p xs) is)
                  | false ↦ refl
                ])
            | false ↦ filter_with p r xs order.1
          ])
      | false ↦ λ is.
          let behind : AllByRecursion (λ later. is_before later r ≡ false) xs =
          each_weaker (λ later. is_before later x ≡ false) (λ later. is_before later r ≡ false) (λ later no. not_between r x later no is) xs order.0 in
          ap (filter p) (with_first r x xs is)
          ∙ (elim (p r) as (λ v. cond v (r ∷ filter p (x ∷ xs)) (filter p (x ∷ xs)) ≡ cond v (with_rank r (filter p (x ∷ xs))) (filter p (x ∷ xs))) [
            | true ↦ sym (filter_first p r x xs is behind)
            | false ↦ refl
          ])
    ] refl

pub filter_ranked : (p : Rank → Bool) (xs : List Rank) → filter p (ranked xs) ≡ ranked (filter p xs)
filter_ranked p [] = refl
filter_ranked p (x ∷ xs) =
    filter_with p x (ranked xs) (are_ranked xs)
    ∙ (elim (p x) as (λ v. cond v (with_rank x (filter p (ranked xs))) (filter p (ranked xs)) ≡ ranked (cond v (x ∷ filter p xs) (filter p xs))) [
      | true ↦ ap (with_rank x) (filter_ranked p xs)
      | false ↦ filter_ranked p xs
    ])
