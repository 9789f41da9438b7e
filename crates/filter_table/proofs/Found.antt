-- The rows of a mitigation, found by their marks.
use Rattle.std.proofs.Common.{◌≡◌, ℕ, ◌+◌, ◌<◌, ◌≤◌, Bool, true, false, not, cond, ◌&&◌, ◌==◌, nat_lt, List, [], ◌∷◌, map, filter, length, get_or, drop, length-drop, zero, suc, refl, sym, ap, subst, ◌∙◌, arith, one-add, Option, Some, None, eqb-true, eq-eqb}
use Rattle.std.specs.Prelude.{bytes_eq}
use Rattle.std.specs.Option.{IfSome, IfNone}
use Rattle.std.specs.List.{insert, remove, find, prefix_len, position, position_or_len, AllByRecursion}
use Rattle.acl_lists.specs.declared.rows.ScrubRow.{ScrubRow}
use Rattle.filter_table.specs.declared.rank.Rank.{Rank}
use Rattle.filter_table.specs.Ranks.{ranked, place_of, is_of_kind, is_of_number}
use Rattle.filter_table.proofs.Each.{each_insert, each_map, each_both, each_weaker}
use Rattle.filter_table.specs.declared.turn.Turn.{Turn}
use Rattle.filter_table.specs.TableRows.{PlacedScrub, is_of, is_of_client, row_is_of, without_mitigation}
use Rattle.filter_table.specs.Rows.{in_slot, gathered, passes, slot_is_of, mark_of, marks_of, is_turn, IsTied}
use Rattle.filter_table.proofs.Gathered.{AreTied, scrub_of, one_tied, length-gathered, IsStored, Reaches, turn_read, default_same}
use Rattle.filter_table.proofs.Orders.{each_filter}
use Rattle.filter_table.proofs.Bests.{each_ranked}
use Rattle.filter_table.proofs.Slots.{others_same, all_stay}

-- ---- what holds of each mark found, and of each row

each_inserted : (P : Rank → Type 0) (xs : List Rank) (i : ℕ) (x : Rank) → AllByRecursion P (insert xs i x) → P x × AllByRecursion P xs
each_inserted P [] zero x all = all
each_inserted P [] (suc i) x all = all
each_inserted P (y ∷ xs) zero x all = all
each_inserted P (y ∷ xs) (suc i) x all = let rest = each_inserted P xs i x all.1 in (rest.0, (all.0, rest.1))

each_unranked : (P : Rank → Type 0) (rs : List Rank) → AllByRecursion P (ranked rs) → AllByRecursion P rs
each_unranked P [] all = tt
each_unranked P (r ∷ rs) all = let rest = each_inserted P (ranked rs) (place_of r (ranked rs)) r all in (rest.0, each_unranked P rs rest.1)

each_unfiltered : (P : Rank → Type 0) (p : Rank → Bool) (xs : List Rank) → AllByRecursion P (filter p xs) → AllByRecursion (λ x. p x ≡ true → P x) xs
each_unfiltered P p [] all = tt
each_unfiltered P p (x ∷ xs) all =
    elim (p x) as (λ v. p x ≡ v → AllByRecursion P (cond v (x ∷ filter p xs) (filter p xs)) → (p x ≡ true → P x) × AllByRecursion (λ y. p y ≡ true → P y) xs) [
      | true ↦ λ is all. (λ _. all.0, each_unfiltered P p xs all.1)
      | false ↦ λ is all. (λ yes. absurd (cc), each_unfiltered P p xs all)
    ] refl all

each_unmapped : (P : Rank → Type 0) (of : PlacedScrub → Rank) (placed : List PlacedScrub) → AllByRecursion P (map of placed) → AllByRecursion (λ (x : PlacedScrub). P (of x)) placed
each_unmapped P of [] all = tt
each_unmapped P of (x ∷ placed) all = (all.0, each_unmapped P of placed all.1)

each_marked : (P : Rank → Type 0) (domain mid : ℕ) (placed : List PlacedScrub) → AllByRecursion P (marks_of domain mid (ranked (map mark_of placed)))
    → AllByRecursion (λ (x : PlacedScrub). x.row.domain ≡ domain → x.row.mid ≡ mid → P (mark_of x)) placed
each_marked P domain mid placed all =
    each_weaker (λ (x : PlacedScrub). is_of_kind domain (mark_of x) ≡ true → is_of_number mid (mark_of x) ≡ true → P (mark_of x))
    (λ (x : PlacedScrub). x.row.domain ≡ domain → x.row.mid ≡ mid → P (mark_of x))
    (λ x step in_domain of_mid. step (eq-eqb _ _ in_domain) (eq-eqb _ _ of_mid)) placed
    (each_unmapped (λ (r : Rank). is_of_kind domain r ≡ true → is_of_number mid r ≡ true → P r) mark_of placed
    (each_unranked (λ (r : Rank). is_of_kind domain r ≡ true → is_of_number mid r ≡ true → P r) (map mark_of placed)
    (each_unfiltered (λ (r : Rank). is_of_number mid r ≡ true → P r) (is_of_kind domain) (ranked (map mark_of placed))
    (each_unfiltered P (is_of_number mid) (filter (is_of_kind domain) (ranked (map mark_of placed))) all))))

both : (a b : Bool) → (a && b) ≡ true → (a ≡ true) × (b ≡ true)
both true b is = (refl, is)
both false b is = absurd (cc)

pub record InDomain (domain mid : ℕ) (scrub : PlacedScrub) : Type 0 where
  pub domain_is : scrub.row.domain ≡ domain
  pub mid_is : scrub.row.mid ≡ mid

in_domain : (domain : ℕ) (cuid : List ℕ) (mid : ℕ) (x : PlacedScrub) → is_of domain cuid mid x ≡ true → InDomain domain mid x
in_domain domain cuid mid x is =
    let parts = both (is_of_client domain cuid x.row.domain x.row.cuid) (x.row.mid == mid) is in
    let client = both (x.row.domain == domain) (bytes_eq x.row.cuid cuid) parts.0 in
    record { domain_is = eqb-true _ _ client.0; mid_is = eqb-true _ _ parts.1 }

-- ---- each row of the mitigation has one of the marks

-- what each row has where all have it is had by each
each_self : (T : PlacedScrub → PlacedScrub → Type 0) (placed : List PlacedScrub) → AllByRecursion (λ x. AllByRecursion (T x) placed → T x x) placed
each_self T [] = tt
each_self T (x ∷ placed) = (
  λ all. all.0,
  each_weaker (λ y. AllByRecursion (T y) placed → T y y) (λ y. AllByRecursion (T y) (x ∷ placed) → T y y) (λ y step all. step all.1) placed (each_self T placed),
)

abbrev Apart : ℕ → ℕ → PlacedScrub → PlacedScrub → Type 0
Apart domain mid x y = y.row.domain ≡ domain → y.row.mid ≡ mid → x.slot == y.slot ≡ false

not_apart : (slot : ℕ) → slot == slot ≡ false → ⊥
not_apart slot is = grind arith

pub each_reached : (domain : ℕ) (cuid : List ℕ) (mid : ℕ) (found : List Rank) (placed : List PlacedScrub) → found ≡ marks_of domain mid (ranked (map mark_of placed))
    → AllByRecursion (Reaches domain cuid mid found) placed
each_reached domain cuid mid found placed marked =
    each_weaker (λ x. AllByRecursion (Apart domain mid x) placed → Apart domain mid x x) (Reaches domain cuid mid found)
    (λ x step is none.
    let here = in_domain domain cuid mid x is in
    not_apart x.slot
    (step (each_marked (λ (r : Rank). x.slot == r.slot ≡ false) domain mid placed (subst (AllByRecursion (λ (r : Rank). x.slot == r.slot ≡ false)) marked none)) here.domain_is here.mid_is))
    placed (each_self (Apart domain mid) placed)

-- ---- the first mark whose row is one of the mitigation

find_none : (p : Rank → Bool) (xs : List Rank) → find p xs ≡ None → AllByRecursion (λ x. p x ≡ false) xs
find_none p [] none = tt
find_none p (x ∷ xs) none =
    elim (p x) as (λ v. p x ≡ v → cond v (Some x) (find p xs) ≡ None → (p x ≡ false) × AllByRecursion (λ y. p y ≡ false) xs) [
      | true ↦ λ is none. absurd (cc)
      | false ↦ λ is none. (is, find_none p xs none)
    ] refl none

same_found : (x r : Rank) → Some x ≡ Some r → x ≡ r
same_found x r same = cc

find_some : (P : Rank → Type 0) (p : Rank → Bool) (xs : List Rank) (r : Rank) → find p xs ≡ Some r → AllByRecursion P xs → P r × (p r ≡ true)
find_some P p [] r some all = absurd (cc)
find_some P p (x ∷ xs) r some all =
    elim (p x) as (λ v. p x ≡ v → cond v (Some x) (find p xs) ≡ Some r → P r × (p r ≡ true)) [
      | true ↦ λ is some. (subst P (same_found x r some) all.0, subst (λ y. p y ≡ true) (same_found x r some) is)
      | false ↦ λ is some. find_some P p xs r some all.1
    ] refl some

not_of : (domain : ℕ) (cuid : List ℕ) (mid : ℕ) (rows : List (Option ScrubRow)) (x : PlacedScrub) → IsStored rows x
    → (x.row.domain ≡ domain → x.row.mid ≡ mid → slot_is_of domain cuid mid rows x.slot ≡ false) → is_of domain cuid mid x ≡ false
not_of domain cuid mid rows x stored marked =
    elim (is_of domain cuid mid x) as (λ v. is_of domain cuid mid x ≡ v → v ≡ false) [
      | true ↦ λ is.
          let here = in_domain domain cuid mid x is in
          sym is ∙ sym (ap (passes (row_is_of domain cuid mid)) stored.is) ∙ marked here.domain_is here.mid_is
      | false ↦ λ is. refl
    ] refl

-- where none of the marks found is of the mitigation, none of the rows is
pub none_found : (domain : ℕ) (cuid : List ℕ) (mid : ℕ) (rows : List (Option ScrubRow)) (found : List Rank) (placed : List PlacedScrub) → AllByRecursion (IsStored rows) placed
    → found ≡ marks_of domain mid (ranked (map mark_of placed)) → find (λ (r : Rank). slot_is_of domain cuid mid rows r.slot) found ≡ None
    → placed ≡ filter (λ x. not (is_of domain cuid mid x)) placed
none_found domain cuid mid rows found placed stored marked none =
    all_stay (is_of domain cuid mid) placed
    (each_both (IsStored rows) (λ (x : PlacedScrub). x.row.domain ≡ domain → x.row.mid ≡ mid → slot_is_of domain cuid mid rows x.slot ≡ false) (λ x. is_of domain cuid mid x ≡ false)
    (not_of domain cuid mid rows) placed stored
    (each_marked (λ (r : Rank). slot_is_of domain cuid mid rows r.slot ≡ false) domain mid placed
    (subst (AllByRecursion (λ (r : Rank). slot_is_of domain cuid mid rows r.slot ≡ false)) marked (find_none (λ (r : Rank). slot_is_of domain cuid mid rows r.slot) found none))))

-- ---- the turn of a mark

pub found_by : (i j n : ℕ) → cond (nat_lt i n) (Some i) None ≡ Some j → (j ≡ i) × (i < n)
found_by i j n is = (grind arith, grind arith)

pub lost_by : (i n : ℕ) → cond (nat_lt i n) (Some i) None ≡ None → n ≤ i
lost_by i n is = grind arith

some_by : (i j n : ℕ) → j ≡ i → i < n → Some j ≡ cond (nat_lt i n) (Some i) None
some_by i j n is within = grind arith

none_by : (i n : ℕ) → n ≤ i → None ≡ cond (nat_lt i n) (Some i) None
none_by i n past = grind arith

one_skipped : (p : Turn → Bool) (n : ℕ) (t : Turn) (ts : List Turn) → position_or_len p (drop (1 + n) (t ∷ ts)) ≡ position_or_len p (drop n ts)
one_skipped p n t ts = rw (one-add n) refl

skipped : (p q : Turn → Bool) → ((t : Turn) → q t ≡ true → p t ≡ false) → (ts : List Turn) → position_or_len p ts ≡ prefix_len q ts + position_or_len p (drop (prefix_len q ts) ts)
skipped p q differ [] = omega arith
skipped p q differ (t ∷ ts) =
    elim (q t) as (λ v. q t ≡ v → position_or_len p (t ∷ ts) ≡ cond v (1 + prefix_len q ts) 0 + position_or_len p (drop (cond v (1 + prefix_len q ts) 0) (t ∷ ts))) [
      | true ↦ λ is.
          let later : position_or_len p (t ∷ ts) ≡ 1 + position_or_len p ts = rw (differ t is) refl in
          omega (arith, later, one_skipped p (prefix_len q ts) t ts, skipped p q differ ts)
      | false ↦ λ is.
          let same : position_or_len p (drop 0 (t ∷ ts)) ≡ position_or_len p (t ∷ ts) = refl in
          omega (arith, same)
    ] refl

lower_differs : (place slot : ℕ) (t : Turn) → nat_lt t.place place ≡ true → is_turn place slot t ≡ false
lower_differs place slot t is = grind arith

pub turn_after : (place slot before at : ℕ) (turns rest : List Turn) → before ≡ prefix_len (λ (t : Turn). nat_lt t.place place) turns → before ≤ length turns → rest ≡ drop before turns
    → position (is_turn place slot) rest ≡ Some at → Some (before + at) ≡ position (is_turn place slot) turns
turn_after place slot before at turns rest here within left is =
    let found = found_by (position_or_len (is_turn place slot) rest) at (length rest) is in
    let all : position_or_len (is_turn place slot) turns ≡ before + position_or_len (is_turn place slot) rest =
    skipped (is_turn place slot) (λ (t : Turn). nat_lt t.place place) (lower_differs place slot) turns
    ∙ ap (λ (n : ℕ). n + position_or_len (is_turn place slot) (drop n turns)) (sym here) ∙ ap (λ (ts : List Turn). before + position_or_len (is_turn place slot) ts) (sym left) in
    some_by (position_or_len (is_turn place slot) turns) (before + at) (length turns) (omega (arith, all, found.0)) (omega (arith, all, found.1, ap length left, length-drop before turns, within))

pub turn_nowhere : (place slot before : ℕ) (turns rest : List Turn) → before ≡ prefix_len (λ (t : Turn). nat_lt t.place place) turns → before ≤ length turns → rest ≡ drop before turns
    → position (is_turn place slot) rest ≡ None → None ≡ position (is_turn place slot) turns
turn_nowhere place slot before turns rest here within left is =
    let past = lost_by (position_or_len (is_turn place slot) rest) (length rest) is in
    let all : position_or_len (is_turn place slot) turns ≡ before + position_or_len (is_turn place slot) rest =
    skipped (is_turn place slot) (λ (t : Turn). nat_lt t.place place) (lower_differs place slot) turns
    ∙ ap (λ (n : ℕ). n + position_or_len (is_turn place slot) (drop n turns)) (sym here) ∙ ap (λ (ts : List Turn). before + position_or_len (is_turn place slot) ts) (sym left) in
    none_by (position_or_len (is_turn place slot) turns) (length turns) (omega (arith, all, past, ap length left, length-drop before turns, within))

abbrev HasTurn : List Turn → Rank → Type 0
HasTurn turns mark = position_or_len (is_turn mark.place mark.slot) turns < length turns

turn_here : (t : Turn) (ts : List Turn) (row : ScrubRow) → HasTurn (t ∷ ts) (mark_of (scrub_of t row))
turn_here t ts row =
    let is : is_turn t.place t.slot t ≡ true = ap (λ (v : Bool). v && (t.slot == t.slot)) (eq-eqb t.place t.place refl) ∙ eq-eqb t.slot t.slot refl in
    subst (λ (v : Bool). cond (not v) (1 + position_or_len (is_turn t.place t.slot) ts) 0 < length (t ∷ ts)) (sym is) (omega arith)

turn_later : (t : Turn) (ts : List Turn) (mark : Rank) → HasTurn ts mark → HasTurn (t ∷ ts) mark
turn_later t ts mark there =
    elim (is_turn mark.place mark.slot t) as (λ v. cond (not v) (1 + position_or_len (is_turn mark.place mark.slot) ts) 0 < length (t ∷ ts)) [
      | true ↦ omega arith
      | false ↦ omega (arith, there)
    ]

each_turned : (rows : List (Option ScrubRow)) (ts : List Turn) → AreTied rows ts → AllByRecursion (λ (x : PlacedScrub). HasTurn ts (mark_of x)) (gathered rows ts)
each_turned rows [] tied = tt
each_turned rows (t ∷ ts) tied =
    subst (AllByRecursion (λ (x : PlacedScrub). HasTurn (t ∷ ts) (mark_of x))) (sym (one_tied rows t ts tied.0)) (
      turn_here t ts tied.0.row,
      each_weaker (λ (x : PlacedScrub). HasTurn ts (mark_of x)) (λ (x : PlacedScrub). HasTurn (t ∷ ts) (mark_of x)) (λ x. turn_later t ts (mark_of x)) (gathered rows ts) (each_turned rows ts tied.1),
    )

each_unit : (xs : List Rank) → AllByRecursion (λ (r : Rank). Unit {0}) xs
each_unit [] = tt
each_unit (x ∷ xs) = (tt, each_unit xs)

-- a mark that is found has a turn
never_lost : (domain : ℕ) (cuid : List ℕ) (mid : ℕ) (rows : List (Option ScrubRow)) (turns : List Turn) (found : List Rank) (mark : Rank) → AreTied rows turns
    → found ≡ marks_of domain mid (ranked (map mark_of (gathered rows turns))) → find (λ (r : Rank). slot_is_of domain cuid mid rows r.slot) found ≡ Some mark
    → position (is_turn mark.place mark.slot) turns ≡ None → ⊥
never_lost domain cuid mid rows turns found mark tied marked some none =
    let all : AllByRecursion (HasTurn turns) found =
    subst (AllByRecursion (HasTurn turns)) (sym marked)
    (each_filter (HasTurn turns) (is_of_number mid) _
    (each_filter (HasTurn turns) (is_of_kind domain) _
    (each_ranked (HasTurn turns) (map mark_of (gathered rows turns)) (each_map (HasTurn turns) mark_of (gathered rows turns) (each_turned rows turns tied))))) in
    let there : HasTurn turns mark = (find_some (HasTurn turns) (λ (r : Rank). slot_is_of domain cuid mid rows r.slot) found mark some all).0 in
    absurd (omega (arith, there, lost_by (position_or_len (is_turn mark.place mark.slot) turns) (length turns) none))

row_there : (p : ScrubRow → Bool) (o : Option ScrubRow) → passes p o ≡ true → (row : ScrubRow) × (o ≡ Some row) × (p row ≡ true)
row_there p None is = absurd (cc)
row_there p (Some row) is = (row, refl, is)

first_passes : (p : Turn → Bool) (ts : List Turn) (d : Turn) → position_or_len p ts < length ts → p (get_or ts (position_or_len p ts) d) ≡ true
first_passes p [] d within = absurd (omega (arith, within))
first_passes p (t ∷ ts) d within =
    elim (p t) as (λ v. p t ≡ v → cond (not v) (1 + position_or_len p ts) 0 < length (t ∷ ts) → p (get_or (t ∷ ts) (cond (not v) (1 + position_or_len p ts) 0) d) ≡ true) [
      | true ↦ λ is within. is
      | false ↦ λ is within. rw (one-add (position_or_len p ts)) (first_passes p ts d (omega (arith, within)))
    ] refl within

abbrev pub GoesAt : ℕ → List ℕ → ℕ → List PlacedScrub → ℕ → Type 0
GoesAt domain cuid mid placed at = (at < length placed) × (without_mitigation domain cuid mid (remove placed at) ≡ without_mitigation domain cuid mid placed)

-- the row of a mark that is found is one of the mitigation
row_found : (domain : ℕ) (cuid : List ℕ) (mid : ℕ) (rows : List (Option ScrubRow)) (turns : List Turn) (found : List Rank) (mark : Rank) (at : ℕ) → AreTied rows turns
    → find (λ (r : Rank). slot_is_of domain cuid mid rows r.slot) found ≡ Some mark
    → position (is_turn mark.place mark.slot) turns ≡ Some at → GoesAt domain cuid mid (gathered rows turns) at
row_found domain cuid mid rows turns found mark at tied some is =
    let first = found_by (position_or_len (is_turn mark.place mark.slot) turns) at (length turns) is in
    let d : Turn = record { place = 0; slot = 0 } in
    let within : at < length turns = omega (arith, first.0, first.1) in
    let turn : is_turn mark.place mark.slot (get_or turns at (record { place = 0; slot = 0 })) ≡ true =
    ap (λ (n : ℕ). is_turn mark.place mark.slot (get_or turns n (record { place = 0; slot = 0 }))) first.0 ∙ first_passes (is_turn mark.place mark.slot) turns (record { place = 0; slot = 0 }) first.1 in
    let t : Turn = get_or turns at (record { place = 0; slot = 0 }) in
    let parts = both ((get_or turns at (record { place = 0; slot = 0 })).place == mark.place) ((get_or turns at (record { place = 0; slot = 0 })).slot == mark.slot) turn in
    let slot : (get_or turns at (record { place = 0; slot = 0 })).slot ≡ mark.slot = eqb-true _ _ parts.1 in
    let one = row_there (row_is_of domain cuid mid) (in_slot rows mark.slot) (find_some (λ (r : Rank). Unit {0}) (λ (r : Rank). slot_is_of domain cuid mid rows r.slot) found mark some (each_unit found)).1 in
    let read = turn_read rows turns at (get_or turns at (record { place = 0; slot = 0 })) one.0 tied within (default_same turns at (record { place = 0; slot = 0 }) within) (ap (in_slot rows) slot ∙ one.1) in
    let below : at < length (gathered rows turns) = omega (arith, within, length-gathered rows turns tied) in
    (below, others_same (is_of domain cuid mid) (gathered rows turns) at (scrub_of (get_or turns at (record { place = 0; slot = 0 })) one.0) below (ap (is_of domain cuid mid) read ∙ one.2))

pub found_at : (domain : ℕ) (cuid : List ℕ) (mid : ℕ) (rows : List (Option ScrubRow)) (turns : List Turn) (found : List Rank) (mark : Rank) (o : Option ℕ) → AreTied rows turns
    → find (λ (r : Rank). slot_is_of domain cuid mid rows r.slot) found ≡ Some mark
    → o ≡ position (is_turn mark.place mark.slot) turns → IfSome o (GoesAt domain cuid mid (gathered rows turns))
found_at domain cuid mid rows turns found mark o tied some here =
    elim o as (λ v. o ≡ v → IfSome v (GoesAt domain cuid mid (gathered rows turns))) [
      | None ↦ λ is. tt
      | Some at ↦ λ is. row_found domain cuid mid rows turns found mark at tied some (sym here ∙ is)
    ] refl

pub found_anywhere : (domain : ℕ) (cuid : List ℕ) (mid : ℕ) (rows : List (Option ScrubRow)) (turns : List Turn) (found : List Rank) (mark : Rank) (o : Option ℕ) (P : Type 0) → AreTied rows turns
    → found ≡ marks_of domain mid (ranked (map mark_of (gathered rows turns))) → find (λ (r : Rank). slot_is_of domain cuid mid rows r.slot) found ≡ Some mark
    → o ≡ position (is_turn mark.place mark.slot) turns → IfNone o P
found_anywhere domain cuid mid rows turns found mark o P tied marked some here =
    elim o as (λ v. o ≡ v → IfNone v P) [
      | None ↦ λ is. absurd (never_lost domain cuid mid rows turns found mark tied marked some (sym here ∙ is))
      | Some at ↦ λ is. tt
    ] refl
