-- The rows of turns, whose slots have them.
use Rattle.std.proofs.Common.{◌≡◌, ℕ, ◌+◌, ◌<◌, ◌≤◌, Bool, true, false, not, cond, ◌&&◌, ◌==◌, nat_le, nat_lt, List, [], ◌∷◌, map, length, length-set, get_or, set, zero, suc, refl, sym, ap, subst, ◌∙◌, arith, one-add, Option, Some, None, option_map, IsSome, slice_get, eqb-true, eq-eqb, rules}
use Rattle.std.specs.List.{insert, remove, prefix_len, AllByRecursion}
use Rattle.ip_scope.specs.Prefix.{IsPrefix}
use Rattle.acl_lists.specs.declared.rows.ScrubRow.{ScrubRow}
use Rattle.filter_table.specs.declared.turn.Turn.{Turn}
use Rattle.filter_table.specs.TableRows.{PlacedScrub, scrub_in, is_of, is_of_client, row_is_of, row_woken, row_set, woken, scrub_set, row_of_scrub, number_after, renumbered, renumbered_from, place_of_scrub, scrub_at_place, rank_of}
use Rattle.filter_table.specs.Rows.{or_empty, in_slot, added, gathered, place_of_turn, turn_at_place, woken_at, woken_in, IsTied}
use Rattle.filter_table.specs.declared.rank.Rank.{Rank}
use Rattle.filter_table.proofs.Each.{each_insert, each_remove, each_both}

abbrev pub AreTied : List (Option ScrubRow) → List Turn → Type 0
AreTied rows turns = AllByRecursion (IsTied rows) turns

abbrev pub scrub_of : Turn → ScrubRow → PlacedScrub
scrub_of turn row = record { slot = turn.slot; place = turn.place; row = row }

pub one_tied : (rows : List (Option ScrubRow)) (t : Turn) (ts : List Turn) (tie : IsTied rows t) → gathered rows (t ∷ ts) ≡ scrub_of t tie.row ∷ gathered rows ts
one_tied rows t ts tie = ap (λ r. added t r (gathered rows ts)) tie.is

pub length-gathered : (rows : List (Option ScrubRow)) (ts : List Turn) → AreTied rows ts → length (gathered rows ts) ≡ length ts
length-gathered rows [] tied = refl
length-gathered rows (t ∷ ts) tied = ap length (one_tied rows t ts tied.0) ∙ ap suc (length-gathered rows ts tied.1)

pub gathered-insert : (rows : List (Option ScrubRow)) (ts : List Turn) (i : ℕ) (t : Turn) (row : ScrubRow) → AreTied rows ts → in_slot rows t.slot ≡ Some row
    → gathered rows (insert ts i t) ≡ insert (gathered rows ts) i (scrub_of t row)
gathered-insert rows [] zero t row tied is = ap (λ r. added t r []) is
gathered-insert rows [] (suc i) t row tied is = ap (λ r. added t r []) is
gathered-insert rows (y ∷ ts) zero t row tied is = ap (λ r. added t r (gathered rows (y ∷ ts))) is
gathered-insert rows (y ∷ ts) (suc i) t row tied is =
    one_tied rows y (insert ts i t) tied.0
    ∙ ap (λ hs. scrub_of y tied.0.row ∷ hs) (gathered-insert rows ts i t row tied.1 is)
    ∙ sym (ap (λ hs. insert hs (suc i) (scrub_of t row)) (one_tied rows y ts tied.0))

pub gathered-remove : (rows : List (Option ScrubRow)) (ts : List Turn) (i : ℕ) → AreTied rows ts → gathered rows (remove ts i) ≡ remove (gathered rows ts) i
gathered-remove rows [] zero tied = refl
gathered-remove rows [] (suc i) tied = refl
gathered-remove rows (y ∷ ts) zero tied = sym (ap (λ hs. remove hs zero) (one_tied rows y ts tied.0))
gathered-remove rows (y ∷ ts) (suc i) tied =
    one_tied rows y (remove ts i) tied.0
    ∙ ap (λ hs. scrub_of y tied.0.row ∷ hs) (gathered-remove rows ts i tied.1)
    ∙ sym (ap (λ hs. remove hs (suc i)) (one_tied rows y ts tied.0))

-- ---- one slot written

get-set_other : (rows : List (Option ScrubRow)) (i k : ℕ) (v : Option ScrubRow) → (k ≡ i → ⊥) → slice_get (set rows i v) k ≡ slice_get rows k
get-set_other [] i k v differs = refl
get-set_other (x ∷ rows) zero zero v differs = absurd (differs refl)
get-set_other (x ∷ rows) zero (suc k) v differs = refl
get-set_other (x ∷ rows) (suc i) zero v differs = refl
get-set_other (x ∷ rows) (suc i) (suc k) v differs = get-set_other rows i k v (λ same. differs (ap suc same))

get-set : (rows : List (Option ScrubRow)) (i : ℕ) (v : Option ScrubRow) → i < length rows → slice_get (set rows i v) i ≡ Some v
get-set [] i v within = absurd (omega (arith, within))
get-set (x ∷ rows) zero v within = refl
get-set (x ∷ rows) (suc i) v within = get-set rows i v (omega (arith, within))

pub in_slot-set : (rows : List (Option ScrubRow)) (slot : ℕ) (v : Option ScrubRow) → slot < length rows → in_slot (set rows slot v) slot ≡ v
in_slot-set rows slot v within = ap or_empty (get-set rows slot v within)

abbrev pub Elsewhere : ℕ → List Turn → Type 0
Elsewhere slot ts = AllByRecursion (λ (t : Turn). t.slot ≡ slot → ⊥) ts

in_slot-other : (rows : List (Option ScrubRow)) (slot k : ℕ) (v : Option ScrubRow) → (k ≡ slot → ⊥) → in_slot (set rows slot v) k ≡ in_slot rows k
in_slot-other rows slot k v differs = ap or_empty (get-set_other rows slot k v differs)

pub gathered-set : (rows : List (Option ScrubRow)) (ts : List Turn) (slot : ℕ) (v : Option ScrubRow) → Elsewhere slot ts → gathered (set rows slot v) ts ≡ gathered rows ts
gathered-set rows [] slot v other = refl
gathered-set rows (t ∷ ts) slot v other =
    ap (λ r. added t r (gathered (set rows slot v) ts)) (in_slot-other rows slot t.slot v other.0) ∙ ap (λ hs. added t (in_slot rows t.slot) hs) (gathered-set rows ts slot v other.1)

pub tied-set : (rows : List (Option ScrubRow)) (ts : List Turn) (slot : ℕ) (v : Option ScrubRow) → Elsewhere slot ts → AreTied rows ts → AreTied (set rows slot v) ts
tied-set rows ts slot v other tied =
    each_both (λ (t : Turn). t.slot ≡ slot → ⊥) (IsTied rows) (IsTied (set rows slot v))
    (λ t differs tie. record { row = tie.row; is = in_slot-other rows slot t.slot v differs ∙ tie.is; prefix = tie.prefix }) ts other tied

not_both : (a b : ℕ) → a ≡ b → a == b ≡ false → ⊥
not_both a b same is = grind arith

-- a slot that no row stands in is no turn's
pub elsewhere : (rows : List (Option ScrubRow)) (ts : List Turn) (slot : ℕ) → AreTied rows ts → scrub_in slot (gathered rows ts) ≡ None → Elsewhere slot ts
elsewhere rows [] slot tied none = tt
elsewhere rows (t ∷ ts) slot tied none =
    elim (t.slot == slot) as (λ v. t.slot == slot ≡ v → cond v (Some (scrub_of t tied.0.row)) (scrub_in slot (gathered rows ts)) ≡ None → Elsewhere slot (t ∷ ts)) [
      | true ↦ λ is none. absurd (cc)
      | false ↦ λ is none. (λ same. not_both t.slot slot same is, elsewhere rows ts slot tied.1 none)
    ] refl (sym (ap (scrub_in slot) (one_tied rows t ts tied.0)) ∙ none)

-- ---- what the rows of turns say

pub places_same : (rows : List (Option ScrubRow)) (ts : List Turn) (place : ℕ) → AreTied rows ts
    → prefix_len (λ (t : Turn). nat_le t.place place) ts ≡ prefix_len (λ (other : PlacedScrub). nat_le other.place place) (gathered rows ts)
places_same rows [] place tied = refl
places_same rows (t ∷ ts) place tied =
    ap (λ (n : ℕ). cond (nat_le t.place place) (1 + n) 0) (places_same rows ts place tied.1)
    ∙ sym (ap (prefix_len (λ (other : PlacedScrub). nat_le other.place place)) (one_tied rows t ts tied.0))

pub scrub_here : (rows : List (Option ScrubRow)) (ts : List Turn) (slot : ℕ) → AreTied rows ts → IsSome (scrub_in slot (gathered rows ts))
    → option_map row_of_scrub (scrub_in slot (gathered rows ts)) ≡ in_slot rows slot
scrub_here rows [] slot tied there = absurd (search rules)
scrub_here rows (t ∷ ts) slot tied there =
    let same = one_tied rows t ts tied.0 in
    ap (λ hs. option_map row_of_scrub (scrub_in slot hs)) same
    ∙ (elim (t.slot == slot) as (λ v. t.slot == slot ≡ v → IsSome (cond v (Some (scrub_of t tied.0.row)) (scrub_in slot (gathered rows ts)))
    → option_map row_of_scrub (cond v (Some (scrub_of t tied.0.row)) (scrub_in slot (gathered rows ts))) ≡ in_slot rows slot) [
      | true ↦ λ is there. sym tied.0.is ∙ ap (in_slot rows) (eqb-true _ _ is)
      | false ↦ λ is there. scrub_here rows ts slot tied.1 there
    ] refl (subst (λ hs. IsSome (scrub_in slot hs)) same there))

-- each row of a turn is the one in its slot
pub record IsStored (rows : List (Option ScrubRow)) (scrub : PlacedScrub) : Type 0 where
  pub is : in_slot rows scrub.slot ≡ Some scrub.row
  pub prefix : IsPrefix scrub.row.prefix

pub are_stored : (rows : List (Option ScrubRow)) (ts : List Turn) → AreTied rows ts → AllByRecursion (IsStored rows) (gathered rows ts)
are_stored rows [] tied = tt
are_stored rows (t ∷ ts) tied =
    subst (AllByRecursion (IsStored rows)) (sym (one_tied rows t ts tied.0)) (record { is = tied.0.is; prefix = tied.0.prefix }, are_stored rows ts tied.1)

same_row : (a b : ScrubRow) → Some a ≡ Some b → a ≡ b
same_row a b same = cc

pub default_same : (turns : List Turn) (i : ℕ) (d : Turn) → i < length turns → get_or turns i d ≡ get_or turns i (get_or turns i d)
default_same [] i d within = absurd (omega (arith, within))
default_same (t ∷ turns) zero d within = refl
default_same (t ∷ turns) (suc i) d within = default_same turns i d (omega (arith, within))

pub turn_read : (rows : List (Option ScrubRow)) (ts : List Turn) (i : ℕ) (t : Turn) (row : ScrubRow) → AreTied rows ts → i < length ts → t ≡ get_or ts i t → in_slot rows t.slot ≡ Some row
    → get_or (gathered rows ts) i (scrub_of t row) ≡ scrub_of t row
turn_read rows [] i t row tied within is has = absurd (omega (arith, within))
turn_read rows (y ∷ ts) zero t row tied within is has =
    ap (λ hs. get_or hs zero (scrub_of t row)) (one_tied rows y ts tied.0)
    ∙ ap (λ (k : Turn). scrub_of k tied.0.row) (sym is)
    ∙ ap (scrub_of t) (same_row tied.0.row row (sym tied.0.is ∙ ap (λ (k : Turn). in_slot rows k.slot) (sym is) ∙ has))
turn_read rows (y ∷ ts) (suc i) t row tied within is has =
    ap (λ hs. get_or hs (suc i) (scrub_of t row)) (one_tied rows y ts tied.0) ∙ turn_read rows ts i t row tied.1 (omega (arith, within)) is has

-- ---- what a slot with a row comes to

pub slot_there : (rows : List (Option ScrubRow)) (slot : ℕ) (row : ScrubRow) → in_slot rows slot ≡ Some row → slot < length rows
slot_there [] slot row is = absurd (cc)
slot_there (x ∷ rows) zero row is = omega arith
slot_there (x ∷ rows) (suc slot) row is = omega (arith, slot_there rows slot row is)

-- ---- rows written in the slots of some ranks

pub length-woken : (domain : ℕ) (cuid : List ℕ) (mid : ℕ) (active : Bool) (ranks : List Rank) (rows : List (Option ScrubRow)) → length (woken_in domain cuid mid active ranks rows) ≡ length rows
length-woken domain cuid mid active [] rows = refl
length-woken domain cuid mid active (r ∷ ranks) rows =
    length-woken domain cuid mid active ranks (woken_at domain cuid mid active r.slot rows) ∙ length-set rows r.slot (option_map (row_woken domain cuid mid active) (in_slot rows r.slot))

woken_here : (domain : ℕ) (cuid : List ℕ) (mid : ℕ) (active : Bool) (slot : ℕ) (rows : List (Option ScrubRow)) (row : ScrubRow) → in_slot rows slot ≡ Some row
    → in_slot (woken_at domain cuid mid active slot rows) slot ≡ Some (row_woken domain cuid mid active row)
woken_here domain cuid mid active slot rows row is =
    in_slot-set rows slot (option_map (row_woken domain cuid mid active) (in_slot rows slot)) (slot_there rows slot row is) ∙ ap (option_map (row_woken domain cuid mid active)) is

woken_elsewhere : (domain : ℕ) (cuid : List ℕ) (mid : ℕ) (active : Bool) (slot k : ℕ) (rows : List (Option ScrubRow)) → k == slot ≡ false
    → in_slot (woken_at domain cuid mid active slot rows) k ≡ in_slot rows k
woken_elsewhere domain cuid mid active slot k rows differs = in_slot-other rows slot k (option_map (row_woken domain cuid mid active) (in_slot rows slot)) (λ same. not_both k slot same differs)

-- a row that is as it is to be stays as it is
settled : (domain : ℕ) (cuid : List ℕ) (mid : ℕ) (active : Bool) (ranks : List Rank) (rows : List (Option ScrubRow)) (k : ℕ) (row : ScrubRow) → in_slot rows k ≡ Some row
    → row_woken domain cuid mid active row ≡ row → in_slot (woken_in domain cuid mid active ranks rows) k ≡ Some row
settled domain cuid mid active [] rows k row is same = is
settled domain cuid mid active (r ∷ ranks) rows k row is same =
    let next : in_slot (woken_at domain cuid mid active r.slot rows) k ≡ Some row =
    elim (k == r.slot) as (λ v. k == r.slot ≡ v → in_slot (woken_at domain cuid mid active r.slot rows) k ≡ Some row) [
      | true ↦ λ here. let at : k ≡ r.slot = eqb-true _ _ here in
          subst (λ (n : ℕ). in_slot (woken_at domain cuid mid active n rows) k ≡ Some row) at (woken_here domain cuid mid active k rows row is ∙ ap Some same)
      | false ↦ λ differs. woken_elsewhere domain cuid mid active r.slot k rows differs ∙ is
    ] refl in
    settled domain cuid mid active ranks (woken_at domain cuid mid active r.slot rows) k row next same

twice_by : (v active : Bool) (row : ScrubRow) → cond v (row_set active (cond v (row_set active row) row)) (cond v (row_set active row) row) ≡ cond v (row_set active row) row
twice_by true active row = refl
twice_by false active row = refl

same_client : (domain : ℕ) (cuid : List ℕ) (mid : ℕ) (v active : Bool) (row : ScrubRow) → row_is_of domain cuid mid (cond v (row_set active row) row) ≡ row_is_of domain cuid mid row
same_client domain cuid mid true active row = refl
same_client domain cuid mid false active row = refl

woken_twice : (domain : ℕ) (cuid : List ℕ) (mid : ℕ) (active : Bool) (row : ScrubRow) → row_woken domain cuid mid active (row_woken domain cuid mid active row) ≡ row_woken domain cuid mid active row
woken_twice domain cuid mid active row =
    ap (λ (v : Bool). cond v (row_set active (row_woken domain cuid mid active row)) (row_woken domain cuid mid active row)) (same_client domain cuid mid (row_is_of domain cuid mid row) active row)
    ∙ twice_by (row_is_of domain cuid mid row) active row

-- a row in the slot of one of the ranks is as it is to be
woken_there : (domain : ℕ) (cuid : List ℕ) (mid : ℕ) (active : Bool) (ranks : List Rank) (rows : List (Option ScrubRow)) (k : ℕ) (row : ScrubRow) → in_slot rows k ≡ Some row
    → (AllByRecursion (λ (r : Rank). k == r.slot ≡ false) ranks → ⊥) → in_slot (woken_in domain cuid mid active ranks rows) k ≡ Some (row_woken domain cuid mid active row)
woken_there domain cuid mid active [] rows k row is some = absurd (some tt)
woken_there domain cuid mid active (r ∷ ranks) rows k row is some =
    elim (k == r.slot) as (λ v. k == r.slot ≡ v → in_slot (woken_in domain cuid mid active ranks (woken_at domain cuid mid active r.slot rows)) k ≡ Some (row_woken domain cuid mid active row)) [
      | true ↦ λ here. let at : k ≡ r.slot = eqb-true _ _ here in
          settled domain cuid mid active ranks (woken_at domain cuid mid active r.slot rows) k (row_woken domain cuid mid active row)
          (subst (λ (n : ℕ). in_slot (woken_at domain cuid mid active n rows) k ≡ Some (row_woken domain cuid mid active row)) at (woken_here domain cuid mid active k rows row is))
          (woken_twice domain cuid mid active row)
      | false ↦ λ differs.
          woken_there domain cuid mid active ranks (woken_at domain cuid mid active r.slot rows) k row (woken_elsewhere domain cuid mid active r.slot k rows differs ∙ is) (λ all. some (differs, all))
    ] refl

-- each row of the mitigation is in the slot of one of the ranks
abbrev pub Reaches : ℕ → List ℕ → ℕ → List Rank → PlacedScrub → Type 0
Reaches domain cuid mid ranks scrub = is_of domain cuid mid scrub ≡ true → AllByRecursion (λ (r : Rank). scrub.slot == r.slot ≡ false) ranks → ⊥

woken_or_same : (domain : ℕ) (cuid : List ℕ) (mid : ℕ) (active : Bool) (ranks : List Rank) (rows : List (Option ScrubRow)) (t : Turn) (tie : IsTied rows t)
    → Reaches domain cuid mid ranks (scrub_of t tie.row) → in_slot (woken_in domain cuid mid active ranks rows) t.slot ≡ Some (row_woken domain cuid mid active tie.row)
woken_or_same domain cuid mid active ranks rows t tie reaches =
    elim (row_is_of domain cuid mid tie.row) as (λ v. row_is_of domain cuid mid tie.row ≡ v → in_slot (woken_in domain cuid mid active ranks rows) t.slot ≡ Some (row_woken domain cuid mid active tie.row)) [
      | true ↦ λ is. woken_there domain cuid mid active ranks rows t.slot tie.row tie.is (reaches is)
      | false ↦ λ not_one.
          let same : row_woken domain cuid mid active tie.row ≡ tie.row = rw not_one refl in
          settled domain cuid mid active ranks rows t.slot tie.row tie.is same ∙ ap Some (sym same)
    ] refl

woken_is : (domain : ℕ) (cuid : List ℕ) (mid : ℕ) (active : Bool) (t : Turn) (row : ScrubRow)
    → scrub_of t (row_woken domain cuid mid active row) ≡ woken domain cuid mid active (scrub_of t row)
woken_is domain cuid mid active t row =
    elim (row_is_of domain cuid mid row) as (λ v. scrub_of t (cond v (row_set active row) row) ≡ cond v (scrub_set active (scrub_of t row)) (scrub_of t row)) [ true ↦ refl | false ↦ refl ]

pub gathered-woken : (domain : ℕ) (cuid : List ℕ) (mid : ℕ) (active : Bool) (ranks : List Rank) (rows : List (Option ScrubRow)) (ts : List Turn) → AreTied rows ts
    → AllByRecursion (Reaches domain cuid mid ranks) (gathered rows ts)
    → gathered (woken_in domain cuid mid active ranks rows) ts ≡ map (woken domain cuid mid active) (gathered rows ts)
gathered-woken domain cuid mid active ranks rows [] tied reach = refl
gathered-woken domain cuid mid active ranks rows (t ∷ ts) tied reach =
    let all : AllByRecursion (Reaches domain cuid mid ranks) (scrub_of t tied.0.row ∷ gathered rows ts) = subst (AllByRecursion (Reaches domain cuid mid ranks)) (one_tied rows t ts tied.0) reach in
    ap (λ r. added t r (gathered (woken_in domain cuid mid active ranks rows) ts)) (woken_or_same domain cuid mid active ranks rows t tied.0 all.0)
    ∙ ap (λ (h : PlacedScrub). h ∷ gathered (woken_in domain cuid mid active ranks rows) ts) (woken_is domain cuid mid active t tied.0.row)
    ∙ ap (λ hs. woken domain cuid mid active (scrub_of t tied.0.row) ∷ hs) (gathered-woken domain cuid mid active ranks rows ts tied.1 all.1)
    ∙ sym (ap (map (woken domain cuid mid active)) (one_tied rows t ts tied.0))

woken_prefix : (domain : ℕ) (cuid : List ℕ) (mid : ℕ) (active : Bool) (row : ScrubRow) → IsPrefix row.prefix → IsPrefix (row_woken domain cuid mid active row).prefix
woken_prefix domain cuid mid active row whole = elim (row_is_of domain cuid mid row) as (λ v. IsPrefix (cond v (row_set active row) row).prefix) [ true ↦ whole | false ↦ whole ]

pub tied-woken : (domain : ℕ) (cuid : List ℕ) (mid : ℕ) (active : Bool) (ranks : List Rank) (rows : List (Option ScrubRow)) (ts : List Turn) → AreTied rows ts
    → AllByRecursion (Reaches domain cuid mid ranks) (gathered rows ts) → AreTied (woken_in domain cuid mid active ranks rows) ts
tied-woken domain cuid mid active ranks rows [] tied reach = tt
tied-woken domain cuid mid active ranks rows (t ∷ ts) tied reach =
    let all : AllByRecursion (Reaches domain cuid mid ranks) (scrub_of t tied.0.row ∷ gathered rows ts) = subst (AllByRecursion (Reaches domain cuid mid ranks)) (one_tied rows t ts tied.0) reach in (
      record {
        row = row_woken domain cuid mid active tied.0.row;
        is = woken_or_same domain cuid mid active ranks rows t tied.0 all.0;
        prefix = woken_prefix domain cuid mid active tied.0.row tied.0.prefix;
      },
      tied-woken domain cuid mid active ranks rows ts tied.1 all.1,
    )

-- ---- places anew

gathered_from : (rows : List (Option ScrubRow)) (last number : ℕ) (ts : List Turn) → AreTied rows ts
    → gathered rows (renumbered_from place_of_turn turn_at_place last number ts) ≡ renumbered_from place_of_scrub scrub_at_place last number (gathered rows ts)
gathered_from rows last number [] tied = refl
gathered_from rows last number (t ∷ ts) tied =
    let n = number_after last number t.place in
    ap (λ r. added (turn_at_place (number_after last number t.place) t) r (gathered rows (renumbered_from place_of_turn turn_at_place t.place (number_after last number t.place) ts))) tied.0.is
    ∙ ap (λ hs. scrub_of (turn_at_place (number_after last number t.place) t) tied.0.row ∷ hs) (gathered_from rows t.place (number_after last number t.place) ts tied.1)
    ∙ sym (ap (renumbered_from place_of_scrub scrub_at_place last number) (one_tied rows t ts tied.0))

pub gathered-renumbered : (rows : List (Option ScrubRow)) (ts : List Turn) → AreTied rows ts
    → gathered rows (renumbered place_of_turn turn_at_place ts) ≡ renumbered place_of_scrub scrub_at_place (gathered rows ts)
gathered-renumbered rows [] tied = refl
gathered-renumbered rows (t ∷ ts) tied =
    gathered_from rows t.place 0 (t ∷ ts) tied
    ∙ ap (renumbered_from place_of_scrub scrub_at_place t.place 0) (one_tied rows t ts tied.0)
    ∙ sym (ap (renumbered place_of_scrub scrub_at_place) (one_tied rows t ts tied.0))

tied_from : (rows : List (Option ScrubRow)) (last number : ℕ) (ts : List Turn) → AreTied rows ts → AreTied rows (renumbered_from place_of_turn turn_at_place last number ts)
tied_from rows last number [] tied = tt
tied_from rows last number (t ∷ ts) tied =
    (record { row = tied.0.row; is = tied.0.is; prefix = tied.0.prefix }, tied_from rows t.place (number_after last number t.place) ts tied.1)

pub tied-renumbered : (rows : List (Option ScrubRow)) (ts : List Turn) → AreTied rows ts → AreTied rows (renumbered place_of_turn turn_at_place ts)
tied-renumbered rows [] tied = tt
tied-renumbered rows (t ∷ ts) tied = tied_from rows t.place 0 (t ∷ ts) tied

pub some_mapped : (o : Option PlacedScrub) → IsSome o → option_map row_of_scrub o ≡ None → ⊥
some_mapped None there is = absurd (search rules)
some_mapped (Some x) there is = absurd (cc)
