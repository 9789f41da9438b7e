-- The first rule of a script that matches a packet decides as the table does.
use Rattle.std.proofs.Common.{◌≡◌, ℕ, ◌+◌, ◌≤◌, Bool, true, false, cond, ◌&&◌, if◌then◌else◌, nat_le, max, List, [], ◌∷◌, ◌++◌, map, zero, suc, refl, sym, ap, ◌∙◌, arith, one-add, append_assoc, Option, Some, None}
use Rattle.std.specs.Prelude.{find, filter}
use Rattle.std.specs.List.{insert, prefix_len, AllByRecursion}
use Rattle.ip_scope.specs.Prefix.{PrefixValue}
use Rattle.acl_lists.specs.declared.ace.Ace.{Ace}
use Rattle.acl_lists.specs.declared.packet.Packet.{Packet}
use Rattle.acl_lists.specs.Matching.{ace_matches}
use Rattle.acl_lists.specs.declared.rows.AclRow.{AclRow}
use Rattle.acl_lists.specs.declared.rows.ScrubRow.{ScrubRow}
use Rattle.acl_lists.specs.RowMatching.{is_scrubbed}
use Rattle.acl_lists.specs.Fates.{Fate, Pass, Accepted, Dropped, Scrubbed, or_else, decision_by, decision, decision_of_row, decision_of_rows, scrubs, greatest_from, greatest, scrubbing_mid, fate_by, fate_by_rows}
use Rattle.nft_script.specs.declared.timed.TimedRow.{TimedRow}
use Rattle.nft_script.specs.declared.timed.TimedList.{TimedList}
use Rattle.nft_script.specs.Falling.{with_row, taken, falling_from, falling}
use Rattle.nft_script.specs.Rules.{Rule, ace_rule, list_rules, lists_rules, row_rule, rules_of, fate_by_rules, rows_in, lists_in}

-- ---- lists

abbrev or_fate : Option Fate → Fate → Fate
or_fate (Some fate) other = fate
or_fate None other = other

-- what is decided, or what the rest says
rest_of : (decided : Option Fate) (mid : Option ℕ) → fate_by decided mid ≡ or_fate decided (fate_by None mid)
rest_of None mid = refl
rest_of (Some fate) mid = refl

or_twice : (first second : Option Fate) (other : Fate) → or_fate first (or_fate second other) ≡ or_fate (or_else first second) other
or_twice None second other = refl
or_twice (Some fate) second other = refl

module _ (prefixes : ℕ → List PrefixValue) (packet : Packet) where
  entries_first : (row : AclRow) (aces : List Ace) (rest : List Rule)
      → fate_by_rules (map (ace_rule prefixes row) aces ++ rest) packet
      ≡ or_fate (decision_by row.acl (find (λ ace. ace_matches row.acl ace (prefixes row.domain) packet) aces)) (fate_by_rules rest packet)
  entries_first row [] rest = refl
  entries_first row (ace ∷ aces) rest =
      elim (ace_matches row.acl ace (prefixes row.domain) packet) as (λ v.
      (if v then (if ace.accept then Accepted row.acl.name else Dropped row.acl.name) else fate_by_rules (map (ace_rule prefixes row) aces ++ rest) packet)
      ≡ or_fate (decision_by row.acl (cond v (Some ace) (find (λ ace. ace_matches row.acl ace (prefixes row.domain) packet) aces))) (fate_by_rules rest packet)) [
        | true ↦ refl
        | false ↦ entries_first row aces rest
      ]

  list_first : (row : AclRow) (active : Bool) (rest : List Rule)
      → fate_by_rules ((if active then map (ace_rule prefixes row) row.acl.aces else []) ++ rest) packet
      ≡ or_fate (if active then decision (prefixes row.domain) packet row.acl else None) (fate_by_rules rest packet)
  list_first row true rest = entries_first row row.acl.aces rest
  list_first row false rest = refl

  lists_first : (lists : List TimedList) (rest : List Rule)
      → fate_by_rules (lists_rules prefixes lists ++ rest) packet ≡ or_fate (decision_of_rows prefixes packet (lists_in lists)) (fate_by_rules rest packet)
  lists_first [] rest = refl
  lists_first (timed ∷ lists) rest =
      ap (λ rules. fate_by_rules rules packet) (append_assoc (list_rules prefixes timed.list.now) (lists_rules prefixes lists) rest)
      ∙ list_first timed.list.now timed.list.now.active (lists_rules prefixes lists ++ rest)
      ∙ ap (or_fate (decision_of_row prefixes packet timed.list.now)) (lists_first lists rest)
      ∙ or_twice (decision_of_row prefixes packet timed.list.now) (decision_of_rows prefixes packet (lists_in lists)) (fate_by_rules rest packet)

-- ---- the greatest of some

abbrev greater_of : Option ℕ → Option ℕ → Option ℕ
greater_of None other = other
greater_of (Some x) None = Some x
greater_of (Some x) (Some y) = Some (max x y)

greater_assoc : (a b c : Option ℕ) → greater_of (greater_of a b) c ≡ greater_of a (greater_of b c)
greater_assoc None b c = refl
greater_assoc (Some a) None c = refl
greater_assoc (Some a) (Some b) None = refl
greater_assoc (Some a) (Some b) (Some c) = ap Some (omega arith)

greater_swap : (a b : Option ℕ) → greater_of a b ≡ greater_of b a
greater_swap None None = refl
greater_swap None (Some b) = refl
greater_swap (Some a) None = refl
greater_swap (Some a) (Some b) = ap Some (omega arith)

greatest_more : (x : ℕ) (found : Option ℕ) → Some (greatest_from x found) ≡ greater_of (Some x) found
greatest_more x None = refl
greatest_more x (Some y) = refl

-- ---- rows

each_insert : {A : Type 0} → (P : A → Type 0) (xs : List A) (at : ℕ) (x : A) → P x → AllByRecursion P xs → AllByRecursion P (insert xs at x)
each_insert P [] zero x new all = (new, tt)
each_insert P [] (suc at) x new all = (new, tt)
each_insert P (y ∷ xs) zero x new all = (new, all)
each_insert P (y ∷ xs) (suc at) x new all = (all.0, each_insert P xs at x new all.1)

each_weaker : {A : Type 0} → (P Q : A → Type 0) → ((x : A) → P x → Q x) → (xs : List A) → AllByRecursion P xs → AllByRecursion Q xs
each_weaker P Q step [] all = all
each_weaker P Q step (x ∷ xs) all = (step x all.0, each_weaker P Q step xs all.1)

le_of : (a b : ℕ) → nat_le a b ≡ true → a ≤ b
le_of a b is = grind arith

ge_of : (a b : ℕ) → nat_le a b ≡ false → b ≤ a
ge_of a b is = grind arith

-- rows that filter, by falling mid
abbrev Stand : List TimedRow → Type 0
Stand [] = Unit {0}
Stand (timed ∷ rows) = (timed.row.now.active ≡ true) × AllByRecursion (λ (other : TimedRow). other.row.now.mid ≤ timed.row.now.mid) rows × Stand rows

stand_with : (timed : TimedRow) (rows : List TimedRow) → timed.row.now.active ≡ true → Stand rows → Stand (with_row timed rows)
stand_with timed [] active stand = (active, tt, tt)
stand_with timed (other ∷ rows) active stand =
    elim (nat_le timed.row.now.mid other.row.now.mid) as (λ v. nat_le timed.row.now.mid other.row.now.mid ≡ v
    → Stand (insert (other ∷ rows) (cond v (1 + prefix_len (λ (other : TimedRow). nat_le timed.row.now.mid other.row.now.mid) rows) 0) timed)) [
      | true ↦ λ is. rw one-add (
        stand.0,
        each_insert (λ (later : TimedRow). later.row.now.mid ≤ other.row.now.mid) rows (prefix_len (λ (other : TimedRow). nat_le timed.row.now.mid other.row.now.mid) rows) timed (le_of _ _ is) stand.1,
        stand_with timed rows active stand.2,
      )
      | false ↦ λ is.
          let less : other.row.now.mid ≤ timed.row.now.mid = ge_of _ _ is in (
            active,
            (
              less,
              each_weaker (λ (later : TimedRow). later.row.now.mid ≤ other.row.now.mid) (λ (later : TimedRow). later.row.now.mid ≤ timed.row.now.mid)
                  (λ later under. omega (arith, less, under)) rows stand.1,
            ),
            stand,
          )
    ] refl

stand_taken : (timed : TimedRow) (rows : List TimedRow) → Stand rows → Stand (taken timed rows)
stand_taken timed rows stand =
    elim timed.row.now.active as (λ v. timed.row.now.active ≡ v → Stand (if v then with_row timed rows else rows)) [
      | true ↦ λ is. stand_with timed rows is stand
      | false ↦ λ is. stand
    ] refl

stand_from : (before rows : List TimedRow) → Stand before → Stand (falling_from before rows)
stand_from before [] stand = stand
stand_from before (timed ∷ rows) stand = stand_from (taken timed before) rows (stand_taken timed before stand)

module _ (packet : Packet) where
  -- the mid of a row that scrubs the packet
  abbrev mid_by : Bool → ScrubRow → Option ℕ
  mid_by scrubbing row = if scrubbing then Some row.mid else None

  abbrev mid_of : TimedRow → Option ℕ
  mid_of timed = mid_by (scrubs packet timed.row.now) timed.row.now

  -- the greatest of the rows
  abbrev best : List TimedRow → Option ℕ
  best rows = scrubbing_mid packet (rows_in rows)

  best_more : (timed : TimedRow) (rows : List TimedRow) → best (timed ∷ rows) ≡ greater_of (mid_of timed) (best rows)
  best_more timed rows =
      elim (scrubs packet timed.row.now) as (λ v.
      greatest (map (λ (row : ScrubRow). row.mid) (cond v (timed.row.now ∷ filter (scrubs packet) (rows_in rows)) (filter (scrubs packet) (rows_in rows))))
      ≡ greater_of (mid_by v timed.row.now) (best rows)) [
        | true ↦ greatest_more timed.row.now.mid (best rows)
        | false ↦ refl
      ]

  -- one more, wherever it is put
  best_insert : (timed : TimedRow) (rows : List TimedRow) (at : ℕ) → best (insert rows at timed) ≡ greater_of (mid_of timed) (best rows)
  best_insert timed [] zero = best_more timed []
  best_insert timed [] (suc at) = best_more timed []
  best_insert timed (other ∷ rows) zero = best_more timed (other ∷ rows)
  best_insert timed (other ∷ rows) (suc at) =
      best_more other (insert rows at timed)
      ∙ ap (greater_of (mid_of other)) (best_insert timed rows at)
      ∙ sym (greater_assoc (mid_of other) (mid_of timed) (best rows))
      ∙ ap (λ both. greater_of both (best rows)) (greater_swap (mid_of other) (mid_of timed))
      ∙ greater_assoc (mid_of timed) (mid_of other) (best rows)
      ∙ ap (greater_of (mid_of timed)) (sym (best_more other rows))

  abbrev hit : TimedRow → Bool
  hit timed = is_scrubbed timed.row.now.prefix timed.row.now.protocols timed.row.now.ports packet

  best_taken : (timed : TimedRow) (rows : List TimedRow) → best (taken timed rows) ≡ greater_of (mid_of timed) (best rows)
  best_taken timed rows =
      elim timed.row.now.active as (λ v. timed.row.now.active ≡ v → best (if v then with_row timed rows else rows) ≡ greater_of (mid_of timed) (best rows)) [
        | true ↦ λ is. best_insert timed rows _
        | false ↦ λ is. sym (ap (λ active. greater_of (mid_by (active && hit timed) timed.row.now) (best rows)) is)
      ] refl

  best_from : (before rows : List TimedRow) → best (falling_from before rows) ≡ greater_of (best before) (best rows)
  best_from before [] = sym (greater_swap (best before) None)
  best_from before (timed ∷ rows) =
      best_from (taken timed before) rows
      ∙ ap (λ found. greater_of found (best rows)) (best_taken timed before ∙ greater_swap (mid_of timed) (best before))
      ∙ greater_assoc (best before) (mid_of timed) (best rows)
      ∙ ap (greater_of (best before)) (sym (best_more timed rows))

  not_more : (most : ℕ) (scrubbing : Bool) (row : ScrubRow) → row.mid ≤ most → greater_of (Some most) (mid_by scrubbing row) ≡ Some most
  not_more most true row within = ap Some (omega (arith, within))
  not_more most false row within = refl

  bounded : (most : ℕ) (rows : List TimedRow) → AllByRecursion (λ (other : TimedRow). other.row.now.mid ≤ most) rows → greater_of (Some most) (best rows) ≡ Some most
  bounded most [] within = refl
  bounded most (other ∷ rows) within =
      ap (greater_of (Some most)) (best_more other rows)
      ∙ sym (greater_assoc (Some most) (mid_of other) (best rows))
      ∙ ap (λ found. greater_of found (best rows)) (not_more most (scrubs packet other.row.now) other.row.now within.0)
      ∙ bounded most rows within.1

  best_active : (timed : TimedRow) (rows : List TimedRow) (v : Bool) → timed.row.now.active ≡ true → hit timed ≡ v
      → best (timed ∷ rows) ≡ greater_of (mid_by v timed.row.now) (best rows)
  best_active timed rows v active is =
      best_more timed rows
      ∙ ap (λ active. greater_of (mid_by (active && hit timed) timed.row.now) (best rows)) active
      ∙ ap (λ v. greater_of (mid_by v timed.row.now) (best rows)) is

  -- the first that matches, of active rows by falling mid
  first_is_best : (rows : List TimedRow) → Stand rows → fate_by_rules (map row_rule rows) packet ≡ fate_by None (best rows)
  first_is_best [] stand = refl
  first_is_best (timed ∷ rows) stand =
      elim (hit timed) as (λ v. hit timed ≡ v → (if v then Scrubbed timed.row.now.mid else fate_by_rules (map row_rule rows) packet) ≡ fate_by None (best (timed ∷ rows))) [
        | true ↦ λ is. sym (ap (fate_by None) (best_active timed rows true stand.0 is ∙ bounded timed.row.now.mid rows stand.1))
        | false ↦ λ is. first_is_best rows stand.2 ∙ sym (ap (fate_by None) (best_active timed rows false stand.0 is))
      ] refl

pub decides : (prefixes : ℕ → List PrefixValue) (rows : List TimedRow) (lists : List TimedList) (packet : Packet)
    → fate_by_rules (rules_of prefixes rows lists) packet ≡ fate_by_rows prefixes (rows_in rows) (lists_in lists) packet
decides prefixes rows lists packet =
    let decided = decision_of_rows prefixes packet (lists_in lists) in
    lists_first prefixes packet lists (map row_rule (falling rows))
    ∙ ap (or_fate decided) (first_is_best packet (falling rows) (stand_from [] rows tt) ∙ ap (fate_by None) (best_from packet [] rows))
    ∙ sym (rest_of decided (best packet rows))
