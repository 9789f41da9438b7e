-- The live mitigation of a domain whose entry stands in a slot.
use Rattle.std.proofs.Common.{◌≡◌, ℕ, ◌+◌, ◌<◌, ◌≤◌, suc, Bool, true, false, cond, not, ◌||◌, List, [], ◌∷◌, ◌++◌, map, length, Option, Some, None, refl, sym, ap, subst, ◌∙◌, arith}
use Rattle.std.specs.Prelude.{◌==◌, nat_lt, slice_get, option_map, option_to_list}
use Rattle.std.specs.List.{list_any, position, position_or_len}
use Rattle.std.proofs.lemmas.Bool.{cond_both, cond-true, eq-eqb, or_parts, ltb-false}
use Rattle.std.proofs.lemmas.List.Elements.{filter-append}
use Rattle.std.proofs.lemmas.Option.{none-some, same_Some}
use Rattle.dots_history.specs.declared.entry.Entry.{Entry}
use Rattle.dots_history.specs.declared.status.Status.{Status}
use Rattle.dots_history.specs.declared.status.Status.TheVariants.{Open}
use Rattle.dots_history.specs.Histories.{Mitigation, live, status, if_live, mitigations, alone}
use Rattle.dots_history.specs.Filed.{Filed, entry_of}
use Rattle.dots_history.specs.Tables.{bare, bare_mitigation}
use Rattle.live_mitigations.specs.declared.slots.MitigationSlots.{MitigationSlots}
use Rattle.live_mitigations.specs.Slots.{slots_by, live_slots, put_in}
use Rattle.live_mitigations.specs.Rows.{slots_of}
use Rattle.live_mitigations.specs.LiveValues.{LiveValue, Represents, rows_for, filed_alone, SlotsAre}
use Rattle.live_mitigations.proofs.Bared.{bared, bared_entries, are_bared, bare_status, bare_live}
use Rattle.live_mitigations.proofs.Domains.{status_own}
use Rattle.live_mitigations.proofs.SlotsOfRows.{alone_entries}

-- ---- the place of the first that passes

pub place_found : {A : Type 0} (p : A → Bool) (xs : List A) (place : ℕ) → position p xs ≡ Some place → place ≡ position_or_len p xs
place_found p xs place is = by_test (nat_lt (position_or_len p xs) (length xs)) is
  where
    by_test : (b : Bool) → cond b (Some (position_or_len p xs)) None ≡ Some place → place ≡ position_or_len p xs
    by_test true some = sym (same_Some (position_or_len p xs) place some)
    by_test false none = absurd (none-some place none)

one_more : (n : ℕ) → 1 + n ≡ suc n
one_more n = omega arith

place_within : {A : Type 0} (p : A → Bool) (xs : List A) → position_or_len p xs ≤ length xs
place_within p [] = omega arith
place_within p (x ∷ xs) = by_test (p x) (place_within p xs)
  where
    by_test : (b : Bool) → position_or_len p xs ≤ length xs → cond (not b) (1 + position_or_len p xs) 0 ≤ suc (length xs)
    by_test true less = omega arith
    by_test false less = omega (arith, less)

pub none_found : {A : Type 0} (p : A → Bool) (xs : List A) → position p xs ≡ None → length xs ≡ position_or_len p xs
none_found p xs is = by_test (nat_lt (position_or_len p xs) (length xs)) refl is
  where
    by_test : (b : Bool) → nat_lt (position_or_len p xs) (length xs) ≡ b → cond b (Some (position_or_len p xs)) None ≡ None → length xs ≡ position_or_len p xs
    by_test true less some = absurd (none-some (position_or_len p xs) (sym some))
    by_test false out none =
        let past = ltb-false (position_or_len p xs) (length xs) out in
        let within = place_within p xs in
        omega (arith, past, within)

-- ---- by one domain's entries

abbrev rows_by : ℕ → List Filed → List Mitigation
rows_by t filed = mitigations t (map entry_of filed)

abbrev is_in : ℕ → Filed → Bool
is_in slot x = x.slot == slot

-- another's is passed over
past_one : (slot : ℕ) (b : Bool) (m : Mitigation) (s : MitigationSlots) (ms : List Mitigation) (ss : List MitigationSlots) → (s.put == slot) ≡ false
    → put_in slot (option_to_list (cond b (Some m) None) ++ ms) (option_to_list (cond b (Some s) None) ++ ss) ≡ put_in slot ms ss
past_one slot true m s ms ss other =
    ap (λ c. slice_get (m ∷ ms) (cond (not c) (1 + position_or_len (λ (x : MitigationSlots). x.put == slot) ss) 0)) other
    ∙ ap (slice_get (m ∷ ms)) (one_more (position_or_len (λ (x : MitigationSlots). x.put == slot) ss))
past_one slot false m s ms ss other = refl

own_one : (slot : ℕ) (b : Bool) (m : Mitigation) (s : MitigationSlots) (ms : List Mitigation) (ss : List MitigationSlots) → (s.put == slot) ≡ true
    → put_in slot ms ss ≡ None
    → put_in slot (option_to_list (cond b (Some m) None) ++ ms) (option_to_list (cond b (Some s) None) ++ ss) ≡ cond b (Some m) None
own_one slot true m s ms ss own none = ap (λ c. slice_get (m ∷ ms) (cond (not c) (1 + position_or_len (λ (x : MitigationSlots). x.put == slot) ss) 0)) own
own_one slot false m s ms ss own none = none

none_there : (t slot : ℕ) (filed : List Filed) → list_any (is_in slot) filed ≡ false → put_in slot (rows_by t filed) (live_slots t filed) ≡ None
none_there t slot [] out = refl
none_there t slot (x ∷ later) out =
    let parts = or_parts (x.slot == slot) (list_any (is_in slot) later) out in
    let state = status x.entry Open (map entry_of later) in
    past_one slot (live t x.entry state) (record { put = x.entry; status = state }) (slots_by x later) (rows_by t later) (live_slots t later) parts.0
    ∙ none_there t slot later parts.1

behind : (t slot : ℕ) (front filed : List Filed) → list_any (is_in slot) front ≡ false
    → put_in slot (rows_by t (front ++ filed)) (live_slots t (front ++ filed)) ≡ put_in slot (rows_by t filed) (live_slots t filed)
behind t slot [] filed out = refl
behind t slot (x ∷ front) filed out =
    let parts = or_parts (x.slot == slot) (list_any (is_in slot) front) out in
    let state = status x.entry Open (map entry_of (front ++ filed)) in
    past_one slot (live t x.entry state) (record { put = x.entry; status = state }) (slots_by x (front ++ filed)) (rows_by t (front ++ filed)) (live_slots t (front ++ filed)) parts.0
    ∙ behind t slot front filed parts.1

own_found : (t : ℕ) (front : List Filed) (x : Filed) (later : List Filed) → list_any (is_in x.slot) front ≡ false → list_any (is_in x.slot) later ≡ false
    → put_in x.slot (rows_by t (front ++ x ∷ later)) (live_slots t (front ++ x ∷ later)) ≡ if_live t x.entry (status x.entry Open (map entry_of later))
own_found t front x later before after =
    let state = status x.entry Open (map entry_of later) in
    behind t x.slot front (x ∷ later) before
    ∙ own_one x.slot (live t x.entry state) (record { put = x.entry; status = state }) (slots_by x later) (rows_by t later) (live_slots t later) (eq-eqb x.slot x.slot refl)
    (none_there t x.slot later after)

-- ---- among the entries of all domains

none_alone : (domain slot : ℕ) (filed : List Filed) → list_any (is_in slot) filed ≡ false → list_any (is_in slot) (filed_alone domain filed) ≡ false
none_alone domain slot [] out = refl
none_alone domain slot (x ∷ later) out =
    let parts = or_parts (x.slot == slot) (list_any (is_in slot) later) out in
    let go = none_alone domain slot later parts.1 in
    cond_both
    (x.entry.domain == domain)
    (x ∷ filed_alone domain later)
    (filed_alone domain later)
    (λ xs. list_any (is_in slot) xs ≡ false)
    (λ own. ap (λ b. b || list_any (is_in slot) (filed_alone domain later)) parts.0 ∙ go)
    (λ other. go)

found_alone : (t : ℕ) (front : List Filed) (x : Filed) (later : List Filed) → list_any (is_in x.slot) front ≡ false → list_any (is_in x.slot) later ≡ false
    → put_in x.slot (rows_by t (filed_alone x.entry.domain (front ++ x ∷ later))) (live_slots t (filed_alone x.entry.domain (front ++ x ∷ later)))
    ≡ if_live t x.entry (status x.entry Open (map entry_of later))
found_alone t front x later before after =
    let domain = x.entry.domain in
    let own : (domain == domain) ≡ true = eq-eqb domain domain refl in
    ap (λ fs. put_in x.slot (rows_by t fs) (live_slots t fs))
    (filter-append (λ (y : Filed). y.entry.domain == domain) front (x ∷ later)
    ∙ ap (λ fs. filed_alone domain front ++ fs) (cond-true (domain == domain) (x ∷ filed_alone domain later) (filed_alone domain later) own))
    ∙ own_found t (filed_alone domain front) x (filed_alone domain later) (none_alone domain x.slot front before) (none_alone domain x.slot later after)
    ∙ ap (if_live t x.entry) (status_own domain x.entry Open later own)

-- ---- as they are kept, without message and reply

none_bared : (slot : ℕ) (filed : List Filed) → list_any (is_in slot) filed ≡ false → list_any (is_in slot) (map bared filed) ≡ false
none_bared slot [] out = refl
none_bared slot (x ∷ later) out =
    let parts = or_parts (x.slot == slot) (list_any (is_in slot) later) out in
    ap (λ b. b || list_any (is_in slot) (map bared later)) parts.0 ∙ none_bared slot later parts.1

bared_append : (front : List Filed) (x : Filed) (later : List Filed) → map bared (front ++ x ∷ later) ≡ map bared front ++ bared x ∷ map bared later
bared_append [] x later = refl
bared_append (y ∷ front) x later = ap (λ fs. bared y ∷ fs) (bared_append front x later)

bare_if : (t : ℕ) (e : Entry) (later : List Filed)
    → if_live t (bare e) (status (bare e) Open (map entry_of (map bared later))) ≡ option_map bare_mitigation (if_live t e (status e Open (map entry_of later)))
bare_if t e later =
    let state = status e Open (map entry_of later) in
    ap (λ es. if_live t (bare e) (status (bare e) Open es)) (bared_entries later)
    ∙ ap (if_live t (bare e)) (bare_status e Open (map entry_of later))
    ∙ ap (λ b. cond b (Some (record { put = bare e; status = state })) None) (bare_live t e state)
    ∙ by_live (live t e state) state
  where
    by_live : (b : Bool) (s : Status) → cond b (Some (record { put = bare e; status = s })) None
        ≡ option_map bare_mitigation (cond b (Some (record { put = e; status = s })) None)
    by_live true s = refl
    by_live false s = refl

-- Of the entries of a history, each in a slot of its own, the one in a slot is found where its mitigation is live.
pub put_found : (kept : LiveValue) (front : List Filed) (x : Filed) (later : List Filed) → Represents kept (map entry_of (front ++ x ∷ later))
    → SlotsAre kept.time kept.tables (front ++ x ∷ later) → x.entry.domain < kept.domains
    → list_any (is_in x.slot) front ≡ false → list_any (is_in x.slot) later ≡ false
    → put_in x.slot (rows_for kept x.entry.domain) (slots_of x.entry.domain kept.tables)
    ≡ option_map bare_mitigation (if_live kept.time x.entry (status x.entry Open (map entry_of later)))
put_found kept front x later represents are within before after =
    let domain = x.entry.domain in
    let all = front ++ x ∷ later in
    let found : List Filed → Option Mitigation = λ fs. put_in x.slot (rows_by kept.time (filed_alone domain fs)) (live_slots kept.time (filed_alone domain fs)) in
    ap (λ ms. put_in x.slot ms (slots_of domain kept.tables))
    (represents.rows domain within
    ∙ ap (λ es. mitigations kept.time (alone domain es)) (sym (bared_entries all))
    ∙ ap (mitigations kept.time) (sym (alone_entries domain (map bared all))))
    ∙ ap (put_in x.slot (rows_by kept.time (filed_alone domain (map bared all))))
    (are_bared kept.time kept.tables all are domain (subst (λ n. domain < n) (sym represents.are_tables.number) within))
    ∙ ap found (bared_append front x later)
    ∙ found_alone kept.time (map bared front) (bared x) (map bared later) (none_bared x.slot front before) (none_bared x.slot later after)
    ∙ bare_if kept.time x.entry later
