-- The slots that are kept are those that a view names for its live mitigations.
use Rattle.std.proofs.Common.{◌≡◌, ℕ, ◌+◌, zero, suc, Bool, true, false, cond, ◌&&◌, ◌||◌, List, [], ◌∷◌, ◌++◌, length, map, Option, Some, None, refl, sym, ap, ◌∙◌, arith}
use Rattle.std.specs.Prelude.{◌==◌, slice_get, option_to_list}
use Rattle.std.specs.List.{list_any}
use Rattle.std.proofs.lemmas.Bool.{cond_both, true≢false}
use Rattle.dots_history.specs.declared.entry.Entry.{Entry}
use Rattle.dots_history.specs.declared.status.Status.{Status}
use Rattle.dots_history.specs.declared.status.Status.TheVariants.{Ended, Open, Withdrawn}
use Rattle.dots_history.specs.Entries.{ends, withdraws}
use Rattle.dots_history.specs.Histories.{Mitigation, live, status, step}
use Rattle.dots_history.specs.Keeping.{is_open, is_first, moved, pass, kept_places}
use Rattle.dots_history.specs.Slots.{Rises}
use Rattle.dots_history.specs.KeptPlaces.{at_places, union, live_places, withdrawal_places}
use Rattle.dots_history.proofs.Keeping.{Keeper}
use Rattle.live_mitigations.specs.declared.slots.MitigationSlots.{MitigationSlots}
use Rattle.dots_history.specs.Filed.{Filed, entry_of, slot_of}
use Rattle.live_mitigations.specs.Slots.{withdrawal_in, slots_by, live_slots}
use Rattle.live_mitigations.specs.Numbers.{numbers_of, numbers_in}
use Rattle.live_mitigations.proofs.Members.{has, any_union, any_append, union_same}

or_false : (b : Bool) → (b || false) ≡ b
or_false true = refl
or_false false = refl

-- ---- what stood at places
abbrev stood : ℕ → Option ℕ → Bool
stood s None = false
stood s (Some slot) = slot == s

has_at : (s : ℕ) (slots places : List ℕ) → has s (at_places slots places) ≡ list_any (λ place. stood s (slice_get slots place)) places
has_at s slots [] = refl
has_at s slots (place ∷ places) =
    any_append (λ other. other == s) (option_to_list (slice_get slots place)) (at_places slots places)
    ∙ ap (λ b. b || has s (at_places slots places)) (one (slice_get slots place))
    ∙ ap (λ b. stood s (slice_get slots place) || b) (has_at s slots places)
  where
    one : (o : Option ℕ) → has s (option_to_list o) ≡ stood s o
    one None = refl
    one (Some slot) = or_false (slot == s)

-- by the filed ones themselves
abbrev any_by : Keeper → List Mitigation → ℕ → List Filed → Bool
any_by keep passed s [] = false
any_by keep passed s (x ∷ later) = (keep passed x.entry (map entry_of later) && (x.slot == s)) || any_by keep (pass passed x.entry) s later

at_middle : (before : List ℕ) (at slot : ℕ) (behind : List ℕ) → at ≡ length before → slice_get (before ++ slot ∷ behind) at ≡ Some slot
at_middle [] zero slot behind same = refl
at_middle [] (suc k) slot behind same = absurd (omega (arith, same))
at_middle (x ∷ before) zero slot behind same = absurd (omega (arith, same))
at_middle (x ∷ before) (suc k) slot behind same = at_middle before k slot behind (omega (arith, same))

length_more : (before : List ℕ) (slot : ℕ) → length (before ++ slot ∷ []) ≡ length before + 1
length_more [] slot = omega arith
length_more (x ∷ before) slot = let rest = length_more before slot in omega (arith, rest)

append_one : (before : List ℕ) (slot : ℕ) (behind : List ℕ) → (before ++ slot ∷ []) ++ behind ≡ before ++ slot ∷ behind
append_one [] slot behind = refl
append_one (x ∷ before) slot behind = ap (λ rest. x ∷ rest) (append_one before slot behind)

any_kept : (keep : Keeper) (passed : List Mitigation) (s : ℕ) (before : List ℕ) (at : ℕ) (filed : List Filed) → at ≡ length before
    → list_any (λ place. stood s (slice_get (before ++ map slot_of filed) place)) (kept_places keep passed at (map entry_of filed)) ≡ any_by keep passed s filed
any_kept keep passed s before at [] same = refl
any_kept keep passed s before at (x ∷ later) same =
    let whole = before ++ x.slot ∷ map slot_of later in
    let long = length_more before x.slot in
    let go : list_any (λ place. stood s (slice_get whole place)) (kept_places keep (pass passed x.entry) (at + 1) (map entry_of later)) ≡ any_by keep (pass passed x.entry) s later =
    ap (λ all. list_any (λ place. stood s (slice_get all place)) (kept_places keep (pass passed x.entry) (at + 1) (map entry_of later))) (sym (append_one before x.slot (map slot_of later)))
    ∙ any_kept keep (pass passed x.entry) s (before ++ x.slot ∷ []) (at + 1) later (omega (arith, same, long))
    in
    by_test (keep passed x.entry (map entry_of later)) (λ place. stood s (slice_get whole place)) at (kept_places keep (pass passed x.entry) (at + 1) (map entry_of later))
    (ap (stood s) (at_middle before at x.slot (map slot_of later) same))
    ∙ ap (λ b. (keep passed x.entry (map entry_of later) && (x.slot == s)) || b) go
  where
    by_test : (b : Bool) (test : ℕ → Bool) (at : ℕ) (places : List ℕ) → test at ≡ (x.slot == s)
        → list_any test (cond b (at ∷ places) places) ≡ ((b && (x.slot == s)) || list_any test places)
    by_test true test at places is = ap (λ c. c || list_any test places) is
    by_test false test at places is = refl

-- ---- the entries of the mitigations, and their withdrawals

abbrev says : ℕ → Option ℕ → Bool
says s None = false
says s (Some slot) = slot == s

-- of what stood so far with this status, and of those to come: it is live in the end, and its withdrawal is in this slot
abbrev withdrawn_at : ℕ → ℕ → List Filed → Mitigation → Bool
withdrawn_at t s later m = live t m.put (status m.put m.status (map entry_of later)) && says s (withdrawal_in m.put m.status None later)

abbrev put_at : ℕ → ℕ → List Filed → Filed → Bool
put_at t s later x = live t x.entry (status x.entry Open (map entry_of later)) && (x.slot == s)

abbrev any_put : ℕ → ℕ → List Filed → Bool
any_put t s [] = false
any_put t s (x ∷ later) = put_at t s later x || any_put t s later

abbrev any_withdrawn : ℕ → ℕ → List Filed → Bool
any_withdrawn t s [] = false
any_withdrawn t s (x ∷ later) = withdrawn_at t s later (record { put = x.entry; status = Open }) || any_withdrawn t s later

-- in the numbers of the slots
four : (l p w a b : Bool) → ((l && (p || w)) || (a || b)) ≡ (((l && p) || a) || ((l && w) || b))
four true true w a b = refl
four true false true true b = refl
four true false true false b = refl
four true false false true b = refl
four true false false false b = refl
four false p w true b = refl
four false p w false b = refl

in_numbers : (t s : ℕ) (filed : List Filed) → has s (numbers_in (live_slots t filed)) ≡ (any_put t s filed || any_withdrawn t s filed)
in_numbers t s [] = refl
in_numbers t s (x ∷ later) =
    own (live t x.entry (status x.entry Open (map entry_of later))) (slots_by x later) (live_slots t later)
    ∙ ap (λ b. (live t x.entry (status x.entry Open (map entry_of later)) && ((x.slot == s) || says s (withdrawal_in x.entry Open None later))) || b) (in_numbers t s later)
    ∙ four (live t x.entry (status x.entry Open (map entry_of later))) (x.slot == s) (says s (withdrawal_in x.entry Open None later)) (any_put t s later) (any_withdrawn t s later)
  where
    one : (o : Option ℕ) → has s (option_to_list o) ≡ says s o
    one None = refl
    one (Some slot) = or_false (slot == s)

    own : (b : Bool) (slots : MitigationSlots) (rest : List MitigationSlots)
        → has s (numbers_in (option_to_list (cond b (Some slots) None) ++ rest)) ≡ ((b && ((slots.put == s) || says s slots.withdrawal)) || has s (numbers_in rest))
    own true slots rest =
        any_append (λ other. other == s) (numbers_of slots) (numbers_in rest)
        ∙ ap (λ b. ((slots.put == s) || b) || has s (numbers_in rest)) (one slots.withdrawal)
    own false slots rest = refl

-- by places: the entries
abbrev lives : ℕ → Keeper
lives t passed e later = live t e (status e Open later)

puts_by : (t s : ℕ) (passed : List Mitigation) (filed : List Filed) → any_by (lives t) passed s filed ≡ any_put t s filed
puts_by t s passed [] = refl
puts_by t s passed (x ∷ later) = ap (λ b. put_at t s later x || b) (puts_by t s (pass passed x.entry) later)

-- and the withdrawals
abbrev firsts : ℕ → Keeper
firsts t passed e later = list_any (is_first t e later) passed

closed_step : (put : Entry) (st : Status) (e : Entry) → is_open st ≡ false → is_open (step put st e) ≡ false
closed_step put Open e closed = absurd (true≢false closed)
closed_step put Ended e closed = refl
closed_step put (Withdrawn at) e closed = cond_both (ends put e) Ended (Withdrawn at) (λ st. is_open st ≡ false) (λ is. refl) (λ out. refl)

closes : (put : Entry) (st : Status) (e : Entry) → (is_open st && withdraws put e) ≡ true → is_open (step put st e) ≡ false
closes put Open e is =
    cond_both (ends put e) Ended (cond (withdraws put e) (Withdrawn e.time) Open) (λ st. is_open st ≡ false) (λ yes. refl)
    (λ out. ap (λ b. is_open (cond b (Withdrawn e.time) Open)) is)
closes put Ended e is = refl
closes put (Withdrawn at) e is = cond_both (ends put e) Ended (Withdrawn at) (λ st. is_open st ≡ false) (λ yes. refl) (λ out. refl)

stays_found : (put : Entry) (st : Status) (found : Option ℕ) (later : List Filed) → is_open st ≡ false → withdrawal_in put st found later ≡ found
stays_found put st found [] closed = refl
stays_found put st found (x ∷ later) closed =
    ap (λ b. withdrawal_in put (step put st x.entry) (cond (b && withdraws put x.entry) (Some x.slot) found) later) closed
    ∙ stays_found put (step put st x.entry) found later (closed_step put st x.entry closed)

-- one more entry, by its test
and_false : (b : Bool) → (b && false) ≡ false
and_false true = refl
and_false false = refl

either_false : (a b : Bool) → b ≡ false → a ≡ (a || b)
either_false true b none = refl
either_false false b none = sym none

one_step : (t s : ℕ) (x : Filed) (later : List Filed) (m : Mitigation)
    → withdrawn_at t s (x ∷ later) m ≡ ((is_first t x.entry (map entry_of later) m && (x.slot == s)) || withdrawn_at t s later (moved x.entry m))
one_step t s x later m = by_test (is_open m.status && withdraws m.put x.entry) refl
  where
    now : Status
    now = step m.put m.status x.entry

    alive : Bool
    alive = live t m.put (status m.put now (map entry_of later))

    by_test : (b : Bool) → (is_open m.status && withdraws m.put x.entry) ≡ b
        → (alive && says s (withdrawal_in m.put now (cond b (Some x.slot) None) later)) ≡ (((b && alive) && (x.slot == s)) || (alive && says s (withdrawal_in m.put now None later)))
    by_test true is =
        ap (λ o. alive && says s o) (stays_found m.put now (Some x.slot) later (closes m.put m.status x.entry is))
        ∙ either_false (alive && (x.slot == s)) (alive && says s (withdrawal_in m.put now None later))
        (ap (λ o. alive && says s o) (stays_found m.put now None later (closes m.put m.status x.entry is)) ∙ and_false alive)
    by_test false is = refl

any_step : (f g h : Mitigation → Bool) (e : Bool) (ms : List Mitigation) → ((m : Mitigation) → f m ≡ ((g m && e) || h m)) → list_any f ms ≡ ((list_any g ms && e) || list_any h ms)
any_step f g h e [] each = refl
any_step f g h e (m ∷ ms) each =
    ap (λ b. b || list_any f ms) (each m)
    ∙ ap (λ b. ((g m && e) || h m) || b) (any_step f g h e ms each)
    ∙ spread (g m) (h m) (list_any g ms) (list_any h ms) e
  where
    spread : (a b c d e : Bool) → (((a && e) || b) || ((c && e) || d)) ≡ (((a || c) && e) || (b || d))
    spread true b c d true = refl
    spread true true true d false = refl
    spread true true false d false = refl
    spread true false true d false = refl
    spread true false false d false = refl
    spread false true true d true = refl
    spread false false true d true = refl
    spread false b false d e = refl
    spread false true true d false = refl
    spread false false true d false = refl

any_map : (f : Mitigation → Bool) (g : Mitigation → Mitigation) (ms : List Mitigation) (m : Mitigation)
    → list_any f (map g ms ++ m ∷ []) ≡ (list_any (λ x. f (g x)) ms || f m)
any_map f g [] m = or_false (f m)
any_map f g (x ∷ ms) m = ap (λ b. f (g x) || b) (any_map f g ms m) ∙ group (f (g x)) (list_any (λ y. f (g y)) ms) (f m)
  where
    group : (a b c : Bool) → (a || (b || c)) ≡ ((a || b) || c)
    group true b c = refl
    group false b c = refl

nothing_yet : (t s : ℕ) (ms : List Mitigation) → list_any (withdrawn_at t s []) ms ≡ false
nothing_yet t s [] = refl
nothing_yet t s (m ∷ ms) = ap (λ b. b || list_any (withdrawn_at t s []) ms) (and_false (live t m.put m.status)) ∙ nothing_yet t s ms

withdrawals_by : (t s : ℕ) (passed : List Mitigation) (filed : List Filed)
    → any_by (firsts t) passed s filed ≡ (list_any (withdrawn_at t s filed) passed || any_withdrawn t s filed)
withdrawals_by t s passed [] = sym (ap (λ b. b || false) (nothing_yet t s passed))
withdrawals_by t s passed (x ∷ later) =
    let own : Mitigation = record { put = x.entry; status = Open } in
    let first = list_any (is_first t x.entry (map entry_of later)) passed && (x.slot == s) in
    ap (λ b. first || b) (withdrawals_by t s (pass passed x.entry) later)
    ∙ ap (λ b. first || (b || any_withdrawn t s later)) (any_map (withdrawn_at t s later) (moved x.entry) passed own)
    ∙ order first (list_any (λ m. withdrawn_at t s later (moved x.entry m)) passed) (withdrawn_at t s later own) (any_withdrawn t s later)
    ∙ ap (λ b. b || (withdrawn_at t s later own || any_withdrawn t s later))
    (sym (any_step (withdrawn_at t s (x ∷ later)) (is_first t x.entry (map entry_of later)) (λ m. withdrawn_at t s later (moved x.entry m)) (x.slot == s) passed (one_step t s x later)))
  where
    order : (a b c d : Bool) → (a || ((b || c) || d)) ≡ ((a || b) || (c || d))
    order true b c d = refl
    order false true c d = refl
    order false false c d = refl

-- ---- by places
in_places : (t s : ℕ) (filed : List Filed)
    → has s (at_places (map slot_of filed) (union (live_places t (map entry_of filed)) (withdrawal_places t (map entry_of filed))))
    ≡ (any_put t s filed || any_withdrawn t s filed)
in_places t s filed =
    let test : ℕ → Bool = λ place. stood s (slice_get (map slot_of filed) place) in
    has_at s (map slot_of filed) (union (live_places t (map entry_of filed)) (withdrawal_places t (map entry_of filed)))
    ∙ any_union test (live_places t (map entry_of filed)) (withdrawal_places t (map entry_of filed))
    ∙ ap (λ b. b || list_any test (withdrawal_places t (map entry_of filed))) (any_kept (lives t) [] s [] 0 filed refl ∙ puts_by t s [] filed)
    ∙ ap (λ b. any_put t s filed || b) (any_kept (firsts t) [] s [] 0 filed refl ∙ withdrawals_by t s [] filed)

-- of a history whole
pub named_slots : (t : ℕ) (filed : List Filed) (items : List ℕ) → Rises items
    → union (numbers_in (live_slots t filed)) items
    ≡ union (at_places (map slot_of filed) (union (live_places t (map entry_of filed)) (withdrawal_places t (map entry_of filed)))) items
named_slots t filed items rises =
    union_same (numbers_in (live_slots t filed)) (at_places (map slot_of filed) (union (live_places t (map entry_of filed)) (withdrawal_places t (map entry_of filed)))) items rises
    (λ s. in_numbers t s filed ∙ sym (in_places t s filed))
