-- The slots of the live mitigations at a later time, and after one more entry, by those before.
use Rattle.std.proofs.Common.{◌≡◌, ℕ, suc, ◌≤◌, Bool, true, false, cond, ◌&&◌, List, [], ◌∷◌, ◌++◌, length, map, Option, Some, None, refl, sym, ap, ◌∙◌}
use Rattle.std.specs.Prelude.{option_to_list}
use Rattle.std.proofs.lemmas.List.{map-append}
use Rattle.std.proofs.lemmas.Bool.{true≢false}
use Rattle.dots_history.specs.declared.entry.Entry.{Entry}
use Rattle.dots_history.specs.declared.status.Status.{Status}
use Rattle.dots_history.specs.declared.status.Status.TheVariants.{Open}
use Rattle.dots_history.specs.Entries.{withdraws}
use Rattle.dots_history.specs.Histories.{Mitigation, live, status, step, mitigations}
use Rattle.dots_history.specs.Keeping.{is_open}
use Rattle.dots_history.proofs.Lasting.{live_no_more, dead_step, status-append}
use Rattle.live_mitigations.specs.declared.slots.MitigationSlots.{MitigationSlots}
use Rattle.dots_history.specs.Filed.{Filed, entry_of}
use Rattle.live_mitigations.specs.Slots.{withdrawal_in, slots_by, live_slots, beside, if_live_at, slots_at, slots_moved, if_left, slots_left, slots_first}

abbrev pub Keep : Type 0
Keep = Mitigation → MitigationSlots → Option MitigationSlots

-- one of them, live then or not and left now or not
pub one_more : (keep : Keep) (then_live : Bool) (m : Mitigation) (s : MitigationSlots) (now : Option MitigationSlots) (rest now_rest : List MitigationSlots)
    (ms : List Mitigation) → (then_live ≡ true → keep m s ≡ now) → (then_live ≡ false → now ≡ None) → now_rest ≡ beside keep ms rest
    → option_to_list now ++ now_rest
    ≡ beside keep (option_to_list (cond then_live (Some m) None) ++ ms) (option_to_list (cond then_live (Some s) None) ++ rest)
one_more keep true m s now rest now_rest ms is over same = ap (λ o. option_to_list o ++ now_rest) (sym (is refl)) ∙ ap (λ xs. option_to_list (keep m s) ++ xs) same
one_more keep false m s now rest now_rest ms is over same = ap (λ o. option_to_list o ++ now_rest) (over refl) ∙ same

none_where : (b : Bool) (s : MitigationSlots) → b ≡ false → cond b (Some s) None ≡ None
none_where true s dead = absurd (true≢false dead)
none_where false s dead = refl

pub slots_age : (t u : ℕ) (filed : List Filed) → t ≤ u → live_slots u filed ≡ slots_at u (mitigations t (map entry_of filed)) (live_slots t filed)
slots_age t u [] less = refl
slots_age t u (x ∷ later) less =
    let s = status x.entry Open (map entry_of later) in
    one_more (if_live_at u) (live t x.entry s) (record { put = x.entry; status = s }) (slots_by x later) (cond (live u x.entry s) (Some (slots_by x later)) None)
    (live_slots t later) (live_slots u later) (mitigations t (map entry_of later))
    (λ lives. refl)
    (λ dead. none_where (live u x.entry s) (slots_by x later) (live_no_more t u x.entry s less dead))
    (slots_age t u later less)

-- the withdrawal with one more entry
withdrawal_more : (put : Entry) (s : Status) (found : Option ℕ) (later : List Filed) (x : Filed)
    → withdrawal_in put s found (later ++ x ∷ [])
    ≡ cond (is_open (status put s (map entry_of later)) && withdraws put x.entry) (Some x.slot) (withdrawal_in put s found later)
withdrawal_more put s found [] x = refl
withdrawal_more put s found (y ∷ later) x =
    withdrawal_more put (step put s y.entry) (cond (is_open s && withdraws put y.entry) (Some y.slot) found) later x

abbrev with_withdrawal : ℕ → Option ℕ → MitigationSlots
with_withdrawal slot found = record { put = slot; withdrawal = found }

in_case : (b : Bool) (slot new : ℕ) (found : Option ℕ)
    → with_withdrawal slot (cond b (Some new) found) ≡ cond b (with_withdrawal slot (Some new)) (with_withdrawal slot found)
in_case true slot new found = refl
in_case false slot new found = refl

slots_more : (y : Filed) (later : List Filed) (x : Filed)
    → slots_by y (later ++ x ∷ []) ≡ slots_moved x (record { put = y.entry; status = status y.entry Open (map entry_of later) }) (slots_by y later)
slots_more y later x =
    ap (with_withdrawal y.slot) (withdrawal_more y.entry Open None later x)
    ∙ in_case (is_open (status y.entry Open (map entry_of later)) && withdraws y.entry x.entry) y.slot x.slot (withdrawal_in y.entry Open None later)

first_alone : (b : Bool) (s : MitigationSlots) → option_to_list (cond b (Some s) None) ++ [] ≡ cond b (s ∷ []) []
first_alone true s = refl
first_alone false s = refl

pub slots_add : (t : ℕ) (x : Filed) (filed : List Filed) → t ≤ x.entry.time
    → live_slots x.entry.time (filed ++ x ∷ []) ≡ slots_left x (mitigations t (map entry_of filed)) (live_slots t filed) ++ slots_first x
slots_add t x [] less = first_alone (live x.entry.time x.entry Open) (record { put = x.slot; withdrawal = None })
slots_add t x (y ∷ later) less =
    let s = status y.entry Open (map entry_of later) in
    let next : status y.entry Open (map entry_of (later ++ x ∷ [])) ≡ step y.entry s x.entry =
    ap (status y.entry Open) (map-append entry_of later (x ∷ [])) ∙ status-append y.entry Open (map entry_of later) (x.entry ∷ [])
    in
    let made : cond (live x.entry.time y.entry (status y.entry Open (map entry_of (later ++ x ∷ [])))) (Some (slots_by y (later ++ x ∷ []))) None
    ≡ cond (live x.entry.time y.entry (step y.entry s x.entry)) (Some (slots_moved x (record { put = y.entry; status = s }) (slots_by y later))) None =
    ap (λ st. cond (live x.entry.time y.entry st) (Some (slots_by y (later ++ x ∷ []))) None) next
    ∙ ap (λ own. cond (live x.entry.time y.entry (step y.entry s x.entry)) (Some own) None) (slots_more y later x)
    in
    ap (λ o. option_to_list o ++ live_slots x.entry.time (later ++ x ∷ [])) made
    ∙ ap (λ rest. option_to_list (cond (live x.entry.time y.entry (step y.entry s x.entry)) (Some (slots_moved x (record { put = y.entry; status = s }) (slots_by y later))) None) ++ rest)
    (slots_add t x later less)
    ∙ assoc (cond (live x.entry.time y.entry (step y.entry s x.entry)) (Some (slots_moved x (record { put = y.entry; status = s }) (slots_by y later))) None)
    (slots_left x (mitigations t (map entry_of later)) (live_slots t later)) (slots_first x)
    ∙ ap (λ rest. rest ++ slots_first x)
    (one_more (if_left x) (live t y.entry s) (record { put = y.entry; status = s }) (slots_by y later)
    (cond (live x.entry.time y.entry (step y.entry s x.entry)) (Some (slots_moved x (record { put = y.entry; status = s }) (slots_by y later))) None)
    (live_slots t later) (slots_left x (mitigations t (map entry_of later)) (live_slots t later)) (mitigations t (map entry_of later))
    (λ lives. refl)
    (λ dead. none_where (live x.entry.time y.entry (step y.entry s x.entry)) (slots_moved x (record { put = y.entry; status = s }) (slots_by y later))
    (dead_step y.entry s x.entry (live_no_more t x.entry.time y.entry s less dead)))
    refl)
  where
    assoc : (o : Option MitigationSlots) (xs ys : List MitigationSlots) → option_to_list o ++ (xs ++ ys) ≡ (option_to_list o ++ xs) ++ ys
    assoc None xs ys = refl
    assoc (Some s) xs ys = refl

-- there are as many as live mitigations
pub as_many : (t : ℕ) (filed : List Filed) → length (mitigations t (map entry_of filed)) ≡ length (live_slots t filed)
as_many t [] = refl
as_many t (x ∷ later) =
    same (live t x.entry (status x.entry Open (map entry_of later))) (record { put = x.entry; status = status x.entry Open (map entry_of later) }) (slots_by x later)
    (mitigations t (map entry_of later)) (live_slots t later) (as_many t later)
  where
    same : (b : Bool) (m : Mitigation) (s : MitigationSlots) (ms : List Mitigation) (ss : List MitigationSlots) → length ms ≡ length ss
        → length (option_to_list (cond b (Some m) None) ++ ms) ≡ length (option_to_list (cond b (Some s) None) ++ ss)
    same true m s ms ss is = ap suc is
    same false m s ms ss is = is
