-- The slots of entries are those of the entries without message and reply.
use Rattle.std.proofs.Common.{◌≡◌, ℕ, Bool, true, false, cond, ◌&&◌, List, [], ◌∷◌, ◌++◌, map, Option, Some, None, refl, sym, ap, ◌∙◌}
use Rattle.std.specs.Prelude.{◌==◌, option_to_list}
use Rattle.dots_history.specs.declared.entry.Entry.{Entry}
use Rattle.dots_history.specs.declared.status.Status.{Status}
use Rattle.dots_history.specs.declared.status.Status.TheVariants.{Ended, Open, Withdrawn}
use Rattle.dots_history.specs.Entries.{same_client, ends, withdraws, runs}
use Rattle.dots_history.specs.Histories.{Mitigation, live, status, step}
use Rattle.dots_history.specs.Keeping.{is_open}
use Rattle.dots_history.specs.Tables.{bare}
use Rattle.live_mitigations.specs.Rows.{LiveTable, is_left}
use Rattle.live_mitigations.specs.declared.slots.MitigationSlots.{MitigationSlots}
use Rattle.dots_history.specs.Filed.{Filed, entry_of}
use Rattle.live_mitigations.specs.Slots.{withdrawal_in, slots_by, live_slots, slots_moved, if_left, slots_left, slots_first}
use Rattle.live_mitigations.specs.LiveValues.{filed_alone, SlotsAre}

abbrev pub bared : Filed → Filed
bared x = record { entry = bare x.entry; slot = x.slot }

pub bared_entries : (filed : List Filed) → map entry_of (map bared filed) ≡ map bare (map entry_of filed)
bared_entries [] = refl
bared_entries (x ∷ later) = ap (λ es. bare x.entry ∷ es) (bared_entries later)

bared_alone : (domain : ℕ) (filed : List Filed) → filed_alone domain (map bared filed) ≡ map bared (filed_alone domain filed)
bared_alone domain [] = refl
bared_alone domain (x ∷ later) = by_test (x.entry.domain == domain) (bared_alone domain later)
  where
    by_test : (b : Bool) → filed_alone domain (map bared later) ≡ map bared (filed_alone domain later)
        → cond b (bared x ∷ filed_alone domain (map bared later)) (filed_alone domain (map bared later)) ≡ map bared (cond b (x ∷ filed_alone domain later) (filed_alone domain later))
    by_test true go = ap (λ xs. bared x ∷ xs) go
    by_test false go = go

-- ---- an entry without message and reply does the same to a mitigation
bare_step : (put : Entry) (s : Status) (e : Entry) → step (bare put) s (bare e) ≡ step put s e
unfolding ends withdraws same_client
bare_step put Ended e = refl
bare_step put Open e = refl
bare_step put (Withdrawn at) e = refl

pub bare_status : (put : Entry) (s : Status) (later : List Entry) → status (bare put) s (map bare later) ≡ status put s later
bare_status put s [] = refl
bare_status put s (e ∷ later) = ap (λ x. status (bare put) x (map bare later)) (bare_step put s e) ∙ bare_status put (step put s e) later

pub bare_live : (t : ℕ) (put : Entry) (s : Status) → live t (bare put) s ≡ live t put s
unfolding runs
bare_live t put Ended = refl
bare_live t put Open = refl
bare_live t put (Withdrawn at) = refl

bare_withdraws : (put e : Entry) → withdraws (bare put) (bare e) ≡ withdraws put e
unfolding withdraws same_client
bare_withdraws put e = refl

bare_withdrawal : (put : Entry) (s : Status) (found : Option ℕ) (later : List Filed) → withdrawal_in (bare put) s found (map bared later) ≡ withdrawal_in put s found later
bare_withdrawal put s found [] = refl
bare_withdrawal put s found (x ∷ later) =
    let next : Bool → Option ℕ = λ b. cond (is_open s && b) (Some x.slot) found in
    ap (λ b. withdrawal_in (bare put) (step (bare put) s (bare x.entry)) (next b) (map bared later)) (bare_withdraws put x.entry)
    ∙ ap (λ st. withdrawal_in (bare put) st (next (withdraws put x.entry)) (map bared later)) (bare_step put s x.entry)
    ∙ bare_withdrawal put (step put s x.entry) (next (withdraws put x.entry)) later

lives_bared : (t : ℕ) (filed : List Filed) → live_slots t (map bared filed) ≡ live_slots t filed
lives_bared t [] = refl
lives_bared t (x ∷ later) =
    let own : List Entry → Option ℕ → Option MitigationSlots = λ es w.
    cond (live t (bare x.entry) (status (bare x.entry) Open es)) (Some (record { put = x.slot; withdrawal = w })) None in
    let slots : Bool → Option MitigationSlots = λ b. cond b (Some (slots_by x later)) None in
    ap (λ es. option_to_list (own es (withdrawal_in (bare x.entry) Open None (map bared later))) ++ live_slots t (map bared later)) (bared_entries later)
    ∙ ap (λ w. option_to_list (own (map bare (map entry_of later)) w) ++ live_slots t (map bared later)) (bare_withdrawal x.entry Open None later)
    ∙ ap (λ st. option_to_list (slots (live t (bare x.entry) st)) ++ live_slots t (map bared later)) (bare_status x.entry Open (map entry_of later))
    ∙ ap (λ b. option_to_list (slots b) ++ live_slots t (map bared later)) (bare_live t x.entry (status x.entry Open (map entry_of later)))
    ∙ ap (λ rest. option_to_list (slots (live t x.entry (status x.entry Open (map entry_of later)))) ++ rest) (lives_bared t later)

alone_bared : (t domain : ℕ) (filed : List Filed) → live_slots t (filed_alone domain (map bared filed)) ≡ live_slots t (filed_alone domain filed)
alone_bared t domain filed = ap (live_slots t) (bared_alone domain filed) ∙ lives_bared t (filed_alone domain filed)

pub are_bared : (t : ℕ) (tables : List LiveTable) (filed : List Filed) → SlotsAre t tables filed → SlotsAre t tables (map bared filed)
are_bared t tables filed are = λ domain within. are domain within ∙ sym (alone_bared t domain filed)

pub bared_are : (t : ℕ) (tables : List LiveTable) (filed : List Filed) → SlotsAre t tables (map bared filed) → SlotsAre t tables filed
bared_are t tables filed are = λ domain within. are domain within ∙ alone_bared t domain filed

-- ---- the slots beside the live mitigations after it
left_step : (put : Entry) (s : Status) (e : Entry) → step put s (bare e) ≡ step put s e
unfolding ends withdraws same_client
left_step put Ended e = refl
left_step put Open e = refl
left_step put (Withdrawn at) e = refl

left_withdraws : (put e : Entry) → withdraws put (bare e) ≡ withdraws put e
unfolding withdraws same_client
left_withdraws put e = refl

left_same : (x : Filed) (m : Mitigation) (s : MitigationSlots) → if_left (bared x) m s ≡ if_left x m s
left_same x m s =
    ap (λ st. cond (live x.entry.time m.put st) (Some (slots_moved (bared x) m s)) None) (left_step m.put m.status x.entry)
    ∙ ap
    (λ b. cond (is_left x.entry m) (Some (cond (is_open m.status && b) (record { put = s.put; withdrawal = Some x.slot }) s)) None)
    (left_withdraws m.put x.entry)

pub slots_left_bared : (x : Filed) (ms : List Mitigation) (ss : List MitigationSlots) → slots_left (bared x) ms ss ≡ slots_left x ms ss
slots_left_bared x [] ss = refl
slots_left_bared x (m ∷ ms) [] = refl
slots_left_bared x (m ∷ ms) (s ∷ ss) =
    ap (λ o. option_to_list o ++ slots_left (bared x) ms ss) (left_same x m s) ∙ ap (λ rest. option_to_list (if_left x m s) ++ rest) (slots_left_bared x ms ss)

pub slots_first_bared : (x : Filed) → slots_first (bared x) ≡ slots_first x
unfolding runs
slots_first_bared x = refl
