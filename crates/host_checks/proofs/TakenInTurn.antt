-- Entries that a ledger takes one after the other, where it is known of each whether it might stand again.
use Rattle.std.proofs.Common.{◌≡◌, ℕ, ◌≤◌, Bool, true, false, cond, ◌&&◌, ◌||◌, List, [], ◌∷◌, ◌++◌, map, length, get_or, Option, Some, None, inl, inr, refl, sym, ap, ◌∙◌, subst, le_trans, append_assoc, append-nil, arith}
use Rattle.std.specs.List.{list_any}
use Rattle.std.proofs.lemmas.Bool.{cond-true, cond-false, cases_Bool}
use Rattle.std.proofs.lemmas.Option.{none-some}
use Rattle.dots_host.specs.Media.{Media}
use Rattle.dots_settings.specs.Settings.{SettingsValue}
use Rattle.dots_history.specs.declared.entry.Entry.{Entry}
use Rattle.dots_history.specs.Entries.{ends}
use Rattle.dots_history.specs.Histories.{Within}
use Rattle.dots_history.specs.Calm.{is_of_settings}
use Rattle.dots_history.specs.Fits.{joins}
use Rattle.dots_history.specs.Filed.{Filed, entry_of}
use Rattle.dots_history.proofs.Joining.{joins_so}
use Rattle.dots_registry.specs.RegistryValues.{time_of}
use Rattle.dots_registry.specs.LedgerValues.{LedgerValue}
use Rattle.host_checks.specs.declared.left_out.LeftOut.{LeftOut}
use Rattle.host_checks.specs.declared.left_out.LeftOut.TheVariants as left
use Rattle.host_checks.specs.declared.kept_entry.KeptEntry.{KeptEntry}
use Rattle.host_checks.specs.KeptEntries.{judged, filed_of, is_lost, might_return_by, flags_of}
use Rattle.host_checks.specs.Migrating.{carried, is_lost_put, might_return, candidate, with_joined, taken_after}
use Rattle.host_checks.specs.Leavings.{cause_alone, cause_among, cause_carried, cause_of, left_text, left_after}
use Rattle.host_checks.specs.Making.{HasTaken, HasTakenNext, HasTakenAll, offered, cause_offered}
use Rattle.host_checks.proofs.Takings.{some_of, mapped}

abbrev pub entry_in : KeptEntry → Entry
entry_in kept = kept.entry

-- what is taken, and what is told
abbrev pub taken_by : SettingsValue → SettingsValue → List Entry → List KeptEntry → List Bool → List Entry
taken_by old new before [] over = before
taken_by old new before (kept ∷ later) [] = taken_by old new (with_joined new before (offered old new kept.entry false)) later []
taken_by old new before (kept ∷ later) (first ∷ over) = taken_by old new (with_joined new before (offered old new kept.entry first)) later over

abbrev pub left_by : SettingsValue → SettingsValue → List Entry → List KeptEntry → List Bool → List ℕ
left_by old new before [] over = []
left_by old new before (kept ∷ later) [] =
    left_text old (filed_of kept) (cause_offered old new before kept.entry false) ++ left_by old new (with_joined new before (offered old new kept.entry false)) later []
left_by old new before (kept ∷ later) (first ∷ over) =
    left_text old (filed_of kept) (cause_offered old new before kept.entry first) ++ left_by old new (with_joined new before (offered old new kept.entry first)) later over

-- ---- one entry more
taken_push : (old new : SettingsValue) (before : List Entry) (list : List KeptEntry) (next : KeptEntry) (over : List Bool)
    → taken_by old new before (list ++ next ∷ []) over ≡ with_joined new (taken_by old new before list over) (offered old new next.entry (get_or over (length list) false))
taken_push old new before [] next [] = refl
taken_push old new before [] next (first ∷ over) = refl
taken_push old new before (kept ∷ list) next [] = taken_push old new (with_joined new before (offered old new kept.entry false)) list next []
taken_push old new before (kept ∷ list) next (first ∷ over) = taken_push old new (with_joined new before (offered old new kept.entry first)) list next over

left_more : (old new : SettingsValue) (before : List Entry) (kept : KeptEntry) (first : Bool) (list : List KeptEntry) (next : KeptEntry) (over : List Bool) → left_by old new (with_joined new before (offered old new kept.entry first)) (list ++ next ∷ []) over
    ≡ left_by old new (with_joined new before (offered old new kept.entry first)) list over
    ++ left_text old (filed_of next) (cause_offered old new (taken_by old new (with_joined new before (offered old new kept.entry first)) list over) next.entry (get_or over (length list) false))
    → left_text old (filed_of kept) (cause_offered old new before kept.entry first) ++ left_by old new (with_joined new before (offered old new kept.entry first)) (list ++ next ∷ []) over
    ≡ (left_text old (filed_of kept) (cause_offered old new before kept.entry first) ++ left_by old new (with_joined new before (offered old new kept.entry first)) list over)
    ++ left_text old (filed_of next) (cause_offered old new (taken_by old new (with_joined new before (offered old new kept.entry first)) list over) next.entry (get_or over (length list) false))
left_more old new before kept first list next over same =
    let front = left_text old (filed_of kept) (cause_offered old new before kept.entry first) in
    let there = with_joined new before (offered old new kept.entry first) in
    ap (λ text. front ++ text) same
    ∙ sym
    (append_assoc
    front
    (left_by old new there list over)
    (left_text old (filed_of next) (cause_offered old new (taken_by old new there list over) next.entry (get_or over (length list) false))))

left_push : (old new : SettingsValue) (before : List Entry) (list : List KeptEntry) (next : KeptEntry) (over : List Bool)
    → left_by old new before (list ++ next ∷ []) over
    ≡ left_by old new before list over ++ left_text old (filed_of next) (cause_offered old new (taken_by old new before list over) next.entry (get_or over (length list) false))
left_push old new before [] next [] = append-nil (left_text old (filed_of next) (cause_offered old new before next.entry false))
left_push old new before [] next (first ∷ over) = append-nil (left_text old (filed_of next) (cause_offered old new before next.entry first))
left_push old new before (kept ∷ list) next [] = left_more old new before kept false list next [] (left_push old new (with_joined new before (offered old new kept.entry false)) list next [])
left_push old new before (kept ∷ list) next (first ∷ over) =
    left_more old new before kept first list next over (left_push old new (with_joined new before (offered old new kept.entry first)) list next over)

-- the times of those so far, and of the next
within_cut : (low high : ℕ) (list : List KeptEntry) (next : KeptEntry) → Within low (map entry_in (list ++ next ∷ [])) high
    → Within low (map entry_in list) next.entry.time × (next.entry.time ≤ high)
within_cut low high [] next is = is
within_cut low high (kept ∷ list) next is = let rest = within_cut kept.entry.time high list next is.1 in ((is.0, rest.0), rest.1)

-- A ledger took of these entries what joins, behind those that were taken before, and this was added to the text.
pub record Goes (old new : SettingsValue) (before : List Entry) (list : List KeptEntry) (over : List Bool) (t : ℕ) (ledger : LedgerValue) (media : Option Media) (front text : List ℕ) : Type 0 where
  pub taken : HasTaken new (taken_by old new before list over) ledger media
  pub told : text ≡ front ++ left_by old new before list over
  pub early : time_of ledger.registry ≤ t

-- .., where their times don't fall
abbrev pub GoesOn : SettingsValue → SettingsValue → List KeptEntry → List Bool → LedgerValue → Option Media → List ℕ → LedgerValue → Option Media → List ℕ → Type 0
GoesOn old new list over start first front ledger media text =
    (before : List Entry) (t : ℕ) → HasTaken new before start first → Within (time_of start.registry) (map entry_in list) t → Goes old new before list over t ledger media front text

pub goes_none : (old new : SettingsValue) (over : List Bool) (start : LedgerValue) (media : Option Media) (front : List ℕ) → GoesOn old new [] over start media front start media front
goes_none old new over start media front before t taken within = record { taken = taken; told = sym (append-nil front); early = within }

pub goes_next : (old new : SettingsValue) (list : List KeptEntry) (next : KeptEntry) (over : List Bool) (start between ledger : LedgerValue) (first media last : Option Media) (front text more : List ℕ)
    (at : ℕ) → at ≡ length list
    → ((before : List Entry) → HasTaken new before between media → time_of between.registry ≤ next.entry.time
    → HasTakenNext old new before next (get_or over at false) ledger last text more)
    → GoesOn old new list over start first front between media text → GoesOn old new (list ++ next ∷ []) over start first front ledger last more
goes_next old new list next over start between ledger first media last front text more at same one goes before t taken within =
    let parts = within_cut (time_of start.registry) t list next within in
    let so = goes before next.entry.time taken parts.0 in
    let there = taken_by old new before list over in
    let step = subst (λ n. HasTakenNext old new there next (get_or over n false) ledger last text more) same (one there so.taken so.early) in
    let line = left_text old (filed_of next) (cause_offered old new there next.entry (get_or over (length list) false)) in
    record {
      taken = subst (λ es. HasTaken new es ledger last) (sym (taken_push old new before list next over)) step.taken;
      told = step.told
          ∙ ap (λ zs. zs ++ line) so.told
          ∙ append_assoc front (left_by old new before list over) line
          ∙ ap (λ zs. front ++ zs) (sym (left_push old new before list next over));
      early = le_trans step.early parts.1;
    }

-- ---- by the settings, of all entries
any_ends : (old new : SettingsValue) (e : Entry) (later : List Filed) → list_any (λ (kept : KeptEntry). ends e kept.entry) (map (judged old new) later) ≡ list_any (ends e) (map entry_of later)
any_ends old new e [] = refl
any_ends old new e (x ∷ later) = ap (λ b. ends e x.entry || b) (any_ends old new e later)

any_lost : (old new : SettingsValue) (e : Entry) (later : List Filed) → list_any (is_lost e) (map (judged old new) later) ≡ list_any (is_lost_put old new e) (map entry_of later)
any_lost old new e [] = refl
any_lost old new e (x ∷ later) = ap (λ b. is_lost_put old new e x.entry || b) (any_lost old new e later)

returns_is : (old new : SettingsValue) (e : Entry) (later : List Filed) → might_return_by e (map (judged old new) later) ≡ might_return old new e (map entry_of later)
returns_is old new e later =
    ap (λ b. b && list_any (is_lost e) (map (judged old new) later)) (any_ends old new e later) ∙ ap (λ b. list_any (ends e) (map entry_of later) && b) (any_lost old new e later)

taken_is : (old new : SettingsValue) (before : List Entry) (filed : List Filed)
    → taken_by old new before (map (judged old new) filed) (flags_of (map (judged old new) filed)) ≡ taken_after old new before (map entry_of filed)
taken_is old new before [] = refl
taken_is old new before (x ∷ later) =
    ap
    (λ b. taken_by old new (with_joined new before (offered old new x.entry b)) (map (judged old new) later) (flags_of (map (judged old new) later)))
    (returns_is old new x.entry later)
    ∙ taken_is old new (with_joined new before (candidate old new x.entry (map entry_of later))) later

left_is : (old new : SettingsValue) (before : List Entry) (filed : List Filed)
    → left_by old new before (map (judged old new) filed) (flags_of (map (judged old new) filed)) ≡ left_after old new before filed
left_is old new before [] = refl
left_is old new before (x ∷ later) =
    ap
    (λ b.
    left_text old x (cause_offered old new before x.entry b)
    ++ left_by old new (with_joined new before (offered old new x.entry b)) (map (judged old new) later) (flags_of (map (judged old new) later)))
    (returns_is old new x.entry later)
    ∙ ap
    (λ text. left_text old x (cause_of old new before x.entry (map entry_of later)) ++ text)
    (left_is old new (with_joined new before (candidate old new x.entry (map entry_of later))) later)

entries_in : (old new : SettingsValue) (filed : List Filed) → map entry_in (map (judged old new) filed) ≡ map entry_of filed
entries_in old new [] = refl
entries_in old new (x ∷ later) = ap (λ es. x.entry ∷ es) (entries_in old new later)

-- ---- all of them
pub goes_all : (old new : SettingsValue) (list : List KeptEntry) (over : List Bool) (start ledger : LedgerValue) (first media : Option Media) (front text : List ℕ) → over ≡ flags_of list
    → GoesOn old new list over start first front ledger media text → (before : List Entry) (filed : List Filed) (t : ℕ) → HasTaken new before start first
    → list ≡ map (judged old new) filed → Within (time_of start.registry) (map entry_of filed) t → HasTakenAll old new before filed t ledger media front text
goes_all old new list over start ledger first media front text flags goes before filed t taken are within =
    let all = map (judged old new) filed in
    let so = goes before t taken (subst (λ es. Within (time_of start.registry) es t) (sym (ap (map entry_in) are ∙ entries_in old new filed)) within) in
    let known : over ≡ flags_of all = flags ∙ ap flags_of are in
    record {
      taken = subst
          (λ es. HasTaken new es ledger media)
          (ap (λ xs. taken_by old new before xs over) are ∙ ap (taken_by old new before all) known ∙ taken_is old new before filed)
          so.taken;
      told = so.told ∙ ap (λ zs. front ++ zs) (ap (λ xs. left_by old new before xs over) are ∙ ap (left_by old new before all) known ∙ left_is old new before filed);
      early = so.early;
    }

-- ---- one entry
among_none : (new : SettingsValue) (before : List Entry) (e : Entry) → joins new before e ≡ true → cause_among new before e ≡ None
among_none new before e is =
    cond-true (is_of_settings new e) (cond (joins new before e) None (Some left.NoRoom)) (Some (cause_alone new e)) (joins_so new before e is).fits.of_settings
    ∙ cond-true (joins new before e) None (Some left.NoRoom) is

-- by the tests
pub among_joined : (new : SettingsValue) (before : List Entry) (e : Entry) → joins new before e ≡ true → None ≡ cause_among new before e
among_joined new before e is = sym (among_none new before e is)

pub among_full : (new : SettingsValue) (before : List Entry) (e : Entry) → is_of_settings new e ≡ true → joins new before e ≡ false → Some left.NoRoom ≡ cause_among new before e
among_full new before e own out =
    sym
    (cond-true (is_of_settings new e) (cond (joins new before e) None (Some left.NoRoom)) (Some (cause_alone new e)) own
    ∙ cond-false (joins new before e) None (Some left.NoRoom) out)

pub among_alone : (new : SettingsValue) (before : List Entry) (e : Entry) → is_of_settings new e ≡ false → Some (cause_alone new e) ≡ cause_among new before e
among_alone new before e out = sym (cond-false (is_of_settings new e) (cond (joins new before e) None (Some left.NoRoom)) (Some (cause_alone new e)) out)

not_carried : (new : SettingsValue) (before : List Entry) (o : Option Entry) (why : LeftOut) → cause_carried new before o ≡ Some why → with_joined new before o ≡ before
not_carried new before None why is = refl
not_carried new before (Some e) why is = elim (cases_Bool (joins new before e)) [
  | inl joined ↦ absurd (none-some why (sym (among_none new before e joined) ∙ is))
  | inr out ↦ cond-false (joins new before e) (before ++ e ∷ []) before out
]

not_offered : (old new : SettingsValue) (before : List Entry) (e : Entry) (over : Bool) (why : LeftOut) → cause_offered old new before e over ≡ Some why
    → with_joined new before (offered old new e over) ≡ before
not_offered old new before e true why is = refl
not_offered old new before e false why is = not_carried new before (carried old new e) why is

-- it is left out
pub next_left : (old new : SettingsValue) (before : List Entry) (next : KeptEntry) (over : Bool) (why : LeftOut) (ledger : LedgerValue) (media : Option Media) (front text : List ℕ)
    → cause_offered old new before next.entry over ≡ Some why → text ≡ front ++ left_text old (filed_of next) (Some why) → time_of ledger.registry ≤ next.entry.time
    → HasTaken new before ledger media → HasTakenNext old new before next over ledger media front text
next_left old new before next over why ledger media front text cause told early taken = record {
  taken = subst (λ es. HasTaken new es ledger media) (sym (not_offered old new before next.entry over why cause)) taken;
  told = told ∙ ap (λ o. front ++ left_text old (filed_of next) o) (sym cause);
  early = early;
}

-- it is taken
pub offered_time : (old new : SettingsValue) (e x : Entry) (over : Bool) → offered old new e over ≡ Some x → x.time ≡ e.time
offered_time old new e x over is = (mapped e _ x (some_of over (carried old new e) x is)).1

pub next_taken : (old new : SettingsValue) (before : List Entry) (next : KeptEntry) (over : Bool) (x : Entry) (ledger : LedgerValue) (media : Option Media) (front text : List ℕ)
    → offered old new next.entry over ≡ Some x → cause_offered old new before next.entry over ≡ None → joins new before x ≡ true → text ≡ front → time_of ledger.registry ≡ x.time
    → HasTaken new (before ++ x ∷ []) ledger media → HasTakenNext old new before next over ledger media front text
next_taken old new before next over x ledger media front text is cause joined same at taken = record {
  taken = subst (λ es. HasTaken new es ledger media) (sym (ap (with_joined new before) is ∙ cond-true (joins new before x) (before ++ x ∷ []) before joined)) taken;
  told = same ∙ sym (append-nil front) ∙ ap (λ o. front ++ left_text old (filed_of next) o) (sym cause);
  early = let so = offered_time old new next.entry x over is in omega (arith, at, so);
}
