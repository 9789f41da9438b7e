-- How a ledger begins by what a disk holds.
use Rattle.std.proofs.Common.{◌≡◌, ℕ, zero, suc, ◌%◌, ◌<◌, ◌≤◌, true, false, ◌&&◌, List, [], ◌∷◌, ◌++◌, length, take, drop, get_or, map, Option, inl, inr, Err, refl, sym, ap, subst, ◌∙◌, arith}
use Rattle.std.specs.Prelude.{nat_le, nat_lt, ◌^◌, max}
use Rattle.std.specs.List.{AllByRecursion}
use Rattle.std.proofs.lemmas.Bool.{false≢true, and_parts, leb-true, le-leb, ltb-true, false_from_ne_true}
use Rattle.std.proofs.Math.Nat.{max-le}
use Rattle.dots_host.specs.Media.{Media}
use Rattle.dots_host.specs.Becoming.{RestsWith}
use Rattle.dots_settings.specs.Settings.{SettingsValue}
use Rattle.dots_history.specs.declared.entry.Entry.{Entry}
use Rattle.dots_history.specs.Bounds.{within_bounds}
use Rattle.dots_history.specs.Histories.{mitigations}
use Rattle.live_mitigations.specs.Ends.{never}
use Rattle.dots_history.specs.Calm.{came_rightly}
use Rattle.dots_history.specs.Fits.{last_or, last_time, fits, joins, is_calm, has_one_peer}
use Rattle.dots_history.proofs.CalmCuts.{calm_more, calm_parts}
use Rattle.dots_history.proofs.Composing.{kept_refl}
use Rattle.dots_registry.proofs.Numbering.{filed_entries}
use Rattle.slot_store.specs.Layout.{place_of, needed_of}
use Rattle.slot_store.proofs.Steps.{rests_as}
use Rattle.slot_store.specs.StoreValues.{JournalValue}
use Rattle.slot_journal.specs.declared.fault.JournalFault.{JournalFault}
use Rattle.slot_journal.specs.declared.fault.JournalFault.TheVariants as fault
use Rattle.slot_journal.specs.Sizes.{slots_of}
use Rattle.slot_journal.specs.DiskEntries.{HasRecord, HasEntries}
use Rattle.slot_journal.specs.DiskEntries as journal
use Rattle.slot_journal.specs.Refused.{Refuses, IsSmallBy, Caused}
use Rattle.slot_journal.proofs.Crashing.{has_not_refused, one_history}
use Rattle.dots_registry.specs.RegistryValues.{RegistryValue, IsOf, time_of, number_remembered}
use Rattle.dots_registry.specs.RegistryValues as registry
use Rattle.dots_registry.specs.Filed.{most_kept}
use Rattle.dots_registry.specs.Fitting.{fits_now}
use Rattle.dots_registry.proofs.Conditions.{timed_within}
use Rattle.dots_registry.specs.LedgerValues.{LedgerValue, Represents}
use Rattle.dots_registry.specs.Beginning.{joins_now}
use Rattle.dots_registry.specs.Gathering.{GatheringValue, Gathers, HasGathered, IsReady, with_rows_of}
use Rattle.dots_registry.proofs.Gatherings.{is_of_rows, room_rows}
use Rattle.slot_journal.specs.Untaken.{IsApart, RefusesEntries, RefusesLedger, IsFailure}

-- ---- one entry

last_more : (t : ℕ) (entries : List Entry) (e : Entry) → last_or t (entries ++ e ∷ []) ≡ e.time
last_more t [] e = refl
last_more t (x ∷ entries) e = last_more x.time entries e

-- what the tables say of an entry at their time is whether it joins
pub joined : (settings : SettingsValue) (r : RegistryValue) (before : List Entry) (e : Entry) → time_of r ≡ e.time → within_bounds e ≡ true
    → joins_now settings r before e ≡ joins settings before e
joined settings r before e at within =
    ap (λ b. b && (came_rightly e && has_one_peer e (mitigations (time_of r) before))) now
    ∙ ap (λ t. fits settings before e && (came_rightly e && has_one_peer e (mitigations t before))) at
  where
    now : fits_now settings r before e ≡ fits settings before e
    now =
        ap (λ b. b && (nat_le (time_of r) e.time && fits settings before e)) within
        ∙ ap (λ b. b && fits settings before e) (le-leb (time_of r) e.time (omega (arith, at)))

pub time_within : (e : Entry) → within_bounds e ≡ true → e.time < never
time_within e within = let less = ltb-true e.time 281474976710656 (timed_within e within) in omega (arith, less)

-- an entry before the time doesn't join
pub early_apart : (settings : SettingsValue) (before : List Entry) (e : Entry) (r : GatheringValue) → HasGathered settings before r → e.time < time_of r.tables
    → joins settings before e ≡ false
early_apart settings before e r taken early = false_from_ne_true (joins settings before e) (λ is. by_time (fits_parts is))
  where
    fits_parts : joins settings before e ≡ true → last_time before ≤ e.time
    fits_parts is =
        let fit = and_parts (fits settings before e) (came_rightly e && has_one_peer e (mitigations e.time before)) is in
        let front = and_parts _ _ fit.0 in
        let times = and_parts _ _ front.0 in
        let first = and_parts (nat_le (last_time before) e.time) (nat_lt e.time (2 ^ 48)) times.0 in
        leb-true (last_time before) e.time first.0

    by_time : last_time before ≤ e.time → ⊥
    by_time late = let same = taken.time in omega (arith, early, late, same)

-- what joins fits
pub fits_joined : (settings : SettingsValue) (tables : RegistryValue) (before : List Entry) (e : Entry) → joins_now settings tables before e ≡ true
    → fits_now settings tables before e ≡ true
fits_joined settings tables before e is = (and_parts (fits_now settings tables before e) (came_rightly e && has_one_peer e (mitigations (time_of tables) before)) is).0

-- one entry more
pub gathered_more : (settings : SettingsValue) (before : List Entry) (e : Entry) (old new : GatheringValue) → HasGathered settings before old
    → Gathers (before ++ e ∷ []) new → IsOf settings new.tables → time_of new.tables ≡ e.time → joins settings before e ≡ true
    → HasGathered settings (before ++ e ∷ []) new
gathered_more settings before e old new gathered gathers is_of at is = record {
  gathers = gathers;
  is_of = is_of;
  calm = calm_more settings before e gathered.calm is;
  time = at ∙ sym (last_more 0 before e);
}

-- ---- all of them

pub same_items : {A : Type 0} (xs : List A) → map (λ x. x) xs ≡ xs
same_items [] = refl
same_items (x ∷ xs) = ap (λ ys. x ∷ ys) (same_items xs)

cut_at : {A : Type 0} (xs : List A) (n : ℕ) (x : A) → n < length xs → x ≡ get_or xs n x → xs ≡ take n xs ++ x ∷ drop (suc n) xs
cut_at [] n x less is = absurd (omega (arith, less))
cut_at (y ∷ xs) zero x less is = ap (λ z. z ∷ xs) (sym is)
cut_at (y ∷ xs) (suc n) x less is = ap (λ ys. y ∷ ys) (cut_at xs n x (omega (arith, less)) is)

pub is_apart : (settings : SettingsValue) (entries before : List Entry) (e : Entry) (slot : ℕ) (r : GatheringValue) → HasGathered settings before r
    → map (λ x. x) before ≡ take (length before) entries → length before < length entries → e ≡ get_or entries (length before) e → slot ≡ length before
    → joins settings before e ≡ false → IsApart settings entries slot
is_apart settings entries before e slot r taken front less is place out = record {
  before = before;
  entry = e;
  later = drop (suc (length before)) entries;
  cut = cut_at entries (length before) e less is ∙ ap (λ xs. xs ++ e ∷ drop (suc (length before)) entries) (sym front ∙ same_items before);
  calm = taken.calm;
  apart = out;
  there = place;
}

-- ---- the whole

last_small : (t : ℕ) (entries : List Entry) → t < 281474976710656 → AllByRecursion HasRecord entries → last_or t entries < 281474976710656
last_small t [] less each = less
last_small t (e ∷ entries) less each = last_small e.time entries (ltb-true e.time 281474976710656 (timed_within e each.0.within)) each.1

pub time_small : (settings : SettingsValue) (entries : List Entry) (r : GatheringValue) (at now : ℕ) → HasGathered settings entries r → AllByRecursion HasRecord entries
    → at < 2 ^ 48 → now ≡ max at (time_of r.tables) → now < never
time_small settings entries r at now taken each early is =
    let last = last_small 0 entries (omega arith) each in
    let same = taken.time in
    let most = max-le {a = at} {b = time_of r.tables} {k = 281474976710656} (omega (arith, early)) (omega (arith, last, same)) in
    omega (arith, is, most)

pub ready_of : (settings : SettingsValue) (entries : List Entry) (at t : ℕ) (taken ticked : GatheringValue) (tables : RegistryValue) → HasGathered settings entries taken
    → Gathers entries ticked → IsOf settings ticked.tables → t ≡ time_of taken.tables → time_of ticked.tables ≡ max at t
    → tables ≡ with_rows_of entries ticked.tables → IsReady settings entries at tables
ready_of settings entries at t taken ticked tables gathered gathers is_of before later same =
    subst
    (IsReady settings entries at)
    (sym same)
    (record {
      is_of = is_of_rows settings entries ticked.tables is_of;
      represents_filed = gathers.awaits.represents_filed;
      room = room_rows entries ticked.tables gathers.awaits.room;
      calm = gathered.calm;
      time = later ∙ ap (max at) (before ∙ gathered.time);
    })

pub represents_begun : (settings : SettingsValue) (entries : List Entry) (at : ℕ) (ledger : LedgerValue) → IsReady settings entries at ledger.registry
    → ledger.journal.used ≡ length entries → ledger.journal.slots ≡ slots_of settings
    → ((r : RegistryValue) → IsOf settings r → most_kept r < slots_of settings) → Represents ledger settings entries entries
represents_begun settings entries at ledger ready used slots few =
    let less = few ledger.registry ready.is_of in
    record {
      is_of = ready.is_of;
      registry = subst (registry.Represents ledger.registry) (filed_entries entries) ready.represents_filed.represents;
      represents_filed = ready.represents_filed;
      calm = ready.calm;
      kept = kept_refl (number_remembered ledger.registry) (time_of ledger.registry) entries;
      used = used;
      free = omega (arith, less, slots);
    }

-- ---- why none begins

pub refuses_stray : (settings : SettingsValue) (extent : ℕ) (seen : ℕ → ℕ) (new : Option Media) (j : JournalValue) (entries : List Entry) (why : JournalFault)
    → j.slots ≡ slots_of settings → HasEntries settings seen entries → RestsWith new (journal.Represents j settings entries) → RefusesEntries settings j entries why
    → RefusesLedger settings extent seen new why
refuses_stray settings extent seen new j entries (fault.NotOurs at) slots image_has rests why =
    inr (record {
      entries = entries;
      image_has = image_has;
      slot = why.0;
      apart = why.1;
      there = rests_as
          new
          (journal.Represents j settings entries)
          (λ image. at ≡ place_of (slots_of settings) (image 48 % 2) why.0)
          (λ image represents.
          why.2
          ∙ ap (λ n. place_of n (j.selector % 2) why.0) slots
          ∙ ap (λ n. place_of (slots_of settings) (n % 2) why.0) (sym represents.represents.selector))
          rests;
    })
refuses_stray settings extent seen new j entries fault.NoMemory slots image_has rests why = tt
refuses_stray settings extent seen new j entries (fault.TooSmall needed found) slots image_has rests why = absurd why
refuses_stray settings extent seen new j entries (fault.SettingsChanged stored given) slots image_has rests why = absurd why
refuses_stray settings extent seen new j entries fault.DiskFault slots image_has rests why = absurd why

pub refuses_more : (settings : SettingsValue) (extent : ℕ) (seen : ℕ → ℕ) (new : Option Media) (why : JournalFault) → Refuses settings extent seen why
    → RefusesLedger settings extent seen new why
refuses_more settings extent seen new (fault.NotOurs at) why = inl why
refuses_more settings extent seen new fault.NoMemory why = why
refuses_more settings extent seen new (fault.TooSmall needed found) why = why
refuses_more settings extent seen new (fault.SettingsChanged stored given) why = why
refuses_more settings extent seen new fault.DiskFault why = why

-- a disk that holds calm entries isn't refused
pub fails_alone : (settings : SettingsValue) (extent : ℕ) (seen : ℕ → ℕ) (new : Option Media) (entries : List Entry) (why : JournalFault)
    → RefusesLedger settings extent seen new why → HasEntries settings seen entries → is_calm settings entries ≡ true → needed_of (slots_of settings) ≤ extent
    → IsFailure why
fails_alone settings extent seen new entries (fault.NotOurs at) (inl refuses) image_has calm size =
    absurd (has_not_refused settings extent seen entries (fault.NotOurs at) image_has refuses tt)
fails_alone settings extent seen new entries (fault.NotOurs at) (inr stray) image_has calm size =
    let apart = stray.apart in
    let same = one_history settings seen entries stray.entries image_has stray.image_has ∙ apart.cut in
    let parts = calm_parts settings apart.before apart.entry apart.later (subst (λ es. is_calm settings es ≡ true) same calm) in
    absurd (false≢true (sym apart.apart ∙ parts.1))
fails_alone settings extent seen new entries (fault.TooSmall needed found) refuses image_has calm size =
    let small = refuses.2 in
    let all = refuses.0 in
    let is = refuses.1 in
    absurd (omega (arith, small, all, is, size))
fails_alone settings extent seen new entries (fault.SettingsChanged stored given) refuses image_has calm size =
    absurd (has_not_refused settings extent seen entries (fault.SettingsChanged stored given) image_has refuses tt)
fails_alone settings extent seen new entries fault.DiskFault refuses image_has calm size = tt
fails_alone settings extent seen new entries fault.NoMemory refuses image_has calm size = tt

-- entries that aren't taken say nothing of the size of the disk, and are no fault of it
pub small_entries : (settings : SettingsValue) (j : JournalValue) (entries : List Entry) (extent : ℕ) (why : JournalFault)
    → RefusesEntries settings j entries why → IsSmallBy settings extent why
small_entries settings j entries extent (fault.NotOurs at) why = tt
small_entries settings j entries extent fault.NoMemory why = tt
small_entries settings j entries extent (fault.TooSmall needed found) why = absurd why
small_entries settings j entries extent (fault.SettingsChanged stored given) why = tt
small_entries settings j entries extent fault.DiskFault why = tt

pub caused_entries : (A : Type 0) (settings : SettingsValue) (j : JournalValue) (entries : List Entry) (why : JournalFault) (before now : ℕ)
    → RefusesEntries settings j entries why → now ≡ before → Caused {A = A} before now (Err why)
caused_entries A settings j entries (fault.NotOurs at) before now why same = same
caused_entries A settings j entries fault.NoMemory before now why same = same
caused_entries A settings j entries (fault.TooSmall needed found) before now why same = absurd why
caused_entries A settings j entries (fault.SettingsChanged stored given) before now why same = absurd why
caused_entries A settings j entries fault.DiskFault before now why same = absurd why
