-- How the exchanges of a journal's entries are taken, and why a store doesn't open.
use Rattle.std.proofs.Common.{◌≡◌, ℕ, zero, suc, ◌+◌, ◌%◌, ◌<◌, ◌≤◌, true, false, List, [], ◌∷◌, ◌++◌, length, take, drop, get_or, Option, Some, None, Err, inl, inr, refl, sym, ap, subst, ◌∙◌, append_assoc, arith}
use Rattle.std.specs.Prelude.{◌⊎◌}
use Rattle.std.specs.List.{AllByRecursion}
use Rattle.std.proofs.lemmas.Bool.{false≢true}
use Rattle.dots_host.specs.Media.{Media}
use Rattle.dots_host.specs.Becoming.{RestsWith}
use Rattle.dots_settings.specs.Settings.{SettingsValue}
use Rattle.dots_history.specs.declared.entry.Entry.{Entry}
use Rattle.dots_gateway.specs.declared.exchange.Exchange.{Exchange}
use Rattle.slot_store.specs.Layout.{place_of, needed_of}
use Rattle.slot_store.proofs.Steps.{rests_as}
use Rattle.slot_store.specs.StoreValues.{JournalValue}
use Rattle.slot_journal.specs.declared.fault.JournalFault.{JournalFault}
use Rattle.slot_journal.specs.declared.fault.JournalFault.TheVariants as fault
use Rattle.slot_journal.specs.Sizes.{slots_of}
use Rattle.slot_journal.specs.DiskEntries.{HasRecord, HasEntries, Represents}
use Rattle.slot_journal.specs.Refused.{Refuses, IsSmallBy, Caused}
use Rattle.slot_journal.specs.Untaken.{IsFailure}
use Rattle.slot_journal.proofs.Crashing.{has_not_refused, one_history}
use Rattle.gateway_agent.specs.Forms.{entry_of, entries_of, exchange_in}
use Rattle.gateway_agent.specs.Exchanges.{IsStore, joins, most_young}
use Rattle.gateway_agent.specs.Crashes.{AreAlike, HasThe, HasYoung}
use Rattle.gateway_agent.specs.Refusing.{IsStray, RefusesEntries, RefusesStore}
use Rattle.gateway_agent.proofs.Forms.{back, only, some_same}
use Rattle.gateway_agent.proofs.KeepingLemmas.{entries_more}
use Rattle.gateway_agent.proofs.Orders.{joined}

pub record_at : (entries : List Entry) (place : ℕ) (e : Entry) → AllByRecursion HasRecord entries → place < length entries → e ≡ get_or entries place e → HasRecord e
record_at [] place e each inside is = absurd (omega (arith, inside))
record_at (first ∷ entries) zero e each inside is = subst HasRecord (sym is) each.0
record_at (first ∷ entries) (suc place) e each inside is = record_at entries place e each.1 (omega (arith, inside)) is

cut_at : {A : Type 0} (xs : List A) (n : ℕ) (x : A) → n < length xs → x ≡ get_or xs n x → xs ≡ take n xs ++ x ∷ drop (suc n) xs
cut_at [] n x less is = absurd (omega (arith, less))
cut_at (y ∷ xs) zero x less is = ap (λ z. z ∷ xs) (sym is)
cut_at (y ∷ xs) (suc n) x less is = ap (λ ys. y ∷ ys) (cut_at xs n x (omega (arith, less)) is)

pub is_stray : (most : ℕ) (entries : List Entry) (before : List Exchange) (e : Entry) (slot : ℕ) → IsStore most before → entries_of before ≡ take slot entries
    → slot < length entries → e ≡ get_or entries slot e → slot ≡ length before → ((x : Exchange) → exchange_in e ≡ Some x → joins most before x ≡ false)
    → IsStray most entries slot
is_stray most entries before e slot store front less is place stray = record {
  before = before;
  entry = e;
  later = drop (suc slot) entries;
  cut = cut_at entries slot e less is ∙ ap (λ es. es ++ e ∷ drop (suc slot) entries) (sym front);
  store = store;
  stray = stray;
  there = place;
}

take_one : {A : Type 0} (xs : List A) (n : ℕ) (x : A) → n < length xs → x ≡ get_or xs n x → take (suc n) xs ≡ take n xs ++ x ∷ []
take_one [] n x less is = absurd (omega (arith, less))
take_one (y ∷ xs) zero x less is = ap (λ z. z ∷ []) (sym is)
take_one (y ∷ xs) (suc n) x less is = ap (λ ys. y ∷ ys) (take_one xs n x (omega (arith, less)) is)

-- an entry more is an exchange more
pub taken_more : (entries : List Entry) (slot : ℕ) (before : List Exchange) (e : Entry) (x : Exchange) → AllByRecursion HasRecord entries → slot < length entries
    → e ≡ get_or entries slot e → entries_of before ≡ take slot entries → exchange_in e ≡ Some x → entries_of (before ++ x ∷ []) ≡ take (slot + 1) entries
taken_more entries slot before e x each less is front read =
    let one : slot + 1 ≡ suc slot = omega arith in
    entries_more before x
    ∙ ap (λ es. es ++ entry_of x ∷ []) front
    ∙ ap (λ z. take slot entries ++ z ∷ []) (sym (only e x (record_at entries slot e each less is).typed read))
    ∙ sym (take_one entries slot e less is)
    ∙ ap (λ n. take n entries) (sym one)

-- ---- why none opens

pub refuses_stray : (settings : SettingsValue) (extent : ℕ) (seen : ℕ → ℕ) (new : Option Media) (j : JournalValue) (entries : List Entry) (why : JournalFault)
    → j.slots ≡ slots_of settings → HasEntries settings seen entries → RestsWith new (Represents j settings entries) → RefusesEntries j entries why
    → RefusesStore settings extent seen new why
refuses_stray settings extent seen new j entries (fault.NotOurs at) slots image_has rests why =
    inr (record {
      entries = entries;
      image_has = image_has;
      slot = why.0;
      stray = subst (λ n. IsStray (most_young n) entries why.0) slots why.1;
      there = rests_as
          new
          (Represents j settings entries)
          (λ image. at ≡ place_of (slots_of settings) (image 48 % 2) why.0)
          (λ image represents.
          why.2
          ∙ ap (λ n. place_of n (j.selector % 2) why.0) slots
          ∙ ap (λ n. place_of (slots_of settings) (n % 2) why.0) (sym represents.represents.selector))
          rests;
    })
refuses_stray settings extent seen new j entries fault.NoMemory slots image_has rests why = absurd why
refuses_stray settings extent seen new j entries (fault.TooSmall needed found) slots image_has rests why = absurd why
refuses_stray settings extent seen new j entries (fault.SettingsChanged stored given) slots image_has rests why = absurd why
refuses_stray settings extent seen new j entries fault.DiskFault slots image_has rests why = absurd why

pub refuses_more : (settings : SettingsValue) (extent : ℕ) (seen : ℕ → ℕ) (new : Option Media) (why : JournalFault) → Refuses settings extent seen why
    → RefusesStore settings extent seen new why
refuses_more settings extent seen new (fault.NotOurs at) why = inl why
refuses_more settings extent seen new fault.NoMemory why = why
refuses_more settings extent seen new (fault.TooSmall needed found) why = why
refuses_more settings extent seen new (fault.SettingsChanged stored given) why = why
refuses_more settings extent seen new fault.DiskFault why = why

-- entries that aren't taken say nothing of the size of the disk, and are no fault of it
pub small_entries : (settings : SettingsValue) (j : JournalValue) (entries : List Entry) (extent : ℕ) (why : JournalFault)
    → RefusesEntries j entries why → IsSmallBy settings extent why
small_entries settings j entries extent (fault.NotOurs at) why = tt
small_entries settings j entries extent fault.NoMemory why = tt
small_entries settings j entries extent (fault.TooSmall needed found) why = absurd why
small_entries settings j entries extent (fault.SettingsChanged stored given) why = tt
small_entries settings j entries extent fault.DiskFault why = tt

pub caused_entries : (A : Type 0) (j : JournalValue) (entries : List Entry) (why : JournalFault) (before now : ℕ)
    → RefusesEntries j entries why → now ≡ before → Caused {A = A} before now (Err why)
caused_entries A j entries (fault.NotOurs at) before now why same = same
caused_entries A j entries fault.NoMemory before now why same = same
caused_entries A j entries (fault.TooSmall needed found) before now why same = absurd why
caused_entries A j entries (fault.SettingsChanged stored given) before now why same = absurd why
caused_entries A j entries fault.DiskFault before now why same = absurd why

-- ---- what holds a store isn't refused

-- the exchanges of a list of entries are one list
front_is : (most : ℕ) (done left before : List Exchange) (e : Entry) (later : List Entry) → IsStore most (done ++ left) → IsStore most (done ++ before)
    → entries_of left ≡ entries_of before ++ e ∷ later
    → (x : Exchange) × (exchange_in e ≡ Some x) × (joins most (done ++ before) x ≡ true)
front_is most done [] [] e later store other cut = absurd (omega (arith, ap length cut))
front_is most done [] (b ∷ before) e later store other cut = let long = ap length cut in absurd (omega (arith, long))
front_is most done (x ∷ left) [] e later store other cut =
    let is = store done x left refl in
    let parts = joined most done x is in
    let below = parts.below in (
      x,
      ap exchange_in (sym (ap (λ es. get_or es 0 e) cut)) ∙ back x parts.of_request (omega (arith, below)),
      subst (λ l. joins most l x ≡ true) (sym (nothing_behind done)) is,
    )
  where
    nothing_behind : (xs : List Exchange) → xs ++ [] ≡ xs
    nothing_behind [] = refl
    nothing_behind (y ∷ xs) = ap (λ l. y ∷ l) (nothing_behind xs)
front_is most done (x ∷ left) (b ∷ before) e later store other cut =
    let mine = joined most done x (store done x left refl) in
    let its = joined most done b (other done b before refl) in
    let mine_below = mine.below in
    let its_below = its.below in
    let same : x ≡ b = some_same x b
    (sym (back x mine.of_request (omega (arith, mine_below)))
    ∙ ap exchange_in (ap (λ es. get_or es 0 e) cut)
    ∙ back b its.of_request (omega (arith, its_below))) in
    let rest = front_is most (done ++ b ∷ []) left before e later
    (subst (IsStore most) (sym (append_assoc done (b ∷ []) left)) (subst (λ z. IsStore most (done ++ z ∷ left)) same store))
    (subst (IsStore most) (sym (append_assoc done (b ∷ []) before)) other)
    (ap (drop 1) cut) in
    (rest.0, rest.1, subst (λ l. joins most l rest.0 ≡ true) (append_assoc done (b ∷ []) before) rest.2)

stray_not : (most : ℕ) (exchanges : List Exchange) (slot : ℕ) → IsStore most exchanges → IsStray most (entries_of exchanges) slot → ⊥
stray_not most exchanges slot store stray =
    let found = front_is most [] exchanges stray.before stray.entry stray.later store stray.store stray.cut in
    false≢true (sym (stray.stray found.0 found.1) ∙ found.2)

pub fails_alone : (settings : SettingsValue) (extent : ℕ) (seen : ℕ → ℕ) (new : Option Media) (exchanges : List Exchange) (why : JournalFault)
    → RefusesStore settings extent seen new why → HasEntries settings seen (entries_of exchanges) → IsStore (most_young (slots_of settings)) exchanges
    → needed_of (slots_of settings) ≤ extent → IsFailure why
fails_alone settings extent seen new exchanges (fault.NotOurs at) (inl refuses) image_has store size =
    absurd (has_not_refused settings extent seen (entries_of exchanges) (fault.NotOurs at) image_has refuses tt)
fails_alone settings extent seen new exchanges (fault.NotOurs at) (inr stray) image_has store size =
    let same = one_history settings seen (entries_of exchanges) stray.entries image_has stray.image_has in
    absurd (stray_not (most_young (slots_of settings)) exchanges stray.slot store
    (subst (λ es. IsStray (most_young (slots_of settings)) es stray.slot) (sym same) stray.stray))
fails_alone settings extent seen new exchanges (fault.TooSmall needed found) refuses image_has store size =
    let small = refuses.2 in
    let all = refuses.0 in
    let is = refuses.1 in
    absurd (omega (arith, small, all, is, size))
fails_alone settings extent seen new exchanges (fault.SettingsChanged stored given) refuses image_has store size =
    absurd (has_not_refused settings extent seen (entries_of exchanges) (fault.SettingsChanged stored given) image_has refuses tt)
fails_alone settings extent seen new exchanges fault.DiskFault refuses image_has store size = tt
fails_alone settings extent seen new exchanges fault.NoMemory refuses image_has store size = tt

-- ---- one list of entries has one list of exchanges

same_behind : (most : ℕ) (done one other : List Exchange) → IsStore most (done ++ one) → IsStore most (done ++ other) → entries_of one ≡ entries_of other → one ≡ other
same_behind most done [] [] store others same = refl
same_behind most done [] (y ∷ other) store others same = let long = ap length same in absurd (omega (arith, long))
same_behind most done (x ∷ one) [] store others same = let long = ap length same in absurd (omega (arith, long))
same_behind most done (x ∷ one) (y ∷ other) store others same =
    let mine = joined most done x (store done x one refl) in
    let its = joined most done y (others done y other refl) in
    let mine_below = mine.below in
    let its_below = its.below in
    let first : x ≡ y = some_same x y
    (sym (back x mine.of_request (omega (arith, mine_below)))
    ∙ ap exchange_in (ap (λ es. get_or es 0 (entry_of x)) same)
    ∙ back y its.of_request (omega (arith, its_below))) in
    let rest = same_behind most (done ++ x ∷ []) one other
    (subst (IsStore most) (sym (append_assoc done (x ∷ []) one)) store)
    (subst (IsStore most) (sym (append_assoc done (x ∷ []) other)) (subst (λ z. IsStore most (done ++ z ∷ other)) (sym first) others))
    (ap (drop 1) same) in
    ap (λ z. z ∷ one) first ∙ ap (λ l. y ∷ l) rest

pub same_exchanges : (most : ℕ) (one other : List Exchange) → IsStore most one → IsStore most other → entries_of one ≡ entries_of other → one ≡ other
same_exchanges most one other = same_behind most [] one other

pub young_survive : (settings : SettingsValue) (most now : ℕ) (exchanges found : List Exchange) (x : Exchange) (image : ℕ → ℕ)
    → HasYoung settings most now exchanges x image → IsStore most found → HasThe settings found image
    → AreAlike now found exchanges ⊎ AreAlike now found (exchanges ++ x ∷ [])
young_survive settings most now exchanges found x image left store image_has =
    subst
    (λ l. AreAlike now l exchanges ⊎ AreAlike now l (exchanges ++ x ∷ []))
    (same_exchanges most left.some found left.store store (one_history settings image (entries_of left.some) (entries_of found) left.image_has image_has))
    left.alike
