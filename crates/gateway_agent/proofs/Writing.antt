-- What the journal of a store says of its entries, said of its exchanges.
use Rattle.std.proofs.Common.{◌≡◌, ℕ, ◌≤◌, List, [], ◌∷◌, ◌++◌, Option, length, take, drop, sym, ap, subst, ◌∙◌, arith}
use Rattle.std.specs.Prelude.{◌-◌}
use Rattle.std.specs.List.{range_with_len}
use Rattle.std.proofs.lemmas.List.FromFn.{length-range_with_len}
use Rattle.dots_host.specs.Media.{Media}
use Rattle.dots_host.specs.Becoming.{Leaves, RestsWith}
use Rattle.dots_settings.specs.Settings.{SettingsValue}
use Rattle.dots_history.specs.declared.entry.Entry.{Entry}
use Rattle.dots_gateway.specs.declared.exchange.Exchange.{Exchange}
use Rattle.slot_store.specs.Copying.{AreSlots}
use Rattle.slot_store.specs.StoreValues.{JournalValue}
use Rattle.slot_journal.specs.DiskEntries.{HasEither, Represents, entries_at}
use Rattle.gateway_agent.specs.Forms.{entry_of, entries_of}
use Rattle.gateway_agent.specs.Exchanges.{kept_at}
use Rattle.gateway_agent.specs.Stores.{StoreValue, IsOn}
use Rattle.gateway_agent.specs.Crashes.{HasOne}
use Rattle.gateway_agent.proofs.KeepingLemmas.{entries_more}
use Rattle.gateway_agent.proofs.Sizes.{range_part}
use Rattle.gateway_agent.proofs.Slots.{are_slots, last_there}

-- ---- a part of the numbers of all slots, from a place on to the number of slots in use
module _ (numbers : List ℕ) (slots first many : ℕ) (are : numbers ≡ range_with_len 0 slots) (low : first ≤ many) (fits : many ≤ slots) where
  pub part_is : take (many - first) (drop first numbers) ≡ range_with_len first (many - first)
  part_is = ap (λ ns. take (many - first) (drop first ns)) are ∙ range_part first (many - first) slots (omega (arith, low, fits))

  pub part_long : length (take (many - first) (drop first numbers)) ≡ many - first
  part_long = ap length part_is ∙ length-range_with_len first (many - first)

  pub part_slots : AreSlots many (take (many - first) (drop first numbers))
  part_slots = subst (AreSlots many) (sym part_is) (are_slots many first (many - first) (omega (arith, low)))

  pub part_entries : (xs few : List Exchange) → many ≡ length xs → drop first xs ≡ few
      → entries_at (entries_of xs) (take (many - first) (drop first numbers)) ≡ entries_of few
  part_entries xs few size is =
      ap (entries_at (entries_of xs)) (part_is ∙ ap (λ n. range_with_len first (n - first)) size)
      ∙ last_there xs first (omega (arith, low, size))
      ∙ ap entries_of is

-- ---- a compaction

pub leaves_kept : (start end : Option Media) (settings : SettingsValue) (now : ℕ) (store whole : StoreValue) (keep : List ℕ) → store ≡ whole
    → entries_at (entries_of store.exchanges) keep ≡ entries_of (kept_at now store.exchanges)
    → (RestsWith start (IsOn settings store) → Leaves start end (HasEither settings (entries_of store.exchanges) (entries_at (entries_of store.exchanges) keep)))
    → RestsWith start (IsOn settings whole) → Leaves start end (HasOne settings whole.exchanges (kept_at now whole.exchanges))
leaves_kept start end settings now store whole keep same kept leaves rests =
    subst
    (λ (s : StoreValue). Leaves start end (HasOne settings s.exchanges (kept_at now s.exchanges)))
    same
    (subst
    (λ (es : List Entry). Leaves start end (HasEither settings (entries_of store.exchanges) es))
    kept
    (leaves (subst (λ (s : StoreValue). RestsWith start (IsOn settings s)) (sym same) rests)))

pub rests_kept : (start end : Option Media) (settings : SettingsValue) (store whole : StoreValue) (journal : JournalValue) (few : List Exchange) (keep : List ℕ) → store ≡ whole
    → entries_at (entries_of store.exchanges) keep ≡ entries_of few
    → (RestsWith start (IsOn settings store) → RestsWith end (Represents journal settings (entries_at (entries_of store.exchanges) keep)))
    → RestsWith start (IsOn settings whole) → RestsWith end (Represents journal settings (entries_of few))
rests_kept start end settings store whole journal few keep same kept goes rests =
    subst
    (λ (es : List Entry). RestsWith end (Represents journal settings es))
    kept
    (goes (subst (λ (s : StoreValue). RestsWith start (IsOn settings s)) (sym same) rests))

-- ---- one entry more

pub leaves_appended : (start end : Option Media) (settings : SettingsValue) (store whole : StoreValue) (x : Exchange) → store ≡ whole
    → (RestsWith start (IsOn settings store) → Leaves start end (HasEither settings (entries_of store.exchanges) (entries_of store.exchanges ++ entry_of x ∷ [])))
    → RestsWith start (IsOn settings whole) → Leaves start end (HasOne settings whole.exchanges (whole.exchanges ++ x ∷ []))
leaves_appended start end settings store whole x same leaves rests =
    subst
    (λ (s : StoreValue). Leaves start end (HasOne settings s.exchanges (s.exchanges ++ x ∷ [])))
    same
    (subst
    (λ (es : List Entry). Leaves start end (HasEither settings (entries_of store.exchanges) es))
    (sym (entries_more store.exchanges x))
    (leaves (subst (λ (s : StoreValue). RestsWith start (IsOn settings s)) (sym same) rests)))

pub rests_appended : (start end : Option Media) (settings : SettingsValue) (store whole : StoreValue) (journal : JournalValue) (x : Exchange) (more : List Exchange) → store ≡ whole
    → more ≡ store.exchanges ++ x ∷ []
    → (RestsWith start (IsOn settings store) → RestsWith end (Represents journal settings (entries_of store.exchanges ++ entry_of x ∷ [])))
    → RestsWith start (IsOn settings whole) → RestsWith end (Represents journal settings (entries_of more))
rests_appended start end settings store whole journal x more same is goes rests =
    subst
    (λ (es : List Entry). RestsWith end (Represents journal settings es))
    (sym (ap entries_of is ∙ entries_more store.exchanges x))
    (goes (subst (λ (s : StoreValue). RestsWith start (IsOn settings s)) (sym same) rests))
