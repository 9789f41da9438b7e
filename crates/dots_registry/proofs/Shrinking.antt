-- What a compaction keeps, and that the registry represents it.
use Rattle.std.proofs.Common.{◌≡◌, ℕ, ◌+◌, ◌≤◌, true, cond, List, [], ◌∷◌, length, map, Option, refl, sym, ap, subst, ◌∙◌, arith}
use Rattle.std.specs.Prelude.{nat_lt, ◌==◌, option_map}
use Rattle.std.specs.List.{list_all}
use Rattle.std.proofs.lemmas.Bool.{cond_both}
use Rattle.std.proofs.lemmas.List.{length-map}
use Rattle.dots_history.specs.declared.entry.Entry.{Entry}
use Rattle.dots_history.specs.Histories.{Calm, tally, held}
use Rattle.dots_history.specs.Keeping.{names, kept}
use Rattle.dots_history.specs.Slots.{Rises, placed, number_in}
use Rattle.dots_history.specs.KeptPlaces.{union}
use Rattle.dots_history.proofs.Keeping.{kept_is_part}
use Rattle.dots_history.proofs.Parts.{part_list_all}
use Rattle.dots_history.proofs.ViewLemmas.{kept_held}
use Rattle.dots_history.specs.Filed.{Filed, entry_of, slot_of, refiled}
use Rattle.dots_settings.specs.Settings.{SettingsValue}
use Rattle.live_mitigations.specs.Numbers.{live_renumbered}
use Rattle.live_mitigations.specs.LiveValues.{LiveValue, is_inside}
use Rattle.live_mitigations.proofs.SlotsOfRows.{renumbered_represents}
use Rattle.held_resources.specs.declared.row.HeldSlot.{HeldSlot}
use Rattle.held_resources.specs.Rows.{renumbered as held_renumbered}
use Rattle.held_resources.specs.Tables.{Tables, is_known, tables_renumbered}
use Rattle.held_resources.proofs.Going.{rows_moved}
use Rattle.held_resources.proofs.HistoryTables.{same_represents}
use Rattle.coap_exchange.specs.Rings.{RingValue, ring_renumbered}
use Rattle.coap_exchange.proofs.HistoryRings.{moved_remembers, pairs_moved}
use Rattle.dots_registry.specs.Kept.{all_kept, kept_slots, last_slot, filed_kept, named_slots, filed}
use Rattle.dots_registry.specs.RegistryValues.{RegistryValue, Represents, IsOf, time_of, number_remembered}
use Rattle.dots_registry.specs.Filed.{RepresentsFiled, HasSlots, IsFiled, slots_kept, most_kept, is_alias_of}
use Rattle.dots_registry.proofs.Named.{kept_named}
use Rattle.dots_registry.proofs.Going.{rings_moved}
use Rattle.dots_registry.proofs.Moving.{same_entries, slots_moved, last_moved}
use Rattle.dots_registry.proofs.Staying.{kept_entries, kept_stay}
use Rattle.dots_registry.proofs.Numbering.{named_are, named_rise, kept_are_first, union_nil}
use Rattle.dots_registry.proofs.RegistryValues.{joined}
use Rattle.dots_registry.proofs.Rings.{still_signalled}
use Rattle.dots_registry.proofs.Keeping.{named_represents}
use Rattle.dots_registry.proofs.Filed.{few_kept, slots_still}

-- ---- the slots that are kept

-- a list with one more is longer by one at most
placed_few : (x : ℕ) (ys : List ℕ) → length (placed x ys) ≤ length ys + 1
placed_few x [] = omega arith
placed_few x (y ∷ ys) =
    let go = placed_few x ys in
    cond_both
    (nat_lt y x)
    (y ∷ placed x ys)
    (cond (y == x) (y ∷ ys) (x ∷ y ∷ ys))
    (λ zs. length zs ≤ length (y ∷ ys) + 1)
    (λ is. omega (arith, go))
    (λ out. cond_both (y == x) (y ∷ ys) (x ∷ y ∷ ys) (λ zs. length zs ≤ length (y ∷ ys) + 1) (λ same. omega arith) (λ other. omega arith))

union_few : (xs : List ℕ) → length (union xs []) ≤ length xs
union_few [] = omega arith
union_few (x ∷ xs) = let go = union_few xs in let more = placed_few x (union xs []) in omega (arith, go, more)

named_many : (n t : ℕ) (all : List Filed) → length (named_slots n t all) ≡ length (kept n t (map entry_of all))
named_many n t all =
    ap length (named_are n t all)
    ∙ length-map (filed_kept n t all) slot_of
    ∙ sym (length-map (filed_kept n t all) entry_of)
    ∙ ap length (kept_entries (names n t) [] all)

union_named : (registry : RegistryValue) (all : List Filed) → RepresentsFiled registry all
    → union (all_kept (slots_kept registry) registry.rings) [] ≡ union (named_slots (number_remembered registry) (time_of registry) all) []
union_named registry all represents =
    let tables = registry.live.tables in
    ap
    (λ o. union (all_kept (record { tables = tables; rows = registry.held.slots; last = o }) registry.rings) [])
    represents.slots.last
    ∙ ap (λ rows. union (kept_numbers rows) []) represents.slots.rows
    ∙ kept_named
    (number_remembered registry)
    (time_of registry)
    tables
    registry.rings
    all
    []
    (record {})
    represents.slots.live
    (subst (λ k. list_all (is_inside k) (map entry_of all) ≡ true) (sym represents.represents.live.are_tables.number) represents.represents.live.inside)
    represents.slots.messages
    represents.represents.signalled
  where
    kept_numbers : List HeldSlot → List ℕ
    kept_numbers rows = kept_slots registry.live.tables registry.rings (last_slot all) rows

pub few_slots : (registry : RegistryValue) → IsFiled registry → length (union (all_kept (slots_kept registry) registry.rings) []) ≤ most_kept registry
few_slots registry is =
    let n = number_remembered registry in
    let t = time_of registry in
    let same = ap length (union_named registry is.filed is.represents) in
    let fewer = union_few (named_slots n t is.filed) in
    let many = named_many n t is.filed in
    let few = few_kept registry is.filed is.represents in
    omega (arith, same, fewer, many, few)

pub slots_are_named : (registry : RegistryValue) (all : List Filed) → RepresentsFiled registry all → Rises (map slot_of all)
    → union (all_kept (slots_kept registry) registry.rings) [] ≡ named_slots (number_remembered registry) (time_of registry) all
slots_are_named registry all represents rises =
    union_named registry all represents
    ∙ union_nil
    (named_slots (number_remembered registry) (time_of registry) all)
    (named_rise (number_remembered registry) (time_of registry) all rises)

-- ---- new numbers

abbrev pub renumbered : List ℕ → RegistryValue → RegistryValue
renumbered keep registry =
    joined
    (live_renumbered keep registry.live)
    (tables_renumbered keep registry.held)
    (map (ring_renumbered keep) registry.rings)
    registry.filters
    (option_map (number_in keep) registry.last)

-- after all calls
pub renumbered_to : (keep : List ℕ) (inside old : RegistryValue) (live : LiveValue) (held : Tables) (rings : List RingValue) (last : Option ℕ) → inside ≡ old
    → live ≡ live_renumbered keep inside.live → held ≡ tables_renumbered keep inside.held → rings ≡ map (ring_renumbered keep) inside.rings
    → last ≡ option_map (number_in keep) inside.last
    → renumbered keep old ≡ joined live held rings inside.filters last
renumbered_to keep inside old live held rings last same live_is held_is rings_are last_is =
    let here = renumbered keep inside in
    ap (renumbered keep) (sym same)
    ∙ ap (λ l. joined l here.held here.rings inside.filters here.last) (sym live_is)
    ∙ ap (λ h. joined live h here.rings inside.filters here.last) (sym held_is)
    ∙ ap (λ rs. joined live held rs inside.filters here.last) (sym rings_are)
    ∙ ap (joined live held rings inside.filters) (sym last_is)

pub moved_of : (keep : List ℕ) (settings : SettingsValue) (registry : RegistryValue) → IsOf settings registry → IsOf settings (renumbered keep registry)
moved_of keep settings registry is_of = record {
  domains = is_of.domains;
  limits = is_of.limits;
  sizes = is_of.sizes;
  pairs = pairs_moved keep registry.rings ∙ is_of.pairs;
  filters = is_of.filters;
}

pub moved_represents : (keep : List ℕ) (registry : RegistryValue) (entries : List Entry) → Represents registry entries → Represents (renumbered keep registry) entries
moved_represents keep registry entries represents = record {
  live = renumbered_represents keep registry.live entries represents.live;
  held = same_represents (tables_renumbered keep registry.held) registry.held entries (record { sizes = refl; clients = refl; configurations = refl; signals = refl }) represents.held;
  remembered = moved_remembers (number_remembered registry) keep registry.rings entries represents.remembered;
  signalled = still_signalled registry.rings (map (ring_renumbered keep) registry.rings) entries (pairs_moved keep registry.rings) represents.signalled;
  filters = represents.filters;
  limits = represents.limits;
}

-- the same entries in slots with new numbers
pub moved_in : (keep : List ℕ) (registry : RegistryValue) (all : List Filed) → RepresentsFiled registry all → RepresentsFiled (renumbered keep registry) (map (refiled keep) all)
moved_in keep registry all represents =
    let same : map entry_of all ≡ map entry_of (map (refiled keep) all) = sym (same_entries keep all) in
    record {
      represents = subst (Represents (renumbered keep registry)) same (moved_represents keep registry (map entry_of all) represents.represents);
      slots = record {
        live = slots_moved (time_of registry) keep registry.live.tables all represents.slots.live;
        messages = rings_moved (number_remembered registry) keep registry.rings all represents.slots.messages;
        last = ap (option_map (number_in keep)) represents.slots.last ∙ sym (last_moved keep all);
        rows = ap (map (held_renumbered keep)) represents.slots.rows ∙ rows_moved keep all;
      };
      known = subst (λ es. list_all (is_known registry.held.sizes) es ≡ true) same represents.known;
      aliased = λ client. subst (λ es. tally (is_alias_of client) (held es) ≤ registry.live.limits.aliases) same (represents.aliased client);
    }

pub moved_room : (keep : List ℕ) (registry : RegistryValue) → HasSlots registry → HasSlots (renumbered keep registry)
moved_room keep registry room = slots_still registry (renumbered keep registry) refl refl refl refl room

-- what the view names is stood for
pub kept_in : (registry : RegistryValue) (all : List Filed) → RepresentsFiled registry all → Calm (map entry_of all)
    → RepresentsFiled registry (filed_kept (number_remembered registry) (time_of registry) all)
kept_in registry all represents calm =
    let n = number_remembered registry in
    let t = time_of registry in
    let es = map entry_of all in
    let same : kept n t es ≡ map entry_of (filed_kept n t all) = sym (kept_entries (names n t) [] all) in
    record {
      represents = subst (Represents registry) same (named_represents registry es calm represents.represents);
      slots = kept_stay n t (slots_kept registry) registry.rings all represents.represents.live.in_order calm represents.slots;
      known = subst (λ xs. list_all (is_known registry.held.sizes) xs ≡ true) same (part_list_all (is_known registry.held.sizes) (kept n t es) es (kept_is_part (names n t) [] es) represents.known);
      aliased = λ client.
          subst
          (λ xs. tally (is_alias_of client) (held xs) ≤ registry.live.limits.aliases)
          same
          (subst (λ hs. tally (is_alias_of client) hs ≤ registry.live.limits.aliases) (sym (kept_held n t [] es calm)) (represents.aliased client));
    }

pub compacted_in : (keep : List ℕ) (registry : RegistryValue) (all : List Filed) → RepresentsFiled registry all → Rises (map slot_of all) → Calm (map entry_of all)
    → keep ≡ named_slots (number_remembered registry) (time_of registry) all
    → RepresentsFiled (renumbered keep registry) (filed (kept (number_remembered registry) (time_of registry) (map entry_of all)))
compacted_in keep registry all represents rises calm is =
    let n = number_remembered registry in
    let t = time_of registry in
    let few = filed_kept n t all in
    subst
    (RepresentsFiled (renumbered keep registry))
    (ap (λ (ks : List ℕ). map (refiled ks) few) is ∙ kept_are_first n t all rises)
    (moved_in keep registry few (kept_in registry all represents calm))
