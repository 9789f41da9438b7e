-- Tables that await the rows of mitigations go on to be those of the entries that are taken.
use Rattle.std.specs.Prelude.{◌^◌}
use Rattle.std.proofs.Common.{◌≡◌, ℕ, suc, ◌<◌, ◌≤◌, true, false, List, [], ◌∷◌, ◌++◌, map, length, Some, refl, sym, ap, subst, ◌∙◌, arith}
use Rattle.acl_lists.specs.declared.acl.Acl.{Acl}
use Rattle.dots_settings.specs.Settings.{SettingsValue}
use Rattle.dots_settings.specs.declared.limits.Limits.{Limits}
use Rattle.dots_history.specs.declared.entry.Entry.{Entry}
use Rattle.dots_history.specs.Histories.{held}
use Rattle.dots_history.specs.Held.{acls_of}
use Rattle.dots_history.specs.Rows.{plain_rows, acl_rows}
use Rattle.dots_history.specs.Tables.{bare, client_of}
use Rattle.dots_history.specs.Filed.{Filed, entry_of}
use Rattle.live_mitigations.specs.LiveValues.{LiveValue, SameButRows, SlotsAre, SlotsCome, ComesTo, rows_for, puts, keeps_limits}
use Rattle.live_mitigations.specs.LiveValues as lives
use Rattle.held_resources.specs.Rows.{rows_with}
use Rattle.held_resources.specs.Tables.{Tables, tables_with}
use Rattle.held_resources.specs.Tables as things
use Rattle.held_resources.specs.Accepting as accepting
use Rattle.held_resources.proofs.HistoryTables.{represents_with}
use Rattle.held_resources.proofs.Lawful.{same_held}
use Rattle.coap_exchange.specs.Rings.{RingValue}
use Rattle.installed_filters.specs.Filters.{FiltersValue, filters_written}
use Rattle.installed_filters.specs.HistoryRows.{acl_room_of, scrub_room_of}
use Rattle.installed_filters.proofs.OneByOne.{rest_written, rest_same, rest_number}
use Rattle.installed_filters.proofs.Room.{lists_fit}
use Rattle.dots_registry.specs.Kept.{filed}
use Rattle.dots_registry.specs.RegistryValues.{RegistryValue, IsOf, Represents, time_of, has_ring, silent, rings_with}
use Rattle.dots_registry.specs.Filed.{RepresentsFiled, HasSlots}
use Rattle.dots_registry.specs.Fitting.{FitsIn, fits_now}
use Rattle.dots_registry.specs.Gathering.{GatheringValue, domain_of, rows_at, with_rows_of, lists_at_rest, AwaitsRows, Gathers, HasGathered, FitsSome}
use Rattle.dots_registry.specs.Awaited.{Awaits}
use Rattle.dots_registry.proofs.Filed.{filed_later, filed_more, slots_still, room_more, quiet_rows, name_here, room_here}
use Rattle.dots_registry.proofs.Filtering.{limits_after}
use Rattle.dots_registry.proofs.Numbering.{filed_entries, filed_more as filed_next}
use Rattle.dots_registry.proofs.RegistryValues.{joined, Filtered, fits_ring, represents_later, put_inside, put_room, put_represents, write_represents, held_fits, accepted, puts_kind}

-- ---- the tables with the rows

pub is_of_rows : (settings : SettingsValue) (entries : List Entry) (tables : RegistryValue) → IsOf settings tables → IsOf settings (with_rows_of entries tables)
is_of_rows settings entries tables is_of = record {
  domains = is_of.domains;
  limits = is_of.limits;
  sizes = is_of.sizes;
  pairs = is_of.pairs;
  filters = record { scrubs = is_of.filters.scrubs; acls = is_of.filters.acls };
}

pub room_rows : (entries : List Entry) (tables : RegistryValue) → HasSlots tables → HasSlots (with_rows_of entries tables)
room_rows entries tables room = record { domains = room.domains; held = room.held }

pub stands : (entries : List Entry) (tables : RegistryValue) → AwaitsRows entries tables → Represents (with_rows_of entries tables) entries
stands entries tables awaits = subst (Represents (with_rows_of entries tables)) (filed_entries entries) awaits.represents_filed.represents

pub fits_rows : (settings : SettingsValue) (entries : List Entry) (tables : RegistryValue) (e : Entry) → IsOf settings tables → AwaitsRows entries tables
    → fits_now settings tables entries e ≡ true → FitsIn (with_rows_of entries tables) e
fits_rows settings entries tables e is_of awaits fits = record {
  settings = settings;
  entries = entries;
  is_of = is_of_rows settings entries tables is_of;
  represents = stands entries tables awaits;
  fits = fits;
}

-- ---- what is asked of an entry that is taken

of_some : (inside : RegistryValue) (e : Entry) (some : FitsSome inside e) → FitsIn (with_rows_of some.entries inside) e
of_some inside e some = fits_rows some.settings some.entries inside e some.is_of some.awaits some.fits

here_some : (inside tables : RegistryValue) (e : Entry) → inside ≡ tables → FitsSome tables e → FitsSome inside e
here_some inside tables e same some = subst (λ r. FitsSome r e) (sym same) some

pub ring_there : (inside tables : RegistryValue) (e : Entry) → inside ≡ tables → FitsSome tables e → has_ring inside.rings e ≡ true
ring_there inside tables e same some =
    let here = here_some inside tables e same some in
    fits_ring (with_rows_of here.entries inside) (with_rows_of here.entries inside) e refl (of_some inside e here)

pub put_there : (inside tables : RegistryValue) (e entry : Entry) → inside ≡ tables → entry ≡ silent e → FitsSome tables e → puts e ≡ true
    → entry.domain < inside.live.domains
put_there inside tables e entry same is some put =
    let here = here_some inside tables e same some in
    put_inside (with_rows_of here.entries inside) (with_rows_of here.entries inside) e entry refl is (of_some inside e here) put

pub put_fits_there : (inside tables : RegistryValue) (e entry : Entry) → inside ≡ tables → entry ≡ silent e → FitsSome tables e → puts e ≡ true
    → keeps_limits inside.live.limits entry (rows_for inside.live entry.domain) ≡ true
put_fits_there inside tables e entry same is some put =
    let here = here_some inside tables e same some in
    put_room (with_rows_of here.entries inside) (with_rows_of here.entries inside) e entry refl is (of_some inside e here) put

pub held_there : (inside tables : RegistryValue) (e entry : Entry) → inside ≡ tables → entry ≡ silent e → FitsSome tables e → accepting.FitsIn inside.held entry
held_there inside tables e entry same is some =
    let here = here_some inside tables e same some in
    held_fits (with_rows_of here.entries inside) (with_rows_of here.entries inside) e entry refl is (of_some inside e here)

pub name_there : (inside tables : RegistryValue) (e entry : Entry) → inside ≡ tables → entry ≡ silent e → FitsSome tables e → length entry.cuid ≤ 64
name_there inside tables e entry same is some =
    let here = here_some inside tables e same some in
    name_here (with_rows_of here.entries inside) (with_rows_of here.entries inside) e entry refl is (of_some inside e here)

pub slot_there : (inside tables : RegistryValue) (slot : ℕ) (e entry : Entry) → inside ≡ tables → FitsSome tables e → e.time ≡ time_of tables → entry ≡ silent e
    → length (rows_with (record { entry = entry; slot = slot }) inside.held.slots.rows) ≤ inside.held.slots.room
slot_there inside tables slot e entry same some at is =
    let here = here_some inside tables e same some in
    room_here
    (with_rows_of here.entries inside)
    (with_rows_of here.entries inside)
    slot
    e
    entry
    refl
    (record { filed = filed here.entries; represents = here.awaits.represents_filed; room = room_rows here.entries inside here.awaits.room })
    (of_some inside e here)
    (at ∙ sym (ap time_of same))
    is

pub lists_there : (inside tables : RegistryValue) (e : Entry) (acls : List Acl) → inside ≡ tables → FitsSome tables e → e.time ≡ time_of tables
    → ((entries : List Entry) → things.Represents inside.held entries → acls ≡ acls_of (client_of e) (held entries))
    → length (filters_written false acls e inside.filters).acls ≤ inside.filters.acl_room
lists_there inside tables e acls same some at are =
    let here = here_some inside tables e same some in
    let r = with_rows_of here.entries inside in
    let represents = stands here.entries inside here.awaits in
    let fits = of_some inside e here in
    let things_after = represents_with inside.held here.entries e 0 represents.held (accepted r e fits) in
    let most = lists_fit
    (tables_with (record { entry = e; slot = 0 }) inside.held).sizes
    inside.live.limits
    inside.live.time
    (here.entries ++ e ∷ [])
    things_after.known
    things_after.owned
    (limits_after r e here.entries fits (at ∙ sym (ap time_of same)) represents) in
    let number = rest_number inside.live.time (here.entries ++ e ∷ []) in
    let long = ap length (rest_written acls e here.entries inside.filters (filters_written false acls e inside.filters) here.awaits.lists (are here.entries represents.held) refl) in
    let room : inside.filters.acl_room ≡ acl_room_of inside.held.sizes.domains inside.live.limits =
    here.is_of.filters.acls
    ∙ sym (ap (λ (s : things.Sizes). acl_room_of s.domains inside.live.limits) here.is_of.sizes ∙ ap (acl_room_of (length here.settings.domains)) here.is_of.limits) in
    omega (arith, most, number, long, room)

-- ---- one entry more

-- the rows are phrased anew for each list of entries
filtered_now : (inside : RegistryValue) (live : LiveValue) (filters : FiltersValue) (before : List Entry) (e : Entry) → FitsIn (with_rows_of before inside) e
    → e.time ≡ time_of inside → SameButRows inside.live live → AwaitsRows before inside
    → Filtered (with_rows_of before inside) (rows_at live.time (before ++ e ∷ []) filters) (before ++ e ∷ [])
filtered_now inside live filters before e fits at but awaits = record {
  filters_are = record { scrubs = ap (λ t. plain_rows t (before ++ e ∷ [])) but.time; acls = ap (λ t. acl_rows t (before ++ e ∷ [])) but.time };
  limits_are = limits_after (with_rows_of before inside) e before fits at (stands before inside awaits);
}

awaits_more : (inside : RegistryValue) (live : LiveValue) (held_now : Tables) (rings : List RingValue) (filters : FiltersValue) (slot : ℕ) (before : List Entry) (e : Entry)
    → FitsIn (with_rows_of before inside) e → AwaitsRows before inside → slot ≡ length before → SameButRows inside.live live
    → held_now.sizes ≡ inside.held.sizes → held_now.slots.room ≡ inside.held.slots.room → rings ≡ rings_with slot e inside.rings
    → held_now.slots.rows ≡ rows_with (record { entry = e; slot = slot }) inside.held.slots.rows
    → (lives.Represents inside.live (map entry_of (filed before)) → SlotsAre inside.live.time inside.live.tables (filed before)
    → SlotsAre inside.live.time live.tables (filed before ++ record { entry = e; slot = slot } ∷ []))
    → Represents (joined live held_now rings (rows_at live.time (before ++ e ∷ []) filters) (Some slot)) (before ++ e ∷ [])
    → filters.scrubs ≡ [] → filters.acls ≡ lists_at_rest (before ++ e ∷ []) → AwaitsRows (before ++ e ∷ []) (joined live held_now rings filters (Some slot))
awaits_more inside live held_now rings filters slot before e fits awaits place but sizes rooms made written slots_are after none lists =
    let r = with_rows_of before inside in
    let made_rows = rows_at live.time (before ++ e ∷ []) filters in
    let new = joined live held_now rings made_rows (Some slot) in
    record {
      represents_filed = subst
          (RepresentsFiled new)
          (ap (λ (k : ℕ). filed before ++ record { entry = e; slot = k } ∷ []) place ∙ sym (filed_next before e))
          (filed_more
          r
          r
          live
          held_now
          rings
          made_rows
          slot
          e
          (filed before)
          refl
          fits
          but
          sizes
          made
          written
          slots_are
          (λ old. subst (λ es. Represents new (es ++ e ∷ [])) (sym (filed_entries before)) after)
          awaits.represents_filed);
      room = room_more inside live held_now rings filters (Some slot) but sizes rooms awaits.room;
      scrubs = none;
      lists = lists;
    }

pub awaits_put : (inside tables : RegistryValue) (live : LiveValue) (rings : List RingValue) (slot : ℕ) (settings : SettingsValue) (before : List Entry) (e entry : Entry)
    → inside ≡ tables → IsOf settings tables → AwaitsRows before tables → slot ≡ length before → fits_now settings tables before e ≡ true
    → e.time ≡ time_of tables → puts e ≡ true → entry ≡ silent e → SameButRows inside.live live → rings ≡ rings_with slot e inside.rings
    → ((x : Entry) → bare x ≡ bare entry → lives.Represents inside.live before → lives.Represents live (before ++ x ∷ []))
    → ((all : List Filed) (x : Entry) → bare x ≡ bare entry → lives.Represents inside.live (map entry_of all) → SlotsAre inside.live.time inside.live.tables all
    → SlotsAre inside.live.time live.tables (all ++ record { entry = x; slot = slot } ∷ []))
    → AwaitsRows (before ++ e ∷ []) (joined live inside.held rings inside.filters (Some slot))
awaits_put inside tables live rings slot settings before e entry same is_of awaits place fits at put is but made alive slots_are =
    let r = with_rows_of before inside in
    let here : AwaitsRows before inside = subst (AwaitsRows before) (sym same) awaits in
    let fits_in : FitsIn r e = fits_rows settings before inside e (subst (IsOf settings) (sym same) is_of) here (ap (λ t. fits_now settings t before e) same ∙ fits) in
    let filtered = filtered_now inside live inside.filters before e fits_in (at ∙ sym (ap time_of same)) but here in
    awaits_more
    inside
    live
    inside.held
    rings
    inside.filters
    slot
    before
    e
    fits_in
    here
    place
    but
    refl
    refl
    made
    (quiet_rows (record { entry = e; slot = slot }) inside.held.slots.rows put)
    (slots_are (filed before) e (ap bare (sym is)))
    (put_represents r r live rings (rows_at live.time (before ++ e ∷ []) inside.filters) (Some slot) slot e entry before refl is fits_in put but made alive (λ old. filtered)
    (stands before inside here))
    here.scrubs
    (here.lists ∙ rest_same e before (same_held e before (puts_kind e put).0))

pub awaits_write : (inside tables : RegistryValue) (live : LiveValue) (held_now : Tables) (rings : List RingValue) (filters : FiltersValue) (acls : List Acl) (slot : ℕ) (settings : SettingsValue)
    (before : List Entry) (e entry : Entry)
    → inside ≡ tables → IsOf settings tables → AwaitsRows before tables → slot ≡ length before → fits_now settings tables before e ≡ true
    → e.time ≡ time_of tables → entry ≡ silent e → SameButRows inside.live live → held_now.sizes ≡ inside.held.sizes
    → held_now.slots.room ≡ inside.held.slots.room → rings ≡ rings_with slot e inside.rings
    → held_now.slots.rows ≡ rows_with (record { entry = e; slot = slot }) inside.held.slots.rows
    → (lives.Represents inside.live before → lives.Represents live (before ++ e ∷ []))
    → (things.Represents inside.held before → things.Represents held_now (before ++ entry ∷ []))
    → ((all : List Filed) → lives.Represents inside.live (map entry_of all) → SlotsAre inside.live.time inside.live.tables all
    → SlotsAre inside.live.time live.tables (all ++ record { entry = e; slot = slot } ∷ []))
    → (things.Represents inside.held before → acls ≡ acls_of (client_of e) (held before)) → filters ≡ filters_written false acls e inside.filters
    → AwaitsRows (before ++ e ∷ []) (joined live held_now rings filters (Some slot))
awaits_write inside tables live held_now rings filters acls slot settings before e entry same is_of awaits place fits at is but sizes rooms made written alive kept slots_are are lists =
    let r = with_rows_of before inside in
    let here : AwaitsRows before inside = subst (AwaitsRows before) (sym same) awaits in
    let fits_in : FitsIn r e = fits_rows settings before inside e (subst (IsOf settings) (sym same) is_of) here (ap (λ t. fits_now settings t before e) same ∙ fits) in
    let filtered = filtered_now inside live filters before e fits_in (at ∙ sym (ap time_of same)) but here in
    let represents = stands before inside here in
    awaits_more
    inside
    live
    held_now
    rings
    filters
    slot
    before
    e
    fits_in
    here
    place
    but
    sizes
    rooms
    made
    written
    (slots_are (filed before))
    (write_represents r r live held_now rings (rows_at live.time (before ++ e ∷ []) filters) (Some slot) slot e entry before refl is fits_in but sizes made alive kept (λ old. filtered) represents)
    (ap (λ (f : FiltersValue). f.scrubs) lists ∙ here.scrubs)
    (rest_written acls e before inside.filters filters here.lists (are represents.held) lists)

-- ---- the time

pub awaits_later : (now : ℕ) (inside tables : RegistryValue) (live : LiveValue) (entries : List Entry) → inside ≡ tables → time_of tables ≤ now
    → live.domains ≡ inside.live.domains → live.limits ≡ inside.live.limits → live.time ≡ now
    → ((es : List Entry) → ComesTo now inside.live es → lives.Represents live es)
    → ((all : List Filed) → SlotsCome now inside.live.tables all → SlotsAre now live.tables all)
    → AwaitsRows entries tables → AwaitsRows entries (joined live inside.held inside.rings inside.filters inside.last)
awaits_later now inside tables live entries same less domains limits at comes slots_come awaits =
    let here : AwaitsRows entries inside = subst (AwaitsRows entries) (sym same) awaits in
    let r = with_rows_of entries inside in
    let later : time_of r ≤ now = subst (λ t. time_of t ≤ now) (sym same) less in
    let made_rows = rows_at live.time entries inside.filters in
    let new = joined live inside.held inside.rings made_rows inside.last in
    let after : Represents new entries =
    represents_later
    now
    r
    r
    live
    made_rows
    inside.last
    entries
    refl
    later
    limits
    at
    (comes entries)
    (λ _ _ _. record { scrubs = ap (λ t. plain_rows t entries) at; acls = ap (λ t. acl_rows t entries) at })
    (stands entries inside here) in
    record {
      represents_filed = filed_later
          now
          r
          r
          live
          made_rows
          (filed entries)
          refl
          later
          limits
          at
          slots_come
          (λ old. subst (Represents new) (sym (filed_entries entries)) after)
          here.represents_filed;
      room = slots_still inside (joined live inside.held inside.rings inside.filters inside.last) domains limits refl refl here.room;
      scrubs = here.scrubs;
      lists = here.lists;
    }

-- ---- in the end

pub awaits_of : (settings : SettingsValue) (inside tables : RegistryValue) (entries : List Entry) (domains given : List ℕ) → inside ≡ tables → IsOf settings tables
    → Gathers entries (record { tables = tables; domains = domains }) → given ≡ domains → Awaits entries inside.live inside.held given inside.filters
awaits_of settings inside tables entries domains given same is_of gathers are =
    let here : AwaitsRows entries inside = subst (AwaitsRows entries) (sym same) gathers.awaits in
    let of_here : IsOf settings inside = subst (IsOf settings) (sym same) is_of in
    let represents = stands entries inside here in
    record {
      alive = represents.live;
      slots = here.represents_filed.slots.live;
      kept = represents.held;
      limits = represents.limits;
      domains_are = are ∙ gathers.domains;
      room = of_here.filters.scrubs
          ∙ sym (ap (λ n. scrub_room_of n inside.live.limits) of_here.domains ∙ ap (λ (l : Limits). scrub_room_of (length settings.domains) l) of_here.limits);
      scrubs = here.scrubs;
      lists = here.lists;
    }

-- ---- in the beginning

pub same_filters : (a b : FiltersValue) → a.scrub_room ≡ b.scrub_room → a.acl_room ≡ b.acl_room → a.scrubs ≡ b.scrubs → a.acls ≡ b.acls → a ≡ b
same_filters a b scrub_room acl_room scrubs acls =
    ap (λ n. record { scrub_room = n; acl_room = a.acl_room; scrubs = a.scrubs; acls = a.acls }) scrub_room
    ∙ ap (λ n. record { scrub_room = b.scrub_room; acl_room = n; scrubs = a.scrubs; acls = a.acls }) acl_room
    ∙ ap (λ rows. record { scrub_room = b.scrub_room; acl_room = b.acl_room; scrubs = rows; acls = a.acls }) scrubs
    ∙ ap (λ rows. record { scrub_room = b.scrub_room; acl_room = b.acl_room; scrubs = b.scrubs; acls = rows }) acls

pub first_gathered : (settings : SettingsValue) (r : RegistryValue) (gathering : GatheringValue) → gathering.tables ≡ r → gathering.domains ≡ [] → HasSlots r
    → Represents r [] → RepresentsFiled r [] → IsOf settings r → time_of r ≡ 0 → HasGathered settings [] gathering
first_gathered settings r gathering same none room represents represents_filed is_of at =
    let rows : r.filters ≡ rows_at (time_of r) [] r.filters = same_filters r.filters (rows_at (time_of r) [] r.filters) refl refl represents.filters.scrubs represents.filters.acls in
    let with_rows : r ≡ with_rows_of [] r = ap (λ f. joined r.live r.held r.rings f r.last) rows in
    record {
      gathers = record {
        awaits = subst
            (AwaitsRows [])
            (sym same)
            (record {
              represents_filed = subst (λ x. RepresentsFiled x []) with_rows represents_filed;
              room = room;
              scrubs = represents.filters.scrubs;
              lists = represents.filters.acls;
            });
        domains = none;
      };
      is_of = subst (IsOf settings) (sym same) is_of;
      calm = refl;
      time = ap time_of same ∙ at;
    }

-- ---- there are as many domains as entries

pub few_domains : (entries : List Entry) (domains given : List ℕ) → given ≡ domains → domains ≡ map domain_of entries → length entries < 2 ^ 32 → length given < 2 ^ 32
few_domains entries domains given same are few =
    let many = ap length (same ∙ are) in
    let number = as_many entries in
    omega (arith, many, number, few)
  where
    as_many : (es : List Entry) → length (map domain_of es) ≡ length es
    as_many [] = refl
    as_many (e ∷ es) = ap suc (as_many es)
