-- What a registry keeps goes on to represent a history.
use Rattle.std.proofs.Common.{◌≡◌, ℕ, ◌+◌, ◌<◌, ◌≤◌, Bool, true, false, cond, not, ◌&&◌, ◌||◌, List, [], ◌∷◌, ◌++◌, map, length, Option, refl, sym, ap, ◌∙◌, subst, arith}
use Rattle.std.specs.Prelude.{◌==◌, nat_lt, nat_le}
use Rattle.std.specs.List.{list_any, list_all}
use Rattle.std.proofs.lemmas.Bool.{false≢true, cond-false, and_parts, and_from, ltb-true, leb-true, le-leb}
use Rattle.std.proofs.lemmas.List.Folds.{list_all-append}
use Rattle.dots_settings.specs.Settings.{SettingsValue}
use Rattle.dots_settings.specs.declared.limits.Limits.{Limits}
use Rattle.dots_history.specs.declared.entry.Entry.{Entry}
use Rattle.dots_history.specs.declared.change.Change.{Change}
use Rattle.dots_history.specs.declared.change.Change.TheVariants as change
use Rattle.dots_history.specs.declared.status.Status.{Status}
use Rattle.dots_history.specs.declared.status.Status.TheVariants.{Ended, Open, Withdrawn}
use Rattle.dots_history.specs.declared.put.Put.{Put}
use Rattle.dots_history.specs.Entries.{is_configuration, is_loss, same_client, ends, withdraws, runs, put_of, option_any}
use Rattle.dots_history.specs.Histories.{Mitigation, live, step, tally, mitigations, held}
use Rattle.dots_history.specs.Bounds.{within_bounds}
use Rattle.dots_history.specs.Calm.{is_of_settings}
use Rattle.dots_history.specs.Fits as laws
use Rattle.dots_history.specs.Tables.{bare}
use Rattle.live_mitigations.specs.Ends.{never}
use Rattle.live_mitigations.specs.Rows.{is_left, lives_at_first}
use Rattle.live_mitigations.specs.LiveValues.{LiveValue, SameButRows, rows_for, puts, keeps_limits, keeps_live_room, has_live_room}
use Rattle.live_mitigations.specs.LiveValues as lives
use Rattle.live_mitigations.proofs.LiveValues.{comes_later}
use Rattle.live_mitigations.proofs.Room.{has_room_is}
use Rattle.held_resources.specs.Tables.{Tables, SameButSlots, sizes_of, is_placed, is_known, tables_with}
use Rattle.dots_history.specs.Capacities.{loses_as}
use Rattle.held_resources.specs.Tables as things
use Rattle.held_resources.specs.Accepting.{accepts, accepts_by, keeps_rooms}
use Rattle.held_resources.specs.Accepting as accepting
use Rattle.held_resources.proofs.HistoryTables.{represents_with, accepted_by, one_value, same_represents}
use Rattle.held_resources.proofs.Lawful.{still_represents, known_of, accepts_fitting}
use Rattle.coap_exchange.specs.declared.pair.Pair.{Pair}
use Rattle.coap_exchange.specs.Pairs.{pairs_of}
use Rattle.coap_exchange.specs.Rings.{RingValue, empty_ring}
use Rattle.coap_exchange.specs.Noting.{AllRemember}
use Rattle.coap_exchange.proofs.HistoryRings.{start_remembers}
use Rattle.installed_filters.specs.Filters.{FiltersValue, SameRoom}
use Rattle.installed_filters.specs.HistoryRows.{HasRoom, KeepsLimits}
use Rattle.installed_filters.specs.HistoryRows as rows
use Rattle.installed_filters.proofs.Limits.{limits_first, limits_later}
use Rattle.dots_registry.specs.RegistryValues.{RegistryValue, IsOf, Represents, time_of, number_remembered, has_ring, pair_of, silent, rings_with}
use Rattle.dots_registry.specs.Fitting.{FitsIn, fits_then}
use Rattle.dots_registry.proofs.Rings.{own_has_ring, made_pairs, remember_more, still_signalled}

abbrev pub joined : LiveValue → Tables → List RingValue → FiltersValue → Option ℕ → RegistryValue
joined live held rings filters last = record { live = live; held = held; rings = rings; filters = filters; last = last }

-- ---- the first

pairs_empty : (n : ℕ) (pairs : List Pair) → map pair_of (map (empty_ring n) pairs) ≡ pairs
pairs_empty n [] = refl
pairs_empty n (pair ∷ pairs) = ap (λ ps. pair ∷ ps) (pairs_empty n pairs)

pub represents_first : (settings : SettingsValue) (live : LiveValue) (held : Tables) (rings : List RingValue) (filters : FiltersValue) (last : Option ℕ) → lives.Represents live []
    → things.Represents held [] → live.limits ≡ settings.limits → rings ≡ map (empty_ring settings.limits.remembered) (pairs_of settings)
    → ((t : ℕ) → rows.Represents filters t []) → Represents (joined live held rings filters last) []
represents_first settings live held rings filters last alive kept limits made none = record {
  live = alive;
  held = kept;
  remembered = subst
      (λ (l : Limits). AllRemember l.remembered rings [])
      (sym limits)
      (subst (λ rs. AllRemember settings.limits.remembered rs []) (sym made) (start_remembers settings.limits.remembered (pairs_of settings)));
  signalled = refl;
  filters = none live.time;
  limits = limits_first live.limits live.time;
}

pub is_of_first : (settings : SettingsValue) (live : LiveValue) (held : Tables) (rings : List RingValue) (filters : FiltersValue) (last : Option ℕ)
    → live.domains ≡ length settings.domains → live.limits ≡ settings.limits → held.sizes ≡ sizes_of settings
    → rings ≡ map (empty_ring settings.limits.remembered) (pairs_of settings) → HasRoom (length settings.domains) settings.limits filters
    → IsOf settings (joined live held rings filters last)
is_of_first settings live held rings filters last domains limits sizes made room = record {
  domains = domains;
  limits = limits;
  sizes = sizes;
  pairs = ap (map pair_of) made ∙ pairs_empty settings.limits.remembered (pairs_of settings);
  filters = room;
}

-- ---- sizes

pub still_of : (settings : SettingsValue) (inside old : RegistryValue) (live : LiveValue) (held : Tables) (rings : List RingValue) (filters : FiltersValue) (last : Option ℕ)
    → inside ≡ old → live.domains ≡ inside.live.domains → live.limits ≡ inside.live.limits → held.sizes ≡ inside.held.sizes
    → map pair_of rings ≡ map pair_of inside.rings → SameRoom inside.filters filters → IsOf settings old → IsOf settings (joined live held rings filters last)
still_of settings inside old live held rings filters last same domains limits sizes pairs room is_of =
    let here : IsOf settings inside = subst (IsOf settings) (sym same) is_of in
    record {
      domains = domains ∙ here.domains;
      limits = limits ∙ here.limits;
      sizes = sizes ∙ here.sizes;
      pairs = pairs ∙ here.pairs;
      filters = record { scrubs = room.scrubs ∙ here.filters.scrubs; acls = room.acls ∙ here.filters.acls };
    }

-- ---- time

pub represents_later : (now : ℕ) (inside old : RegistryValue) (live : LiveValue) (filters : FiltersValue) (last : Option ℕ) (entries : List Entry) → inside ≡ old → time_of old ≤ now
    → live.limits ≡ inside.live.limits → live.time ≡ now → (lives.ComesTo now inside.live entries → lives.Represents live entries)
    → (inside.live.time ≤ now → lives.Represents inside.live entries → rows.Represents inside.filters inside.live.time entries → rows.Represents filters now entries)
    → Represents old entries → Represents (joined live inside.held inside.rings filters last) entries
represents_later now inside old live filters last entries same less limits at comes install represents =
    let here : Represents inside entries = subst (λ r. Represents r entries) (sym same) represents in
    let later : time_of inside ≤ now = subst (λ r. time_of r ≤ now) (sym same) less in
    record {
      live = comes (comes_later now inside.live entries later here.live);
      held = here.held;
      remembered = subst (λ (l : Limits). AllRemember l.remembered inside.rings entries) (sym limits) here.remembered;
      signalled = here.signalled;
      filters = subst (λ t. rows.Represents filters t entries) (sym at) (install later here.live here.filters);
      limits = subst
          (λ (l : Limits). KeepsLimits l live.time entries)
          (sym limits)
          (subst (λ t. KeepsLimits inside.live.limits t entries) (sym at) (limits_later inside.live.limits inside.live.time now entries later here.limits));
    }

-- ---- what fits

timed_of : (settings : SettingsValue) (entries : List Entry) (e : Entry) → laws.fits settings entries e ≡ true
    → (nat_lt e.time 281474976710656 ≡ true) × (is_of_settings settings e ≡ true)
timed_of settings entries e is =
    let timed = nat_le (laws.last_time entries) e.time && nat_lt e.time 281474976710656 in
    let standing = held (entries ++ e ∷ []) in
    let rest = laws.registers_rightly (held entries) e && laws.keeps_room settings.limits e (mitigations e.time (entries ++ e ∷ [])) standing in
    let halves = and_parts (timed && is_of_settings settings e) rest is in
    let own = and_parts timed (is_of_settings settings e) halves.0 in
    ((and_parts (nat_le (laws.last_time entries) e.time) (nat_lt e.time 281474976710656) own.0).1, own.1)

lives_of_fits : (settings : SettingsValue) (entries : List Entry) (e : Entry) → laws.fits settings entries e ≡ true → has_live_room settings.limits entries e ≡ true
lives_of_fits settings entries e is =
    let timed = nat_le (laws.last_time entries) e.time && nat_lt e.time 281474976710656 in
    let standing = held (entries ++ e ∷ []) in
    let ms = mitigations e.time (entries ++ e ∷ []) in
    let halves = and_parts (timed && is_of_settings settings e) (laws.registers_rightly (held entries) e && laws.keeps_room settings.limits e ms standing) is in
    let back = and_parts (laws.registers_rightly (held entries) e) (laws.keeps_room settings.limits e ms standing) halves.1 in
    (and_parts (keeps_live_room settings.limits e ms) (keeps_rooms (sizes_of settings).rooms e standing) back.1).0

fits_parts : (registry : RegistryValue) (e : Entry) (fits : FitsIn registry e)
    → (within_bounds e ≡ true) × (nat_le (time_of registry) e.time ≡ true) × (laws.fits fits.settings fits.entries e ≡ true)
fits_parts registry e fits =
    let parts = and_parts (within_bounds e) (fits_then fits.settings registry fits.entries e) fits.fits in
    let more = and_parts (nat_le (time_of registry) e.time) (laws.fits fits.settings fits.entries e) parts.1 in
    (parts.0, more.0, more.1)

pub law_fits : (registry : RegistryValue) (e : Entry) (fits : FitsIn registry e) → laws.fits fits.settings fits.entries e ≡ true
law_fits registry e fits = (fits_parts registry e fits).2

pub own_of : (settings : SettingsValue) (entries : List Entry) (e : Entry) → laws.fits settings entries e ≡ true → is_of_settings settings e ≡ true
own_of settings entries e is = (timed_of settings entries e is).1

pub fits_within : (registry : RegistryValue) (e : Entry) → FitsIn registry e → within_bounds e ≡ true
fits_within registry e fits = (fits_parts registry e fits).0

pub fits_later : (registry : RegistryValue) (e : Entry) → FitsIn registry e → time_of registry ≤ e.time
fits_later registry e fits = leb-true (time_of registry) e.time (fits_parts registry e fits).1

pub fits_bounded : (registry : RegistryValue) (e : Entry) → FitsIn registry e → e.time < never
fits_bounded registry e fits =
    let less : e.time < 281474976710656 = ltb-true e.time 281474976710656 (timed_of fits.settings fits.entries e (law_fits registry e fits)).0 in
    omega (arith, less)

-- it fits in what represents the same histories at its time
pub fits_still : (old new : RegistryValue) (e : Entry) → FitsIn old e → ((entries : List Entry) → Represents old entries → Represents new entries)
    → ((settings : SettingsValue) → IsOf settings old → IsOf settings new) → time_of new ≡ e.time → FitsIn new e
fits_still old new e fits represents is_of at = record {
  settings = fits.settings;
  entries = fits.entries;
  is_of = is_of fits.settings fits.is_of;
  represents = represents fits.entries fits.represents;
  fits = and_from
      (within_bounds e)
      (fits_then fits.settings new fits.entries e)
      (fits_within old e fits)
      (and_from
      (nat_le (time_of new) e.time)
      (laws.fits fits.settings fits.entries e)
      (le-leb (time_of new) e.time (omega (arith, at)))
      (law_fits old e fits));
}

pub fits_inside : (inside old : RegistryValue) (e : Entry) → inside ≡ old → FitsIn old e → FitsIn inside e
fits_inside inside old e same fits = subst (λ r. FitsIn r e) (sym same) fits

pub fits_ring : (inside old : RegistryValue) (e : Entry) → inside ≡ old → FitsIn old e → has_ring inside.rings e ≡ true
fits_ring inside old e same fits =
    let here = fits_inside inside old e same fits in
    own_has_ring here.settings inside e here.is_of (timed_of here.settings here.entries e (law_fits inside e here)).1

-- ---- what puts a mitigation

kind_of_put : (c : Change) → option_any (λ (put : Put). true) (put_of c) ≡ true → (laws.is_of_mitigations c ≡ true) × (is_configuration c ≡ false)
unfolding laws.is_of_mitigations is_configuration
kind_of_put (change.Put put) is = (refl, refl)
kind_of_put _ is = absurd (false≢true is)

pub puts_kind : (e : Entry) → puts e ≡ true → (laws.is_of_mitigations e.change ≡ true) × (is_configuration e.change ≡ false)
puts_kind e is = kind_of_put e.change is

pub own_below : (settings : SettingsValue) (e : Entry) → is_of_settings settings e ≡ true → puts e ≡ true → e.domain < length settings.domains
own_below settings e own put =
    ltb-true
    e.domain
    (length settings.domains)
    (sym (cond-false
    (is_configuration e.change)
    (list_any (λ peer. e.peer == peer) (sizes_of settings).peers)
    (nat_lt e.domain (length settings.domains))
    (puts_kind e put).1)
    ∙ (and_parts (is_placed (sizes_of settings) e) (not (is_loss e.change) || list_any (loses_as e) (sizes_of settings).own) (known_of settings e own)).0)

pub own_inside : (settings : SettingsValue) (registry : RegistryValue) (e : Entry) → IsOf settings registry → is_of_settings settings e ≡ true → puts e ≡ true
    → e.domain < registry.live.domains
own_inside settings registry e is_of own put = subst (λ n. e.domain < n) (sym is_of.domains) (own_below settings e own put)

pub put_inside : (inside old : RegistryValue) (e entry : Entry) → inside ≡ old → entry ≡ silent e → FitsIn old e → puts e ≡ true
    → entry.domain < inside.live.domains
put_inside inside old e entry same is fits put =
    let here = fits_inside inside old e same fits in
    let own = (timed_of here.settings here.entries e (law_fits inside e here)).1 in
    subst (λ (x : Entry). x.domain < inside.live.domains) (sym is) (own_inside here.settings inside e here.is_of own put)

silent_step : (put : Entry) (s : Status) (e : Entry) → step put s (silent e) ≡ step put s e
unfolding ends withdraws same_client
silent_step put Ended e = refl
silent_step put Open e = refl
silent_step put (Withdrawn at) e = refl

silent_first : (e : Entry) → lives_at_first (silent e) ≡ lives_at_first e
unfolding runs
silent_first e = refl

silent_client : (e x : Entry) → same_client (silent e) x ≡ same_client e x
unfolding same_client
silent_client e x = refl

silent_left : (e : Entry) (m : Mitigation) → is_left (silent e) m ≡ is_left e m
silent_left e m = ap (live e.time m.put) (silent_step m.put m.status e)

same_tally : {A : Type 0} (f g : A → Bool) (xs : List A) → ((x : A) → f x ≡ g x) → tally f xs ≡ tally g xs
same_tally f g [] same = refl
same_tally f g (x ∷ xs) same = ap (λ b. cond b 1 0 + tally f xs) (same x) ∙ ap (λ n. cond (g x) 1 0 + n) (same_tally f g xs same)

silent_limits : (limits : Limits) (e : Entry) (ms : List Mitigation) → keeps_limits limits (silent e) ms ≡ keeps_limits limits e ms
silent_limits limits e ms =
    ap
    (λ b.
    nat_le (tally (is_left (silent e)) ms + cond b 1 0) limits.domain_mitigations
    && nat_le (tally (λ (m : Mitigation). is_left (silent e) m && same_client (silent e) m.put) ms + cond b 1 0) limits.client_mitigations)
    (silent_first e)
    ∙ ap
    (λ n.
    nat_le (n + cond (lives_at_first e) 1 0) limits.domain_mitigations
    && nat_le (tally (λ (m : Mitigation). is_left (silent e) m && same_client (silent e) m.put) ms + cond (lives_at_first e) 1 0) limits.client_mitigations)
    (same_tally (is_left (silent e)) (is_left e) ms (silent_left e))
    ∙ ap
    (λ n. nat_le (tally (is_left e) ms + cond (lives_at_first e) 1 0) limits.domain_mitigations && nat_le (n + cond (lives_at_first e) 1 0) limits.client_mitigations)
    (same_tally
    (λ (m : Mitigation). is_left (silent e) m && same_client (silent e) m.put)
    (λ (m : Mitigation). is_left e m && same_client e m.put)
    ms
    (λ m.
    ap (λ b. b && same_client (silent e) m.put) (silent_left e m) ∙ ap (λ b. is_left e m && b) (silent_client e m.put)))

pub put_room : (inside old : RegistryValue) (e entry : Entry) → inside ≡ old → entry ≡ silent e → FitsIn old e → puts e ≡ true
    → keeps_limits inside.live.limits entry (rows_for inside.live entry.domain) ≡ true
put_room inside old e entry same is fits put =
    let here = fits_inside inside old e same fits in
    let within : e.domain < inside.live.domains = put_inside inside old e (silent e) same refl fits put in
    let rooms : has_live_room inside.live.limits here.entries e ≡ true =
    ap (λ (l : Limits). has_live_room l here.entries e) here.is_of.limits ∙ lives_of_fits here.settings here.entries e (law_fits inside e here) in
    ap (λ (x : Entry). keeps_limits inside.live.limits x (rows_for inside.live x.domain)) is
    ∙ silent_limits inside.live.limits e (rows_for inside.live e.domain)
    ∙ sym (has_room_is inside.live here.entries e (fits_later inside e here) within here.represents.live)
    ∙ rooms

-- ---- one more entry

-- the rows after an entry at the time, and the limits
pub record Filtered (inside : RegistryValue) (filters : FiltersValue) (entries : List Entry) : Type 0 where
  pub filters_are : rows.Represents filters inside.live.time entries
  pub limits_are : KeepsLimits inside.live.limits inside.live.time entries

represents_more : (inside : RegistryValue) (live : LiveValue) (held : Tables) (rings : List RingValue) (filters : FiltersValue) (last : Option ℕ) (slot : ℕ) (e : Entry) (entries : List Entry)
    → Represents inside entries → has_ring inside.rings e ≡ true → SameButRows inside.live live → rings ≡ rings_with slot e inside.rings
    → lives.Represents live (entries ++ e ∷ []) → things.Represents held (entries ++ e ∷ []) → Filtered inside filters (entries ++ e ∷ [])
    → Represents (joined live held rings filters last) (entries ++ e ∷ [])
represents_more inside live held rings filters last slot e entries represents has but made alive kept filtered =
    let pairs : map pair_of rings ≡ map pair_of inside.rings = made_pairs slot e inside.rings rings made in
    record {
      live = alive;
      held = kept;
      remembered = subst
          (λ (l : Limits). AllRemember l.remembered rings (entries ++ e ∷ []))
          (sym but.limits)
          (subst
          (λ rs. AllRemember (number_remembered inside) rs (entries ++ e ∷ []))
          (sym made)
          (remember_more (number_remembered inside) slot inside.rings entries e represents.remembered));
      signalled = still_signalled
          inside.rings
          rings
          (entries ++ e ∷ [])
          pairs
          (list_all-append (has_ring inside.rings) entries (e ∷ [])
          ∙ and_from
          (list_all (has_ring inside.rings) entries)
          (list_all (has_ring inside.rings) (e ∷ []))
          represents.signalled
          (and_from (has_ring inside.rings e) true has refl));
      filters = subst (λ t. rows.Represents filters t (entries ++ e ∷ [])) (sym but.time) filtered.filters_are;
      limits = subst
          (λ (l : Limits). KeepsLimits l live.time (entries ++ e ∷ []))
          (sym but.limits)
          (subst (λ t. KeepsLimits inside.live.limits t (entries ++ e ∷ [])) (sym but.time) filtered.limits_are);
    }

pub put_represents : (inside old : RegistryValue) (live : LiveValue) (rings : List RingValue) (filters : FiltersValue) (last : Option ℕ) (slot : ℕ) (e entry : Entry) (entries : List Entry)
    → inside ≡ old → entry ≡ silent e → FitsIn old e → puts e ≡ true → SameButRows inside.live live → rings ≡ rings_with slot e inside.rings
    → ((x : Entry) → bare x ≡ bare entry → lives.Represents inside.live entries → lives.Represents live (entries ++ x ∷ []))
    → (Represents inside entries → Filtered inside filters (entries ++ e ∷ []))
    → Represents old entries → Represents (joined live inside.held rings filters last) (entries ++ e ∷ [])
put_represents inside old live rings filters last slot e entry entries same is fits put but made alive install represents =
    let here : Represents inside entries = subst (λ r. Represents r entries) (sym same) represents in
    represents_more
    inside
    live
    inside.held
    rings
    filters
    last
    slot
    e
    entries
    here
    (fits_ring inside old e same fits)
    but
    made
    (alive e (ap bare (sym is)) here.live)
    (still_represents inside.held e entries (puts_kind e put).0 here.held)
    (install here)

-- ---- what writes something else

pub accepted : (inside : RegistryValue) (e : Entry) (fits : FitsIn inside e) → accepts_by inside.held e ≡ true
accepted inside e fits =
    sym (accepted_by inside.held fits.entries e fits.represents.held)
    ∙ ap (λ s. accepts s fits.entries e) fits.is_of.sizes
    ∙ accepts_fitting fits.settings fits.entries e (law_fits inside e fits)

pub held_fits : (inside old : RegistryValue) (e entry : Entry) → inside ≡ old → entry ≡ silent e → FitsIn old e → accepting.FitsIn inside.held entry
held_fits inside old e entry same is fits =
    let here = fits_inside inside old e same fits in
    subst
    (accepting.FitsIn inside.held)
    (sym is)
    (here.entries, here.represents.held, accepted_by inside.held here.entries (silent e) here.represents.held ∙ accepted inside e here)

-- what is held after an entry without its reply is what is held after the entry
pub held_after : (inside old : RegistryValue) (held : Tables) (slot : ℕ) (e entry : Entry) (entries : List Entry) → inside ≡ old → entry ≡ silent e → FitsIn old e
    → held.sizes ≡ inside.held.sizes → (things.Represents inside.held entries → things.Represents held (entries ++ entry ∷ [])) → Represents inside entries
    → things.Represents held (entries ++ e ∷ [])
held_after inside old held slot e entry entries same is fits sizes kept here =
    let taken : accepts_by inside.held e ≡ true = accepted inside e (fits_inside inside old e same fits) in
    let more = tables_with (record { entry = silent e; slot = slot }) inside.held in
    let one : SameButSlots held more =
    one_value
    held
    more
    (entries ++ silent e ∷ [])
    sizes
    (subst (λ (x : Entry). things.Represents held (entries ++ x ∷ [])) is (kept here.held))
    (represents_with inside.held entries (silent e) slot here.held taken) in
    same_represents held more (entries ++ e ∷ []) one (represents_with inside.held entries e slot here.held taken)

pub write_represents : (inside old : RegistryValue) (live : LiveValue) (held : Tables) (rings : List RingValue) (filters : FiltersValue) (last : Option ℕ) (slot : ℕ) (e entry : Entry)
    (entries : List Entry) → inside ≡ old
    → entry ≡ silent e → FitsIn old e → SameButRows inside.live live → held.sizes ≡ inside.held.sizes → rings ≡ rings_with slot e inside.rings
    → (lives.Represents inside.live entries → lives.Represents live (entries ++ e ∷ []))
    → (things.Represents inside.held entries → things.Represents held (entries ++ entry ∷ []))
    → (Represents inside entries → Filtered inside filters (entries ++ e ∷ []))
    → Represents old entries → Represents (joined live held rings filters last) (entries ++ e ∷ [])
write_represents inside old live held rings filters last slot e entry entries same is fits but sizes made alive kept install represents =
    let here : Represents inside entries = subst (λ r. Represents r entries) (sym same) represents in
    represents_more
    inside
    live
    held
    rings
    filters
    last
    slot
    e
    entries
    here
    (fits_ring inside old e same fits)
    but
    made
    (alive here.live)
    (held_after inside old held slot e entry entries same is fits sizes kept here)
    (install here)
