-- The rows after an entry, and that there is room for them.
use Rattle.std.proofs.Common.{◌≡◌, ◌<◌, ◌≤◌, Bool, true, false, not, ◌||◌, List, [], ◌∷◌, ◌++◌, length, Some, refl, sym, ap, ◌∙◌, subst, arith}
use Rattle.std.specs.Prelude.{◌==◌, nat_lt, nat_le}
use Rattle.std.specs.List.{list_any, list_all}
use Rattle.std.proofs.lemmas.Bool.{false≢true, cond-false, and_parts, and_from, ltb-true}
use Rattle.std.proofs.lemmas.List.Folds.{list_all-append}
use Rattle.std.proofs.lemmas.Option.{none-some}
use Rattle.acl_lists.specs.declared.acl.Acl.{Acl}
use Rattle.dots_settings.specs.declared.limits.Limits.{Limits}
use Rattle.dots_history.specs.declared.entry.Entry.{Entry}
use Rattle.dots_history.specs.declared.change.Change.{Change}
use Rattle.dots_history.specs.declared.change.Change.TheVariants as change
use Rattle.dots_history.specs.Bounds.{within_bounds}
use Rattle.dots_history.specs.declared.put.Put.{Put}
use Rattle.dots_history.specs.Entries.{is_configuration, is_loss, put_of, option_any}
use Rattle.dots_history.specs.Histories.{Mitigation, mitigations, held}
use Rattle.dots_history.specs.Rows.{acl_of}
use Rattle.dots_history.specs.Fits as laws
use Rattle.dots_history.specs.Tables.{client_of}
use Rattle.live_mitigations.specs.LiveValues.{LiveValue, SameButRows, rows_for, is_inside, puts}
use Rattle.live_mitigations.specs.LiveValues as lives
use Rattle.live_mitigations.proofs.LiveValues.{within_inside}
use Rattle.dots_history.specs.Held.{acls_of}
use Rattle.dots_history.specs.Capacities.{loses_as}
use Rattle.held_resources.specs.Tables.{Tables, is_placed, is_known, sizes_of, tables_with, lost_in}
use Rattle.held_resources.specs.Tables as things
use Rattle.held_resources.proofs.Lawful.{same_held, known_of}
use Rattle.held_resources.proofs.HistoryTables.{represents_with, lost_is}
use Rattle.installed_filters.specs.Filters.{FiltersValue, filters_put, filters_written, filters_lost, some_of, is_working}
use Rattle.installed_filters.specs.HistoryRows.{KeepsLimits, HasRoom, scrub_room_of, acl_room_of}
use Rattle.installed_filters.specs.HistoryRows as rows
use Rattle.installed_filters.proofs.Limits.{limits_with}
use Rattle.installed_filters.proofs.Room.{scrubs_fit, lists_fit}
use Rattle.installed_filters.proofs.HistoryRows.{put_represents, write_represents, lost_represents_noted, client_mitigates, live_inside}
use Rattle.dots_registry.specs.RegistryValues.{RegistryValue, Represents, time_of}
use Rattle.dots_registry.specs.Fitting.{FitsIn, fits_then, fits_now}
use Rattle.dots_registry.proofs.RegistryValues.{Filtered, fits_inside, fits_later, fits_within, law_fits, own_of, own_inside, puts_kind, accepted}
use Rattle.dots_registry.proofs.Conditions.{same_fits}

-- it fits each history that the registry represents
law_for : (inside : RegistryValue) (e : Entry) (entries : List Entry) (fits : FitsIn inside e) → Represents inside entries → laws.fits fits.settings entries e ≡ true
law_for inside e entries fits represents =
    let now : fits_now fits.settings inside entries e ≡ true =
    same_fits fits.settings inside entries fits.entries e fits.is_of represents fits.represents ∙ fits.fits in
    let parts = and_parts (within_bounds e) (fits_then fits.settings inside entries e) now in
    (and_parts (nat_le (time_of inside) e.time) (laws.fits fits.settings entries e) parts.1).1

pub limits_after : (inside : RegistryValue) (e : Entry) (entries : List Entry) → FitsIn inside e → e.time ≡ time_of inside → Represents inside entries
    → KeepsLimits inside.live.limits inside.live.time (entries ++ e ∷ [])
limits_after inside e entries fits at represents =
    subst
    (λ t. KeepsLimits inside.live.limits t (entries ++ e ∷ []))
    at
    (subst
    (λ (l : Limits). KeepsLimits l e.time (entries ++ e ∷ []))
    (sym fits.is_of.limits)
    (limits_with
    fits.settings
    inside.live.time
    entries
    e
    (fits_later inside e fits)
    (law_for inside e entries fits represents)
    (fits_within inside e fits)
    (subst (λ (l : Limits). KeepsLimits l inside.live.time entries) fits.is_of.limits represents.limits)))

inside_after : (inside : RegistryValue) (e : Entry) (entries : List Entry) → is_inside inside.live.domains e ≡ true → Represents inside entries
    → list_all (λ (m : Mitigation). nat_lt m.put.domain inside.live.domains) (mitigations inside.live.time (entries ++ e ∷ [])) ≡ true
inside_after inside e entries own represents =
    live_inside
    inside.live.time
    inside.live.domains
    (entries ++ e ∷ [])
    (list_all-append (is_inside inside.live.domains) entries (e ∷ [])
    ∙ and_from
    (list_all (is_inside inside.live.domains) entries)
    (list_all (is_inside inside.live.domains) (e ∷ []))
    represents.live.inside
    (and_from (is_inside inside.live.domains e) true own refl))

-- ---- an entry that puts a mitigation

domain_of : (inside : RegistryValue) (e : Entry) → FitsIn inside e → puts e ≡ true → e.domain < inside.live.domains
domain_of inside e fits put = own_inside fits.settings inside e fits.is_of (own_of fits.settings fits.entries e (law_fits inside e fits)) put

pub put_within : (inside old : RegistryValue) (e : Entry) → inside ≡ old → FitsIn old e → puts e ≡ true → e.domain < inside.live.domains
put_within inside old e same fits put = domain_of inside e (fits_inside inside old e same fits) put

rows_after_put : (inside : RegistryValue) (e : Entry) (new : FiltersValue) (entries : List Entry) → FitsIn inside e → e.time ≡ time_of inside → puts e ≡ true
    → new ≡ filters_put (lost_in inside.held) e (rows_for inside.live e.domain) inside.filters → Represents inside entries
    → rows.Represents new inside.live.time (entries ++ e ∷ [])
rows_after_put inside e new entries fits at put made represents =
    subst
    (λ t. rows.Represents new t (entries ++ e ∷ []))
    at
    (put_represents
    (lost_in inside.held)
    inside.live
    inside.filters
    new
    e
    entries
    at
    (domain_of inside e fits put)
    put
    represents.live
    represents.filters
    (lost_is inside.held (held entries) represents.held)
    made
    (same_held e entries (puts_kind e put).0))

pub put_filtered : (inside old : RegistryValue) (e : Entry) (new : FiltersValue) (entries : List Entry) → inside ≡ old → FitsIn old e → e.time ≡ time_of old
    → puts e ≡ true → new ≡ filters_put (lost_in inside.held) e (rows_for inside.live e.domain) inside.filters → Represents inside entries
    → Filtered inside new (entries ++ e ∷ [])
put_filtered inside old e new entries same fits at put made represents =
    let here = fits_inside inside old e same fits in
    let now : e.time ≡ time_of inside = at ∙ sym (ap time_of same) in
    record {
      filters_are = rows_after_put inside e new entries here now put made represents;
      limits_are = limits_after inside e entries here now represents;
    }

pub put_fits : (inside old : RegistryValue) (e : Entry) → inside ≡ old → FitsIn old e → e.time ≡ time_of old → puts e ≡ true
    → length (filters_put (lost_in inside.held) e (rows_for inside.live e.domain) inside.filters).scrubs ≤ inside.filters.scrub_room
put_fits inside old e same fits at put =
    let here = fits_inside inside old e same fits in
    let now : e.time ≡ time_of inside = at ∙ sym (ap time_of same) in
    let after = rows_after_put inside e (filters_put (lost_in inside.held) e (rows_for inside.live e.domain) inside.filters) here.entries here now put refl here.represents in
    let most = scrubs_fit
    inside.live.domains
    inside.live.limits
    inside.live.time
    (here.entries ++ e ∷ [])
    (inside_after inside e here.entries (within_inside inside.live.domains e (domain_of inside e here put)) here.represents)
    (limits_after inside e here.entries here now here.represents) in
    let long = ap length after.scrubs in
    let room : inside.filters.scrub_room ≡ scrub_room_of inside.live.domains inside.live.limits =
    here.is_of.filters.scrubs ∙ sym (ap (λ n. scrub_room_of n inside.live.limits) here.is_of.domains ∙ ap (scrub_room_of (length here.settings.domains)) here.is_of.limits) in
    omega (arith, most, long, room)

-- ---- an entry that writes something else

list_no_configuration : (c : Change) (acl : Acl) → acl_of c ≡ Some acl → is_configuration c ≡ false
unfolding is_configuration
list_no_configuration (change.SetAcl acl) a is = refl
list_no_configuration _ a is = absurd (none-some a is)

list_inside : (inside : RegistryValue) (e : Entry) (acl : Acl) → FitsIn inside e → acl_of e.change ≡ Some acl → e.domain < inside.live.domains
list_inside inside e acl fits is =
    let own = own_of fits.settings fits.entries e (law_fits inside e fits) in
    let below : e.domain < length fits.settings.domains =
    ltb-true
    e.domain
    (length fits.settings.domains)
    (sym (cond-false
    (is_configuration e.change)
    (list_any (λ peer. e.peer == peer) (sizes_of fits.settings).peers)
    (nat_lt e.domain (length fits.settings.domains))
    (list_no_configuration e.change acl is))
    ∙ (and_parts (is_placed (sizes_of fits.settings) e) (not (is_loss e.change) || list_any (loses_as e) (sizes_of fits.settings).own) (known_of fits.settings e own)).0) in
    subst (λ n. e.domain < n) (sym fits.is_of.domains) below

rows_after_write : (inside : RegistryValue) (e : Entry) (mitigating : Bool) (acls : List Acl) (new : FiltersValue) (entries : List Entry) → FitsIn inside e
    → e.time ≡ time_of inside → puts e ≡ false → is_loss e.change ≡ false → new ≡ filters_written mitigating acls e inside.filters
    → (e.domain < inside.live.domains → mitigating ≡ some_of (is_working (lost_in inside.held)) e.cuid (rows_for inside.live e.domain))
    → acls ≡ acls_of (client_of e) (held entries) → Represents inside entries → rows.Represents new inside.live.time (entries ++ e ∷ [])
rows_after_write inside e mitigating acls new entries fits at quiet still made by_kept are represents =
    subst
    (λ t. rows.Represents new t (entries ++ e ∷ []))
    at
    (write_represents
    inside.live
    inside.filters
    new
    mitigating
    acls
    e
    entries
    at
    quiet
    still
    represents.live
    represents.filters
    made
    (λ acl is.
    let within = list_inside inside e acl fits is in by_kept within ∙ client_mitigates (lost_in inside.held) inside.live e entries within represents.live (lost_is inside.held (held entries) represents.held))
    are)

pub write_filtered : (inside old : RegistryValue) (e : Entry) (mitigating : Bool) (acls : List Acl) (new : FiltersValue) (entries : List Entry) → inside ≡ old
    → FitsIn old e → e.time ≡ time_of old → puts e ≡ false → is_loss e.change ≡ false → new ≡ filters_written mitigating acls e inside.filters
    → (e.domain < inside.live.domains → mitigating ≡ some_of (is_working (lost_in inside.held)) e.cuid (rows_for inside.live e.domain))
    → (things.Represents inside.held entries → acls ≡ acls_of (client_of e) (held entries)) → Represents inside entries
    → Filtered inside new (entries ++ e ∷ [])
write_filtered inside old e mitigating acls new entries same fits at quiet still made by_kept are represents =
    let here = fits_inside inside old e same fits in
    let now : e.time ≡ time_of inside = at ∙ sym (ap time_of same) in
    record {
      filters_are = rows_after_write inside e mitigating acls new entries here now quiet still made by_kept (are represents.held) represents;
      limits_are = limits_after inside e entries here now represents;
    }

pub write_fits : (inside old : RegistryValue) (e : Entry) (mitigating : Bool) (acls : List Acl) → inside ≡ old → FitsIn old e → e.time ≡ time_of old → puts e ≡ false → is_loss e.change ≡ false
    → (e.domain < inside.live.domains → mitigating ≡ some_of (is_working (lost_in inside.held)) e.cuid (rows_for inside.live e.domain))
    → ((entries : List Entry) → things.Represents inside.held entries → acls ≡ acls_of (client_of e) (held entries))
    → length (filters_written mitigating acls e inside.filters).acls ≤ inside.filters.acl_room
write_fits inside old e mitigating acls same fits at quiet still by_kept are =
    let here = fits_inside inside old e same fits in
    let now : e.time ≡ time_of inside = at ∙ sym (ap time_of same) in
    let after = rows_after_write
    inside
    e
    mitigating
    acls
    (filters_written mitigating acls e inside.filters)
    here.entries
    here
    now
    quiet
    still
    refl
    by_kept
    (are here.entries here.represents.held)
    here.represents in
    let things_after = represents_with inside.held here.entries e 0 here.represents.held (accepted inside e here) in
    let most = lists_fit
    (tables_with (record { entry = e; slot = 0 }) inside.held).sizes
    inside.live.limits
    inside.live.time
    (here.entries ++ e ∷ [])
    things_after.known
    things_after.owned
    (limits_after inside e here.entries here now here.represents) in
    let long = ap length after.acls in
    let room : inside.filters.acl_room ≡ acl_room_of inside.held.sizes.domains inside.live.limits =
    here.is_of.filters.acls
    ∙ sym (ap (λ (s : things.Sizes). acl_room_of s.domains inside.live.limits) here.is_of.sizes ∙ ap (acl_room_of (length here.settings.domains)) here.is_of.limits) in
    omega (arith, most, long, room)

-- ---- a loss, or its end
loss_kind : (c : Change) → is_loss c ≡ true → (option_any (λ (put : Put). true) (put_of c) ≡ false) × (is_configuration c ≡ false)
unfolding is_loss is_configuration
loss_kind change.Lost is = (refl, refl)
loss_kind change.Back is = (refl, refl)
loss_kind _ is = absurd (false≢true is)

pub loss_quiet : (e : Entry) → is_loss e.change ≡ true → puts e ≡ false
loss_quiet e is = (loss_kind e.change is).0

loss_inside : (inside : RegistryValue) (e : Entry) → FitsIn inside e → is_loss e.change ≡ true → e.domain < inside.live.domains
loss_inside inside e fits is =
    let own = own_of fits.settings fits.entries e (law_fits inside e fits) in
    let known = (and_parts (is_placed (sizes_of fits.settings) e) (not (is_loss e.change) || list_any (loses_as e) (sizes_of fits.settings).own) (known_of fits.settings e own)).0 in
    let below : e.domain < length fits.settings.domains =
    ltb-true
    e.domain
    (length fits.settings.domains)
    (sym (cond-false
    (is_configuration e.change)
    (list_any (λ peer. e.peer == peer) (sizes_of fits.settings).peers)
    (nat_lt e.domain (length fits.settings.domains))
    (loss_kind e.change is).1)
    ∙ known) in
    subst (λ n. e.domain < n) (sym fits.is_of.domains) below

pub loss_within : (inside old : RegistryValue) (e : Entry) → inside ≡ old → FitsIn old e → is_loss e.change ≡ true → e.domain < inside.live.domains
loss_within inside old e same fits is = loss_inside inside e (fits_inside inside old e same fits) is

pub loss_filtered : (inside old : RegistryValue) (noted : LiveValue) (held_now : Tables) (e : Entry) (new : FiltersValue) (entries : List Entry) → inside ≡ old → FitsIn old e
    → e.time ≡ time_of old → is_loss e.change ≡ true → SameButRows inside.live noted → lives.Represents noted (entries ++ e ∷ [])
    → things.Represents held_now (entries ++ e ∷ []) → new ≡ filters_lost (lost_in held_now) e.peer e.domain (rows_for noted e.domain) inside.filters
    → Represents inside entries → Filtered inside new (entries ++ e ∷ [])
loss_filtered inside old noted held_now e new entries same fits at is but alive held_so made represents =
    let here = fits_inside inside old e same fits in
    let now : e.time ≡ time_of inside = at ∙ sym (ap time_of same) in
    record {
      filters_are = subst (λ t. rows.Represents new t (entries ++ e ∷ [])) now
          (lost_represents_noted
          (lost_in held_now)
          noted
          inside.filters
          new
          e
          entries
          (now ∙ sym but.time)
          (subst (λ n. e.domain < n) (sym but.domains) (loss_inside inside e here is))
          is
          alive
          (subst (λ t. rows.Represents inside.filters t entries) (sym now) represents.filters)
          (lost_is held_now (held (entries ++ e ∷ [])) held_so)
          made);
      limits_are = limits_after inside e entries here now represents;
    }
