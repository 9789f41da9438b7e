-- What a registry says to an entry is whether it fits.
use Rattle.std.proofs.Common.{◌≡◌, ℕ, ◌+◌, ◌<◌, ◌≤◌, Bool, true, false, cond, not, ◌&&◌, ◌||◌, List, [], ◌∷◌, ◌++◌, length, Option, Some, None, inl, inr, refl, sym, ap, ◌∙◌, arith}
use Rattle.std.specs.Prelude.{◌==◌, ◌^◌, nat_lt, nat_le, option_to_list, bytes_eq}
use Rattle.std.specs.List.{list_all}
use Rattle.std.proofs.lemmas.Bool.{false≢true, cases_Bool, and_parts, and_from, ne_eqb, ltb-true, ltb-false, leb-true, le-leb, false_from_ne_true}
use Rattle.std.proofs.lemmas.List.Folds.{list_all-append}
use Rattle.dots_settings.specs.Settings.{SettingsValue}
use Rattle.dots_settings.specs.declared.limits.Limits.{Limits}
use Rattle.dots_history.specs.declared.entry.Entry.{Entry}
use Rattle.dots_history.specs.declared.put.Put.{Put}
use Rattle.dots_history.specs.declared.status.Status.{Status}
use Rattle.dots_history.specs.declared.status.Status.TheVariants.{Ended, Open, Withdrawn}
use Rattle.dots_lists.specs.Name.{is_name}
use Rattle.dots_history.specs.Bounds.{within_bounds, change_within}
use Rattle.dots_history.specs.Entries.{same_client, runs, is_unexpired, granted_at, put_of, option_any}
use Rattle.dots_history.specs.Histories.{Mitigation, Within, live, status, tally, mitigations, held}
use Rattle.dots_history.specs.Calm.{is_of_settings}
use Rattle.dots_history.specs.Fits as laws
use Rattle.live_mitigations.specs.LiveValues.{LiveValue, puts, is_inside, keeps_live_room, has_live_room}
use Rattle.live_mitigations.specs.LiveValues as lives
use Rattle.live_mitigations.proofs.LiveValues.{quiet_inside}
use Rattle.live_mitigations.proofs.Room.{has_room_is}
use Rattle.held_resources.specs.Tables.{Tables, sizes_of}
use Rattle.held_resources.specs.Accepting.{accepts, keeps_rooms}
use Rattle.held_resources.proofs.HistoryTables.{accepted_by}
use Rattle.held_resources.proofs.Lawful.{accepts_own}
use Rattle.dots_registry.specs.RegistryValues.{RegistryValue, IsOf, Represents, time_of}
use Rattle.dots_registry.specs.Fitting.{HasTables, FitsIn, fits_then, fits_now, fits_tables}
use Rattle.dots_registry.proofs.RegistryValues.{own_below, own_inside}

-- ---- what isn't of a domain

none_there : (o : Option Put) → option_any (λ (put : Put). true) o ≡ false → o ≡ None
none_there None is = refl
none_there (Some put) is = absurd (false≢true (sym is))

pub never_live : (t : ℕ) (e : Entry) (s : Status) → puts e ≡ false → live t e s ≡ false
unfolding runs is_unexpired
never_live t e Ended quiet = refl
never_live t e Open quiet = ap (λ b. b || false) (ap (option_any (λ (put : Put). granted_at t e.time put.granted)) (none_there (put_of e.change) quiet))
never_live t e (Withdrawn at) quiet =
    ap (λ b. b && nat_lt t (at + 120)) (ap (option_any (λ (put : Put). granted_at at e.time put.granted)) (none_there (put_of e.change) quiet))

pub inside_or_quiet : (domains : ℕ) (e : Entry) → is_inside domains e ≡ true → puts e ≡ true → e.domain < domains
inside_or_quiet domains e inside put = ltb-true e.domain domains (sym (ap (λ b. not b || nat_lt e.domain domains) put) ∙ inside)

none_counts : (test : Entry → Bool) (t domains : ℕ) (entries : List Entry) → ((x : Entry) → x.domain < domains → test x ≡ false)
    → list_all (is_inside domains) entries ≡ true → tally (λ (m : Mitigation). test m.put) (mitigations t entries) ≡ 0
none_counts test t domains [] out all = refl
none_counts test t domains (e ∷ later) out all =
    let parts = and_parts (is_inside domains e) (list_all (is_inside domains) later) all in
    by_life (live t e (status e Open later)) refl (none_counts test t domains later out parts.1) parts.0
  where
    by_life : (b : Bool) → live t e (status e Open later) ≡ b → tally (λ (m : Mitigation). test m.put) (mitigations t later) ≡ 0 → is_inside domains e ≡ true
        → tally (λ (m : Mitigation). test m.put) (option_to_list (cond b (Some (record { put = e; status = status e Open later })) None) ++ mitigations t later) ≡ 0
    by_life false dead rest inside = rest
    by_life true alive rest inside =
        elim (cases_Bool (puts e)) [
          | inl put ↦
              let nought : ℕ = 0 in
              let none : cond (test e) 1 0 ≡ nought = ap (λ b. cond b 1 0) (out e (inside_or_quiet domains e inside put)) in
              omega (arith, none, rest)
          | inr quiet ↦ absurd (false≢true (sym (never_live t e (status e Open later) quiet) ∙ alive))
        ]

pub out_of_client : (e x : Entry) → (e.domain == x.domain) ≡ false → same_client e x ≡ false
unfolding same_client
out_of_client e x out = ap (λ b. b && bytes_eq e.cuid x.cuid) out

-- an entry of no domain finds room
outside_room : (live : LiveValue) (entries : List Entry) (e : Entry) → live.domains ≤ e.domain → puts e ≡ false → lives.Represents live entries
    → has_live_room live.limits entries e ≡ true
outside_room live entries e past quiet represents =
    let all : list_all (is_inside live.domains) (entries ++ e ∷ []) ≡ true =
    list_all-append (is_inside live.domains) entries (e ∷ [])
    ∙ and_from
    (list_all (is_inside live.domains) entries)
    (list_all (is_inside live.domains) (e ∷ []))
    represents.inside
    (and_from (is_inside live.domains e) true (quiet_inside live.domains e quiet) refl) in
    let domain = none_counts (λ (x : Entry). x.domain == e.domain) e.time live.domains (entries ++ e ∷ []) (λ x less. ne_eqb x.domain e.domain (apart x less)) all in
    let client = none_counts (same_client e) e.time live.domains (entries ++ e ∷ []) (λ x less. out_of_client e x (ne_eqb e.domain x.domain (turned x less))) all in
    and_from
    (nat_le (tally (λ (m : Mitigation). m.put.domain == e.domain) (mitigations e.time (entries ++ e ∷ []))) live.limits.domain_mitigations)
    (nat_le (tally (λ (m : Mitigation). same_client e m.put) (mitigations e.time (entries ++ e ∷ []))) live.limits.client_mitigations)
    (ap (λ n. nat_le n live.limits.domain_mitigations) domain ∙ le-leb 0 live.limits.domain_mitigations (omega arith))
    (ap (λ n. nat_le n live.limits.client_mitigations) client ∙ le-leb 0 live.limits.client_mitigations (omega arith))
  where
    apart : (x : Entry) → x.domain < live.domains → x.domain ≡ e.domain → ⊥
    apart x less same = omega (arith, less, past, same)

    turned : (x : Entry) → x.domain < live.domains → e.domain ≡ x.domain → ⊥
    turned x less same = omega (arith, less, past, same)

-- ---- the whole

last_within : (low high : ℕ) (entries : List Entry) → Within low entries high → laws.last_or low entries ≤ high
last_within low high [] is = is
last_within low high (e ∷ later) is = last_within e.time high later is.1

swapped : (a l r : Bool) → (a && (l && r)) ≡ ((a && r) && l)
swapped false l r = refl
swapped true true true = refl
swapped true true false = refl
swapped true false true = refl
swapped true false false = refl

none_of_all : (b x y : Bool) → ((b && false) && x) ≡ (b && (false && y))
none_of_all true x y = refl
none_of_all false x y = refl

both_of_all : (b x y : Bool) → x ≡ y → ((b && true) && x) ≡ (b && (true && y))
both_of_all true x y same = same
both_of_all false x y same = refl

abbrev by_tables : SettingsValue → RegistryValue → List Entry → Entry → Bool
by_tables settings registry entries e =
    nat_le (time_of registry) e.time
    && (nat_lt e.time 281474976710656
    && (is_of_settings settings e && (accepts registry.held.sizes entries e && has_live_room registry.live.limits entries e)))

fits_is : (settings : SettingsValue) (registry : RegistryValue) (entries : List Entry) (e : Entry) → IsOf settings registry → Represents registry entries
    → fits_then settings registry entries e ≡ by_tables settings registry entries e
fits_is settings registry entries e is_of represents =
    elim (cases_Bool (nat_le (time_of registry) e.time)) [
      | inl later ↦
          let last : laws.last_time entries ≤ time_of registry = last_within 0 (time_of registry) entries represents.live.in_order in
          let less : time_of registry ≤ e.time = leb-true (time_of registry) e.time later in
          let after : nat_le (laws.last_time entries) e.time ≡ true = le-leb (laws.last_time entries) e.time (omega (arith, last, less)) in
          let standing = held (entries ++ e ∷ []) in
          let ms = mitigations e.time (entries ++ e ∷ []) in
          let back = laws.registers_rightly (held entries) e && laws.keeps_room settings.limits e ms standing in
          let rest = accepts registry.held.sizes entries e && has_live_room registry.live.limits entries e in
          ap
          (λ b. nat_le (time_of registry) e.time && (((b && nat_lt e.time 281474976710656) && is_of_settings settings e) && back))
          after
          ∙ ap (λ b. nat_le (time_of registry) e.time && b) (by_own (is_of_settings settings e) refl)
      | inr early ↦
          ap (λ b. b && laws.fits settings entries e) early
          ∙ sym (ap (λ b. b && (nat_lt e.time 281474976710656 && (is_of_settings settings e && (accepts registry.held.sizes entries e && has_live_room registry.live.limits entries e)))) early)
    ]
  where
    rooms : is_of_settings settings e ≡ true
        → (laws.registers_rightly (held entries) e && laws.keeps_room settings.limits e (mitigations e.time (entries ++ e ∷ [])) (held (entries ++ e ∷ [])))
        ≡ (accepts registry.held.sizes entries e && has_live_room registry.live.limits entries e)
    rooms own =
        swapped
        (laws.registers_rightly (held entries) e)
        (keeps_live_room settings.limits e (mitigations e.time (entries ++ e ∷ [])))
        (keeps_rooms (sizes_of settings).rooms e (held (entries ++ e ∷ [])))
        ∙ ap (λ b. b && has_live_room settings.limits entries e) (sym (accepts_own settings entries e own))
        ∙ ap (λ s. accepts s entries e && has_live_room settings.limits entries e) (sym is_of.sizes)
        ∙ ap (λ (l : Limits). accepts registry.held.sizes entries e && has_live_room l entries e) (sym is_of.limits)

    by_own : (b : Bool) → is_of_settings settings e ≡ b
        → ((nat_lt e.time 281474976710656 && b)
        && (laws.registers_rightly (held entries) e && laws.keeps_room settings.limits e (mitigations e.time (entries ++ e ∷ [])) (held (entries ++ e ∷ []))))
        ≡ (nat_lt e.time 281474976710656 && (b && (accepts registry.held.sizes entries e && has_live_room registry.live.limits entries e)))
    by_own true own =
        both_of_all
        (nat_lt e.time 281474976710656)
        (laws.registers_rightly (held entries) e && laws.keeps_room settings.limits e (mitigations e.time (entries ++ e ∷ [])) (held (entries ++ e ∷ [])))
        (accepts registry.held.sizes entries e && has_live_room registry.live.limits entries e)
        (rooms own)
    by_own false own =
        none_of_all
        (nat_lt e.time 281474976710656)
        (laws.registers_rightly (held entries) e && laws.keeps_room settings.limits e (mitigations e.time (entries ++ e ∷ [])) (held (entries ++ e ∷ [])))
        (accepts registry.held.sizes entries e && has_live_room registry.live.limits entries e)

-- in the order in which it is asked; what is within bounds has a time below 2^48
asked_first : (w a b c d : Bool) → (w ≡ true → b ≡ true) → (w && (a && (b && (c && d)))) ≡ ((w && c) && (a && d))
asked_first false a b c d leads = refl
asked_first true true true c d leads = refl
asked_first true false true true d leads = refl
asked_first true false true false d leads = refl
asked_first true a false c d leads = absurd (false≢true (leads refl))

pub timed_within : (e : Entry) → within_bounds e ≡ true → nat_lt e.time 281474976710656 ≡ true
timed_within e is =
    let first = and_parts
    ((nat_lt e.time (2 ^ 48) && ((length e.cuid == 0) || is_name e.cuid)) && nat_le (length e.reply) 64)
    (change_within e.change)
    is in
    let second = and_parts (nat_lt e.time (2 ^ 48) && ((length e.cuid == 0) || is_name e.cuid)) (nat_le (length e.reply) 64) first.0 in
    (and_parts (nat_lt e.time (2 ^ 48)) ((length e.cuid == 0) || is_name e.cuid) second.0).0

abbrev is_possible : SettingsValue → Entry → Bool
is_possible settings e = within_bounds e && is_of_settings settings e

fits_asked : (settings : SettingsValue) (registry : RegistryValue) (entries : List Entry) (e : Entry) → IsOf settings registry → Represents registry entries
    → fits_now settings registry entries e ≡ (is_possible settings e && fits_tables registry entries e)
fits_asked settings registry entries e is_of represents =
    ap (λ b. within_bounds e && b) (fits_is settings registry entries e is_of represents)
    ∙ asked_first
    (within_bounds e)
    (nat_le (time_of registry) e.time)
    (nat_lt e.time 281474976710656)
    (is_of_settings settings e)
    (accepts registry.held.sizes entries e && has_live_room registry.live.limits entries e)
    (timed_within e)

pub fits_possible : (settings : SettingsValue) (registry : RegistryValue) (entries : List Entry) (e : Entry) → IsOf settings registry → Represents registry entries
    → is_possible settings e ≡ true → fits_now settings registry entries e ≡ fits_tables registry entries e
fits_possible settings registry entries e is_of represents is =
    fits_asked settings registry entries e is_of represents ∙ ap (λ b. b && fits_tables registry entries e) is

pub fits_impossible : (settings : SettingsValue) (registry : RegistryValue) (entries : List Entry) (e : Entry) → IsOf settings registry → Represents registry entries
    → is_possible settings e ≡ false → fits_now settings registry entries e ≡ false
fits_impossible settings registry entries e is_of represents is =
    fits_asked settings registry entries e is_of represents ∙ ap (λ b. b && fits_tables registry entries e) is

pub possible_inside : (settings : SettingsValue) (registry : RegistryValue) (e : Entry) → IsOf settings registry → is_possible settings e ≡ true → puts e ≡ true
    → e.domain < registry.live.domains
possible_inside settings registry e is_of is put =
    own_inside settings registry e is_of (and_parts (within_bounds e) (is_of_settings settings e) is).1 put

pub possible_below : (settings : SettingsValue) (domains : ℕ) (e : Entry) → domains ≡ length settings.domains → is_possible settings e ≡ true → puts e ≡ true
    → e.domain < domains
possible_below settings domains e are is put =
    let below = own_below settings e (and_parts (within_bounds e) (is_of_settings settings e) is).1 put in
    omega (arith, below, are)

pub tables_fit : (registry : RegistryValue) (kept : LiveValue) (things : Tables) (entries : List Entry) (e : Entry) → HasTables registry kept things
    → (nat_le kept.time e.time && (accepts things.sizes entries e && has_live_room kept.limits entries e)) ≡ fits_tables registry entries e
tables_fit registry kept things entries e has =
    ap (λ (l : LiveValue). nat_le l.time e.time && (accepts things.sizes entries e && has_live_room l.limits entries e)) (sym has.live_is)
    ∙ ap (λ (h : Tables). nat_le registry.live.time e.time && (accepts h.sizes entries e && has_live_room registry.live.limits entries e)) (sym has.held_is)

pub room_outside : (live : LiveValue) (domains : ℕ) (entries : List Entry) (e : Entry) → domains ≡ live.domains → domains ≤ e.domain
    → (puts e ≡ true → e.domain < live.domains) → lives.Represents live entries → true ≡ has_live_room live.limits entries e
room_outside live domains entries e are past within represents =
    sym (outside_room live entries e (omega (arith, past, are)) (false_from_ne_true (puts e) (λ put. let less = within put in omega (arith, less, past, are))) represents)

-- ---- whichever history

same_room : (settings : SettingsValue) (registry : RegistryValue) (xs ys : List Entry) (e : Entry) → IsOf settings registry → Represents registry xs → Represents registry ys
    → is_possible settings e ≡ true → time_of registry ≤ e.time
    → has_live_room registry.live.limits xs e ≡ has_live_room registry.live.limits ys e
same_room settings registry xs ys e is_of of_xs of_ys possible later =
    elim (cases_Bool (nat_lt e.domain registry.live.domains)) [
      | inl is ↦
          let within : e.domain < registry.live.domains = ltb-true e.domain registry.live.domains is in
          has_room_is registry.live xs e later within of_xs.live ∙ sym (has_room_is registry.live ys e later within of_ys.live)
      | inr out ↦
          let past : registry.live.domains ≤ e.domain = ltb-false e.domain registry.live.domains out in
          let quiet : puts e ≡ false =
          false_from_ne_true (puts e) (λ put. let less = possible_inside settings registry e is_of possible put in omega (arith, less, past)) in
          outside_room registry.live xs e past quiet of_xs.live ∙ sym (outside_room registry.live ys e past quiet of_ys.live)
    ]

same_accepted : (registry : RegistryValue) (xs ys : List Entry) (e : Entry) → Represents registry xs → Represents registry ys
    → accepts registry.held.sizes xs e ≡ accepts registry.held.sizes ys e
same_accepted registry xs ys e of_xs of_ys = accepted_by registry.held xs e of_xs.held ∙ sym (accepted_by registry.held ys e of_ys.held)

same_tables : (settings : SettingsValue) (registry : RegistryValue) (xs ys : List Entry) (e : Entry) → IsOf settings registry → Represents registry xs → Represents registry ys
    → is_possible settings e ≡ true → fits_tables registry xs e ≡ fits_tables registry ys e
same_tables settings registry xs ys e is_of of_xs of_ys possible = by_time (nat_le (time_of registry) e.time) refl
  where
    by_time : (b : Bool) → nat_le (time_of registry) e.time ≡ b
        → (b && (accepts registry.held.sizes xs e && has_live_room registry.live.limits xs e))
        ≡ (b && (accepts registry.held.sizes ys e && has_live_room registry.live.limits ys e))
    by_time false early = refl
    by_time true later =
        ap (λ b. b && has_live_room registry.live.limits xs e) (same_accepted registry xs ys e of_xs of_ys)
        ∙ ap
        (λ b. accepts registry.held.sizes ys e && b)
        (same_room settings registry xs ys e is_of of_xs of_ys possible (leb-true (time_of registry) e.time later))

pub same_fits : (settings : SettingsValue) (registry : RegistryValue) (xs ys : List Entry) (e : Entry) → IsOf settings registry → Represents registry xs → Represents registry ys
    → fits_now settings registry xs e ≡ fits_now settings registry ys e
same_fits settings registry xs ys e is_of of_xs of_ys =
    elim (cases_Bool (is_possible settings e)) [
      | inl is ↦
          fits_possible settings registry xs e is_of of_xs is
          ∙ same_tables settings registry xs ys e is_of of_xs of_ys is
          ∙ sym (fits_possible settings registry ys e is_of of_ys is)
      | inr out ↦ fits_impossible settings registry xs e is_of of_xs out ∙ sym (fits_impossible settings registry ys e is_of of_ys out)
    ]

pub fits_some : (settings : SettingsValue) (registry : RegistryValue) (entries : List Entry) (e : Entry) → IsOf settings registry → Represents registry entries
    → fits_now settings registry entries e ≡ true → FitsIn registry e
fits_some settings registry entries e is_of represents is = record {
  settings = settings;
  entries = entries;
  is_of = is_of;
  represents = represents;
  fits = is;
}
