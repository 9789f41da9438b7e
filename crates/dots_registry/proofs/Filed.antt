-- What a registry has of slots goes on with it.
use Rattle.std.proofs.Common.{◌≡◌, ℕ, zero, suc, ◌+◌, ◌*◌, ◌<◌, ◌≤◌, Bool, true, false, cond, not, ◌&&◌, ◌||◌, List, [], ◌∷◌, ◌++◌, length, map, filter, Option, Some, None, inl, inr, refl, sym, ap, subst, ◌∙◌, le_trans, arith}
use Rattle.std.specs.Prelude.{◌==◌, nat_lt, nat_le, option_map, option_to_list}
use Rattle.std.specs.List.{list_any, list_all}
use Rattle.std.proofs.lemmas.Bool.{cond_both, cases_Bool, and_from, and_parts, or_left, or_right, or_cases, eqb-true, eq-eqb, ltb-true, both_ways, false≢true}
use Rattle.std.proofs.lemmas.List.{map-append, length-map, append-nil}
use Rattle.std.proofs.lemmas.List.Folds.{list_all-append}
use Rattle.dots_lists.specs.Name.{is_name}
use Rattle.dots_settings.specs.Settings.{SettingsValue}
use Rattle.dots_settings.specs.declared.limits.Limits.{Limits}
use Rattle.dots_settings.specs.declared.peer.PeerRow.{PeerRow}
use Rattle.dots_history.specs.declared.change.Change.{Change}
use Rattle.dots_history.specs.declared.change.Change.TheVariants as change
use Rattle.dots_history.specs.declared.entry.Entry.{Entry}
use Rattle.dots_history.specs.Bounds.{within_bounds, change_within}
use Rattle.dots_history.specs.Entries.{same_client, is_signal, signals, is_configuration, is_lost, is_loss}
use Rattle.dots_history.specs.Histories.{tally, mitigations, held, alone}
use Rattle.dots_history.specs.Keeping.{kept}
use Rattle.dots_history.specs.Capacities.{KeepsCapacities, belongs_there, belongs, loses_as, has_client, is_alias, most_named}
use Rattle.dots_history.specs.Calm.{numbers_from}
use Rattle.dots_history.specs.Filed.{Filed, entry_of}
use Rattle.dots_history.specs.Fits.{is_of_mitigations}
use Rattle.dots_history.specs.Fits as laws
use Rattle.dots_history.proofs.Bounding.{named_few}
use Rattle.dots_history.proofs.GoingOn.{held_push}
use Rattle.dots_history.proofs.Joining.{fits_so, same_by, tally_held, tally_same}
use Rattle.live_mitigations.specs.LiveValues.{LiveValue, SameButRows, SlotsAre, SlotsCome, rows_for, puts}
use Rattle.live_mitigations.specs.LiveValues as lives
use Rattle.live_mitigations.proofs.Bared.{bared, bared_entries, are_bared, bared_are}
use Rattle.live_mitigations.proofs.SlotsOfRows.{come_later}
use Rattle.held_resources.specs.declared.row.HeldSlot.{HeldSlot}
use Rattle.held_resources.specs.Rows.{HeldRows, written_of, row_with, rows_of, rows_with, is_undone, rows_more as rows_more_of}
use Rattle.held_resources.specs.Sizes.{most_held}
use Rattle.held_resources.specs.Tables.{Tables, Sizes, sizes_of, is_placed, is_known}
use Rattle.held_resources.proofs.Losses.{lost_loss}
use Rattle.held_resources.proofs.Going.{rows_more, none_undone}
use Rattle.held_resources.proofs.Lawful.{known_of}
use Rattle.held_resources.proofs.Names.{is_short}
use Rattle.held_resources.proofs.Sizing.{most_of, most_is}
use Rattle.held_resources.proofs.HistoryTables.{represents_with}
use Rattle.coap_exchange.specs.Pairs.{pairs_of}
use Rattle.coap_exchange.specs.Rings.{RingValue, empty_ring, is_ring_of, noted}
use Rattle.coap_exchange.specs.Noting.{message_of}
use Rattle.installed_filters.specs.Filters.{FiltersValue}
use Rattle.installed_filters.specs.HistoryRows.{KeepsLimits}
use Rattle.installed_filters.proofs.Limits.{limits_with}
use Rattle.dots_registry.specs.Kept.{RingsAre}
use Rattle.dots_registry.specs.RegistryValues.{RegistryValue, Represents, time_of, domains_of, limits_of, number_remembered, has_ring, rings_with, silent}
use Rattle.dots_registry.specs.Fitting.{FitsIn, fits_now, fits_then}
use Rattle.dots_registry.specs.Filed.{RepresentsFiled, HasSlots, IsFiled, capacities_in, actor_of, most_kept, is_alias_of}
use Rattle.dots_registry.proofs.RegistryValues.{joined, fits_within, fits_later, fits_ring, own_of, accepted, puts_kind}
use Rattle.dots_registry.proofs.Conditions.{same_fits}
use Rattle.dots_registry.proofs.Few.{rows_few}
use Rattle.dots_registry.proofs.Going.{from_ring, rings_start, rings_noted, rings_other, last_more}

-- ---- room

-- what entries leave held
abbrev things_held : List Entry → List Entry
things_held es = held es

most_same : (old new : RegistryValue) → limits_of new ≡ limits_of old → new.held.sizes ≡ old.held.sizes
    → most_named (capacities_in new) 0 ≡ most_named (capacities_in old) 0
most_same old new limits sizes =
    most_of (capacities_in new) new.held.sizes.domains refl
    ∙ ap (λ (l : Limits). new.held.sizes.domains * (2 * l.domain_mitigations + l.clients + l.clients * (l.aliases + l.acls)) + length new.held.sizes.peers + length new.held.sizes.own + 1) limits
    ∙ ap
    (λ (s : Sizes). s.domains * (2 * old.live.limits.domain_mitigations + old.live.limits.clients + old.live.limits.clients * (old.live.limits.aliases + old.live.limits.acls)) + length s.peers + length s.own + 1)
    sizes
    ∙ sym (most_of (capacities_in old) old.held.sizes.domains refl)

pub slots_still : (old new : RegistryValue) → domains_of new ≡ domains_of old → limits_of new ≡ limits_of old → new.held.sizes ≡ old.held.sizes
    → new.held.slots.room ≡ old.held.slots.room → HasSlots old → HasSlots new
slots_still old new domains limits sizes room has = record {
  domains = ap (λ (s : Sizes). s.domains) sizes ∙ has.domains ∙ sym domains;
  held = room ∙ has.held ∙ sym (most_same old new limits sizes);
}

-- ---- the first

pub filed_first : (live : LiveValue) (held : Tables) (rings : List RingValue) (filters : FiltersValue) (settings : SettingsValue) (room : ℕ)
    → live.limits ≡ settings.limits → live.time ≡ 0 → rings ≡ map (empty_ring settings.limits.remembered) (pairs_of settings) → SlotsAre 0 live.tables []
    → held.slots ≡ record { room = room; rows = [] } → Represents (joined live held rings filters None) [] → RepresentsFiled (joined live held rings filters None) []
filed_first live held rings filters settings room limits at made are none represents = record {
  represents = represents;
  slots = record {
    live = subst (λ t. SlotsAre t live.tables []) (sym at) are;
    messages = subst
        (λ (l : Limits). RingsAre l.remembered rings [])
        (sym limits)
        (subst (λ rs. RingsAre settings.limits.remembered rs []) (sym made) (rings_start settings.limits.remembered (pairs_of settings)));
    last = refl;
    rows = ap (λ (r : HeldRows). r.rows) none;
  };
  known = refl;
  aliased = λ client. omega arith;
}

pub slots_first_room : (live : LiveValue) (held : Tables) (rings : List RingValue) (filters : FiltersValue) (settings : SettingsValue)
    → live.domains ≡ length settings.domains → live.limits ≡ settings.limits → held.sizes ≡ sizes_of settings
    → held.slots ≡ record { room = most_held settings; rows = [] } → HasSlots (joined live held rings filters None)
slots_first_room live held rings filters settings domains limits sizes none = record {
  domains = ap (λ (s : Sizes). s.domains) sizes ∙ sym domains;
  held = ap (λ (r : HeldRows). r.room) none
      ∙ sym (most_is
      settings
      (capacities_in (joined live held rings filters None))
      (ap (λ (s : Sizes). numbers_from 0 s.domains) sizes)
      (ap (λ (l : Limits). l.domain_mitigations) limits)
      (ap (λ (l : Limits). l.clients) limits)
      (ap (λ (l : Limits). l.aliases) limits)
      (ap (λ (l : Limits). l.acls) limits)
      (ap (λ (s : Sizes). length s.peers) sizes ∙ length-map settings.peers (λ (row : PeerRow). row.peer))
      (ap (λ (s : Sizes). s.own) sizes));
}

-- ---- the time

-- the live mitigations of a domain, by the entries in their slots
rows_bared : (live : LiveValue) (filed : List Filed) (domain : ℕ) → domain < live.domains → lives.Represents live (map entry_of filed)
    → rows_for live domain ≡ mitigations live.time (alone domain (map entry_of (map bared filed)))
rows_bared live filed domain within represents =
    represents.rows domain within ∙ ap (λ es. mitigations live.time (alone domain es)) (sym (bared_entries filed))

come_now : (now : ℕ) (registry : RegistryValue) (filed : List Filed) → time_of registry ≤ now → RepresentsFiled registry filed
    → SlotsCome now registry.live.tables (map bared filed)
come_now now registry filed less represents =
    come_later
    (time_of registry)
    now
    registry.live.tables
    (map bared filed)
    less
    (λ domain within. rows_bared registry.live filed domain (subst (λ n. domain < n) represents.represents.live.are_tables.number within) represents.represents.live)
    (are_bared (time_of registry) registry.live.tables filed represents.slots.live)

pub filed_later : (now : ℕ) (inside old : RegistryValue) (live : LiveValue) (filters : FiltersValue) (filed : List Filed) → inside ≡ old
    → time_of old ≤ now → live.limits ≡ inside.live.limits → live.time ≡ now
    → ((all : List Filed) → SlotsCome now inside.live.tables all → SlotsAre now live.tables all)
    → (Represents old (map entry_of filed) → Represents (joined live inside.held inside.rings filters inside.last) (map entry_of filed))
    → RepresentsFiled old filed → RepresentsFiled (joined live inside.held inside.rings filters inside.last) filed
filed_later now inside old live filters filed same less limits at come new represents =
    let here : RepresentsFiled inside filed = subst (λ r. RepresentsFiled r filed) (sym same) represents in
    let later : time_of inside ≤ now = subst (λ r. time_of r ≤ now) (sym same) less in
    record {
      represents = new represents.represents;
      slots = record {
        live = subst
            (λ t. SlotsAre t live.tables filed)
            (sym at)
            (bared_are now live.tables filed (come (map bared filed) (come_now now inside filed later here)));
        messages = subst (λ (l : Limits). RingsAre l.remembered inside.rings filed) (sym limits) here.slots.messages;
        last = here.slots.last;
        rows = here.slots.rows;
      };
      known = here.known;
      aliased = λ client. subst (λ (l : Limits). tally (is_alias_of client) (held (map entry_of filed)) ≤ l.aliases) (sym limits) (here.aliased client);
    }

-- ---- what the registry may come to

-- a number below n is among the first n
among : (first n d : ℕ) → first ≤ d → d < first + n → list_any (λ k. d == k) (numbers_from first n) ≡ true
among first zero d low high = absurd (omega (arith, low, high))
among first (suc n) d low high =
    elim (cases_Bool (d == first)) [
      | inl here ↦ or_left (d == first) (list_any (λ k. d == k) (numbers_from (suc first) n)) here
      | inr other ↦
          let apart = not_same d first other in
          or_right (d == first) (list_any (λ k. d == k) (numbers_from (suc first) n)) (among (suc first) n d (omega (arith, low, apart)) (omega (arith, high)))
    ]
  where
    not_same : (a b : ℕ) → (a == b) ≡ false → a ≡ b → ⊥
    not_same a b out same = both_ways (a == b) out (eq-eqb a b same)

any_actor : (e : Entry) (rings : List RingValue) → is_signal e.change ≡ true → list_any (is_ring_of e.peer e.domain) rings ≡ true
    → list_any (λ (actor : ℕ × ℕ). signals actor.0 actor.1 e) (map actor_of rings) ≡ true
any_actor e [] signal is = absurd (false≢true is)
any_actor e (r ∷ rings) signal is =
    elim (or_cases (is_ring_of e.peer e.domain r) (list_any (is_ring_of e.peer e.domain) rings) is) [
      | inl here ↦
          or_left
          (signals r.pair.peer r.pair.domain e)
          (list_any (λ (actor : ℕ × ℕ). signals actor.0 actor.1 e) (map actor_of rings))
          (from_ring r (record { entry = e; slot = 0 }) ∙ and_from (is_signal e.change) (is_ring_of e.peer e.domain r) signal here)
      | inr there ↦
          or_right
          (signals r.pair.peer r.pair.domain e)
          (list_any (λ (actor : ℕ × ℕ). signals actor.0 actor.1 e) (map actor_of rings))
          (any_actor e rings signal there)
    ]

belongs_by : (registry : RegistryValue) (e : Entry) → has_ring registry.rings e ≡ true → is_known registry.held.sizes e ≡ true
    → belongs (capacities_in registry) e ≡ true
belongs_by registry e has known =
    let actors = map actor_of registry.rings in
    let peers = list_any (λ peer. e.peer == peer) registry.held.sizes.peers in
    let domains = list_any (λ domain. e.domain == domain) (numbers_from 0 registry.held.sizes.domains) in
    let parts = and_parts (is_placed registry.held.sizes e) (not (is_loss e.change) || list_any (loses_as e) registry.held.sizes.own) known in
    and_from
    (belongs_there (capacities_in registry) e)
    (not (is_lost e.change) || list_any (loses_as e) registry.held.sizes.own)
    (and_from
    (not (is_signal e.change) || list_any (λ (actor : ℕ × ℕ). signals actor.0 actor.1 e) actors)
    (cond (is_configuration e.change) peers domains)
    (elim (cases_Bool (is_signal e.change)) [
      | inl signal ↦
          or_right
          (not (is_signal e.change))
          (list_any (λ (actor : ℕ × ℕ). signals actor.0 actor.1 e) actors)
          (any_actor e registry.rings signal (sym (ap (λ b. not b || list_any (is_ring_of e.peer e.domain) registry.rings) signal) ∙ has))
      | inr quiet ↦
          or_left
          (not (is_signal e.change))
          (list_any (λ (actor : ℕ × ℕ). signals actor.0 actor.1 e) actors)
          (ap not quiet)
    ])
    (by_kind (is_configuration e.change) parts.0))
    (lost_too (is_lost e.change) refl parts.1)
  where
    by_kind : (b : Bool) → cond b (list_any (λ peer. e.peer == peer) registry.held.sizes.peers) (nat_lt e.domain registry.held.sizes.domains) ≡ true
        → cond b (list_any (λ peer. e.peer == peer) registry.held.sizes.peers) (list_any (λ domain. e.domain == domain) (numbers_from 0 registry.held.sizes.domains)) ≡ true
    by_kind true is = is
    by_kind false is =
        let below = ltb-true e.domain registry.held.sizes.domains is in
        among 0 registry.held.sizes.domains e.domain (omega arith) (omega (arith, below))

    lost_too : (b : Bool) → is_lost e.change ≡ b → (not (is_loss e.change) || list_any (loses_as e) registry.held.sizes.own) ≡ true
        → (not b || list_any (loses_as e) registry.held.sizes.own) ≡ true
    lost_too false is there = refl
    lost_too true is there = sym (ap (λ b. not b || list_any (loses_as e) registry.held.sizes.own) (lost_loss e.change is)) ∙ there

all_belong : (registry : RegistryValue) (es : List Entry) → list_all (has_ring registry.rings) es ≡ true → list_all (is_known registry.held.sizes) es ≡ true
    → list_all (belongs (capacities_in registry)) es ≡ true
all_belong registry [] has known = refl
all_belong registry (e ∷ es) has known =
    let rings = and_parts (has_ring registry.rings e) (list_all (has_ring registry.rings) es) has in
    let sizes = and_parts (is_known registry.held.sizes e) (list_all (is_known registry.held.sizes) es) known in
    and_from
    (belongs (capacities_in registry) e)
    (list_all (belongs (capacities_in registry)) es)
    (belongs_by registry e rings.0 sizes.0)
    (all_belong registry es rings.1 sizes.1)

keeps_by : (registry : RegistryValue) (t : ℕ) (es : List Entry) → KeepsLimits (limits_of registry) t es → list_all (has_client (things_held es)) (things_held es) ≡ true
    → ((client : Entry) → tally (is_alias_of client) (things_held es) ≤ (limits_of registry).aliases) → KeepsCapacities (capacities_in registry) t es
keeps_by registry t es limits owned aliased = record {
  live = limits.live;
  registered = limits.registered;
  owned = owned;
  aliased = aliased;
  listed = limits.listed;
}

-- a compaction keeps at most so many
pub few_kept : (registry : RegistryValue) (filed : List Filed) → RepresentsFiled registry filed
    → length (kept (number_remembered registry) (time_of registry) (map entry_of filed)) ≤ most_kept registry
few_kept registry filed represents =
    let es = map entry_of filed in
    named_few
    (capacities_in registry)
    (number_remembered registry)
    (time_of registry)
    es
    (all_belong registry es represents.represents.signalled represents.known)
    (keeps_by registry (time_of registry) es represents.represents.limits represents.represents.held.owned represents.aliased)

-- ---- one more entry

entries_more : (filed : List Filed) (x : Filed) → map entry_of (filed ++ x ∷ []) ≡ map entry_of filed ++ x.entry ∷ []
entries_more filed x = map-append entry_of filed (x ∷ [])

-- it fits the entries in their slots
fits_here : (registry : RegistryValue) (x : Filed) (filed : List Filed) (fits : FitsIn registry x.entry) → Represents registry (map entry_of filed)
    → laws.fits fits.settings (map entry_of filed) x.entry ≡ true
fits_here registry x filed fits represents =
    let es = map entry_of filed in
    let now : fits_now fits.settings registry es x.entry ≡ true =
    same_fits fits.settings registry es fits.entries x.entry fits.is_of represents fits.represents ∙ fits.fits in
    let parts = and_parts (within_bounds x.entry) (fits_then fits.settings registry es x.entry) now in
    (and_parts (nat_le (time_of registry) x.entry.time) (laws.fits fits.settings es x.entry) parts.1).1

aliased_more : (registry : RegistryValue) (x : Filed) (filed : List Filed) (fits : FitsIn registry x.entry) → RepresentsFiled registry filed → (client : Entry)
    → tally (is_alias_of client) (held (map entry_of filed ++ x.entry ∷ [])) ≤ (limits_of registry).aliases
aliased_more registry x filed fits represents client =
    let e = x.entry in
    let es = map entry_of filed in
    elim (cases_Bool (is_alias_of client e)) [
      | inl is ↦
          let same = (and_parts (is_alias e.change) (same_client client e) is).1 in
          subst
          (λ (l : Limits). tally (is_alias_of client) (held (es ++ e ∷ [])) ≤ l.aliases)
          (sym fits.is_of.limits)
          (subst
          (λ k. k ≤ fits.settings.limits.aliases)
          (sym (tally_same
          (is_alias_of client)
          (is_alias_of e)
          (λ y. ap (λ b. is_alias y.change && b) (same_by client e y same))
          (held (es ++ e ∷ []))))
          (fits_so fits.settings es e (fits_here registry x filed fits represents.represents)).aliased)
      | inr out ↦
          le_trans
          (subst (λ hs. tally (is_alias_of client) hs ≤ tally (is_alias_of client) (held es)) (sym (held_push e es)) (tally_held (is_alias_of client) e (held es) out))
          (represents.aliased client)
    ]

known_more : (registry : RegistryValue) (x : Filed) (filed : List Filed) (fits : FitsIn registry x.entry) → RepresentsFiled registry filed
    → list_all (is_known registry.held.sizes) (map entry_of filed ++ x.entry ∷ []) ≡ true
known_more registry x filed fits represents =
    let known = is_known registry.held.sizes in
    let own : known x.entry ≡ true =
    ap (λ (s : Sizes). is_known s x.entry) fits.is_of.sizes
    ∙ known_of fits.settings x.entry (own_of fits.settings (map entry_of filed) x.entry (fits_here registry x filed fits represents.represents)) in
    list_all-append known (map entry_of filed) (x.entry ∷ [])
    ∙ and_from (list_all known (map entry_of filed)) (list_all known (x.entry ∷ [])) represents.known (and_from (known x.entry) true own refl)

rings_more : (n : ℕ) (rings : List RingValue) (x : Filed) (filed : List Filed) → RingsAre n rings filed → RingsAre n (rings_with x.slot x.entry rings) (filed ++ x ∷ [])
rings_more n rings x filed are =
    cond_both
    (is_signal x.entry.change)
    (noted x.entry.peer x.entry.domain (message_of x.slot x.entry) rings)
    rings
    (λ rs. RingsAre n rs (filed ++ x ∷ []))
    (λ is. rings_noted n rings filed x is are)
    (λ out. rings_other n rings filed x out are)

-- the rows of what is held with the entry
same_rows : (x : Filed) (filed : List Filed) (old new : HeldRows) → old.rows ≡ rows_of filed → new.rows ≡ rows_with x old.rows → new.rows ≡ rows_of (filed ++ x ∷ [])
same_rows x filed old new before made = made ∙ ap (rows_with x) before ∙ sym (rows_more filed x)

no_row : (c : Change) → is_of_mitigations c ≡ true → written_of c ≡ None
unfolding is_of_mitigations
no_row (change.Put put) is = refl
no_row (change.Withdraw mid) is = refl
no_row _ is = absurd (false≢true is)

pub quiet_rows : (x : Filed) (rows : List HeldSlot) → puts x.entry ≡ true → rows ≡ rows_with x rows
quiet_rows x rows put =
    let kind = (puts_kind x.entry put).0 in
    none_undone rows x.entry kind
    ∙ sym (append-nil (filter (λ row. not (is_undone row x.entry)) rows))
    ∙ ap (λ o. filter (λ row. not (is_undone row x.entry)) rows ++ option_to_list (option_map (row_with x) o)) (sym (no_row x.entry.change kind))

pub filed_more : (inside old : RegistryValue) (live : LiveValue) (held : Tables) (rings : List RingValue) (filters : FiltersValue) (slot : ℕ) (e : Entry)
    (filed : List Filed)
    → inside ≡ old → FitsIn old e → SameButRows inside.live live → held.sizes ≡ inside.held.sizes
    → rings ≡ rings_with slot e inside.rings → held.slots.rows ≡ rows_with (record { entry = e; slot = slot }) inside.held.slots.rows
    → (lives.Represents inside.live (map entry_of filed) → SlotsAre (time_of inside) inside.live.tables filed
    → SlotsAre (time_of inside) live.tables (filed ++ record { entry = e; slot = slot } ∷ []))
    → (Represents old (map entry_of filed) → Represents (joined live held rings filters (Some slot)) (map entry_of filed ++ e ∷ []))
    → RepresentsFiled old filed → RepresentsFiled (joined live held rings filters (Some slot)) (filed ++ record { entry = e; slot = slot } ∷ [])
filed_more inside old live held rings filters slot e filed same fits but sizes made written slots_are new represents =
    let x : Filed = record { entry = e; slot = slot } in
    let here : RepresentsFiled inside filed = subst (λ r. RepresentsFiled r filed) (sym same) represents in
    let fits_in : FitsIn inside e = subst (λ r. FitsIn r e) (sym same) fits in
    record {
      represents = subst (Represents (joined live held rings filters (Some slot))) (sym (entries_more filed x)) (new represents.represents);
      slots = record {
        live = subst (λ t. SlotsAre t live.tables (filed ++ x ∷ [])) (sym but.time) (slots_are here.represents.live here.slots.live);
        messages = subst
            (λ (l : Limits). RingsAre l.remembered rings (filed ++ x ∷ []))
            (sym but.limits)
            (subst (λ rs. RingsAre (number_remembered inside) rs (filed ++ x ∷ [])) (sym made) (rings_more (number_remembered inside) inside.rings x filed here.slots.messages));
        last = sym (last_more filed x);
        rows = same_rows x filed inside.held.slots held.slots here.slots.rows written;
      };
      known = ap (list_all (is_known held.sizes)) (entries_more filed x)
          ∙ ap (λ (s : Sizes). list_all (is_known s) (map entry_of filed ++ e ∷ [])) sizes
          ∙ known_more inside x filed fits_in here;
      aliased = λ client.
          subst
          (λ es. tally (is_alias_of client) (things_held es) ≤ live.limits.aliases)
          (sym (entries_more filed x))
          (subst
          (λ (l : Limits). tally (is_alias_of client) (things_held (map entry_of filed ++ e ∷ [])) ≤ l.aliases)
          (sym but.limits)
          (aliased_more inside x filed fits_in here client));
    }

pub room_more : (inside : RegistryValue) (live : LiveValue) (held : Tables) (rings : List RingValue) (filters : FiltersValue) (last : Option ℕ)
    → SameButRows inside.live live → held.sizes ≡ inside.held.sizes → held.slots.room ≡ inside.held.slots.room → HasSlots inside
    → HasSlots (joined live held rings filters last)
room_more inside live held rings filters last but sizes rooms room =
    slots_still inside (joined live held rings filters last) but.domains but.limits sizes rooms room

-- ---- there is room for it

short_name : (e : Entry) → within_bounds e ≡ true → length e.cuid ≤ 64
short_name e is =
    let named = (length e.cuid == 0) || is_name e.cuid in
    let parts = and_parts ((nat_lt e.time 281474976710656 && named) && nat_le (length e.reply) 64) (change_within e.change) is in
    let front = and_parts (nat_lt e.time 281474976710656 && named) (nat_le (length e.reply) 64) parts.0 in
    let name = and_parts (nat_lt e.time 281474976710656) named front.0 in
    elim (or_cases (length e.cuid == 0) (is_name e.cuid) name.1) [
      | inl none ↦ let nought : length e.cuid ≡ 0 = eqb-true (length e.cuid) 0 none in omega (arith, nought)
      | inr there ↦ is_short e.cuid there
    ]

held_room : (inside : RegistryValue) (x : Filed) (filed : List Filed) → FitsIn inside x.entry → HasSlots inside → x.entry.time ≡ time_of inside → RepresentsFiled inside filed
    → length (rows_with x inside.held.slots.rows) ≤ inside.held.slots.room
held_room inside x filed fits room at represents =
    let e = x.entry in
    let es = map entry_of filed in
    let more = es ++ e ∷ [] in
    let whole = entries_more filed x in
    let limits : KeepsLimits (limits_of inside) e.time more =
    subst
    (λ (l : Limits). KeepsLimits l e.time more)
    (sym fits.is_of.limits)
    (limits_with
    fits.settings
    (time_of inside)
    es
    e
    (fits_later inside e fits)
    (fits_here inside x filed fits represents.represents)
    (fits_within inside e fits)
    (subst (λ (l : Limits). KeepsLimits l (time_of inside) es) fits.is_of.limits represents.represents.limits)) in
    let owned : list_all (has_client (held more)) (held more) ≡ true =
    (represents_with inside.held es e x.slot represents.represents.held (accepted inside e fits)).owned in
    let rings : list_all (has_ring inside.rings) more ≡ true =
    list_all-append (has_ring inside.rings) es (e ∷ [])
    ∙ and_from
    (list_all (has_ring inside.rings) es)
    (list_all (has_ring inside.rings) (e ∷ []))
    represents.represents.signalled
    (and_from (has_ring inside.rings e) true (fits_ring inside inside e refl fits) refl) in
    let few : length (rows_of (filed ++ x ∷ [])) ≤ most_named (capacities_in inside) 0 =
    rows_few
    (capacities_in inside)
    e.time
    (filed ++ x ∷ [])
    (ap (list_all (belongs (capacities_in inside))) whole ∙ all_belong inside more rings (known_more inside x filed fits represents))
    (subst
    (KeepsCapacities (capacities_in inside) e.time)
    (sym whole)
    (keeps_by inside e.time more limits owned (aliased_more inside x filed fits represents))) in
    let rows : length (rows_with x inside.held.slots.rows) ≡ length (rows_of (filed ++ x ∷ [])) =
    ap (λ rs. length (rows_with x rs)) represents.slots.rows ∙ ap length (sym (rows_more filed x)) in
    let most = room.held in
    omega (arith, few, rows, most)

-- as a call that takes it asks for it, without its reply
pub name_here : (inside old : RegistryValue) (e entry : Entry) → inside ≡ old → entry ≡ silent e → FitsIn old e → length entry.cuid ≤ 64
name_here inside old e entry same is fits =
    subst (λ (x : Entry). length x.cuid ≤ 64) (sym is) (short_name e (fits_within inside e (subst (λ r. FitsIn r e) (sym same) fits)))

pub room_here : (inside old : RegistryValue) (slot : ℕ) (e entry : Entry) → inside ≡ old → IsFiled inside → FitsIn old e → e.time ≡ time_of old
    → entry ≡ silent e → length (rows_with (record { entry = entry; slot = slot }) inside.held.slots.rows) ≤ inside.held.slots.room
room_here inside old slot e entry same filed fits at is =
    subst
    (λ (x : Entry). length (rows_with (record { entry = x; slot = slot }) inside.held.slots.rows) ≤ inside.held.slots.room)
    (sym is)
    (held_room inside (record { entry = e; slot = slot }) filed.filed (subst (λ r. FitsIn r e) (sym same) fits) filed.room (at ∙ ap time_of (sym same)) filed.represents)

pub rows_here : (old new : HeldRows) (slot : ℕ) (e entry : Entry) → entry ≡ silent e → new ≡ rows_more_of (record { entry = entry; slot = slot }) old
    → new ≡ rows_more_of (record { entry = e; slot = slot }) old
rows_here old new slot e entry is made = made ∙ ap (λ (x : Entry). rows_more_of (record { entry = x; slot = slot }) old) is
