-- The rows of the live mitigations, made in order of the slots of their entries.
use Rattle.std.proofs.Common.{◌≡◌, ℕ, zero, suc, ◌+◌, ◌<◌, ◌≤◌, Bool, true, false, cond, ◌||◌, List, [], ◌∷◌, ◌++◌, map, length, drop, get_or, Option, Some, None, refl, sym, ap, subst, ◌∙◌, append-nil, append_assoc, arith}
use Rattle.std.specs.Prelude.{◌==◌, nat_lt, slice_get, option_map, option_to_list}
use Rattle.std.specs.List.{list_any, list_all}
use Rattle.std.proofs.lemmas.Bool.{and_parts, ne_eqb, ltb-true, ltb-false, false_from_ne_true}
use Rattle.std.proofs.lemmas.List.{drop_all}
use Rattle.std.proofs.lemmas.List.Folds.{list_all-append}
use Rattle.std.proofs.lemmas.Option.{none-some, same_Some}
use Rattle.dots_history.specs.declared.entry.Entry.{Entry}
use Rattle.dots_history.specs.declared.status.Status.TheVariants.{Open}
use Rattle.dots_history.specs.Histories.{Mitigation, status, if_live, mitigations, held}
use Rattle.dots_history.specs.Tables.{bare_mitigation}
use Rattle.dots_history.specs.Filed.{Filed, entry_of}
use Rattle.live_mitigations.specs.LiveValues.{LiveValue, SlotsAre, is_inside, puts, rows_for}
use Rattle.live_mitigations.specs.LiveValues as lives
use Rattle.live_mitigations.specs.Rows.{LiveTable, rows_or_none, slots_of}
use Rattle.live_mitigations.specs.Slots.{put_in}
use Rattle.live_mitigations.proofs.Finding.{put_found}
use Rattle.held_resources.specs.Tables.{Tables, lost_in}
use Rattle.held_resources.proofs.HistoryTables.{lost_is}
use Rattle.installed_filters.specs.Filters.{FiltersValue, SameRoom, rows_put}
use Rattle.installed_filters.proofs.HistoryRows.{live_inside}
use Rattle.installed_filters.proofs.OneByOne.{AreOf, of_none, of_more, of_all, more_fit, rest_are}
use Rattle.dots_registry.specs.Kept.{filed_from, filed}
use Rattle.dots_registry.specs.Gathering.{domain_of, rows_at}
use Rattle.dots_registry.specs.Awaited.{Awaits, filters_found}
use Rattle.dots_registry.proofs.Conditions.{never_live, inside_or_quiet}
use Rattle.dots_registry.proofs.Gatherings.{same_filters}
use Rattle.dots_registry.proofs.Numbering.{entries_from, filed_entries}

-- ---- the entry at a place

record Cut (entries : List Entry) (k : ℕ) : Type 0 where
  front : List Entry
  entry : Entry
  later : List Entry
  whole : entries ≡ front ++ entry ∷ later
  place : k ≡ length front
  rest : drop k entries ≡ entry ∷ later
  next : drop (k + 1) entries ≡ later

cut : (entries : List Entry) (k : ℕ) → k < length entries → Cut entries k
cut [] k less = absurd (omega (arith, less))
cut (e ∷ entries) zero less = record { front = []; entry = e; later = entries; whole = refl; place = refl; rest = refl; next = refl }
cut (e ∷ entries) (suc k) less =
    let go = cut entries k (omega (arith, less)) in
    record {
      front = e ∷ go.front;
      entry = go.entry;
      later = go.later;
      whole = ap (λ es. e ∷ es) go.whole;
      place = ap suc go.place;
      rest = go.rest;
      next = ap (λ n. drop n (e ∷ entries)) (further k) ∙ go.next;
    }
  where
    further : (n : ℕ) → suc n + 1 ≡ suc (n + 1)
    further n = omega arith

domain_at : (front : List Entry) (e : Entry) (later : List Entry) (d : ℕ) → get_or (map domain_of (front ++ e ∷ later)) (length front) d ≡ e.domain
domain_at [] e later d = refl
domain_at (x ∷ front) e later d = domain_at front e later d

-- ---- its slot

filed_cut : (slot : ℕ) (front : List Entry) (e : Entry) (later : List Entry)
    → filed_from slot (front ++ e ∷ later) ≡ filed_from slot front ++ record { entry = e; slot = slot + length front } ∷ filed_from (slot + length front + 1) later
filed_cut slot [] e later = ap (λ (k : ℕ). record { entry = e; slot = k } ∷ filed_from (k + 1) later) (plus_none slot)
  where
    plus_none : (k : ℕ) → k ≡ k + 0
    plus_none k = omega arith
filed_cut slot (x ∷ front) e later =
    ap (λ rest. record { entry = x; slot = slot } ∷ rest) (filed_cut (slot + 1) front e later)
    ∙ ap
    (λ (k : ℕ). record { entry = x; slot = slot } ∷ (filed_from (slot + 1) front ++ record { entry = e; slot = k } ∷ filed_from (k + 1) later))
    (next slot (length front))
  where
    next : (k m : ℕ) → (k + 1) + m ≡ k + suc m
    next k m = omega arith

filed_at : (entries front : List Entry) (e : Entry) (later : List Entry) (k : ℕ) → entries ≡ front ++ e ∷ later → k ≡ length front
    → filed entries ≡ filed_from 0 front ++ record { entry = e; slot = k } ∷ filed_from (k + 1) later
filed_at entries front e later k whole place =
    ap filed whole
    ∙ filed_cut 0 front e later
    ∙ ap (λ (n : ℕ). filed_from 0 front ++ record { entry = e; slot = n } ∷ filed_from (n + 1) later) (same (length front) k place)
  where
    same : (n m : ℕ) → m ≡ n → 0 + n ≡ m
    same n m is = omega (arith, is)

-- the other entries stand in other slots
others_before : (first slot : ℕ) (entries : List Entry) → first + length entries ≤ slot → list_any (λ (x : Filed). x.slot == slot) (filed_from first entries) ≡ false
others_before first slot [] past = refl
others_before first slot (e ∷ entries) past =
    ap (λ b. b || list_any (λ (x : Filed). x.slot == slot) (filed_from (first + 1) entries)) (ne_eqb first slot (λ same. omega (arith, same, past)))
    ∙ others_before (first + 1) slot entries (omega (arith, past))

others_behind : (first slot : ℕ) (entries : List Entry) → slot < first → list_any (λ (x : Filed). x.slot == slot) (filed_from first entries) ≡ false
others_behind first slot [] less = refl
others_behind first slot (e ∷ entries) less =
    ap (λ b. b || list_any (λ (x : Filed). x.slot == slot) (filed_from (first + 1) entries)) (ne_eqb first slot (λ same. omega (arith, same, less)))
    ∙ others_behind (first + 1) slot entries (omega (arith, less))

-- ---- what is found there

none_past : (tables : List LiveTable) (domain : ℕ) → length tables ≤ domain → slice_get tables domain ≡ None
none_past [] domain past = refl
none_past (table ∷ tables) zero past = absurd (omega (arith, past))
none_past (table ∷ tables) (suc domain) past = none_past tables domain (omega (arith, past))

abbrev found_in : LiveValue → ℕ → ℕ → Option Mitigation
found_in kept domain slot = put_in slot (rows_for kept domain) (slots_of domain kept.tables)

abbrev live_at : LiveValue → Entry → List Entry → Option Mitigation
live_at kept e later = if_live kept.time e (status e Open later)

found_outside : (kept : LiveValue) (entries : List Entry) (e : Entry) (later : List Entry) (slot : ℕ) → lives.Represents kept entries
    → is_inside kept.domains e ≡ true → kept.domains ≤ e.domain → found_in kept e.domain slot ≡ option_map bare_mitigation (live_at kept e later)
found_outside kept entries e later slot represents inside past =
    let many = represents.are_tables.number in
    let quiet = false_from_ne_true (puts e) (λ put. let less = inside_or_quiet kept.domains e inside put in omega (arith, less, past)) in
    ap (λ o. put_in slot (rows_or_none o) (slots_of e.domain kept.tables)) (none_past kept.tables e.domain (omega (arith, many, past)))
    ∙ sym (ap
    (λ b. option_map bare_mitigation (cond b (Some (record { put = e; status = status e Open later })) None))
    (never_live kept.time e (status e Open later) quiet))

found_at : (kept : LiveValue) (entries : List Entry) (k : ℕ) (c : Cut entries k) → lives.Represents kept entries → SlotsAre kept.time kept.tables (filed entries)
    → found_in kept c.entry.domain k ≡ option_map bare_mitigation (live_at kept c.entry c.later)
found_at kept entries k c represents are = by_domain (nat_lt c.entry.domain kept.domains) refl
  where
    own_inside : is_inside kept.domains c.entry ≡ true
    own_inside =
        let all = subst (λ es. list_all (is_inside kept.domains) es ≡ true) c.whole represents.inside in
        let parts = and_parts (list_all (is_inside kept.domains) c.front) (list_all (is_inside kept.domains) (c.entry ∷ c.later)) (sym (list_all-append (is_inside kept.domains) c.front (c.entry ∷ c.later)) ∙ all) in
        (and_parts (is_inside kept.domains c.entry) (list_all (is_inside kept.domains) c.later) parts.1).0

    by_domain : (b : Bool) → nat_lt c.entry.domain kept.domains ≡ b → found_in kept c.entry.domain k ≡ option_map bare_mitigation (live_at kept c.entry c.later)
    by_domain true is =
        let all = filed_at entries c.front c.entry c.later k c.whole c.place in
        let place = c.place in
        put_found
        kept
        (filed_from 0 c.front)
        (record { entry = c.entry; slot = k })
        (filed_from (k + 1) c.later)
        (subst (λ fs. lives.Represents kept (map entry_of fs)) all (subst (lives.Represents kept) (sym (filed_entries entries)) represents))
        (subst (SlotsAre kept.time kept.tables) all are)
        (ltb-true c.entry.domain kept.domains is)
        (others_before 0 k c.front (omega (arith, place)))
        (others_behind (k + 1) k c.later (omega arith))
        ∙ ap (λ es. option_map bare_mitigation (live_at kept c.entry es)) (entries_from (k + 1) c.later)
    by_domain false out = found_outside kept entries c.entry c.later k represents own_inside (ltb-false c.entry.domain kept.domains out)

-- ---- in turn

-- the rows of the mitigations before a place are made
pub record AreMade (entries : List Entry) (kept : LiveValue) (k : ℕ) (old now : FiltersValue) : Type 0 where
  pub done : List Mitigation
  pub split : mitigations kept.time entries ≡ done ++ mitigations kept.time (drop k entries)
  pub are : AreOf (held entries) done now
  pub rooms : SameRoom old now

pub made_first : (entries : List Entry) (kept : LiveValue) (things : Tables) (domains : List ℕ) (filters : FiltersValue) → Awaits entries kept things domains filters
    → AreMade entries kept 0 filters filters
made_first entries kept things domains filters awaits = record {
  done = [];
  split = refl;
  are = of_none (held entries) filters awaits.scrubs (awaits.lists ∙ rest_are entries);
  rooms = record { scrubs = refl; acls = refl };
}

-- the domain at a place is that of its entry
at_place : (entries : List Entry) (kept : LiveValue) (things : Tables) (domains : List ℕ) (filters : FiltersValue) (k d : ℕ) (c : Cut entries k)
    → Awaits entries kept things domains filters → d ≡ get_or domains k 0 → d ≡ c.entry.domain
at_place entries kept things domains filters k d c awaits is =
    is
    ∙ ap (λ ds. get_or ds k 0) (awaits.domains_are ∙ ap (map domain_of) c.whole)
    ∙ ap (λ n. get_or (map domain_of (c.front ++ c.entry ∷ c.later)) n 0) c.place
    ∙ domain_at c.front c.entry c.later 0

many : (entries : List Entry) (kept : LiveValue) (things : Tables) (domains : List ℕ) (filters : FiltersValue) → Awaits entries kept things domains filters
    → length domains ≡ length entries
many entries kept things domains filters awaits = ap length awaits.domains_are ∙ as_many entries
  where
    as_many : (es : List Entry) → length (map domain_of es) ≡ length es
    as_many [] = refl
    as_many (e ∷ es) = ap suc (as_many es)

split_at : (entries : List Entry) (kept : LiveValue) (k : ℕ) (old now : FiltersValue) (c : Cut entries k) (made : AreMade entries kept k old now)
    → mitigations kept.time entries ≡ made.done ++ (option_to_list (live_at kept c.entry c.later) ++ mitigations kept.time c.later)
split_at entries kept k old now c made = made.split ∙ ap (λ es. made.done ++ mitigations kept.time es) c.rest

pub made_next : (entries : List Entry) (kept : LiveValue) (things : Tables) (domains : List ℕ) (old now new : FiltersValue) (k d : ℕ)
    → Awaits entries kept things domains old → k < length domains → d ≡ get_or domains k 0
    → new ≡ filters_found (lost_in things) (put_in k (rows_for kept d) (slots_of d kept.tables)) now
    → AreMade entries kept k old now → AreMade entries kept (k + 1) old new
made_next entries kept things domains old now new k d awaits less at is made =
    let number = many entries kept things domains old awaits in
    let c = cut entries k (omega (arith, less, number)) in
    let own = at_place entries kept things domains old k d c awaits at in
    by_found
    (live_at kept c.entry c.later)
    c.later
    c.next
    (is
    ∙ ap (λ n. filters_found (lost_in things) (found_in kept n k) now) own
    ∙ ap (λ o. filters_found (lost_in things) o now) (found_at kept entries k c awaits.alive awaits.slots))
    (split_at entries kept k old now c made)
  where
    by_found : (o : Option Mitigation) (later : List Entry) → drop (k + 1) entries ≡ later
        → new ≡ filters_found (lost_in things) (option_map bare_mitigation o) now
        → mitigations kept.time entries ≡ made.done ++ (option_to_list o ++ mitigations kept.time later) → AreMade entries kept (k + 1) old new
    by_found None later next same split = record {
      done = made.done;
      split = split ∙ ap (λ es. made.done ++ mitigations kept.time es) (sym next);
      are = subst (AreOf (held entries) made.done) (sym same) made.are;
      rooms = subst (SameRoom old) (sym same) made.rooms;
    }
    by_found (Some m) later next more split = record {
      done = made.done ++ m ∷ [];
      split = split
          ∙ sym (append_assoc made.done (m ∷ []) (mitigations kept.time later))
          ∙ ap (λ es. (made.done ++ m ∷ []) ++ mitigations kept.time es) (sym next);
      are = of_more (lost_in things) (held entries) made.done m now new (lost_is things (held entries) awaits.kept) more made.are;
      rooms = record {
        scrubs = ap (λ (f : FiltersValue). f.scrub_room) more ∙ made.rooms.scrubs;
        acls = ap (λ (f : FiltersValue). f.acl_room) more ∙ made.rooms.acls;
      };
    }

-- there is room for what is found
pub found_fits : (entries : List Entry) (kept : LiveValue) (things : Tables) (domains : List ℕ) (old now : FiltersValue) (k d : ℕ) (m : Mitigation)
    → Awaits entries kept things domains old → k < length domains → d ≡ get_or domains k 0 → AreMade entries kept k old now
    → put_in k (rows_for kept d) (slots_of d kept.tables) ≡ Some m → length now.scrubs + length (rows_put m.put) ≤ now.scrub_room
found_fits entries kept things domains old now k d m awaits less at made some =
    let number = many entries kept things domains old awaits in
    let c = cut entries k (omega (arith, less, number)) in
    let own = at_place entries kept things domains old k d c awaits at in
    by_found
    (live_at kept c.entry c.later)
    (mitigations kept.time c.later)
    (sym (ap (λ n. found_in kept n k) own ∙ found_at kept entries k c awaits.alive awaits.slots) ∙ some)
    (split_at entries kept k old now c made)
  where
    by_found : (o : Option Mitigation) (rest : List Mitigation) → option_map bare_mitigation o ≡ Some m → mitigations kept.time entries ≡ made.done ++ (option_to_list o ++ rest)
        → length now.scrubs + length (rows_put m.put) ≤ now.scrub_room
    by_found None rest is split = absurd (none-some m is)
    by_found (Some x) rest is split =
        let fits = more_fit kept.domains kept.limits kept.time entries made.done x rest now
        (live_inside kept.time kept.domains entries awaits.alive.inside) awaits.limits split made.are in
        let room = made.rooms.scrubs ∙ awaits.room in
        let one = ap (λ (y : Mitigation). length (rows_put y.put)) (same_Some (bare_mitigation x) m is) in
        omega (arith, fits, room, one)

pub made_last : (entries : List Entry) (kept : LiveValue) (things : Tables) (domains : List ℕ) (old now : FiltersValue) (k : ℕ) → Awaits entries kept things domains old
    → length domains ≤ k → AreMade entries kept k old now → now ≡ rows_at kept.time entries old
made_last entries kept things domains old now k awaits past made =
    let number = many entries kept things domains old awaits in
    let all : made.done ≡ mitigations kept.time entries =
    sym (made.split
    ∙ ap (λ es. made.done ++ mitigations kept.time es) (drop_all k entries (omega (arith, past, number)))
    ∙ append-nil made.done) in
    let rows = of_all kept.time entries now (subst (λ ms. AreOf (held entries) ms now) all made.are) in
    same_filters now (rows_at kept.time entries old) made.rooms.scrubs made.rooms.acls rows.scrubs rows.acls
