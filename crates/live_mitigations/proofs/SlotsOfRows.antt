-- The slots that are kept go on to be those of a history.
use Rattle.std.proofs.Common.{◌≡◌, ◌≢◌, ℕ, ◌<◌, ◌≤◌, ◌+◌, suc, Bool, true, false, cond, List, [], ◌∷◌, ◌++◌, map, length, Option, Some, None, inl, inr, refl, sym, ap, subst, ◌∙◌, arith}
use Rattle.std.specs.Prelude.{◌==◌, slice_get, option_map, option_to_list}
use Rattle.std.specs.List.{list_any}
use Rattle.std.proofs.lemmas.List.{length-map, map-append, append-nil}
use Rattle.std.proofs.lemmas.List.Elements.{filter-append}
use Rattle.std.proofs.lemmas.Bool.{cases_eq, cond_both, cond-true, cond-false, eq-eqb, ne_eqb}
use Rattle.std.proofs.lemmas.Option.{none-some, slice_get-map}
use Rattle.dots_history.specs.declared.entry.Entry.{Entry}
use Rattle.dots_history.specs.declared.status.Status.TheVariants.{Open}
use Rattle.dots_history.specs.Histories.{Mitigation, live, mitigations, alone}
use Rattle.dots_history.specs.Filed.{Filed, entry_of}
use Rattle.dots_history.specs.Tables.{bare, is_due}
use Rattle.dots_history.specs.Views.{mitigations_at}
use Rattle.dots_history.proofs.Endings.{none_due}
use Rattle.dots_history.proofs.Touching.{never_live}
use Rattle.live_mitigations.specs.declared.slots.MitigationSlots.{MitigationSlots}
use Rattle.live_mitigations.specs.Numbers.{table_renumbered, live_renumbered}
use Rattle.live_mitigations.specs.Rows.{LiveTable, AreEmpty, rows_or_none, rows_at, slots_or_none, slots_of, update, aged, noted}
use Rattle.live_mitigations.specs.Slots.{live_slots, slots_at, slots_left, slots_first}
use Rattle.live_mitigations.specs.LiveValues.{LiveValue, AreTables, Represents, puts, filed_alone, SlotsAre, SlotsCome}
use Rattle.live_mitigations.proofs.Bared.{bared, bared_entries, are_bared, bared_are, slots_left_bared, slots_first_bared}
use Rattle.live_mitigations.proofs.Going.{slots_age, slots_add, as_many}
use Rattle.live_mitigations.proofs.Rows.{puts_none}
use Rattle.live_mitigations.proofs.Updates.{get_updated, get_other, length_updated, there_within, rows_changed, rows_other}

-- the entries of a domain's filed ones are the domain's own entries
pub alone_entries : (domain : ℕ) (filed : List Filed) → map entry_of (filed_alone domain filed) ≡ alone domain (map entry_of filed)
alone_entries domain [] = refl
alone_entries domain (x ∷ later) =
    cond_both
    (x.entry.domain == domain)
    (x ∷ filed_alone domain later)
    (filed_alone domain later)
    (λ xs. map entry_of xs ≡ alone domain (x.entry ∷ map entry_of later))
    (λ own.
    ap (λ es. x.entry ∷ es) (alone_entries domain later)
    ∙ sym (cond-true (x.entry.domain == domain) (x.entry ∷ alone domain (map entry_of later)) (alone domain (map entry_of later)) own))
    (λ other.
    alone_entries domain later
    ∙ sym (cond-false (x.entry.domain == domain) (x.entry ∷ alone domain (map entry_of later)) (alone domain (map entry_of later)) other))

-- ---- by one domain's table
of_updated : (f : LiveTable → LiveTable) (g : List Mitigation → List MitigationSlots → List MitigationSlots) (domain : ℕ) (tables : List LiveTable)
    → domain < length tables → ((table : LiveTable) → (f table).slots ≡ g table.rows table.slots)
    → slots_of domain (update f domain tables) ≡ g (rows_at domain tables) (slots_of domain tables)
of_updated f g domain tables within is =
    let there = there_within tables domain within in
    ap slots_or_none (get_updated f domain tables ∙ ap (option_map f) there.1)
    ∙ is there.0
    ∙ ap (λ ms. g ms there.0.slots) (sym (ap rows_or_none there.1))
    ∙ ap (g (rows_at domain tables)) (sym (ap slots_or_none there.1))

of_other : (f : LiveTable → LiveTable) (domain other : ℕ) (tables : List LiveTable) → other ≢ domain → slots_of other (update f domain tables) ≡ slots_of other tables
of_other f domain other tables apart = ap slots_or_none (get_other f domain other tables apart)

within_old : (f : LiveTable → LiveTable) (domain other : ℕ) (tables : List LiveTable) → other < length (update f domain tables) → other < length tables
within_old f domain other tables less = subst (λ n. other < n) (length_updated f domain tables) less

-- ---- as time goes on
pub come_later : (t now : ℕ) (tables : List LiveTable) (filed : List Filed) → t ≤ now
    → ((domain : ℕ) → domain < length tables → rows_at domain tables ≡ mitigations t (alone domain (map entry_of filed))) → SlotsAre t tables filed
    → SlotsCome now tables filed
come_later t now tables filed less rows_are are = record {
  beside = λ domain within.
      ap length (rows_are domain within ∙ ap (mitigations t) (sym (alone_entries domain filed)))
      ∙ as_many t (filed_alone domain filed)
      ∙ sym (ap length (are domain within));
  left = λ domain within.
      ap (λ ms. slots_at now ms (slots_of domain tables)) (rows_are domain within ∙ ap (mitigations t) (sym (alone_entries domain filed)))
      ∙ ap (slots_at now (mitigations t (map entry_of (filed_alone domain filed)))) (are domain within)
      ∙ sym (slots_age t now (filed_alone domain filed) less);
}

-- what is left is left again, and as many as are live
none_left : (now : ℕ) (ms : List Mitigation) → slots_at now ms [] ≡ []
none_left now [] = refl
none_left now (m ∷ ms) = refl

twice_one : (now : ℕ) (m : Mitigation) (s : MitigationSlots) (ms : List Mitigation) (ss : List MitigationSlots) (b : Bool) → live now m.put m.status ≡ b
    → slots_at now ms ss ≡ ss
    → slots_at now (cond b (m ∷ ms) ms) (option_to_list (cond b (Some s) None) ++ ss) ≡ option_to_list (cond b (Some s) None) ++ ss
twice_one now m s ms ss true is same =
    ap (λ c. option_to_list (cond c (Some s) None) ++ slots_at now ms ss) is ∙ ap (λ rest. s ∷ rest) same
twice_one now m s ms ss false is same = same

left_twice : (now : ℕ) (ms : List Mitigation) (ss : List MitigationSlots) → slots_at now (mitigations_at now ms) (slots_at now ms ss) ≡ slots_at now ms ss
left_twice now [] ss = refl
left_twice now (m ∷ ms) [] = none_left now (mitigations_at now (m ∷ ms))
left_twice now (m ∷ ms) (s ∷ ss) = twice_one now m s (mitigations_at now ms) (slots_at now ms ss) (live now m.put m.status) refl (left_twice now ms ss)

many_one : (b : Bool) (m : Mitigation) (s : MitigationSlots) (ms : List Mitigation) (ss : List MitigationSlots) → length ms ≡ length ss
    → length (cond b (m ∷ ms) ms) ≡ length (option_to_list (cond b (Some s) None) ++ ss)
many_one true m s ms ss is = ap suc is
many_one false m s ms ss is = is

pub as_many_left : (now : ℕ) (ms : List Mitigation) (ss : List MitigationSlots) → length ms ≡ length ss → length (mitigations_at now ms) ≡ length (slots_at now ms ss)
as_many_left now [] [] same = refl
as_many_left now [] (s ∷ ss) same = absurd (omega (arith, same))
as_many_left now (m ∷ ms) [] same = absurd (omega (arith, same))
as_many_left now (m ∷ ms) (s ∷ ss) same =
    many_one (live now m.put m.status) m s (mitigations_at now ms) (slots_at now ms ss) (as_many_left now ms ss (omega (arith, same)))

-- what is over in a domain is taken out of both
pub come_still : (now domain : ℕ) (tables : List LiveTable) (filed : List Filed) → domain < length tables → SlotsCome now tables filed
    → SlotsCome now (update (aged now) domain tables) filed
come_still now domain tables filed within comes =
    let f = aged now in
    let new = update f domain tables in
    let rows = rows_at domain tables in
    let own : rows_at domain new ≡ mitigations_at now rows = rows_changed f (mitigations_at now) domain tables within (λ table. refl) in
    let here : slots_of domain new ≡ slots_at now rows (slots_of domain tables) = of_updated f (slots_at now) domain tables within (λ table. refl) in
    record {
      beside = λ other less.
          elim (cases_eq other domain) [
            | inl same ↦
                ap (λ d. length (rows_at d new)) same
                ∙ ap length own
                ∙ as_many_left now rows (slots_of domain tables) (comes.beside domain within)
                ∙ sym (ap length here)
                ∙ ap (λ d. length (slots_of d new)) (sym same)
            | inr apart ↦
                ap length (rows_other f domain other tables apart)
                ∙ comes.beside other (within_old f domain other tables less)
                ∙ sym (ap length (of_other f domain other tables apart))
          ];
      left = λ other less.
          elim (cases_eq other domain) [
            | inl same ↦
                ap (λ d. slots_at now (rows_at d new) (slots_of d new)) same
                ∙ ap (λ ms. slots_at now ms (slots_of domain new)) own
                ∙ ap (slots_at now (mitigations_at now rows)) here
                ∙ left_twice now rows (slots_of domain tables)
                ∙ comes.left domain within
                ∙ ap (λ d. live_slots now (filed_alone d filed)) (sym same)
            | inr apart ↦
                ap (λ ms. slots_at now ms (slots_of other new)) (rows_other f domain other tables apart)
                ∙ ap (slots_at now (rows_at other tables)) (of_other f domain other tables apart)
                ∙ comes.left other (within_old f domain other tables less)
          ];
    }

-- where nothing is over any more, they are those of the history
few_left : (now : ℕ) (ms : List Mitigation) → length (mitigations_at now ms) ≤ length ms
few_left now [] = omega arith
few_left now (m ∷ ms) =
    let go = few_left now ms in
    cond_both (live now m.put m.status) (m ∷ mitigations_at now ms) (mitigations_at now ms) (λ xs. length xs ≤ suc (length ms))
    (λ is. omega (arith, go)) (λ out. omega (arith, go))

abbrev tail_of : List Mitigation → List Mitigation
tail_of [] = []
tail_of (x ∷ xs) = xs

left_one : (b : Bool) (m : Mitigation) (s : MitigationSlots) (left ms : List Mitigation) (ss_left ss : List MitigationSlots) → length left ≤ length ms
    → (left ≡ ms → ss_left ≡ ss) → cond b (m ∷ left) left ≡ m ∷ ms → option_to_list (cond b (Some s) None) ++ ss_left ≡ s ∷ ss
left_one true m s left ms ss_left ss most same is = ap (λ rest. s ∷ rest) (same (ap tail_of is))
left_one false m s left ms ss_left ss most same is = let long = ap length is in absurd (omega (arith, long, most))

all_left : (now : ℕ) (ms : List Mitigation) (ss : List MitigationSlots) → length ms ≡ length ss → mitigations_at now ms ≡ ms → slots_at now ms ss ≡ ss
all_left now [] [] same is = refl
all_left now [] (s ∷ ss) same is = absurd (omega (arith, same))
all_left now (m ∷ ms) [] same is = absurd (omega (arith, same))
all_left now (m ∷ ms) (s ∷ ss) same is =
    left_one (live now m.put m.status) m s (mitigations_at now ms) ms (slots_at now ms ss) ss (few_left now ms)
    (λ rest. all_left now ms ss (omega (arith, same)) rest) is

pub are_now : (now : ℕ) (tables : List LiveTable) (filed : List Filed) → ((domain : ℕ) → list_any (is_due now) (rows_at domain tables) ≡ false)
    → SlotsCome now tables filed → SlotsAre now tables filed
are_now now tables filed none comes =
    λ domain within.
    sym (all_left now (rows_at domain tables) (slots_of domain tables) (comes.beside domain within) (none_due now (rows_at domain tables) (none domain)))
    ∙ comes.left domain within

-- ---- with one more entry, at the time
alone_own : (domain : ℕ) (filed : List Filed) (x : Filed) → x.entry.domain ≡ domain → filed_alone domain (filed ++ x ∷ []) ≡ filed_alone domain filed ++ x ∷ []
alone_own domain filed x own =
    filter-append (λ (y : Filed). y.entry.domain == domain) filed (x ∷ [])
    ∙ ap (λ xs. filed_alone domain filed ++ xs) (cond-true (x.entry.domain == domain) (x ∷ []) [] (eq-eqb x.entry.domain domain own))

alone_other : (domain : ℕ) (filed : List Filed) (x : Filed) → x.entry.domain ≢ domain → filed_alone domain (filed ++ x ∷ []) ≡ filed_alone domain filed
alone_other domain filed x apart =
    filter-append (λ (y : Filed). y.entry.domain == domain) filed (x ∷ [])
    ∙ ap (λ xs. filed_alone domain filed ++ xs) (cond-false (x.entry.domain == domain) (x ∷ []) [] (ne_eqb x.entry.domain domain apart))
    ∙ nothing_more (filed_alone domain filed)
  where
    nothing_more : (xs : List Filed) → xs ++ [] ≡ xs
    nothing_more [] = refl
    nothing_more (y ∷ xs) = ap (λ rest. y ∷ rest) (nothing_more xs)

are_with : (f : LiveTable → LiveTable) (t : ℕ) (tables : List LiveTable) (filed : List Filed) (x : Filed) → x.entry.time ≡ t → x.entry.domain < length tables
    → ((table : LiveTable) → (f table).slots ≡ slots_left x table.rows table.slots ++ slots_first x)
    → rows_at x.entry.domain tables ≡ mitigations t (alone x.entry.domain (map entry_of filed)) → SlotsAre t tables filed
    → SlotsAre t (update f x.entry.domain tables) (filed ++ x ∷ [])
are_with f t tables filed x at within is rows_are are =
    λ domain less.
    elim (cases_eq domain x.entry.domain) [
      | inl same ↦
          ap (λ d. slots_of d (update f x.entry.domain tables)) same
          ∙ of_updated f (λ ms ss. slots_left x ms ss ++ slots_first x) x.entry.domain tables within is
          ∙ ap (λ ms. slots_left x ms (slots_of x.entry.domain tables) ++ slots_first x) (rows_are ∙ ap (mitigations t) (sym (alone_entries x.entry.domain filed)))
          ∙ ap (λ ss. slots_left x (mitigations t (map entry_of (filed_alone x.entry.domain filed))) ss ++ slots_first x) (are x.entry.domain within)
          ∙ sym (slots_add t x (filed_alone x.entry.domain filed) (omega (arith, at)))
          ∙ ap (λ u. live_slots u (filed_alone x.entry.domain filed ++ x ∷ [])) at
          ∙ ap (live_slots t) (sym (alone_own x.entry.domain filed x refl))
          ∙ ap (λ d. live_slots t (filed_alone d (filed ++ x ∷ []))) (sym same)
      | inr apart ↦
          of_other f x.entry.domain domain tables apart
          ∙ are domain (within_old f x.entry.domain domain tables less)
          ∙ ap (live_slots t) (sym (alone_other domain filed x (λ is. apart (sym is))))
    ]

-- the entry may have lost its message and reply
pub slots_with : (f : LiveTable → LiveTable) (old : LiveValue) (tables : List LiveTable) (filed : List Filed) (slot : ℕ) (put e : Entry)
    → tables ≡ update f put.domain old.tables → bare e ≡ bare put → put.time ≡ old.time → put.domain < old.domains
    → ((table : LiveTable) → (f table).slots ≡ slots_left (record { entry = put; slot = slot }) table.rows table.slots ++ slots_first (record { entry = put; slot = slot }))
    → Represents old (map entry_of filed) → SlotsAre old.time old.tables filed
    → SlotsAre old.time tables (filed ++ record { entry = e; slot = slot } ∷ [])
slots_with f old tables filed slot put e made same at within is stands are =
    let x : Filed = record { entry = put; slot = slot } in
    let own : Filed = record { entry = e; slot = slot } in
    let t = old.time in
    let with_bare : (table : LiveTable) → (f table).slots ≡ slots_left (bared x) table.rows table.slots ++ slots_first (bared x) =
    λ table.
    is table
    ∙ ap (λ ss. ss ++ slots_first x) (sym (slots_left_bared x table.rows table.slots))
    ∙ ap (λ ss. slots_left (bared x) table.rows table.slots ++ ss) (sym (slots_first_bared x)) in
    let rows_are : rows_at put.domain old.tables ≡ mitigations t (alone put.domain (map entry_of (map bared filed))) =
    stands.rows put.domain within ∙ ap (λ es. mitigations t (alone put.domain es)) (sym (bared_entries filed)) in
    let more : SlotsAre t (update f put.domain old.tables) (map bared filed ++ bared x ∷ []) =
    are_with f t old.tables (map bared filed) (bared x) at (subst (λ n. put.domain < n) (sym stands.are_tables.number) within) with_bare rows_are
    (are_bared t old.tables filed are) in
    let one : bared x ≡ bared own = ap (λ (b : Entry). record { entry = b; slot = slot }) (sym same) in
    let whole : map bared filed ++ bared x ∷ [] ≡ map bared (filed ++ own ∷ []) =
    ap (λ (y : Filed). map bared filed ++ y ∷ []) one ∙ sym (map-append bared filed (own ∷ [])) in
    bared_are t tables (filed ++ own ∷ [])
    (subst (λ ts. SlotsAre t ts (map bared (filed ++ own ∷ []))) (sym made) (subst (SlotsAre t (update f put.domain old.tables)) whole more))

-- an entry that puts none has no slots of its own
pub none_first : (x : Filed) → puts x.entry ≡ false → slots_first x ≡ []
none_first x none =
    cond-false (live x.entry.time x.entry Open) (record { put = x.slot; withdrawal = None } ∷ []) [] (never_live x.entry.time x.entry Open (puts_none x.entry none))

pub noted_slots : (x : Filed) (table : LiveTable) → puts x.entry ≡ false → (noted x table).slots ≡ slots_left x table.rows table.slots ++ slots_first x
noted_slots x table none =
    sym (ap (λ ss. slots_left x table.rows table.slots ++ ss) (none_first x none) ∙ append-nil (slots_left x table.rows table.slots))

-- an entry of no domain
pub are_outside : (t : ℕ) (tables : List LiveTable) (filed : List Filed) (x : Filed) → length tables ≤ x.entry.domain → SlotsAre t tables filed
    → SlotsAre t tables (filed ++ x ∷ [])
are_outside t tables filed x past are =
    λ domain within. are domain within ∙ ap (live_slots t) (sym (alone_other domain filed x (λ is. omega (arith, is, past, within))))

-- those of no entries
nothing_there : (number room : ℕ) (tables : List LiveTable) → AreEmpty number room tables → (domain : ℕ) (o : Option LiveTable) → slice_get tables domain ≡ o
    → slots_or_none o ≡ []
nothing_there number room tables empty domain None is = refl
nothing_there number room tables empty domain (Some table) is = ap (λ (t : LiveTable). t.slots) (empty.each domain table is)

pub are_none : (t number room : ℕ) (tables : List LiveTable) → AreEmpty number room tables → SlotsAre t tables []
are_none t number room tables empty = λ domain within. nothing_there number room tables empty domain (slice_get tables domain) refl

-- in new tables with the same rows and room
tables_moved : (keep : List ℕ) (room : ℕ) (tables : List LiveTable) → ((domain : ℕ) (table : LiveTable) → slice_get tables domain ≡ Some table → table.room ≡ room)
    → (domain : ℕ) (table : LiveTable) → slice_get (map (table_renumbered keep) tables) domain ≡ Some table → table.room ≡ room
tables_moved keep room tables all domain table there = by_table (slice_get tables domain) refl (sym (slice_get-map (table_renumbered keep) tables domain) ∙ there)
  where
    by_table : (o : Option LiveTable) → slice_get tables domain ≡ o → option_map (table_renumbered keep) o ≡ Some table → table.room ≡ room
    by_table None is made = absurd (none-some table made)
    by_table (Some t) is made = let one : table_renumbered keep t ≡ table = cc in ap (λ (x : LiveTable). x.room) (sym one) ∙ all domain t is

pub are_moved : (keep : List ℕ) (live : LiveValue) (tables : List LiveTable) → tables ≡ map (table_renumbered keep) live.tables → AreTables live
    → AreTables (record { domains = live.domains; limits = live.limits; time = live.time; tables = tables })
are_moved keep live tables made are = record {
  number = ap length made ∙ length-map live.tables (table_renumbered keep) ∙ are.number;
  rooms = λ domain table there.
      tables_moved keep live.limits.domain_mitigations live.tables are.rooms domain table (ap (λ ts. slice_get ts domain) (sym made) ∙ there);
}

rows_moved : (keep : List ℕ) (o : Option LiveTable) → rows_or_none (option_map (table_renumbered keep) o) ≡ rows_or_none o
rows_moved keep None = refl
rows_moved keep (Some table) = refl

pub renumbered_represents : (keep : List ℕ) (live : LiveValue) (entries : List Entry) → Represents live entries → Represents (live_renumbered keep live) entries
renumbered_represents keep live entries stands = record {
  in_order = stands.in_order;
  inside = stands.inside;
  are_tables = are_moved keep live (map (table_renumbered keep) live.tables) refl stands.are_tables;
  rows = λ domain within.
      ap rows_or_none (slice_get-map (table_renumbered keep) live.tables domain) ∙ rows_moved keep (slice_get live.tables domain) ∙ stands.rows domain within;
}
