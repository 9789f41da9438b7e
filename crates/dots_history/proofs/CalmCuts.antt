-- Calm, entry by entry: what it says of the end of a history, and that what a view names is calm again.
use Rattle.std.proofs.Common.{◌≡◌, ℕ, ◌+◌, ◌<◌, ◌≤◌, Bool, true, false, cond, not, ◌&&◌, ◌||◌, List, [], ◌∷◌, ◌++◌, filter, Some, None, inl, inr, refl, sym, ap, ◌∙◌, subst, le_refl, le_trans, append_assoc, append-nil, arith}
use Rattle.std.specs.Prelude.{option_to_list, ◌==◌, nat_lt, nat_le, ◌^◌}
use Rattle.std.specs.List.{list_any, list_all}
use Rattle.std.proofs.lemmas.Bool.{false≢true, both_ways, cond_both, cases_Bool, and_parts, and_from, or_parts, or_from, or_cases, or_left, or_right, not_from_true, not_from_false, ltb-true, lt-ltb, le-leb, false_from_ne_true}
use Rattle.std.proofs.lemmas.List.Folds.{list_any-append}
use Rattle.dots_settings.specs.Settings.{SettingsValue}
use Rattle.dots_history.specs.declared.entry.Entry.{Entry}
use Rattle.dots_history.specs.declared.change.Change.{Change}
use Rattle.dots_history.specs.declared.change.Change.TheVariants as change
use Rattle.dots_history.specs.declared.status.Status.TheVariants.{Open}
use Rattle.dots_history.specs.Entries.{same_client, is_signal, signals, is_held, undoes}
use Rattle.dots_history.specs.Histories.{Mitigation, Within, IsPart, IsHistory, tally, live, status, is_recent, is_nil, stays, mitigations, held}
use Rattle.dots_history.specs.Keeping.{is_first, names, pass, kept_by, kept}
use Rattle.dots_history.specs.Calm.{is_of_settings, came_rightly, IsCalmBy}
use Rattle.dots_history.specs.Capacities.{is_registration, is_alias, is_list, has_client}
use Rattle.dots_history.specs.Fits.{last_or, last_time, is_registered, registers_rightly, keeps_room, fits, is_of_mitigations, has_one_peer, joins, calm_after, is_calm}
use Rattle.dots_history.specs.Tables.{Client, is_of}
use Rattle.dots_history.specs.Views.{mitigations_with, held_with}
use Rattle.dots_history.proofs.Ageing.{mitigations_age}
use Rattle.dots_history.proofs.Adding.{adding}
use Rattle.dots_history.proofs.GoingOn.{held_push}
use Rattle.dots_history.proofs.Touching.{withdraws_parts, held_no_put, never_live}
use Rattle.dots_history.proofs.Members.{any_has}
use Rattle.dots_history.proofs.Keyed.{fewer_left}
use Rattle.dots_history.proofs.Keeping.{by_first, kept_is_part, kept_within}
use Rattle.dots_history.proofs.Dropping.{Named, lives, withdrawal, among_last, at_end, holds, named}
use Rattle.dots_history.proofs.ViewLemmas.{nil_is, first_withdraws, any_part}
use Rattle.dots_history.proofs.BySettings.{empty_calm}
use Rattle.dots_history.proofs.Single.{same_of}
use Rattle.dots_history.proofs.LawCuts.{cut, pass_all, cut_split, pass_more, lives_cut, held_cut}
use Rattle.dots_history.proofs.Parts.{part_tally, part_list_all, part_with, part_held_with}
use Rattle.dots_history.proofs.Joining.{JoinsSo, joins_so, last_of_push, end_with, tally_held, undone_with_client, stays_registered}

-- ---- the end
pub calm_end_after : (settings : SettingsValue) (t : ℕ) (before later : List Entry) → IsCalmBy settings t before → t ≡ last_time before
    → calm_after settings before later ≡ true → IsCalmBy settings (last_time (before ++ later)) (before ++ later)
calm_end_after settings t before [] calm at is =
    subst (λ es. IsCalmBy settings (last_time es) es) (sym (append-nil before)) (subst (λ u. IsCalmBy settings u before) at calm)
calm_end_after settings t before (e ∷ later) calm at is =
    let parts = and_parts (joins settings before e) (calm_after settings (before ++ e ∷ []) later) is in
    let so = joins_so settings before e parts.0 in
    subst
    (λ es. IsCalmBy settings (last_time es) es)
    (append_assoc before (e ∷ []) later)
    (calm_end_after
    settings
    e.time
    (before ++ e ∷ [])
    later
    (end_with settings t before e calm (subst (λ u. u ≤ e.time) (sym at) so.fits.later) so)
    (sym (last_of_push before e))
    parts.1)

calm_at_last : (settings : SettingsValue) (entries : List Entry) → is_calm settings entries ≡ true → IsCalmBy settings (last_time entries) entries
calm_at_last settings entries is = calm_end_after settings 0 [] entries (empty_calm settings 0) refl is

within_later : (low t u : ℕ) (xs : List Entry) → Within low xs t → t ≤ u → Within low xs u
within_later low t u [] within less = le_trans within less
within_later low t u (x ∷ xs) within less = (within.0, within_later x.time t u xs within.1 less)

fewer_later : (test : Mitigation → Bool) (t u : ℕ) (entries : List Entry) → t ≤ u → tally test (mitigations u entries) ≤ tally test (mitigations t entries)
fewer_later test t u entries less =
    subst
    (λ ms. tally test ms ≤ tally test (mitigations t entries))
    (sym (mitigations_age t u entries less))
    (fewer_left (λ (m : Mitigation). live u m.put m.status) test (mitigations t entries))

pub calm_later : (settings : SettingsValue) (t u : ℕ) (entries : List Entry) → IsCalmBy settings t entries → t ≤ u → IsCalmBy settings u entries
calm_later settings t u entries calm less = record {
  times = within_later 0 t u entries calm.times less;
  own = calm.own;
  peers = calm.peers;
  capacities = record {
    live = λ domain. le_trans (fewer_later (λ (m : Mitigation). m.put.domain == domain) t u entries less) (calm.capacities.live domain);
    registered = calm.capacities.registered;
    owned = calm.capacities.owned;
    aliased = calm.capacities.aliased;
    listed = calm.capacities.listed;
  };
  of_client = λ client. le_trans (fewer_later (λ (m : Mitigation). same_client client m.put) t u entries less) (calm.of_client client);
}

pub calm_at_end : (settings : SettingsValue) (t : ℕ) (entries : List Entry) → is_calm settings entries ≡ true → last_time entries ≤ t → IsCalmBy settings t entries
calm_at_end settings t entries is less = calm_later settings (last_time entries) t entries (calm_at_last settings entries is) less

bounded_after : (settings : SettingsValue) (before later : List Entry) → last_time before < 2 ^ 48 → calm_after settings before later ≡ true
    → last_time (before ++ later) < 2 ^ 48
bounded_after settings before [] less is = subst (λ es. last_time es < 2 ^ 48) (sym (append-nil before)) less
bounded_after settings before (e ∷ later) less is =
    let parts = and_parts (joins settings before e) (calm_after settings (before ++ e ∷ []) later) is in
    let so = joins_so settings before e parts.0 in
    subst
    (λ es. last_time es < 2 ^ 48)
    (append_assoc before (e ∷ []) later)
    (bounded_after settings (before ++ e ∷ []) later (subst (λ u. u < 2 ^ 48) (sym (last_of_push before e)) so.fits.bounded) parts.1)

pub calm_history : (settings : SettingsValue) (entries : List Entry) → is_calm settings entries ≡ true → IsHistory entries
calm_history settings entries is =
    (last_time entries, bounded_after settings [] entries (ltb-true 0 (2 ^ 48) refl) is, (calm_at_last settings entries is).times)

-- ---- more entries
and_assoc : (a b c : Bool) → (a && (b && c)) ≡ ((a && b) && c)
and_assoc true b c = refl
and_assoc false b c = refl

calm_split : (settings : SettingsValue) (before xs ys : List Entry)
    → calm_after settings before (xs ++ ys) ≡ (calm_after settings before xs && calm_after settings (before ++ xs) ys)
calm_split settings before [] ys = ap (λ es. calm_after settings es ys) (sym (append-nil before))
calm_split settings before (x ∷ xs) ys =
    ap (λ b. joins settings before x && b) (calm_split settings (before ++ x ∷ []) xs ys)
    ∙ ap
    (λ es. joins settings before x && (calm_after settings (before ++ x ∷ []) xs && calm_after settings es ys))
    (append_assoc before (x ∷ []) xs)
    ∙ and_assoc (joins settings before x) (calm_after settings (before ++ x ∷ []) xs) (calm_after settings (before ++ (x ∷ xs)) ys)

pub calm_more : (settings : SettingsValue) (entries : List Entry) (e : Entry) → is_calm settings entries ≡ true → joins settings entries e ≡ true
    → is_calm settings (entries ++ e ∷ []) ≡ true
calm_more settings entries e is joined =
    calm_split settings [] entries (e ∷ [])
    ∙ and_from (is_calm settings entries) (joins settings entries e && true) is (and_from (joins settings entries e) true joined refl)

pub calm_parts : (settings : SettingsValue) (entries : List Entry) (e : Entry) (more : List Entry) → is_calm settings (entries ++ e ∷ more) ≡ true
    → (is_calm settings entries ≡ true) × (joins settings entries e ≡ true)
calm_parts settings entries e more is =
    let parts = and_parts
    (is_calm settings entries)
    (calm_after settings entries (e ∷ more))
    (sym (calm_split settings [] entries (e ∷ more)) ∙ is) in
    (parts.0, (and_parts (joins settings entries e) (calm_after settings (entries ++ e ∷ []) more) parts.1).0)

-- ---- what is named keeps its registrations
owned_held : (c : Change) → is_alias c || is_list c ≡ true → is_held c ≡ true
unfolding is_alias is_list is_held
owned_held (change.SetAlias alias) own = refl
owned_held (change.SetAcl acl) own = refl
owned_held _ own = absurd (false≢true own)

owned_no_signal : (c : Change) → is_alias c || is_list c ≡ true → is_signal c ≡ false
unfolding is_alias is_list is_signal
owned_no_signal (change.SetAlias alias) own = refl
owned_no_signal (change.SetAcl acl) own = refl
owned_no_signal _ own = absurd (false≢true own)

registration_held : (c : Change) → is_registration c ≡ true → is_held c ≡ true
unfolding is_registration is_held
registration_held change.Register is = refl
registration_held _ is = absurd (false≢true is)

owned_stays : (n t : ℕ) (passed : List Mitigation) (e : Entry) (later : List Entry) → is_alias e.change || is_list e.change ≡ true → Named n t passed e later
    → stays e later ≡ true
owned_stays n t passed e later own (lives now) =
    absurd (both_ways (live t e (status e Open later)) (never_live t e (status e Open later) (held_no_put e.change (owned_held e.change own))) now)
owned_stays n t passed e later own (withdrawal first) =
    let m = any_has (is_first t e later) passed first in
    absurd (both_ways (is_held e.change) (withdraws_parts m.0.put e (first_withdraws t e later m.0 m.1)).3 (owned_held e.change own))
owned_stays n t passed e later own (among_last recent) =
    absurd (both_ways
    (is_signal e.change)
    (owned_no_signal e.change own)
    (and_parts (is_signal e.change) (nat_lt (tally (signals e.peer e.domain) later) n) recent).0)
owned_stays n t passed e later own (at_end nothing) =
    subst (λ l. stays e l ≡ true) (sym (nil_is later nothing)) (and_from (is_held e.change) true (owned_held e.change own) refl)
owned_stays n t passed e later own (holds still) = still

not_is : (b : Bool) → not b ≡ true → b ≡ false
not_is true is = absurd (false≢true is)
not_is false is = refl

none_of_client : (r e : Entry) (later : List Entry) → is_registration r.change ≡ true → same_client r e ≡ true → is_alias e.change || is_list e.change ≡ true
    → list_any (undoes e) later ≡ false → list_any (undoes r) later ≡ false
none_of_client r e [] is same own none = refl
none_of_client r e (x ∷ later) is same own none =
    let parts = or_parts (undoes e x) (list_any (undoes e) later) none in
    or_from
    (undoes r x)
    (list_any (undoes r) later)
    (false_from_ne_true (undoes r x) (λ undone. both_ways (undoes e x) parts.0 (undone_with_client r e x is same own undone)))
    (none_of_client r e later is same own parts.1)

over_option : (b : Bool) (r e : Entry) (xs : List Entry) → is_registered xs e ≡ true → is_registered (option_to_list (cond b (Some r) None) ++ xs) e ≡ true
over_option true r e xs is = or_right (is_registration r.change && same_client r e) (is_registered xs e) is
over_option false r e xs is = is

registered_cut : (n t : ℕ) (e : Entry) (later : List Entry) (passed : List Mitigation) (rest : List Entry) → is_alias e.change || is_list e.change ≡ true
    → stays e later ≡ true → is_registered (held rest) e ≡ true → is_registered (held (kept_by (cut n t (e ∷ later)) passed rest)) e ≡ true
registered_cut n t e later passed [] own still is = absurd (false≢true is)
registered_cut n t e later passed (r ∷ rest) own still is =
    let few = kept_by (cut n t (e ∷ later)) (pass passed r) rest in
    elim (cases_Bool (stays r rest)) [
      | inl stay ↦
          elim (or_cases
          (is_registration r.change && same_client r e)
          (is_registered (held rest) e)
          (sym (ap (λ b. is_registered (option_to_list (cond b (Some r) None) ++ held rest) e) stay) ∙ is)) [
            | inl here ↦
                let both = and_parts (is_registration r.change) (same_client r e) here in
                let held_is = registration_held r.change both.0 in
                let none_rest = not_is (list_any (undoes r) rest) (and_parts (is_held r.change) (not (list_any (undoes r) rest)) stay).1 in
                let none_later = none_of_client r e later both.0 both.1 own (not_is (list_any (undoes e) later) (and_parts (is_held e.change) (not (list_any (undoes e) later)) still).1) in
                let none_all : list_any (undoes r) (rest ++ e ∷ later) ≡ false =
                list_any-append (undoes r) rest (e ∷ later)
                ∙ or_from
                (list_any (undoes r) rest)
                (list_any (undoes r) (e ∷ later))
                none_rest
                (or_from (undoes r e) (list_any (undoes r) later) (stays_registered r e both.0 own) none_later) in
                let stays_all : stays r (rest ++ e ∷ later) ≡ true =
                and_from (is_held r.change) (not (list_any (undoes r) (rest ++ e ∷ later))) held_is (not_from_false (list_any (undoes r) (rest ++ e ∷ later)) none_all) in
                let is_kept : names n t passed r (rest ++ e ∷ later) ≡ true =
                or_right
                (live t r (status r Open (rest ++ e ∷ later)) || list_any (is_first t r (rest ++ e ∷ later)) passed)
                ((is_recent n r (rest ++ e ∷ later) || is_nil (rest ++ e ∷ later)) || stays r (rest ++ e ∷ later))
                (or_right (is_recent n r (rest ++ e ∷ later) || is_nil (rest ++ e ∷ later)) (stays r (rest ++ e ∷ later)) stays_all) in
                let stays_few : stays r few ≡ true =
                and_from
                (is_held r.change)
                (not (list_any (undoes r) few))
                held_is
                (not_from_false
                (list_any (undoes r) few)
                (any_part (undoes r) few rest (kept_is_part (cut n t (e ∷ later)) (pass passed r) rest) none_rest)) in
                ap (λ b. is_registered (held (cond b (r ∷ few) few)) e) is_kept
                ∙ ap (λ b. is_registered (option_to_list (cond b (Some r) None) ++ held few) e) stays_few
                ∙ or_left (is_registration r.change && same_client r e) (is_registered (held few) e) here
            | inr beyond ↦
                let go = registered_cut n t e later (pass passed r) rest own still beyond in
                by_first
                (cut n t (e ∷ later))
                passed
                r
                rest
                (λ es. is_registered (held es) e ≡ true)
                (λ kept. over_option (stays r few) r e (held few) go)
                (λ out. go)
          ]
      | inr gone ↦
          let go =
          registered_cut
          n
          t
          e
          later
          (pass passed r)
          rest
          own
          still
          (sym (ap (λ b. is_registered (option_to_list (cond b (Some r) None) ++ held rest) e) gone) ∙ is) in
          by_first
          (cut n t (e ∷ later))
          passed
          r
          rest
          (λ es. is_registered (held es) e ≡ true)
          (λ kept. over_option (stays r few) r e (held few) go)
          (λ out. go)
    ]

-- ---- an entry that is named joins those that are named before it
within_or : (t low high : ℕ) (xs : List Entry) → t ≤ low → Within low xs high → last_or t xs ≤ high
within_or t low high [] less within = le_trans less within
within_or t low high (x ∷ xs) less within = within_or x.time x.time high xs (le_refl x.time) within.1

within_last : (low high : ℕ) (xs : List Entry) → Within low xs high → last_time xs ≤ high
within_last low high xs within = within_or 0 low high xs (omega arith) within

client_few : (n t : ℕ) (passed : List Mitigation) (before : List Entry) (e : Entry) (later : List Entry) → Named n t passed e later
    → has_client (held before) e ≡ true → has_client (held (kept_by (cut n t (e ∷ later)) [] before)) e ≡ true
client_few n t passed before e later why has =
    elim (cases_Bool (is_alias e.change || is_list e.change)) [
      | inl own ↦
          or_right
          (not (is_alias e.change || is_list e.change))
          (is_registered (held (kept_by (cut n t (e ∷ later)) [] before)) e)
          (registered_cut n t e later [] before own (owned_stays n t passed e later own why) (of_has (is_alias e.change || is_list e.change) own has))
      | inr out ↦
          or_left
          (not (is_alias e.change || is_list e.change))
          (is_registered (held (kept_by (cut n t (e ∷ later)) [] before)) e)
          (not_from_false (is_alias e.change || is_list e.change) out)
    ]
  where
    of_has : (b : Bool) → b ≡ true → (not b || is_registered (held before) e) ≡ true → is_registered (held before) e ≡ true
    of_has true own is = is
    of_has false own is = absurd (false≢true own)

joins_few : (settings : SettingsValue) (n t : ℕ) (passed : List Mitigation) (before : List Entry) (e : Entry) (later : List Entry)
    → Named n t passed e later → IsCalmBy settings (last_time before) before → JoinsSo settings before e
    → joins settings (kept_by (cut n t (e ∷ later)) [] before) e ≡ true
joins_few settings n t passed before e later why calm so =
    let few = kept_by (cut n t (e ∷ later)) [] before in
    let limits = settings.limits in
    let whole_times = within_later 0 (last_time before) e.time before calm.times so.fits.later in
    let live_part = lives_cut n t e.time 0 (e ∷ later) [] before whole_times calm.peers in
    let held_part = held_cut n t (e ∷ later) [] before calm.peers in
    let live_more : IsPart (mitigations e.time (few ++ e ∷ [])) (mitigations e.time (before ++ e ∷ [])) =
    subst
    (λ ms. IsPart ms (mitigations e.time (before ++ e ∷ [])))
    (sym (adding e.time e few (le_refl e.time)))
    (subst
    (λ ms. IsPart (mitigations_with e (mitigations e.time few)) ms)
    (sym (adding e.time e before (le_refl e.time)))
    (part_with e (mitigations e.time few) (mitigations e.time before) live_part)) in
    let held_more : IsPart (held (few ++ e ∷ [])) (held (before ++ e ∷ [])) =
    subst
    (λ hs. IsPart hs (held (before ++ e ∷ [])))
    (sym (held_push e few))
    (subst
    (λ hs. IsPart (held_with e (held few)) hs)
    (sym (held_push e before))
    (part_held_with e (held few) (held before) held_part)) in
    let ms = mitigations e.time (few ++ e ∷ []) in
    let hs = held (few ++ e ∷ []) in
    let earlier = le_trans (within_last 0 (last_time before) few (kept_within (cut n t (e ∷ later)) [] 0 (last_time before) before calm.times)) so.fits.later in
    let of_domain : Mitigation → Bool = λ m. m.put.domain == e.domain in
    let of_client : Mitigation → Bool = λ m. same_client e m.put in
    let registered : Entry → Bool = λ x. is_registration x.change && (x.domain == e.domain) in
    let aliased : Entry → Bool = λ x. is_alias x.change && same_client e x in
    let listed : Entry → Bool = λ x. is_list x.change && same_client e x in
    and_from
    (fits settings few e)
    (came_rightly e && has_one_peer e (mitigations e.time few))
    (and_from
    ((nat_le (last_time few) e.time && nat_lt e.time (2 ^ 48)) && is_of_settings settings e)
    (registers_rightly (held few) e && keeps_room limits e ms hs)
    (and_from
    (nat_le (last_time few) e.time && nat_lt e.time (2 ^ 48))
    (is_of_settings settings e)
    (and_from (nat_le (last_time few) e.time) (nat_lt e.time (2 ^ 48)) (le-leb (last_time few) e.time earlier) (lt-ltb e.time (2 ^ 48) so.fits.bounded))
    so.fits.of_settings)
    (and_from
    (registers_rightly (held few) e)
    (keeps_room limits e ms hs)
    (and_from
    (not (is_registration e.change) || not (is_registered (held few) e))
    (has_client (held few) e)
    (elim (or_cases (not (is_registration e.change)) (not (is_registered (held before) e)) so.fits.registers) [
      | inl out ↦ or_left (not (is_registration e.change)) (not (is_registered (held few) e)) out
      | inr new ↦
          or_right
          (not (is_registration e.change))
          (not (is_registered (held few) e))
          (not_from_false
          (is_registered (held few) e)
          (any_part (λ (r : Entry). is_registration r.change && same_client r e) (held few) (held before) held_part (not_is (is_registered (held before) e) new)))
    ])
    (client_few n t passed before e later why so.fits.has_one))
    (and_from
    (nat_le (tally of_domain ms) limits.domain_mitigations && nat_le (tally of_client ms) limits.client_mitigations)
    (nat_le (tally registered hs) limits.clients && (nat_le (tally aliased hs) limits.aliases && nat_le (tally listed hs) limits.acls))
    (and_from
    (nat_le (tally of_domain ms) limits.domain_mitigations)
    (nat_le (tally of_client ms) limits.client_mitigations)
    (le-leb (tally of_domain ms) limits.domain_mitigations (le_trans (part_tally of_domain ms (mitigations e.time (before ++ e ∷ [])) live_more) so.fits.of_domain))
    (le-leb (tally of_client ms) limits.client_mitigations (le_trans (part_tally of_client ms (mitigations e.time (before ++ e ∷ [])) live_more) so.fits.of_client)))
    (and_from
    (nat_le (tally registered hs) limits.clients)
    (nat_le (tally aliased hs) limits.aliases && nat_le (tally listed hs) limits.acls)
    (le-leb (tally registered hs) limits.clients (le_trans (part_tally registered hs (held (before ++ e ∷ [])) held_more) so.fits.registered))
    (and_from
    (nat_le (tally aliased hs) limits.aliases)
    (nat_le (tally listed hs) limits.acls)
    (le-leb (tally aliased hs) limits.aliases (le_trans (part_tally aliased hs (held (before ++ e ∷ [])) held_more) so.fits.aliased))
    (le-leb (tally listed hs) limits.acls (le_trans (part_tally listed hs (held (before ++ e ∷ [])) held_more) so.fits.listed)))))))
    (and_from
    (came_rightly e)
    (has_one_peer e (mitigations e.time few))
    so.came
    (elim (or_cases
    (not (is_of_mitigations e.change))
    (list_all (λ (m : Mitigation). not (same_client m.put e) || (e.peer == m.put.peer)) (mitigations e.time before))
    so.peers) [
      | inl out ↦
          or_left
          (not (is_of_mitigations e.change))
          (list_all (λ (m : Mitigation). not (same_client m.put e) || (e.peer == m.put.peer)) (mitigations e.time few))
          out
      | inr all ↦
          or_right
          (not (is_of_mitigations e.change))
          (list_all (λ (m : Mitigation). not (same_client m.put e) || (e.peer == m.put.peer)) (mitigations e.time few))
          (part_list_all
          (λ (m : Mitigation). not (same_client m.put e) || (e.peer == m.put.peer))
          (mitigations e.time few)
          (mitigations e.time before)
          live_part
          all)
    ]))

-- ---- what is named is calm
module _ (settings : SettingsValue) (n t : ℕ) where
  named_after : (before few later : List Entry) → few ≡ kept_by (cut n t later) [] before → IsCalmBy settings (last_time before) before
      → calm_after settings before later ≡ true → calm_after settings few (kept_by (names n t) (pass_all [] before) later) ≡ true
  named_after before few [] same calm is = refl
  named_after before few (e ∷ later) same calm is =
      let parts = and_parts (joins settings before e) (calm_after settings (before ++ e ∷ []) later) is in
      let so = joins_so settings before e parts.0 in
      let passed = pass_all [] before in
      let front = kept_by (cut n t (e ∷ later)) [] before in
      let rest = kept_by (names n t) (pass passed e) later in
      let calm_now : IsCalmBy settings (last_time (before ++ e ∷ [])) (before ++ e ∷ []) =
      subst
      (λ u. IsCalmBy settings u (before ++ e ∷ []))
      (sym (last_of_push before e))
      (end_with settings (last_time before) before e calm so.fits.later so) in
      let next : kept_by (cut n t later) [] (before ++ e ∷ []) ≡ front ++ cond (names n t passed e later) (e ∷ []) [] = cut_split n t [] before (e ∷ []) later in
      elim (cases_Bool (names n t passed e later)) [
        | inl is_named ↦
            ap (λ b. calm_after settings few (cond b (e ∷ rest) rest)) is_named
            ∙ and_from
            (joins settings few e)
            (calm_after settings (few ++ e ∷ []) rest)
            (subst
            (λ es. joins settings es e ≡ true)
            (sym same)
            (joins_few settings n t passed before e later (named n t passed e later is_named) calm so))
            (subst
            (λ p. calm_after settings (few ++ e ∷ []) (kept_by (names n t) p later) ≡ true)
            (pass_more [] before e)
            (named_after
            (before ++ e ∷ [])
            (few ++ e ∷ [])
            later
            (ap (λ es. es ++ e ∷ []) same ∙ sym (next ∙ ap (λ b. front ++ cond b (e ∷ []) []) is_named))
            calm_now
            parts.1))
        | inr out ↦
            ap (λ b. calm_after settings few (cond b (e ∷ rest) rest)) out
            ∙ subst
            (λ p. calm_after settings few (kept_by (names n t) p later) ≡ true)
            (pass_more [] before e)
            (named_after
            (before ++ e ∷ [])
            few
            later
            (same ∙ sym (next ∙ ap (λ b. front ++ cond b (e ∷ []) []) out ∙ append-nil front))
            calm_now
            parts.1)
      ]

  pub named_is_calm : (entries : List Entry) → is_calm settings entries ≡ true → is_calm settings (kept n t entries) ≡ true
  named_is_calm entries is = named_after [] [] entries refl (empty_calm settings 0) is

-- ---- one registration of a client
more_held : (q : Entry → Bool) (e : Entry) (es : List Entry) → tally q (held_with e es) ≤ tally q es + 1
more_held q e [] =
    cond_both (is_held e.change) (e ∷ []) [] (λ ys. tally q ys ≤ 1) (λ is. cond_both (q e) 1 0 (λ k. k + 0 ≤ 1) (λ passes. omega arith) (λ fails. omega arith)) (λ no. omega arith)
more_held q e (x ∷ es) =
    let go = more_held q e es in
    cond_both
    (not (undoes x e))
    (x ∷ filter (λ (y : Entry). not (undoes y e)) es)
    (filter (λ (y : Entry). not (undoes y e)) es)
    (λ ys. tally q (ys ++ cond (is_held e.change) (e ∷ []) []) ≤ (cond (q x) 1 0 + tally q es) + 1)
    (λ is. omega (arith, go))
    (λ no. omega (arith, go))

abbrev registration_of : Client → Entry → Bool
registration_of client x = is_registration x.change && is_of client x

none_registered : (client : Client) (e : Entry) (hs : List Entry) → is_of client e ≡ true → is_registered hs e ≡ false → tally (registration_of client) hs ≤ 0
none_registered client e [] own none = omega arith
none_registered client e (x ∷ hs) own none =
    let parts = or_parts (is_registration x.change && same_client x e) (is_registered hs e) none in
    let go = none_registered client e hs own parts.1 in
    cond_both
    (registration_of client x)
    1
    0
    (λ k. k + tally (registration_of client) hs ≤ 0)
    (λ is.
    let both = and_parts (is_registration x.change) (is_of client x) is in
    absurd (both_ways
    (is_registration x.change && same_client x e)
    parts.0
    (and_from (is_registration x.change) (same_client x e) both.0 (same_of client x e both.1 own))))
    (λ out. omega (arith, go))

one_after : (settings : SettingsValue) (client : Client) (before later : List Entry) → tally (registration_of client) (held before) ≤ 1
    → calm_after settings before later ≡ true → tally (registration_of client) (held (before ++ later)) ≤ 1
one_after settings client before [] few is = subst (λ es. tally (registration_of client) (held es) ≤ 1) (sym (append-nil before)) few
one_after settings client before (e ∷ later) few is =
    let parts = and_parts (joins settings before e) (calm_after settings (before ++ e ∷ []) later) is in
    let so = joins_so settings before e parts.0 in
    let now : tally (registration_of client) (held_with e (held before)) ≤ 1 =
    elim (cases_Bool (registration_of client e)) [
      | inl own ↦
          let both = and_parts (is_registration e.change) (is_of client e) own in
          let new : is_registered (held before) e ≡ false = elim (or_cases (not (is_registration e.change)) (not (is_registered (held before) e)) so.fits.registers) [
            | inl out ↦ absurd (both_ways (not (is_registration e.change)) (not_from_true (is_registration e.change) both.0) out)
            | inr new ↦ not_is (is_registered (held before) e) new
          ] in
          let none = none_registered client e (held before) both.1 new in
          let more = more_held (registration_of client) e (held before) in
          omega (arith, none, more)
      | inr out ↦ le_trans (tally_held (registration_of client) e (held before) out) few
    ] in
    subst
    (λ es. tally (registration_of client) (held es) ≤ 1)
    (append_assoc before (e ∷ []) later)
    (one_after settings client (before ++ e ∷ []) later (subst (λ hs. tally (registration_of client) hs ≤ 1) (sym (held_push e before)) now) parts.1)

pub one_registration : (settings : SettingsValue) (client : Client) (entries : List Entry) → is_calm settings entries ≡ true
    → tally (λ (x : Entry). is_registration x.change && is_of client x) (held entries) ≤ 1
one_registration settings client entries is = one_after settings client [] entries (omega arith) is
