-- All tables but the remembered replies are those of the entries without message and reply.
use Rattle.std.proofs.Common.{◌≡◌, ℕ, Bool, true, false, cond, not, ◌&&◌, ◌||◌, List, [], ◌∷◌, ◌++◌, filter, map, Option, Some, None, refl, sym, ap, ◌∙◌}
use Rattle.std.specs.Prelude.{option_to_list}
use Rattle.std.specs.List.{list_any, flat_map}
use Rattle.std.proofs.lemmas.List.{map-append}
use Rattle.ip_scope.specs.Prefix.{PrefixValue}
use Rattle.acl_lists.specs.declared.acl.Acl.{Acl}
use Rattle.acl_lists.specs.declared.acl.Activation.{Activation}
use Rattle.acl_lists.specs.declared.acl.Activation.TheVariants.{WhenMitigating, Immediate, Deactivate}
use Rattle.acl_lists.specs.declared.packet.Packet.{Packet}
use Rattle.acl_lists.specs.Fates.{fate_by_rows}
use Rattle.dots_history.specs.declared.entry.Entry.{Entry}
use Rattle.dots_history.specs.declared.put.Target.{Target}
use Rattle.dots_history.specs.declared.status.Status.{Status}
use Rattle.dots_history.specs.declared.status.Status.TheVariants.{Ended, Open, Withdrawn}
use Rattle.dots_history.specs.Entries.{same_client, ends, withdraws, runs, is_held, undoes, reconfigures, option_any, resumes}
use Rattle.dots_history.specs.Histories.{Mitigation, live, if_live, status, step, stays, mitigations, held}
use Rattle.dots_history.specs.Rows.{Row, targets_of, rows_of, list_rows, plain_row, plain_rows, acl_of, acl_row, acl_rows_of, acl_rows, is_mitigating, is_active, fate, is_lost_in, loses, works, triggers, mitigates_by, mid_of}
use Rattle.dots_history.specs.Tables.{bare, bare_mitigation}

bare_step : (put : Entry) (s : Status) (e : Entry) → step (bare put) s (bare e) ≡ step put s e
unfolding ends withdraws same_client
bare_step put Ended e = refl
bare_step put Open e = refl
bare_step put (Withdrawn at) e = refl

bare_status : (put : Entry) (s : Status) (later : List Entry) → status (bare put) s (map bare later) ≡ status put s later
bare_status put s [] = refl
bare_status put s (e ∷ later) =
    ap (λ x. status (bare put) x (map bare later)) (bare_step put s e) ∙ bare_status put (step put s e) later

bare_live : (t : ℕ) (put : Entry) (s : Status) → live t (bare put) s ≡ live t put s
unfolding runs
bare_live t put Ended = refl
bare_live t put Open = refl
bare_live t put (Withdrawn at) = refl

one_or_none : {A B : Type 0} (f : A → B) (b : Bool) (x : A) (rest : List A)
    → option_to_list (cond b (Some (f x)) None) ++ map f rest ≡ map f (option_to_list (cond b (Some x) None) ++ rest)
one_or_none f true x rest = refl
one_or_none f false x rest = refl

pub bare_mitigations : (t : ℕ) (entries : List Entry) → mitigations t (map bare entries) ≡ map bare_mitigation (mitigations t entries)
bare_mitigations t [] = refl
bare_mitigations t (e ∷ later) =
    ap (λ s. option_to_list (if_live t (bare e) s) ++ mitigations t (map bare later)) (bare_status e Open later)
    ∙ ap
    (λ b. option_to_list (cond b (Some (bare_mitigation (record { put = e; status = status e Open later }))) None) ++ mitigations t (map bare later))
    (bare_live t e (status e Open later))
    ∙ ap
    (λ rest. option_to_list (cond (live t e (status e Open later)) (Some (bare_mitigation (record { put = e; status = status e Open later }))) None) ++ rest)
    (bare_mitigations t later)
    ∙ one_or_none bare_mitigation (live t e (status e Open later)) (record { put = e; status = status e Open later }) (mitigations t later)

bare_undoes : (e x : Entry) → undoes (bare e) (bare x) ≡ undoes e x
unfolding undoes reconfigures resumes same_client
bare_undoes e x = refl

bare_undone : (e : Entry) (later : List Entry) → list_any (undoes (bare e)) (map bare later) ≡ list_any (undoes e) later
bare_undone e [] = refl
bare_undone e (x ∷ later) =
    ap (λ b. b || list_any (undoes (bare e)) (map bare later)) (bare_undoes e x) ∙ ap (λ b. undoes e x || b) (bare_undone e later)

pub bare_held : (entries : List Entry) → held (map bare entries) ≡ map bare (held entries)
bare_held [] = refl
bare_held (e ∷ later) =
    ap (λ b. option_to_list (cond (is_held e.change && not b) (Some (bare e)) None) ++ held (map bare later)) (bare_undone e later)
    ∙ ap (λ rest. option_to_list (cond (stays e later) (Some (bare e)) None) ++ rest) (bare_held later)
    ∙ one_or_none bare (stays e later) e (held later)

-- ---- rows
bare_lost : (standing : List Entry) (peer domain : ℕ) → is_lost_in (map bare standing) peer domain ≡ is_lost_in standing peer domain
bare_lost [] peer domain = refl
bare_lost (e ∷ standing) peer domain = ap (λ b. loses peer domain e || b) (bare_lost standing peer domain)

bare_works : (standing : List Entry) (put : Entry) → works (map bare standing) (bare put) ≡ works standing put
bare_works standing put = ap (λ b. triggers put.change || b) (bare_lost standing put.peer put.domain)

bare_row : (standing : List Entry) (put : Entry) (target : Target) (p : PrefixValue)
    → plain_row (map bare standing) (record { put = bare put; target = target; prefix = p }) ≡ plain_row standing (record { put = put; target = target; prefix = p })
bare_row standing put target p =
    ap (λ b. record { domain = put.domain; cuid = put.cuid; mid = mid_of put.change; prefix = p; ports = target.ports; protocols = target.protocols; active = b })
    (bare_works standing put)

bare_prefixes : (standing : List Entry) (put : Entry) (target : Target) (prefixes : List PrefixValue)
    → map (plain_row (map bare standing)) (map (λ (p : PrefixValue). record { put = bare put; target = target; prefix = p }) prefixes)
    ≡ map (plain_row standing) (map (λ (p : PrefixValue). record { put = put; target = target; prefix = p }) prefixes)
bare_prefixes standing put target [] = refl
bare_prefixes standing put target (p ∷ prefixes) =
    ap (λ row. row ∷ map (plain_row (map bare standing)) (map (λ (q : PrefixValue). record { put = bare put; target = target; prefix = q }) prefixes)) (bare_row standing put target p)
    ∙ ap (λ rows. plain_row standing (record { put = put; target = target; prefix = p }) ∷ rows) (bare_prefixes standing put target prefixes)

abbrev rows_with : Entry → List Target → List Row
rows_with put targets = flat_map (λ (target : Target). map (λ (p : PrefixValue). record { put = put; target = target; prefix = p }) target.prefixes) targets

bare_targets : (standing : List Entry) (put : Entry) (targets : List Target)
    → map (plain_row (map bare standing)) (rows_with (bare put) targets) ≡ map (plain_row standing) (rows_with put targets)
bare_targets standing put [] = refl
bare_targets standing put (target ∷ targets) =
    map-append (plain_row (map bare standing)) (map (λ (p : PrefixValue). record { put = bare put; target = target; prefix = p }) target.prefixes) (rows_with (bare put) targets)
    ∙ ap (λ rows. rows ++ map (plain_row (map bare standing)) (rows_with (bare put) targets)) (bare_prefixes standing put target target.prefixes)
    ∙ ap
    (λ rows. map (plain_row standing) (map (λ (p : PrefixValue). record { put = put; target = target; prefix = p }) target.prefixes) ++ rows)
    (bare_targets standing put targets)
    ∙ sym (map-append (plain_row standing) (map (λ (p : PrefixValue). record { put = put; target = target; prefix = p }) target.prefixes) (rows_with put targets))

abbrev rows_in : List Mitigation → List Row
rows_in ms = flat_map (λ (m : Mitigation). rows_of m.put) ms

bare_rows_in : (standing : List Entry) (ms : List Mitigation) → map (plain_row (map bare standing)) (rows_in (map bare_mitigation ms)) ≡ map (plain_row standing) (rows_in ms)
bare_rows_in standing [] = refl
bare_rows_in standing (m ∷ ms) =
    map-append (plain_row (map bare standing)) (rows_of (bare m.put)) (rows_in (map bare_mitigation ms))
    ∙ ap (λ rows. rows ++ map (plain_row (map bare standing)) (rows_in (map bare_mitigation ms))) (bare_targets standing m.put (targets_of m.put.change))
    ∙ ap (λ rows. map (plain_row standing) (rows_of m.put) ++ rows) (bare_rows_in standing ms)
    ∙ sym (map-append (plain_row standing) (rows_of m.put) (rows_in ms))

pub bare_rows : (t : ℕ) (entries : List Entry) → plain_rows t (map bare entries) ≡ plain_rows t entries
bare_rows t entries =
    ap (λ standing. map (plain_row standing) (rows_in (mitigations t (map bare entries)))) (bare_held entries)
    ∙ ap (λ ms. map (plain_row (map bare (held entries))) (rows_in ms)) (bare_mitigations t entries)
    ∙ bare_rows_in (held entries) (mitigations t entries)

-- ---- lists
bare_clients : (standing : List Entry) (e : Entry) (ms : List Mitigation)
    → list_any (λ (m : Mitigation). same_client (bare e) m.put && works (map bare standing) m.put) (map bare_mitigation ms)
    ≡ list_any (λ (m : Mitigation). same_client e m.put && works standing m.put) ms
unfolding same_client
bare_clients standing e [] = refl
bare_clients standing e (m ∷ ms) =
    ap (λ b. (same_client e m.put && b) || list_any (λ (x : Mitigation). same_client (bare e) x.put && works (map bare standing) x.put) (map bare_mitigation ms)) (bare_works standing m.put)
    ∙ ap (λ b. (same_client e m.put && works standing m.put) || b) (bare_clients standing e ms)

pub bare_mitigating : (t : ℕ) (entries : List Entry) (e : Entry) → is_mitigating t (map bare entries) (bare e) ≡ is_mitigating t entries e
bare_mitigating t entries e =
    ap (λ standing. mitigates_by standing t (map bare entries) (bare e)) (bare_held entries)
    ∙ ap (λ ms. list_any (λ (m : Mitigation). same_client (bare e) m.put && works (map bare (held entries)) m.put) ms) (bare_mitigations t entries)
    ∙ bare_clients (held entries) e (mitigations t entries)

bare_active : (t : ℕ) (entries : List Entry) (e : Entry) (a : Activation) → is_active t (map bare entries) (bare e) a ≡ is_active t entries e a
bare_active t entries e Immediate = refl
bare_active t entries e WhenMitigating = bare_mitigating t entries e
bare_active t entries e Deactivate = refl

bare_list : (t : ℕ) (entries : List Entry) (e : Entry) (o : Option Acl) → acl_row t (map bare entries) (bare e) o ≡ acl_row t entries e o
bare_list t entries e None = refl
bare_list t entries e (Some acl) =
    ap (λ b. Some (record { domain = e.domain; cuid = e.cuid; acl = acl; active = b })) (bare_active t entries e acl.activation)

bare_lists_of : (t : ℕ) (entries es : List Entry) → acl_rows_of t (map bare entries) (map bare es) ≡ acl_rows_of t entries es
bare_lists_of t entries [] = refl
bare_lists_of t entries (e ∷ es) =
    ap (λ o. option_to_list o ++ acl_rows_of t (map bare entries) (map bare es)) (bare_list t entries e (acl_of e.change))
    ∙ ap (λ rows. option_to_list (acl_row t entries e (acl_of e.change)) ++ rows) (bare_lists_of t entries es)

abbrev writes_list : Entry → Bool
writes_list e = option_any (λ (acl : Acl). true) (acl_of e.change)

bare_filter : (es : List Entry) → filter writes_list (map bare es) ≡ map bare (filter writes_list es)
bare_filter [] = refl
bare_filter (e ∷ es) =
    ap (λ rest. cond (writes_list e) (bare e ∷ rest) rest) (bare_filter es) ∙ by_list (writes_list e)
  where
    by_list : (b : Bool) → cond b (bare e ∷ map bare (filter writes_list es)) (map bare (filter writes_list es))
        ≡ map bare (cond b (e ∷ filter writes_list es) (filter writes_list es))
    by_list true = refl
    by_list false = refl

pub bare_lists : (t : ℕ) (entries : List Entry) → acl_rows t (map bare entries) ≡ acl_rows t entries
bare_lists t entries =
    ap (acl_rows_of t (map bare entries)) (ap (filter writes_list) (bare_held entries) ∙ bare_filter (held entries))
    ∙ bare_lists_of t entries (list_rows entries)

pub bare_fate : (prefixes : ℕ → List PrefixValue) (t : ℕ) (entries : List Entry) (packet : Packet) → fate prefixes t (map bare entries) packet ≡ fate prefixes t entries packet
bare_fate prefixes t entries packet =
    ap (λ rows. fate_by_rows prefixes rows (acl_rows t (map bare entries)) packet) (bare_rows t entries)
    ∙ ap (λ lists. fate_by_rows prefixes (plain_rows t entries) lists packet) (bare_lists t entries)
