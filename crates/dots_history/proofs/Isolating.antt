-- What is held of a domain, who mitigates in it, and its rows, are those of its own entries.
use Rattle.std.proofs.Common.{◌≡◌, ℕ, Bool, true, false, cond, not, ◌&&◌, ◌||◌, List, [], ◌∷◌, ◌++◌, filter, map, Option, Some, None, refl, sym, ap, ◌∙◌, subst, inl, inr}
use Rattle.std.specs.Prelude.{option_to_list, bytes_eq, ◌==◌}
use Rattle.std.specs.List.{list_any}
use Rattle.std.proofs.lemmas.Bool.{both_ways, cond_both, cond-true, cond-false, and_left, or_from, eqb-true, eq-eqb, false_from_ne_true, false≢true, cases_Bool, and_right}
use Rattle.ip_scope.specs.Prefix.{PrefixValue}
use Rattle.acl_lists.specs.declared.acl.Acl.{Acl}
use Rattle.acl_lists.specs.declared.acl.Activation.{Activation}
use Rattle.acl_lists.specs.declared.acl.Activation.TheVariants.{WhenMitigating, Immediate, Deactivate}
use Rattle.acl_lists.specs.declared.packet.Packet.{Packet}
use Rattle.acl_lists.specs.declared.rows.ScrubRow.{ScrubRow}
use Rattle.acl_lists.specs.declared.rows.AclRow.{AclRow}
use Rattle.acl_lists.specs.Fates.{fate_by_rows}
use Rattle.dots_history.specs.declared.entry.Entry.{Entry}
use Rattle.dots_history.specs.declared.change.Change.{Change}
use Rattle.dots_history.specs.declared.change.Change.TheVariants as change
use Rattle.dots_history.specs.Entries.{same_client, is_held, undoes, undoes_of_client, reconfigures, resumes, is_lost, undoes_of_peer}
use Rattle.dots_history.specs.Histories.{Mitigation, OneDomain, Calm, stays, mitigations, held, alone}
use Rattle.dots_history.specs.Rows.{Row, scrub_rows, list_rows, plain_row, plain_rows, acl_of, acl_row, acl_rows_of, acl_rows, is_mitigating, is_active, fate, is_lost_in, loses, works, triggers, mid_of}
use Rattle.dots_history.specs.Views.{mitigations_of}
use Rattle.dots_history.proofs.Apart.{other_domain, apart}
use Rattle.dots_history.proofs.Alone.{own_passes, other_dropped, rows_alone, lists_alone, far_resumes}

-- ---- what is held
far_undone : (domain : ℕ) (e x : Entry) → (e.domain == domain) ≡ true → (x.domain == domain) ≡ false
    → (reconfigures e x ≡ true → x.domain ≡ e.domain) → undoes e x ≡ false
unfolding undoes same_client
far_undone domain e x own other one =
    or_from
    (((e.domain == x.domain) && bytes_eq e.cuid x.cuid) && undoes_of_client e.change x.change)
    (reconfigures e x || resumes e x)
    (and_left
    ((e.domain == x.domain) && bytes_eq e.cuid x.cuid)
    (undoes_of_client e.change x.change)
    (and_left (e.domain == x.domain) (bytes_eq e.cuid x.cuid) (other_domain domain e x own other)))
    (or_from (reconfigures e x) (resumes e x)
    (false_from_ne_true
    (reconfigures e x)
    (λ is. both_ways (x.domain == domain) other (eq-eqb x.domain domain (one is ∙ eqb-true e.domain domain own))))
    (far_resumes e x (other_domain domain e x own other)))

same_undone : (domain : ℕ) (e : Entry) (later : List Entry) → (e.domain == domain) ≡ true → OneDomain e later
    → list_any (undoes e) (alone domain later) ≡ list_any (undoes e) later
same_undone domain e [] own one = refl
same_undone domain e (x ∷ later) own one =
    let go = same_undone domain e later own one.1 in
    cond_both
    (x.domain == domain)
    (x ∷ alone domain later)
    (alone domain later)
    (λ es. list_any (undoes e) es ≡ list_any (undoes e) (x ∷ later))
    (λ same. ap (λ b. undoes e x || b) go)
    (λ other. go ∙ sym (ap (λ b. b || list_any (undoes e) later) (far_undone domain e x own other one.0)))

pub held_alone : (domain : ℕ) (entries : List Entry) → Calm entries → held (alone domain entries) ≡ alone domain (held entries)
held_alone domain [] calm = refl
held_alone domain (e ∷ later) calm =
    let go = held_alone domain later calm.2 in
    cond_both
    (e.domain == domain)
    (e ∷ alone domain later)
    (alone domain later)
    (λ es. held es ≡ alone domain (held (e ∷ later)))
    (λ own.
    ap
    (λ b. option_to_list (cond (is_held e.change && not b) (Some e) None) ++ held (alone domain later))
    (same_undone domain e later own calm.1)
    ∙ ap (λ es. option_to_list (cond (stays e later) (Some e) None) ++ es) go
    ∙ sym (own_passes (stays e later) domain e (held later) own))
    (λ other. go ∙ sym (other_dropped (stays e later) domain e (held later) other))

-- ---- whose signal is lost
any_option : (s : Bool) (test : Entry → Bool) (e : Entry) (rest : List Entry) → list_any test (option_to_list (cond s (Some e) None) ++ rest) ≡ ((s && test e) || list_any test rest)
any_option true test e rest = refl
any_option false test e rest = refl

lost_by_itself : (c later : Change) → is_lost c ≡ true → undoes_of_peer c later ≡ false
unfolding is_lost undoes_of_peer
lost_by_itself change.Lost later is = refl
lost_by_itself _ later is = absurd (false≢true is)

loss_far : (domain : ℕ) (e x : Entry) → is_lost e.change ≡ true → (e.domain == domain) ≡ true → (x.domain == domain) ≡ false → undoes e x ≡ false
unfolding undoes reconfigures same_client
loss_far domain e x is own other =
    let far = other_domain domain e x own other in
    or_from
    (((e.domain == x.domain) && bytes_eq e.cuid x.cuid) && undoes_of_client e.change x.change)
    (((e.peer == x.peer) && undoes_of_peer e.change x.change) || resumes e x)
    (and_left ((e.domain == x.domain) && bytes_eq e.cuid x.cuid) (undoes_of_client e.change x.change) (and_left (e.domain == x.domain) (bytes_eq e.cuid x.cuid) far))
    (or_from ((e.peer == x.peer) && undoes_of_peer e.change x.change) (resumes e x)
    (and_right (e.peer == x.peer) (undoes_of_peer e.change x.change) (lost_by_itself e.change x.change is)) (far_resumes e x far))

loss_undone : (domain : ℕ) (e : Entry) (later : List Entry) → is_lost e.change ≡ true → (e.domain == domain) ≡ true
    → list_any (undoes e) (alone domain later) ≡ list_any (undoes e) later
loss_undone domain e [] is own = refl
loss_undone domain e (x ∷ later) is own =
    let go = loss_undone domain e later is own in
    cond_both
    (x.domain == domain)
    (x ∷ alone domain later)
    (alone domain later)
    (λ es. list_any (undoes e) es ≡ list_any (undoes e) (x ∷ later))
    (λ same. ap (λ b. undoes e x || b) go)
    (λ other. go ∙ sym (ap (λ b. b || list_any (undoes e) later) (loss_far domain e x is own other)))

loss_stays : (domain peer : ℕ) (e : Entry) (later : List Entry) → (e.domain == domain) ≡ true
    → (stays e (alone domain later) && loses peer domain e) ≡ (stays e later && loses peer domain e)
loss_stays domain peer e later own =
    elim (cases_Bool (is_lost e.change)) [
      | inl is ↦ ap (λ b. (is_held e.change && not b) && loses peer domain e) (loss_undone domain e later is own)
      | inr out ↦
          let none = and_left (is_lost e.change) ((e.peer == peer) && (e.domain == domain)) out in
          and_right (stays e (alone domain later)) (loses peer domain e) none ∙ sym (and_right (stays e later) (loses peer domain e) none)
    ]

pub lost_alone : (domain peer : ℕ) (entries : List Entry) → is_lost_in (held (alone domain entries)) peer domain ≡ is_lost_in (held entries) peer domain
lost_alone domain peer [] = refl
lost_alone domain peer (e ∷ later) =
    let go = lost_alone domain peer later in
    cond_both
    (e.domain == domain)
    (e ∷ alone domain later)
    (alone domain later)
    (λ es. is_lost_in (held es) peer domain ≡ is_lost_in (held (e ∷ later)) peer domain)
    (λ own.
    any_option (stays e (alone domain later)) (loses peer domain) e (held (alone domain later))
    ∙ ap (λ b. b || is_lost_in (held (alone domain later)) peer domain) (loss_stays domain peer e later own)
    ∙ ap (λ b. (stays e later && loses peer domain e) || b) go
    ∙ sym (any_option (stays e later) (loses peer domain) e (held later)))
    (λ other.
    go
    ∙ sym (ap (λ b. b || is_lost_in (held later) peer domain)
    (and_right (stays e later) (loses peer domain e) (and_right (is_lost e.change) ((e.peer == peer) && (e.domain == domain)) (and_right (e.peer == peer) (e.domain == domain) other))))
    ∙ sym (any_option (stays e later) (loses peer domain) e (held later)))

works_alone : (domain : ℕ) (entries : List Entry) (put : Entry) → (put.domain == domain) ≡ true → works (held (alone domain entries)) put ≡ works (held entries) put
works_alone domain entries put own =
    ap (λ b. triggers put.change || b)
    (subst (λ d. is_lost_in (held (alone domain entries)) put.peer d ≡ is_lost_in (held entries) put.peer d) (sym (eqb-true put.domain domain own)) (lost_alone domain put.peer entries))

-- ---- who mitigates
same_clients : (domain : ℕ) (entries : List Entry) (e : Entry) (ms : List Mitigation) → (e.domain == domain) ≡ true
    → list_any (λ (m : Mitigation). same_client e m.put && works (held (alone domain entries)) m.put) (mitigations_of domain ms)
    ≡ list_any (λ (m : Mitigation). same_client e m.put && works (held entries) m.put) ms
unfolding same_client
same_clients domain entries e [] own = refl
same_clients domain entries e (m ∷ ms) own =
    let go = same_clients domain entries e ms own in
    let after = list_any (λ (x : Mitigation). same_client e x.put && works (held entries) x.put) ms in
    cond_both
    (m.put.domain == domain)
    (m ∷ mitigations_of domain ms)
    (mitigations_of domain ms)
    (λ ys. list_any (λ (x : Mitigation). same_client e x.put && works (held (alone domain entries)) x.put) ys ≡ ((same_client e m.put && works (held entries) m.put) || after))
    (λ same.
    ap (λ b. (same_client e m.put && b) || list_any (λ (x : Mitigation). same_client e x.put && works (held (alone domain entries)) x.put) (mitigations_of domain ms)) (works_alone domain entries m.put same)
    ∙ ap (λ b. (same_client e m.put && works (held entries) m.put) || b) go)
    (λ other.
    go
    ∙ sym (ap (λ b. b || after)
    (and_left (same_client e m.put) (works (held entries) m.put) (and_left (e.domain == m.put.domain) (bytes_eq e.cuid m.put.cuid) (other_domain domain e m.put own other)))))

pub mitigating_alone : (domain t : ℕ) (entries : List Entry) (e : Entry) → (e.domain == domain) ≡ true
    → is_mitigating t (alone domain entries) e ≡ is_mitigating t entries e
mitigating_alone domain t entries e own =
    ap (λ ms. list_any (λ (m : Mitigation). same_client e m.put && works (held (alone domain entries)) m.put) ms) (apart domain t entries)
    ∙ same_clients domain entries e (mitigations t entries) own

pub active_alone : (domain t : ℕ) (entries : List Entry) (e : Entry) (a : Activation) → (e.domain == domain) ≡ true
    → is_active t (alone domain entries) e a ≡ is_active t entries e a
active_alone domain t entries e Immediate own = refl
active_alone domain t entries e WhenMitigating own = mitigating_alone domain t entries e own
active_alone domain t entries e Deactivate own = refl

-- ---- rows
abbrev list_in : ℕ → AclRow → Bool
list_in domain row = row.domain == domain

list_own : (domain t : ℕ) (entries : List Entry) (e : Entry) (o : Option Acl) (rest : List AclRow) → (e.domain == domain) ≡ true
    → option_to_list (acl_row t (alone domain entries) e o) ++ filter (list_in domain) rest
    ≡ filter (list_in domain) (option_to_list (acl_row t entries e o) ++ rest)
list_own domain t entries e None rest own = refl
list_own domain t entries e (Some acl) rest own =
    let row : Bool → AclRow = λ b. record { domain = e.domain; cuid = e.cuid; acl = acl; active = b } in
    ap (λ b. row b ∷ filter (list_in domain) rest) (active_alone domain t entries e acl.activation own)
    ∙ sym (cond-true
    (e.domain == domain)
    (row (is_active t entries e acl.activation) ∷ filter (list_in domain) rest)
    (filter (list_in domain) rest)
    own)

list_other : (domain t : ℕ) (entries : List Entry) (e : Entry) (o : Option Acl) (rest : List AclRow) → (e.domain == domain) ≡ false
    → filter (list_in domain) rest ≡ filter (list_in domain) (option_to_list (acl_row t entries e o) ++ rest)
list_other domain t entries e None rest other = refl
list_other domain t entries e (Some acl) rest other =
    let row : AclRow = record { domain = e.domain; cuid = e.cuid; acl = acl; active = is_active t entries e acl.activation } in
    sym (cond-false (e.domain == domain) (row ∷ filter (list_in domain) rest) (filter (list_in domain) rest) other)

rows_of_alone : (domain t : ℕ) (entries es : List Entry)
    → acl_rows_of t (alone domain entries) (alone domain es) ≡ filter (list_in domain) (acl_rows_of t entries es)
rows_of_alone domain t entries [] = refl
rows_of_alone domain t entries (e ∷ es) =
    let go = rows_of_alone domain t entries es in
    cond_both
    (e.domain == domain)
    (e ∷ alone domain es)
    (alone domain es)
    (λ xs. acl_rows_of t (alone domain entries) xs ≡ filter (list_in domain) (acl_rows_of t entries (e ∷ es)))
    (λ own.
    ap (λ rows. option_to_list (acl_row t (alone domain entries) e (acl_of e.change)) ++ rows) go
    ∙ list_own domain t entries e (acl_of e.change) (acl_rows_of t entries es) own)
    (λ other. go ∙ list_other domain t entries e (acl_of e.change) (acl_rows_of t entries es) other)

pub acl_rows_alone : (domain t : ℕ) (entries : List Entry)
    → acl_rows t (alone domain entries) ≡ filter (λ (row : AclRow). row.domain == domain) (acl_rows t entries)
acl_rows_alone domain t entries =
    ap (acl_rows_of t (alone domain entries)) (lists_alone domain entries) ∙ rows_of_alone domain t entries (list_rows entries)

filter_rows : (domain : ℕ) (few all : List Entry) → ((put : Entry) → (put.domain == domain) ≡ true → works few put ≡ works all put) → (rows : List Row)
    → map (plain_row few) (filter (λ (row : Row). row.put.domain == domain) rows) ≡ filter (λ (row : ScrubRow). row.domain == domain) (map (plain_row all) rows)
filter_rows domain few all same [] = refl
filter_rows domain few all same (row ∷ rows) =
    let go = filter_rows domain few all same rows in
    let rest = filter (λ (r : Row). r.put.domain == domain) rows in
    let after = filter (λ (r : ScrubRow). r.domain == domain) (map (plain_row all) rows) in
    elim (cases_Bool (row.put.domain == domain)) [
      | inl own ↦
          ap (map (plain_row few)) (cond-true (row.put.domain == domain) (row ∷ rest) rest own)
          ∙ ap (λ b. record { domain = row.put.domain; cuid = row.put.cuid; mid = mid_of row.put.change; prefix = row.prefix; ports = row.target.ports; protocols = row.target.protocols; active = b } ∷ map (plain_row few) rest) (same row.put own)
          ∙ ap (λ rows. plain_row all row ∷ rows) go
          ∙ sym (cond-true (row.put.domain == domain) (plain_row all row ∷ after) after own)
      | inr other ↦
          ap (map (plain_row few)) (cond-false (row.put.domain == domain) (row ∷ rest) rest other)
          ∙ go
          ∙ sym (cond-false (row.put.domain == domain) (plain_row all row ∷ after) after other)
    ]

pub plain_rows_alone : (domain t : ℕ) (entries : List Entry)
    → plain_rows t (alone domain entries) ≡ filter (λ (row : ScrubRow). row.domain == domain) (plain_rows t entries)
plain_rows_alone domain t entries =
    ap (map (plain_row (held (alone domain entries)))) (rows_alone domain t entries)
    ∙ filter_rows domain (held (alone domain entries)) (held entries) (works_alone domain entries) (scrub_rows t entries)

pub fate_alone : (prefixes : ℕ → List PrefixValue) (domain t : ℕ) (entries : List Entry) (packet : Packet)
    → fate prefixes t (alone domain entries) packet
    ≡ fate_by_rows
    prefixes
    (filter (λ (row : ScrubRow). row.domain == domain) (plain_rows t entries))
    (filter (λ (row : AclRow). row.domain == domain) (acl_rows t entries))
    packet
fate_alone prefixes domain t entries packet =
    ap (λ rows. fate_by_rows prefixes rows (acl_rows t (alone domain entries)) packet) (plain_rows_alone domain t entries)
    ∙ ap
    (λ lists. fate_by_rows prefixes (filter (λ (row : ScrubRow). row.domain == domain) (plain_rows t entries)) lists packet)
    (acl_rows_alone domain t entries)
