-- A domain's judgements are those of its own entries.
use Rattle.std.proofs.Common.{◌≡◌, ℕ, Bool, true, false, cond, not, ◌&&◌, ◌||◌, List, [], ◌∷◌, ◌++◌, map, Option, Some, None, inl, inr, refl, sym, ap, ◌∙◌}
use Rattle.std.specs.Prelude.{◌==◌, option_to_list, option_map, bytes_eq}
use Rattle.std.specs.List.{list_any, find}
use Rattle.std.proofs.lemmas.Bool.{both_ways, cond_both, cond-false, cases_Bool, and_left, and_right, eqb-true, eq-eqb, false_from_ne_true}
use Rattle.acl_lists.specs.declared.alias.Alias.{Alias}
use Rattle.dots_settings.specs.Settings.{SettingsValue}
use Rattle.dots_history.specs.declared.entry.Entry.{Entry}
use Rattle.dots_history.specs.Entries.{is_held, undoes, is_deregister, option_any}
use Rattle.dots_history.specs.Histories.{mitigations, stays, held, alone}
use Rattle.dots_history.specs.Rows.{is_lost_in}
use Rattle.dots_history.specs.Capacities.{is_registration}
use Rattle.dots_history.specs.Tables.{Client, is_of}
use Rattle.dots_history.specs.Views.{mitigations_of}
use Rattle.dots_history.proofs.Apart.{apart}
use Rattle.dots_history.proofs.Isolating.{lost_alone}
use Rattle.dots_history.proofs.Single.{is_of_client}
use Rattle.conflict_rules.specs.ByMid as by_mid
use Rattle.conflict_rules.specs.Lives.{live_of, lives_of}
use Rattle.conflict_rules.specs.LiveViews.{LiveView, live_views_of, live_views_in}
use Rattle.dots_history.specs.Held.{aliases_of, registers, registrant, of_client}
use Rattle.dots_history.proofs.Written.{reg_undone, aliases_alone}
use Rattle.conflict_rules.specs.Requests.{Request, ClientValue}
use Rattle.conflict_rules.specs.Judging.{judge_put}
use Rattle.conflict_rules.specs.ByHistory.{collides, judge_request}
use Rattle.conflict_rules.specs.Statuses.{status_by, view_with, views_in}

-- ---- the live mitigations
same_mitigations : (domain t : ℕ) (one other : List Entry) → alone domain one ≡ alone domain other
    → mitigations_of domain (mitigations t one) ≡ mitigations_of domain (mitigations t other)
same_mitigations domain t one other same = sym (apart domain t one) ∙ ap (mitigations t) same ∙ apart domain t other

-- ---- what is held of a client
other_client : (client : Client) (e : Entry) → (e.domain == client.domain) ≡ false → is_of client e ≡ false
unfolding is_of
other_client client e out =
    and_left
    (client.domain == e.domain)
    (bytes_eq client.cuid e.cuid)
    (false_from_ne_true
    (client.domain == e.domain)
    (λ is. both_ways (e.domain == client.domain) out (eq-eqb e.domain client.domain (sym (eqb-true client.domain e.domain is)))))

client_alone : (client : Client) (entries : List Entry) → of_client client (alone client.domain entries) ≡ of_client client entries
client_alone client [] = refl
client_alone client (e ∷ later) =
    let go = client_alone client later in
    cond_both
    (e.domain == client.domain)
    (e ∷ alone client.domain later)
    (alone client.domain later)
    (λ es. of_client client es ≡ cond (is_of client e) (e ∷ of_client client later) (of_client client later))
    (λ here. ap (λ es. cond (is_of client e) (e ∷ es) es) go)
    (λ out. go ∙ sym (cond-false (is_of client e) (e ∷ of_client client later) (of_client client later) (other_client client e out)))

same_client_entries : (client : Client) (one other : List Entry) → alone client.domain one ≡ alone client.domain other
    → of_client client one ≡ of_client client other
same_client_entries client one other same = sym (client_alone client one) ∙ ap (of_client client) same ∙ client_alone client other

same_aliases : (client : Client) (one other : List Entry) → alone client.domain one ≡ alone client.domain other
    → aliases_of client (held one) ≡ aliases_of client (held other)
same_aliases client one other same =
    sym (aliases_alone client one)
    ∙ ap (λ es. aliases_of client (held es)) (same_client_entries client one other same)
    ∙ aliases_alone client other

-- ---- who registered it
left_out : (s : Bool) (client : Client) (e : Entry) (rest : List Entry) → registers client e ≡ false
    → find (registers client) (option_to_list (cond s (Some e) None) ++ rest) ≡ find (registers client) rest
left_out true client e rest out = cond-false (registers client e) (Some e) (find (registers client) rest) out
left_out false client e rest out = refl

unmoved : (client : Client) (e x : Entry) → is_registration e.change ≡ true → is_of client e ≡ true → is_of client x ≡ false → undoes e x ≡ false
unmoved client e x registers of out =
    reg_undone e x registers
    ∙ ap (λ c. is_deregister x.change && is_of c x) (is_of_client client e of)
    ∙ and_right (is_deregister x.change) (is_of client x) out

undone_alone : (client : Client) (e : Entry) (later : List Entry) → is_registration e.change ≡ true → is_of client e ≡ true
    → list_any (undoes e) (of_client client later) ≡ list_any (undoes e) later
undone_alone client e [] registers of = refl
undone_alone client e (x ∷ later) registers of =
    let go = undone_alone client e later registers of in
    cond_both
    (is_of client x)
    (x ∷ of_client client later)
    (of_client client later)
    (λ es. list_any (undoes e) es ≡ undoes e x || list_any (undoes e) later)
    (λ own. ap (λ b. undoes e x || b) go)
    (λ out. go ∙ sym (ap (λ b. b || list_any (undoes e) later) (unmoved client e x registers of out)))

found_alone : (client : Client) (entries : List Entry) → find (registers client) (held (of_client client entries)) ≡ find (registers client) (held entries)
found_alone client [] = refl
found_alone client (e ∷ later) =
    let go = found_alone client later in
    let next = held (of_client client later) in
    cond_both
    (is_of client e)
    (e ∷ of_client client later)
    (of_client client later)
    (λ es. find (registers client) (held es) ≡ find (registers client) (held (e ∷ later)))
    (λ own.
    elim (cases_Bool (is_registration e.change)) [
      | inl is ↦
          ap
          (λ b. find (registers client) (option_to_list (cond (is_held e.change && not b) (Some e) None) ++ next))
          (undone_alone client e later is own)
          ∙ by_stay (stays e later) go
      | inr none ↦
          left_out (stays e (of_client client later)) client e next (and_left (is_registration e.change) (is_of client e) none)
          ∙ go
          ∙ sym (left_out (stays e later) client e (held later) (and_left (is_registration e.change) (is_of client e) none))
    ])
    (λ out. go ∙ sym (left_out (stays e later) client e (held later) (and_right (is_registration e.change) (is_of client e) out)))
  where
    by_stay : (s : Bool) → find (registers client) (held (of_client client later)) ≡ find (registers client) (held later)
        → find (registers client) (option_to_list (cond s (Some e) None) ++ held (of_client client later))
        ≡ find (registers client) (option_to_list (cond s (Some e) None) ++ held later)
    by_stay true go = ap (λ o. cond (registers client e) (Some e) o) go
    by_stay false go = go

same_registrant : (client : Client) (one other : List Entry) → alone client.domain one ≡ alone client.domain other
    → registrant client (held one) ≡ registrant client (held other)
same_registrant client one other same =
    ap
    (option_map (λ (e : Entry). e.peer))
    (sym (found_alone client one)
    ∙ ap (λ es. find (registers client) (held es)) (same_client_entries client one other same)
    ∙ found_alone client other)

-- ---- the judgements
abbrev of_held : Option ℕ → List Alias → ClientValue
of_held registrant aliases = record { registrant = registrant; aliases = aliases }

pub judged_apart : (settings : SettingsValue) (t : ℕ) (one other : List Entry) (domain : ℕ) (request : Request) → alone domain one ≡ alone domain other
    → judge_request settings t one domain request ≡ judge_request settings t other domain request
judged_apart settings t one other domain request same =
    let client : Client = record { domain = domain; cuid = request.cuid } in
    ap
    (λ ms. judge_put settings (map live_of ms) (of_held (registrant client (held one)) (aliases_of client (held one))) t request)
    (same_mitigations domain t one other same)
    ∙ ap
    (λ peer. judge_put settings (lives_of domain t other) (of_held peer (aliases_of client (held one))) t request)
    (same_registrant client one other same)
    ∙ ap
    (λ aliases. judge_put settings (lives_of domain t other) (of_held (registrant client (held other)) aliases) t request)
    (same_aliases client one other same)

pub collides_apart : (t : ℕ) (one other : List Entry) (peer : ℕ) (client : Client) → alone client.domain one ≡ alone client.domain other
    → collides t one peer client ≡ collides t other peer client
collides_apart t one other peer client same =
    ap
    (λ ms. by_mid.collides (map live_of ms) peer client.cuid || option_any (λ (other : ℕ). not (other == peer)) (registrant client (held one)))
    (same_mitigations client.domain t one other same)
    ∙ ap
    (λ o. by_mid.collides (lives_of client.domain t other) peer client.cuid || option_any (λ (other : ℕ). not (other == peer)) o)
    (same_registrant client one other same)

same_lost : (domain peer : ℕ) (one other : List Entry) → alone domain one ≡ alone domain other
    → is_lost_in (held one) peer domain ≡ is_lost_in (held other) peer domain
same_lost domain peer one other same =
    sym (lost_alone domain peer one) ∙ ap (λ es. is_lost_in (held es) peer domain) same ∙ lost_alone domain peer other

-- whether a mitigation of the domain filters depends on the signals in the domain alone
pub views_by : (lost other : ℕ → ℕ → Bool) (domain : ℕ) (views : List LiveView) → ((peer : ℕ) → lost peer domain ≡ other peer domain)
    → map (view_with lost domain) views ≡ map (view_with other domain) views
views_by lost other domain [] same = refl
views_by lost other domain (view ∷ views) same =
    ap (λ b. record {
      put = view.put;
      peer = view.peer;
      left = view.left;
      status = status_by (view.put.trigger || b) view.status;
    }
    ∷ map (view_with lost domain) views) (same view.peer)
    ∙ ap (λ rest. view_with other domain view ∷ rest) (views_by lost other domain views same)

pub views_apart : (t : ℕ) (one other : List Entry) (domain : ℕ) (cuid : List ℕ) → alone domain one ≡ alone domain other
    → views_in domain cuid t one ≡ views_in domain cuid t other
views_apart t one other domain cuid same =
    views_by (is_lost_in (held one)) (is_lost_in (held other)) domain (live_views_in domain cuid t one) (λ peer. same_lost domain peer one other same)
    ∙ ap (λ ms. map (view_with (is_lost_in (held other)) domain) (live_views_of t cuid ms)) (same_mitigations domain t one other same)
