-- Where a client's name isn't in use by another peer, what this peer puts or withdraws has the peer of each live mitigation of the
-- client; and what is granted is free so.
use Rattle.std.proofs.Common.{◌≡◌, ℕ, Bool, true, false, cond, not, ◌&&◌, ◌||◌, List, [], ◌∷◌, map, Ok, Err, inl, inr, refl, sym, ap, ◌∙◌}
use Rattle.std.specs.Prelude.{◌==◌, bytes_eq}
use Rattle.std.specs.List.{list_all, find}
use Rattle.std.specs.Result.{result_ok}
use Rattle.std.proofs.lemmas.Bool.{cases_Bool, cond-true, not-false, and_from, and_cases, and_left, and_right, or_parts, or_left, or_right, not_from_false, false_from_ne_true}
use Rattle.std.proofs.lemmas.Option.{none-some}
use Rattle.dots_settings.specs.Settings.{SettingsValue}
use Rattle.dots_history.specs.declared.entry.Entry.{Entry}
use Rattle.dots_history.specs.Entries.{same_client}
use Rattle.dots_history.specs.Histories.{Mitigation, mitigations, held}
use Rattle.dots_history.specs.Fits.{is_of_mitigations, has_one_peer}
use Rattle.dots_history.specs.Tables.{Client}
use Rattle.dots_history.specs.Views.{mitigations_of}
use Rattle.conflict_rules.specs.ByMid.{has_mid}
use Rattle.conflict_rules.specs.ByMid as by_mid
use Rattle.conflict_rules.specs.Lives.{live_of, lives_of}
use Rattle.dots_history.specs.Held.{is_of_another}
use Rattle.held_resources.proofs.Holdings.{turned_eq}
use Rattle.conflict_rules.specs.declared.fault.PutFault.{PutFault}
use Rattle.conflict_rules.specs.declared.fault.PutFault.TheVariants as faults
use Rattle.conflict_rules.specs.declared.judging.Judged.{Judged}
use Rattle.conflict_rules.specs.Requests.{Request}
use Rattle.conflict_rules.specs.Judging.{judge_known}
use Rattle.conflict_rules.specs.ByHistory.{client_in, collides, judge_request}

-- ---- one peer

-- the mitigation isn't of the entry's client, or has the entry's peer
abbrev has_its_peer : Entry → Mitigation → Bool
has_its_peer e m = not (same_client m.put e) || (e.peer == m.put.peer)

of_another_domain : (e : Entry) (m : Mitigation) → (m.put.domain == e.domain) ≡ false → has_its_peer e m ≡ true
unfolding same_client
of_another_domain e m other =
    or_left
    (not (same_client m.put e))
    (e.peer == m.put.peer)
    (not_from_false (same_client m.put e) (and_left (m.put.domain == e.domain) (bytes_eq m.put.cuid e.cuid) other))

of_the_domain : (e : Entry) (m : Mitigation) → (bytes_eq m.put.cuid e.cuid && not (m.put.peer == e.peer)) ≡ false → has_its_peer e m ≡ true
unfolding same_client
of_the_domain e m none =
    elim (and_cases (bytes_eq m.put.cuid e.cuid) (not (m.put.peer == e.peer)) none) [
      | inl other ↦
          or_left
          (not (same_client m.put e))
          (e.peer == m.put.peer)
          (not_from_false (same_client m.put e) (and_right (m.put.domain == e.domain) (bytes_eq m.put.cuid e.cuid) other))
      | inr same ↦
          or_right
          (not (same_client m.put e))
          (e.peer == m.put.peer)
          (turned_eq e.peer m.put.peer ∙ not-false (m.put.peer == e.peer) same)
    ]

all_have : (e : Entry) (ms : List Mitigation) → by_mid.collides (map live_of (mitigations_of e.domain ms)) e.peer e.cuid ≡ false
    → list_all (has_its_peer e) ms ≡ true
all_have e [] none = refl
all_have e (m ∷ ms) none =
    let rest = mitigations_of e.domain ms in
    elim (cases_Bool (m.put.domain == e.domain)) [
      | inl own ↦
          let here : by_mid.collides (map live_of (m ∷ rest)) e.peer e.cuid ≡ false =
          sym (ap (λ b. by_mid.collides (map live_of (cond b (m ∷ rest) rest)) e.peer e.cuid) own) ∙ none in
          let parts = or_parts (bytes_eq m.put.cuid e.cuid && not (m.put.peer == e.peer)) (by_mid.collides (map live_of rest) e.peer e.cuid) here in
          and_from (has_its_peer e m) (list_all (has_its_peer e) ms) (of_the_domain e m parts.0) (all_have e ms parts.1)
      | inr other ↦
          let there : by_mid.collides (map live_of rest) e.peer e.cuid ≡ false =
          sym (ap (λ b. by_mid.collides (map live_of (cond b (m ∷ rest) rest)) e.peer e.cuid) other) ∙ none in
          and_from (has_its_peer e m) (list_all (has_its_peer e) ms) (of_another_domain e m other) (all_have e ms there)
    ]

pub free_is_one_peer : (t : ℕ) (entries : List Entry) (peer : ℕ) (client : Client) (e : Entry) → collides t entries peer client ≡ false → e.peer ≡ peer
    → e.domain ≡ client.domain → e.cuid ≡ client.cuid → has_one_peer e (mitigations t entries) ≡ true
free_is_one_peer t entries peer client e free own domain cuid =
    let none = (or_parts (by_mid.collides (lives_of client.domain t entries) peer client.cuid) (is_of_another peer client (held entries)) free).0 in
    let here : by_mid.collides (lives_of e.domain t entries) e.peer e.cuid ≡ false =
    ap (λ p. by_mid.collides (lives_of e.domain t entries) p e.cuid) own
    ∙ ap (λ d. by_mid.collides (lives_of d t entries) peer e.cuid) domain
    ∙ ap (by_mid.collides (lives_of client.domain t entries) peer) cuid
    ∙ none in
    or_right (not (is_of_mitigations e.change)) (list_all (has_its_peer e) (mitigations t entries)) (all_have e (mitigations t entries) here)

-- ---- what is granted

no_fault : (fault : PutFault) (judged : Judged) → Err fault ≡ Ok judged → ⊥
no_fault fault judged is = none-some judged (ap result_ok is)

pub granted_is_free : (settings : SettingsValue) (t : ℕ) (entries : List Entry) (domain : ℕ) (request : Request) (judged : Judged)
    → judge_request settings t entries domain request ≡ Ok judged
    → collides t entries request.peer (record { domain = domain; cuid = request.cuid }) ≡ false
granted_is_free settings t entries domain request judged is =
    let client : Client = record { domain = domain; cuid = request.cuid } in
    let alive = lives_of domain t entries in
    let known = judge_known settings alive (client_in entries client).aliases t request (find (has_mid request.cuid request.mid) alive) in
    false_from_ne_true
    (collides t entries request.peer client)
    (λ taken.
    no_fault faults.Collision judged (sym (cond-true (collides t entries request.peer client) (Err faults.Collision) known taken) ∙ is))
