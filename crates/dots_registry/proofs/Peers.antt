-- Whether each live mitigation of a client has the peer of an entry.
use Rattle.std.proofs.Common.{◌≡◌, ℕ, ◌≤◌, Bool, true, false, cond, not, ◌&&◌, ◌||◌, List, [], ◌∷◌, ◌++◌, map, Some, None, inl, inr, refl, sym, ap, ◌∙◌, arith}
use Rattle.std.specs.Prelude.{◌==◌, bytes_eq, option_to_list}
use Rattle.std.specs.List.{list_all}
use Rattle.std.proofs.lemmas.Bool.{false≢true, true≢false, cases_Bool, and_parts, and_from, ne_eqb, eq-eqb, eqb-true}
use Rattle.dots_history.specs.declared.entry.Entry.{Entry}
use Rattle.dots_history.specs.declared.status.Status.TheVariants.{Open}
use Rattle.dots_history.specs.Entries.{same_client}
use Rattle.dots_history.specs.Histories.{Mitigation, live, status, mitigations}
use Rattle.dots_history.specs.Views.{mitigations_of}
use Rattle.conflict_rules.specs.ByMid.{collides}
use Rattle.conflict_rules.specs.Lives.{live_of, lives_of}
use Rattle.live_mitigations.specs.LiveValues.{LiveValue, Represents, is_inside, puts}
use Rattle.dots_registry.specs.Fitting.{has_peer}
use Rattle.dots_registry.proofs.Conditions.{never_live, inside_or_quiet, out_of_client}

-- ---- by the live mitigations of its domain

same_number : (a b : ℕ) → (a == b) ≡ (b == a)
same_number a b =
    elim (cases_Bool (a == b)) [
      | inl same ↦ same ∙ sym (eq-eqb b a (sym (eqb-true a b same)))
      | inr other ↦ other ∙ sym (ne_eqb b a (λ same. true≢false (sym (eq-eqb a b (sym same)) ∙ other)))
    ]

of_client : (own same turned rest collide : Bool) → same ≡ turned → rest ≡ not collide → ((not own || same) && rest) ≡ not ((own && not turned) || collide)
of_client false same turned rest collide is goes = goes
of_client true true true rest collide is goes = goes
of_client true true false rest collide is goes = absurd (true≢false is)
of_client true false true rest collide is goes = absurd (false≢true is)
of_client true false false rest collide is goes = refl

all_of_peer : (e : Entry) (ms : List Mitigation) → list_all (has_peer e) ms ≡ not (collides (map live_of (mitigations_of e.domain ms)) e.peer e.cuid)
unfolding same_client
all_of_peer e [] = refl
all_of_peer e (m ∷ ms) = by_domain (m.put.domain == e.domain) (all_of_peer e ms)
  where
    by_domain : (b : Bool) → list_all (has_peer e) ms ≡ not (collides (map live_of (mitigations_of e.domain ms)) e.peer e.cuid) → ((not (b && bytes_eq m.put.cuid e.cuid) || (e.peer == m.put.peer)) && list_all (has_peer e) ms)
        ≡ not (collides (map live_of (cond b (m ∷ mitigations_of e.domain ms) (mitigations_of e.domain ms))) e.peer e.cuid)
    by_domain true rest =
        of_client
        (bytes_eq m.put.cuid e.cuid)
        (e.peer == m.put.peer)
        (m.put.peer == e.peer)
        (list_all (has_peer e) ms)
        (collides (map live_of (mitigations_of e.domain ms)) e.peer e.cuid)
        (same_number e.peer m.put.peer)
        rest
    by_domain false rest = rest

pub peers_inside : (found : Bool) (e : Entry) (t : ℕ) (entries : List Entry) → found ≡ collides (lives_of e.domain t entries) e.peer e.cuid
    → not found ≡ list_all (has_peer e) (mitigations t entries)
peers_inside found e t entries is = ap not is ∙ sym (all_of_peer e (mitigations t entries))

-- ---- an entry of no domain

all_outside : (e : Entry) (t domains : ℕ) (entries : List Entry) → domains ≤ e.domain → list_all (is_inside domains) entries ≡ true
    → list_all (has_peer e) (mitigations t entries) ≡ true
all_outside e t domains [] past all = refl
all_outside e t domains (x ∷ later) past all =
    let parts = and_parts (is_inside domains x) (list_all (is_inside domains) later) all in
    by_life (live t x (status x Open later)) refl (all_outside e t domains later past parts.1) parts.0
  where
    by_life : (b : Bool) → live t x (status x Open later) ≡ b → list_all (has_peer e) (mitigations t later) ≡ true → is_inside domains x ≡ true
        → list_all (has_peer e) (option_to_list (cond b (Some (record { put = x; status = status x Open later })) None) ++ mitigations t later) ≡ true
    by_life false dead rest inside = rest
    by_life true alive rest inside =
        elim (cases_Bool (puts x)) [
          | inl put ↦
              let less = inside_or_quiet domains x inside put in
              let out = out_of_client x e (ne_eqb x.domain e.domain (λ same. omega (arith, less, past, same))) in
              and_from (has_peer e (record { put = x; status = status x Open later })) (list_all (has_peer e) (mitigations t later)) (ap (λ b. not b || (e.peer == x.peer)) out) rest
          | inr quiet ↦ absurd (false≢true (sym (never_live t x (status x Open later) quiet) ∙ alive))
        ]

pub peers_outside : (live : LiveValue) (domains : ℕ) (e : Entry) (entries : List Entry) → domains ≡ live.domains → domains ≤ e.domain → Represents live entries
    → true ≡ list_all (has_peer e) (mitigations live.time entries)
peers_outside live domains e entries are past represents =
    sym (all_outside e live.time live.domains entries (omega (arith, past, are)) represents.inside)
