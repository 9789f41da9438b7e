-- Which peers have a live mitigation that filters.
use Rattle.std.proofs.Common.{◌≡◌, ℕ, ◌<◌, Bool, true, false, cond, ◌&&◌, List, [], ◌∷◌, map, inl, inr, refl, sym, ap, ◌∙◌}
use Rattle.std.specs.Prelude.{◌||◌, ◌==◌, nat_lt}
use Rattle.std.specs.List.{list_any, list_all}
use Rattle.std.proofs.lemmas.Bool.{false≢true, both_ways, cond_both, cases_Bool, and_parts, and_from, or_cases, or_left, or_right, or_from, eqb-true, eq-eqb, ltb-true, false_from_ne_true}
use Rattle.dots_history.specs.declared.entry.Entry.{Entry}
use Rattle.dots_history.specs.Histories.{Mitigation, mitigations}
use Rattle.dots_history.specs.Rows.{triggers, is_lost_in, works}
use Rattle.dots_history.specs.Tables.{bare, bare_mitigation}
use Rattle.dots_history.specs.Views.{mitigations_of}
use Rattle.dots_history.proofs.Bare.{bare_mitigations}
use Rattle.live_mitigations.proofs.Room.{of_domain_bare}

spread : (p a l x y : Bool) → ((p && (a || l)) || (x || y)) ≡ (((p && a) || x) || ((p && l) || y))
spread false a l x y = refl
spread true true l x y = refl
spread true false true true y = refl
spread true false true false y = refl
spread true false false x y = refl

module _ (standing : List Entry) (peer : ℕ) where
  abbrev pub of_peer : Mitigation → Bool
  of_peer m = m.put.peer == peer

  abbrev pub of_lost : Mitigation → Bool
  of_lost m = (m.put.peer == peer) && is_lost_in standing m.put.peer m.put.domain

  -- it filters at once, or the peer's signal is lost in its domain
  pub by_kind : (ms : List Mitigation) → list_any (λ (m : Mitigation). (m.put.peer == peer) && works standing m.put) ms
      ≡ list_any (λ (m : Mitigation). (m.put.peer == peer) && triggers m.put.change) ms || list_any of_lost ms
  by_kind [] = refl
  by_kind (m ∷ ms) =
      ap (λ b. ((m.put.peer == peer) && works standing m.put) || b) (by_kind ms)
      ∙ spread
      (m.put.peer == peer)
      (triggers m.put.change)
      (is_lost_in standing m.put.peer m.put.domain)
      (list_any (λ (x : Mitigation). (x.put.peer == peer) && triggers x.put.change) ms)
      (list_any of_lost ms)

  -- ---- domain by domain
  some_in : (domain : ℕ) (ms : List Mitigation) → is_lost_in standing peer domain ≡ true → list_any of_peer (mitigations_of domain ms) ≡ true → list_any of_lost ms ≡ true
  some_in domain [] lost is = absurd (false≢true is)
  some_in domain (m ∷ ms) lost is =
      elim (cases_Bool (m.put.domain == domain)) [
        | inl own ↦
            elim (or_cases
            (of_peer m)
            (list_any of_peer (mitigations_of domain ms))
            (sym (ap (λ b. list_any of_peer (cond b (m ∷ mitigations_of domain ms) (mitigations_of domain ms))) own) ∙ is)) [
              | inl here ↦
                  or_left (of_lost m) (list_any of_lost ms)
                  (and_from
                  (m.put.peer == peer)
                  (is_lost_in standing m.put.peer m.put.domain)
                  here
                  (ap (λ p. is_lost_in standing p m.put.domain) (eqb-true m.put.peer peer here)
                  ∙ ap (is_lost_in standing peer) (eqb-true m.put.domain domain own)
                  ∙ lost))
              | inr more ↦ or_right (of_lost m) (list_any of_lost ms) (some_in domain ms lost more)
            ]
        | inr other ↦
            or_right (of_lost m) (list_any of_lost ms)
            (some_in domain ms lost (sym (ap (λ b. list_any of_peer (cond b (m ∷ mitigations_of domain ms) (mitigations_of domain ms))) other) ∙ is))
      ]

  -- in no domain is there one
  abbrev pub NoneIn : ℕ → List Mitigation → Type 0
  NoneIn domains ms = (domain : ℕ) → domain < domains → (is_lost_in standing peer domain && list_any of_peer (mitigations_of domain ms)) ≡ false

  not_first : (domains : ℕ) (m : Mitigation) (ms : List Mitigation) → NoneIn domains (m ∷ ms) → m.put.domain < domains → of_lost m ≡ false
  not_first domains m ms none less =
      false_from_ne_true (of_lost m) (λ is.
      let parts = and_parts (m.put.peer == peer) (is_lost_in standing m.put.peer m.put.domain) is in
      let rest = mitigations_of m.put.domain ms in
      both_ways
      (is_lost_in standing peer m.put.domain && list_any of_peer (mitigations_of m.put.domain (m ∷ ms)))
      (none m.put.domain less)
      (and_from
      (is_lost_in standing peer m.put.domain)
      (list_any of_peer (mitigations_of m.put.domain (m ∷ ms)))
      (ap (λ p. is_lost_in standing p m.put.domain) (sym (eqb-true m.put.peer peer parts.0)) ∙ parts.1)
      (ap (λ b. list_any of_peer (cond b (m ∷ rest) rest)) (eq-eqb m.put.domain m.put.domain refl)
      ∙ or_left (of_peer m) (list_any of_peer rest) parts.0)))

  none_left : (domains : ℕ) (m : Mitigation) (ms : List Mitigation) → NoneIn domains (m ∷ ms) → NoneIn domains ms
  none_left domains m ms none domain less =
      let rest = mitigations_of domain ms in
      false_from_ne_true (is_lost_in standing peer domain && list_any of_peer rest) (λ is.
      let parts = and_parts (is_lost_in standing peer domain) (list_any of_peer rest) is in
      both_ways
      (is_lost_in standing peer domain && list_any of_peer (mitigations_of domain (m ∷ ms)))
      (none domain less)
      (and_from
      (is_lost_in standing peer domain)
      (list_any of_peer (mitigations_of domain (m ∷ ms)))
      parts.0
      (cond_both
      (m.put.domain == domain)
      (m ∷ rest)
      rest
      (λ xs. list_any of_peer xs ≡ true)
      (λ own. or_right (of_peer m) (list_any of_peer rest) parts.1)
      (λ other. parts.1))))

  none_at_all : (domains : ℕ) (ms : List Mitigation) → NoneIn domains ms → list_all (λ (m : Mitigation). nat_lt m.put.domain domains) ms ≡ true → list_any of_lost ms ≡ false
  none_at_all domains [] none inside = refl
  none_at_all domains (m ∷ ms) none inside =
      let parts = and_parts (nat_lt m.put.domain domains) (list_all (λ (x : Mitigation). nat_lt x.put.domain domains) ms) inside in
      or_from
      (of_lost m)
      (list_any of_lost ms)
      (not_first domains m ms none (ltb-true m.put.domain domains parts.0))
      (none_at_all domains ms (none_left domains m ms none) parts.1)

  -- ---- by what is kept without messages
  bare_peer : (ms : List Mitigation) → list_any of_peer (map bare_mitigation ms) ≡ list_any of_peer ms
  bare_peer [] = refl
  bare_peer (m ∷ ms) = ap (λ b. of_peer m || b) (bare_peer ms)

  pub of_peer_bare : (domain t : ℕ) (entries : List Entry) → list_any of_peer (mitigations_of domain (mitigations t (map bare entries))) ≡ list_any of_peer (mitigations_of domain (mitigations t entries))
  of_peer_bare domain t entries =
      ap (λ ms. list_any of_peer (mitigations_of domain ms)) (bare_mitigations t entries)
      ∙ ap (list_any of_peer) (of_domain_bare domain (mitigations t entries))
      ∙ bare_peer (mitigations_of domain (mitigations t entries))

  pub found_one : (domain t : ℕ) (entries : List Entry) → is_lost_in standing peer domain ≡ true
      → list_any of_peer (mitigations_of domain (mitigations t (map bare entries))) ≡ true → list_any of_lost (mitigations t entries) ≡ true
  found_one domain t entries lost is = some_in domain (mitigations t entries) lost (sym (of_peer_bare domain t entries) ∙ is)

  pub found_none : (domains t : ℕ) (entries : List Entry) → NoneIn domains (mitigations t entries)
      → list_all (λ (m : Mitigation). nat_lt m.put.domain domains) (mitigations t entries) ≡ true → list_any of_lost (mitigations t entries) ≡ false
  found_none domains t entries none inside = none_at_all domains (mitigations t entries) none inside
