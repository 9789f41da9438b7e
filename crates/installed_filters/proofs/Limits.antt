-- The limits are kept as time moves and entries come.
use Rattle.std.proofs.Common.{◌≡◌, ℕ, ◌≤◌, Bool, true, ◌&&◌, ◌||◌, List, [], ◌∷◌, ◌++◌, length, inl, inr, refl, sym, ap, ◌∙◌, subst, le_trans, arith}
use Rattle.std.specs.Prelude.{◌==◌, nat_le, ◌^◌, nat_lt}
use Rattle.std.specs.List.{list_all}
use Rattle.std.proofs.lemmas.Bool.{cond_both, cases_Bool, and_parts, and_from, eqb-true}
use Rattle.dots_settings.specs.declared.limits.Limits.{Limits}
use Rattle.dots_settings.specs.Settings.{SettingsValue}
use Rattle.dots_history.specs.declared.entry.Entry.{Entry}
use Rattle.dots_history.specs.declared.put.Put.{Put}
use Rattle.dots_history.specs.declared.change.Change.{Change}
use Rattle.dots_history.specs.declared.change.Change.TheVariants as change
use Rattle.dots_history.specs.declared.status.Status.TheVariants.{Open}
use Rattle.dots_history.specs.Bounds.{prefix_count, change_within, put_within, asked_within, target_within, within_bounds}
use Rattle.dots_lists.specs.Name.{is_name}
use Rattle.dots_history.specs.Entries.{same_client}
use Rattle.dots_history.specs.Histories.{Mitigation, tally, live, step, mitigations, held}
use Rattle.dots_history.specs.Keeping.{moved}
use Rattle.dots_history.specs.Rows.{targets_of}
use Rattle.dots_history.specs.Capacities.{is_registration, is_list}
use Rattle.dots_history.specs.Fits.{fits}
use Rattle.dots_history.specs.Views.{mitigations_with}
use Rattle.dots_history.proofs.Adding.{adding}
use Rattle.dots_history.proofs.Ageing.{mitigations_age}
use Rattle.dots_history.proofs.GoingOn.{held_push}
use Rattle.dots_history.proofs.Joining.{fits_so, tally_with, tally_held, tally_same, same_by}
use Rattle.dots_history.proofs.Keyed.{fewer_left}
use Rattle.installed_filters.specs.HistoryRows.{KeepsLimits, has_few_prefixes}
use Rattle.installed_filters.proofs.Sieving.{all_filter}
use Rattle.acl_lists.specs.declared.limits.TheConstants.{MAX_RESOLVED, MAX_TARGETS}

pub limits_first : (limits : Limits) (t : ℕ) → KeepsLimits limits t []
limits_first limits t = record {
  live = λ domain. omega arith;
  prefixes = refl;
  registered = λ domain. omega arith;
  listed = λ client. omega arith;
}

pub limits_later : (limits : Limits) (t u : ℕ) (entries : List Entry) → t ≤ u → KeepsLimits limits t entries → KeepsLimits limits u entries
limits_later limits t u entries less keeps =
    let age = mitigations_age t u entries less in
    record {
      live = λ domain.
          subst
          (λ ms. tally (λ (m : Mitigation). m.put.domain == domain) ms ≤ limits.domain_mitigations)
          (sym age)
          (le_trans
          (fewer_left (λ (m : Mitigation). live u m.put m.status) (λ (m : Mitigation). m.put.domain == domain) (mitigations t entries))
          (keeps.live domain));
      prefixes = ap (list_all has_few_prefixes) age
          ∙ all_filter has_few_prefixes (λ (m : Mitigation). live u m.put m.status) (mitigations t entries) keeps.prefixes;
      registered = keeps.registered;
      listed = keeps.listed;
    }

pub limits_same : (limits : Limits) (t : ℕ) (xs ys : List Entry) → mitigations t xs ≡ mitigations t ys → held xs ≡ held ys → KeepsLimits limits t ys
    → KeepsLimits limits t xs
limits_same limits t xs ys lives standing keeps = record {
  live = λ domain. subst (λ ms. tally (λ (m : Mitigation). m.put.domain == domain) ms ≤ limits.domain_mitigations) (sym lives) (keeps.live domain);
  prefixes = ap (list_all has_few_prefixes) lives ∙ keeps.prefixes;
  registered = λ domain. subst (λ es. tally (λ (e : Entry). is_registration e.change && (e.domain == domain)) es ≤ limits.clients) (sym standing) (keeps.registered domain);
  listed = λ client. subst (λ es. tally (λ (e : Entry). is_list e.change && same_client client e) es ≤ limits.acls) (sym standing) (keeps.listed client);
}

-- an entry within bounds has few prefixes
few_of_put : (put : Put) → put_within put ≡ true → nat_le (prefix_count put.targets) MAX_RESOLVED ≡ true
few_of_put put is =
    (and_parts
    ((asked_within put.asked && nat_le (length put.targets) MAX_TARGETS) && list_all target_within put.targets)
    (nat_le (prefix_count put.targets) MAX_RESOLVED)
    is).1

few_of : (c : Change) → change_within c ≡ true → nat_le (prefix_count (targets_of c)) MAX_RESOLVED ≡ true
few_of (change.Put put) is = few_of_put put is
few_of _ is = refl

few_within : (e : Entry) → within_bounds e ≡ true → nat_le (prefix_count (targets_of e.change)) MAX_RESOLVED ≡ true
few_within e is =
    few_of
    e.change
    (and_parts
    ((nat_lt e.time (2 ^ 48) && ((length e.cuid == 0) || is_name e.cuid)) && nat_le (length e.reply) 64)
    (change_within e.change)
    is).1

prefixes_with : (e : Entry) (ms : List Mitigation) → nat_le (prefix_count (targets_of e.change)) MAX_RESOLVED ≡ true → list_all has_few_prefixes ms ≡ true
    → list_all has_few_prefixes (mitigations_with e ms) ≡ true
prefixes_with e [] few all =
    cond_both
    (live e.time e Open)
    (record { put = e; status = Open } ∷ [])
    []
    (λ ms. list_all has_few_prefixes ms ≡ true)
    (λ is. and_from (nat_le (prefix_count (targets_of e.change)) MAX_RESOLVED) true few refl)
    (λ out. refl)
prefixes_with e (m ∷ ms) few all =
    let parts = and_parts (has_few_prefixes m) (list_all has_few_prefixes ms) all in
    cond_both
    (live e.time m.put (step m.put m.status e))
    (moved e m ∷ mitigations_with e ms)
    (mitigations_with e ms)
    (λ xs. list_all has_few_prefixes xs ≡ true)
    (λ is. and_from (has_few_prefixes m) (list_all has_few_prefixes (mitigations_with e ms)) parts.0 (prefixes_with e ms few parts.1))
    (λ out. prefixes_with e ms few parts.1)

module _ (settings : SettingsValue) (t : ℕ) (before : List Entry) (e : Entry) (less : t ≤ e.time) where
  live_room : (q : Entry → Bool) (most : ℕ) → tally (λ (m : Mitigation). q m.put) (mitigations t before) ≤ most
      → (q e ≡ true → tally (λ (m : Mitigation). q m.put) (mitigations e.time (before ++ e ∷ [])) ≤ most)
      → tally (λ (m : Mitigation). q m.put) (mitigations e.time (before ++ e ∷ [])) ≤ most
  live_room q most few own =
      elim (cases_Bool (q e)) [
        | inl is ↦ own is
        | inr out ↦
            le_trans
            (subst
            (λ ms. tally (λ (m : Mitigation). q m.put) ms ≤ tally (λ (m : Mitigation). q m.put) (mitigations t before))
            (sym (adding t e before less))
            (tally_with q e (mitigations t before) out))
            few
      ]

  held_room : (q : Entry → Bool) (most : ℕ) → tally q (held before) ≤ most → (q e ≡ true → tally q (held (before ++ e ∷ [])) ≤ most)
      → tally q (held (before ++ e ∷ [])) ≤ most
  held_room q most few own =
      elim (cases_Bool (q e)) [
        | inl is ↦ own is
        | inr out ↦
            le_trans
            (subst (λ hs. tally q hs ≤ tally q (held before)) (sym (held_push e before)) (tally_held q e (held before) out))
            few
      ]

pub limits_with : (settings : SettingsValue) (t : ℕ) (before : List Entry) (e : Entry) → t ≤ e.time → fits settings before e ≡ true → within_bounds e ≡ true
    → KeepsLimits settings.limits t before → KeepsLimits settings.limits e.time (before ++ e ∷ [])
limits_with settings t before e less is bounds keeps =
    let so = fits_so settings before e is in
    record {
      live = λ domain.
          live_room
          settings
          t
          before
          e
          less
          (λ (x : Entry). x.domain == domain)
          settings.limits.domain_mitigations
          (keeps.live domain)
          (λ own.
          subst
          (λ d. tally (λ (m : Mitigation). m.put.domain == d) (mitigations e.time (before ++ e ∷ [])) ≤ settings.limits.domain_mitigations)
          (eqb-true e.domain domain own)
          so.of_domain);
      prefixes = ap (list_all has_few_prefixes) (adding t e before less) ∙ prefixes_with e (mitigations t before) (few_within e bounds) keeps.prefixes;
      registered = λ domain.
          held_room
          settings
          t
          before
          e
          less
          (λ (x : Entry). is_registration x.change && (x.domain == domain))
          settings.limits.clients
          (keeps.registered domain)
          (λ own.
          subst
          (λ d. tally (λ (x : Entry). is_registration x.change && (x.domain == d)) (held (before ++ e ∷ [])) ≤ settings.limits.clients)
          (eqb-true e.domain domain (and_parts (is_registration e.change) (e.domain == domain) own).1)
          so.registered);
      listed = λ client.
          held_room
          settings
          t
          before
          e
          less
          (λ (x : Entry). is_list x.change && same_client client x)
          settings.limits.acls
          (keeps.listed client)
          (λ own.
          let same = (and_parts (is_list e.change) (same_client client e) own).1 in
          subst
          (λ k. k ≤ settings.limits.acls)
          (sym (tally_same
          (λ (x : Entry). is_list x.change && same_client client x)
          (λ (x : Entry). is_list x.change && same_client e x)
          (λ x. ap (λ b. is_list x.change && b) (same_by client e x same))
          (held (before ++ e ∷ []))))
          so.listed);
    }
