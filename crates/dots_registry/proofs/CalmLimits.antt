-- What a calm history says of itself at its end: its entries are the settings' own, its times are in order and below 2^48, and its
-- clients keep their limits; which they do wherever the view is the same.
use Rattle.std.proofs.Common.{◌≡◌, ℕ, ◌<◌, ◌≤◌, true, ◌&&◌, List, [], ◌∷◌, ap, subst, le_refl, le_trans, arith}
use Rattle.std.specs.Prelude.{◌^◌}
use Rattle.std.specs.List.{list_all}
use Rattle.dots_settings.specs.declared.limits.Limits.{Limits}
use Rattle.dots_settings.specs.Settings.{SettingsValue}
use Rattle.dots_history.specs.declared.entry.Entry.{Entry}
use Rattle.dots_history.specs.Entries.{same_client}
use Rattle.dots_history.specs.Histories.{Mitigation, View, Within, Kept, tally}
use Rattle.dots_history.specs.Calm.{is_own}
use Rattle.dots_history.specs.Capacities.{is_alias}
use Rattle.dots_history.specs.Fits.{last_or, last_time, is_calm}
use Rattle.dots_history.proofs.CalmCuts.{calm_at_end, calm_history}
use Rattle.dots_registry.specs.Limits.{ClientsKeepLimits}
use Rattle.dots_registry.proofs.FittingEntries as fitting

-- ---- the clients' limits

pub limits_calm : (settings : SettingsValue) (t : ℕ) (entries : List Entry) → is_calm settings entries ≡ true → last_time entries ≤ t
    → ClientsKeepLimits settings.limits t entries
limits_calm settings t entries calm less = fitting.limits_calm settings t entries (calm_at_end settings t entries calm less)

pub limits_whole : (limits : Limits) (n t : ℕ) (few all : List Entry) → Kept n t few all → ClientsKeepLimits limits t few → ClientsKeepLimits limits t all
limits_whole limits n t few all same clients = record {
  live = λ client.
      subst
      (λ ms. tally (λ (m : Mitigation). same_client client m.put) ms ≤ limits.client_mitigations)
      (ap (λ (v : View). v.mitigations) same.same_view)
      (clients.live client);
  aliased = λ client.
      subst
      (λ hs. tally (λ (e : Entry). is_alias e.change && same_client client e) hs ≤ limits.aliases)
      (ap (λ (v : View). v.held) same.same_view)
      (clients.aliased client);
}

-- ---- its entries and times

pub own_calm : (settings : SettingsValue) (entries : List Entry) → is_calm settings entries ≡ true → list_all (is_own settings) entries ≡ true
own_calm settings entries calm = (calm_at_end settings (last_time entries) entries calm (le_refl (last_time entries))).own

pub within_calm : (settings : SettingsValue) (entries : List Entry) → is_calm settings entries ≡ true → Within 0 entries (last_time entries)
within_calm settings entries calm = (calm_at_end settings (last_time entries) entries calm (le_refl (last_time entries))).times

last_within : (low high : ℕ) (entries : List Entry) → Within low entries high → last_or low entries ≤ high
last_within low high [] is = is
last_within low high (e ∷ later) is = last_within e.time high later is.1

pub early_calm : (settings : SettingsValue) (entries : List Entry) → is_calm settings entries ≡ true → last_time entries < 2 ^ 48
early_calm settings entries calm =
    let history = calm_history settings entries calm in
    let last = last_within 0 history.0 entries history.2 in
    let early = history.1 in
    omega (arith, last, early)

within_low : (low t u : ℕ) (entries : List Entry) → Within low entries t → t ≤ u → Within low entries u
within_low low t u [] within less = le_trans within less
within_low low t u (e ∷ later) within less = (within.0, within_low e.time t u later within.1 less)

pub within_then : (t u : ℕ) (entries : List Entry) → Within 0 entries t → t ≤ u → Within 0 entries u
within_then t u entries within less = within_low 0 t u entries within less
