-- What observers see of the live mitigations of a client.
use Rattle.std.specs.Prelude.{ℕ, Bool, true, ◌==◌, nat_lt, if◌then◌else◌, List, [], map, filter, take, Option, Some, None}
use Rattle.dots_history.specs.Histories.{Mitigation}
use Rattle.live_mitigations.specs.LiveValues.{rows_for}
use Rattle.conflict_rules.specs.LiveViews.{LiveView, live_views_of}
use Rattle.held_resources.specs.Tables.{lost_in}
use Rattle.dots_registry.specs.RegistryValues.{RegistryValue, time_of, domains_of}
use Rattle.conflict_rules.specs.Statuses.{view_with}

-- the mid and the status
abbrev pub seen : LiveView → ℕ × ℕ
seen view = (view.put.mid, view.status)

-- any is wanted, or that of the one mid
abbrev pub is_wanted : Option ℕ → LiveView → Bool
is_wanted None view = true
is_wanted (Some mid) view = view.put.mid == mid

-- Of what is shown, all or that of the one mid, in order. There are at most 64, since no domain may have more live
-- mitigations.
abbrev pub seen_of : Option ℕ → List LiveView → List (ℕ × ℕ)
seen_of mid views = take 64 (map seen (filter (is_wanted mid) views))

-- what is shown of these mitigations of a domain
abbrev pub views_among : (ℕ → ℕ → Bool) → ℕ → ℕ → List ℕ → List Mitigation → List LiveView
views_among lost domain t cuid ms = map (view_with lost domain) (live_views_of t cuid ms)

-- what is seen of them
abbrev pub seen_among : (ℕ → ℕ → Bool) → ℕ → ℕ → List ℕ → Option ℕ → List Mitigation → List (ℕ × ℕ)
seen_among lost domain t cuid mid ms = map seen (filter (is_wanted mid) (views_among lost domain t cuid ms))

-- what a registry has to see, by domain, cuid and mid: of a domain that there isn't nothing
abbrev pub views_of : RegistryValue → ℕ → List ℕ → Option ℕ → List (ℕ × ℕ)
views_of registry domain cuid mid =
    if nat_lt domain (domains_of registry)
    then seen_of mid (views_among (lost_in registry.held) domain (time_of registry) cuid (rows_for registry.live domain))
    else []
