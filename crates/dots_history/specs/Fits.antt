-- Which entries fit a history, and when a history is calm, entry by entry, by the settings of a server.
use Rattle.std.specs.Prelude.{ℕ, ◌^◌, Bool, true, false, not, ◌&&◌, ◌||◌, ◌==◌, nat_le, nat_lt, List, [], ◌∷◌, ◌++◌}
use Rattle.std.specs.List.{list_all, list_any}
use Rattle.dots_settings.specs.declared.limits.Limits.{Limits}
use Rattle.dots_settings.specs.Settings.{SettingsValue}
use Rattle.dots_history.specs.declared.entry.Entry.{Entry}
use Rattle.dots_history.specs.declared.change.Change.{Change}
use Rattle.dots_history.specs.declared.change.Change.TheVariants as change
use Rattle.dots_history.specs.Entries.{same_client}
use Rattle.dots_history.specs.Histories.{Mitigation, tally, mitigations, held}
use Rattle.dots_history.specs.Calm.{is_of_settings, came_rightly}
use Rattle.dots_history.specs.Capacities.{is_registration, is_alias, is_list, has_client}

-- the time of the last entry, or this one where there is none
abbrev pub last_or : ℕ → List Entry → ℕ
last_or t [] = t
last_or t (e ∷ later) = last_or e.time later

abbrev pub last_time : List Entry → ℕ
last_time entries = last_or 0 entries

-- a registration of the entry's client is held
abbrev pub is_registered : List Entry → Entry → Bool
is_registered standing e = list_any (λ r. is_registration r.change && same_client r e) standing

-- only a client that isn't registered registers (RFC 8783, section 5.1), and only one that is writes aliases and access
-- lists
abbrev pub registers_rightly : List Entry → Entry → Bool
registers_rightly standing e = (not (is_registration e.change) || not (is_registered standing e)) && has_client standing e

-- In these live mitigations and what is held the entry's domain and client keep the capacities.
abbrev pub keeps_room : Limits → Entry → List Mitigation → List Entry → Bool
keeps_room limits e ms standing =
    (nat_le (tally (λ (m : Mitigation). m.put.domain == e.domain) ms) limits.domain_mitigations
    && nat_le (tally (λ (m : Mitigation). same_client e m.put) ms) limits.client_mitigations)
    && (nat_le (tally (λ (x : Entry). is_registration x.change && (x.domain == e.domain)) standing) limits.clients
    && (nat_le (tally (λ (x : Entry). is_alias x.change && same_client e x) standing) limits.aliases
    && nat_le (tally (λ (x : Entry). is_list x.change && same_client e x) standing) limits.acls))

-- An entry fits those before it: its time isn't before theirs and is below 2^48; it is of a peer that may act for its
-- domain, inside which lies what it names; its client is registered where it must be; and after it, at its time, the
-- capacities are kept.
abbrev pub fits : SettingsValue → List Entry → Entry → Bool
fits settings before e =
    ((nat_le (last_time before) e.time && nat_lt e.time (2 ^ 48)) && is_of_settings settings e)
    && (registers_rightly (held before) e
    && keeps_room settings.limits e (mitigations e.time (before ++ e ∷ [])) (held (before ++ e ∷ [])))

-- a mitigation is put or withdrawn
unfoldable pub is_of_mitigations : Change → Bool
is_of_mitigations (change.Put put) = true
is_of_mitigations (change.Withdraw mid) = true
is_of_mitigations _ = false

-- what puts or withdraws a mitigation has the peer of each live one of its client
abbrev pub has_one_peer : Entry → List Mitigation → Bool
has_one_peer e ms = not (is_of_mitigations e.change) || list_all (λ (m : Mitigation). not (same_client m.put e) || (e.peer == m.put.peer)) ms

-- an entry keeps a history calm
abbrev pub joins : SettingsValue → List Entry → Entry → Bool
joins settings before e = fits settings before e && (came_rightly e && has_one_peer e (mitigations e.time before))

-- each of these entries does so after those before it
abbrev pub calm_after : SettingsValue → List Entry → List Entry → Bool
calm_after settings before [] = true
calm_after settings before (e ∷ later) = joins settings before e && calm_after settings (before ++ e ∷ []) later

abbrev pub is_calm : SettingsValue → List Entry → Bool
is_calm settings entries = calm_after settings [] entries
