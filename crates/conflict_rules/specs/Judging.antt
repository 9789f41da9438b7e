-- The rules for a mitigation request, in their order (RFC 9132, section 4.4.1).
use Rattle.std.specs.Prelude.{ℕ, pos, true, false, ◌||◌, if◌then◌else◌, nat_le, List, filter, Option, Some, None, Result, Ok, Err}
use Rattle.std.specs.List.{list_any, find}
use Rattle.acl_lists.specs.declared.limits.TheConstants.{MAX_RESOLVED}
use Rattle.acl_lists.specs.declared.alias.Alias.{Alias}
use Rattle.dots_settings.specs.Settings.{SettingsValue}
use Rattle.dots_history.specs.declared.put.Put.{Put}
use Rattle.dots_history.specs.declared.put.Target.{Target}
use Rattle.dots_history.specs.Bounds.{prefix_count}
use Rattle.lifetime_clock.specs.Lifetime.{granted}
use Rattle.conflict_rules.specs.declared.live.Live.{Live}
use Rattle.conflict_rules.specs.declared.by_overlap.Judgement.{Judgement}
use Rattle.conflict_rules.specs.declared.by_overlap.Judgement.TheVariants as judgement
use Rattle.conflict_rules.specs.Asking.{would_refresh}
use Rattle.conflict_rules.specs.Wanted.{wanted}
use Rattle.conflict_rules.specs.ByMid.{collides, has_mid}
use Rattle.conflict_rules.specs.ByOverlap.{meets_another, resolved, judge_overlap}
use Rattle.conflict_rules.specs.declared.fault.PutFault.{PutFault}
use Rattle.conflict_rules.specs.declared.fault.PutFault.TheVariants as faults
use Rattle.conflict_rules.specs.declared.judging.Judged.{Judged}
use Rattle.conflict_rules.specs.Requests.{Request, ClientValue, is_of_another}
use Rattle.conflict_rules.specs.Targets.{is_unknown, targets_of}

-- what is granted of a request, to these targets from this start: the lifetime goes by the ceiling of the settings
abbrev pub granted_put : SettingsValue → Request → List Target → ℕ → Put
granted_put settings request targets start = record {
  mid = request.mid;
  asked = request.asked;
  targets = targets;
  granted = granted request.lifetime (pos settings.ceiling) settings.indefinite;
  start = start;
  trigger = request.trigger;
}

-- What refreshes a mitigation: its targets and its start stay, and the rest is the request's.
abbrev pub refreshed : SettingsValue → Put → Request → Judged
refreshed settings put request =
    record { put = granted_put settings request put.targets put.start; refreshed = true }

-- a mitigation that begins at this time
abbrev pub begun : SettingsValue → List Target → ℕ → Request → Judged
begun settings targets time request =
    record { put = granted_put settings request targets time; refreshed = false }

-- The rules of `conflict_rules` for a new mitigation, as faults. Where other clients' mitigations stand against it, its
-- resolved prefixes that meet one of them are told, in order.
abbrev pub fault_of : List Live → List ℕ → List Target → Judgement → Option PutFault
fault_of live cuid targets (judgement.Higher mid) = Some (faults.Higher mid)
fault_of live cuid targets (judgement.Other bits) = Some (faults.Other (filter (meets_another live cuid) (resolved targets)))
fault_of live cuid targets (judgement.Full which number) = Some (faults.Capacity which number)
fault_of live cuid targets judgement.Fresh = None

abbrev pub overlap_fault : SettingsValue → List Live → List Target → Request → Option PutFault
overlap_fault settings live targets request =
    fault_of live request.cuid targets
    (judge_overlap live request.cuid (wanted request.mid request.asked targets request.trigger) settings.limits)

abbrev pub unless : Option PutFault → Judged → Result Judged PutFault
unless None judged = Ok judged
unless (Some fault) judged = Err fault

-- a new mitigation of these targets
abbrev pub judge_targets : SettingsValue → List Live → List Target → ℕ → Request → Result Judged PutFault
judge_targets settings live targets time request =
    if nat_le (prefix_count targets) MAX_RESOLVED
    then unless (overlap_fault settings live targets request) (begun settings targets time request)
    else Err faults.TooMany

-- a new mitigation
abbrev pub judge_new : SettingsValue → List Live → List Alias → ℕ → Request → Result Judged PutFault
judge_new settings live aliases time request =
    if list_any (is_unknown aliases) request.asked.aliases
    then Err faults.UnknownAlias
    else judge_targets settings live (targets_of settings aliases request.asked) time request

-- where a mitigation of the client with this mid stands
abbrev pub judge_standing : SettingsValue → Put → Request → Result Judged PutFault
judge_standing settings put request =
    if would_refresh request.asked request.trigger put then Ok (refreshed settings put request) else Err faults.Changed

abbrev pub judge_known : SettingsValue → List Live → List Alias → ℕ → Request → Option Live → Result Judged PutFault
judge_known settings live aliases time request (Some m) = judge_standing settings m.put request
judge_known settings live aliases time request None = judge_new settings live aliases time request

-- The first rule that applies: the client's name is in use by another peer, which has a live mitigation of it or registered
-- it; a mitigation of the mid stands, so that the request refreshes it or would change it; an alias isn't held; there are
-- too many prefixes; a higher mid overlaps; another client's mitigation overlaps; there is no room. Else it is granted.
abbrev pub judge_put : SettingsValue → List Live → ClientValue → ℕ → Request → Result Judged PutFault
judge_put settings live client time request =
    if collides live request.peer request.cuid || is_of_another request.peer client
    then Err faults.Collision
    else judge_known settings live client.aliases time request (find (has_mid request.cuid request.mid) live)
