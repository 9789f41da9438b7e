-- The rules for a new mitigation that overlaps with live ones, or for which there is no room, in their order (RFC 9132,
-- section 4.4.1).
use Rattle.std.specs.Prelude.{ℕ, ◌+◌, ◌*◌, Bool, true, false, ◌&&◌, not, if◌then◌else◌, nat_lt, nat_le, List, [], ◌∷◌, map, filter, Option, Some, None}
use Rattle.std.specs.List.{list_any, count_by, flat_map}
use Rattle.ip_scope.specs.Prefix.{PrefixValue, meets}
use Rattle.acl_lists.specs.Fates.{greatest}
use Rattle.dots_settings.specs.declared.limits.Limits.{Limits}
use Rattle.dots_history.specs.declared.put.Put.{Put}
use Rattle.dots_history.specs.declared.put.Target.{Target}
use Rattle.dots_history.specs.Entries.{some_prefix, overlaps, same_flag}
use Rattle.conflict_rules.specs.declared.live.Live.{Live}
use Rattle.conflict_rules.specs.declared.by_overlap.Judgement.{Judgement}
use Rattle.conflict_rules.specs.declared.by_overlap.Judgement.TheVariants.{Higher, Other, Full, Fresh}
use Rattle.conflict_rules.specs.declared.by_overlap.Which.TheVariants as which
use Rattle.conflict_rules.specs.Live.{is_of, stands_for, stands_against, would_end}

-- The request and a mitigation of its client have the same trigger value and overlap, so that they can't both stay. One
-- that filters at once and one that waits for a lost signal can (RFC 9132, section 4.4.1).
abbrev pub rivals : Put → Put → Bool
rivals earlier request = same_flag earlier.trigger request.trigger && overlaps true earlier request

-- A standing mitigation of the client is such a one and has a higher mid: of the two the higher mid is to stay, so the
-- request is refused.
abbrev pub is_higher : List ℕ → Put → Live → Bool
is_higher cuid request m =
    stands_for cuid m && (nat_lt request.mid m.put.mid && rivals m.put request)

-- the highest mid of these, where there is one
abbrev pub highest_mid : List Live → List ℕ → Put → Option ℕ
highest_mid live cuid request = greatest (map (λ (m : Live). m.put.mid) (filter (is_higher cuid request) live))

-- A standing mitigation of another client of the domain overlaps with the request, whatever the trigger values (RFC
-- 9132, section 4.4.1.3: conflict-cause 1, overlapping targets).
abbrev pub is_contested : List Live → List ℕ → Put → Bool
is_contested live cuid request = list_any (λ m. stands_against cuid m && overlaps false m.put request) live

-- the prefixes of the targets, in order: the resolved prefixes of the request
abbrev pub resolved : List Target → List PrefixValue
resolved targets = flat_map (λ (target : Target). target.prefixes) targets

-- the prefix meets one of a standing mitigation of another client
abbrev pub meets_another : List Live → List ℕ → PrefixValue → Bool
meets_another live cuid prefix = list_any (λ m. stands_against cuid m && some_prefix (meets prefix) m.put.targets) live

-- the number whose bits these are, the lowest first: bit i is set exactly where the i-th of them is true
abbrev pub bits : List Bool → ℕ
bits [] = 0
bits (b ∷ bs) = (if b then 1 else 0) + 2 * bits bs

-- bit i is set exactly where the resolved prefix i meets a standing mitigation of another client
abbrev pub meeting : List Live → List ℕ → List Target → ℕ
meeting live cuid targets = bits (map (meets_another live cuid) (resolved targets))

-- how many live mitigations of the domain would stay, beside the request
abbrev pub staying : List Live → List ℕ → Put → ℕ
staying live cuid request = count_by (λ m. not (would_end cuid request m)) live

-- how many of these are the client's own
abbrev pub own_staying : List Live → List ℕ → Put → ℕ
own_staying live cuid request = count_by (λ m. is_of cuid m && not (would_end cuid request m)) live

-- There is no room: of the live mitigations of the client, or of the domain, as many as may be would stay, standing or
-- terminating.
abbrev pub judge_room : ℕ → ℕ → Limits → Judgement
judge_room own all limits =
    if nat_le limits.client_mitigations own
    then Full which.Client own
    else (if nat_le limits.domain_mitigations all then Full which.Domain all else Fresh)

-- the rules after the first
abbrev pub judge_others : List Live → List ℕ → Put → Limits → Judgement
judge_others live cuid request limits =
    if is_contested live cuid request
    then Other (meeting live cuid request.targets)
    else judge_room (own_staying live cuid request) (staying live cuid request) limits

abbrev pub judge_by : Option ℕ → Judgement → Judgement
judge_by (Some mid) others = Higher mid
judge_by None others = others

-- the first rule that applies
abbrev pub judge_overlap : List Live → List ℕ → Put → Limits → Judgement
judge_overlap live cuid request limits =
    judge_by (highest_mid live cuid request) (judge_others live cuid request limits)
