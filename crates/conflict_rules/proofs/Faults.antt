-- The faults of a new mitigation, by what the rules for the others say.
use Rattle.std.proofs.Common.{◌≡◌, ℕ, Bool, true, false, cond, List, filter, Option, Some, None, Err, sym, ap, ◌∙◌}
use Rattle.std.specs.Prelude.{nat_le}
use Rattle.std.specs.List.{list_any}
use Rattle.std.proofs.lemmas.Bool.{cond-false}
use Rattle.acl_lists.specs.declared.alias.Alias.{Alias}
use Rattle.dots_settings.specs.Settings.{SettingsValue}
use Rattle.dots_settings.specs.declared.limits.Limits.{Limits}
use Rattle.dots_history.specs.declared.put.Put.{Put}
use Rattle.dots_history.specs.declared.put.Target.{Target}
use Rattle.conflict_rules.specs.declared.live.Live.{Live}
use Rattle.conflict_rules.specs.declared.by_overlap.Judgement.{Judgement}
use Rattle.conflict_rules.specs.declared.by_overlap.Judgement.TheVariants.{Other, Full, Fresh}
use Rattle.conflict_rules.specs.declared.by_overlap.Which.TheVariants as which
use Rattle.conflict_rules.specs.Wanted.{wanted}
use Rattle.conflict_rules.specs.ByOverlap.{highest_mid, is_contested, staying, own_staying, judge_room, judge_others, judge_by, judge_overlap, meeting, meets_another, resolved}
use Rattle.conflict_rules.specs.declared.fault.PutFault.TheVariants as faults
use Rattle.conflict_rules.specs.Requests.{Request}
use Rattle.conflict_rules.specs.Targets.{is_unknown, targets_of}
use Rattle.conflict_rules.specs.Marking.{marked}
use Rattle.conflict_rules.specs.Judging.{fault_of, overlap_fault, judge_targets, judge_new}
use Rattle.conflict_rules.proofs.Marks.{marked_bits}

-- where other clients stand against it, the bits are those of the prefixes that meet them
other_is : (live : List Live) (cuid : List ℕ) (request : Put) (limits : Limits) (n : ℕ) → Other n ≡ judge_overlap live cuid request limits
    → n ≡ meeting live cuid request.targets
other_is live cuid request limits n is = by_highest (highest_mid live cuid request) is
  where
    own : ℕ
    own = own_staying live cuid request

    all : ℕ
    all = staying live cuid request

    by_room : (a b : Bool) → Other n ≡ cond a (Full which.Client own) (cond b (Full which.Domain all) Fresh) → n ≡ meeting live cuid request.targets
    by_room true b is = cc
    by_room false true is = cc
    by_room false false is = cc

    by_contested : (b : Bool) → Other n ≡ cond b (Other (meeting live cuid request.targets)) (judge_room own all limits) → n ≡ meeting live cuid request.targets
    by_contested true is = cc
    by_contested false is = by_room (nat_le limits.client_mitigations own) (nat_le limits.domain_mitigations all) is

    by_highest : (h : Option ℕ) → Other n ≡ judge_by h (judge_others live cuid request limits) → n ≡ meeting live cuid request.targets
    by_highest (Some mid) is = cc
    by_highest None is = by_contested (is_contested live cuid request) is

pub marked_meeting : (live : List Live) (cuid : List ℕ) (request : Put) (limits : Limits) (n : ℕ) → Other n ≡ judge_overlap live cuid request limits
    → marked (resolved request.targets) n ≡ filter (meets_another live cuid) (resolved request.targets)
marked_meeting live cuid request limits n is =
    ap (marked (resolved request.targets)) (other_is live cuid request limits n is)
    ∙ marked_bits (meets_another live cuid) (resolved request.targets)

pub fault_is : (settings : SettingsValue) (live : List Live) (targets : List Target) (inside request : Request) (limits : Limits) (j : Judgement) → inside ≡ request
    → limits ≡ settings.limits → j ≡ judge_overlap live inside.cuid (wanted inside.mid inside.asked targets inside.trigger) limits
    → fault_of live inside.cuid targets j ≡ overlap_fault settings live targets request
fault_is settings live targets inside request limits j same same_limits is =
    ap
    (fault_of live inside.cuid targets)
    (is ∙ ap (judge_overlap live inside.cuid (wanted inside.mid inside.asked targets inside.trigger)) same_limits)
    ∙ ap (overlap_fault settings live targets) same

pub new_is : (settings : SettingsValue) (live : List Live) (aliases : List Alias) (time : ℕ) (inside request : Request) (targets : List Target) → inside ≡ request
    → list_any (is_unknown aliases) inside.asked.aliases ≡ false → targets ≡ targets_of settings aliases inside.asked
    → judge_targets settings live targets time request ≡ judge_new settings live aliases time request
new_is settings live aliases time inside request targets same none made =
    ap
    (λ ts. judge_targets settings live ts time request)
    (made ∙ ap (λ (r : Request). targets_of settings aliases r.asked) same)
    ∙ sym (cond-false
    (list_any (is_unknown aliases) request.asked.aliases)
    (Err faults.UnknownAlias)
    (judge_targets settings live (targets_of settings aliases request.asked) time request)
    (ap (λ (r : Request). list_any (is_unknown aliases) r.asked.aliases) (sym same) ∙ none))
