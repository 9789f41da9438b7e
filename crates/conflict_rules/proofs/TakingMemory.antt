-- The rules that take memory come behind those that take none.
use Rattle.std.proofs.Common.{◌≡◌, ℕ, ◌≤◌, true, false, List, Err, refl, ap, ◌∙◌}
use Rattle.std.specs.Prelude.{nat_le}
use Rattle.std.specs.List.{list_any}
use Rattle.std.proofs.lemmas.Bool.{cond-true, cond-false, le-leb}
use Rattle.acl_lists.specs.declared.limits.TheConstants.{MAX_RESOLVED}
use Rattle.acl_lists.specs.declared.alias.Alias.{Alias}
use Rattle.dots_settings.specs.Settings.{SettingsValue}
use Rattle.dots_history.specs.declared.put.Target.{Target}
use Rattle.dots_history.specs.Bounds.{prefix_count}
use Rattle.conflict_rules.specs.declared.live.Live.{Live}
use Rattle.conflict_rules.specs.declared.by_overlap.Judgement.{Judgement}
use Rattle.conflict_rules.specs.declared.by_overlap.Judgement.TheVariants as judgement
use Rattle.conflict_rules.specs.Wanted.{wanted}
use Rattle.conflict_rules.specs.ByOverlap.{judge_overlap}
use Rattle.conflict_rules.specs.declared.fault.PutFault.TheVariants as faults
use Rattle.conflict_rules.specs.declared.judging.Judged.{Judged}
use Rattle.conflict_rules.specs.Requests.{Request}
use Rattle.conflict_rules.specs.Targets.{is_unknown, targets_of}
use Rattle.conflict_rules.specs.Judging.{begun, fault_of, overlap_fault, unless, judge_targets, judge_new}
use Rattle.conflict_rules.specs.Results.{takes_memory}

overlaps_take : (live : List Live) (cuid : List ℕ) (targets : List Target) (j : Judgement) (judged : Judged)
    → takes_memory (unless (fault_of live cuid targets j) judged) ≡ true
overlaps_take live cuid targets (judgement.Higher mid) judged = refl
overlaps_take live cuid targets (judgement.Other bits) judged = refl
overlaps_take live cuid targets (judgement.Full which number) judged = refl
overlaps_take live cuid targets judgement.Fresh judged = refl

pub targets_take : (settings : SettingsValue) (live : List Live) (targets : List Target) (time : ℕ) (request : Request)
    → prefix_count targets ≤ MAX_RESOLVED → takes_memory (judge_targets settings live targets time request) ≡ true
targets_take settings live targets time request few =
    let made = begun settings targets time request in
    ap takes_memory
    (cond-true
    (nat_le (prefix_count targets) MAX_RESOLVED)
    (unless (overlap_fault settings live targets request) made)
    (Err faults.TooMany)
    (le-leb (prefix_count targets) MAX_RESOLVED few))
    ∙ overlaps_take
    live
    request.cuid
    targets
    (judge_overlap live request.cuid (wanted request.mid request.asked targets request.trigger) settings.limits)
    made

pub new_takes : (settings : SettingsValue) (live : List Live) (aliases : List Alias) (time : ℕ) (request : Request)
    → list_any (is_unknown aliases) request.asked.aliases ≡ false → prefix_count (targets_of settings aliases request.asked) ≤ MAX_RESOLVED
    → takes_memory (judge_new settings live aliases time request) ≡ true
new_takes settings live aliases time request known few =
    let targets = targets_of settings aliases request.asked in
    ap takes_memory
    (cond-false
    (list_any (is_unknown aliases) request.asked.aliases)
    (Err faults.UnknownAlias)
    (judge_targets settings live targets time request)
    known)
    ∙ targets_take settings live targets time request few
