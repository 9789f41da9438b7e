-- What a judgement that grants a mitigation has seen.
use Rattle.std.proofs.Common.{◌≡◌, ℕ, Bool, true, false, cond, ◌||◌, List, Option, Some, None, Result, Ok, Err, inl, inr, refl, sym, ap, ◌∙◌}
use Rattle.std.specs.Prelude.{nat_le}
use Rattle.std.specs.List.{list_any, find}
use Rattle.std.specs.Result.{result_ok}
use Rattle.std.proofs.lemmas.Bool.{false≢true, cond-true, cond-false, cases_Bool}
use Rattle.std.proofs.lemmas.Option.{none-some, same_Some}
use Rattle.dots_settings.specs.declared.limits.Limits.{Limits}
use Rattle.dots_settings.specs.Settings.{SettingsValue}
use Rattle.dots_history.specs.declared.put.Put.{Put}
use Rattle.dots_history.specs.declared.put.Target.{Target}
use Rattle.dots_history.specs.Bounds.{prefix_count}
use Rattle.conflict_rules.specs.declared.live.Live.{Live}
use Rattle.conflict_rules.specs.declared.by_overlap.Judgement.{Judgement}
use Rattle.conflict_rules.specs.declared.by_overlap.Judgement.TheVariants as judgement
use Rattle.conflict_rules.specs.declared.by_overlap.Which.TheVariants as which
use Rattle.conflict_rules.specs.Asking.{would_refresh}
use Rattle.conflict_rules.specs.Wanted.{wanted}
use Rattle.conflict_rules.specs.ByMid.{collides, has_mid}
use Rattle.conflict_rules.specs.ByOverlap.{highest_mid, is_contested, meeting, staying, own_staying, judge_room, judge_others, judge_by, judge_overlap}
use Rattle.conflict_rules.specs.declared.fault.PutFault.{PutFault}
use Rattle.conflict_rules.specs.declared.fault.PutFault.TheVariants as faults
use Rattle.conflict_rules.specs.declared.judging.Judged.{Judged}
use Rattle.conflict_rules.specs.Requests.{Request, ClientValue, is_of_another}
use Rattle.conflict_rules.specs.Targets.{is_unknown, targets_of}
use Rattle.conflict_rules.specs.Judging.{refreshed, begun, fault_of, overlap_fault, unless, judge_targets, judge_new, judge_standing, judge_known, judge_put}
use Rattle.acl_lists.specs.declared.limits.TheConstants.{MAX_RESOLVED}

-- ---- a new mitigation for which there is room
pub record HasPlace (live : List Live) (cuid : List ℕ) (put : Put) (limits : Limits) : Type 0 where
  pub own : nat_le limits.client_mitigations (own_staying live cuid put) ≡ false
  pub all : nat_le limits.domain_mitigations (staying live cuid put) ≡ false

is_fresh : Judgement → Bool
is_fresh judgement.Fresh = true
is_fresh _ = false

fresh_fault : (live : List Live) (cuid : List ℕ) (targets : List Target) (j : Judgement) → fault_of live cuid targets j ≡ None → is_fresh j ≡ true
unfolding is_fresh
fresh_fault live cuid targets judgement.Fresh is = refl
fresh_fault live cuid targets (judgement.Higher mid) is = absurd (none-some (faults.Higher mid) (sym is))
fresh_fault live cuid targets (judgement.Other bits) is = absurd (none-some _ (sym is))
fresh_fault live cuid targets (judgement.Full kind number) is = absurd (none-some (faults.Capacity kind number) (sym is))

fresh_of : (o : Option ℕ) (j : Judgement) → is_fresh (judge_by o j) ≡ true → is_fresh j ≡ true
unfolding is_fresh
fresh_of None j is = is
fresh_of (Some mid) j is = absurd (false≢true is)

fresh_room : (own all : ℕ) (limits : Limits) → is_fresh (judge_room own all limits) ≡ true
    → (nat_le limits.client_mitigations own ≡ false) × (nat_le limits.domain_mitigations all ≡ false)
unfolding is_fresh
fresh_room own all limits is = by_own (nat_le limits.client_mitigations own) (nat_le limits.domain_mitigations all) is
  where
    by_own : (a b : Bool) → is_fresh (cond a (judgement.Full which.Client own) (cond b (judgement.Full which.Domain all) judgement.Fresh)) ≡ true
        → (a ≡ false) × (b ≡ false)
    by_own true b is = absurd (false≢true is)
    by_own false true is = absurd (false≢true is)
    by_own false false is = (refl, refl)

fresh_others : (contested : Bool) (bits : ℕ) (j : Judgement) → is_fresh (cond contested (judgement.Other bits) j) ≡ true → is_fresh j ≡ true
unfolding is_fresh
fresh_others true bits j is = absurd (false≢true is)
fresh_others false bits j is = is

place_of : (live : List Live) (cuid : List ℕ) (put : Put) (limits : Limits) → is_fresh (judge_overlap live cuid put limits) ≡ true
    → HasPlace live cuid put limits
place_of live cuid put limits is =
    let others = fresh_of (highest_mid live cuid put) (judge_others live cuid put limits) is in
    let room = fresh_others
    (is_contested live cuid put)
    (meeting live cuid put.targets)
    (judge_room (own_staying live cuid put) (staying live cuid put) limits)
    others in
    let both = fresh_room (own_staying live cuid put) (staying live cuid put) limits room in
    record { own = both.0; all = both.1 }

-- ---- what is granted refreshes one that stands, or begins
pub data IsGranted (settings : SettingsValue) (live : List Live) (client : ClientValue) (time : ℕ) (request : Request) (judged : Judged) : Type 0 where
  refreshes : (m : Live) → find (has_mid request.cuid request.mid) live ≡ Some m → judged ≡ refreshed settings m.put request
      → IsGranted settings live client time request judged
  begins :
      nat_le (prefix_count (targets_of settings client.aliases request.asked)) MAX_RESOLVED ≡ true
      → HasPlace live request.cuid (wanted request.mid request.asked (targets_of settings client.aliases request.asked) request.trigger) settings.limits
      → judged ≡ begun settings (targets_of settings client.aliases request.asked) time request
      → IsGranted settings live client time request judged

no_err : {A E : Type 0} (e : E) (x : A) → Err e ≡ Ok x → ⊥
no_err e x is = none-some x (ap result_ok is)

same_ok : {A E : Type 0} (x y : A) (rest : Result A E) → rest ≡ Ok x → rest ≡ Ok y → x ≡ y
same_ok x y rest one other = same_Some x y (ap result_ok (sym one ∙ other))

granted_if : (fault : Option PutFault) (begun judged : Judged) → unless fault begun ≡ Ok judged → (fault ≡ None) × (judged ≡ begun)
granted_if None begun judged is = (refl, same_Some judged begun (ap result_ok (sym is)))
granted_if (Some fault) begun judged is = absurd (no_err fault judged is)

module _ (settings : SettingsValue) (live : List Live) (client : ClientValue) (time : ℕ) (request : Request) (judged : Judged) where
  abbrev targets : List Target
  targets = targets_of settings client.aliases request.asked

  few_targets : judge_targets settings live targets time request ≡ Ok judged → IsGranted settings live client time request judged
  few_targets is =
      let given = unless (overlap_fault settings live targets request) (begun settings targets time request) in
      elim (cases_Bool (nat_le (prefix_count targets) MAX_RESOLVED)) [
        | inl few ↦
            let both = granted_if
            (overlap_fault settings live targets request)
            (begun settings targets time request)
            judged
            (sym (cond-true (nat_le (prefix_count targets) MAX_RESOLVED) given (Err faults.TooMany) few) ∙ is) in
            begins
            few
            (place_of live request.cuid (wanted request.mid request.asked targets request.trigger) settings.limits
            (fresh_fault live request.cuid targets (judge_overlap live request.cuid (wanted request.mid request.asked targets request.trigger) settings.limits) both.0))
            both.1
        | inr many ↦
            absurd (no_err faults.TooMany judged (sym (cond-false (nat_le (prefix_count targets) MAX_RESOLVED) given (Err faults.TooMany) many) ∙ is))
      ]

  known_aliases : judge_new settings live client.aliases time request ≡ Ok judged → IsGranted settings live client time request judged
  known_aliases is =
      let given = judge_targets settings live targets time request in
      elim (cases_Bool (list_any (is_unknown client.aliases) request.asked.aliases)) [
        | inl unknown ↦
            absurd (no_err
            faults.UnknownAlias
            judged
            (sym (cond-true (list_any (is_unknown client.aliases) request.asked.aliases) (Err faults.UnknownAlias) given unknown) ∙ is))
        | inr known ↦
            few_targets (sym (cond-false (list_any (is_unknown client.aliases) request.asked.aliases) (Err faults.UnknownAlias) given known) ∙ is)
      ]

  same_asked : (m : Live) → find (has_mid request.cuid request.mid) live ≡ Some m → judge_standing settings m.put request ≡ Ok judged
      → IsGranted settings live client time request judged
  same_asked m found is =
      elim (cases_Bool (would_refresh request.asked request.trigger m.put)) [
        | inl same ↦
            refreshes
            m
            found
            (same_Some judged (refreshed settings m.put request)
            (ap result_ok (sym is ∙ cond-true (would_refresh request.asked request.trigger m.put) (Ok (refreshed settings m.put request)) (Err faults.Changed) same)))
        | inr other ↦
            absurd (no_err
            faults.Changed
            judged
            (sym (cond-false (would_refresh request.asked request.trigger m.put) (Ok (refreshed settings m.put request)) (Err faults.Changed) other) ∙ is))
      ]

  by_mid : (o : Option Live) → find (has_mid request.cuid request.mid) live ≡ o → judge_known settings live client.aliases time request o ≡ Ok judged
      → IsGranted settings live client time request judged
  by_mid (Some m) found is = same_asked m found is
  by_mid None found is = known_aliases is

  pub granted_by : judge_put settings live client time request ≡ Ok judged → IsGranted settings live client time request judged
  granted_by is =
      let taken = collides live request.peer request.cuid || is_of_another request.peer client in
      let known = judge_known settings live client.aliases time request (find (has_mid request.cuid request.mid) live) in
      elim (cases_Bool (collides live request.peer request.cuid || is_of_another request.peer client)) [
        | inl in_use ↦ absurd (no_err faults.Collision judged (sym (cond-true taken (Err faults.Collision) known in_use) ∙ is))
        | inr free ↦ by_mid (find (has_mid request.cuid request.mid) live) refl (sym (cond-false taken (Err faults.Collision) known free) ∙ is)
      ]
