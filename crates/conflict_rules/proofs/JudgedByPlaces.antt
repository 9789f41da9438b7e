-- A request is judged by the rules exactly as it is by the places of the entries.
use Rattle.std.proofs.Common.{◌≡◌, ℕ, ◌<◌, Bool, true, false, cond, List, [], filter, length, Option, Some, None, Result, Ok, Err, inl, inr, refl, sym, ap, ◌∙◌, subst, arith}
use Rattle.std.specs.Prelude.{◌≢◌, nat_le}
use Rattle.std.specs.List.{list_any, find}
use Rattle.std.proofs.lemmas.Bool.{both_ways, cond-true, cond-false, cases_Bool, leb-true, leb-false, le-leb, false_from_ne_true}
use Rattle.std.proofs.lemmas.Option.{none-some}
use Rattle.ip_scope.specs.Prefix.{PrefixValue}
use Rattle.acl_lists.specs.declared.alias.Alias.{Alias}
use Rattle.dots_settings.specs.Settings.{SettingsValue}
use Rattle.dots_history.specs.declared.entry.Entry.{Entry}
use Rattle.dots_history.specs.declared.put.Put.{Put}
use Rattle.dots_history.specs.declared.put.Target.{Target}
use Rattle.dots_history.specs.Bounds.{prefix_count}
use Rattle.dots_history.specs.Histories.{held}
use Rattle.dots_history.specs.Tables.{Client}
use Rattle.conflict_rules.specs.declared.live.Live.{Live}
use Rattle.conflict_rules.specs.declared.by_overlap.Judgement.{Judgement}
use Rattle.conflict_rules.specs.declared.by_overlap.Judgement.TheVariants as judgement
use Rattle.conflict_rules.specs.declared.by_overlap.Which.TheVariants as which
use Rattle.conflict_rules.specs.Asking.{would_refresh}
use Rattle.conflict_rules.specs.Wanted.{wanted}
use Rattle.conflict_rules.specs.ByMid.{has_mid}
use Rattle.conflict_rules.specs.ByOverlap.{highest_mid, is_contested, resolved, meets_another, meeting, staying, own_staying, judge_room, judge_others, judge_by}
use Rattle.conflict_rules.specs.Lives.{lives_of}
use Rattle.dots_history.specs.Held.{aliases_of}
use Rattle.conflict_rules.specs.declared.fault.PutFault.{PutFault}
use Rattle.conflict_rules.specs.declared.fault.PutFault.TheVariants as faults
use Rattle.conflict_rules.specs.declared.judging.Judged.{Judged}
use Rattle.conflict_rules.specs.Requests.{Request}
use Rattle.conflict_rules.specs.Targets.{is_unknown, targets_of}
use Rattle.conflict_rules.specs.Judging.{refreshed, begun, fault_of, unless, judge_targets, judge_standing, judge_known}
use Rattle.conflict_rules.specs.ByHistory.{collides, judge_request}
use Rattle.conflict_rules.specs.Judgements.{IsTaken, HasMid, AreTargets, Meets, Those, Stays, StaysOwn, IsNew, IsHighest, IsFree, IsJudged, collision, refreshes, changes, unknown, too_many, higher, other, client_full, domain_full, begins}
use Rattle.conflict_rules.proofs.LivePlaces.{one_number}
use Rattle.conflict_rules.proofs.HeldPlaces.{unknown_there, there_unknown, are_targets, targets_are}
use Rattle.conflict_rules.proofs.Rules.{found_some, collides_taken, taken_collides, mid_there, there_mid, one_of_mid, in_higher, higher_in, higher_mids, those_meet, meet_those, number_staying, number_own, greatest_in, greatest_none, in_greatest, contested_by, none_pass, some_pass}
use Rattle.acl_lists.specs.declared.limits.TheConstants.{MAX_RESOLVED}

module _ (settings : SettingsValue) (t : ℕ) (entries : List Entry) (domain : ℕ) (request : Request) where
  abbrev client : Client
  client = record { domain = domain; cuid = request.cuid }

  abbrev lives : List Live
  lives = lives_of domain t entries

  abbrev aliases : List Alias
  aliases = aliases_of client (held entries)

  abbrev judged : Result Judged PutFault
  judged = judge_request settings t entries domain request

  abbrev found : Option Live
  found = find (has_mid request.cuid request.mid) lives

  abbrev known : Option Live → Result Judged PutFault
  known o = judge_known settings lives aliases t request o

  abbrev of_targets : List Target → Result Judged PutFault
  of_targets targets = judge_targets settings lives targets t request

  abbrev wants : List Target → Put
  wants targets = wanted request.mid request.asked targets request.trigger

  abbrev unopposed : List Target → Judgement → Result Judged PutFault
  unopposed targets j = unless (fault_of lives request.cuid targets j) (begun settings targets t request)

  abbrev others : List Target → Judgement
  others targets = judge_others lives request.cuid (wants targets) settings.limits

  abbrev own_number : List Target → ℕ
  own_number targets = own_staying lives request.cuid (wants targets)

  abbrev all_number : List Target → ℕ
  all_number targets = staying lives request.cuid (wants targets)

  -- ---- the rules, one by one
  by_taken : collides t entries request.peer client ≡ true → judged ≡ Err faults.Collision
  by_taken is = cond-true (collides t entries request.peer client) (Err faults.Collision) (known found) is

  by_found : collides t entries request.peer client ≡ false → (o : Option Live) → found ≡ o → judged ≡ known o
  by_found free o is = cond-false (collides t entries request.peer client) (Err faults.Collision) (known found) free ∙ ap known is

  by_same : (put : Put) → would_refresh request.asked request.trigger put ≡ true → judge_standing settings put request ≡ Ok (refreshed settings put request)
  by_same put is = cond-true (would_refresh request.asked request.trigger put) (Ok (refreshed settings put request)) (Err faults.Changed) is

  by_other : (put : Put) → would_refresh request.asked request.trigger put ≡ false → judge_standing settings put request ≡ Err faults.Changed
  by_other put is = cond-false (would_refresh request.asked request.trigger put) (Ok (refreshed settings put request)) (Err faults.Changed) is

  by_unknown : list_any (is_unknown aliases) request.asked.aliases ≡ true → known None ≡ Err faults.UnknownAlias
  by_unknown is =
      cond-true (list_any (is_unknown aliases) request.asked.aliases) (Err faults.UnknownAlias) (of_targets (targets_of settings aliases request.asked)) is

  by_known : list_any (is_unknown aliases) request.asked.aliases ≡ false → known None ≡ of_targets (targets_of settings aliases request.asked)
  by_known is =
      cond-false (list_any (is_unknown aliases) request.asked.aliases) (Err faults.UnknownAlias) (of_targets (targets_of settings aliases request.asked)) is

  by_few : (targets : List Target) → nat_le (prefix_count targets) MAX_RESOLVED ≡ true
      → of_targets targets ≡ unopposed targets (judge_by (highest_mid lives request.cuid (wants targets)) (others targets))
  by_few targets is =
      cond-true
      (nat_le (prefix_count targets) MAX_RESOLVED)
      (unopposed targets (judge_by (highest_mid lives request.cuid (wants targets)) (others targets)))
      (Err faults.TooMany)
      is

  by_many : (targets : List Target) → nat_le (prefix_count targets) MAX_RESOLVED ≡ false → of_targets targets ≡ Err faults.TooMany
  by_many targets is =
      cond-false
      (nat_le (prefix_count targets) MAX_RESOLVED)
      (unopposed targets (judge_by (highest_mid lives request.cuid (wants targets)) (others targets)))
      (Err faults.TooMany)
      is

  by_highest : (targets : List Target) (o : Option ℕ) → highest_mid lives request.cuid (wants targets) ≡ o
      → unopposed targets (judge_by (highest_mid lives request.cuid (wants targets)) (others targets)) ≡ unopposed targets (judge_by o (others targets))
  by_highest targets o is = ap (λ h. unopposed targets (judge_by h (others targets))) is

  by_contested : (targets : List Target) → is_contested lives request.cuid (wants targets) ≡ true
      → unopposed targets (others targets) ≡ Err (faults.Other (filter (meets_another lives request.cuid) (resolved targets)))
  by_contested targets is =
      ap
      (unopposed targets)
      (cond-true
      (is_contested lives request.cuid (wants targets))
      (judgement.Other (meeting lives request.cuid targets))
      (judge_room (own_number targets) (all_number targets) settings.limits)
      is)

  by_room : (targets : List Target) → is_contested lives request.cuid (wants targets) ≡ false
      → unopposed targets (others targets) ≡ unopposed targets (judge_room (own_number targets) (all_number targets) settings.limits)
  by_room targets is =
      ap
      (unopposed targets)
      (cond-false
      (is_contested lives request.cuid (wants targets))
      (judgement.Other (meeting lives request.cuid targets))
      (judge_room (own_number targets) (all_number targets) settings.limits)
      is)

  abbrev of_domain : ℕ → Judgement
  of_domain all = cond (nat_le settings.limits.domain_mitigations all) (judgement.Full which.Domain all) judgement.Fresh

  by_client : (targets : List Target) (own all : ℕ) → nat_le settings.limits.client_mitigations own ≡ true
      → unopposed targets (judge_room own all settings.limits) ≡ Err (faults.Capacity which.Client own)
  by_client targets own all is =
      ap (unopposed targets) (cond-true (nat_le settings.limits.client_mitigations own) (judgement.Full which.Client own) (of_domain all) is)

  by_domain : (targets : List Target) (own all : ℕ) → nat_le settings.limits.client_mitigations own ≡ false → nat_le settings.limits.domain_mitigations all ≡ true
      → unopposed targets (judge_room own all settings.limits) ≡ Err (faults.Capacity which.Domain all)
  by_domain targets own all room is =
      ap
      (unopposed targets)
      (cond-false (nat_le settings.limits.client_mitigations own) (judgement.Full which.Client own) (of_domain all) room
      ∙ cond-true (nat_le settings.limits.domain_mitigations all) (judgement.Full which.Domain all) judgement.Fresh is)

  by_none : (targets : List Target) (own all : ℕ) → nat_le settings.limits.client_mitigations own ≡ false → nat_le settings.limits.domain_mitigations all ≡ false
      → unopposed targets (judge_room own all settings.limits) ≡ Ok (begun settings targets t request)
  by_none targets own all room too =
      ap
      (unopposed targets)
      (cond-false (nat_le settings.limits.client_mitigations own) (judgement.Full which.Client own) (of_domain all) room
      ∙ cond-false (nat_le settings.limits.domain_mitigations all) (judgement.Full which.Domain all) judgement.Fresh too)

  -- ---- from the rules to the places
  abbrev Judges : Result Judged PutFault → Type 0
  Judges result = IsJudged settings t entries client request result

  untaken : collides t entries request.peer client ≡ false → IsTaken t entries client request.peer → ⊥
  untaken free taken = both_ways (collides t entries request.peer client) free (taken_collides t entries client request.peer taken)

  unused_mid : found ≡ None → (put : Put) → HasMid t entries client request.mid put → ⊥
  unused_mid none put has =
      let one = found_some (has_mid request.cuid request.mid) lives (there_mid t entries client request.mid put has) in
      none-some one.0 (sym none ∙ one.1)

  module _ (targets : List Target) (is_new : IsNew settings t entries client request targets) (result : Result Judged PutFault) where
    free_of : highest_mid lives request.cuid (wants targets) ≡ None → IsHighest settings t entries client request targets
    free_of none = record {
      is_new = is_new;
      none_higher = λ mid has. greatest_none (higher_mids t entries client (wants targets)) mid none (higher_in t entries client (wants targets) mid has);
    }

    abbrev own : ℕ
    own = own_number targets

    abbrev all : ℕ
    all = all_number targets

    free_beside : IsHighest settings t entries client request targets → is_contested lives request.cuid (wants targets) ≡ false
        → IsFree settings t entries client request targets own all
    free_beside highest out = record {
      is_highest = highest;
      none_meets = subst
          (Those (Meets t entries client) (resolved targets))
          (none_pass (meets_another lives request.cuid) (resolved targets) (sym (contested_by lives request.cuid (wants targets)) ∙ out))
          (those_meet t entries client (resolved targets));
      own_stay = number_own t entries client (wants targets);
      all_stay = number_staying t entries client (wants targets);
    }

    by_numbers : IsFree settings t entries client request targets own all → result ≡ unopposed targets (judge_room own all settings.limits) → (a b : Bool)
        → nat_le settings.limits.client_mitigations own ≡ a → nat_le settings.limits.domain_mitigations all ≡ b → Judges result
    by_numbers free is true b full rest =
        client_full targets own all free (leb-true settings.limits.client_mitigations own full) (is ∙ by_client targets own all full)
    by_numbers free is false true room full =
        domain_full
        targets
        own
        all
        free
        (leb-false settings.limits.client_mitigations own room)
        (leb-true settings.limits.domain_mitigations all full)
        (is ∙ by_domain targets own all room full)
    by_numbers free is false false room too =
        begins
        targets
        own
        all
        free
        (leb-false settings.limits.client_mitigations own room)
        (leb-false settings.limits.domain_mitigations all too)
        (is ∙ by_none targets own all room too)

    to_room : IsHighest settings t entries client request targets → is_contested lives request.cuid (wants targets) ≡ false
        → result ≡ unopposed targets (judge_room own all settings.limits) → Judges result
    to_room highest out is =
        by_numbers (free_beside highest out) is (nat_le settings.limits.client_mitigations own) (nat_le settings.limits.domain_mitigations all) refl refl

    to_others : IsHighest settings t entries client request targets → result ≡ unopposed targets (others targets) → Judges result
    to_others highest is =
        elim (cases_Bool (is_contested lives request.cuid (wants targets))) [
          | inl contested ↦
              other
              targets
              (filter (meets_another lives request.cuid) (resolved targets))
              highest
              (those_meet t entries client (resolved targets))
              (some_pass (meets_another lives request.cuid) (resolved targets) (sym (contested_by lives request.cuid (wants targets)) ∙ contested))
              (is ∙ by_contested targets contested)
          | inr out ↦ to_room highest out (is ∙ by_room targets out)
        ]

    to_highest : (o : Option ℕ) → highest_mid lives request.cuid (wants targets) ≡ o → result ≡ unopposed targets (judge_by o (others targets)) → Judges result
    to_highest None none is = to_others (free_of none) is
    to_highest (Some mid) most is =
        let both = greatest_in (higher_mids t entries client (wants targets)) mid most in
        higher
        targets
        mid
        is_new
        (in_higher t entries client (wants targets) mid both.0)
        (λ n has. both.1 n (higher_in t entries client (wants targets) n has))
        is

  module _ (free : IsTaken t entries client request.peer → ⊥) (unused : (put : Put) → HasMid t entries client request.mid put → ⊥)
      (result : Result Judged PutFault) where
    to_targets : list_any (is_unknown aliases) request.asked.aliases ≡ false → result ≡ of_targets (targets_of settings aliases request.asked) → Judges result
    to_targets names is =
        let targets = targets_of settings aliases request.asked in
        elim (cases_Bool (nat_le (prefix_count (targets_of settings aliases request.asked)) MAX_RESOLVED)) [
          | inl few ↦
              to_highest
              targets
              (record {
                free = free;
                unused = unused;
                are = are_targets entries client settings request.asked names;
                few = leb-true (prefix_count targets) MAX_RESOLVED few;
              })
              result
              (highest_mid lives request.cuid (wants targets))
              refl
              (is ∙ by_few targets few)
          | inr many ↦
              too_many
              targets
              free
              unused
              (are_targets entries client settings request.asked names)
              (leb-false (prefix_count targets) MAX_RESOLVED many)
              (is ∙ by_many targets many)
        ]

    to_new : result ≡ known None → Judges result
    to_new is =
        elim (cases_Bool (list_any (is_unknown aliases) request.asked.aliases)) [
          | inl some ↦ unknown free unused (unknown_there entries client request.asked.aliases some) (is ∙ by_unknown some)
          | inr none ↦ to_targets none (is ∙ by_known none)
        ]

  to_known : (IsTaken t entries client request.peer → ⊥) → (o : Option Live) → found ≡ o → judged ≡ known o → Judges judged
  to_known free None none is = to_new free (unused_mid none) judged is
  to_known free (Some m) one is =
      let has = mid_there t entries client request.mid m one in
      elim (cases_Bool (would_refresh request.asked request.trigger m.put)) [
        | inl same ↦ refreshes m.put free has same (is ∙ by_same m.put same)
        | inr out ↦ changes m.put free has out (is ∙ by_other m.put out)
      ]

  is_judged : Judges judged
  is_judged =
      elim (cases_Bool (collides t entries request.peer client)) [
        | inl taken ↦ collision (collides_taken t entries client request.peer taken) (by_taken taken)
        | inr free ↦ to_known (untaken free) found refl (by_found free found refl)
      ]

  pub judged_by_places : (result : Result Judged PutFault) → judged ≡ result → Judges result
  judged_by_places result is = subst Judges is is_judged

  -- ---- from the places to the rules
  not_taken : (IsTaken t entries client request.peer → ⊥) → collides t entries request.peer client ≡ false
  not_taken free = false_from_ne_true (collides t entries request.peer client) (λ is. free (collides_taken t entries client request.peer is))

  from_mid : (put : Put) → HasMid t entries client request.mid put → (m : Live) × (found ≡ Some m) × (m.put ≡ put)
  from_mid put has =
      let one = found_some (has_mid request.cuid request.mid) lives (there_mid t entries client request.mid put has) in
      (one.0, one.1, one_of_mid t entries client request.mid one.0.put put (mid_there t entries client request.mid one.0 one.1) has)

  from_unused : ((put : Put) → HasMid t entries client request.mid put → ⊥) → found ≡ None
  from_unused unused = by_one found refl
    where
      by_one : (o : Option Live) → found ≡ o → found ≡ None
      by_one None none = none
      by_one (Some m) some = absurd (unused m.put (mid_there t entries client request.mid m some))

  from_new : (IsTaken t entries client request.peer → ⊥) → ((put : Put) → HasMid t entries client request.mid put → ⊥) → judged ≡ known None
  from_new free unused = by_found (not_taken free) None (from_unused unused)

  from_targets : (targets : List Target) → (IsTaken t entries client request.peer → ⊥) → ((put : Put) → HasMid t entries client request.mid put → ⊥)
      → AreTargets settings entries client request.asked targets → judged ≡ of_targets targets
  from_targets targets free unused are =
      let both = targets_are entries client settings request.asked targets are in
      from_new free unused ∙ by_known both.0 ∙ ap of_targets (sym both.1)

  from_few : (targets : List Target) → IsNew settings t entries client request targets
      → judged ≡ unopposed targets (judge_by (highest_mid lives request.cuid (wants targets)) (others targets))
  from_few targets new =
      from_targets targets new.free new.unused new.are ∙ by_few targets (le-leb (prefix_count targets) MAX_RESOLVED new.few)

  from_highest : (targets : List Target) → IsHighest settings t entries client request targets → judged ≡ unopposed targets (others targets)
  from_highest targets highest = from_few targets highest.is_new ∙ by_highest targets None (by_one (highest_mid lives request.cuid (wants targets)) refl)
    where
      by_one : (o : Option ℕ) → highest_mid lives request.cuid (wants targets) ≡ o → highest_mid lives request.cuid (wants targets) ≡ None
      by_one None none = none
      by_one (Some mid) most =
          absurd (highest.none_higher
          mid
          (in_higher t entries client (wants targets) mid (greatest_in (higher_mids t entries client (wants targets)) mid most).0))

  uncontested : (targets : List Target) → Those (Meets t entries client) (resolved targets) [] → is_contested lives request.cuid (wants targets) ≡ false
  uncontested targets none =
      contested_by lives request.cuid (wants targets)
      ∙ false_from_ne_true
      (list_any (meets_another lives request.cuid) (resolved targets))
      (λ some. some_pass (meets_another lives request.cuid) (resolved targets) some (sym (meet_those t entries client (resolved targets) [] none)))

  contested : (targets : List Target) (prefixes : List PrefixValue) → Those (Meets t entries client) (resolved targets) prefixes → prefixes ≢ []
      → is_contested lives request.cuid (wants targets) ≡ true
  contested targets prefixes those some =
      contested_by lives request.cuid (wants targets)
      ∙ by_any (list_any (meets_another lives request.cuid) (resolved targets)) refl
    where
      by_any : (b : Bool) → list_any (meets_another lives request.cuid) (resolved targets) ≡ b → list_any (meets_another lives request.cuid) (resolved targets) ≡ true
      by_any true is = is
      by_any false out =
          absurd (some (meet_those t entries client (resolved targets) prefixes those ∙ none_pass (meets_another lives request.cuid) (resolved targets) out))

  from_free : (targets : List Target) (own all : ℕ) → IsFree settings t entries client request targets own all
      → judged ≡ unopposed targets (judge_room own all settings.limits)
  from_free targets own all free =
      from_highest targets free.is_highest
      ∙ by_room targets (uncontested targets free.none_meets)
      ∙ ap
      (λ n. unopposed targets (judge_room n (all_number targets) settings.limits))
      (one_number (StaysOwn t entries client (wants targets)) 0 (length entries) (own_number targets) own (number_own t entries client (wants targets)) free.own_stay)
      ∙ ap
      (λ n. unopposed targets (judge_room own n settings.limits))
      (one_number (Stays t entries client (wants targets)) 0 (length entries) (all_number targets) all (number_staying t entries client (wants targets)) free.all_stay)

  less_not : (a b : ℕ) → b < a → nat_le a b ≡ false
  less_not a b less = false_from_ne_true (nat_le a b) (λ is. let at_most = leb-true a b is in omega (arith, less, at_most))

  pub places_judge : (result : Result Judged PutFault) → Judges result → judged ≡ result
  places_judge result (collision taken is) = by_taken (taken_collides t entries client request.peer taken) ∙ sym is
  places_judge result (refreshes put free has same is) =
      let one = from_mid put has in
      by_found (not_taken free) (Some one.0) one.1
      ∙ ap (λ (p : Put). judge_standing settings p request) one.2
      ∙ by_same put same
      ∙ sym is
  places_judge result (changes put free has out is) =
      let one = from_mid put has in
      by_found (not_taken free) (Some one.0) one.1
      ∙ ap (λ (p : Put). judge_standing settings p request) one.2
      ∙ by_other put out
      ∙ sym is
  places_judge result (unknown free unused has is) =
      from_new free unused ∙ by_unknown (there_unknown entries client request.asked.aliases has) ∙ sym is
  places_judge result (too_many targets free unused are many is) =
      from_targets targets free unused are ∙ by_many targets (less_not (prefix_count targets) MAX_RESOLVED many) ∙ sym is
  places_judge result (higher targets mid new has most is) =
      from_few targets new
      ∙ by_highest
      targets
      (Some mid)
      (in_greatest
      (higher_mids t entries client (wants targets))
      mid
      (higher_in t entries client (wants targets) mid has)
      (λ n more. most n (in_higher t entries client (wants targets) n more)))
      ∙ sym is
  places_judge result (other targets prefixes highest those some is) =
      from_highest targets highest
      ∙ by_contested targets (contested targets prefixes those some)
      ∙ ap (λ ps. Err (faults.Other ps)) (sym (meet_those t entries client (resolved targets) prefixes those))
      ∙ sym is
  places_judge result (client_full targets own all free full is) =
      from_free targets own all free ∙ by_client targets own all (le-leb settings.limits.client_mitigations own full) ∙ sym is
  places_judge result (domain_full targets own all free room full is) =
      from_free targets own all free
      ∙ by_domain
      targets
      own
      all
      (less_not settings.limits.client_mitigations own room)
      (le-leb settings.limits.domain_mitigations all full)
      ∙ sym is
  places_judge result (begins targets own all free room too is) =
      from_free targets own all free
      ∙ by_none
      targets
      own
      all
      (less_not settings.limits.client_mitigations own room)
      (less_not settings.limits.domain_mitigations all too)
      ∙ sym is
