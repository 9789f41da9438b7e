-- What the judgement by the mid says of the mitigation that it finds.
use Rattle.std.proofs.Common.{◌≡◌, ℕ, zero, suc, ◌+◌, ◌-◌, ◌<◌, ◌≤◌, Bool, true, false, cond, List, [], ◌∷◌, length, Option, Some, None, Result, Ok, Err, inl, inr, refl, sym, ap, ◌∙◌, subst, arith}
use Rattle.std.specs.Prelude.{ℤ, ◌||◌, slice_get, ⊤}
use Rattle.std.specs.List.{find}
use Rattle.std.proofs.lemmas.Bool.{cond-true, cond-false, cases_Bool, or_from}
use Rattle.std.proofs.lemmas.Option.{none-some, same_Some}
use Rattle.acl_lists.specs.declared.asked.Asked.{Asked}
use Rattle.dots_settings.specs.Settings.{SettingsValue}
use Rattle.conflict_rules.specs.declared.live.Live.{Live}
use Rattle.conflict_rules.specs.declared.by_mid.MidJudgement.{MidJudgement}
use Rattle.conflict_rules.specs.declared.by_mid.MidJudgement.TheVariants.{Collision, Refresh, Changed, New}
use Rattle.conflict_rules.specs.Asking.{would_refresh}
use Rattle.conflict_rules.specs.ByMid.{collides, has_mid, judge_same_mid, judge_mid}
use Rattle.conflict_rules.specs.declared.fault.PutFault.{PutFault}
use Rattle.conflict_rules.specs.declared.fault.PutFault.TheVariants as faults
use Rattle.conflict_rules.specs.declared.judging.Judged.{Judged}
use Rattle.conflict_rules.specs.Requests.{Request, ClientValue, is_of_another}
use Rattle.conflict_rules.specs.Judging.{refreshed, judge_new, judge_known, judge_put}

-- what each answer says of the first mitigation of the mid that stands
abbrev pub Says : List ℕ → ℕ → Asked → Bool → ℕ → List Live → MidJudgement → Type 0
Says cuid mid asked trigger place live Collision = ⊥
Says cuid mid asked trigger place live (Refresh at) =
    (m : Live)
    × (find (has_mid cuid mid) live ≡ Some m)
    × (would_refresh asked trigger m.put ≡ true)
    × (place ≤ at)
    × (slice_get live (at - place) ≡ Some m)
Says cuid mid asked trigger place live Changed =
    (m : Live) × (find (has_mid cuid mid) live ≡ Some m) × (would_refresh asked trigger m.put ≡ false)
Says cuid mid asked trigger place live New = find (has_mid cuid mid) live ≡ None

behind : (cuid : List ℕ) (mid : ℕ) (asked : Asked) (trigger : Bool) (place : ℕ) (m : Live) (later : List Live) (j : MidJudgement) → has_mid cuid mid m ≡ false
    → Says cuid mid asked trigger (place + 1) later j → Says cuid mid asked trigger place (m ∷ later) j
behind cuid mid asked trigger place m later Collision out says = says
behind cuid mid asked trigger place m later (Refresh at) out says =
    let past : find (has_mid cuid mid) (m ∷ later) ≡ find (has_mid cuid mid) later = cond-false (has_mid cuid mid m) (Some m) (find (has_mid cuid mid) later) out in
    let within : place + 1 ≤ at = says.3 in
    let next : at - place ≡ suc (at - (place + 1)) = omega (arith, within) in
    (says.0, past ∙ says.1, says.2, (let le : place ≤ at = omega (arith, within) in le), ap (slice_get (m ∷ later)) next ∙ says.4)
behind cuid mid asked trigger place m later Changed out says =
    (says.0, cond-false (has_mid cuid mid m) (Some m) (find (has_mid cuid mid) later) out ∙ says.1, says.2)
behind cuid mid asked trigger place m later New out says =
    cond-false (has_mid cuid mid m) (Some m) (find (has_mid cuid mid) later) out ∙ says

says_of : (cuid : List ℕ) (mid : ℕ) (asked : Asked) (trigger : Bool) (place : ℕ) (live : List Live)
    → Says cuid mid asked trigger place live (judge_same_mid cuid mid asked trigger place live)
says_of cuid mid asked trigger place [] = refl
says_of cuid mid asked trigger place (m ∷ later) =
    let here : MidJudgement = cond (would_refresh asked trigger m.put) (Refresh place) Changed in
    let rest : MidJudgement = judge_same_mid cuid mid asked trigger (place + 1) later in
    let found : has_mid cuid mid m ≡ true → find (has_mid cuid mid) (m ∷ later) ≡ Some m
    = λ is. cond-true (has_mid cuid mid m) (Some m) (find (has_mid cuid mid) later) is in
    elim (cases_Bool (has_mid cuid mid m)) [
      | inl is ↦
          subst (Says cuid mid asked trigger place (m ∷ later)) (sym (cond-true (has_mid cuid mid m) here rest is))
          (elim (cases_Bool (would_refresh asked trigger m.put)) [
            | inl same ↦
                subst (Says cuid mid asked trigger place (m ∷ later)) (sym (cond-true (would_refresh asked trigger m.put) (Refresh place) Changed same))
                (let none : place - place ≡ 0 = omega arith in
                (m, found is, same, (let le : place ≤ place = omega arith in le), ap (slice_get (m ∷ later)) none))
            | inr other ↦
                subst (Says cuid mid asked trigger place (m ∷ later)) (sym (cond-false (would_refresh asked trigger m.put) (Refresh place) Changed other))
                (m, found is, other)
          ])
      | inr out ↦
          subst (Says cuid mid asked trigger place (m ∷ later)) (sym (cond-false (has_mid cuid mid m) here rest out))
          (behind cuid mid asked trigger place m later rest out (says_of cuid mid asked trigger (place + 1) later))
    ]

-- ---- as the judgement of a request has it
abbrev pub asked_by : ℕ → List ℕ → ℕ → Asked → ℤ → Bool → Request
asked_by peer cuid mid asked lifetime trigger =
    record { peer = peer; cuid = cuid; mid = mid; asked = asked; lifetime = lifetime; trigger = trigger }

pub within_there : {A : Type 0} (xs : List A) (i : ℕ) (x : A) → slice_get xs i ≡ Some x → i < length xs
within_there [] i x is = absurd (none-some x is)
within_there (y ∷ xs) zero x is = omega arith
within_there (y ∷ xs) (suc i) x is = let rest : i < length xs = within_there xs i x is in omega (arith, rest)

-- the judgement isn't that the name is in use
abbrev IsFree : MidJudgement → Type 0
IsFree Collision = ⊥
IsFree (Refresh at) = ⊤
IsFree Changed = ⊤
IsFree New = ⊤

module _ (settings : SettingsValue) (live : List Live) (client : ClientValue) (time : ℕ) (request : Request)
    (own : is_of_another request.peer client ≡ false) where
  abbrev mid_judged : MidJudgement
  mid_judged = judge_mid live request.peer request.cuid request.mid request.asked request.trigger

  abbrev known : Option Live → Result Judged PutFault
  known m = judge_known settings live client.aliases time request m

  none_taken : (j : MidJudgement) → IsFree j → mid_judged ≡ j → collides live request.peer request.cuid ≡ false
  none_taken j free is =
      elim (cases_Bool (collides live request.peer request.cuid)) [
        | inl taken ↦
            absurd
            (subst IsFree
            (sym is ∙ cond-true (collides live request.peer request.cuid) Collision (judge_same_mid request.cuid request.mid request.asked request.trigger 0 live) taken)
            free)
        | inr none ↦ none
      ]

  judged_known : (j : MidJudgement) → IsFree j → mid_judged ≡ j
      → judge_put settings live client time request ≡ known (find (has_mid request.cuid request.mid) live)
  judged_known j free is =
      cond-false
      (collides live request.peer request.cuid || is_of_another request.peer client)
      (Err faults.Collision)
      (known (find (has_mid request.cuid request.mid) live))
      (or_from (collides live request.peer request.cuid) (is_of_another request.peer client) (none_taken j free is) own)

  says_free : (j : MidJudgement) → collides live request.peer request.cuid ≡ false → mid_judged ≡ j
      → Says request.cuid request.mid request.asked request.trigger 0 live j
  says_free j none is =
      let same_mid : mid_judged ≡ judge_same_mid request.cuid request.mid request.asked request.trigger 0 live
      = cond-false (collides live request.peer request.cuid) Collision (judge_same_mid request.cuid request.mid request.asked request.trigger 0 live) none in
      subst (Says request.cuid request.mid request.asked request.trigger 0 live) (sym same_mid ∙ is) (says_of request.cuid request.mid request.asked request.trigger 0 live)

  says_mid : (j : MidJudgement) → IsFree j → mid_judged ≡ j → Says request.cuid request.mid request.asked request.trigger 0 live j
  says_mid j free is = says_free j (none_taken j free is) is

  pub taken : mid_judged ≡ Collision → judge_put settings live client time request ≡ Err faults.Collision
  taken is =
      elim (cases_Bool (collides live request.peer request.cuid)) [
        | inl there ↦
            cond-true
            (collides live request.peer request.cuid || is_of_another request.peer client)
            (Err faults.Collision)
            (known (find (has_mid request.cuid request.mid) live))
            (ap (λ b. b || is_of_another request.peer client) there)
        | inr none ↦ absurd (says_free Collision none is)
      ]

  pub at_place : (at : ℕ) → mid_judged ≡ Refresh at → (m : Live) × (slice_get live at ≡ Some m)
  at_place at is =
      let says = says_mid (Refresh at) tt is in
      let same : at - 0 ≡ at = omega arith in
      (says.0, sym (ap (slice_get live) same) ∙ says.4)

  pub refreshes : (at : ℕ) (m : Live) → mid_judged ≡ Refresh at → slice_get live at ≡ Some m
      → judge_put settings live client time request ≡ Ok (refreshed settings m.put request)
  refreshes at m is there =
      let says = says_mid (Refresh at) tt is in
      let place : at - 0 ≡ at = omega arith in
      let same : says.0 ≡ m = same_Some says.0 m (sym says.4 ∙ ap (slice_get live) place ∙ there) in
      judged_known (Refresh at) tt is
      ∙ ap known says.1
      ∙ cond-true (would_refresh request.asked request.trigger says.0.put) (Ok (refreshed settings says.0.put request)) (Err faults.Changed) says.2
      ∙ ap (λ (x : Live). Ok (refreshed settings x.put request)) same

  pub changes : mid_judged ≡ Changed → judge_put settings live client time request ≡ Err faults.Changed
  changes is =
      let says = says_mid Changed tt is in
      judged_known Changed tt is
      ∙ ap known says.1
      ∙ cond-false (would_refresh request.asked request.trigger says.0.put) (Ok (refreshed settings says.0.put request)) (Err faults.Changed) says.2

  pub is_new : mid_judged ≡ New → judge_put settings live client time request ≡ judge_new settings live client.aliases time request
  is_new is = judged_known New tt is ∙ ap known (says_mid New tt is)
