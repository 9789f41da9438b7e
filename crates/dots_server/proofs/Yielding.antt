-- A verdict, or that memory was wanting for it.
use Rattle.std.proofs.Common.{◌≡◌, ◌≢◌, ◌⊎◌, inl, inr, ℕ, Bool, true, false, ◌||◌, cond, List, [], ◌∷◌, filter, Option, Some, None, Result, Ok, Err, refl, sym, ap, ◌∙◌, subst}
use Rattle.std.specs.Prelude.{IfOk, IfErr, OnOk, OnErr}
use Rattle.std.proofs.lemmas.Bool.{false≢true, or_left, or_right}
use Rattle.std.proofs.lemmas.Option.{none-some}
use Rattle.dots_settings.specs.Settings.{SettingsValue}
use Rattle.dots_settings.specs.Lookups.{prefixes_of}
use Rattle.dots_history.specs.declared.entry.Entry.{Entry}
use Rattle.dots_keys.specs.declared.exchange.Exchange.{Exchange}
use Rattle.dots_keys.specs.declared.head_request.Content.{Content}
use Rattle.conflict_rules.specs.LiveViews.{LiveView}
use Rattle.conflict_rules.specs.ByHistory.{judge_request}
use Rattle.conflict_rules.specs.AskableTargets.{scope_fault}
use Rattle.conflict_rules.specs.declared.fault.PutFault.{PutFault}
use Rattle.conflict_rules.specs.declared.fault.PutFault.TheVariants as faults
use Rattle.conflict_rules.specs.declared.judging.Judged.{Judged}
use Rattle.conflict_rules.specs.declared.target.TargetFault.{TargetFault}
use Rattle.conflict_rules.specs.Results.{Fails}
use Rattle.conflict_rules.specs.Results as rules
use Rattle.dots_machine.specs.declared.mitigation_request.MitigationRequest.{MitigationRequest}
use Rattle.dots_machine.specs.Verdict.{Verdict}
use Rattle.dots_machine.specs.MessageRepeats.{unless_repeated}
use Rattle.dots_machine.specs.Mitigations.{sent_by, request_of, refusal, judged, unless_faulty, put_answer, is_wanted, get_reply}
use Rattle.dots_machine.specs.Machine.{State, facts_in}
use Rattle.dots_server.specs.LackingMemory.{is_made, if_judged, put_takes, Yields, YieldsMade, YieldsJudged}
use Rattle.dots_server.specs.ServerValues.{ServerValue, Represents}
use Rattle.dots_server.proofs.Verdicts.{reply_in}

module _ {E : Type 0} (r : Result Verdict E) where
  -- what is made may lack memory
  pub made_yields : (answer : Verdict) → is_made answer ≡ true → IfOk r (λ v. v ≡ answer) → YieldsMade r answer
  made_yields answer made is = by_result r is
    where
      by_result : (s : Result Verdict E) → IfOk s (λ v. v ≡ answer) → YieldsMade s answer
      by_result (Ok v) is = is
      by_result (Err lack) is = made

  pub yields_so : (one other : Verdict) → one ≡ other → YieldsMade r one → YieldsMade r other
  yields_so one other same yields = subst (YieldsMade r) same yields

  -- of a message that repeats none
  pub repeats_none : (entry : Option Entry) (answer : Verdict) → None ≡ reply_in entry → YieldsMade r answer → YieldsMade r (unless_repeated entry answer)
  repeats_none (Some e) answer is yields = absurd (none-some e.reply is)
  repeats_none None answer is yields = yields

  -- ---- of a mitigation that is asked for

  module _ (server : ServerValue) (settings : SettingsValue) (state : State) (a : MitigationRequest) (represents : Represents server settings state) where
    abbrev pub by_judgement : Result Judged PutFault
    by_judgement = judge_request settings state.time state.history a.from.domain (request_of a)

    abbrev YieldsBy : Option TargetFault → Option Entry → Type 0
    YieldsBy f known =
        Yields r (unless_faulty a.from.exchange f (unless_repeated known (judged state.time a by_judgement)))
        (is_made (unless_faulty a.from.exchange f (unless_repeated known (judged state.time a by_judgement))) || if_judged f known (rules.takes_memory by_judgement))

    abbrev fault_by : SettingsValue → Option TargetFault
    fault_by s = scope_fault s (prefixes_of s a.from.domain) a.body.asked

    new_is : (known : Option Entry) → None ≡ reply_in known → YieldsJudged r state.time a by_judgement → YieldsBy None known
    new_is (Some e) new yields = absurd (none-some e.reply new)
    new_is None new yields = yields

    pub put_yields : fault_by server.settings ≡ None → None ≡ reply_in ((facts_in settings state).repeated (sent_by a.from)) → YieldsJudged r state.time a by_judgement
        → Yields r (put_answer settings (facts_in settings state) a) (put_takes settings (facts_in settings state) a)
    put_yields none new yields =
        subst (λ f. YieldsBy f ((facts_in settings state).repeated (sent_by a.from))) (sym (ap fault_by (sym represents.settings_are) ∙ none))
        (new_is ((facts_in settings state).repeated (sent_by a.from)) new yields)

    pub judged_by : (judgement : Result Judged PutFault) → by_judgement ≡ judgement → YieldsJudged r state.time a judgement → YieldsJudged r state.time a by_judgement
    judged_by judgement is yields = subst (YieldsJudged r state.time a) (sym is) yields

  -- what is granted
  pub grant_yields : (answer : Verdict) (other : Bool) → is_made answer ≡ true → IfOk r (λ v. v ≡ answer) → Yields r answer (is_made answer || other)
  grant_yields answer other made is = by_result r is
    where
      by_result : (s : Result Verdict E) → IfOk s (λ v. v ≡ answer) → Yields s answer (is_made answer || other)
      by_result (Ok v) is = is
      by_result (Err lack) is = or_left (is_made answer) other made

  -- what is refused
  module _ (t : ℕ) (a : MitigationRequest) (judgement : Result Judged PutFault) where
    abbrev Refuses : Result Verdict E → Type 0
    Refuses s = YieldsJudged s t a judgement

    -- a fault that is no want of memory is that of the judgement
    known_refuses : (fault : PutFault) → judgement ≡ Err fault → (s : Result Verdict E) → IfOk s (λ v. v ≡ refusal a.from.exchange a.mid fault)
        → OnErr s ((fault ≡ faults.NoMemory) ⊎ (is_made (refusal a.from.exchange a.mid fault) ≡ true)) → fault ≢ faults.NoMemory → Refuses s
    known_refuses fault same (Ok v) is lacks known = is ∙ ap (judged t a) (sym same)
    known_refuses fault same (Err lack) is (inl none) known = absurd (known none)
    known_refuses fault same (Err lack) is (inr made) known =
        or_left (is_made (judged t a judgement)) (rules.takes_memory judgement) (ap (λ j. is_made (judged t a j)) same ∙ made)

    -- and want of memory comes where it is taken
    lacking_refuses : rules.takes_memory judgement ≡ true → (s : Result Verdict E) → OnOk s (faults.NoMemory ≢ faults.NoMemory) → Refuses s
    lacking_refuses takes (Ok v) known = absurd (known refl)
    lacking_refuses takes (Err lack) known = or_right (is_made (judged t a judgement)) (rules.takes_memory judgement) takes

    pub refusal_yields : (fault : PutFault) → Fails fault judgement → IfOk r (λ v. v ≡ refusal a.from.exchange a.mid fault) → OnOk r (fault ≢ faults.NoMemory)
        → OnErr r ((fault ≡ faults.NoMemory) ⊎ (is_made (refusal a.from.exchange a.mid fault) ≡ true)) → YieldsJudged r t a judgement
    refusal_yields faults.Collision fails is known lacks = known_refuses faults.Collision fails r is lacks (λ same. cc same)
    refusal_yields faults.Changed fails is known lacks = known_refuses faults.Changed fails r is lacks (λ same. cc same)
    refusal_yields faults.UnknownAlias fails is known lacks = known_refuses faults.UnknownAlias fails r is lacks (λ same. cc same)
    refusal_yields faults.TooMany fails is known lacks = known_refuses faults.TooMany fails r is lacks (λ same. cc same)
    refusal_yields (faults.Higher mid) fails is known lacks = known_refuses (faults.Higher mid) fails r is lacks (λ same. cc same)
    refusal_yields (faults.Other prefixes) fails is known lacks = known_refuses (faults.Other prefixes) fails r is lacks (λ same. cc same)
    refusal_yields (faults.Capacity which number) fails is known lacks = known_refuses (faults.Capacity which number) fails r is lacks (λ same. cc same)
    refusal_yields faults.NoMemory fails is known lacks = lacking_refuses fails r known

-- ---- mitigations that are read

-- one that is wanted is told
pub told_wanted : (x : Exchange) (content : Content) (ms : List LiveView) → ms ≢ [] → is_made (get_reply x content ms) ≡ true
told_wanted x content [] some = absurd (some refl)
told_wanted x content (m ∷ ms) some = refl

-- of these rows the first is wanted
pub first_wanted : (wanted : Option ℕ) (row : LiveView) (rest : List LiveView) → is_wanted wanted row ≡ true → filter (is_wanted wanted) (row ∷ rest) ≢ []
first_wanted wanted row rest wants none = by_test (is_wanted wanted row) wants none
  where
    by_test : (b : Bool) → b ≡ true → cond b (row ∷ filter (is_wanted wanted) rest) (filter (is_wanted wanted) rest) ≡ [] → ⊥
    by_test true is nothing = absurd (cc nothing)
    by_test false is nothing = absurd (false≢true is)

-- ---- with nothing asked of observation

pub yields_ok : {E : Type 0} (r : Result Verdict E) (answer : Verdict) (takes : Bool) → Yields r answer takes → IfOk r (λ v. v ≡ answer)
yields_ok (Ok v) answer takes yields = yields
yields_ok (Err lack) answer takes yields = tt

pub alone_lacks : {D E : Type 0} (decided : Result Verdict E) (made : Result D E) (answer : Verdict) (takes : Bool) → IfErr made (λ fault. decided ≡ Err fault) → Yields decided answer takes
    → OnErr made (takes ≡ true)
alone_lacks decided (Ok decision) answer takes is yields = tt
alone_lacks decided (Err fault) answer takes is yields = subst (λ r. Yields r answer takes) is yields
