-- What is taken is in its range.
use Rattle.std.proofs.Common.{◌≡◌, ℕ, Bool, true, false, List, [], ◌∷◌, Option, Some, None, Result, Ok, Err, refl, sym, ap, subst, ◌∙◌, inl, inr}
use Rattle.std.specs.Prelude.{not, find, option_map}
use Rattle.std.proofs.lemmas.Bool.{cases_Bool, cond-true, cond-false}
use Rattle.dots_history.specs.declared.config.Config.{Config}
use Rattle.dots_keys.specs.declared.request.ConfigBody.{ConfigBody}
use Rattle.session_core.specs.declared.setting.Setting.{Setting}
use Rattle.session_core.specs.declared.setting.Setting.TheVariants.{Interval, Missing, Retransmit, Timeout, Factor, Rate}
use Rattle.session_core.specs.declared.negotiating.ConfigFault.{ConfigFault}
use Rattle.session_core.specs.Ranges.{is_accepted, is_refused, chosen}
use Rattle.session_core.specs.Negotiating.{given_by, all_given, refuses_given, setting_of, refused_in, values_by, config_by, judged_by, higher, answered, negotiated, AreAccepted}

of_not : (b : Bool) → not b ≡ false → b ≡ true
of_not true is = refl
of_not false is = sym is

accepted : (setting : Setting) (o : Option ℕ) → is_refused setting o ≡ false → is_accepted setting (chosen setting o) ≡ true
accepted setting (Some value) is = of_not (is_accepted setting value) is
accepted Interval None is = refl
accepted Missing None is = refl
accepted Retransmit None is = refl
accepted Timeout None is = refl
accepted Factor None is = refl
accepted Rate None is = refl

not_first : (given : Setting × Option ℕ) (rest : List (Setting × Option ℕ)) → refused_in (given ∷ rest) ≡ None
    → (refuses_given given ≡ false) × (refused_in rest ≡ None)
not_first given rest none =
    elim (cases_Bool (refuses_given given)) [
      | inl is ↦
          let found = sym (ap (option_map setting_of) (cond-true (refuses_given given) (Some given) (find refuses_given rest) is)) ∙ none in cc found
      | inr out ↦ (out, sym (ap (option_map setting_of) (cond-false (refuses_given given) (Some given) (find refuses_given rest) out)) ∙ none)
    ]

-- none of the six of an offer that stand before others is refused
six : (i m t o f r : Option ℕ) (rest : List (Setting × Option ℕ))
    → refused_in ((Interval, i) ∷ (Missing, m) ∷ (Retransmit, t) ∷ (Timeout, o) ∷ (Factor, f) ∷ (Rate, r) ∷ rest) ≡ None
    → AreAccepted (values_by (record { interval = i; missing = m; retransmit = t; timeout = o; factor = f; rate = r })) × (refused_in rest ≡ None)
six i m t o f r rest none =
    let a = not_first (Interval, i) ((Missing, m) ∷ (Retransmit, t) ∷ (Timeout, o) ∷ (Factor, f) ∷ (Rate, r) ∷ rest) none in
    let b = not_first (Missing, m) ((Retransmit, t) ∷ (Timeout, o) ∷ (Factor, f) ∷ (Rate, r) ∷ rest) a.1 in
    let c = not_first (Retransmit, t) ((Timeout, o) ∷ (Factor, f) ∷ (Rate, r) ∷ rest) b.1 in
    let d = not_first (Timeout, o) ((Factor, f) ∷ (Rate, r) ∷ rest) c.1 in
    let e = not_first (Factor, f) ((Rate, r) ∷ rest) d.1 in
    let g = not_first (Rate, r) rest e.1 in (
      record {
        interval = accepted Interval i a.0;
        missing = accepted Missing m b.0;
        retransmit = accepted Retransmit t c.0;
        timeout = accepted Timeout o d.0;
        factor = accepted Factor f e.0;
        rate = accepted Rate r g.0;
      },
      g.1,
    )

both : (body : ConfigBody) → refused_in (all_given body) ≡ None → AreAccepted (values_by body.mitigating) × AreAccepted (values_by body.idle)
both body none =
    let m = body.mitigating in
    let i = body.idle in
    let first = six m.interval m.missing m.retransmit m.timeout m.factor m.rate (given_by i) none in
    let second = six i.interval i.missing i.retransmit i.timeout i.factor i.rate [] first.1 in
    (first.0, second.0)

config_in : Config → Result Config ConfigFault → Config
config_in other (Ok config) = config
config_in other (Err fault) = other

-- what is taken is what is asked for
pub same_config : (x y : Config) (r : Result Config ConfigFault) → r ≡ Ok x → r ≡ Ok y → x ≡ y
unfolding config_in
same_config x y r one other = sym (ap (config_in x) one) ∙ ap (config_in x) other

by_fault : (r : Option Setting) (body : ConfigBody) (config : Config) → refused_in (all_given body) ≡ r → judged_by r body ≡ Ok config
    → AreAccepted config.mitigating × AreAccepted config.idle
by_fault (Some setting) body config was is = cc is
by_fault None body config was is =
    let same = same_config (config_by body) config (Ok (config_by body)) refl is in
    let P : Config → Type 0 = λ c. AreAccepted c.mitigating × AreAccepted c.idle in
    subst P same (both body was)

by_older : (older : Option ℕ) (body : ConfigBody) (config : Config) → answered older body ≡ Ok config
    → AreAccepted config.mitigating × AreAccepted config.idle
by_older (Some kept) body config is = cc is
by_older None body config is = by_fault (refused_in (all_given body)) body config refl is

pub taken : (held : Option ℕ) (sid : ℕ) (body : ConfigBody) (config : Config) → negotiated held sid body ≡ Ok config
    → AreAccepted config.mitigating × AreAccepted config.idle
taken held sid body config is = by_older (higher sid held) body config is
