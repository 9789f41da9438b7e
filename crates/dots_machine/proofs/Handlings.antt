-- A run of acts is one by handlings.
use Rattle.std.proofs.Common.{◌≡◌, List, [], ◌∷◌, sym, ap, ◌∙◌, subst}
use Rattle.dots_host.specs.declared.out.OwnedOut.{OwnedOut}
use Rattle.dots_host.specs.Acts.{WireAct, took, gave, Timed}
use Rattle.dots_host.specs.Runs.{Owing, resting, ToldStep, Trace, outs_of}
use Rattle.dots_settings.specs.Settings.{SettingsValue}
use Rattle.dots_machine.specs.Machine.{State, Step}
use Rattle.dots_machine.specs.Handlings.{Handling, onto_sends, first_sends, onto_handlings, handlings_of, IsHandling, EachHandling}

module _ (settings : SettingsValue) where
  owed_by : (old between : Owing State) (act : WireAct) (told : State) (sends : List OwnedOut) → ToldStep (Step settings) old act told between → outs_of between.owed ≡ sends
      → outs_of old.owed ≡ onto_sends act sends
  owed_by old between (took event at) told sends s rest = ap outs_of s.0
  owed_by old between (gave out done) told sends s rest = ap outs_of s.0 ∙ ap (λ outs. out ∷ outs) rest

  -- what is owed is sent before the next event
  owed_first : (old : Owing State) (acts : List Timed) (trace : List State) (new : State) → Trace (Step settings) old acts trace (resting new) → outs_of old.owed ≡ first_sends acts
  owed_first old [] [] new t = ap (λ owing. outs_of owing.owed) (sym t)
  owed_first old [] (told ∷ trace) new t = absurd t
  owed_first old (timed ∷ acts) [] new t = absurd t
  owed_first old (timed ∷ acts) (told ∷ trace) new t = owed_by old t.0 timed.act told (first_sends acts) t.1 (owed_first t.0 acts trace new t.2)

  abbrev Handled : State → List Handling → State → Type 0
  Handled old handlings new = EachHandling (IsHandling settings) old handlings new

  by_act : (old between : Owing State) (act : WireAct) (told : State) (sends : List OwnedOut) (handlings : List Handling) (new : State) → ToldStep (Step settings) old act told between → outs_of between.owed ≡ sends
      → Handled between.last handlings new → Handled old.last (onto_handlings act sends handlings) new
  by_act old between (took event at) told sends handlings new s sent rest = (between.last, record { owed = between.owed; step = s.1; sent = sent }, rest)
  by_act old between (gave out done) told sends handlings new s sent rest = subst (λ state. Handled state handlings new) s.1 rest

  pub by_handlings : (old : Owing State) (acts : List Timed) (trace : List State) (new : State) → Trace (Step settings) old acts trace (resting new) → Handled old.last (handlings_of acts) new
  by_handlings old [] [] new t = ap (λ owing. owing.last) t
  by_handlings old [] (told ∷ trace) new t = absurd t
  by_handlings old (timed ∷ acts) [] new t = absurd t
  by_handlings old (timed ∷ acts) (told ∷ trace) new t =
      by_act old t.0 timed.act told (first_sends acts) (handlings_of acts) new t.1 (owed_first t.0 acts trace new t.2) (by_handlings t.0 acts trace new t.2)

pub each_weaker : (P Q : State → Handling → State → Type 0) → ((old : State) (handling : Handling) (new : State) → P old handling new → Q old handling new)
    → (old : State) (handlings : List Handling) (new : State) → EachHandling P old handlings new → EachHandling Q old handlings new
each_weaker P Q weaker old [] new each = each
each_weaker P Q weaker old (handling ∷ handlings) new each = (each.0, weaker old handling each.0 each.1, each_weaker P Q weaker each.0 handlings new each.2)
