-- One event more of a generated world.
use Rattle.std.proofs.Common.{◌≡◌, ℕ, suc, ◌+◌, ◌≤◌, ◌^◌, List, [], ◌∷◌, ◌++◌, length, refl, ap, sym, ◌∙◌, subst, length-append, Ok, Err, arith}
use Rattle.std.specs.Prelude.{Result, IfOk}
use Rattle.dots_host.specs.declared.event.Event.{Event}
use Rattle.dots_host.specs.declared.out.OwnedOut.{OwnedOut}
use Rattle.dots_settings.specs.Settings.{SettingsValue}
use Rattle.dots_settings.proofs.OneFile.{one_settings}
use Rattle.dots_machine.specs.Machine.{State, begun_from, Step}
use Rattle.dots_world.specs.declared.party.Packet.{Packet}
use Rattle.dots_world.specs.Plans.{Plan}
use Rattle.dots_world.specs.Worlds.{World, begun}
use Rattle.dots_world.specs.OneWorld.{HappensWell, RunsWell, RunsChosenWell}
use Rattle.dots_world.proofs.OneWorld.{one_chosen}
use Rattle.dots_world.specs.declared.plan.PlanClient.{PlanClient}
use Rattle.dots_world.specs.declared.event.WorldEvent.{WorldEvent}
use Rattle.world_play.specs.declared.parties.Parties.{Parties}
use Rattle.world_play.specs.declared.plan.WorldPlan.{WorldPlan}
use Rattle.world_play.specs.Parties.{plan_of, plan_with}
use Rattle.world_play.specs.Playing.{PlayedValue, PlaysAs, Goes, HappensSo}
use Rattle.world_play.specs.declared.drawing.Drawn.{Drawn}
use Rattle.world_play.specs.Plans.{server_text, gateway_text, IsGenerated}
use Rattle.world_play.specs.Drawing.{drawn_at, time_after, event_by, event_at}
use Rattle.world_play.specs.Running.{drawn_in, RunsFrom, PlaysDrawn}

drawn_more : {S : Type 0} (step : S → Event → ℕ → List (S × OwnedOut) → S → Type 0) (seed : ℕ) (plan : Plan) (k n : ℕ) (events : List WorldEvent) (next : WorldEvent) (old between new : World S)
    → n ≡ k + length events → RunsChosenWell step (drawn_in seed) plan k old events between → next ≡ drawn_in seed n between → HappensWell step plan between next new
    → RunsChosenWell step (drawn_in seed) plan k old (events ++ next ∷ []) new
drawn_more {S} step seed plan k n [] next old between new is runs drawn happens =
    let same : n ≡ k = omega (arith, is) in (
      new,
      subst (λ (m : ℕ). next ≡ drawn_in seed m old) same (subst (λ (from : World S). next ≡ drawn_in seed n from) runs drawn),
      subst (λ (from : World S). HappensWell step plan from next new) runs happens,
      refl,
    )
drawn_more step seed plan k n (what ∷ events) next old between new is runs drawn happens =
    (runs.0, runs.1, runs.2, drawn_more step seed plan (suc k) n events next runs.0 between new (omega (arith, is)) runs.3 drawn happens)

runs_more : (seed k : ℕ) (plan : Plan) (parties : Parties) (events : List WorldEvent) (what : WorldEvent) (world new : World State) → k ≡ length events → plan_with plan.settings parties ≡ plan
    → RunsFrom seed plan events world → what ≡ event_at seed k (length world.packets) → HappensSo plan.settings parties what world new → RunsFrom seed plan (events ++ what ∷ []) new
unfolding RunsFrom HappensSo
runs_more seed k plan parties events what world new count same runs drawn happens =
    drawn_more (Step plan.settings) seed plan 0 k events what (begun plan (begun_from plan.settings [])) world new (omega (arith, count)) runs drawn
    (subst (λ (so : Plan). HappensWell (Step plan.settings) so world what new) same happens)

runs_none : (seed : ℕ) (plan : Plan) → RunsFrom seed plan [] (begun plan (begun_from plan.settings []))
unfolding RunsFrom
runs_none seed plan = refl

pub plays_more : (seed k : ℕ) (drawn : Drawn) (time : ℕ) (played next : PlayedValue) → PlaysDrawn seed k played → drawn ≡ drawn_at seed k → time ≡ time_after seed (suc k) → next.parties ≡ played.parties
    → ((settings : SettingsValue) → Goes settings (HappensSo settings played.parties (event_by drawn time (length played.packets))) played next) → PlaysDrawn seed (k + 1) next
plays_more seed k drawn time played next shown drawn_is time_is same goes =
    let settings = shown.plan.settings in
    let what = event_by drawn time (length played.packets) in
    let gone = (goes settings).goes shown.world shown.plays in
    let is =
    ap (λ (d : Drawn). event_by d time (length played.packets)) drawn_is ∙ ap (λ (t : ℕ). event_by (drawn_at seed k) t (length played.packets)) time_is
    ∙ ap (λ (sent : List Packet). event_by (drawn_at seed k) (time_after seed (suc k)) (length sent)) shown.plays.packets in
    record {
      plan = shown.plan;
      is_plan = shown.is_plan;
      parties = ap (λ (parties : Parties). plan_with settings parties) same ∙ shown.parties;
      events = shown.events ++ what ∷ [];
      count_is = length-append shown.events (what ∷ []) ∙ ap (λ (n : ℕ). n + 1) shown.count_is;
      world = gone.0;
      runs = runs_more seed k shown.plan played.parties shown.events what shown.world gone.0 (sym shown.count_is) shown.parties shown.runs is gone.1;
      plays = gone.2;
    }

-- of two facts of one result
pub of_both : {X E : Type 0} (r : Result X E) (P Q R : X → Type 0) → ((x : X) → P x → Q x → R x) → IfOk r P → IfOk r Q → IfOk r R
of_both (Ok x) P Q R joins p q = joins x p q
of_both (Err e) P Q R joins p q = tt

-- before the first event
pub plays_none : (seed : ℕ) (plan : WorldPlan) (played : PlayedValue) → IsGenerated (plan_of plan) → plan_with plan.settings played.parties ≡ plan_of plan
    → PlaysAs plan.settings played (begun (plan_of plan) (begun_from plan.settings [])) → PlaysDrawn seed 0 played
plays_none seed plan played is_plan parties plays = record {
  plan = plan_of plan;
  is_plan = is_plan;
  parties = parties;
  events = [];
  count_is = refl;
  world = begun (plan_of plan) (begun_from plan.settings []);
  runs = runs_none seed (plan_of plan);
  plays = plays;
}

-- a run whose events are chosen is a run
pub runs_are : {S : Type 0} (step : S → Event → ℕ → List (S × OwnedOut) → S → Type 0) (choose : ℕ → World S → WorldEvent) (plan : Plan) (k : ℕ) (events : List WorldEvent) (old new : World S)
    → RunsChosenWell step choose plan k old events new → RunsWell step plan old events new
runs_are step choose plan k [] old new runs = runs
runs_are step choose plan k (what ∷ events) old new runs = (runs.0, runs.2, runs_are step choose plan (suc k) events runs.0 new runs.3)

-- ---- one seed has one world

one_plan : (plan other : Plan) → IsGenerated plan → IsGenerated other → plan ≡ other
one_plan plan other is also =
    let settings = one_settings server_text plan.settings other.settings is.settings also.settings in
    let gateway_settings = one_settings gateway_text plan.gateway_settings other.gateway_settings is.gateway_settings also.gateway_settings in
    ap (λ (s : SettingsValue). record plan { settings = s }) settings
    ∙ ap (λ (s : SettingsValue). record plan { settings = other.settings; gateway_settings = s }) gateway_settings
    ∙ ap (λ (n : ℕ). record other { gateway = n; clients = plan.clients }) (is.gateway ∙ sym also.gateway)
    ∙ ap (λ (cs : List PlanClient). record other { clients = cs }) (is.clients ∙ sym also.clients)

pub one_end : (seed count : ℕ) (plan others : Plan) (events words : List WorldEvent) (world other : World State) → IsGenerated plan → IsGenerated others → length events ≡ count → length words ≡ count
    → count ≤ 2 ^ 31 → RunsFrom seed plan events world → RunsFrom seed others words other → world ≡ other
unfolding RunsFrom
one_end seed count plan others events words world other is also long so few runs again =
    (one_chosen plan is.is_plan (drawn_in seed) events words world other (omega (arith, long, few)) (so ∙ sym long) runs
    (subst (λ (p : Plan). RunsChosenWell (Step p.settings) (drawn_in seed) p 0 (begun p (begun_from p.settings [])) words other) (sym (one_plan plan others is also)) again)).1
