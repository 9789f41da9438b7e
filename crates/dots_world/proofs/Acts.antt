-- The acts of the server are a run of its machine.
use Rattle.std.specs.List.{range_with_len}
use Rattle.std.proofs.Common.{◌≡◌, ℕ, max, List, [], ◌∷◌, ◌++◌, length, map, slice_get, Option, Some, None, refl, sym, ap, ◌∙◌, subst}
use Rattle.dots_host.specs.declared.event.Event.{Event}
use Rattle.dots_host.specs.declared.event.Event.TheVariants as event
use Rattle.dots_host.specs.declared.out.OwnedOut.{OwnedOut}
use Rattle.dots_host.specs.Acts.{WireAct, took, Timed}
use Rattle.dots_host.specs.Runs.{Owing, resting, ToldStep, Trace, outs_of}
use Rattle.dots_world.specs.Plans.{Party, a_client, the_gateway, the_server, Plan}
use Rattle.dots_world.specs.Worlds.{Packet, World, begun, WorldEvent, asks, ticks, restarts, gateway_restarts, delivers, sent_act, Serves, made, unmade, AllHandOut, Comes, Delivers, Begins, Runs}

-- acts without their moments
abbrev pub acts_of : List Timed → List WireAct
acts_of acts = map (λ (t : Timed). t.act) acts

map_append : {A B : Type 0} (f : A → B) (xs ys : List A) → map f (xs ++ ys) ≡ map f xs ++ map f ys
map_append f [] ys = refl
map_append f (x ∷ xs) ys = ap (λ zs. f x ∷ zs) (map_append f xs ys)

abbrev untimed : WireAct → Timed
untimed act = record { moment = 0; act = act }

acts_back : (acts : List WireAct) → acts_of (map untimed acts) ≡ acts
acts_back [] = refl
acts_back (act ∷ acts) = ap (λ rest. act ∷ rest) (acts_back acts)

module _ {S : Type 0} (step : S → Event → ℕ → List (S × OwnedOut) → S → Type 0) where
  trace_then : (xs ys : List Timed) (t u : List S) (old between new : Owing S) → Trace step old xs t between → Trace step between ys u new → Trace step old (xs ++ ys) (t ++ u) new
  trace_then [] ys [] u old between new first second = subst (λ o. Trace step o ys u new) first second
  trace_then (x ∷ xs) ys (state ∷ t) u old between new first second = (first.0, first.1, trace_then xs ys t u first.0 between new first.2 second)
  trace_then [] ys (state ∷ t) u old between new first second = absurd first
  trace_then (x ∷ xs) ys [] u old between new first second = absurd first

  -- the moments are nothing to a trace
  retimed : (xs ys : List Timed) (t : List S) (old new : Owing S) → acts_of xs ≡ acts_of ys → Trace step old xs t new → Trace step old ys t new
  retimed [] [] t old new same trace = trace
  retimed [] (y ∷ ys) t old new same trace = absurd (cc same)
  retimed (x ∷ xs) [] t old new same trace = absurd (cc same)
  retimed (x ∷ xs) (y ∷ ys) [] old new same trace = absurd trace
  retimed (x ∷ xs) (y ∷ ys) (state ∷ t) old new same trace =
      let act : x.act ≡ y.act = cc same in
      let rest : acts_of xs ≡ acts_of ys = cc same in
      (trace.0, subst (λ a. ToldStep step old a state trace.0) act trace.1, retimed xs ys t trace.0 new rest trace.2)

  -- the sends that are owed
  sends_traced : (s : S) (owed : List (S × OwnedOut)) → (trace : List S) × Trace step (record { last = s; owed = owed }) (map untimed (map sent_act (outs_of owed))) trace (resting s)
  sends_traced s [] = ([], refl)
  sends_traced s (send ∷ owed) = let rest = sends_traced s owed in (send.0 ∷ rest.0, (record { last = s; owed = owed }, (refl, refl), rest.1))

  event_traced : (old : S) (came : Event) (at : ℕ) (owed : List (S × OwnedOut)) (new : S) → step old came at owed new
      → (trace : List S) × Trace step (resting old) (map untimed (took came at ∷ map sent_act (outs_of owed))) trace (resting new)
  event_traced old came at owed new st = let rest = sends_traced new owed in (old ∷ rest.0, (record { last = new; owed = owed }, (refl, st), rest.1))

  -- ---- the world's

  abbrev HasRun : S → List WireAct → S → Type 0
  HasRun start acts server = (trace : List S) × Trace step (resting start) (map untimed acts) trace (resting server)

  module _ (plan : Plan) (start : S) where
    abbrev Run : World S → Type 0
    Run w = HasRun start w.acts w.server

    served_run : (old : World S) (came : Event) (new : World S) → Run old → Serves step plan old came new → Run new
    served_run old came new run (owed, server, st, leaves) =
        subst Run (sym leaves)
        (let more = event_traced old.server came old.time owed server st in (
          run.0 ++ more.0,
          subst (λ acts. Trace step (resting start) acts (run.0 ++ more.0) (resting server)) (sym (map_append untimed old.acts (took came old.time ∷ map sent_act (outs_of owed))))
              (trace_then (map untimed old.acts) _ run.0 more.0 (resting start) (resting old.server) (resting server) run.1 more.1),
        ))

    all_run : (places : List ℕ) (old new : World S) → Run old → AllHandOut plan places old new → Run new
    all_run [] old new run h = subst Run (sym h) run
    all_run (i ∷ places) old new run h = all_run places h.0 new (subst Run (sym h.1.leaves) run) h.2

    comes_run : (old : World S) (p : Packet) (target : Option Party) (new : World S) → Run old → Comes step plan old p target new → Run new
    comes_run old p None new run c = subst Run (sym c) run
    comes_run old p (Some the_server) new run c = served_run old _ new run c.2
    comes_run old p (Some the_gateway) new run c = subst Run (sym c.2.3) run
    comes_run old p (Some (a_client i)) new run c = subst Run (sym c.leaves) run

    delivers_run : (old : World S) (o : Option Packet) (new : World S) → Run old → Delivers step plan old o new → Run new
    delivers_run old None new run d = subst Run (sym d) run
    delivers_run old (Some p) new run d = comes_run old p p.target new run d.1

    begins_run : (old : World S) (what : WorldEvent) (new : World S) → Run old → Begins step plan old what new → Run new
    begins_run old (asks i what) new run (made c k is may leaves) = subst Run (sym leaves) run
    begins_run old (asks i what) new run (unmade none leaves) = subst Run (sym leaves) run
    begins_run old (ticks at) new run b = served_run (record old { time = max old.time at }) event.Tick new run b
    begins_run old restarts new run b = served_run old event.Restart new run b
    begins_run old gateway_restarts new run b = subst Run (sym b.3) run
    begins_run old (delivers k) new run b = delivers_run old (slice_get old.packets k) new run b

    over_run : (old : World S) (events : List WorldEvent) (new : World S) → Run old → Runs step plan old events new → Run new
    over_run old [] new run r = subst Run (sym r) run
    over_run old (what ∷ events) new run r = over_run r.0 events new (all_run (range_with_len 0 (length plan.clients)) r.1.0 r.0 (begins_run old what r.1.0 run r.1.1) r.1.2) r.2

    -- whatever the moments of the acts are
    pub acts_run : (events : List WorldEvent) (w : World S) → Runs step plan (begun plan start) events w → (timed : List Timed) → acts_of timed ≡ w.acts → (trace : List S) × Trace step (resting start) timed trace (resting w.server)
    acts_run events w r timed same =
        let run = over_run (begun plan start) events w ([], refl) r in
        (run.0, retimed (map untimed w.acts) timed run.0 (resting start) (resting w.server) (acts_back w.acts ∙ sym same) run.1)
