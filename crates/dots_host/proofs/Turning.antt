-- A turn, and a run that goes on by it.
use Rattle.std.proofs.Common.{◌≡◌, ◌≢◌, ℕ, ◌+◌, List, [], ◌∷◌, ◌++◌, Option, refl, sym, ap, ◌∙◌, arith}
use Rattle.dots_host.specs.declared.event.Event.{Event}
use Rattle.dots_host.specs.declared.event.What.{What}
use Rattle.dots_host.specs.declared.event.What.TheVariants as what
use Rattle.dots_host.specs.declared.out.OwnedOut.{OwnedOut}
use Rattle.dots_host.specs.Acts.{WireAct, took, gave, Timed, Adds, event_of}
use Rattle.dots_host.specs.Runs.{Owing, resting, ToldStep, Trace, each_telling, Added, IsSend, Gives, IsNoEnd, GoOn, EndsBy, count_of, events_in}
use Rattle.dots_host.proofs.RunLemmas.{added_by, added_then, trace_then, trace_one}

-- ---- acts that go on

go_on_then : (front back : List Timed) → GoOn front → GoOn back → GoOn (front ++ back)
go_on_then [] back f b = b
go_on_then (timed ∷ front) back f b = (f.0, go_on_then front back f.1 b)

events_then : (front back : List Timed) → events_in (front ++ back) ≡ events_in front + events_in back
events_then [] back = omega arith
events_then (timed ∷ front) back = omega (arith, events_then front back)

sends_go_on : (moment : ℕ) (sends : List OwnedOut) (acts : List Timed) → Gives moment sends acts → GoOn acts × (events_in acts ≡ 0)
sends_go_on moment [] [] g = (tt, refl)
sends_go_on moment [] (timed ∷ acts) g = absurd g
sends_go_on moment (out ∷ sends) [] g = absurd g
sends_go_on moment (out ∷ sends) (timed ∷ acts) g = by timed.act g.1 (sends_go_on (moment + 1) sends acts g.2)
  where
    by : (act : WireAct) → IsSend out act → GoOn acts × (events_in acts ≡ 0) → (IsNoEnd act × GoOn acts) × (count_of act + events_in acts ≡ 0)
    by (took event at) is rest = absurd is
    by (gave given done) is rest = ((tt, rest.0), omega (arith, rest.1))

-- what is neither the end nor a failure
pub no_end : (w : What) (room : List ℕ) (at : ℕ) → w ≢ what.End → w ≢ what.Failed → IsNoEnd (took (event_of w room) at)
no_end (what.Datagram from len) room at e f = tt
no_end (what.Opened conn from) room at e f = tt
no_end (what.Piece conn len) room at e f = tt
no_end (what.Closed conn) room at e f = tt
no_end what.Tick room at e f = tt
no_end what.Restart room at e f = tt
no_end what.End room at e f = absurd (e refl)
no_end what.Failed room at e f = absurd (f refl)

module _ {S : Type 0} (step : S → Event → ℕ → List (S × OwnedOut) → S → Type 0) where
  abbrev pub HasRun : Owing S → List Timed → S → Type 0
  HasRun old acts new = (trace : List S) × Trace step old acts trace (resting new)

  abbrev HasRunTo : Owing S → List Timed → Owing S → Type 0
  HasRunTo old acts new = (trace : List S) × Trace step old acts trace new

  -- the acts are a run, in which so many events were taken, and it goes on
  pub record Goes (old : S) (count : ℕ) (new : S) (acts : List Timed) : Type 0 where
    pub run : HasRun (resting old) acts new
    pub goes : GoOn acts
    pub events : events_in acts ≡ count

  -- they are one, and this event came last
  pub record Ends (old : S) (event : Event) (new : S) (acts : List Timed) : Type 0 where
    pub run : HasRun (resting old) acts new
    pub last : EndsBy event acts

  abbrev telling : S → List OwnedOut → Owing S
  telling new outs = record { last = new; owed = each_telling new outs }

  sent : (new : S) (out : OwnedOut) (outs : List OwnedOut) (act : WireAct) → IsSend out act → ToldStep step (telling new (out ∷ outs)) act new (telling new outs)
  sent new out outs (took event at) is = absurd is
  sent new out outs (gave given done) is = (ap (λ o. (new, o) ∷ each_telling new outs) (sym is), refl)

  given_run : (new : S) (moment : ℕ) (outs : List OwnedOut) (acts : List Timed) → Gives moment outs acts → HasRun (telling new outs) acts new
  given_run new moment [] [] gives = ([], refl)
  given_run new moment [] (timed ∷ acts) gives = absurd gives
  given_run new moment (out ∷ outs) [] gives = absurd gives
  given_run new moment (out ∷ outs) (timed ∷ acts) gives =
      let rest = given_run new (moment + 1) outs acts gives.2 in
      (new ∷ rest.0, (telling new outs, sent new out outs timed.act gives.1, rest.1))

  joined : (old mid : Owing S) (new : S) (front back : List Timed) → HasRunTo old front mid → HasRun mid back new → HasRun old (front ++ back) new
  joined old mid new front back a b = (a.0 ++ b.0, trace_then step old mid (resting new) front back a.0 b.0 a.1 b.1)

  -- an event, and its sends
  pub turned : (old new : S) (event : Event) (at : ℕ) (outs : List OwnedOut) (before now moment : ℕ) (acts mid after : Option (List Timed)) → IsNoEnd (took event at)
      → step old event at (each_telling new outs) new → Adds acts before mid now (took event at) → Added mid after (Gives moment outs) → Added acts after (Goes old 1 new)
  turned old new event at outs before now moment acts mid after goes s adds gives =
      added_then acts mid after (λ front. HasRunTo (resting old) front (telling new outs) × (front ≡ (record { moment = before; act = took event at }) ∷ [])) (Gives moment outs) (Goes old 1 new)
      (added_by acts mid before now (took event at) (λ front. HasRunTo (resting old) front (telling new outs) × (front ≡ (record { moment = before; act = took event at }) ∷ [])) adds
      ((new ∷ [], trace_one step (resting old) (telling new outs) (record { moment = before; act = took event at }) new (refl, s)), refl))
      gives
      (λ front back a b. record {
        run = joined (resting old) (telling new outs) new front back a.0 (given_run new moment outs back b);
        goes = go_on_then front back (rw a.1 (goes, tt)) (sends_go_on moment outs back b).0;
        events = events_then front back ∙ omega (arith, ap events_in a.1, (sends_go_on moment outs back b).1);
      })

  pub further : (old mid new : S) (count : ℕ) (acts between after : Option (List Timed)) → Added acts between (Goes old count mid) → Added between after (Goes mid 1 new)
      → Added acts after (Goes old (count + 1) new)
  further old mid new count acts between after a b =
      added_then acts between after (Goes old count mid) (Goes mid 1 new) (Goes old (count + 1) new) a b
      (λ front back x y. record {
        run = joined (resting old) (resting mid) new front back x.run y.run;
        goes = go_on_then front back x.goes y.goes;
        events = omega (arith, events_then front back, x.events, y.events);
      })

  -- an event that comes last and changes nothing
  pub ended : (old mid : S) (count : ℕ) (event : Event) (at before now : ℕ) (acts between after : Option (List Timed)) → step mid event at [] mid → Added acts between (Goes old count mid)
      → Adds between before after now (took event at) → Added acts after (Ends old event mid)
  ended old mid count event at before now acts between after s a adds =
      added_then acts between after (Goes old count mid) (λ back. HasRun (resting mid) back mid × (back ≡ (record { moment = before; act = took event at }) ∷ [])) (Ends old event mid) a
      (added_by between after before now (took event at) (λ back. HasRun (resting mid) back mid × (back ≡ (record { moment = before; act = took event at }) ∷ [])) adds
      ((mid ∷ [], trace_one step (resting mid) (resting mid) (record { moment = before; act = took event at }) mid (refl, s)), refl))
      (λ front back x y. record {
        run = joined (resting old) (resting mid) mid front back x.run y.0;
        last = (front, record { moment = before; act = took event at }, at, refl, ap (λ acts. front ++ acts) y.1, x.goes);
      })
