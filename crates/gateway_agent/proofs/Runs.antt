-- A run that goes on by one event, and one that stops.
use Rattle.std.proofs.Common.{◌≡◌, ◌≢◌, ℕ, ◌+◌, ◌≤◌, inr, List, [], ◌∷◌, ◌++◌, length, Option, Some, None, refl, sym, ap, ◌∙◌, ◌^◌, subst, arith, le_refl, append-nil, append_assoc}
use Rattle.std.specs.Prelude.{Err}
use Rattle.dots_host.specs.declared.event.Event.{Event}
use Rattle.dots_host.specs.declared.event.What.{What}
use Rattle.dots_host.specs.declared.event.What.TheVariants as what_is
use Rattle.dots_host.specs.declared.out.OwnedOut.{OwnedOut}
use Rattle.dots_host.specs.Acts.{WireAct, took, gave, Timed, Adds, event_of}
use Rattle.dots_host.specs.Runs.{Owing, resting, each_telling, Added, IsSend, Gives, IsNoEnd, GoOn, count_of, events_in}
use Rattle.dots_host.proofs.RunLemmas.{added_none, added_weaker, added_then, added_by}
use Rattle.dots_host.specs.Media.{Media}
use Rattle.dots_host.specs.Becoming.{Leaves, RestsWith, KeepsMedia, IsMoment}
use Rattle.dots_host.specs.Beside.{KeepsActs}
use Rattle.slot_store.proofs.Steps.{rests_as}
use Rattle.slot_journal.proofs.Crashing.{represents_has}
use Rattle.slot_journal.specs.DiskEntries.{HasEntries, Represents}
use Rattle.slot_store.specs.StoreValues.{JournalValue}
use Rattle.dots_settings.specs.Settings.{SettingsValue}
use Rattle.dots_history.specs.declared.entry.Entry.{Entry}
use Rattle.dots_gateway.specs.declared.exchange.Exchange.{Exchange}
use Rattle.gateway_agent.specs.Crashes.{HasThe}
use Rattle.gateway_agent.specs.Exchanges.{IsStore, last_time}
use Rattle.gateway_agent.specs.Forms.{entries_of}
use Rattle.gateway_agent.specs.Stores.{IsOn}
use Rattle.gateway_agent.specs.declared.stopping.GatewayHalt.TheVariants as halt
use Rattle.gateway_agent.specs.Passing.{GatewayState, Passes}
use Rattle.gateway_agent.specs.Keeping.{AgentValue, IsIn}
use Rattle.gateway_agent.specs.Turning.{HasAlike, HasTurn, Turned, Took, most_of, time_in}
use Rattle.gateway_agent.specs.Surviving.{Story, past_of, NoneBefore, MeansAt}
use Rattle.gateway_agent.specs.Running.{Answer, Stops, HasCome}
use Rattle.gateway_agent.proofs.Joining.{counts_at}
use Rattle.gateway_agent.proofs.Surviving.{IsAt, shown_by, story_length, story_then, gives_late, none_then, none_earlier, leaves_at_none, leaves_at_past, leaves_past, keeps_past, rests_still, event_on, turn_on, broken_on}
use Rattle.gateway_agent.proofs.Turning.{none_added, in_time}

-- ---- acts that go on

pub go_on_then : (front back : List Timed) → GoOn front → GoOn back → GoOn (front ++ back)
go_on_then [] back f b = b
go_on_then (timed ∷ front) back f b = (f.0, go_on_then front back f.1 b)

events_then : (front back : List Timed) → events_in (front ++ back) ≡ events_in front + events_in back
events_then [] back = omega arith
events_then (timed ∷ front) back = omega (arith, events_then front back)

sends_go_on : (moment : ℕ) (sends : List OwnedOut) (acts : List Timed) → Gives moment sends acts → GoOn acts × (events_in acts ≡ 0)
sends_go_on moment [] [] g = (tt, refl)
sends_go_on moment [] (timed ∷ acts) g = absurd g
sends_go_on moment (out ∷ sends) [] g = absurd g
sends_go_on moment (out ∷ sends) (timed ∷ acts) g = by timed.act g.1 (sends_go_on (moment + 1) sends acts g.2)
  where
    by : (act : WireAct) → IsSend out act → GoOn acts × (events_in acts ≡ 0) → (IsNoEnd act × GoOn acts) × (count_of act + events_in acts ≡ 0)
    by (took event at) is rest = absurd is
    by (gave given done) is rest = ((tt, rest.0), omega (arith, rest.1))

-- an event that is neither the end nor a failure goes on
pub no_end : (what : What) (room : List ℕ) (at : ℕ) → what ≢ what_is.End → what ≢ what_is.Failed → IsNoEnd (took (event_of what room) at)
no_end (what_is.Datagram f n) room at e f' = tt
no_end (what_is.Opened c f) room at e f' = tt
no_end (what_is.Piece c n) room at e f' = tt
no_end (what_is.Closed c) room at e f' = tt
no_end what_is.Tick room at e f' = tt
no_end what_is.Restart room at e f' = tt
no_end what_is.End room at e f' = absurd (e refl)
no_end what_is.Failed room at e f' = absurd (f' refl)

-- where the disk is told, the moment is that
moment_past : (moment : ℕ) (media : Option Media) (Any : (ℕ → ℕ) → Type 0) → RestsWith media Any → IsMoment moment media → past_of media ≡ moment
moment_past moment None Any rests is = absurd rests
moment_past moment (Some media) Any rests is = is

abbrev pub owing : GatewayState → List OwnedOut → Owing GatewayState
owing state outs = record { last = state; owed = each_telling state outs }

abbrev pub timed_at : ℕ → Event → ℕ → Timed
timed_at moment what at = record { moment = moment; act = took what at }

-- ---- stories

-- the sends that are owed
sends_story : (new : GatewayState) (moment : ℕ) (outs : List OwnedOut) (acts : List Timed) → Gives moment outs acts → Story (owing new outs) acts (shown_by (each_telling new outs)) (resting new)
sends_story new moment [] [] g = refl
sends_story new moment [] (timed ∷ acts) g = absurd g
sends_story new moment (out ∷ outs) [] g = absurd g
sends_story new moment (out ∷ outs) (timed ∷ acts) g = told timed.act g.1 (sends_story new (moment + 1) outs acts g.2)
  where
    told : (act : WireAct) → IsSend out act → Story (owing new outs) acts (shown_by (each_telling new outs)) (resting new)
        → Story (owing new (out ∷ outs)) ((record { moment = timed.moment; act = act }) ∷ acts) (new ∷ shown_by (each_telling new outs)) (resting new)
    told (took e at) s rest = absurd s
    told (gave o d) s rest = (owing new outs, (ap (λ x. (new, x) ∷ each_telling new outs) (sym s), refl), tt, rest)

-- an event that is taken, and its sends
event_story : (old new : GatewayState) (moment at : ℕ) (what : Event) (outs : List OwnedOut) (sent : ℕ) (acts : List Timed) → Passes old what at outs new → Gives sent outs acts
    → Story (resting old) (timed_at moment what at ∷ acts) (new ∷ shown_by (each_telling new outs)) (resting new)
event_story old new moment at what outs sent acts passes gives = (owing new outs, (refl, (outs, refl, passes)), refl, sends_story new sent outs acts gives)

-- an event that is taken, and nothing is sent
unsent_story : (old new : GatewayState) (moment at : ℕ) (what : Event) (outs : List OwnedOut) → Passes old what at outs new
    → Story (resting old) (timed_at moment what at ∷ []) (new ∷ []) (owing new outs)
unsent_story old new moment at what outs passes = (owing new outs, (refl, (outs, refl, passes)), refl, refl)

-- ---- a run so far

-- The acts are a run from the one state to the other, which tells this trace and goes on after so many events.
pub record RunsTo (from to : GatewayState) (events : ℕ) (trace : List GatewayState) (acts : List Timed) : Type 0 where
  pub story : Story (resting from) acts trace (resting to)
  pub goes_on : GoOn acts
  pub count : events_in acts ≡ events

-- None of the acts came before the run; at no moment more was told than is kept; and so far a crash at any moment leaves what it must.
pub record HasSurvived (settings : SettingsValue) (most : ℕ) (from to : GatewayState) (media media_now : Option Media) (trace : List GatewayState) (acts : List Timed) : Type 0 where
  pub later : NoneBefore (past_of media) acts
  pub is_at : IsAt settings most from to.kept (time_in to) media media_now acts trace

abbrev pub GoesOnTo : SettingsValue → ℕ → GatewayState → GatewayState → ℕ → Option Media → Option Media → Type 0 → List GatewayState → List Timed → Type 0
GoesOnTo settings most from to events media media_now Rests trace acts = RunsTo from to events trace acts × (Rests → HasSurvived settings most from to media media_now trace acts)

-- ---- what lies on the disk

module _ (settings : SettingsValue) (most : ℕ) where
  -- a store that is told by its exchanges
  pub has_the : (now : AgentValue) (state : GatewayState) (t : ℕ) (image : ℕ → ℕ) → IsIn now state → most_of now ≡ most → last_time state.kept ≤ t → HasThe settings now.store.exchanges image → HasAlike settings most t state.kept image
  has_the now state t image is many late held = record {
    some = now.store.exchanges;
    image_has = held;
    store = subst (λ (m : ℕ). IsStore m now.store.exchanges) many is.joined.order;
    alike = counts_at now.store.exchanges state.kept t is.counts late;
  }

  lies_has : (now : AgentValue) (state : GatewayState) (t : ℕ) (image : ℕ → ℕ) → IsIn now state → most_of now ≡ most → last_time state.kept ≤ t → IsOn settings now.store image → HasAlike settings most t state.kept image
  lies_has now state t image is many late lies =
      has_the now state t image is many late (represents_has now.store.journal settings (entries_of now.store.exchanges) image lies)

  pub stored_rests : (now : AgentValue) (state : GatewayState) (t : ℕ) (media : Option Media) → IsIn now state → most_of now ≡ most → last_time state.kept ≤ t
      → RestsWith media (IsOn settings now.store) → RestsWith media (HasAlike settings most t state.kept)
  stored_rests now state t media is many late rests =
      rests_as media (IsOn settings now.store) (HasAlike settings most t state.kept) (λ image lies. lies_has now state t image is many late lies) rests

  pub own_time : (now : AgentValue) (state : GatewayState) → IsIn now state → last_time state.kept ≤ time_in state
  own_time now state is = subst (λ (t : ℕ). last_time state.kept ≤ t) (ap (λ g. g.exchanges.time) is.core) (in_time now.core now.store state is)

  -- ---- an event comes to a run

  module _ (from old : GatewayState) (n moment at : ℕ) (what : Event) (trace : List GatewayState) (media a b : Option Media) (now : AgentValue) (Rests : Type 0)
      (is : IsIn now old) (many : most_of now ≡ most) (here : IsMoment moment a) (rests : Rests → RestsWith a (IsOn settings now.store)) (keeps : KeepsMedia a b) where
    abbrev event_taken : Timed
    event_taken = timed_at moment what at

    abbrev SoFar : List Timed → Type 0
    SoFar front = GoesOnTo settings most from old n media a Rests trace front

    module _ (r : Rests) where
      here_past : past_of a ≡ moment
      here_past = moment_past moment a (IsOn settings now.store) (rests r) here

      pub rests_b : RestsWith b (IsOn settings now.store)
      rests_b = rests_still a b (IsOn settings now.store) (rests r) keeps

      a_to_b : past_of a ≤ past_of b
      a_to_b = keeps_past a b (IsOn settings now.store) (rests r) keeps

    module _ (new : GatewayState) (late : last_time old.kept ≤ time_in new) where
      -- it is taken
      taken_here : (r : Rests) (front : List Timed) → SoFar front → IsAt settings most from old.kept (time_in new) media b (front ++ event_taken ∷ []) (trace ++ new ∷ [])
      taken_here r front lives =
          let survived = lives.1 r in
          event_on settings most from front trace old.kept media a b moment at what new (story_length (resting from) (resting old) front trace lives.0.story) survived.is_at.bounded (here_past r) survived.is_at.survives
          (stored_rests now old (time_in new) a is many late (rests r)) keeps

      behind_late : (r : Rests) (front more : List Timed) → SoFar front → NoneBefore (past_of b) more → NoneBefore (past_of media) (front ++ event_taken ∷ more)
      behind_late r front more lives none =
          let survived = lives.1 r in
          let first = leaves_at_past media a (MeansAt settings most from front trace old.kept) survived.is_at.survives in
          let p = here_past r in
          let q = a_to_b r in
          none_then (past_of media) front (event_taken ∷ more) survived.later (omega (arith, first, p), none_earlier (past_of media) (past_of b) more (omega (arith, first, q)) none)

      -- the acts so far, and the event with its sends
      abbrev with_more : List Timed → List Timed → List Timed
      with_more front more = front ++ event_taken ∷ more

      joined : (front more : List Timed) (told : List GatewayState) (kept : List Exchange) (c : Option Media) → IsAt settings most from kept (time_in new) media c ((front ++ event_taken ∷ []) ++ more) ((trace ++ new ∷ []) ++ told)
          → IsAt settings most from kept (time_in new) media c (with_more front more) (trace ++ new ∷ told)
      joined front more told kept c is_at =
          subst (λ ts. IsAt settings most from kept (time_in new) media c (front ++ event_taken ∷ more) ts) (append_assoc trace (new ∷ []) told)
          (subst (λ xs. IsAt settings most from kept (time_in new) media c xs ((trace ++ new ∷ []) ++ told)) (append_assoc front (event_taken ∷ []) more) is_at)

      abbrev one_taken : List Timed → Type 0
      one_taken more = more ≡ event_taken ∷ []

      -- its turn is carried out, and it is over
      module _ (outs : List OwnedOut) (after : AgentValue) (d : Option Media) (zs ws : Option (List Timed)) (is_now : IsIn after new) (many_now : most_of after ≡ most)
          (passes : Passes old what at outs new) (grows : (fresh : List Exchange) × (new.kept ≡ old.kept ++ fresh))
          (turned : Turned settings most old new outs (IsOn settings now.store) (IsOn settings after.store) b d zs ws) where
        abbrev Turning : List Timed → Type 0
        Turning more = Gives turned.moment outs more

        module _ (r : Rests) where
          rests_c : RestsWith turned.between (IsOn settings after.store)
          rests_c = turned.rests (rests_b r)

          moment_is : past_of turned.between ≡ turned.moment
          moment_is = moment_past turned.moment turned.between (IsOn settings after.store) rests_c turned.is_moment

          before_written : past_of b ≤ past_of turned.between
          before_written = leaves_past b turned.between (IsOn settings now.store) (HasTurn settings most old new) (rests_b r) (turned.writes (rests_b r))

          sends_late : (more : List Timed) → Turning more → NoneBefore (past_of b) more
          sends_late more gives = gives_late (past_of b) turned.moment outs more (let m = moment_is in let w = before_written in omega (arith, m, w)) gives

          -- how the run stands behind it
          stands_behind : (front more : List Timed) → SoFar front → Turning more → IsAt settings most from new.kept (time_in new) media d (with_more front more) (trace ++ new ∷ shown_by (each_telling new outs))
          stands_behind front more lives gives =
              joined front more (shown_by (each_telling new outs)) new.kept d
              (turn_on settings most from old.kept grows.0 new (time_in new) media b turned.between (front ++ event_taken ∷ []) more (trace ++ new ∷ []) outs turned.moment grows.1
              (let m = moment_is in omega (arith, m)) gives (taken_here r front lives)
              (stored_rests now old (time_in new) b is many late (rests_b r)) (turned.writes (rests_b r)) d
              (stored_rests after new (time_in new) turned.between is_now many_now (own_time after new is_now) rests_c) turned.sends)

        pub took_on : (xs ys : Option (List Timed)) (later : ℕ) → IsNoEnd (took what at) → Added xs ys SoFar → Adds ys moment zs later (took what at)
            → Added xs ws (GoesOnTo settings most from new (n + 1) media d Rests (trace ++ new ∷ shown_by (each_telling new outs)))
        took_on xs ys later goes lives took_it =
            let Q : List Timed → Type 0 = GoesOnTo settings most from new (n + 1) media d Rests (trace ++ new ∷ shown_by (each_telling new outs)) in
            let R : List Timed → Type 0 = λ more. (rest : List Timed) × (more ≡ event_taken ∷ rest) × Turning rest in
            let one = added_by ys zs moment later (took what at) one_taken took_it refl in
            let both = added_then ys zs ws one_taken Turning R one turned.gives (λ front back f c. (back, ap (λ xs. xs ++ back) f, c)) in
            added_then xs ys ws SoFar R Q lives both (λ front back l s.
            subst (λ es. Q (front ++ es)) (sym s.1) (
              record {
                story = story_then (resting from) (resting old) (resting new) front (event_taken ∷ s.0) trace (new ∷ shown_by (each_telling new outs)) l.0.story
                    (event_story old new moment at what outs turned.moment s.0 passes s.2);
                goes_on = go_on_then front (event_taken ∷ s.0) l.0.goes_on (goes, (sends_go_on turned.moment outs s.0 s.2).0);
                count = let before = l.0.count in let none = (sends_go_on turned.moment outs s.0 s.2).1 in omega (arith, before, none, events_then front (event_taken ∷ s.0));
              },
              λ r. record { later = behind_late r front s.0 l (sends_late r s.0 s.2); is_at = stands_behind r front s.0 l s.2 },
            ))

      -- nothing of it is sent, and the run ends with it: what is written is of the one state or of the other
      pub unsent_on : (outs : List OwnedOut) (how : Answer) (c : Option Media) (xs ys zs vs : Option (List Timed)) (later : ℕ) → Passes old what at outs new → (grows : (fresh : List Exchange) × (new.kept ≡ old.kept ++ fresh))
          → KeepsActs zs vs → (RestsWith b (IsOn settings now.store) → Leaves b c (HasTurn settings most old new))
          → ((front : List Timed) → GoOn front → Stops how (front ++ event_taken ∷ [])) → Added xs ys SoFar → Adds ys moment zs later (took what at)
          → Added xs vs (HasCome settings most from how media c Rests (trace ++ new ∷ []) (owing new outs))
      unsent_on outs how c xs ys zs vs later passes grows silent writes says lives took_it =
          let Q : List Timed → Type 0 = HasCome settings most from how media c Rests (trace ++ new ∷ []) (owing new outs) in
          let one = added_by ys zs moment later (took what at) one_taken took_it refl in
          let so_far =
          added_then xs ys zs SoFar one_taken Q lives one (λ front back l f.
          subst (λ es. Q (front ++ es)) (sym f) (
            story_then (resting from) (resting old) (owing new outs) front (event_taken ∷ []) trace (new ∷ []) l.0.story (unsent_story old new moment at what outs passes),
            says front l.0.goes_on,
            λ r. (
              behind_late r front [] l tt,
              broken_on settings most from old.kept grows.0 new (time_in new) media b c (front ++ event_taken ∷ []) (trace ++ new ∷ []) grows.1 (taken_here r front l)
                  (stored_rests now old (time_in new) b is many late (rests_b r)) (writes (rests_b r)),
            ),
          )) in
          added_then xs zs vs Q (λ more. more ≡ []) Q so_far (none_added zs vs silent) (λ front back q none. subst Q (ap (λ es. front ++ es) (sym none)) (subst Q (sym (append-nil front)) q))

  -- the loop has run out
  pub ran_out : (from old : GatewayState) (n : ℕ) (trace : List GatewayState) (media now : Option Media) (Rests : Type 0) (a b : Option (List Timed)) → n ≡ 2 ^ 40
      → Added a b (GoesOnTo settings most from old n media now Rests trace)
      → Added a b (HasCome settings most from (Err halt.TooMany) media now Rests trace (resting old))
  ran_out from old n trace media now Rests a b is lives =
      added_weaker a b (GoesOnTo settings most from old n media now Rests trace) (HasCome settings most from (Err halt.TooMany) media now Rests trace (resting old)) lives
      (λ more l. (l.0.story, (l.0.goes_on, l.0.count ∙ is), λ r. ((l.1 r).later, (l.1 r).is_at.survives)))

-- what is kept grows, and grows again
pub grows_then : (a b c : List Exchange) → (more : List Exchange) × (b ≡ a ++ more) → (more : List Exchange) × (c ≡ b ++ more) → (more : List Exchange) × (c ≡ a ++ more)
grows_then a b c first second = (first.0 ++ second.0, second.1 ∙ ap (λ l. l ++ second.0) first.1 ∙ append_assoc a first.0 second.0)

-- ---- a gateway in a run

-- It goes on from the start, after so many events: it is in a state, to which the acts are a run; and where the disk rested at the start, it rests
-- with what the store has there, and the run survived so far.
pub record LivesOn (settings : SettingsValue) (most : ℕ) (start : GatewayState) (now : AgentValue) (n : ℕ) (Rests : Type 0) (first media : Option Media) (acts acts_now : Option (List Timed)) : Type 0 where
  pub state : GatewayState
  pub is_in : IsIn now state
  pub many : most_of now ≡ most
  pub rests : Rests → RestsWith media (IsOn settings now.store)
  pub grown : (more : List Exchange) × (state.kept ≡ start.kept ++ more)
  pub trace : List GatewayState
  pub told : Added acts acts_now (GoesOnTo settings most start state n first media Rests trace)

pub lives_first : (settings : SettingsValue) (most : ℕ) (start : GatewayState) (now : AgentValue) (moment : ℕ) (media : Option Media) (acts : Option (List Timed)) → IsIn now start → most_of now ≡ most
    → LivesOn settings most start now 0 (RestsWith media (IsOn settings now.store)) media media acts acts
lives_first settings most start now moment media acts is many = record {
  state = start;
  is_in = is;
  many = many;
  rests = λ rests. rests;
  grown = ([], sym (append-nil start.kept));
  trace = [];
  told = added_none acts _ (
    record { story = refl; goes_on = tt; count = refl },
    λ rests. record {
      later = tt;
      is_at = record {
        same = refl;
        bounded = λ m. le_refl (length start.kept);
        timed = λ m less. refl;
        survives = leaves_at_none (MeansAt settings most start [] [] start.kept) media (IsOn settings now.store) rests;
      };
    },
  );
}

module _ (settings : SettingsValue) (most : ℕ) (start : GatewayState) (now : AgentValue) (n moment at : ℕ) (what : Event) (Rests : Type 0) (first a b : Option Media) (xs ys zs : Option (List Timed)) (later : ℕ)
    (here : IsMoment moment a) (keeps : KeepsMedia a b) (took_it : Adds ys moment zs later (took what at)) (lives : LivesOn settings most start now n Rests first a xs ys) where
  pub rests_came : Rests → RestsWith b (IsOn settings now.store)
  rests_came r = rests_still a b (IsOn settings now.store) (lives.rests r) keeps

  -- an event was taken, and the run goes on
  pub lives_then : (next : AgentValue) (d : Option Media) (ws : Option (List Timed)) → most_of next ≡ most → IsNoEnd (took what at) → Took settings lives.state what at now next b d zs ws
      → LivesOn settings most start next (n + 1) Rests first d xs ws
  lives_then next d ws many goes done =
      let turned : Turned settings most lives.state done.new done.outs (IsOn settings now.store) (IsOn settings next.store) b d zs ws =
      subst (λ (m : ℕ). Turned settings m lives.state done.new done.outs (IsOn settings now.store) (IsOn settings next.store) b d zs ws) lives.many done.turned in
      record {
        state = done.new;
        is_in = done.is_in;
        many = many;
        rests = λ r. rests_still turned.between d (IsOn settings next.store) (turned.rests (rests_came r)) turned.sends;
        grown = grows_then start.kept lives.state.kept done.new.kept lives.grown done.grows;
        trace = lives.trace ++ done.new ∷ shown_by (each_telling done.new done.outs);
        told = took_on settings most start lives.state n moment at what lives.trace first a b now Rests lives.is_in lives.many here lives.rests keeps done.new done.timely done.outs next d zs ws done.is_in many
            done.made done.grows turned xs ys later goes lives.told took_it;
      }

  -- an event was taken of which nothing was sent, and the run ends with it
  pub comes_unsent : (how : Answer) (outs : List OwnedOut) (new : GatewayState) (c : Option Media) (vs : Option (List Timed)) → Passes lives.state what at outs new → (grows : (fresh : List Exchange) × (new.kept ≡ lives.state.kept ++ fresh))
      → last_time lives.state.kept ≤ time_in new → KeepsActs zs vs → (RestsWith b (IsOn settings now.store) → Leaves b c (HasTurn settings most lives.state new))
      → ((front : List Timed) → GoOn front → Stops how (front ++ timed_at moment what at ∷ []))
      → Added xs vs (HasCome settings most start how first c Rests (lives.trace ++ new ∷ []) (owing new outs))
  comes_unsent how outs new c vs passes grows timely silent writes says =
      unsent_on settings most start lives.state n moment at what lives.trace first a b now Rests lives.is_in lives.many here lives.rests keeps new timely outs how c xs ys zs vs later passes grows silent writes says
      lives.told took_it
