-- What an onlooker sees of a server in a run.
use Rattle.std.proofs.Common.{◌≡◌, ℕ, ◌+◌, List, [], ◌∷◌, ◌++◌, Option, Some, None, refl, sym, ap, ◌∙◌, ◌^◌, subst, append-nil, append_assoc}
use Rattle.dots_host.specs.declared.event.Event.{Event}
use Rattle.dots_host.specs.declared.event.Event.TheVariants as event
use Rattle.dots_host.specs.declared.event.What.{What}
use Rattle.dots_host.specs.declared.event.What.TheVariants as what_is
use Rattle.dots_host.specs.declared.out.OwnedOut.{OwnedOut}
use Rattle.dots_host.specs.Acts.{WireAct, took, gave, Timed, Adds, event_of}
use Rattle.dots_host.specs.Runs.{Owing, resting, owed_in, each_telling, Added, IsSend, outs_of, IsNoEnd, GoOn}
use Rattle.dots_host.proofs.RunLemmas.{added_none, added_weaker, added_then, added_by}
use Rattle.dots_host.specs.Media.{Media}
use Rattle.dots_host.specs.Becoming.{RestsWith, KeepsMedia, IsMoment}
use Rattle.dots_settings.specs.Settings.{SettingsValue}
use Rattle.dots_history.specs.declared.entry.Entry.{Entry}
use Rattle.slot_journal.specs.declared.fault.JournalFault.{JournalFault}
use Rattle.dots_machine.specs.declared.ending.Stop.{Stop}
use Rattle.dots_machine.specs.declared.ending.Stop.TheVariants as stop
use Rattle.dots_machine.specs.Endings.{Stops, EndsBehind}
use Rattle.dots_machine.specs.Machine.{State, restarted, Step}
use Rattle.dots_machine.specs.Handlings.{AreSends}
use Rattle.dots_machine.specs.Surviving.{shown_by}
use Rattle.dots_machine.proofs.Surviving.{story_then, step_timely}
use Rattle.dots_server.specs.Turning.{LiesOn}
use Rattle.dots_server.specs.Taking.{stored_of, Took, BrokeOff}
use Rattle.dots_server.specs.ServerValues.{ServerValue, Represents, RestartsWith}
use Rattle.dots_server.specs.Running.{GoesOnTo}
use Rattle.dots_server.specs.Onlooking.{seen_at, SeesAct, SeesTicks, RunIsSeen}
use Rattle.dots_server.proofs.Looping.{restarts_stored}
use Rattle.dots_server.proofs.Taking.{into_timely}
use Rattle.dots_server.proofs.Turning.{none_added}
use Rattle.dots_server.proofs.Turns.{LivesOn, lives_first, lives_then, timed_at, event_story, turns_carried, go_on_then, sends_go_on}

-- ---- acts that were added

same_rest : (front one other : List Timed) → front ++ one ≡ front ++ other → one ≡ other
same_rest [] one other same = same
same_rest (timed ∷ front) one other same = same_rest front one other (cc same)

-- what is known of them in two ways
pub added_both : (old new : Option (List Timed)) (P Q : List Timed → Type 0) → Added old new P → Added old new Q → Added old new (λ more. P more × Q more)
added_both old None P Q a b = tt
added_both None (Some ys) P Q a b = absurd a
added_both (Some xs) (Some ys) P Q a b = (a.0, a.1, (a.2, subst Q (same_rest xs b.0 a.0 (sym b.1 ∙ a.1)) b.2))

-- ---- what is seen of some acts

pub sees_then : (settings : SettingsValue) (front back : List Timed) (told later : List State) (seen more : List ServerValue) → SeesTicks settings front told seen → SeesTicks settings back later more
    → SeesTicks settings (front ++ back) (told ++ later) (seen ++ more)
sees_then settings [] back [] later seen more none sees = subst (λ vs. SeesTicks settings back later (vs ++ more)) (sym none) sees
sees_then settings [] back (state ∷ told) later seen more none sees = absurd none
sees_then settings (timed ∷ front) back [] later seen more first sees = absurd first
sees_then settings (timed ∷ front) back (state ∷ told) later seen more first sees =
    let (here, rest, is, act, sees_rest) = first in (
      here,
      rest ++ more,
      ap (λ vs. vs ++ more) is ∙ append_assoc here rest more,
      act,
      sees_then settings front back told later rest more sees_rest sees,
    )

-- sends show none
pub sees_sends : (settings : SettingsValue) (owed : List (State × OwnedOut)) (acts : List Timed) → AreSends (outs_of owed) acts → SeesTicks settings acts (shown_by owed) []
sees_sends settings [] [] are = refl
sees_sends settings [] (timed ∷ acts) are = absurd are
sees_sends settings (send ∷ owed) [] are = absurd are
sees_sends settings (send ∷ owed) (timed ∷ acts) are = ([], [], refl, by_act timed.act are.0, sees_sends settings owed acts are.1)
  where
    by_act : (act : WireAct) → IsSend send.1 act → SeesAct settings act send.0 []
    by_act (took e at) s = absurd s
    by_act (gave o d) s = refl

-- an event shows what it shows, and its sends none
pub sees_event : (settings : SettingsValue) (timed : Timed) (new : State) (owed : List (State × OwnedOut)) (more : List Timed) (here : List ServerValue) → SeesAct settings timed.act new here → AreSends (outs_of owed) more
    → SeesTicks settings (timed ∷ more) (new ∷ shown_by owed) here
sees_event settings timed new owed more here act are = (here, [], sym (append-nil here), act, sees_sends settings owed more are)

-- what is shown behind an event is what it shows
pub sees_got : (settings : SettingsValue) (what : What) (room : List ℕ) (at : ℕ) (state : State) (server : ServerValue) → Represents server settings state
    → SeesAct settings (took (event_of what room) at) state (seen_at what server)
sees_got settings (what_is.Datagram f n) room at state server represents = refl
sees_got settings (what_is.Opened c f) room at state server represents = refl
sees_got settings (what_is.Piece c n) room at state server represents = refl
sees_got settings (what_is.Closed c) room at state server represents = refl
sees_got settings what_is.Tick room at state server represents = (server, refl, represents)
sees_got settings what_is.Restart room at state server represents = refl
sees_got settings what_is.End room at state server represents = refl
sees_got settings what_is.Failed room at state server represents = refl

-- ---- a server in a run that is looked on at

-- It goes on from the start, and the onlooker came from the one state to the other by what the acts show.
pub record SeenOn {W : Type 0} (sees : W → W → List ServerValue → Type 0) (settings : SettingsValue) (start : State) (server : ServerValue) (n : ℕ) (Rests : Type 0) (first media : Option Media)
    (acts acts_now : Option (List Timed)) (before now : W) : Type 0 where
  pub lives : LivesOn settings start server n Rests first media acts acts_now
  pub seen : List ServerValue
  pub has_seen : sees before now seen
  pub told : Added acts acts_now (λ more. SeesTicks settings more lives.trace seen)

pub seen_first : {W : Type 0} (sees : W → W → List ServerValue → Type 0) (settings : SettingsValue) (start : State) (server : ServerValue) (stored : List Entry) (media : Option Media)
    (acts : Option (List Timed)) (onlooker : W) → RestartsWith server settings start stored → sees onlooker onlooker []
    → SeenOn sees settings start server 0 (RestsWith media (LiesOn settings (stored_of server stored))) media media acts acts onlooker onlooker
seen_first sees settings start server stored media acts onlooker kept has_seen = record {
  lives = lives_first settings start server stored media acts kept;
  seen = [];
  has_seen = has_seen;
  told = added_none acts (λ more. SeesTicks settings more [] []) refl;
}

module _ {W : Type 0} (sees : W → W → List ServerValue → Type 0) (settings : SettingsValue) (start : State) (server : ServerValue) (n moment at : ℕ) (what : Event) (Rests : Type 0) (first a b : Option Media)
    (xs ys zs : Option (List Timed)) (now : ℕ) (here : IsMoment moment a) (keeps : KeepsMedia a b) (took_it : Adds ys moment zs now (took what at)) (before between : W)
    (on : SeenOn sees settings start server n Rests first a xs ys before between) where
  abbrev lives : LivesOn settings start server n Rests first a xs ys
  lives = on.lives

  abbrev event_taken : Timed
  event_taken = timed_at settings moment what at

  abbrev SoFar : List Timed → Type 0
  SoFar front = GoesOnTo settings start lives.state n first a Rests lives.trace front × SeesTicks settings front lives.trace on.seen

  so_far : Added xs ys SoFar
  so_far = added_both xs ys (GoesOnTo settings start lives.state n first a Rests lives.trace) (λ more. SeesTicks settings more lives.trace on.seen) lives.told on.told

  -- an event was taken, and the run goes on
  pub seen_then : (next : ServerValue) (d : Option Media) (ws : Option (List Timed)) (goes : IsNoEnd (took what at)) (done : Took settings lives.state what at server next lives.few b d zs ws)
      (after : W) (more : List ServerValue) → sees before after (on.seen ++ more) → SeesAct settings (took what at) done.new more
      → SeenOn sees settings start next (n + 1) Rests first d xs ws before after
  seen_then next d ws goes done after more has_seen act =
      let stored = restarts_stored server settings lives.state lives.few lives.kept in
      let late = step_timely settings lives.state what at (owed_in done.turns) done.new stored.timely done.step in
      let told : List State = lives.trace ++ done.new ∷ shown_by (owed_in done.turns) in
      let carried = turns_carried settings start done.new.time first lives.state done.turns (stored_of server lives.few) (stored_of next done.few) b d zs ws
      (record { calm = stored.calm; kept = stored.kept; timely = late }) done.chained in
      let R : List Timed → Type 0 = λ acts. SeesTicks settings acts (done.new ∷ shown_by (owed_in done.turns)) more in
      let one = added_by ys zs moment now (took what at) (λ acts. acts ≡ event_taken ∷ []) took_it refl in
      let event = added_then ys zs ws (λ acts. acts ≡ event_taken ∷ []) _ R one carried (λ front back f c.
      subst (λ es. R (es ++ back)) (sym f) (sees_event settings event_taken done.new (owed_in done.turns) back more act c.sends)) in record {
        lives = lives_then settings start server n moment at what Rests first a b xs ys zs now here keeps took_it lives next d ws goes done;
        seen = on.seen ++ more;
        has_seen = has_seen;
        told = added_then xs ys ws (λ acts. SeesTicks settings acts lives.trace on.seen) R (λ acts. SeesTicks settings acts told (on.seen ++ more)) on.told event
            (λ front back f r. sees_then settings front back lives.trace (done.new ∷ shown_by (owed_in done.turns)) on.seen more f r);
      }

  -- the acts so far, and the event behind them, which shows nothing
  seen_behind : (state : State) (how : Stop) (step : Step settings lives.state what at [] state) → EndsBehind how settings state [] (resting state) []
      → ((front : List Timed) → GoOn front → Stops how (front ++ event_taken ∷ [])) → SeesAct settings (took what at) state []
      → Added xs zs (RunIsSeen settings start (lives.trace ++ state ∷ []) (resting state) how on.seen)
  seen_behind state how step ends says none =
      let Q : List Timed → Type 0 = RunIsSeen settings start (lives.trace ++ state ∷ []) (resting state) how on.seen in
      let one = added_by ys zs moment now (took what at) (λ acts. acts ≡ event_taken ∷ []) took_it refl in
      added_then xs ys zs SoFar (λ acts. acts ≡ event_taken ∷ []) Q so_far one (λ front back l f.
      subst (λ es. Q (front ++ es)) (sym f) (
        record {
          whole = front ++ event_taken ∷ [];
          behind = [];
          acts_are = sym (append-nil (front ++ event_taken ∷ []));
          states = lives.trace ++ state ∷ [];
          states_behind = [];
          trace_is = sym (append-nil (lives.trace ++ state ∷ []));
          state = state;
          run = story_then settings (resting start) (resting lives.state) (resting state) front (event_taken ∷ []) lives.trace (state ∷ []) l.0.0.story
              (event_story settings lives.state state moment what at [] [] step tt);
          ends = ends;
          stops = says front l.0.0.goes_on;
        },
        subst (SeesTicks settings (front ++ event_taken ∷ []) (lives.trace ++ state ∷ [])) (append-nil on.seen)
            (sees_then settings front (event_taken ∷ []) lives.trace (state ∷ []) on.seen [] l.1 (sees_event settings event_taken state [] [] [] none tt)),
      ))

  -- an event was taken that changes nothing, and the run ends with it
  pub seen_to_end : (how : Stop) → Step settings lives.state what at [] lives.state → EndsBehind how settings lives.state [] (resting lives.state) []
      → ((front : List Timed) → GoOn front → Stops how (front ++ event_taken ∷ [])) → SeesAct settings (took what at) lives.state []
      → Added xs zs (RunIsSeen settings start (lives.trace ++ lives.state ∷ []) (resting lives.state) how on.seen)
  seen_to_end how step ends says none = seen_behind lives.state how step ends says none

  -- at a restart the disk wasn't recovered
  pub seen_unrecovered : (fault : JournalFault) (vs : Option (List Timed)) → what ≡ event.Restart → Added zs vs (λ more. more ≡ [])
      → Added xs vs (RunIsSeen settings start (lives.trace ++ restarted settings lives.state at ∷ []) (resting (restarted settings lives.state at)) (stop.Unrecovered fault) on.seen)
  seen_unrecovered fault vs is silent =
      let new : State = restarted settings lives.state at in
      let Q : List Timed → Type 0 = RunIsSeen settings start (lives.trace ++ new ∷ []) (resting new) (stop.Unrecovered fault) on.seen in
      let ended = seen_behind new (stop.Unrecovered fault) (subst (λ w. Step settings lives.state w at [] new) (sym is) (refl, refl)) (refl, refl, refl)
      (λ front goes. (front, event_taken, at, ap (λ w. took w at) is, refl, goes)) (subst (λ w. SeesAct settings (took w at) new []) (sym is) refl) in
      added_then xs zs vs Q (λ more. more ≡ []) Q ended silent (λ front back q none. subst Q (ap (λ es. front ++ es) (sym none)) (subst Q (sym (append-nil front)) q))

  -- the disk failed in the middle of an event
  pub seen_to_failure : (c : Option Media) (vs : Option (List Timed)) → IsNoEnd (took what at) → (over : BrokeOff settings lives.state what at server lives.few b c zs vs)
      → Added xs vs (RunIsSeen settings start (lives.trace ++ over.last.left ∷ shown_by (owed_in over.turns)) (record { last = over.last.left; owed = each_telling over.last.left over.last.sends }) stop.DiskFailed on.seen)
  seen_to_failure c vs goes over =
      let stored = restarts_stored server settings lives.state lives.few lives.kept in
      let late = into_timely settings lives.state what at over.turns over.last stored.timely over.into in
      let end : Owing State = record { last = over.last.left; owed = each_telling over.last.left over.last.sends } in
      let Q : List Timed → Type 0 = RunIsSeen settings start (lives.trace ++ over.last.left ∷ shown_by (owed_in over.turns)) end stop.DiskFailed on.seen in
      let carried = turns_carried settings start over.last.left.time first lives.state over.steps (stored_of server lives.few) over.stored b over.there zs over.told
      (record { calm = stored.calm; kept = stored.kept; timely = late }) over.chained in
      let R : List Timed → Type 0 = λ acts. (rest : List Timed) × (acts ≡ event_taken ∷ rest) × AreSends (outs_of (owed_in over.turns)) rest in
      let one = added_by ys zs moment now (took what at) (λ acts. acts ≡ event_taken ∷ []) took_it refl in
      let event = added_then ys zs over.told (λ acts. acts ≡ event_taken ∷ []) _ R one carried (λ front back f s.
      (back, ap (λ es. es ++ back) f, subst (λ owed. AreSends (outs_of owed) back) over.owes s.sends)) in
      let ended = added_then xs ys over.told SoFar R Q so_far event (λ front back l r.
      subst (λ es. Q (front ++ es)) (sym r.1) (
        record {
          whole = front;
          behind = event_taken ∷ r.0;
          acts_are = refl;
          states = lives.trace;
          states_behind = over.last.left ∷ shown_by (owed_in over.turns);
          trace_is = refl;
          state = lives.state;
          run = l.0.0.story;
          ends = record {
            moment = moment;
            came = what;
            at = at;
            turns = over.turns;
            last = over.last;
            into = over.into;
            given = r.0;
            acts_are = refl;
            sent = r.2;
            trace_is = refl;
            end_is = refl;
          };
          stops = go_on_then front (event_taken ∷ r.0) l.0.0.goes_on (goes, sends_go_on (outs_of (owed_in over.turns)) r.0 r.2);
        },
        l.1,
      )) in
      added_then xs over.told vs Q (λ more. more ≡ []) Q ended (none_added over.told vs over.broke.silent) (λ front back q none. subst Q (ap (λ es. front ++ es) (sym none)) (subst Q (sym (append-nil front)) q))

-- the loop has run out
pub seen_out : {W : Type 0} (sees : W → W → List ServerValue → Type 0) (settings : SettingsValue) (start : State) (server : ServerValue) (n : ℕ) (Rests : Type 0) (first media : Option Media)
    (xs ys : Option (List Timed)) (before now : W) (on : SeenOn sees settings start server n Rests first media xs ys before now) → n ≡ 2 ^ 40
    → Added xs ys (RunIsSeen settings start on.lives.trace (resting on.lives.state) stop.TooMany on.seen)
seen_out sees settings start server n Rests first media xs ys before now on is =
    added_weaker xs ys _ (RunIsSeen settings start on.lives.trace (resting on.lives.state) stop.TooMany on.seen)
    (added_both xs ys (GoesOnTo settings start on.lives.state n first media Rests on.lives.trace) (λ more. SeesTicks settings more on.lives.trace on.seen) on.lives.told on.told)
    (λ more l. (
      record {
        whole = more;
        behind = [];
        acts_are = sym (append-nil more);
        states = on.lives.trace;
        states_behind = [];
        trace_is = sym (append-nil on.lives.trace);
        state = on.lives.state;
        run = l.0.0.story;
        ends = (refl, refl, refl);
        stops = (l.0.0.goes_on, l.0.0.count ∙ is);
      },
      l.1,
    ))
