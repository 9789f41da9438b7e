-- A run that goes on by one event, and one that stops.
use Rattle.std.proofs.Common.{◌≡◌, ◌≢◌, ℕ, ◌+◌, ◌≤◌, ◌⊎◌, List, [], ◌∷◌, ◌++◌, length, take, zero, suc, Option, Some, None, refl, sym, ap, ◌∙◌, ◌^◌, subst, arith, le_refl, append-nil, append_assoc, length-append}
use Rattle.dots_host.specs.declared.event.Event.{Event}
use Rattle.dots_host.specs.declared.event.Event.TheVariants as event
use Rattle.dots_host.specs.declared.event.What.{What}
use Rattle.dots_host.specs.declared.event.What.TheVariants as what_is
use Rattle.dots_host.specs.declared.out.OwnedOut.{OwnedOut}
use Rattle.dots_host.specs.Acts.{WireAct, took, gave, Timed, Adds, event_of}
use Rattle.dots_host.specs.Runs.{Owing, resting, Turn, owed_in, each_telling, Added, IsSend, outs_of, Gives, IsNoEnd, GoOn, count_of, events_in}
use Rattle.dots_host.proofs.RunLemmas.{outs_back, added_none, added_weaker, added_then, added_by}
use Rattle.dots_host.specs.Media.{Media}
use Rattle.dots_host.specs.Becoming.{Leaves, RestsWith, KeepsMedia, IsMoment}
use Rattle.dots_host.specs.Beside.{KeepsActs}
use Rattle.slot_store.proofs.Steps.{rests_as}
use Rattle.dots_settings.specs.Settings.{SettingsValue}
use Rattle.dots_history.specs.declared.entry.Entry.{Entry}
use Rattle.dots_history.specs.Fits.{last_time}
use Rattle.dots_history.proofs.Composing.{kept_later}
use Rattle.slot_journal.specs.Kept.{HasKept}
use Rattle.dots_machine.specs.declared.ending.Stop.{Stop}
use Rattle.dots_machine.specs.declared.ending.Stop.TheVariants as stop
use Rattle.slot_journal.specs.declared.fault.JournalFault.{JournalFault}
use Rattle.slot_journal.specs.DiskEntries as journal
use Rattle.slot_journal.specs.Untaken.{IsFailure}
use Rattle.dots_machine.specs.Endings.{Stops, EndsBehind, IsSettled, IsFound}
use Rattle.dots_machine.specs.Machine.{State, restarted, Step, StepInto}
use Rattle.dots_machine.specs.Handlings.{AreSends}
use Rattle.dots_machine.specs.Surviving.{Story, shown_by, time_at, past_of, NoneBefore, MeansAt, LeavesAt}
use Rattle.dots_machine.proofs.Surviving.{IsAt, ran_whole, story_length, story_then, gives_late, none_then, none_earlier, leaves_at_none, leaves_at_so, leaves_at_past, leaves_past, keeps_past, rests_still, event_on, turn_on, broken_on, step_timely}
use Rattle.dots_server.specs.Turning.{Turned, Broke, Stored, LiesOn, IsStored, Grows, last_left, Chained}
use Rattle.slot_journal.proofs.Crashing.{represents_has}
use Rattle.dots_server.proofs.Turning.{none_added}
use Rattle.dots_server.specs.Taking.{stored_of, Took, BrokeOff}
use Rattle.dots_server.specs.ServerValues.{ServerValue, RestartsWith}
use Rattle.dots_server.proofs.Looping.{restarts_stored}
use Rattle.dots_server.proofs.Taking.{into_timely}
use Rattle.dots_server.specs.Running.{GoesOnTo, HasCome, Came}

-- no sends, and no acts of them
pub no_sends : (acts : List Timed) → AreSends [] acts → acts ≡ []
no_sends [] none = refl
no_sends (timed ∷ acts) none = absurd none

pub go_on_then : (front back : List Timed) → GoOn front → GoOn back → GoOn (front ++ back)
go_on_then [] back f b = b
go_on_then (timed ∷ front) back f b = (f.0, go_on_then front back f.1 b)

events_then : (front back : List Timed) → events_in (front ++ back) ≡ events_in front + events_in back
events_then [] back = omega arith
events_then (timed ∷ front) back = omega (arith, events_then front back)

-- ---- sends

are_sends : (moment : ℕ) (outs : List OwnedOut) (acts : List Timed) → Gives moment outs acts → AreSends outs acts
are_sends moment [] [] g = tt
are_sends moment [] (timed ∷ acts) g = absurd g
are_sends moment (out ∷ outs) [] g = absurd g
are_sends moment (out ∷ outs) (timed ∷ acts) g = (g.1, are_sends (moment + 1) outs acts g.2)

sends_then : (outs later : List OwnedOut) (front back : List Timed) → AreSends outs front → AreSends later back → AreSends (outs ++ later) (front ++ back)
sends_then [] later [] back a b = b
sends_then [] later (timed ∷ front) back a b = absurd a
sends_then (out ∷ outs) later [] back a b = absurd a
sends_then (out ∷ outs) later (timed ∷ front) back a b = (a.0, sends_then outs later front back a.1 b)

pub sends_go_on : (sends : List OwnedOut) (acts : List Timed) → AreSends sends acts → GoOn acts
sends_go_on [] [] are = tt
sends_go_on [] (timed ∷ acts) are = absurd are
sends_go_on (out ∷ sends) [] are = absurd are
sends_go_on (out ∷ sends) (timed ∷ acts) are = (by_act timed.act are.0, sends_go_on sends acts are.1)
  where
    by_act : (act : WireAct) → IsSend out act → IsNoEnd act
    by_act (took e at) s = absurd s
    by_act (gave o d) s = tt

sends_count : (sends : List OwnedOut) (acts : List Timed) → AreSends sends acts → events_in acts ≡ 0
sends_count [] [] are = refl
sends_count [] (timed ∷ acts) are = absurd are
sends_count (out ∷ sends) [] are = absurd are
sends_count (out ∷ sends) (timed ∷ acts) are = omega (arith, by_act timed.act are.0, sends_count sends acts are.1)
  where
    by_act : (act : WireAct) → IsSend out act → count_of act ≡ 0
    by_act (took e at) s = absurd s
    by_act (gave o d) s = refl

outs_then : (xs ys : List (State × OwnedOut)) → outs_of (xs ++ ys) ≡ outs_of xs ++ outs_of ys
outs_then [] ys = refl
outs_then (x ∷ xs) ys = ap (λ zs. x.1 ∷ zs) (outs_then xs ys)

shown_append : (xs ys : List (State × OwnedOut)) → shown_by (xs ++ ys) ≡ shown_by xs ++ shown_by ys
shown_append [] ys = refl
shown_append (x ∷ xs) ys = ap (λ zs. x.0 ∷ zs) (shown_append xs ys)

-- an event that is neither goes on
pub no_end : (what : What) (room : List ℕ) (at : ℕ) → what ≢ what_is.End → what ≢ what_is.Failed → IsNoEnd (took (event_of what room) at)
no_end (what_is.Datagram f n) room at e f' = tt
no_end (what_is.Opened c f) room at e f' = tt
no_end (what_is.Piece c n) room at e f' = tt
no_end (what_is.Closed c) room at e f' = tt
no_end what_is.Tick room at e f' = tt
no_end what_is.Restart room at e f' = tt
no_end what_is.End room at e f' = absurd (e refl)
no_end what_is.Failed room at e f' = absurd (f' refl)

-- where the disk is told, the moment is that
moment_past : (moment : ℕ) (media : Option Media) (Any : (ℕ → ℕ) → Type 0) → RestsWith media Any → IsMoment moment media → past_of media ≡ moment
moment_past moment None Any rests is = absurd rests
moment_past moment (Some media) Any rests is = is

-- a history that grows, and grows again
pub grows_then : (a b c : List Entry) → Grows a b → Grows b c → Grows a c
grows_then a b c first second = (first.0 ++ second.0, second.1 ∙ ap (λ es. es ++ second.0) first.1 ∙ append_assoc a first.0 second.0)

-- what a crash leaves of a history is a front of each that builds on it
pub leaves_more : (settings : SettingsValue) (start : State) (first media : Option Media) (acts : List Timed) (trace : List State) (history more : List Entry) → Grows history more
    → LeavesAt first media (MeansAt settings start acts trace history) → LeavesAt first media (MeansAt settings start acts trace more)
leaves_more settings start first media acts trace history more grows leaves =
    leaves_at_so first media (MeansAt settings start acts trace history) (MeansAt settings start acts trace more) (λ k under image means.
    record {
      count = means.count;
      within = let within = means.within in let longer = ap length grows.1 ∙ length-append history grows.0 in omega (arith, within, longer);
      has_shown = means.has_shown;
      image_has = subst (λ es. HasKept settings settings.limits.remembered (time_at k acts trace start.time) es image)
          (sym (ap (take means.count) grows.1 ∙ take_grown means.count history grows.0 means.within)) means.image_has;
    }) leaves
  where
    take_grown : (n : ℕ) (xs ys : List Entry) → n ≤ length xs → take n (xs ++ ys) ≡ take n xs
    take_grown zero xs ys le = refl
    take_grown (suc n) [] ys le = absurd (omega (arith, le))
    take_grown (suc n) (x ∷ xs) ys le = ap (λ zs. x ∷ zs) (take_grown n xs ys (omega (arith, le)))

module _ (settings : SettingsValue) where
  abbrev pub owing : State → List (State × OwnedOut) → Owing State
  owing state owed = record { last = state; owed = owed }

  abbrev HasFrom : ℕ → List Entry → (ℕ → ℕ) → Type 0
  HasFrom t history image = HasKept settings settings.limits.remembered t history image

  abbrev pub timed_at : ℕ → Event → ℕ → Timed
  timed_at moment what at = record { moment = moment; act = took what at }

  -- ---- what lies on the disk

  stored_has : (time t : ℕ) (history : List Entry) (stored : Stored) (image : ℕ → ℕ) → IsStored settings time history stored.entries → last_time history ≤ t → LiesOn settings stored image → HasFrom t history image
  stored_has time t history stored image is le lies = record {
    entries = stored.entries;
    image_has = represents_has stored.journal settings stored.entries image lies;
    calm = is.calm;
    kept = kept_later settings.limits.remembered (last_time history) t stored.entries history le is.kept;
  }

  pub stored_rests : (time t : ℕ) (history : List Entry) (stored : Stored) (media : Option Media) → IsStored settings time history stored.entries → last_time history ≤ t
      → RestsWith media (LiesOn settings stored) → RestsWith media (HasFrom t history)
  stored_rests time t history stored media is le rests =
      rests_as media (LiesOn settings stored) (HasFrom t history) (λ image lies. stored_has time t history stored image is le lies) rests

  -- ---- the turns of an event

  module _ (start : State) (time : ℕ) (first : Option Media) where
    -- what the acts of some turns do to a run in the middle of the event
    pub record Carried (old : State) (turns : List (Turn State)) (stored : Stored) (media media_new : Option Media) (more : List Timed) : Type 0 where
      pub sends : AreSends (outs_of (owed_in turns)) more
      pub late : RestsWith media (LiesOn settings stored) → NoneBefore (past_of media) more
      pub on : RestsWith media (LiesOn settings stored) → (acts : List Timed) (trace : List State) → IsAt settings start old.history time first media acts trace
          → IsAt settings start (last_left old turns).history time first media_new (acts ++ more) (trace ++ shown_by (owed_in turns))

    none_carried : (old : State) (stored : Stored) (media : Option Media) → Carried old [] stored media media []
    none_carried old stored media = record {
      sends = tt;
      late = λ rests. tt;
      on = λ rests acts trace is.
          subst (λ xs. IsAt settings start old.history time first media xs (trace ++ [])) (sym (append-nil acts))
          (subst (λ ts. IsAt settings start old.history time first media acts ts) (sym (append-nil trace)) is);
    }

    module _ (old : State) (turn : Turn State) (stored between : Stored) (a there : Option Media) (xs ys : Option (List Timed))
        (time_is : turn.left.time ≡ time) (grows : Grows old.history turn.left.history)
        (is_old : IsStored settings time old.history stored.entries) (is_new : IsStored settings time turn.left.history between.entries)
        (turned : Turned settings old turn.left turn.sends (LiesOn settings stored) (LiesOn settings between) a there xs ys) where
      module _ (rests : RestsWith a (LiesOn settings stored)) where
        rests_c : RestsWith turned.between (LiesOn settings between)
        rests_c = turned.rests rests

        rests_there : RestsWith there (LiesOn settings between)
        rests_there = rests_still turned.between there (LiesOn settings between) rests_c turned.sends

        moment_is : past_of turned.between ≡ turned.moment
        moment_is = moment_past turned.moment turned.between (LiesOn settings between) rests_c turned.is_moment

        writes : Leaves a turned.between (λ image. HasFrom time old.history image ⊎ HasFrom time turn.left.history image)
        writes = subst (λ t. Leaves a turned.between (λ image. HasFrom t old.history image ⊎ HasFrom t turn.left.history image)) time_is (turned.writes rests)

        before_written : past_of a ≤ past_of turned.between
        before_written = leaves_past a turned.between (LiesOn settings stored) (λ image. HasFrom time old.history image ⊎ HasFrom time turn.left.history image) rests writes

        before_there : past_of a ≤ past_of there
        before_there =
            let w = before_written in
            let s = keeps_past turned.between there (LiesOn settings between) rests_c turned.sends in
            omega (arith, w, s)

      one_carried : (turns : List (Turn State)) (d : Option Media) (front back : List Timed) → Gives turned.moment turn.sends front → Carried turn.left turns between there d back
          → Carried old (turn ∷ turns) stored a d (front ++ back)
      one_carried turns d front back given rest = record {
        sends =
            subst (λ outs. AreSends outs (front ++ back))
            (sym (outs_then (each_telling turn.left turn.sends) (owed_in turns) ∙ ap (λ outs. outs ++ outs_of (owed_in turns)) (outs_back turn.left turn.sends)))
            (sends_then turn.sends (outs_of (owed_in turns)) front back (are_sends turned.moment turn.sends front given) rest.sends);
        late = λ rests.
            none_then (past_of a) front back
            (gives_late (past_of a) turned.moment turn.sends front (let m = moment_is rests in let w = before_written rests in omega (arith, m, w)) given)
            (none_earlier (past_of a) (past_of there) back (before_there rests) (rest.late (rests_there rests)));
        on = λ rests acts trace is.
            let here =
            turn_on settings start old.history grows.0 turn.left time first a turned.between acts front trace turn.sends turned.moment grows.1 (let m = moment_is rests in omega (arith, m)) given is
            (stored_rests time time old.history stored a is_old is_old.timely rests) (writes rests) there
            (stored_rests time time turn.left.history between turned.between is_new is_new.timely (rests_c rests)) turned.sends in
            subst (λ ts. IsAt settings start (last_left turn.left turns).history time first d (acts ++ (front ++ back)) ts)
            (append_assoc trace (shown_by (each_telling turn.left turn.sends)) (shown_by (owed_in turns))
            ∙ ap (λ ts. trace ++ ts) (sym (shown_append (each_telling turn.left turn.sends) (owed_in turns))))
            (subst (λ es. IsAt settings start (last_left turn.left turns).history time first d es ((trace ++ shown_by (each_telling turn.left turn.sends)) ++ shown_by (owed_in turns)))
            (append_assoc acts front back)
            (rest.on (rests_there rests) (acts ++ front) (trace ++ shown_by (each_telling turn.left turn.sends)) here));
      }

    pub turns_carried : (old : State) (turns : List (Turn State)) (stored after : Stored) (a d : Option Media) (xs ys : Option (List Timed)) → IsStored settings time old.history stored.entries
        → Chained settings time old stored turns after a d xs ys → Added xs ys (Carried old turns stored a d)
    turns_carried old [] stored after a d xs ys is chained =
        subst (λ m. Added xs ys (Carried old [] stored a m)) (sym chained.1)
        (subst (λ zs. Added xs zs (Carried old [] stored a a)) (sym chained.2) (added_none xs (Carried old [] stored a a) (none_carried old stored a)))
    turns_carried old (turn ∷ turns) stored after a d xs ys is chained =
        let (between, there, told, time_is, grows, is_new, turned, rest) = chained in
        added_then xs told ys (Gives turned.moment turn.sends) (Carried turn.left turns between there d) (Carried old (turn ∷ turns) stored a d) turned.gives
        (turns_carried turn.left turns between after there d told ys is_new rest)
        (λ front back g c. one_carried old turn stored between a there xs told time_is grows is is_new turned turns d front back g c)

  -- ---- where the turns lead

  pub chain_rests : (time : ℕ) (old : State) (turns : List (Turn State)) (stored after : Stored) (a d : Option Media) (xs ys : Option (List Timed)) → RestsWith a (LiesOn settings stored)
      → Chained settings time old stored turns after a d xs ys → RestsWith d (LiesOn settings after)
  chain_rests time old [] stored after a d xs ys rests chained =
      subst (λ m. RestsWith m (LiesOn settings after)) (sym chained.1) (subst (λ (s : Stored). RestsWith a (LiesOn settings s)) (sym chained.0) rests)
  chain_rests time old (turn ∷ turns) stored after a d xs ys rests chained =
      let (between, there, told, time_is, grows, is_new, turned, rest) = chained in
      chain_rests time turn.left turns between after there d told ys (rests_still turned.between there (LiesOn settings between) (turned.rests rests) turned.sends) rest

  pub chain_stored : (time : ℕ) (old : State) (turns : List (Turn State)) (stored after : Stored) (a d : Option Media) (xs ys : Option (List Timed)) → IsStored settings time old.history stored.entries
      → Chained settings time old stored turns after a d xs ys → IsStored settings time (last_left old turns).history after.entries
  chain_stored time old [] stored after a d xs ys is chained = subst (λ (s : Stored). IsStored settings time old.history s.entries) (sym chained.0) is
  chain_stored time old (turn ∷ turns) stored after a d xs ys is chained =
      let (between, there, told, time_is, grows, is_new, turned, rest) = chained in
      chain_stored time turn.left turns between after there d told ys is_new rest

  pub chain_grows : (time : ℕ) (old : State) (turns : List (Turn State)) (stored after : Stored) (a d : Option Media) (xs ys : Option (List Timed))
      → Chained settings time old stored turns after a d xs ys → Grows old.history (last_left old turns).history
  chain_grows time old [] stored after a d xs ys chained = ([], sym (append-nil old.history))
  chain_grows time old (turn ∷ turns) stored after a d xs ys chained =
      let (between, there, told, time_is, grows, is_new, turned, rest) = chained in
      grows_then old.history turn.left.history (last_left turn.left turns).history grows (chain_grows time turn.left turns between after there d told ys rest)

  -- ---- stories

  -- the sends that are owed
  sends_story : (state : State) (owed : List (State × OwnedOut)) (acts : List Timed) → AreSends (outs_of owed) acts → Story settings (owing state owed) acts (shown_by owed) (resting state)
  sends_story state [] [] are = refl
  sends_story state [] (timed ∷ acts) are = absurd are
  sends_story state (send ∷ owed) [] are = absurd are
  sends_story state (send ∷ owed) (timed ∷ acts) are = told timed.act are.0 (sends_story state owed acts are.1)
    where
      told : (act : WireAct) → IsSend send.1 act → Story settings (owing state owed) acts (shown_by owed) (resting state)
          → Story settings (owing state (send ∷ owed)) ((record { moment = timed.moment; act = act }) ∷ acts) (send.0 ∷ shown_by owed) (resting state)
      told (took e at) s rest = absurd s
      told (gave o d) s rest = (owing state owed, (ap (λ x. (send.0, x) ∷ owed) (sym s), refl), tt, rest)

  -- an event that is taken, and its sends
  pub event_story : (old new : State) (moment : ℕ) (what : Event) (at : ℕ) (owed : List (State × OwnedOut)) (acts : List Timed) → Step settings old what at owed new → AreSends (outs_of owed) acts
      → Story settings (resting old) (timed_at moment what at ∷ acts) (new ∷ shown_by owed) (resting new)
  event_story old new moment what at owed acts s are = (owing new owed, (refl, s), refl, sends_story new owed acts are)

  -- ---- runs

  pub begins : (state : State) (media : Option Media) (Rests : Type 0) → (Rests → RestsWith media (λ image. Unit {0})) → GoesOnTo settings state state 0 media media Rests [] []
  begins state media Rests told = (
    record { story = refl; goes_on = tt; count = refl },
    λ rests. record {
      later = tt;
      bounded = λ m. le_refl (length state.history);
      survives = leaves_at_none (MeansAt settings state [] [] state.history) media (λ image. Unit {0}) (told rests);
    },
  )

  -- An event comes to a run. Where the disk rested at the start of the run, it rests now with what is stored.
  module _ (from old : State) (n moment at : ℕ) (what : Event) (trace : List State) (media a b : Option Media) (stored : Stored) (Rests : Type 0)
      (is : IsStored settings old.time old.history stored.entries) (here : IsMoment moment a) (rests : Rests → RestsWith a (LiesOn settings stored)) (keeps : KeepsMedia a b) where
    abbrev event_taken : Timed
    event_taken = timed_at moment what at

    abbrev SoFar : List Timed → Type 0
    SoFar front = GoesOnTo settings from old n media a Rests trace front

    module _ (r : Rests) where
      here_past : past_of a ≡ moment
      here_past = moment_past moment a (LiesOn settings stored) (rests r) here

      rests_b : RestsWith b (LiesOn settings stored)
      rests_b = rests_still a b (LiesOn settings stored) (rests r) keeps

      a_to_b : past_of a ≤ past_of b
      a_to_b = keeps_past a b (LiesOn settings stored) (rests r) keeps

    module _ (new : State) (late : last_time old.history ≤ new.time) where
      -- it is taken
      taken_here : (r : Rests) (front : List Timed) → SoFar front → IsAt settings from old.history new.time media b (front ++ event_taken ∷ []) (trace ++ new ∷ [])
      taken_here r front lives =
          let survived = lives.1 r in
          event_on settings from front trace old.history media a b moment at what new (story_length settings (resting from) (resting old) front trace lives.0.story) survived.bounded (here_past r) survived.survives
          (stored_rests old.time new.time old.history stored a is late (rests r)) keeps

      behind_late : (r : Rests) (front more : List Timed) → SoFar front → NoneBefore (past_of b) more → NoneBefore (past_of media) (front ++ event_taken ∷ more)
      behind_late r front more lives none =
          let survived = lives.1 r in
          let first = leaves_at_past media a (MeansAt settings from front trace old.history) survived.survives in
          let p = here_past r in
          let q = a_to_b r in
          none_then (past_of media) front (event_taken ∷ more) survived.later (omega (arith, first, p), none_earlier (past_of media) (past_of b) more (omega (arith, first, q)) none)

      -- the acts so far, and the event with its sends
      abbrev with_more : List Timed → List Timed → List Timed
      with_more front more = front ++ event_taken ∷ more

      joined : (front more : List Timed) (told : List State) (history : List Entry) (c : Option Media) → IsAt settings from history new.time media c ((front ++ event_taken ∷ []) ++ more) ((trace ++ new ∷ []) ++ told)
          → IsAt settings from history new.time media c (with_more front more) (trace ++ new ∷ told)
      joined front more told history c is_at =
          subst (λ ts. IsAt settings from history new.time media c (front ++ event_taken ∷ more) ts) (append_assoc trace (new ∷ []) told)
          (subst (λ xs. IsAt settings from history new.time media c xs ((trace ++ new ∷ []) ++ told)) (append_assoc front (event_taken ∷ []) more) is_at)

      abbrev one_taken : List Timed → Type 0
      one_taken more = more ≡ event_taken ∷ []

      -- its turns are carried out
      module _ (turns : List (Turn State)) (after : Stored) (d : Option Media) (zs ws : Option (List Timed)) (chained : Chained settings new.time old stored turns after b d zs ws) where
        abbrev Turning : List Timed → Type 0
        Turning more = Carried from new.time media old turns stored b d more

        is_now : IsStored settings new.time old.history stored.entries
        is_now = record { calm = is.calm; kept = is.kept; timely = late }

        carried : Added zs ws Turning
        carried = turns_carried from new.time media old turns stored after b d zs ws is_now chained

        event_on_acts : (xs ys : Option (List Timed)) (now : ℕ) (Q : List Timed → Type 0) → Added xs ys SoFar → Adds ys moment zs now (took what at)
            → ((front more : List Timed) → SoFar front → Turning more → Q (with_more front more)) → Added xs ws Q
        event_on_acts xs ys now Q lives took_it go =
            let R : List Timed → Type 0 = λ more. (rest : List Timed) × (more ≡ event_taken ∷ rest) × Turning rest in
            let one = added_by ys zs moment now (took what at) one_taken took_it refl in
            let both = added_then ys zs ws one_taken Turning R one carried (λ front back f c. (back, ap (λ xs. xs ++ back) f, c)) in
            added_then xs ys ws SoFar R Q lives both (λ front back f r. subst (λ xs. Q (front ++ xs)) (sym r.1) (go front r.0 f r.2))

        -- how the run stands behind them
        pub stands_behind : (r : Rests) (front more : List Timed) → SoFar front → Turning more
            → IsAt settings from (last_left old turns).history new.time media d (with_more front more) (trace ++ new ∷ shown_by (owed_in turns))
        stands_behind r front more l c =
            joined front more (shown_by (owed_in turns)) (last_left old turns).history d (c.on (rests_b r) (front ++ event_taken ∷ []) (trace ++ new ∷ []) (taken_here r front l))

        pub goes_behind : (front more : List Timed) → SoFar front → Turning more → IsNoEnd (took what at) → GoOn (with_more front more)
        goes_behind front more l c goes = go_on_then front (event_taken ∷ more) l.0.goes_on (goes, sends_go_on (outs_of (owed_in turns)) more c.sends)

        -- all of them, and the event is over
        module _ (step : Step settings old what at (owed_in turns) new) (left : new.history ≡ (last_left old turns).history) where
          story_behind : (front more : List Timed) → SoFar front → Turning more → Story settings (resting from) (with_more front more) (trace ++ new ∷ shown_by (owed_in turns)) (resting new)
          story_behind front more l c =
              story_then settings (resting from) (resting old) (resting new) front (event_taken ∷ more) trace (new ∷ shown_by (owed_in turns)) l.0.story (event_story old new moment what at (owed_in turns) more step c.sends)

          stands_there : (r : Rests) (front more : List Timed) → SoFar front → Turning more → IsAt settings from new.history new.time media d (with_more front more) (trace ++ new ∷ shown_by (owed_in turns))
          stands_there r front more l c =
              subst (λ es. IsAt settings from es new.time media d (with_more front more) (trace ++ new ∷ shown_by (owed_in turns))) (sym left) (stands_behind r front more l c)

          pub took_on : (xs ys : Option (List Timed)) (now : ℕ) → IsNoEnd (took what at) → Added xs ys SoFar → Adds ys moment zs now (took what at)
              → Added xs ws (GoesOnTo settings from new (n + 1) media d Rests (trace ++ new ∷ shown_by (owed_in turns)))
          took_on xs ys now goes lives took_it =
              event_on_acts xs ys now (GoesOnTo settings from new (n + 1) media d Rests (trace ++ new ∷ shown_by (owed_in turns))) lives took_it (λ front more l c.
              let count = l.0.count in (
                record {
                  story = story_behind front more l c;
                  goes_on = goes_behind front more l c goes;
                  count = omega (arith, count, events_then front (event_taken ∷ more), sends_count (outs_of (owed_in turns)) more c.sends);
                },
                λ r. record {
                  later = behind_late r front more l (c.late (rests_b r));
                  bounded = (stands_there r front more l c).bounded;
                  survives = (stands_there r front more l c).survives;
                },
              ))

          -- and the run ends with it
          pub ended_on : (how : Stop) (xs ys : Option (List Timed)) (now : ℕ) → EndsBehind how settings new [] (resting new) []
              → ((front more : List Timed) → GoOn front → AreSends (outs_of (owed_in turns)) more → Stops how (with_more front more)) → Added xs ys SoFar → Adds ys moment zs now (took what at)
              → Added xs ws (HasCome settings from how media d Rests (trace ++ new ∷ shown_by (owed_in turns)) (resting new))
          ended_on how xs ys now ends says lives took_it =
              event_on_acts xs ys now (HasCome settings from how media d Rests (trace ++ new ∷ shown_by (owed_in turns)) (resting new)) lives took_it (λ front more l c. (
                ran_whole settings from new how (with_more front more) (trace ++ new ∷ shown_by (owed_in turns)) ends (story_behind front more l c) (says front more l.0.goes_on c.sends),
                λ r. (behind_late r front more l (c.late (rests_b r)), (stands_there r front more l c).survives),
              ))

    -- the disk failed in the turn behind those that were carried out
    pub broke_on : (turns : List (Turn State)) (last : Turn State) (steps : List (Turn State)) (after : Stored) (there c : Option Media) (xs ys zs ws vs : Option (List Timed)) (now : ℕ)
        (late : last_time old.history ≤ last.left.time) → owed_in steps ≡ owed_in turns
        → StepInto settings old what at turns last → Chained settings last.left.time old stored steps after b there zs ws
        → Broke settings (last_left old steps) last.left (LiesOn settings after) there c ws vs → IsNoEnd (took what at) → Added xs ys SoFar → Adds ys moment zs now (took what at)
        → Added xs vs (HasCome settings from stop.DiskFailed media c Rests (trace ++ last.left ∷ shown_by (owed_in turns)) (owing last.left (each_telling last.left last.sends)))
    broke_on turns last steps after there c xs ys zs ws vs now late owes into chained broke goes lives took_it =
        let told : List State = trace ++ last.left ∷ shown_by (owed_in turns) in
        let Q : List Timed → Type 0 = HasCome settings from stop.DiskFailed media c Rests told (owing last.left (each_telling last.left last.sends)) in
        let stored_there : IsStored settings last.left.time (last_left old steps).history after.entries =
        chain_stored last.left.time old steps stored after b there zs ws (is_now last.left late steps after there zs ws chained) chained in
        let so_far =
        event_on_acts last.left late steps after there zs ws chained xs ys now Q lives took_it (λ front more l carried. (
          record {
            whole = front;
            behind = event_taken ∷ more;
            acts_are = refl;
            states = trace;
            states_behind = last.left ∷ shown_by (owed_in turns);
            trace_is = refl;
            state = old;
            run = l.0.story;
            ends = record {
              moment = moment;
              came = what;
              at = at;
              turns = turns;
              last = last;
              into = into;
              given = more;
              acts_are = refl;
              sent = subst (λ owed. AreSends (outs_of owed) more) owes carried.sends;
              trace_is = refl;
              end_is = refl;
            };
            stops = goes_behind last.left late steps after there zs ws chained front more l carried goes;
          },
          λ r.
              let rests_there : RestsWith there (LiesOn settings after) = chain_rests last.left.time old steps stored after b there zs ws (rests_b r) chained in (
                behind_late last.left late r front more l (carried.late (rests_b r)),
                leaves_more settings from media c (front ++ event_taken ∷ more) told broke.written last.left.history broke.on
                    (broken_on settings from (last_left old steps).history broke.adds.0 (record last.left { history = broke.written }) last.left.time media there c (front ++ event_taken ∷ more) told broke.adds.1
                    (subst (λ owed. IsAt settings from (last_left old steps).history last.left.time media there (front ++ event_taken ∷ more) (trace ++ last.left ∷ shown_by owed)) owes
                    (stands_behind last.left late steps after there zs ws chained r front more l carried))
                    (stored_rests last.left.time last.left.time (last_left old steps).history after there stored_there stored_there.timely rests_there) (broke.writes rests_there)),
              ),
        )) in
        added_then xs ws vs Q (λ more. more ≡ []) Q so_far (none_added ws vs broke.silent) (λ front back q none. subst Q (ap (λ es. front ++ es) (sym none)) (subst Q (sym (append-nil front)) q))

    -- it is a restart, and the disk wasn't recovered
    pub unrecovered_on : (how : Stop) (c : Option Media) (xs ys zs vs : Option (List Timed)) (now : ℕ) → what ≡ event.Restart → Broke settings old (restarted settings old at) (LiesOn settings stored) b c zs vs
        → EndsBehind how settings (restarted settings old at) [] (resting (restarted settings old at)) [] → ((front : List Timed) → GoOn front → Stops how (front ++ event_taken ∷ []))
        → Added xs ys SoFar → Adds ys moment zs now (took what at)
        → Added xs vs (HasCome settings from how media c Rests (trace ++ restarted settings old at ∷ []) (resting (restarted settings old at)))
    unrecovered_on how c xs ys zs vs now is_restart broke ends says lives took_it =
        let new : State = restarted settings old at in
        let late : last_time old.history ≤ new.time = omega arith in
        let Q : List Timed → Type 0 = HasCome settings from how media c Rests (trace ++ new ∷ []) (resting new) in
        let one = added_by ys zs moment now (took what at) (λ more. more ≡ event_taken ∷ []) took_it refl in
        let so_far =
        added_then xs ys zs SoFar (λ more. more ≡ event_taken ∷ []) Q lives one (λ front back l f.
        subst (λ es. Q (front ++ es)) (sym f) (
          ran_whole settings from new how (front ++ event_taken ∷ []) (trace ++ new ∷ []) ends
              (story_then settings (resting from) (resting old) (resting new) front (event_taken ∷ []) trace (new ∷ []) l.0.story
              (event_story old new moment what at [] [] (subst (λ w. Step settings old w at [] new) (sym is_restart) (refl, refl)) tt))
              (says front l.0.goes_on),
          λ r. (
            behind_late new late r front [] l tt,
            leaves_more settings from media c (front ++ event_taken ∷ []) (trace ++ new ∷ []) broke.written new.history broke.on
                (broken_on settings from old.history broke.adds.0 (record new { history = broke.written }) new.time media b c (front ++ event_taken ∷ []) (trace ++ new ∷ []) broke.adds.1
                (taken_here new late r front l)
                (stored_rests old.time new.time old.history stored b is late (rests_b r)) (broke.writes (rests_b r))),
          ),
        )) in
        added_then xs zs vs Q (λ more. more ≡ []) Q so_far (none_added zs vs broke.silent) (λ front back q none. subst Q (ap (λ es. front ++ es) (sym none)) (subst Q (sym (append-nil front)) q))

  -- the loop has run out
  pub ran_out : (from old : State) (n : ℕ) (trace : List State) (media now : Option Media) (Rests : Type 0) (a b : Option (List Timed)) → n ≡ 2 ^ 40 → Added a b (GoesOnTo settings from old n media now Rests trace)
      → Added a b (HasCome settings from stop.TooMany media now Rests trace (resting old))
  ran_out from old n trace media now Rests a b is lives =
      added_weaker a b (GoesOnTo settings from old n media now Rests trace) (HasCome settings from stop.TooMany media now Rests trace (resting old)) lives
      (λ more l. (
        ran_whole settings from old stop.TooMany more trace (refl, refl, refl) l.0.story (l.0.goes_on, l.0.count ∙ is),
        λ r. ((l.1 r).later, (l.1 r).survives),
      ))

-- ---- a server in a run

-- It goes on from the start, after so many events: it keeps a state, to which the acts are a run; and where the disk rested at the start, it rests
-- with what the server has there, and the run survived so far.
pub record LivesOn (settings : SettingsValue) (start : State) (server : ServerValue) (n : ℕ) (Rests : Type 0) (first media : Option Media) (acts acts_now : Option (List Timed)) : Type 0 where
  pub state : State
  pub few : List Entry
  pub kept : RestartsWith server settings state few
  pub rests : Rests → RestsWith media (LiesOn settings (stored_of server few))
  pub grown : Grows start.history state.history
  pub trace : List State
  pub told : Added acts acts_now (GoesOnTo settings start state n first media Rests trace)

abbrev pub lives_first : (settings : SettingsValue) (start : State) (server : ServerValue) (stored : List Entry) (media : Option Media) (acts : Option (List Timed)) → RestartsWith server settings start stored
    → LivesOn settings start server 0 (RestsWith media (LiesOn settings (stored_of server stored))) media media acts acts
lives_first settings start server stored media acts kept = record {
  state = start;
  few = stored;
  kept = kept;
  rests = λ rests. rests;
  grown = ([], sym (append-nil start.history));
  trace = [];
  told = added_none acts _ (begins settings start media (RestsWith media (LiesOn settings (stored_of server stored)))
      (λ rests. rests_as media (LiesOn settings (stored_of server stored)) (λ image. Unit {0}) (λ image lies. tt) rests));
}

module _ (settings : SettingsValue) (start : State) (server : ServerValue) (n moment at : ℕ) (what : Event) (Rests : Type 0) (first a b : Option Media) (xs ys zs : Option (List Timed)) (now : ℕ)
    (here : IsMoment moment a) (keeps : KeepsMedia a b) (took_it : Adds ys moment zs now (took what at)) (lives : LivesOn settings start server n Rests first a xs ys) where
  abbrev now_stored : Stored
  now_stored = stored_of server lives.few

  pub is_stored : IsStored settings lives.state.time lives.state.history lives.few
  is_stored = restarts_stored server settings lives.state lives.few lives.kept

  pub rests_came : Rests → RestsWith b (journal.Represents server.journal settings lives.few)
  rests_came r = rests_still a b (LiesOn settings now_stored) (lives.rests r) keeps

  -- an event was taken, and the run goes on
  abbrev pub lives_then : (next : ServerValue) (d : Option Media) (ws : Option (List Timed)) → IsNoEnd (took what at) → Took settings lives.state what at server next lives.few b d zs ws
      → LivesOn settings start next (n + 1) Rests first d xs ws
  lives_then next d ws goes done =
      let late = step_timely settings lives.state what at (owed_in done.turns) done.new is_stored.timely done.step in record {
        state = done.new;
        few = done.few;
        kept = done.kept;
        rests = λ r. chain_rests settings done.new.time lives.state done.turns now_stored (stored_of next done.few) b d zs ws (rests_came r) done.chained;
        grown = grows_then start.history lives.state.history done.new.history lives.grown
            (subst (λ es. Grows lives.state.history es) (sym done.left) (chain_grows settings done.new.time lives.state done.turns now_stored (stored_of next done.few) b d zs ws done.chained));
        trace = lives.trace ++ done.new ∷ shown_by (owed_in done.turns);
        told = took_on settings start lives.state n moment at what lives.trace first a b now_stored Rests is_stored here lives.rests keeps done.new late done.turns (stored_of next done.few) d zs ws done.chained done.step done.left
            xs ys now goes lives.told took_it;
      }

  -- an event was taken that changes nothing, and the run ends with it
  pub comes_to_end : (how : Stop) → Step settings lives.state what at [] lives.state → IsSettled how (resting lives.state) → IsFound how
      → EndsBehind how settings lives.state [] (resting lives.state) [] → ((front : List Timed) → GoOn front → Stops how (front ++ (record { moment = moment; act = took what at }) ∷ []))
      → Came settings start how first b Rests xs zs (resting lives.state)
  comes_to_end how step settled found ends says = record {
    settled = settled;
    trace = lives.trace ++ lives.state ∷ [];
    told = ended_on settings start lives.state n moment at what lives.trace first a b now_stored Rests is_stored here lives.rests keeps lives.state is_stored.timely [] now_stored b zs zs (refl, refl, refl) step refl
        how xs ys now ends (λ front more goes none. subst (λ es. Stops how (front ++ (record { moment = moment; act = took what at }) ∷ es)) (sym (no_sends more none)) (says front goes)) lives.told took_it;
    grows = lives.grown;
    own = lives.kept.represents.represents.own;
    found = found;
  }

  -- the disk failed in the middle of an event
  pub comes_to_failure : (c : Option Media) (vs : Option (List Timed)) → IsNoEnd (took what at) → (over : BrokeOff settings lives.state what at server lives.few b c zs vs)
      → Came settings start stop.DiskFailed first c Rests xs vs (record { last = over.last.left; owed = each_telling over.last.left over.last.sends })
  comes_to_failure c vs goes over = record {
    settled = tt;
    trace = lives.trace ++ over.last.left ∷ shown_by (owed_in over.turns);
    told = broke_on settings start lives.state n moment at what lives.trace first a b now_stored Rests is_stored here lives.rests keeps over.turns over.last over.steps over.stored over.there c xs ys zs over.told vs now
        (into_timely settings lives.state what at over.turns over.last is_stored.timely over.into) over.owes over.into over.chained over.broke goes lives.told took_it;
    grows = grows_then start.history (last_left lives.state over.steps).history over.last.left.history
        (grows_then start.history lives.state.history (last_left lives.state over.steps).history lives.grown
        (chain_grows settings over.last.left.time lives.state over.steps now_stored over.stored b over.there zs over.told over.chained))
        over.grows;
    own = over.broke.own;
    found = tt;
  }

  -- at a restart the disk wasn't recovered
  pub comes_unrecovered : (fault : JournalFault) (c : Option Media) (vs : Option (List Timed)) → what ≡ event.Restart → IsFailure fault
      → Broke settings lives.state (restarted settings lives.state at) (journal.Represents server.journal settings lives.few) b c zs vs
      → Came settings start (stop.Unrecovered fault) first c Rests xs vs (resting (restarted settings lives.state at))
  comes_unrecovered fault c vs is found broke = record {
    settled = refl;
    trace = lives.trace ++ restarted settings lives.state at ∷ [];
    told = unrecovered_on settings start lives.state n moment at what lives.trace first a b now_stored Rests is_stored here lives.rests keeps (stop.Unrecovered fault) c xs ys zs vs now is broke (refl, refl, refl)
        (λ front goes. (front, record { moment = moment; act = took what at }, at, ap (λ w. took w at) is, refl, goes)) lives.told took_it;
    grows = lives.grown;
    own = broke.own;
    found = found;
  }

-- acts that stay as they were
pub keeps_same : (acts : Option (List Timed)) → KeepsActs acts acts
keeps_same None = tt
keeps_same (Some xs) = refl
