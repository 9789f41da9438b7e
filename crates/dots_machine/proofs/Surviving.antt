-- What a crash leaves, one part of a run after the other.
use Rattle.std.proofs.Common.{◌≡◌, ℕ, ◌+◌, ◌<◌, ◌≤◌, ◌⊎◌, inl, inr, Bool, true, false, zero, suc, if◌then◌else◌, max, List, [], ◌∷◌, ◌++◌, length, take, Option, Some, None, refl, sym, ap, ◌∙◌, subst, arith, append_assoc, append-nil, length-append, le_refl, map}
use Rattle.std.specs.Prelude.{nat_lt}
use Rattle.std.proofs.Math.Path.{fun_ext}
use Rattle.std.proofs.lemmas.Bool.Decides.{nat_tests}
use Rattle.dots_host.specs.declared.event.Event.{Event}
use Rattle.dots_host.specs.declared.event.Event.TheVariants as event
use Rattle.dots_host.specs.declared.out.OwnedOut.{OwnedOut}
use Rattle.dots_host.specs.Acts.{WireAct, took, gave, Timed}
use Rattle.dots_host.specs.Runs.{Owing, resting, Turn, Chain, Trace, each_telling, owed_in, IsSend, outs_of, Gives}
use Rattle.dots_host.proofs.RunLemmas.{outs_back}
use Rattle.dots_host.specs.Media.{Medium, Media, IsImage, all_media}
use Rattle.dots_host.specs.Becoming.{EachMedium, KeepsMedia, Leaves, RestsWith}
use Rattle.slot_store.proofs.Steps.{image_at_rest}
use Rattle.dots_settings.specs.Settings.{SettingsValue}
use Rattle.dots_history.specs.declared.entry.Entry.{Entry}
use Rattle.dots_history.specs.Histories.{Within}
use Rattle.dots_history.specs.Fits.{last_or, last_time}
use Rattle.dots_history.proofs.Composing.{kept_later}
use Rattle.slot_journal.specs.Kept.{HasKept}
use Rattle.dots_machine.specs.Verdict.{Verdict}
use Rattle.dots_machine.specs.declared.verdict.Verdict.TheVariants as verdict
use Rattle.dots_machine.specs.declared.ending.Stop.{Stop}
use Rattle.dots_machine.specs.declared.ending.Stop.TheVariants as stop
use Rattle.dots_machine.specs.Endings.{Stops, EndsBehind, Ran}
use Rattle.dots_machine.specs.Machine.{State, later, after, AnswersFront, receiving, Takes, Step, Hears, lapsed}
use Rattle.dots_machine.proofs.Hearing.{answer_history, answer_time, tick_history, tick_time, hears_adds, after_time}
use Rattle.dots_machine.proofs.Returning.{history_lapses}
use Rattle.dots_machine.specs.Signals.{back_of, last_heard}
use Rattle.dots_machine.proofs.Connections.{opens_history, opens_time}
use Rattle.dots_machine.proofs.Fronts.{owed_then, fronts_grow, takes_grows, takes_time}
use Rattle.dots_machine.proofs.Observing.{notified_history}
use Rattle.dots_machine.specs.Surviving.{Story, shown_by, entries_shown, shown, time_shown, time_at, past_of, NoneBefore, MeansAt, EachFrom, LeavesAt}

-- ---- runs with all that they tell

module _ (settings : SettingsValue) where
  pub story_length : (old new : Owing State) (acts : List Timed) (trace : List State) → Story settings old acts trace new → length acts ≡ length trace
  story_length old new [] [] s = refl
  story_length old new [] (told ∷ trace) s = absurd s
  story_length old new (timed ∷ acts) [] s = absurd s
  story_length old new (timed ∷ acts) (told ∷ trace) s = let same = story_length s.0 new acts trace s.3 in omega (arith, same)

  pub story_then : (old between new : Owing State) (front back : List Timed) (told later : List State) → Story settings old front told between → Story settings between back later new
      → Story settings old (front ++ back) (told ++ later) new
  story_then old between new [] back [] later a b = subst (λ start. Story settings start back later new) a b
  story_then old between new (timed ∷ front) back (state ∷ told) later a b = (a.0, a.1, a.2, story_then a.0 between new front back told later a.3 b)
  story_then old between new [] back (state ∷ told) later a b = absurd a
  story_then old between new (timed ∷ front) back [] later a b = absurd a

  pub story_trace : (old new : Owing State) (acts : List Timed) (trace : List State) → Story settings old acts trace new → Trace (Step settings) old acts trace new
  story_trace old new [] [] s = s
  story_trace old new [] (told ∷ trace) s = absurd s
  story_trace old new (timed ∷ acts) [] s = absurd s
  story_trace old new (timed ∷ acts) (told ∷ trace) s = (s.0, s.1, story_trace s.0 new acts trace s.3)

-- a run that ends with whole events is one, by each ending but where the disk failed
pub ran_whole : (settings : SettingsValue) (start last : State) (how : Stop) (acts : List Timed) (trace : List State) → EndsBehind how settings last [] (resting last) [] → Story settings (resting start) acts trace (resting last) → Stops how acts
    → Ran settings start trace (resting last) how acts
ran_whole settings start last how acts trace ends story stops = record {
  whole = acts;
  behind = [];
  acts_are = sym (append-nil acts);
  states = trace;
  states_behind = [];
  trace_is = sym (append-nil trace);
  state = last;
  run = story;
  ends = ends;
  stops = stops;
}

-- and where the events ended, all acts are those of whole events
pub ended_story : (settings : SettingsValue) (start : State) (end : Owing State) (acts : List Timed) (trace : List State) → Ran settings start trace end stop.Ended acts → Story settings (resting start) acts trace end
ended_story settings start end acts trace ran =
    subst (λ e. Story settings (resting start) acts trace e) (sym ran.ends.2)
    (subst (λ xs. Story settings (resting start) xs trace (resting ran.state)) (sym (ran.acts_are ∙ ap (λ xs. ran.whole ++ xs) ran.ends.0 ∙ append-nil ran.whole))
    (subst (λ ts. Story settings (resting start) ran.whole ts (resting ran.state)) (sym (ran.trace_is ∙ ap (λ ts. ran.states ++ ts) ran.ends.1 ∙ append-nil ran.states)) ran.run))

-- ---- before and after a moment

no_earlier : (a b : ℕ) → b ≤ a → nat_lt a b ≡ false
no_earlier a b le = grind (arith, nat_tests, le)

earlier : (a b : ℕ) → a < b → nat_lt a b ≡ true
earlier a b less = grind (arith, nat_tests, less)

pub gives_late : (m moment : ℕ) (outs : List OwnedOut) (acts : List Timed) → m ≤ moment → Gives moment outs acts → NoneBefore m acts
gives_late m moment [] [] le g = tt
gives_late m moment [] (timed ∷ acts) le g = absurd g
gives_late m moment (out ∷ outs) [] le g = absurd g
gives_late m moment (out ∷ outs) (timed ∷ acts) le g = let at = g.0 in (omega (arith, at, le), gives_late m (moment + 1) outs acts (omega (arith, le)) g.2)

pub none_then : (m : ℕ) (front back : List Timed) → NoneBefore m front → NoneBefore m back → NoneBefore m (front ++ back)
none_then m [] back a b = b
none_then m (timed ∷ front) back a b = (a.0, none_then m front back a.1 b)

shown_then : (m : ℕ) (front back : List Timed) (told later : List State) (n : ℕ) → length front ≡ length told → shown m (front ++ back) (told ++ later) n ≡ shown m back later (shown m front told n)
shown_then m [] back [] later n same = refl
shown_then m [] back (state ∷ told) later n same = absurd (omega (arith, same))
shown_then m (timed ∷ front) back [] later n same = absurd (omega (arith, same))
shown_then m (timed ∷ front) back (state ∷ told) later n same =
    shown_then m front back told later (if nat_lt timed.moment m then entries_shown timed.act state n else n) (omega (arith, same))

time_then : (m : ℕ) (front back : List Timed) (told later : List State) (t : ℕ) → length front ≡ length told → time_at m (front ++ back) (told ++ later) t ≡ time_at m back later (time_at m front told t)
time_then m [] back [] later t same = refl
time_then m [] back (state ∷ told) later t same = absurd (omega (arith, same))
time_then m (timed ∷ front) back [] later t same = absurd (omega (arith, same))
time_then m (timed ∷ front) back (state ∷ told) later t same =
    time_then m front back told later (if nat_lt timed.moment m then time_shown timed.act state t else t) (omega (arith, same))

pub none_earlier : (m n : ℕ) (acts : List Timed) → m ≤ n → NoneBefore n acts → NoneBefore m acts
none_earlier m n [] le late = tt
none_earlier m n (timed ∷ acts) le late = let at = late.0 in (omega (arith, at, le), none_earlier m n acts le late.1)

shown_late : (m : ℕ) (acts : List Timed) (trace : List State) (n : ℕ) → NoneBefore m acts → shown m acts trace n ≡ n
shown_late m [] trace n late = refl
shown_late m (timed ∷ acts) [] n late = refl
shown_late m (timed ∷ acts) (told ∷ trace) n late =
    ap (λ b. shown m acts trace (if b then entries_shown timed.act told n else n)) (no_earlier timed.moment m late.0) ∙ shown_late m acts trace n late.1

time_late : (m : ℕ) (acts : List Timed) (trace : List State) (t : ℕ) → NoneBefore m acts → time_at m acts trace t ≡ t
time_late m [] trace t late = refl
time_late m (timed ∷ acts) [] t late = refl
time_late m (timed ∷ acts) (told ∷ trace) t late =
    ap (λ b. time_at m acts trace (if b then time_shown timed.act told t else t)) (no_earlier timed.moment m late.0) ∙ time_late m acts trace t late.1

-- ---- sends

-- none of the sends tells more entries
abbrev pub ShowFew : ℕ → List (State × OwnedOut) → Type 0
ShowFew most [] = Unit {0}
ShowFew most (send ∷ owed) = (length send.0.history ≤ most) × ShowFew most owed

few_after : (act : WireAct) (out : OwnedOut) (told : State) (b : Bool) (n most : ℕ) → IsSend out act → n ≤ most → length told.history ≤ most → (if b then entries_shown act told n else n) ≤ most
few_after (took e at) out told b n most s less few = absurd s
few_after (gave o d) out told true n most s less few = few
few_after (gave o d) out told false n most s less few = less

shown_sends : (m moment : ℕ) (owed : List (State × OwnedOut)) (acts : List Timed) (n most : ℕ) → Gives moment (outs_of owed) acts → n ≤ most → ShowFew most owed → shown m acts (shown_by owed) n ≤ most
shown_sends m moment [] [] n most g less few = less
shown_sends m moment [] (timed ∷ acts) n most g less few = absurd g
shown_sends m moment (send ∷ owed) [] n most g less few = absurd g
shown_sends m moment (send ∷ owed) (timed ∷ acts) n most g less few =
    shown_sends m (moment + 1) owed acts (if nat_lt timed.moment m then entries_shown timed.act send.0 n else n) most g.2
    (few_after timed.act send.1 send.0 (nat_lt timed.moment m) n most g.1 less few.0) few.1

no_time_sent : (act : WireAct) (out : OwnedOut) (told : State) (b : Bool) (t : ℕ) → IsSend out act → (if b then time_shown act told t else t) ≡ t
no_time_sent (took e at) out told b t s = absurd s
no_time_sent (gave o d) out told true t s = refl
no_time_sent (gave o d) out told false t s = refl

time_sends : (m moment : ℕ) (owed : List (State × OwnedOut)) (acts : List Timed) (t : ℕ) → Gives moment (outs_of owed) acts → time_at m acts (shown_by owed) t ≡ t
time_sends m moment [] [] t g = refl
time_sends m moment [] (timed ∷ acts) t g = absurd g
time_sends m moment (send ∷ owed) [] t g = absurd g
time_sends m moment (send ∷ owed) (timed ∷ acts) t g =
    ap (λ u. time_at m acts (shown_by owed) u) (no_time_sent timed.act send.1 send.0 (nat_lt timed.moment m) t g.1) ∙ time_sends m (moment + 1) owed acts t g.2

gives_length : (m : ℕ) (owed : List (State × OwnedOut)) (acts : List Timed) → Gives m (outs_of owed) acts → length acts ≡ length (shown_by owed)
gives_length m [] [] g = refl
gives_length m [] (timed ∷ acts) g = absurd g
gives_length m (send ∷ owed) [] g = absurd g
gives_length m (send ∷ owed) (timed ∷ acts) g = let same = gives_length (m + 1) owed acts g.2 in omega (arith, same)

-- ---- a step

few_each : (new : State) (outs : List OwnedOut) → ShowFew (length new.history) (each_telling new outs)
few_each new [] = tt
few_each new (out ∷ outs) = (le_refl (length new.history), few_each new outs)

none_owed : (most : ℕ) (owed : List (State × OwnedOut)) → owed ≡ [] → ShowFew most owed
none_owed most owed is = subst (ShowFew most) (sym is) tt

few_grow : (few most : ℕ) (owed : List (State × OwnedOut)) → few ≤ most → ShowFew few owed → ShowFew most owed
few_grow few most [] less tell = tt
few_grow few most (send ∷ owed) less tell = let first = tell.0 in (omega (arith, less, first), few_grow few most owed less tell.1)

few_both : (most : ℕ) (xs ys : List (State × OwnedOut)) → ShowFew most xs → ShowFew most ys → ShowFew most (xs ++ ys)
few_both most [] ys tell more = more
few_both most (send ∷ xs) ys tell more = (tell.0, few_both most xs ys tell.1 more)

-- the history that a chain of turns comes to has what each of them left
few_fronts : (settings : SettingsValue) (conn : ℕ) (state : State) (turns : List (Turn State)) (new : State) → Chain (AnswersFront settings conn) state turns new → ShowFew (length new.history) (owed_in turns)
few_fronts settings conn state [] new x = tt
few_fronts settings conn state (turn ∷ turns) new x =
    let more = fronts_grow settings conn turn.left turns new x.1 in
    let size = ap length more.1 in
    let sum = length-append turn.left.history more.0 in
    few_both (length new.history) (each_telling turn.left turn.sends) (owed_in turns)
    (few_grow (length turn.left.history) (length new.history) (each_telling turn.left turn.sends) (omega (arith, size, sum)) (few_each turn.left turn.sends))
    (few_fronts settings conn turn.left turns new x.1)

few_turns : (settings : SettingsValue) (conn : ℕ) (state : State) (turns : List (Turn State)) (new : State) → Takes settings conn state turns new → ShowFew (length new.history) (owed_in turns)
few_turns settings conn state turns new x =
    let last : Turn State = record { sends = x.notices; left = new } in
    let size = ap length (notified_history settings x.rested new x.notices x.notified) in
    subst (ShowFew (length new.history)) (sym (ap owed_in x.turns_are ∙ owed_then x.answered (last ∷ [])))
    (few_both (length new.history) (owed_in x.answered) (owed_in (last ∷ []))
    (few_grow (length x.rested.history) (length new.history) (owed_in x.answered) (omega (arith, size)) (few_fronts settings conn state x.answered x.rested x.fronts))
    (few_both (length new.history) (each_telling new x.notices) [] (few_each new x.notices) tt))

-- the sends of a step tell no more than the history after it has
pub step_shows_few : (settings : SettingsValue) (old : State) (what : Event) (at : ℕ) (owed : List (State × OwnedOut)) (new : State) → Step settings old what at owed new → ShowFew (length new.history) owed
step_shows_few settings old (event.Datagram peer datagram) at owed new step = subst (ShowFew (length new.history)) (sym step.1) (few_each new step.0)
step_shows_few settings old event.End at owed new step = none_owed _ owed step.0
step_shows_few settings old event.Failed at owed new step = none_owed _ owed step.0
step_shows_few settings old (event.Opened c p) at owed new step = subst (ShowFew (length new.history)) (sym step.1) (few_each new step.0)
step_shows_few settings old (event.Piece c p) at owed new step = subst (ShowFew (length new.history)) (sym step.1) (few_turns settings c (receiving c p (later old at)) step.0 new step.2)
step_shows_few settings old (event.Closed c) at owed new step = none_owed _ owed step.0
step_shows_few settings old event.Tick at owed new step = subst (ShowFew (length new.history)) (sym step.1) (few_each new step.0)
step_shows_few settings old event.Restart at owed new step = none_owed _ owed step.0

abbrev Grows : State → State → Type 0
Grows old new = (extra : List Entry) × (new.history ≡ old.history ++ extra)

same_grows : (old new : State) → new.history ≡ old.history → Grows old new
same_grows old new is = ([], is ∙ sym (append-nil old.history))

pub verdict_grows : (v : Verdict) (state : State) → Grows state (after v state)
verdict_grows verdict.Silent state = same_grows state state refl
verdict_grows (verdict.Reply reply) state = same_grows state state refl
verdict_grows (verdict.LongReply reply) state = same_grows state state refl
verdict_grows (verdict.Retrieves y body) state = same_grows state state refl
verdict_grows (verdict.Accept reply entry) state = (entry ∷ [], refl)

heard_grows : (settings : SettingsValue) (state : State) (peer : ℕ) (datagram : List ℕ) (met : State) → Hears settings state peer datagram met → Grows state met
heard_grows settings state peer datagram met hears = by_which (hears_adds settings peer datagram state met hears)
  where
    by_which : (met.history ≡ state.history) ⊎ (met.history ≡ state.history ++ back_of settings state.time state.history peer) → Grows state met
    by_which (inl same) = same_grows state met same
    by_which (inr more) = (back_of settings state.time state.history peer, more)

lapsed_grows : (settings : SettingsValue) (state : State) → Grows state (lapsed settings state)
lapsed_grows settings state = let more = history_lapses settings state.time state.history (map last_heard state.contacts) in (more.0, more.1)

-- a step adds to the history, or leaves it
pub step_grows : (settings : SettingsValue) (old : State) (what : Event) (at : ℕ) (owed : List (State × OwnedOut)) (new : State) → Step settings old what at owed new → (extra : List Entry) × (new.history ≡ old.history ++ extra)
step_grows settings old (event.Datagram peer datagram) at owed new step =
    let now = later old at in
    let a = step.2 in
    let met = heard_grows settings now peer datagram a.met a.hears in
    let grown = verdict_grows a.decided a.met in (
      met.0 ++ grown.0,
      answer_history settings now peer datagram step.0 new a ∙ grown.1 ∙ ap (λ es. es ++ grown.0) met.1 ∙ append_assoc old.history met.0 grown.0,
    )
step_grows settings old event.End at owed new step = same_grows old new (ap (λ (state : State). state.history) step.1)
step_grows settings old event.Failed at owed new step = same_grows old new (ap (λ (state : State). state.history) step.1)
step_grows settings old (event.Opened c p) at owed new step = same_grows old new (opens_history (later old at) p c step.0 new step.2)
step_grows settings old (event.Piece c p) at owed new step = takes_grows settings c (receiving c p (later old at)) step.0 new step.2
step_grows settings old (event.Closed c) at owed new step = same_grows old new (ap (λ (state : State). state.history) step.1)
step_grows settings old event.Tick at owed new step =
    let grown = lapsed_grows settings (later old at) in (grown.0, tick_history settings (later old at) step.0 new step.2 ∙ grown.1)
step_grows settings old event.Restart at owed new step = same_grows old new (ap (λ (state : State). state.history) step.1)

moved_on : (old new : State) (at : ℕ) → last_time old.history ≤ old.time → new.time ≡ max at old.time → last_time old.history ≤ new.time
moved_on old new at timely is = omega (arith, timely, is)

-- and its time isn't before that of the last entry
pub step_timely : (settings : SettingsValue) (old : State) (what : Event) (at : ℕ) (owed : List (State × OwnedOut)) (new : State) → last_time old.history ≤ old.time → Step settings old what at owed new
    → last_time old.history ≤ new.time
step_timely settings old (event.Datagram peer datagram) at owed new timely step =
    let now = later old at in
    moved_on old new at timely (answer_time settings now peer datagram step.0 new step.2 ∙ after_time step.2.decided now)
step_timely settings old event.End at owed new timely step = subst (λ (state : State). last_time old.history ≤ state.time) (sym step.1) timely
step_timely settings old event.Failed at owed new timely step = subst (λ (state : State). last_time old.history ≤ state.time) (sym step.1) timely
step_timely settings old (event.Opened c p) at owed new timely step = moved_on old new at timely (opens_time (later old at) p c step.0 new step.2)
step_timely settings old (event.Piece c p) at owed new timely step = moved_on old new at timely (takes_time settings c (receiving c p (later old at)) step.0 new step.2)
step_timely settings old (event.Closed c) at owed new timely step = moved_on old new at timely (ap (λ (state : State). state.time) step.1)
step_timely settings old event.Tick at owed new timely step = moved_on old new at timely (tick_time settings (later old at) step.0 new step.2)
step_timely settings old event.Restart at owed new timely step =
    let is = ap (λ (state : State). state.time) step.1 in omega (arith, is)

-- ---- the disk, part by part

each_so : (m : ℕ) (media : List Medium) (P R : ℕ → (ℕ → ℕ) → Type 0) → ((k : ℕ) → m ≤ k → k < m + length media → (image : ℕ → ℕ) → P k image → R k image) → EachFrom m media P → EachFrom m media R
each_so m [] P R goes each = tt
each_so m (medium ∷ media) P R goes each =
    ((λ image is. goes m (le_refl m) (omega arith) image (each.0 image is)), each_so (m + 1) media P R (λ k low high. goes k (omega (arith, low)) (omega (arith, high))) each.1)

each_then : (m : ℕ) (front back : List Medium) (P : ℕ → (ℕ → ℕ) → Type 0) → EachFrom m front P → EachFrom (m + length front) back P → EachFrom m (front ++ back) P
each_then m [] back P a b = subst (λ k. EachFrom k back P) (omega arith) b
each_then m (medium ∷ front) back P a b = (a.0, each_then (m + 1) front back P a.1 (subst (λ k. EachFrom k back P) (omega arith) b))

-- how many moments came
many : (old new : Media) (added : List Medium) → all_media new ≡ all_media old ++ added → length new.past ≡ length old.past + length added
many old new added is =
    let count = ap length is in
    let before = length-append old.past (old.now ∷ []) in
    let after_it = length-append new.past (new.now ∷ []) in
    let both = length-append (all_media old) added in
    omega (arith, count, before, after_it, both)

module _ (P : ℕ → (ℕ → ℕ) → Type 0) where
  pub leaves_at_then : (old between new : Option Media) → LeavesAt old between P → LeavesAt between new P → LeavesAt old new P
  leaves_at_then None between new a b = absurd a
  leaves_at_then (Some old) None new a b = absurd a
  leaves_at_then (Some old) (Some between) None a b = absurd b
  leaves_at_then (Some old) (Some between) (Some new) a b = (
    a.0 ++ b.0,
    b.1 ∙ ap (λ media. media ++ b.0) a.1 ∙ append_assoc (all_media old) a.0 b.0,
    each_then (length old.past + 1) a.0 b.0 P a.2 (subst (λ k. EachFrom k b.0 P) (let count = many old between a.0 a.1 in omega (arith, count)) b.2),
  )

  pub leaves_at_none : (media : Option Media) (Any : (ℕ → ℕ) → Type 0) → RestsWith media Any → LeavesAt media media P
  leaves_at_none None Any rests = absurd rests
  leaves_at_none (Some media) Any rests = ([], sym (append-nil (all_media media)), tt)

  each_at : (m : ℕ) (media : List Medium) (R : (ℕ → ℕ) → Type 0) → ((k : ℕ) → m ≤ k → k < m + length media → (image : ℕ → ℕ) → R image → P k image)
      → EachMedium media (λ medium. (image : ℕ → ℕ) → IsImage medium image → R image) → EachFrom m media P
  each_at m [] R goes each = tt
  each_at m (medium ∷ media) R goes each =
      ((λ image is. goes m (le_refl m) (omega arith) image (each.0 image is)), each_at (m + 1) media R (λ k low high. goes k (omega (arith, low)) (omega (arith, high))) each.1)

  -- what holds at each moment of a part holds there at its moment
  pub leaves_there : (old new : Option Media) (Any R : (ℕ → ℕ) → Type 0) → RestsWith old Any → ((k : ℕ) → past_of old < k → k ≤ past_of new → (image : ℕ → ℕ) → R image → P k image)
      → Leaves old new R → LeavesAt old new P
  leaves_there None new Any R rests goes leaves = absurd rests
  leaves_there (Some old) None Any R rests goes leaves = absurd leaves
  leaves_there (Some old) (Some new) Any R rests goes leaves = (
    leaves.0,
    leaves.1,
    each_at (length old.past + 1) leaves.0 R (λ k low high. goes k (omega (arith, low)) (let count = many old new leaves.0 leaves.1 in omega (arith, high, count))) leaves.2,
  )

pub leaves_at_so : (old new : Option Media) (P R : ℕ → (ℕ → ℕ) → Type 0) → ((k : ℕ) → k ≤ past_of new → (image : ℕ → ℕ) → P k image → R k image) → LeavesAt old new P → LeavesAt old new R
leaves_at_so None new P R goes leaves = absurd leaves
leaves_at_so (Some old) None P R goes leaves = absurd leaves
leaves_at_so (Some old) (Some new) P R goes leaves = (
  leaves.0,
  leaves.1,
  each_so (length old.past + 1) leaves.0 P R (λ k low high. goes k (let count = many old new leaves.0 leaves.1 in omega (arith, high, count))) leaves.2,
)

-- an image of a disk at rest has what a read gives
pub image_rests : (medium : Medium) (image : ℕ → ℕ) (R : (ℕ → ℕ) → Type 0) → medium.pending ≡ [] → R medium.seen → IsImage medium image → R image
image_rests medium image R none image_has is = subst R (sym (fun_ext (image_at_rest medium image none is))) image_has

-- a disk that rests, and on which nothing is written, has the same at each moment
pub rests_on : (old new : Option Media) (R : (ℕ → ℕ) → Type 0) → RestsWith old R → KeepsMedia old new → Leaves old new R
rests_on None new R rests keeps = absurd rests
rests_on (Some old) None R rests keeps = absurd keeps
rests_on (Some old) (Some new) R rests keeps = (keeps.0, keeps.1, each keeps.0 keeps.2)
  where
    each : (media : List Medium) → EachMedium media (λ medium. medium ≡ old.now) → EachMedium media (λ medium. (image : ℕ → ℕ) → IsImage medium image → R image)
    each [] are = tt
    each (medium ∷ media) are =
        ((λ image is. image_rests old.now image R rests.0 rests.1 (subst (λ medium. IsImage medium image) are.0 is)), each media are.1)

pub rests_still : (old new : Option Media) (R : (ℕ → ℕ) → Type 0) → RestsWith old R → KeepsMedia old new → RestsWith new R
rests_still None new R rests keeps = absurd rests
rests_still (Some old) None R rests keeps = absurd keeps
rests_still (Some old) (Some new) R rests keeps = (ap (λ (medium : Medium). medium.pending) keeps.3 ∙ rests.0, subst (λ (medium : Medium). R medium.seen) (sym keeps.3) rests.1)

pub keeps_past : (old new : Option Media) (Any : (ℕ → ℕ) → Type 0) → RestsWith old Any → KeepsMedia old new → past_of old ≤ past_of new
keeps_past None new Any rests keeps = absurd rests
keeps_past (Some old) None Any rests keeps = absurd keeps
keeps_past (Some old) (Some new) Any rests keeps = let count = many old new keeps.0 keeps.1 in omega (arith, count)

pub leaves_past : (old new : Option Media) (Any R : (ℕ → ℕ) → Type 0) → RestsWith old Any → Leaves old new R → past_of old ≤ past_of new
leaves_past None new Any R rests leaves = absurd rests
leaves_past (Some old) None Any R rests leaves = absurd leaves
leaves_past (Some old) (Some new) Any R rests leaves = let count = many old new leaves.0 leaves.1 in omega (arith, count)

pub leaves_at_past : (old new : Option Media) (P : ℕ → (ℕ → ℕ) → Type 0) → LeavesAt old new P → past_of old ≤ past_of new
leaves_at_past None new P leaves = absurd leaves
leaves_at_past (Some old) None P leaves = absurd leaves
leaves_at_past (Some old) (Some new) P leaves = let count = many old new leaves.0 leaves.1 in omega (arith, count)

pub later_past : (a b c : Option Media) (Before Either : (ℕ → ℕ) → Type 0) → RestsWith a Before → KeepsMedia a b → Leaves b c Either → past_of a ≤ past_of c
later_past a b c Before Either rests keeps writes =
    let later_b = keeps_past a b Before rests keeps in
    let later_c = leaves_past b c Before Either (rests_still a b Before rests keeps) writes in
    omega (arith, later_b, later_c)

-- ---- one turn

take_front : (n : ℕ) (xs ys : List Entry) → n ≤ length xs → take n (xs ++ ys) ≡ take n xs
take_front zero xs ys le = refl
take_front (suc n) [] ys le = absurd (omega (arith, le))
take_front (suc n) (x ∷ xs) ys le = ap (λ zs. x ∷ zs) (take_front n xs ys (omega (arith, le)))

take_all : (xs : List Entry) → take (length xs) xs ≡ xs
take_all [] = refl
take_all (x ∷ xs) = ap (λ zs. x ∷ zs) (take_all xs)

either_way : (b : Bool) (n : ℕ) → (if b then n else n) ≡ n
either_way true n = refl
either_way false n = refl

module _ (settings : SettingsValue) (start : State) where
  abbrev HasFrom : ℕ → List Entry → (ℕ → ℕ) → Type 0
  HasFrom t history image = HasKept settings settings.limits.remembered t history image

  abbrev first_entries : ℕ
  first_entries = length start.history

  -- the moments before the turn
  older : (acts more : List Timed) (trace told : List State) (history extra : List Entry) (m : ℕ) (image : ℕ → ℕ) → length acts ≡ length trace → NoneBefore m more
      → MeansAt settings start acts trace history m image → MeansAt settings start (acts ++ more) (trace ++ told) (history ++ extra) m image
  older acts more trace told history extra m image same late stands = record {
    count = stands.count;
    within = let within = stands.within in let longer = length-append history extra in omega (arith, within, longer);
    has_shown = subst (λ n. n ≤ stands.count) (sym (shown_then m acts more trace told first_entries same ∙ shown_late m more told (shown m acts trace first_entries) late)) stands.has_shown;
    image_has = subst (λ t. HasFrom t (take stands.count (history ++ extra)) image) (sym (time_then m acts more trace told start.time same ∙ time_late m more told (time_at m acts trace start.time) late))
        (subst (λ es. HasFrom (time_at m acts trace start.time) es image) (sym (take_front stands.count history extra stands.within)) stands.image_has);
  }

  -- how a run stands in the middle of an event, with this history and time: it survived so far
  pub record IsAt (history : List Entry) (time : ℕ) (first media : Option Media) (acts : List Timed) (trace : List State) : Type 0 where
    pub same : length acts ≡ length trace
    pub bounded : (m : ℕ) → shown m acts trace first_entries ≤ length history
    pub timed : (m : ℕ) → past_of media < m → time_at m acts trace start.time ≡ time
    pub survives : LeavesAt first media (MeansAt settings start acts trace history)

  -- ---- an event is taken, and moves the time

  module _ (acts : List Timed) (trace : List State) (history : List Entry) (first a b : Option Media) (moment at : ℕ) (what : Event) (new : State)
      (same : length acts ≡ length trace) (bounded : (m : ℕ) → shown m acts trace first_entries ≤ length history) (here : past_of a ≡ moment)
      (leaves : LeavesAt first a (MeansAt settings start acts trace history)) (rests : RestsWith a (HasFrom new.time history)) (keeps : KeepsMedia a b) where
    abbrev event_taken : Timed
    event_taken = record { moment = moment; act = took what at }

    abbrev Taken : ℕ → (ℕ → ℕ) → Type 0
    Taken m image = MeansAt settings start (acts ++ event_taken ∷ []) (trace ++ new ∷ []) history m image

    shown_taken : (m : ℕ) → shown m (acts ++ event_taken ∷ []) (trace ++ new ∷ []) first_entries ≡ shown m acts trace first_entries
    shown_taken m = shown_then m acts (event_taken ∷ []) trace (new ∷ []) first_entries same ∙ either_way (nat_lt moment m) (shown m acts trace first_entries)

    time_taken : (m : ℕ) → moment < m → time_at m (acts ++ event_taken ∷ []) (trace ++ new ∷ []) start.time ≡ new.time
    time_taken m less =
        time_then m acts (event_taken ∷ []) trace (new ∷ []) start.time same
        ∙ ap (λ b. if b then new.time else time_at m acts trace start.time) (earlier moment m less)

    a_to_b : past_of a ≤ past_of b
    a_to_b = keeps_past a b (HasFrom new.time history) rests keeps

    before_taken : LeavesAt first a Taken
    before_taken =
        leaves_at_so first a (MeansAt settings start acts trace history) Taken (λ k under image stands.
        subst (λ es. MeansAt settings start (acts ++ event_taken ∷ []) (trace ++ new ∷ []) es k image) (append-nil history)
        (older acts (event_taken ∷ []) trace (new ∷ []) history [] k image same (omega (arith, under, here), tt) stands)) leaves

    still_held : (k : ℕ) → past_of a < k → k ≤ past_of b → (image : ℕ → ℕ) → HasFrom new.time history image → Taken k image
    still_held k low high image image_has = record {
      count = length history;
      within = le_refl (length history);
      has_shown = subst (λ n. n ≤ length history) (sym (shown_taken k)) (bounded k);
      image_has = subst (λ t. HasFrom t (take (length history) history) image) (sym (time_taken k (omega (arith, low, here))))
          (subst (λ es. HasFrom new.time es image) (sym (take_all history)) image_has);
    }

    pub event_on : IsAt history new.time first b (acts ++ event_taken ∷ []) (trace ++ new ∷ [])
    event_on = record {
      same =
          let l = length-append acts (event_taken ∷ []) in
          let t = length-append trace (new ∷ []) in
          omega (arith, l, t, same);
      bounded = λ m. subst (λ n. n ≤ length history) (sym (shown_taken m)) (bounded m);
      timed = λ m less. time_taken m (let p = a_to_b in omega (arith, less, p, here));
      survives = leaves_at_then Taken first a b before_taken
          (leaves_there Taken a b (HasFrom new.time history) (HasFrom new.time history) rests still_held (rests_on a b (HasFrom new.time history) rests keeps));
    }

  -- ---- a turn of the event

  module _ (history extra : List Entry) (new : State) (time : ℕ) (first a c : Option Media) (acts more : List Timed) (trace : List State) (outs : List OwnedOut) (moment : ℕ)
      (grows : new.history ≡ history ++ extra) (late : past_of c ≤ moment) (gave_them : Gives moment outs more)
      (here : IsAt history time first a acts trace) (rests : RestsWith a (HasFrom time history))
      (writes : Leaves a c (λ image. HasFrom time history image ⊎ HasFrom time new.history image)) where
    abbrev owed : List (State × OwnedOut)
    owed = each_telling new outs

    abbrev Before : (ℕ → ℕ) → Type 0
    Before = HasFrom time history

    abbrev After : (ℕ → ℕ) → Type 0
    After = HasFrom time new.history

    abbrev Either : (ℕ → ℕ) → Type 0
    Either image = HasFrom time history image ⊎ HasFrom time new.history image

    abbrev Whole : ℕ → (ℕ → ℕ) → Type 0
    Whole m image = MeansAt settings start (acts ++ more) (trace ++ shown_by owed) new.history m image

    gives : Gives moment (outs_of owed) more
    gives = subst (λ xs. Gives moment xs more) (sym (outs_back new outs)) gave_them

    longer : length history ≤ length new.history
    longer = let is = ap length grows ∙ length-append history extra in omega (arith, is)

    front_is : take (length history) new.history ≡ history
    front_is = ap (take (length history)) grows ∙ take_front (length history) history extra (le_refl (length history)) ∙ take_all history

    a_to_c : past_of a ≤ past_of c
    a_to_c = leaves_past a c Before Either rests writes

    shown_on : (m : ℕ) → shown m (acts ++ more) (trace ++ shown_by owed) first_entries ≡ shown m more (shown_by owed) (shown m acts trace first_entries)
    shown_on m = shown_then m acts more trace (shown_by owed) first_entries here.same

    time_on : (m : ℕ) → past_of a < m → time_at m (acts ++ more) (trace ++ shown_by owed) start.time ≡ time
    time_on m less =
        time_then m acts more trace (shown_by owed) start.time here.same
        ∙ time_sends m moment owed more (time_at m acts trace start.time) gives ∙ here.timed m less

    none_shown : (m : ℕ) → m ≤ moment → shown m more (shown_by owed) (shown m acts trace first_entries) ≡ shown m acts trace first_entries
    none_shown m le = shown_late m more (shown_by owed) (shown m acts trace first_entries) (gives_late m moment (outs_of owed) more le gives)

    -- at a moment of the turn, with so many entries on the disk
    with_count : (m count : ℕ) (image : ℕ → ℕ) → past_of a < m → count ≤ length new.history → shown m more (shown_by owed) (shown m acts trace first_entries) ≤ count
        → HasFrom time (take count new.history) image → Whole m image
    with_count m count image less within told image_has = record {
      count = count;
      within = within;
      has_shown = subst (λ n. n ≤ count) (sym (shown_on m)) told;
      image_has = subst (λ t. HasFrom t (take count new.history) image) (sym (time_on m less)) image_has;
    }

    -- before the first send the disk has the old entries or the new ones
    unsent : (m : ℕ) (image : ℕ → ℕ) → past_of a < m → m ≤ moment → Either image → Whole m image
    unsent m image less le (inl image_has) =
        with_count m (length history) image less longer
        (subst (λ n. n ≤ length history) (sym (none_shown m le)) (here.bounded m))
        (subst (λ es. HasFrom time es image) (sym front_is) image_has)
    unsent m image less le (inr image_has) =
        let told = here.bounded m in
        let more_there = longer in
        with_count m (length new.history) image less (le_refl (length new.history))
        (subst (λ n. n ≤ length new.history) (sym (none_shown m le)) (omega (arith, told, more_there)))
        (subst (λ es. HasFrom time es image) (sym (take_all new.history)) image_has)

    few_shown : (m : ℕ) → shown m more (shown_by owed) (shown m acts trace first_entries) ≤ length new.history
    few_shown m =
        let told = here.bounded m in
        let more_there = longer in
        shown_sends m moment owed more (shown m acts trace first_entries) (length new.history) gives (omega (arith, told, more_there)) (few_each new outs)

    -- and then the new ones alone
    sent : (m : ℕ) (image : ℕ → ℕ) → past_of a < m → After image → Whole m image
    sent m image less image_has =
        with_count m (length new.history) image less (le_refl (length new.history)) (few_shown m)
        (subst (λ es. HasFrom time es image) (sym (take_all new.history)) image_has)

    -- it was written
    written : LeavesAt first c Whole
    written =
        leaves_at_then Whole first a c
        (leaves_at_so first a (MeansAt settings start acts trace history) Whole (λ k under image stands.
        subst (λ es. MeansAt settings start (acts ++ more) (trace ++ shown_by owed) es k image) (sym grows)
        (older acts more trace (shown_by owed) history extra k image here.same
        (gives_late k moment (outs_of owed) more (let p = a_to_c in omega (arith, under, p, late)) gives) stands)) here.survives)
        (leaves_there Whole a c Before Either rests (λ k low high image image_has. unsent k image low (omega (arith, high, late)) image_has) writes)

    same_on : length (acts ++ more) ≡ length (trace ++ shown_by owed)
    same_on =
        let l = length-append acts more in
        let t = length-append trace (shown_by owed) in
        let s = here.same in
        let g = gives_length moment owed more gives in
        omega (arith, l, t, s, g)

    -- and then it was sent
    pub turn_on : (d : Option Media) → RestsWith c After → KeepsMedia c d → IsAt new.history time first d (acts ++ more) (trace ++ shown_by owed)
    turn_on d rests_c sends =
        let p = a_to_c in
        let q = keeps_past c d After rests_c sends in
        record {
          same = same_on;
          bounded = λ m. subst (λ n. n ≤ length new.history) (sym (shown_on m)) (few_shown m);
          timed = λ m less. time_on m (omega (arith, less, p, q));
          survives = leaves_at_then Whole first c d written
              (leaves_there Whole c d After After rests_c (λ k low high image image_has. sent k image (omega (arith, low, p)) image_has) (rests_on c d After rests_c sends));
        }

  -- a turn that was being written when the disk failed: nothing of it was sent
  pub broken_on : (history extra : List Entry) (new : State) (time : ℕ) (first a c : Option Media) (acts : List Timed) (trace : List State) → new.history ≡ history ++ extra
      → IsAt history time first a acts trace → RestsWith a (HasFrom time history)
      → Leaves a c (λ image. HasFrom time history image ⊎ HasFrom time new.history image)
      → LeavesAt first c (MeansAt settings start acts trace new.history)
  broken_on history extra new time first a c acts trace grows here rests writes =
      subst (λ xs. LeavesAt first c (MeansAt settings start xs trace new.history)) (append-nil acts)
      (subst (λ ts. LeavesAt first c (MeansAt settings start (acts ++ []) ts new.history)) (append-nil trace)
      (written history extra new time first a c acts [] trace [] (past_of c) grows (le_refl (past_of c)) tt here rests writes))

-- ---- the opening, before the first event

pub survives_opening : (settings : SettingsValue) (start : State) (first a b : Option Media) (acts : List Timed) (trace : List State) (history extra : List Entry) → history ≡ start.history ++ extra → NoneBefore (past_of a) acts
    → (Any : (ℕ → ℕ) → Type 0) → RestsWith first Any → Leaves first a (HasKept settings settings.limits.remembered start.time start.history)
    → LeavesAt a b (MeansAt settings start acts trace history) → LeavesAt first b (MeansAt settings start acts trace history)
survives_opening settings start first a b acts trace history extra grown late Any rests leaves rest =
    let Whole : ℕ → (ℕ → ℕ) → Type 0 = λ m image. MeansAt settings start acts trace history m image in
    let Before : (ℕ → ℕ) → Type 0 = λ image. HasKept settings settings.limits.remembered start.time start.history image in
    leaves_at_then Whole first a b (leaves_there Whole first a Any Before rests opened leaves) rest
  where
    opened : (k : ℕ) → past_of first < k → k ≤ past_of a → (image : ℕ → ℕ) → HasKept settings settings.limits.remembered start.time start.history image → MeansAt settings start acts trace history k image
    opened k low high image image_has =
        let none = none_earlier k (past_of a) acts high late in record {
          count = length start.history;
          within = let longer = ap length grown ∙ length-append start.history extra in omega (arith, longer);
          has_shown = subst (λ n. n ≤ length start.history) (sym (shown_late k acts trace (length start.history) none)) (le_refl (length start.history));
          image_has = subst (λ t. HasKept settings settings.limits.remembered t (take (length start.history) history) image) (sym (time_late k acts trace start.time none))
              (subst (λ es. HasKept settings settings.limits.remembered start.time es image)
              (sym (ap (take (length start.history)) grown ∙ take_front (length start.history) start.history extra (le_refl (length start.history)) ∙ take_all start.history)) image_has);
        }

-- ---- time

within_or : (t low high : ℕ) (xs : List Entry) → t ≤ low → Within low xs high → last_or t xs ≤ high
within_or t low high [] less within = omega (arith, less, within)
within_or t low high (x ∷ xs) less within = within_or x.time x.time high xs (le_refl x.time) within.1

pub within_last : (high : ℕ) (xs : List Entry) → Within 0 xs high → last_time xs ≤ high
within_last high xs within = within_or 0 0 high xs (le_refl 0) within

-- entries that a disk holds with the view of a history have it later too
pub has_later : (settings : SettingsValue) (t u : ℕ) (history : List Entry) (image : ℕ → ℕ) → t ≤ u → HasKept settings settings.limits.remembered t history image → HasKept settings settings.limits.remembered u history image
has_later settings t u history image le held =
    record { entries = held.entries; image_has = held.image_has; calm = held.calm; kept = kept_later settings.limits.remembered t u held.entries history le held.kept }
