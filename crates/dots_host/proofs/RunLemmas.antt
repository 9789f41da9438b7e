-- Runs are joined, acts that were added are joined, and a list of acts fixes one run.
use Rattle.std.proofs.Common.{◌≡◌, ℕ, List, [], ◌∷◌, ◌++◌, Option, Some, None, refl, sym, ap, ◌∙◌, subst, append_assoc, append-nil}
use Rattle.dots_host.specs.declared.event.Event.{Event}
use Rattle.dots_host.specs.declared.out.OwnedOut.{OwnedOut}
use Rattle.dots_host.specs.Acts.{WireAct, took, gave, Timed, Adds}
use Rattle.dots_host.specs.Runs.{Owing, resting, ToldStep, Trace, each_telling, in_one_turn, outs_of, Added}

-- ---- acts that were added

pub added_none : (acts : Option (List Timed)) (P : List Timed → Type 0) → P [] → Added acts acts P
added_none None P p = tt
added_none (Some xs) P p = ([], sym (append-nil xs), p)

pub added_weaker : (old new : Option (List Timed)) (P Q : List Timed → Type 0) → Added old new P → ((more : List Timed) → P more → Q more) → Added old new Q
added_weaker old None P Q a w = tt
added_weaker None (Some ys) P Q a w = a
added_weaker (Some xs) (Some ys) P Q a w = (a.0, a.1, w a.0 a.2)

pub added_then : (old between new : Option (List Timed)) (P Q R : List Timed → Type 0) → Added old between P → Added between new Q → ((front back : List Timed) → P front → Q back → R (front ++ back)) → Added old new R
added_then old between None P Q R a b join = tt
added_then old None (Some zs) P Q R a b join = absurd b
added_then None (Some ys) (Some zs) P Q R a b join = absurd a
added_then (Some xs) (Some ys) (Some zs) P Q R a b join = (
  a.0 ++ b.0,
  b.1 ∙ ap (λ front. front ++ b.0) a.1 ∙ append_assoc xs a.0 b.0,
  join a.0 b.0 a.2 b.2,
)

pub added_by : (old new : Option (List Timed)) (before now : ℕ) (done : WireAct) (P : List Timed → Type 0) → Adds old before new now done → P ((record { moment = before; act = done }) ∷ []) → Added old new P
added_by old None before now done P a p = tt
added_by None (Some ys) before now done P a p = a
added_by (Some xs) (Some ys) before now done P a p = ((record { moment = before; act = done }) ∷ [], a.0, p)

module _ {S : Type 0} (step : S → Event → ℕ → List (S × OwnedOut) → S → Type 0) where
  -- ---- runs that are joined

  pub trace_then : (old between new : Owing S) (front back : List Timed) (told later : List S) → Trace step old front told between → Trace step between back later new
      → Trace step old (front ++ back) (told ++ later) new
  trace_then old between new [] back [] later a b = subst (λ start. Trace step start back later new) a b
  trace_then old between new (timed ∷ front) back (state ∷ told) later a b = (a.0, a.1, trace_then a.0 between new front back told later a.2 b)
  trace_then old between new [] back (state ∷ told) later a b = absurd a
  trace_then old between new (timed ∷ front) back [] later a b = absurd a

  -- one act more
  pub trace_one : (old new : Owing S) (timed : Timed) (told : S) → ToldStep step old timed.act told new → Trace step old (timed ∷ []) (told ∷ []) new
  trace_one old new timed told s = (new, s, refl)

-- ---- one run for a list of acts

-- the sends at the front of the acts, before an event is taken
abbrev onto_sends : WireAct → List OwnedOut → List OwnedOut
onto_sends (took event at) outs = []
onto_sends (gave out done) outs = out ∷ outs

abbrev sends_first : List Timed → List OwnedOut
sends_first [] = []
sends_first (timed ∷ acts) = onto_sends timed.act (sends_first acts)

module _ {S : Type 0} (step : S → Event → ℕ → List (S × OwnedOut) → S → Type 0) where
  owed_by : (old between : Owing S) (act : WireAct) (told : S) (later : List OwnedOut) → ToldStep step old act told between → outs_of between.owed ≡ later → outs_of old.owed ≡ onto_sends act later
  owed_by old between (took event at) told later s rest = ap outs_of s.0
  owed_by old between (gave out done) told later s rest = ap outs_of s.0 ∙ ap (λ outs. out ∷ outs) rest

  -- what is owed is sent before the next event
  owed_first : (old : Owing S) (acts : List Timed) (trace : List S) (new : S) → Trace step old acts trace (resting new) → outs_of old.owed ≡ sends_first acts
  owed_first old [] [] new t = ap (λ owing. outs_of owing.owed) (sym t)
  owed_first old [] (told ∷ trace) new t = absurd t
  owed_first old (timed ∷ acts) [] new t = absurd t
  owed_first old (timed ∷ acts) (told ∷ trace) new t = owed_by old t.0 timed.act told (sends_first acts) t.1 (owed_first t.0 acts trace new t.2)

  -- the sends that an event makes fix what it owes and the state after it
  abbrev pub IsDetermined : Type 0
  IsDetermined = (old : S) (event : Event) (at : ℕ) (owed others : List (S × OwnedOut)) (new other : S)
      → step old event at owed new → step old event at others other → outs_of owed ≡ outs_of others → (owed ≡ others) × (new ≡ other)

  same_owing : (a b : Owing S) → a.owed ≡ b.owed → a.last ≡ b.last → a ≡ b
  same_owing a b owed last = ap (λ xs. with_owed a.last xs) owed ∙ ap (λ s. with_owed s b.owed) last
    where
      with_owed : S → List (S × OwnedOut) → Owing S
      with_owed state owed = record { last = state; owed = owed }

  first_same : (x y : S × OwnedOut) (xs ys : List (S × OwnedOut)) → x ∷ xs ≡ y ∷ ys → (x ≡ y) × (xs ≡ ys)
  first_same x y xs ys e = (cc, cc)

  -- one act leads to one state of owing, and tells one state, where the run goes on to the same sends
  one_step : IsDetermined → (old between other : Owing S) (act : WireAct) (told state : S) → ToldStep step old act told between → ToldStep step old act state other
      → outs_of between.owed ≡ outs_of other.owed → between ≡ other
  one_step determined old between other (took event at) told state a b outs =
      let same = determined old.last event at between.owed other.owed between.last other.last a.1 b.1 outs in
      same_owing between other same.0 same.1
  one_step determined old between other (gave out done) told state a b outs =
      let rest = first_same (told, out) (state, out) between.owed other.owed (sym a.0 ∙ b.0) in
      same_owing between other rest.1 (a.1 ∙ sym b.1)

  pub one_run : IsDetermined → (old : Owing S) (acts : List Timed) (trace states : List S) (new other : S)
      → Trace step old acts trace (resting new) → Trace step old acts states (resting other) → new ≡ other
  one_run determined old [] [] [] new other a b = ap (λ owing. owing.last) (a ∙ sym b)
  one_run determined old [] (told ∷ trace) states new other a b = absurd a
  one_run determined old [] [] (state ∷ states) new other a b = absurd b
  one_run determined old (timed ∷ acts) [] states new other a b = absurd a
  one_run determined old (timed ∷ acts) (told ∷ trace) [] new other a b = absurd b
  one_run determined old (timed ∷ acts) (told ∷ trace) (state ∷ states) new other a b =
      let outs = owed_first a.0 acts trace new a.2 ∙ sym (owed_first b.0 acts states other b.2) in
      let same : a.0 ≡ b.0 = one_step determined old a.0 b.0 timed.act told state a.1 b.1 outs in
      one_run determined a.0 acts trace states new other a.2 (subst (λ owing. Trace step owing acts states (resting other)) (sym same) b.2)

-- sends that tell one state
pub outs_back : {S : Type 0} (state : S) (outs : List OwnedOut) → outs_of (each_telling state outs) ≡ outs
outs_back state [] = refl
outs_back state (out ∷ outs) = ap (λ xs. out ∷ xs) (outs_back state outs)

-- in one turn the sends fix what is owed and the state after it, where they fix the state
pub one_turn : {S : Type 0} (owed others : List (S × OwnedOut)) (new other : S) (makes makes_other : List OwnedOut → Type 0) → in_one_turn makes owed new → in_one_turn makes_other others other
    → outs_of owed ≡ outs_of others → ((sends : List OwnedOut) → makes sends → makes_other sends → new ≡ other) → (owed ≡ others) × (new ≡ other)
one_turn {S} owed others new other makes makes_other a b outs fix =
    let first : outs_of owed ≡ a.0 = ap outs_of a.1 ∙ outs_back new a.0 in
    let second : outs_of others ≡ b.0 = ap outs_of b.1 ∙ outs_back other b.0 in
    let same : a.0 ≡ b.0 = sym first ∙ outs ∙ second in
    let state : new ≡ other = fix b.0 (subst makes same a.2) b.2 in
    (a.1 ∙ ap (each_telling new) same ∙ ap (λ s. each_telling s b.0) state ∙ sym b.1, state)
