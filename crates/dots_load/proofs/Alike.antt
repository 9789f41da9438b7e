-- Two runs of a machine over the same events send the same, where its steps are decided and no send is 5.00.
use Rattle.std.proofs.Common.{◌≡◌, ℕ, ◌+◌, List, [], ◌∷◌, ◌++◌, refl, sym, ap, ◌∙◌, subst, arith}
use Rattle.std.proofs.lemmas.List.Sums.{sum_by-cons}
use Rattle.std.specs.Prelude.{count_by, cond, codes}
use Rattle.dots_host.specs.declared.event.Event.{Event}
use Rattle.dots_host.specs.declared.out.OwnedOut.{OwnedOut}
use Rattle.dots_host.specs.Acts.{WireAct, took, gave, Timed}
use Rattle.dots_host.specs.Memory.{Coming}
use Rattle.dots_host.specs.Runs.{Owing, resting, ToldStep, Trace, outs_of}
use Rattle.dots_load.specs.Datagrams.{EachComing, AreBytes}
use Rattle.dots_load.specs.Deciding.{IsDecided}
use Rattle.dots_load.specs.Report.{coming_by, coming_in, sends_by, sends_in, is_no_end, created, changed, deleted, content, conflict, other, unavailable, NoneUnavailable, lines, load_text}

-- ---- sends of which none is 5.00

abbrev one_if : OwnedOut → ℕ
one_if out = cond (unavailable out) 1 0

counted : (out : OwnedOut) (sends : List OwnedOut) → count_by unavailable (out ∷ sends) ≡ one_if out + count_by unavailable sends
counted out sends = sum_by-cons one_if out sends

none_behind : (out : OwnedOut) (sends : List OwnedOut) → count_by unavailable (out ∷ sends) ≡ 0 → count_by unavailable sends ≡ 0
none_behind out sends none = omega (arith, none, counted out sends)

none_first : (out : OwnedOut) (sends : List OwnedOut) → count_by unavailable (out ∷ sends) ≡ 0 → one_if out ≡ 0
none_first out sends none = omega (arith, none, counted out sends)

none_front : (front rest : List OwnedOut) → count_by unavailable (front ++ rest) ≡ 0 → count_by unavailable front ≡ 0
none_front [] rest none = refl
none_front (out ∷ front) rest none =
    omega (arith, none_first out (front ++ rest) none, none_front front rest (none_behind out (front ++ rest) none), counted out front)

-- the sends begin with these
abbrev BeginsWith : List OwnedOut → List OwnedOut → Type 0
BeginsWith front sends = (rest : List OwnedOut) × (sends ≡ front ++ rest)

none_of_front : (front sends : List OwnedOut) → BeginsWith front sends → count_by unavailable sends ≡ 0 → count_by unavailable front ≡ 0
none_of_front front sends begins none = none_front front begins.0 (subst (λ s. count_by unavailable s ≡ 0) begins.1 none)

-- ---- two runs

came_same : (c d : Coming) (cs ds : List Coming) → c ∷ cs ≡ d ∷ ds → (c.event ≡ d.event) × (c.at ≡ d.at) × (cs ≡ ds)
came_same c d cs ds is = (cc is, cc is, cc is)

module _ {S : Type 0} (step : S → Event → ℕ → List (S × OwnedOut) → S → Type 0) (decided : IsDecided step) where
  same_owing : (a b : Owing S) → a.owed ≡ b.owed → a.last ≡ b.last → a ≡ b
  same_owing a b owed last = ap (λ xs. with_owed a.last xs) owed ∙ ap (λ s. with_owed s b.owed) last
    where
      with_owed : S → List (S × OwnedOut) → Owing S
      with_owed state owed = record { last = state; owed = owed }

  owed_same : (x y : S × OwnedOut) (xs ys : List (S × OwnedOut)) → x ∷ xs ≡ y ∷ ys → (x.1 ≡ y.1) × (xs ≡ ys)
  owed_same x y xs ys is = (cc is, cc is)

  front_by : (old between : Owing S) (act : WireAct) (told : S) (later : List OwnedOut) → ToldStep step old act told between → BeginsWith (outs_of between.owed) later
      → BeginsWith (outs_of old.owed) (sends_by act ++ later)
  front_by old between (took event at) told later s begins = (later, ap (λ (owed : List (S × OwnedOut)). outs_of owed ++ later) (sym s.0))
  front_by old between (gave out done) told later s begins =
      (begins.0, ap (λ (sends : List OwnedOut). out ∷ sends) begins.1 ∙ ap (λ (owed : List (S × OwnedOut)). outs_of owed ++ begins.0) (sym s.0))

  -- what is owed is sent first
  owed_front : (old : Owing S) (acts : List Timed) (trace : List S) (new : S) → Trace step old acts trace (resting new) → BeginsWith (outs_of old.owed) (sends_in acts)
  owed_front old [] [] new t = ([], ap (λ (owing : Owing S). outs_of owing.owed ++ []) t)
  owed_front old [] (told ∷ trace) new t = absurd t
  owed_front old (timed ∷ acts) [] new t = absurd t
  owed_front old (timed ∷ acts) (told ∷ trace) new t = front_by old t.0 timed.act told (sends_in acts) t.1 (owed_front t.0 acts trace new t.2)

  -- where nothing is owed and nothing comes there is no act
  no_act : (old between : Owing S) (act : WireAct) (told : S) (later : List Coming) → old.owed ≡ [] → ToldStep step old act told between → [] ≡ coming_by act ++ later → ⊥
  no_act old between (took event at) told later none s same = cc same
  no_act old between (gave out done) told later none s same = cc (sym s.0 ∙ none)

  -- one act of each run
  record BothAct (between other : Owing S) (act second : WireAct) (come comes : List Coming) (sends others : List OwnedOut) : Type 0 where
    owing : between ≡ other
    sent : sends_by act ≡ sends_by second
    coming : come ≡ comes
    each : EachComing AreBytes come
    none : count_by unavailable sends ≡ 0
    none_other : count_by unavailable others ≡ 0

  both_act : (old between other : Owing S) (act second : WireAct) (told state : S) (come comes : List Coming) (sends others : List OwnedOut)
      → ToldStep step old act told between → ToldStep step old second state other → coming_by act ++ come ≡ coming_by second ++ comes → EachComing AreBytes (coming_by act ++ come)
      → BeginsWith (outs_of between.owed) sends → BeginsWith (outs_of other.owed) others → count_by unavailable (sends_by act ++ sends) ≡ 0 → count_by unavailable (sends_by second ++ others) ≡ 0
      → BothAct between other act second come comes sends others
  both_act old between other (took event at) (took event' at') told state come comes sends others s t same each front back none nor =
      let is = came_same (record { event = event; at = at }) (record { event = event'; at = at' }) come comes same in
      let second = subst (λ e. step old.last e at other.owed other.last) (sym is.0) (subst (λ time. step old.last event' time other.owed other.last) (sym is.1) t.1) in
      let one = decided old.last event at between.owed other.owed between.last other.last each.0 s.1 second (none_of_front (outs_of between.owed) sends front none) (none_of_front (outs_of other.owed) others back nor) in
      record { owing = same_owing between other one.0 one.1; sent = refl; coming = is.2; each = each.1; none = none; none_other = nor }
  both_act old between other (took event at) (gave out done) told state come comes sends others s t same each front back none nor = absurd (cc (sym s.0 ∙ t.0))
  both_act old between other (gave out done) (took event at) told state come comes sends others s t same each front back none nor = absurd (cc (sym s.0 ∙ t.0))
  both_act old between other (gave out done) (gave out' done') told state come comes sends others s t same each front back none nor =
      let is = owed_same (told, out) (state, out') between.owed other.owed (sym s.0 ∙ t.0) in
      record {
        owing = same_owing between other is.1 (s.1 ∙ sym t.1);
        sent = ap (λ (o : OwnedOut). o ∷ []) is.0;
        coming = same;
        each = each;
        none = none_behind out sends none;
        none_other = none_behind out' others nor;
      }

  pub one_outcome : (old : Owing S) (acts others : List Timed) (trace told : List S) (new last : S) → Trace step old acts trace (resting new) → Trace step old others told (resting last)
      → coming_in acts ≡ coming_in others → EachComing AreBytes (coming_in acts) → NoneUnavailable acts → NoneUnavailable others → (sends_in acts ≡ sends_in others) × (new ≡ last)
  one_outcome old [] [] [] [] new last a b same each none nor = (refl, ap (λ (owing : Owing S). owing.last) (a ∙ sym b))
  one_outcome old [] others (state ∷ trace) told new last a b same each none nor = absurd a
  one_outcome old (timed ∷ acts) others [] told new last a b same each none nor = absurd a
  one_outcome old [] [] [] (state ∷ told) new last a b same each none nor = absurd b
  one_outcome old [] (other ∷ others) [] [] new last a b same each none nor = absurd b
  one_outcome old [] (other ∷ others) [] (state ∷ told) new last a b same each none nor =
      absurd (no_act old b.0 other.act state (coming_in others) (ap (λ (owing : Owing S). owing.owed) (sym a)) b.1 same)
  one_outcome old (timed ∷ acts) [] (state ∷ trace) [] new last a b same each none nor =
      absurd (no_act old a.0 timed.act state (coming_in acts) (ap (λ (owing : Owing S). owing.owed) (sym b)) a.1 (sym same))
  one_outcome old (timed ∷ acts) [] (state ∷ trace) (other ∷ told) new last a b same each none nor = absurd b
  one_outcome old (timed ∷ acts) (other ∷ others) (state ∷ trace) [] new last a b same each none nor = absurd b
  one_outcome old (timed ∷ acts) (other ∷ others) (state ∷ trace) (states ∷ told) new last a b same each none nor =
      let both = both_act old a.0 b.0 timed.act other.act state states (coming_in acts) (coming_in others) (sends_in acts) (sends_in others) a.1 b.1 same each
      (owed_front a.0 acts trace new a.2) (owed_front b.0 others told last b.2) none nor in
      let rest = one_outcome a.0 acts others trace told new last a.2 (subst (λ (owing : Owing S). Trace step owing others told (resting last)) (sym both.owing) b.2) both.coming both.each both.none both.none_other in
      (ap (λ (front : List OwnedOut). front ++ sends_in acts) both.sent ∙ ap (λ (back : List OwnedOut). sends_by other.act ++ back) rest.0, rest.1)

-- ---- one report

-- the report by what came and what was sent
abbrev text_by : List Coming → List OwnedOut → ℕ → List ℕ
text_by came sends rows =
    lines ((codes "events", count_by (λ coming. is_no_end coming.event) came)
    ∷ (codes "created", count_by created sends) ∷ (codes "changed", count_by changed sends) ∷ (codes "deleted", count_by deleted sends)
    ∷ (codes "content", count_by content sends) ∷ (codes "conflict", count_by conflict sends) ∷ (codes "other", count_by other sends)
    ∷ (codes "rows", rows) ∷ [])

pub one_text : (acts others : List Timed) (rows row_count : ℕ) → coming_in acts ≡ coming_in others → sends_in acts ≡ sends_in others → rows ≡ row_count → load_text acts rows ≡ load_text others row_count
one_text acts others rows row_count came sent counted =
    ap (λ (c : List Coming). text_by c (sends_in acts) rows) came ∙ ap (λ (s : List OwnedOut). text_by (coming_in others) s rows) sent
    ∙ ap (λ (n : ℕ). text_by (coming_in others) (sends_in others) n) counted
