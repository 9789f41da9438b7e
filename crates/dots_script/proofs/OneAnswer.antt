-- A text that is known to come has one answer, where the source doesn't fail.
use Rattle.std.proofs.Common.{◌≡◌, ℕ, ◌+◌, ◌^◌, ◌<◌, ◌≤◌, suc, inl, inr, List, [], ◌∷◌, ◌++◌, length, get_or, Option, Some, None, IfSome, refl, sym, ap, ◌∙◌, subst, arith, append_assoc, length-append}
use Rattle.std.specs.Prelude.{◌⊎◌}
use Rattle.std.specs.Io.KnownBytes.{IsAtEnd}
use Rattle.dots_host.specs.declared.event.Event.{Event}
use Rattle.dots_host.specs.declared.event.Event.TheVariants as event
use Rattle.dots_script.specs.Script.{IsSkipped, IsEventLine}
use Rattle.dots_script.specs.Lines.{IsLine, with_feed, with_feeds, AreSkipped, IsTooLong, IsUnended, IsFault, Skips, Takes, Fails, Ends, NextIs}
use Rattle.dots_script.proofs.Splits.{one_split}
use Rattle.dots_script.proofs.EventLines.{one_event, event_not_skipped}

-- ---- one line at the front

pub one_line : (a b x y : List ℕ) → IsLine a → IsLine b → with_feed a ++ x ≡ with_feed b ++ y → (a ≡ b) × (x ≡ y)
one_line a b x y first second same =
    one_split 10 a b x y first.whole second.whole (sym (append_assoc a (10 ∷ []) x) ∙ same ∙ append_assoc b (10 ∷ []) y)

feed_at : (line rest : List ℕ) → get_or (with_feed line ++ rest) (length line) 0 ≡ 10
feed_at [] rest = refl
feed_at (byte ∷ line) rest = feed_at line rest

pub long : (line rest : List ℕ) → length (with_feed line ++ rest) ≡ length line + 1 + length rest
long line rest = omega (arith, length-append (with_feed line) rest, length-append line (10 ∷ []))

feed_in : (text line rest : List ℕ) → text ≡ with_feed line ++ rest → get_or text (length line) 0 ≡ 10
feed_in text line rest is = ap (λ bytes. get_or bytes (length line) 0) is ∙ feed_at line rest

-- what is too long or lacks its line feed doesn't begin with a line
no_line : (text line rest : List ℕ) → IsTooLong text ⊎ IsUnended text → text ≡ with_feed line ++ rest → IsLine line → ⊥
no_line text line rest fault is is_line =
    let size : length text ≡ length line + 1 + length rest = ap length is ∙ long line rest in
    elim fault [
      | inl too ↦ too.1 (length line) (omega (arith, is_line.short)) (feed_in text line rest is)
      | inr cut ↦ cut.1 (length line) (omega (arith, size)) (feed_in text line rest is)
    ]

-- ---- the lines that are skipped

-- no line that is skipped is at the front
abbrev Stops : List ℕ → Type 0
Stops text = (line rest : List ℕ) → text ≡ with_feed line ++ rest → IsLine line → IsSkipped line → ⊥

shorter : (P : Type 0) (m n : ℕ) → P ⊎ (suc m ≤ suc n) → P ⊎ (m ≤ n)
shorter P m n (inl p) = inl p
shorter P m n (inr few) = inr (omega arith)

none_skipped : (line rest text : List ℕ) (n : ℕ) → Stops text ⊎ (suc n ≤ 0) → text ≡ with_feed line ++ rest → IsLine line → IsSkipped line → ⊥
none_skipped line rest text n (inl stops) is is_line skipped = stops line rest is is_line skipped
none_skipped line rest text n (inr few) is is_line skipped = absurd (omega arith)

one_front : (xs ys : List (List ℕ)) (s t : List ℕ) → AreSkipped xs → AreSkipped ys → with_feeds xs ++ s ≡ with_feeds ys ++ t → Stops s ⊎ (length ys ≤ length xs) → Stops t ⊎ (length xs ≤ length ys)
    → (xs ≡ ys) × (s ≡ t)
one_front [] [] s t a b same first second = (refl, same)
one_front [] (y ∷ ys) s t a b same first second = absurd (none_skipped y (with_feeds ys ++ t) s (length ys) first (same ∙ append_assoc (with_feed y) (with_feeds ys) t) b.0 b.1)
one_front (x ∷ xs) [] s t a b same first second = absurd (none_skipped x (with_feeds xs ++ s) t (length xs) second (sym same ∙ append_assoc (with_feed x) (with_feeds xs) s) a.0 a.1)
one_front (x ∷ xs) (y ∷ ys) s t a b same first second =
    let lines = one_line x y (with_feeds xs ++ s) (with_feeds ys ++ t) a.0 b.0 (sym (append_assoc (with_feed x) (with_feeds xs) s) ∙ same ∙ append_assoc (with_feed y) (with_feeds ys) t) in
    let rest = one_front xs ys s t a.2 b.2 lines.1 (shorter (Stops s) (length ys) (length xs) first) (shorter (Stops t) (length xs) (length ys) second) in
    (ap (λ later. x ∷ later) rest.0 ∙ ap (λ line. line ∷ ys) lines.0, rest.1)

-- ---- what stands behind them

-- what a text says once so many lines were skipped
data Says (text : List ℕ) (count : ℕ) (rest : List ℕ) (got : Event) (at : ℕ) : Type 0 where
  fails : (count ≡ 2 ^ 40) ⊎ IsFault text → rest ≡ text → got ≡ event.Failed → at ≡ 0 → Says text count rest got at
  ends : count < 2 ^ 40 → text ≡ [] → rest ≡ text → got ≡ event.End → at ≡ 0 → Says text count rest got at
  takes : count < 2 ^ 40 → (line : List ℕ) → IsLine line → IsEventLine line got at → text ≡ with_feed line ++ rest → Says text count rest got at

pub no_fault_at_end : (text : List ℕ) → text ≡ [] → IsFault text → ⊥
no_fault_at_end text none (inl too) = let size : length text ≡ 0 = ap length none in absurd (omega (arith, size, too.0))
no_fault_at_end text none (inr (inl cut)) = let size : length text ≡ 0 = ap length none in absurd (omega (arith, size, cut.0))
no_fault_at_end text none (inr (inr other)) =
    let size : 0 ≡ length other.line + 1 + length other.rest = sym (ap length none) ∙ ap length other.split ∙ long other.line other.rest in
    absurd (omega (arith, size))

pub no_fault_at_event : (text line rest : List ℕ) (event : Event) (at : ℕ) → text ≡ with_feed line ++ rest → IsLine line → IsEventLine line event at → IsFault text → ⊥
no_fault_at_event text line rest event at is is_line h (inl too) = no_line text line rest (inl too) is is_line
no_fault_at_event text line rest event at is is_line h (inr (inl cut)) = no_line text line rest (inr cut) is is_line
no_fault_at_event text line rest event at is is_line h (inr (inr other)) =
    let same = one_line line other.line rest other.rest is_line other.is_line (sym is ∙ other.split) in
    other.no_event event at (subst (λ (bytes : List ℕ). IsEventLine bytes event at) same.0 h)

pub stops_at_fault : (text : List ℕ) → IsFault text → Stops text
stops_at_fault text (inl too) line rest is is_line skipped = no_line text line rest (inl too) is is_line
stops_at_fault text (inr (inl cut)) line rest is is_line skipped = no_line text line rest (inr cut) is is_line
stops_at_fault text (inr (inr other)) line rest is is_line skipped =
    let same = one_line line other.line rest other.rest is_line other.is_line (sym is ∙ other.split) in
    other.not_skipped (subst IsSkipped same.0 skipped)

stops_at_end : (text : List ℕ) → text ≡ [] → Stops text
stops_at_end text none line rest is is_line skipped =
    let size : 0 ≡ length line + 1 + length rest = sym (ap length none) ∙ ap length is ∙ long line rest in
    absurd (omega (arith, size))

stops_at_event : (text line rest : List ℕ) (event : Event) (at : ℕ) → text ≡ with_feed line ++ rest → IsLine line → IsEventLine line event at → Stops text
stops_at_event text line rest event at is is_line h front behind other other_line skipped =
    let same = one_line front line behind rest other_line is_line (sym other ∙ is) in
    event_not_skipped line event at h (subst IsSkipped same.0 skipped)

stops_or_full : (text : List ℕ) (count : ℕ) (rest : List ℕ) (event : Event) (at : ℕ) → Says text count rest event at → Stops text ⊎ (count ≡ 2 ^ 40)
stops_or_full text count rest event at (fails (inl full) same failed zero_at) = inr full
stops_or_full text count rest event at (fails (inr fault) same failed zero_at) = inl (stops_at_fault text fault)
stops_or_full text count rest event at (ends few none same end zero_at) = inl (stops_at_end text none)
stops_or_full text count rest event at (takes few line is_line h is) = inl (stops_at_event text line rest event at is is_line h)

abbrev Same : List ℕ → List ℕ → Event → Event → ℕ → ℕ → Type 0
Same rest more event other at time = (event ≡ other) × (at ≡ time) × (rest ≡ more)

no_cause : (text : List ℕ) (count : ℕ) → (count ≡ 2 ^ 40) ⊎ IsFault text → count < 2 ^ 40 → (IsFault text → ⊥) → ⊥
no_cause text count (inl full) few none = absurd (omega arith)
no_cause text count (inr fault) few none = none fault

one_saying : (text : List ℕ) (count : ℕ) (rest more : List ℕ) (event other : Event) (at time : ℕ) → Says text count rest event at → Says text count more other time → Same rest more event other at time
one_saying text count rest more event other at time (fails cause same failed zero_at) (fails why equal too nil) = (failed ∙ sym too, zero_at ∙ sym nil, same ∙ sym equal)
one_saying text count rest more event other at time (fails cause same failed zero_at) (ends few none equal end nil) = absurd (no_cause text count cause few (no_fault_at_end text none))
one_saying text count rest more event other at time (fails cause same failed zero_at) (takes few line is_line h is) = absurd (no_cause text count cause few (no_fault_at_event text line more other time is is_line h))
one_saying text count rest more event other at time (ends few none same end zero_at) (fails cause equal too nil) = absurd (no_cause text count cause few (no_fault_at_end text none))
one_saying text count rest more event other at time (ends few none same end zero_at) (ends less nothing equal too nil) = (end ∙ sym too, zero_at ∙ sym nil, same ∙ sym equal)
one_saying text count rest more event other at time (ends few none same end zero_at) (takes less line is_line h is) =
    let size : 0 ≡ length line + 1 + length more = sym (ap length none) ∙ ap length is ∙ long line more in
    absurd (omega (arith, size))
one_saying text count rest more event other at time (takes few line is_line h is) (fails cause equal too nil) = absurd (no_cause text count cause few (no_fault_at_event text line rest event at is is_line h))
one_saying text count rest more event other at time (takes few line is_line h is) (ends less none equal end nil) =
    let size : 0 ≡ length line + 1 + length rest = sym (ap length none) ∙ ap length is ∙ long line rest in
    absurd (omega (arith, size))
one_saying text count rest more event other at time (takes few line is_line h is) (takes less front other_line g its) =
    let lines = one_line front line more rest other_line is_line (sym its ∙ is) in
    let same = one_event line event other at time h (subst (λ (bytes : List ℕ). IsEventLine bytes other time) lines.0 g) in
    (same.0, same.1, sym lines.1)

-- ---- an answer, taken apart

record Apart (text : List ℕ) (new : Option (List ℕ)) (event : Event) (at : ℕ) : Type 0 where
  lines : List (List ℕ)
  tail : List ℕ
  rest : List ℕ
  known : new ≡ Some rest
  skipped : AreSkipped lines
  few : length lines ≤ 2 ^ 40
  split : text ≡ with_feeds lines ++ tail
  says : Says tail (length lines) rest event at

of_takes : (text : List ℕ) (new : Option (List ℕ)) (event : Event) (at : ℕ) → Takes (Some text) new event at → Apart text new event at
of_takes text None event at t = absurd t.passed
of_takes text (Some rest) event at t = record {
  lines = t.lines;
  tail = with_feed t.line ++ rest;
  rest = rest;
  known = refl;
  skipped = t.skipped;
  few = omega (arith, t.few);
  split = t.passed ∙ append_assoc (with_feeds t.lines) (with_feed t.line) rest;
  says = takes t.few t.line t.is_line t.is_event refl;
}

of_skips : (text : List ℕ) (new : Option (List ℕ)) (event : Event) (at count : ℕ) (s : Skips (Some text) new count) → count ≤ 2 ^ 40 → ((rest : List ℕ) → new ≡ Some rest → Says rest count rest event at) → Apart text new event at
of_skips text None event at count s few says = absurd s.passed
of_skips text (Some rest) event at count s few says = record {
  lines = s.lines;
  tail = rest;
  rest = rest;
  known = refl;
  skipped = s.skipped;
  few = omega (arith, s.counted);
  split = s.passed;
  says = subst (λ (n : ℕ). Says rest n rest event at) (sym s.counted) (says rest refl);
}

of_ends : (text : List ℕ) (new : Option (List ℕ)) (at : ℕ) → Ends (Some text) new → at ≡ 0 → Apart text new event.End at
of_ends text new at e zero_at =
    let few = e.1 in
    of_skips text new event.End at e.0 e.2 (omega (arith, few)) (λ rest is. ends few (subst IsAtEnd is e.3) refl refl zero_at)

cause_of : (new : Option (List ℕ)) (rest : List ℕ) (count : ℕ) → new ≡ Some rest → (count ≡ 2 ^ 40) ⊎ (IfSome new IsFault ⊎ ⊥) → (count ≡ 2 ^ 40) ⊎ IsFault rest
cause_of new rest count is (inl full) = inl full
cause_of new rest count is (inr (inl fault)) = inr (subst (λ (text : Option (List ℕ)). IfSome text IsFault) is fault)
cause_of new rest count is (inr (inr none)) = absurd none

of_fails : (text : List ℕ) (new : Option (List ℕ)) (at : ℕ) → Fails (Some text) new ⊥ → at ≡ 0 → Apart text new event.Failed at
of_fails text new at f zero_at = of_skips text new event.Failed at f.0 f.2 f.1 (λ rest is. fails (cause_of new rest f.0 is f.3) refl refl zero_at)

apart : (text : List ℕ) (new : Option (List ℕ)) (event : Event) (at : ℕ) → NextIs (Some text) new event at ⊥ → Apart text new event at
apart text new event.Failed at a = of_fails text new at a.0 a.1
apart text new event.End at a = of_ends text new at a.0 a.1
apart text new (event.Datagram peer bytes) at a = of_takes text new _ at a
apart text new (event.Opened conn peer) at a = of_takes text new _ at a
apart text new (event.Piece conn bytes) at a = of_takes text new _ at a
apart text new (event.Closed conn) at a = of_takes text new _ at a
apart text new event.Tick at a = of_takes text new _ at a
apart text new event.Restart at a = of_takes text new _ at a

bound : (text : List ℕ) (m n : ℕ) → m ≤ 2 ^ 40 → Stops text ⊎ (n ≡ 2 ^ 40) → Stops text ⊎ (m ≤ n)
bound text m n few (inl stops) = inl stops
bound text m n few (inr full) = inr (omega arith)

one_apart : (text : List ℕ) (new next : Option (List ℕ)) (event other : Event) (at time : ℕ) → Apart text new event at → Apart text next other time → (event ≡ other) × (at ≡ time) × (new ≡ next)
one_apart text new next event other at time a b =
    let first = bound a.tail (length b.lines) (length a.lines) b.few (stops_or_full a.tail (length a.lines) a.rest event at a.says) in
    let second = bound b.tail (length a.lines) (length b.lines) a.few (stops_or_full b.tail (length b.lines) b.rest other time b.says) in
    let front = one_front a.lines b.lines a.tail b.tail a.skipped b.skipped (sym a.split ∙ b.split) first second in
    let counted = subst (λ (n : ℕ). Says b.tail n b.rest other time) (sym (ap length front.0)) b.says in
    let says = subst (λ (tail : List ℕ). Says tail (length a.lines) b.rest other time) (sym front.1) counted in
    let same = one_saying a.tail (length a.lines) a.rest b.rest event other at time a.says says in
    (same.0, same.1, a.known ∙ ap Some same.2 ∙ sym b.known)

pub one_answer : (text : List ℕ) (new next : Option (List ℕ)) (event other : Event) (at time : ℕ) → NextIs (Some text) new event at ⊥ → NextIs (Some text) next other time ⊥
    → (event ≡ other) × (at ≡ time) × (new ≡ next)
one_answer text new next event other at time a b = one_apart text new next event other at time (apart text new event at a) (apart text next other time b)
