-- Lines pass at the front of what is known to come.
use Rattle.std.proofs.Common.{◌≡◌, ℕ, ◌+◌, ◌^◌, ◌<◌, inl, inr, List, [], ◌∷◌, ◌++◌, length, take, drop, Option, Some, None, IfSome, refl, sym, ap, ◌∙◌, arith, append_assoc, append-nil, length-take-le}
use Rattle.std.proofs.lemmas.List.{length_push}
use Rattle.std.specs.Prelude.{◌⊎◌}
use Rattle.std.specs.Io.KnownBytes.{Consumes, Keeps, IsAtEnd}
use Rattle.std.proofs.KnownBytes.{Consumes-nil, Consumes-trans, Consumes-kept}
use Rattle.dots_host.specs.declared.event.Event.{Event}
use Rattle.dots_host.specs.declared.event.Event.TheVariants as event
use Rattle.dots_script.specs.declared.lines.Found.{Found}
use Rattle.dots_script.specs.declared.lines.Found.TheVariants as found
use Rattle.dots_script.specs.Script.{IsSkipped, IsEventLine}
use Rattle.dots_script.specs.Lines.{IsLine, with_feed, with_feeds, AreSkipped, IsTooLong, IsUnended, IsFault, Skips, Takes, NextIs, to_come}
use Rattle.dots_script.specs.Finding.{HasLine, HasNone, Finds, Reaches}
use Rattle.dots_script.proofs.Splits.{split_at, none_in_front}

-- ---- lists of lines

feeds_push : (lines : List (List ℕ)) (line : List ℕ) → with_feeds (lines ++ line ∷ []) ≡ with_feeds lines ++ with_feed line
feeds_push [] line = append-nil (with_feed line)
feeds_push (first ∷ lines) line = ap (λ rest. with_feed first ++ rest) (feeds_push lines line) ∙ sym (append_assoc (with_feed first) (with_feeds lines) (with_feed line))

skipped_push : (lines : List (List ℕ)) (line : List ℕ) → AreSkipped lines → IsLine line → IsSkipped line → AreSkipped (lines ++ line ∷ [])
skipped_push [] line all is skip = (is, skip, tt)
skipped_push (first ∷ lines) line all is skip = (all.0, all.1, skipped_push lines line all.2 is skip)

-- ---- the line at the front

line_is : (ahead : List ℕ) (len : ℕ) → HasLine ahead len → IsLine (take len ahead)
line_is ahead len has =
    let long : length (take len ahead) ≡ len = length-take-le len ahead (omega (arith, has.within)) in
    record { short = omega (arith, long, has.short); whole = none_in_front ahead len 10 has.whole }

line_split : (ahead : List ℕ) (len : ℕ) → HasLine ahead len → ahead ≡ with_feed (take len ahead) ++ drop (len + 1) ahead
line_split ahead len has = split_at ahead len 10 has.within has.feed ∙ sym (append_assoc (take len ahead) (10 ∷ []) (drop (len + 1) ahead))

known_front : (left : Option (List ℕ)) (ahead front rest : List ℕ) → ahead ≡ front ++ rest → Consumes (to_come ahead left) (to_come rest left) front
known_front None ahead front rest is = tt
known_front (Some xs) ahead front rest is = ap (λ bytes. bytes ++ xs) is ∙ append_assoc front rest xs

line_passes : (left : Option (List ℕ)) (ahead : List ℕ) (len : ℕ) → HasLine ahead len → Consumes (to_come ahead left) (to_come (drop (len + 1) ahead) left) (with_feed (take len ahead))
line_passes left ahead len has = known_front left ahead (with_feed (take len ahead)) (drop (len + 1) ahead) (line_split ahead len has)

-- ---- lines that are skipped

pub skips_none : (a : Option (List ℕ)) → Skips a a 0
skips_none a = record { lines = []; skipped = tt; counted = refl; passed = Consumes-nil a }

pub skips_unchanged : (a b c : Option (List ℕ)) (count : ℕ) → Skips a b count → Keeps b c → Skips a c count
skips_unchanged a b c count skips kept = record {
  lines = skips.lines;
  skipped = skips.skipped;
  counted = skips.counted;
  passed = Consumes-kept a b c (with_feeds skips.lines) skips.passed kept;
}

pub skips_more : (a b left : Option (List ℕ)) (ahead : List ℕ) (len count : ℕ) → Skips a b count → Keeps b (to_come ahead left) → HasLine ahead len → IsSkipped (take len ahead)
    → Skips a (to_come (drop (len + 1) ahead) left) (count + 1)
skips_more a b left ahead len count skips kept has skip =
    let line = take len ahead in
    let front = Consumes-kept a b (to_come ahead left) (with_feeds skips.lines) skips.passed kept in
    let both = Consumes-trans a (to_come ahead left) (to_come (drop (len + 1) ahead) left) (with_feeds skips.lines) (with_feed line) front (line_passes left ahead len has) in
    let push = feeds_push skips.lines line in
    record {
      lines = skips.lines ++ line ∷ [];
      skipped = skipped_push skips.lines line skips.skipped (line_is ahead len has) skip;
      counted = length_push skips.lines line ∙ ap (λ n. n + 1) skips.counted;
      passed = rw push both;
    }

-- what is found behind lines that are skipped
pub reaches : (what : Found) (a b left : Option (List ℕ)) (ahead : List ℕ) (count : ℕ) (other : Type 0) → Skips a b count → count < 2 ^ 40 → Keeps b (to_come ahead left) → Finds what ahead left other
    → ((len : ℕ) → what ≡ found.Line len → ¬ (IsSkipped (take len ahead))) → Reaches a what ahead left other
reaches (found.Line len) a b left ahead count other skips few kept finds unlike = (count, few, skips_unchanged a b _ count skips kept, finds, unlike len refl)
reaches found.End a b left ahead count other skips few kept finds unlike = (count, few, skips_unchanged a b _ count skips kept, finds)
reaches found.Fault a b left ahead count other skips few kept finds unlike = (count, omega arith, skips_unchanged a b _ count skips kept, inr finds)
reaches found.Failed a b left ahead count other skips few kept finds unlike = (count, omega arith, skips_unchanged a b _ count skips kept, finds)

-- ---- what a call answers

takes_line : (a left : Option (List ℕ)) (ahead : List ℕ) (len count : ℕ) (event : Event) (at : ℕ) → Skips a (to_come ahead left) count → count < 2 ^ 40 → HasLine ahead len
    → IsEventLine (take len ahead) event at → Takes a (to_come (drop (len + 1) ahead) left) event at
takes_line a left ahead len count event at skips few has is = record {
  lines = skips.lines;
  line = take len ahead;
  skipped = skips.skipped;
  few = omega (arith, skips.counted);
  is_line = line_is ahead len has;
  is_event = is;
  passed = Consumes-trans a (to_come ahead left) (to_come (drop (len + 1) ahead) left) (with_feeds skips.lines) (with_feed (take len ahead)) skips.passed (line_passes left ahead len has);
}

answers_takes : (a b : Option (List ℕ)) (line : List ℕ) (event : Event) (at : ℕ) (other : Type 0) → IsEventLine line event at → Takes a b event at → NextIs a b event at other
answers_takes a b line (event.Datagram peer bytes) at other is takes = takes
answers_takes a b line (event.Opened conn peer) at other is takes = takes
answers_takes a b line (event.Piece conn bytes) at other is takes = takes
answers_takes a b line (event.Closed conn) at other is takes = takes
answers_takes a b line event.Tick at other is takes = takes
answers_takes a b line event.Restart at other is takes = takes
answers_takes a b line event.End at other is takes = absurd is.says
answers_takes a b line event.Failed at other is takes = absurd is.says

pub answers_line : (a left : Option (List ℕ)) (ahead : List ℕ) (len : ℕ) (event : Event) (at : ℕ) (other : Type 0) → Reaches a (found.Line len) ahead left other
    → IsEventLine (take len ahead) event at → NextIs a (to_come (drop (len + 1) ahead) left) event at other
answers_line a left ahead len event at other reach is =
    answers_takes a _ (take len ahead) event at other is (takes_line a left ahead len reach.0 event at reach.2 reach.1 reach.3 is)

other_form : (left : Option (List ℕ)) (ahead : List ℕ) (len : ℕ) → HasLine ahead len → ¬ (IsSkipped (take len ahead)) → ((event : Event) (at : ℕ) → ¬ (IsEventLine (take len ahead) event at))
    → IfSome (to_come ahead left) IsFault
other_form None ahead len has unlike none = tt
other_form (Some xs) ahead len has unlike none = inr (inr (record {
  line = take len ahead;
  rest = drop (len + 1) ahead ++ xs;
  split = ap (λ bytes. bytes ++ xs) (line_split ahead len has) ∙ append_assoc (with_feed (take len ahead)) (drop (len + 1) ahead) xs;
  is_line = line_is ahead len has;
  not_skipped = unlike;
  no_event = none;
}))

pub answers_other : (a left : Option (List ℕ)) (ahead : List ℕ) (len : ℕ) (other : Type 0) → Reaches a (found.Line len) ahead left other
    → ((event : Event) (at : ℕ) → ¬ (IsEventLine (take len ahead) event at)) → NextIs a (to_come ahead left) event.Failed 0 other
answers_other a left ahead len other reach none = ((reach.0, omega (arith, reach.1), reach.2, inr (inl (other_form left ahead len reach.3 reach.4 none))), refl)

at_end : (left : Option (List ℕ)) (ahead : List ℕ) → HasNone ahead left → IsAtEnd (to_come ahead left)
at_end None ahead none = tt
at_end (Some xs) ahead none = ap (λ bytes. bytes ++ xs) none.none_ahead ∙ none.none_left

pub answers_end : (a left : Option (List ℕ)) (ahead : List ℕ) (other : Type 0) → Reaches a found.End ahead left other → NextIs a (to_come ahead left) event.End 0 other
answers_end a left ahead other reach = ((reach.0, reach.1, reach.2, at_end left ahead reach.3), refl)

fault_of : (text : Option (List ℕ)) → IfSome text (λ t. IsTooLong t ⊎ IsUnended t) → IfSome text IsFault
fault_of None fault = tt
fault_of (Some t) fault = elim fault [ inl long ↦ inl long | inr cut ↦ inr (inl cut) ]

pub answers_fault : (a left : Option (List ℕ)) (ahead : List ℕ) (other : Type 0) → Reaches a found.Fault ahead left other → NextIs a (to_come ahead left) event.Failed 0 other
answers_fault a left ahead other reach = ((reach.0, reach.1, reach.2, elim reach.3 [ inl full ↦ inl full | inr fault ↦ inr (inl (fault_of _ fault)) ]), refl)

pub answers_failed : (a left : Option (List ℕ)) (ahead : List ℕ) (other : Type 0) → Reaches a found.Failed ahead left other → NextIs a (to_come ahead left) event.Failed 0 other
answers_failed a left ahead other reach = ((reach.0, reach.1, reach.2, inr (inr reach.3)), refl)
