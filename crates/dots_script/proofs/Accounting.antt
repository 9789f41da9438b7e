-- Each call adds its line and its act to what was read, and its send to what was written.
use Rattle.std.proofs.Common.{◌≡◌, ℕ, ◌+◌, ◌^◌, ◌≤◌, inl, inr, Bool, List, [], ◌∷◌, ◌++◌, length, Option, Some, None, refl, sym, ap, ◌∙◌, subst, arith, append_assoc, append-nil, length-append}
use Rattle.std.specs.Prelude.{◌⊎◌}
use Rattle.std.specs.Io.KnownBytes.{Appends}
use Rattle.std.proofs.KnownBytes.{Appends-nil, Appends-trans}
use Rattle.dots_host.specs.declared.event.Event.{Event}
use Rattle.dots_host.specs.declared.event.Event.TheVariants as event
use Rattle.dots_host.specs.declared.out.OwnedOut.{OwnedOut}
use Rattle.dots_host.specs.declared.out.Sent.{Sent}
use Rattle.dots_host.specs.declared.out.Sent.TheVariants as sent
use Rattle.dots_host.specs.Acts.{wire_acts, Timed, took, gave, Adds, is_done}
use Rattle.dots_host.specs.Causes.{Rose}
use Rattle.dots_host.specs.declared.act.Act.{Act}
use Rattle.dots_host.specs.Memory.{Coming}
use Rattle.dots_host.specs.Writing.{AppendsBeginning}
use Rattle.dots_script.specs.Lines.{to_come, with_feed, with_feeds, AreSkipped, IsFault, Takes, Fails, Ends, NextIs}
use Rattle.dots_script.specs.Sends.{line_of}
use Rattle.dots_script.specs.Accounts.{AreMade, LineSays, event_in, events_among, IsTaken, HasRead, HasReadKnown, WireWrites, ActWrites, HasWritten, Outer, Accounts}
use Rattle.dots_script.proofs.OneAnswer.{stops_at_fault, no_fault_at_end, no_fault_at_event}
use Rattle.dots_script.proofs.Making.{made_then, made_one, feeds_append, skipped_say, few_said, events_push, took_back, nil_back}

-- ---- what an answer reads

record Passing (before after : List ℕ) (got : Event) (at : ℕ) (other : Type 0) : Type 0 where
  lines : List (List ℕ)
  split : before ≡ with_feeds lines ++ after
  said : AreMade LineSays lines (event_in (took got at))
  ended : got ≡ event.End → after ≡ []
  failed : got ≡ event.Failed → IsFault after ⊎ ((2 ^ 40 ≤ length lines) ⊎ other)
  fault : IsFault before → IsFault after

-- no line is skipped before a fault
fault_stays : (lines : List (List ℕ)) (before after : List ℕ) → AreSkipped lines → before ≡ with_feeds lines ++ after → IsFault before → before ≡ after
fault_stays [] before after all split fault = split
fault_stays (line ∷ lines) before after all split fault =
    absurd (stops_at_fault before fault line (with_feeds lines ++ after) (split ∙ append_assoc (with_feed line) (with_feeds lines) after) all.0 all.1)

fault_behind : (lines : List (List ℕ)) (before after : List ℕ) → AreSkipped lines → before ≡ with_feeds lines ++ after → IsFault before → IsFault after
fault_behind lines before after all split fault = subst IsFault (fault_stays lines before after all split fault) fault

no_end : (at : ℕ) → event.Failed ≡ event.End → ⊥
no_end at is = let one : 0 ≡ 1 = ap (λ e. length (event_in (took e at)) + number e) is in absurd (omega (arith, one))
  where
    number : Event → ℕ
    number event.End = 1
    number _ = 0

pass_failed : (before after : List ℕ) (at : ℕ) (other : Type 0) → Fails (Some before) (Some after) other → Passing before after event.Failed at other
pass_failed before after at other f =
    let lines = f.2.lines in
    record {
      lines = lines;
      split = f.2.passed;
      said = skipped_say lines f.2.skipped;
      ended = λ is. absurd (no_end at is);
      failed = λ _. elim f.3 [ inl full ↦ inr (inl (omega (arith, full, f.2.counted))) | inr rest ↦ elim rest [ inl fault ↦ inl fault | inr cause ↦ inr (inr cause) ] ];
      fault = fault_behind lines before after f.2.skipped f.2.passed;
    }

pass_end : (before after : List ℕ) (at : ℕ) (other : Type 0) → Ends (Some before) (Some after) → Passing before after event.End at other
pass_end before after at other e = record {
  lines = e.2.lines;
  split = e.2.passed;
  said = skipped_say e.2.lines e.2.skipped;
  ended = λ _. e.3;
  failed = λ is. absurd (no_end at (sym is));
  fault = fault_behind e.2.lines before after e.2.skipped e.2.passed;
}

no_taken : (before after : List ℕ) (got : Event) (at : ℕ) → Takes (Some before) (Some after) got at → IsFault before → ⊥
no_taken before after got at t fault =
    let behind : before ≡ with_feeds t.lines ++ (with_feed t.line ++ after) = t.passed ∙ append_assoc (with_feeds t.lines) (with_feed t.line) after in
    no_fault_at_event before t.line after got at (fault_stays t.lines before (with_feed t.line ++ after) t.skipped behind fault) t.is_line t.is_event fault

pass_taken : (before after : List ℕ) (got : Event) (at : ℕ) (other : Type 0) → event_in (took got at) ≡ (record { event = got; at = at }) ∷ [] → Takes (Some before) (Some after) got at
    → Passing before after got at other
pass_taken before after got at other is t =
    let line = t.line in
    let one : AreMade LineSays (line ∷ []) (event_in (took got at)) = made_one LineSays line (event_in (took got at)) (t.is_line, inr ((record { event = got; at = at }), t.is_event, is)) in
    record {
      lines = t.lines ++ line ∷ [];
      split = t.passed ∙ ap (λ front. front ++ after) (ap (λ back. with_feeds t.lines ++ back) (sym (append-nil (with_feed line))) ∙ sym (feeds_append t.lines (line ∷ [])));
      said = made_then LineSays t.lines (line ∷ []) [] (event_in (took got at)) (skipped_say t.lines t.skipped) one;
      ended = λ end. absurd (no_such got event.End at is refl end);
      failed = λ failed. absurd (no_such got event.Failed at is refl failed);
      fault = λ fault. absurd (no_taken before after got at t fault);
    }
  where
    no_such : (got other : Event) (at : ℕ) → event_in (took got at) ≡ (record { event = got; at = at }) ∷ [] → event_in (took other at) ≡ [] → got ≡ other → ⊥
    no_such got other at is none same =
        let size : 1 ≡ 0 = sym (ap length is) ∙ ap (λ e. length (event_in (took e at))) same ∙ ap length none in
        absurd (omega (arith, size))

passing : (before after : List ℕ) (got : Event) (at : ℕ) (other : Type 0) → NextIs (Some before) (Some after) got at other → Passing before after got at other
passing before after event.Failed at other a = pass_failed before after at other a.0
passing before after event.End at other a = pass_end before after at other a.0
passing before after (event.Datagram peer bytes) at other a = pass_taken before after _ at other refl a
passing before after (event.Opened conn peer) at other a = pass_taken before after _ at other refl a
passing before after (event.Piece conn bytes) at other a = pass_taken before after _ at other refl a
passing before after (event.Closed conn) at other a = pass_taken before after _ at other refl a
passing before after event.Tick at other a = pass_taken before after _ at other refl a
passing before after event.Restart at other a = pass_taken before after _ at other refl a

no_answer : (before : List ℕ) (got : Event) (at : ℕ) (other : Type 0) → NextIs (Some before) None got at other → ⊥
no_answer before event.Failed at other a = a.0.2.passed
no_answer before event.End at other a = a.0.2.passed
no_answer before (event.Datagram peer bytes) at other a = a.passed
no_answer before (event.Opened conn peer) at other a = a.passed
no_answer before (event.Piece conn bytes) at other a = a.passed
no_answer before (event.Closed conn) at other a = a.passed
no_answer before event.Tick at other a = a.passed
no_answer before event.Restart at other a = a.passed

-- at a fault a call fails, and reads no further
fault_known : (before after : List ℕ) (got : Event) (at : ℕ) (other : Type 0) → IsFault before → NextIs (Some before) (Some after) got at other → (got ≡ event.Failed) × (after ≡ before)
fault_known before after event.Failed at other fault a = (refl, sym (fault_stays a.0.2.lines before after a.0.2.skipped a.0.2.passed fault))
fault_known before after event.End at other fault a = absurd (no_fault_at_end after a.0.3 (fault_behind a.0.2.lines before after a.0.2.skipped a.0.2.passed fault))
fault_known before after (event.Datagram peer bytes) at other fault a = absurd (no_taken before after _ at a fault)
fault_known before after (event.Opened conn peer) at other fault a = absurd (no_taken before after _ at a fault)
fault_known before after (event.Piece conn bytes) at other fault a = absurd (no_taken before after _ at a fault)
fault_known before after (event.Closed conn) at other fault a = absurd (no_taken before after _ at a fault)
fault_known before after event.Tick at other fault a = absurd (no_taken before after _ at a fault)
fault_known before after event.Restart at other fault a = absurd (no_taken before after _ at a fault)

pub same_fault_stays : (before : List ℕ) (new : Option (List ℕ)) (got : Event) (at : ℕ) (other : Type 0) → IsFault before → NextIs (Some before) new got at other → (got ≡ event.Failed) × (new ≡ Some before)
same_fault_stays before None got at other fault a = absurd (no_answer before got at other a)
same_fault_stays before (Some after) got at other fault a = let same = fault_known before after got at other fault a in (same.0, ap Some same.1)

-- ---- one more event was read

failed_more : (before after : List ℕ) (said part events lines more : ℕ) (rose other : Type 0) → said ≡ events + part → part ≤ more → (IsFault before → IsFault after) → (rose → other)
    → IsFault before ⊎ ((events + 2 ^ 40 ≤ lines) ⊎ rose) → IsFault after ⊎ ((said + 2 ^ 40 ≤ lines + more) ⊎ other)
failed_more before after said part events lines more rose other is few kept weaker (inl fault) = inl (kept fault)
failed_more before after said part events lines more rose other is few kept weaker (inr (inl large)) = inr (inl (omega (arith, large, is, few)))
failed_more before after said part events lines more rose other is few kept weaker (inr (inr cause)) = inr (inr (weaker cause))

failed_now : (after : List ℕ) (said part events lines more : ℕ) (cause other : Type 0) → said ≡ events + part → part ≡ 0 → events ≤ lines → (cause → other)
    → IsFault after ⊎ ((2 ^ 40 ≤ more) ⊎ cause) → IsFault after ⊎ ((said + 2 ^ 40 ≤ lines + more) ⊎ other)
failed_now after said part events lines more cause other is none few weaker (inl fault) = inl fault
failed_now after said part events lines more cause other is none few weaker (inr (inl large)) = inr (inl (omega (arith, large, is, none, few)))
failed_now after said part events lines more cause other is none few weaker (inr (inr why)) = inr (inr (weaker why))

read_more : (script before after : List ℕ) (rose cause other : Type 0) (acts : List Timed) (timed : Timed) (got : Event) (at : ℕ) → timed.act ≡ took got at → (rose → other) → (cause → other)
    → HasRead script before rose acts → Passing before after got at cause → HasRead script after other (acts ++ timed ∷ [])
read_more script before after rose cause other acts timed got at is weaker causes old pass =
    let part = event_in (took got at) in
    let push : events_among (acts ++ timed ∷ []) ≡ events_among acts ++ part = events_push acts timed ∙ ap (λ act. events_among acts ++ event_in act) is in
    let lines = old.lines ++ pass.lines in
    let said : length (events_among (acts ++ timed ∷ [])) ≡ length (events_among acts) + length part = ap length push ∙ length-append (events_among acts) part in
    let long : length lines ≡ length old.lines + length pass.lines = length-append old.lines pass.lines in
    record {
      lines = lines;
      split = old.split ∙ ap (λ rest. with_feeds old.lines ++ rest) pass.split ∙ sym (append_assoc (with_feeds old.lines) (with_feeds pass.lines) after) ∙ ap (λ front. front ++ after) (sym (feeds_append old.lines pass.lines));
      said = subst (AreMade LineSays lines) (sym push) (made_then LineSays old.lines pass.lines (events_among acts) part old.said pass.said);
      ended = λ end. elim (took_back event.End acts timed end) [
        | inl before_now ↦ nil_back (with_feeds pass.lines) after (sym (old.ended before_now) ∙ pass.split)
        | inr now ↦ pass.ended (subst (IsTaken event.End) is now)
      ];
      failed = λ failed. subst (λ (count : ℕ). IsFault after ⊎ ((length (events_among (acts ++ timed ∷ [])) + 2 ^ 40 ≤ count) ⊎ other)) (sym long) (elim (took_back event.Failed acts timed failed) [
        | inl before_now ↦ failed_more before after _ (length part) (length (events_among acts)) (length old.lines) (length pass.lines) rose other said (few_said pass.lines part pass.said) pass.fault weaker (old.failed before_now)
        | inr now ↦ failed_now after _ (length part) (length (events_among acts)) (length old.lines) (length pass.lines) cause other said (no_part got at (subst (IsTaken event.Failed) is now)) (few_said old.lines (events_among acts) old.said) causes (pass.failed (subst (IsTaken event.Failed) is now))
      ]);
    }
  where
    no_part : (got : Event) (at : ℕ) → got ≡ event.Failed → length (event_in (took got at)) ≡ 0
    no_part got at is = ap (λ e. length (event_in (took e at))) is

rose_before : (start old new : ℕ) → start ≤ old → Rose old new → Rose start new
rose_before start old new later rose = omega (arith, later, rose)

rose_after : (start old new : ℕ) → old ≤ new → Rose start old → Rose start new
rose_after start old new later rose = omega (arith, later, rose)

read_known : (script before after : Option (List ℕ)) (start old new : ℕ) (acts : List Timed) (timed : Timed) (got : Event) (at : ℕ) → timed.act ≡ took got at → start ≤ old → old ≤ new
    → HasReadKnown script before (Rose start old) acts → NextIs before after got at (Rose old new) → HasReadKnown script after (Rose start new) (acts ++ timed ∷ [])
read_known None before after start old new acts timed got at is first later h a = tt
read_known (Some script) None after start old new acts timed got at is first later h a = absurd h
read_known (Some script) (Some before) None start old new acts timed got at is first later h a = absurd (no_answer before got at (Rose old new) a)
read_known (Some script) (Some before) (Some after) start old new acts timed got at is first later h a =
    read_more script before after (Rose start old) (Rose old new) (Rose start new) acts timed got at is (rose_after start old new later) (rose_before start old new first) h (passing before after got at (Rose old new) a)

-- ---- one more act was written

written_more : (start old new : Option (List ℕ)) (acts : List Timed) (timed : Timed) (part : List ℕ) → HasWritten start old acts → WireWrites timed.act part → Appends old new part
    → HasWritten start new (acts ++ timed ∷ [])
written_more start old new acts timed part h writes appends = record {
  text = h.text ++ part;
  made = made_then ActWrites acts (timed ∷ []) h.text part h.made (made_one ActWrites timed part writes);
  appends = Appends-trans start old new h.text part h.appends appends;
}

appends_none : (old new : Option (List ℕ)) → new ≡ old → Appends old new []
appends_none None new is = tt
appends_none (Some xs) None is = absurd (omega (arith, ap count is))
  where
    count : Option (List ℕ) → ℕ
    count None = 0
    count (Some xs) = 1
appends_none (Some xs) (Some ys) is = ap (λ known. known_or known) is ∙ sym (append-nil xs)
  where
    known_or : Option (List ℕ) → List ℕ
    known_or None = []
    known_or (Some xs) = xs

-- ---- a call of next, and a call of send

pub accounts_taken : (start old new : Outer) (before after : List Timed) (moment now : ℕ) (got : Event) (at : ℕ) → Adds (Some before) moment (Some after) now (took got at)
    → NextIs old.script new.script got at (Rose old.failures new.failures) → old.failures ≤ new.failures → new.written ≡ old.written → Accounts start old before → Accounts start new after
accounts_taken start old new before after moment now got at adds a later written h =
    let timed : Timed = record { moment = moment; act = took got at } in
    let all : Accounts start new (before ++ timed ∷ []) = record {
      later = omega (arith, later, h.later);
      read = read_known start.script old.script new.script start.failures old.failures new.failures before timed got at refl h.later later h.read a;
      written = written_more start.written old.written new.written before timed [] h.written refl (appends_none old.written new.written written);
    } in
    subst (Accounts start new) (sym adds.0) all

read_unchanged : (script rest : Option (List ℕ)) (other : Type 0) (acts : List Timed) (timed : Timed) (out : OwnedOut) (done : Bool) → timed.act ≡ gave out done
    → HasReadKnown script rest other acts → HasReadKnown script rest other (acts ++ timed ∷ [])
read_unchanged None rest other acts timed out done is h = tt
read_unchanged (Some script) None other acts timed out done is h = h
read_unchanged (Some script) (Some rest) other acts timed out done is h =
    let same : events_among (acts ++ timed ∷ []) ≡ events_among acts = events_push acts timed ∙ ap (λ act. events_among acts ++ event_in act) is ∙ append-nil (events_among acts) in
    record {
      lines = h.lines;
      split = h.split;
      said = subst (AreMade LineSays h.lines) (sym same) h.said;
      ended = λ end. elim (took_back event.End acts timed end) [
        | inl before_now ↦ h.ended before_now
        | inr now ↦ absurd (subst (IsTaken event.End) is now)
      ];
      failed = λ failed. subst (λ (said : List Coming). IsFault rest ⊎ ((length said + 2 ^ 40 ≤ length h.lines) ⊎ other)) (sym same) (elim (took_back event.Failed acts timed failed) [
        | inl before_now ↦ h.failed before_now
        | inr now ↦ absurd (subst (IsTaken event.Failed) is now)
      ]);
    }

-- what a send wrote
pub record Piece (old new : Option (List ℕ)) (out : OwnedOut) (result : Sent) : Type 0 where
  pub text : List ℕ
  pub writes : WireWrites (gave out (is_done result)) text
  pub appends : Appends old new text

pub piece_done : (old new : Option (List ℕ)) (out : OwnedOut) (result : Sent) → result ≡ sent.Done → Appends old new (line_of out) → Piece old new out result
piece_done old new out result is appends = record { text = line_of out; writes = subst (λ (r : Sent). WireWrites (gave out (is_done r)) (line_of out)) (sym is) refl; appends = appends }

pub piece_lost : (old new : Option (List ℕ)) (out : OwnedOut) (result : Sent) → result ≡ sent.Lost → AppendsBeginning old new (line_of out) → Piece old new out result
piece_lost old new out result is part = record { text = part.front; writes = subst (λ (r : Sent). WireWrites (gave out (is_done r)) part.front) (sym is) (part.rest, part.split); appends = part.appends }

pub accounts_given : (start old new : Outer) (before after : List Timed) (moment now : ℕ) (out : OwnedOut) (result : Sent) → Adds (Some before) moment (Some after) now (gave out (is_done result))
    → new.script ≡ old.script → new.failures ≡ old.failures → Piece old.written new.written out result → Accounts start old before → Accounts start new after
accounts_given start old new before after moment now out result adds script failures one h =
    let timed : Timed = record { moment = moment; act = gave out (is_done result) } in
    let read = read_unchanged start.script old.script (Rose start.failures old.failures) before timed out (is_done result) refl h.read in
    let all : Accounts start new (before ++ timed ∷ []) = record {
      later = omega (arith, failures, h.later);
      read = subst (λ (rest : Option (List ℕ)). HasReadKnown start.script rest (Rose start.failures new.failures) (before ++ timed ∷ [])) (sym script)
          (subst (λ (count : ℕ). HasReadKnown start.script old.script (Rose start.failures count) (before ++ timed ∷ [])) (sym failures) read);
      written = written_more start.written old.written new.written before timed one.text h.written one.writes one.appends;
    } in
    subst (Accounts start new) (sym adds.0) all

-- ---- nothing was called yet

pub accounts_none : (start : Outer) → Accounts start start []
accounts_none start = record { later = omega arith; read = read_none start.script; written = record { text = []; made = refl; appends = Appends-nil start.written } }
  where
    read_none : (script : Option (List ℕ)) → HasReadKnown script script (Rose start.failures start.failures) []
    read_none None = tt
    read_none (Some script) = record { lines = []; split = refl; said = refl; ended = λ none. absurd none; failed = λ none. absurd none }

begun : (left written : Option (List ℕ)) (failures : ℕ) → Accounts (record { script = left; written = written; failures = failures }) (record { script = to_come [] left; written = written; failures = failures }) []
begun None written failures = accounts_none (record { script = None; written = written; failures = failures })
begun (Some script) written failures = accounts_none (record { script = Some script; written = written; failures = failures })

pub accounts_begun : (left written : Option (List ℕ)) (failures : ℕ) (ahead : List ℕ) (acts : List Act) → ahead ≡ [] → acts ≡ []
    → Accounts (record { script = left; written = written; failures = failures }) (record { script = to_come ahead left; written = written; failures = failures }) (wire_acts 0 acts)
accounts_begun left written failures ahead acts none no_acts = rw (none, no_acts) (begun left written failures)
