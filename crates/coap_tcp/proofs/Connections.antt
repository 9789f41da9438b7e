-- The turns of a connection are one list, however it is cut.
use Rattle.std.proofs.Common.{◌≡◌, ℕ, Bool, true, false, cond, eqb, List, [], ◌∷◌, ◌++◌, length, drop, refl, sym, ap, subst, ◌∙◌, append_assoc, inl, inr, zero, suc, ◌<◌, ◌≤◌, arith}
use Rattle.std.specs.Prelude.{◌⊎◌, ◌||◌, map}
use Rattle.std.proofs.lemmas.List.{append-nil, length-drop}
use Rattle.coap_message.proofs.Steps.{IsBytes, IsBytes-drop}
use Rattle.coap_tcp.specs.Frames.{FrameValue, BeginsWith, IsFrame, frame_bytes}
use Rattle.coap_tcp.specs.FrameReading.{FrameCutValue, takes, refuses, frame_at}
use Rattle.coap_tcp.specs.FrameReading as reading
use Rattle.coap_tcp.specs.Streams.{joined}
use Rattle.coap_tcp.proofs.CutValues.{frame_found, found_behind, found_size}
use Rattle.coap_tcp.proofs.Streams.{taken_still, refused_still, one_stream}
use Rattle.coap_tcp.specs.declared.codes.TheConstants.{CSM}
use Rattle.coap_tcp.specs.Turns.{TurnValue, waits, begins, passes, answers, serves, aborts, closes, message_turn, later_turn, turn_of, turn_at}
use Rattle.coap_tcp.specs.Connections.{StreamValue, size_of, begun_by, behind, with_piece, is_last, up_to_last, message_turns, end_turns, turns_of, IsConnection, GoesOn, AreTaken, AreLast, AreRead}
use Rattle.coap_tcp.proofs.FrameLemmas.{which_cut, left_behind, first_then, stream_from, fits_front}

-- ---- a turn

goes_on_open : (turn : TurnValue) → GoesOn turn → is_last turn ≡ false
goes_on_open waits goes = absurd goes
goes_on_open begins goes = refl
goes_on_open passes goes = refl
goes_on_open (answers bytes) goes = refl
goes_on_open (serves f) goes = refl
goes_on_open aborts goes = absurd goes
goes_on_open closes goes = absurd goes

first_begins : (b : Bool) → GoesOn (cond b begins aborts) → b ≡ true
first_begins true goes = refl
first_begins false goes = absurd goes

-- behind a turn that goes on the connection has begun
begun_behind : (begun : Bool) (f : FrameValue) → GoesOn (message_turn begun f) → (begun || eqb f.code CSM) ≡ true
begun_behind true f goes = refl
begun_behind false f goes = first_begins (eqb f.code CSM) goes

later_turns : (fs : List FrameValue) → message_turns true fs ≡ map later_turn fs
later_turns [] = refl
later_turns (f ∷ fs) = refl

up_to_open : (turn : TurnValue) (turns : List TurnValue) → is_last turn ≡ false → up_to_last (turn ∷ turns) ≡ turn ∷ up_to_last turns
up_to_open turn turns e = rw e refl

up_to_end : (turn : TurnValue) (turns : List TurnValue) → is_last turn ≡ true → up_to_last (turn ∷ turns) ≡ turn ∷ []
up_to_end turn turns e = rw e refl

-- the turns of a message that goes on, and of those behind it
turns_then : (begun : Bool) (f : FrameValue) (fs : List FrameValue) (end : FrameCutValue) → GoesOn (message_turn begun f) → turns_of begun (f ∷ fs) end ≡ message_turn begun f ∷ turns_of true fs end
turns_then begun f fs end goes =
    up_to_open (message_turn begun f) (map later_turn fs ++ end_turns end) (goes_on_open (message_turn begun f) goes)
    ∙ ap (λ (ts : List TurnValue). message_turn begun f ∷ up_to_last (ts ++ end_turns end)) (sym (later_turns fs))

turns_end : (begun : Bool) (f : FrameValue) (fs : List FrameValue) (end : FrameCutValue) → is_last (message_turn begun f) ≡ true → turns_of begun (f ∷ fs) end ≡ message_turn begun f ∷ []
turns_end begun f fs end last = up_to_end (message_turn begun f) (map later_turn fs ++ end_turns end) last

-- ---- a turn that stands at the front of some bytes, and of those with more

-- what stands behind the turn
abbrev state_behind : Bool → List ℕ → FrameCutValue → StreamValue
state_behind begun bytes cut = record { begun = begun_by begun cut; bytes = drop (size_of cut) bytes }

-- a frame at the front is that of all bytes
begins_still : (bytes more : List ℕ) (f : FrameValue) → IsBytes (bytes ++ more) → frame_at bytes ≡ takes f → BeginsWith (bytes ++ more) f (drop (length (frame_bytes f)) bytes ++ more)
begins_still bytes more f fits e =
    let found = frame_found (bytes ++ more) f fits (taken_still bytes more f e) in
    subst (λ (y : List ℕ). BeginsWith (bytes ++ more) f y) (left_behind bytes more f fits e) (found_behind (bytes ++ more) f found)

fits_behind : (bytes more : List ℕ) (f : FrameValue) → IsBytes (bytes ++ more) → frame_at bytes ≡ takes f → IsBytes (drop (length (frame_bytes f)) bytes ++ more)
fits_behind bytes more f fits e = subst IsBytes (left_behind bytes more f fits e) (IsBytes-drop (length (frame_bytes f)) (bytes ++ more) fits)

pub fits_on : (s : StreamValue) (more : List ℕ) → IsBytes (s.bytes ++ more) → GoesOn (turn_at s.begun s.bytes) → IsBytes ((behind s).bytes ++ more)
fits_on s more fits goes =
    elim (which_cut (frame_at s.bytes)) [
      | inl e ↦ absurd (rw e at goes)
      | inr (inl p) ↦ absurd (rw (p.1) at goes)
      | inr (inr p) ↦ rw (p.1) (fits_behind s.bytes more p.0 fits p.1)
    ]

-- a turn that goes on, and those behind it
turn_then : (s : StreamValue) (more : List ℕ) (turns : List TurnValue) → IsBytes (s.bytes ++ more) → GoesOn (turn_at s.begun s.bytes) → IsConnection (behind s).begun ((behind s).bytes ++ more) turns
    → IsConnection s.begun (s.bytes ++ more) (turn_at s.begun s.bytes ∷ turns)
turn_then s more turns fits goes x =
    elim (which_cut (frame_at s.bytes)) [
      | inl e ↦ absurd (rw e at goes)
      | inr (inl p) ↦ absurd (rw (p.1) at goes)
      | inr (inr p) ↦
          let f = p.0 in
          let on : GoesOn (message_turn s.begun f) = rw (p.1) at goes in
          let after : IsConnection (s.begun || eqb f.code CSM) (drop (length (frame_bytes f)) s.bytes ++ more) turns = rw (p.1) at x in
          record {
            messages = f ∷ after.messages;
            end = after.end;
            rest = after.rest;
            stream = first_then (s.bytes ++ more) (drop (length (frame_bytes f)) s.bytes ++ more) f after.messages after.end after.rest (begins_still s.bytes more f fits p.1) after.stream;
            are = ap (λ (cut : FrameCutValue). turn_of s.begun cut ∷ turns) (p.1)
                ∙ ap (λ (ts : List TurnValue). message_turn s.begun f ∷ ts) (after.are ∙ ap (λ (b : Bool). turns_of b after.messages after.end) (begun_behind s.begun f on))
                ∙ sym (turns_then s.begun f after.messages after.end on);
          }
    ]

-- a turn that ends the connection
turn_last : (s : StreamValue) (more : List ℕ) → IsBytes (s.bytes ++ more) → is_last (turn_at s.begun s.bytes) ≡ true → IsConnection s.begun (s.bytes ++ more) (turn_at s.begun s.bytes ∷ [])
turn_last s more fits last =
    elim (which_cut (frame_at s.bytes)) [
      | inl e ↦ absurd (let bad : false ≡ true = rw e at last in cc)
      | inr (inl p) ↦ record {
        messages = [];
        end = refuses p.0;
        rest = s.bytes ++ more;
        stream = record { are = tt; parts = refl; as_cut = refused_still s.bytes more p.0 p.1; ends = tt };
        are = ap (λ (cut : FrameCutValue). turn_of s.begun cut ∷ []) (p.1);
      }
      | inr (inr p) ↦
          let f = p.0 in
          let behind_it = drop (length (frame_bytes f)) s.bytes ++ more in
          let later = stream_from behind_it (fits_behind s.bytes more f fits p.1) in
          record {
            messages = f ∷ later.messages;
            end = later.end;
            rest = later.rest;
            stream = first_then (s.bytes ++ more) behind_it f later.messages later.end later.rest (begins_still s.bytes more f fits p.1) later.stream;
            are = ap (λ (cut : FrameCutValue). turn_of s.begun cut ∷ []) (p.1) ∙ sym (turns_end s.begun f later.messages later.end (rw (p.1) at last));
          }
    ]

-- a message has a turn of its own
never_by : (a b c : Bool) (f : FrameValue) (bytes : List ℕ) → cond a (answers bytes) (cond b closes (cond c (serves f) passes)) ≡ waits → ⊥
never_by true b c f bytes e = cc
never_by false true c f bytes e = cc
never_by false false true f bytes e = cc
never_by false false false f bytes e = cc

never_first : (b : Bool) → cond b begins aborts ≡ waits → ⊥
never_first true e = cc
never_first false e = cc

never_waits : (begun : Bool) (f : FrameValue) → message_turn begun f ≡ waits → ⊥
never_waits true f e = never_by _ _ _ f _ e
never_waits false f e = never_first _ e

-- nothing whole is there
turn_waits : (s : StreamValue) → turn_at s.begun s.bytes ≡ waits → IsConnection s.begun s.bytes []
turn_waits s none =
    elim (which_cut (frame_at s.bytes)) [
      | inl e ↦ record { messages = []; end = reading.waits; rest = s.bytes; stream = record { are = tt; parts = refl; as_cut = e; ends = tt }; are = refl }
      | inr (inl p) ↦ absurd (let bad : aborts ≡ waits = rw (p.1) at none in cc)
      | inr (inr p) ↦ absurd (never_waits s.begun p.0 (rw (p.1) at none))
    ]

-- ---- the turns of a reader

-- a reader's turns as far as the connection ended
pub last_read : (s : StreamValue) (turns : List TurnValue) (more : List ℕ) → IsBytes (s.bytes ++ more) → AreLast s turns → IsConnection s.begun (s.bytes ++ more) turns
last_read s [] more fits x = absurd x
last_read s (turn ∷ turns) more fits x =
    elim (x.1) [
      | inl end ↦ subst (λ (ts : List TurnValue). IsConnection s.begun (s.bytes ++ more) ts) (ap (λ (t : TurnValue). t ∷ []) (x.0) ∙ ap (λ (ts : List TurnValue). turn ∷ ts) (sym (end.1))) (turn_last s more fits (ap is_last (x.0) ∙ end.0))
      | inr on ↦
          let goes : GoesOn (turn_at s.begun s.bytes) = subst GoesOn (sym (x.0)) on.0 in
          subst (λ (t : TurnValue). IsConnection s.begun (s.bytes ++ more) (t ∷ turns)) (x.0)
          (turn_then s more turns fits goes (last_read (behind s) turns more (fits_on s more fits goes) on.1))
    ]

-- its turns until more is waited for, and those of what is buffered then with what follows
pub taken_then : (s : StreamValue) (first : List TurnValue) (left : StreamValue) (more : List ℕ) (later : List TurnValue) → IsBytes (s.bytes ++ more) → AreTaken s first left
    → (IsBytes (left.bytes ++ more) → IsConnection left.begun (left.bytes ++ more) later) → IsConnection s.begun (s.bytes ++ more) (first ++ later)
taken_then s [] left more later fits x y =
    let bytes : IsBytes (left.bytes ++ more) = subst (λ (t : StreamValue). IsBytes (t.bytes ++ more)) (sym (x.1)) fits in
    subst (λ (t : StreamValue). IsConnection t.begun (t.bytes ++ more) later) (x.1) (y bytes)
taken_then s (turn ∷ first) left more later fits x y =
    let goes : GoesOn (turn_at s.begun s.bytes) = subst GoesOn (sym (x.0)) (x.1) in
    subst (λ (t : TurnValue). IsConnection s.begun (s.bytes ++ more) (t ∷ (first ++ later))) (x.0)
    (turn_then s more (first ++ later) fits goes (taken_then (behind s) first left more later (fits_on s more fits goes) (x.2) y))

taken_waits : (s : StreamValue) (turns : List TurnValue) (left : StreamValue) → AreTaken s turns left → turn_at left.begun left.bytes ≡ waits
taken_waits s [] left x = subst (λ (t : StreamValue). turn_at t.begun t.bytes ≡ waits) (sym (x.1)) (x.0)
taken_waits s (turn ∷ turns) left x = taken_waits (behind s) turns left (x.2)

-- what is taken in pieces are the turns of all of the bytes
pub read_connection : (s : StreamValue) (pieces : List (List ℕ)) (turns : List TurnValue) → IsBytes (s.bytes ++ joined pieces) → AreRead s pieces turns → IsConnection s.begun (s.bytes ++ joined pieces) turns
read_connection s [] turns fits (inl x) = last_read s turns [] fits x
read_connection s [] turns fits (inr x) =
    let none = turn_waits (x.0) (taken_waits s turns (x.0) (x.1)) in
    subst (λ (ts : List TurnValue). IsConnection s.begun (s.bytes ++ []) ts) (append-nil turns)
    (taken_then s turns (x.0) [] [] fits (x.1) (λ _. subst (λ (y : List ℕ). IsConnection x.0.begun y []) (sym (append-nil (x.0.bytes))) none))
read_connection s (piece ∷ pieces) turns fits (inl x) = last_read s turns (piece ++ joined pieces) fits x
read_connection s (piece ∷ pieces) turns fits (inr x) =
    let left = x.1 in
    let whole = append_assoc left.bytes piece (joined pieces) in
    subst (λ (ts : List TurnValue). IsConnection s.begun (s.bytes ++ (piece ++ joined pieces)) ts) (sym (x.5))
    (taken_then s (x.0) left (piece ++ joined pieces) (x.2) fits (x.3)
    (λ bytes. subst (λ (y : List ℕ). IsConnection left.begun y (x.2)) whole
    (read_connection (with_piece piece left) pieces (x.2) (subst IsBytes (sym whole) bytes) (x.4))))

-- ---- there is a reading of each cut

which_turn : (turn : TurnValue) → (turn ≡ waits) ⊎ (is_last turn ≡ true) ⊎ GoesOn turn
which_turn waits = inl refl
which_turn begins = inr (inr tt)
which_turn passes = inr (inr tt)
which_turn (answers bytes) = inr (inr tt)
which_turn (serves f) = inr (inr tt)
which_turn aborts = inr (inl refl)
which_turn closes = inr (inl refl)

-- a turn that goes on takes a byte at least
falls : (s : StreamValue) → IsBytes s.bytes → GoesOn (turn_at s.begun s.bytes) → length (behind s).bytes < length s.bytes
falls s fits goes =
    elim (which_cut (frame_at s.bytes)) [
      | inl e ↦ absurd (rw e at goes)
      | inr (inl p) ↦ absurd (rw (p.1) at goes)
      | inr (inr p) ↦
          let size = found_size s.bytes (p.0) (frame_found s.bytes (p.0) fits (p.1)) in
          rw (p.1) (omega (arith, length-drop (length (frame_bytes p.0)) s.bytes, size.0, size.1))
    ]

-- the turns that are there, and what is buffered then where none was the last
abbrev Reading : StreamValue → List ℕ → Type 0
Reading s more =
    ((turns : List TurnValue) × AreLast s turns)
    ⊎ ((turns : List TurnValue) × (left : StreamValue) × AreTaken s turns left × IsBytes (left.bytes ++ more))

before : (s : StreamValue) (more : List ℕ) → GoesOn (turn_at s.begun s.bytes) → Reading (behind s) more → Reading s more
before s more goes (inl x) = inl (turn_at s.begun s.bytes ∷ x.0, (refl, inr (goes, x.1)))
before s more goes (inr x) = inr (turn_at s.begun s.bytes ∷ x.0, x.1, (refl, goes, x.2), x.3)

reading_within : (n : ℕ) (s : StreamValue) (more : List ℕ) → length s.bytes ≤ n → IsBytes (s.bytes ++ more) → Reading s more
reading_within zero s more le fits =
    elim (which_turn (turn_at s.begun s.bytes)) [
      | inl w ↦ inr ([], s, (w, refl), fits)
      | inr (inl last) ↦ inl (turn_at s.begun s.bytes ∷ [], (refl, inl (last, refl)))
      | inr (inr goes) ↦ absurd (omega (arith, falls s (fits_front s.bytes more fits) goes, le))
    ]
reading_within (suc n) s more le fits =
    elim (which_turn (turn_at s.begun s.bytes)) [
      | inl w ↦ inr ([], s, (w, refl), fits)
      | inr (inl last) ↦ inl (turn_at s.begun s.bytes ∷ [], (refl, inl (last, refl)))
      | inr (inr goes) ↦
          let less = falls s (fits_front s.bytes more fits) goes in
          before s more goes (reading_within n (behind s) more (omega (arith, less, le)) (fits_on s more fits goes))
    ]

pub each_reading : (s : StreamValue) (pieces : List (List ℕ)) → IsBytes (s.bytes ++ joined pieces) → (turns : List TurnValue) × AreRead s pieces turns
each_reading s [] fits =
    elim (reading_within (length s.bytes) s [] (omega arith) fits) [
      | inl x ↦ (x.0, inl x.1)
      | inr x ↦ (x.0, inr (x.1, x.2))
    ]
each_reading s (piece ∷ pieces) fits =
    elim (reading_within (length s.bytes) s (piece ++ joined pieces) (omega arith) fits) [
      | inl x ↦ (x.0, inl x.1)
      | inr x ↦
          let left = x.1 in
          let later = each_reading (with_piece piece left) pieces (subst IsBytes (sym (append_assoc left.bytes piece (joined pieces))) x.3) in
          (x.0 ++ later.0, inr (x.0, left, later.0, x.2, later.1, refl))
    ]

-- ---- one list of turns

pub one_connection : (begun : Bool) (bytes : List ℕ) (turns others : List TurnValue) → IsConnection begun bytes turns → IsConnection begun bytes others → turns ≡ others
one_connection begun bytes turns others x y =
    let one = one_stream bytes x.messages y.messages x.end y.end x.rest y.rest x.stream y.stream in
    x.are ∙ ap (λ (fs : List FrameValue). turns_of begun fs x.end) (one.0) ∙ ap (turns_of begun y.messages) (one.1) ∙ sym y.are

pub one_reading : (s : StreamValue) (pieces parts : List (List ℕ)) (turns others : List TurnValue) → IsBytes (s.bytes ++ joined pieces) → joined pieces ≡ joined parts → AreRead s pieces turns → AreRead s parts others → turns ≡ others
one_reading s pieces parts turns others fits same x y =
    let a = read_connection s pieces turns fits x in
    let b = read_connection s parts others (subst (λ (z : List ℕ). IsBytes (s.bytes ++ z)) same fits) y in
    one_connection s.begun (s.bytes ++ joined parts) turns others (subst (λ (z : List ℕ). IsConnection s.begun (s.bytes ++ z) turns) same a) b

pub each_connection : (begun : Bool) (bytes : List ℕ) → IsBytes bytes → (turns : List TurnValue) × IsConnection begun bytes turns
each_connection begun bytes fits =
    let all = stream_from bytes fits in
    (turns_of begun all.messages all.end, record { messages = all.messages; end = all.end; rest = all.rest; stream = all.stream; are = refl })

-- ---- what the turns say

-- the first turn of a connection begins it, or ends it
pub first_of : (bytes : List ℕ) (turn : TurnValue) (turns : List TurnValue) → IsConnection false bytes (turn ∷ turns) → (turn ≡ begins) ⊎ ((turn ≡ aborts) × (turns ≡ []))
first_of bytes turn turns x = by_messages x.messages x.end x.are
  where
    by_first : (b : Bool) (turn : TurnValue) (turns later : List TurnValue) → turn ∷ turns ≡ up_to_last (cond b begins aborts ∷ later) → (turn ≡ begins) ⊎ ((turn ≡ aborts) × (turns ≡ []))
    by_first true turn turns later e = inl cc
    by_first false turn turns later e = inr (cc, cc)

    by_messages : (fs : List FrameValue) (end : FrameCutValue) → turn ∷ turns ≡ turns_of false fs end → (turn ≡ begins) ⊎ ((turn ≡ aborts) × (turns ≡ []))
    by_messages [] (takes f) e = absurd cc
    by_messages [] reading.waits e = absurd cc
    by_messages [] (refuses fault) e = inr (cc, cc)
    by_messages (f ∷ fs) end e = by_first (eqb f.code CSM) turn turns (map later_turn fs ++ end_turns end) e

served_by : (a b c : Bool) (f g : FrameValue) (bytes : List ℕ) → cond a (answers bytes) (cond b closes (cond c (serves f) passes)) ≡ serves g → f ≡ g
served_by true b c f g bytes e = absurd cc
served_by false true c f g bytes e = absurd cc
served_by false false true f g bytes e = cc
served_by false false false f g bytes e = absurd cc

served_first : (b : Bool) (g : FrameValue) → cond b begins aborts ≡ serves g → ⊥
served_first true g e = cc
served_first false g e = cc

served_message : (begun : Bool) (f g : FrameValue) → message_turn begun f ≡ serves g → f ≡ g
served_message true f g e = served_by _ _ _ f g _ e
served_message false f g e = absurd (served_first _ g e)

-- what is served is a frame that is taken
pub served_frame : (begun : Bool) (bytes : List ℕ) (f : FrameValue) → IsBytes bytes → turn_at begun bytes ≡ serves f → IsFrame f
served_frame begun bytes f fits e =
    elim (which_cut (frame_at bytes)) [
      | inl w ↦ absurd (let bad : waits ≡ serves f = rw w at e in cc)
      | inr (inl p) ↦ absurd (let bad : aborts ≡ serves f = rw (p.1) at e in cc)
      | inr (inr p) ↦ subst IsFrame (served_message begun (p.0) f (rw (p.1) at e)) (frame_found bytes (p.0) fits (p.1)).1.is
    ]
