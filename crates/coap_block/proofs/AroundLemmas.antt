-- One more act inside, and the same act as seen above.
use Rattle.std.proofs.Common.{◌≡◌, ℕ, ◌≤◌, List, [], ◌∷◌, ◌++◌, length, take, drop, Option, Some, None, refl, sym, ap, subst, ◌∙◌, arith, append_assoc, append-nil}
use Rattle.std.specs.Prelude.{Bool, true, false, ◌+◌, nat_le}
use Rattle.std.proofs.lemmas.Bool.{false≢true, leb-true, le-leb}
use Rattle.std.proofs.lemmas.Bool.Decides.{nat_tests}
use Rattle.std.proofs.lemmas.List.{length-append, length-drop, take_all, drop_all, take-append-le, drop-append-le, append_cancel_left}
use Rattle.dots_host.specs.declared.act.Act.{Act}
use Rattle.dots_host.specs.declared.event.Event.TheVariants as event
use Rattle.dots_host.specs.Acts.{Timed, WireAct, Adds, took}
use Rattle.dots_host.specs.Runs.{Added}
use Rattle.coap_block.specs.Blocks.{Blocks}
use Rattle.coap_block.specs.Around.{wire_of, retimed, earlier, with_calls, if_told, seen_above, IsSeen, AreSeen, Start, SeenSince, AreSince, GoesOnSeen, from_acts, no_blocks, IsSeenFrom, IsRunAround}

-- as many acts are earlier
same_earlier : (acts : List Timed) (log : List Act) (timed : Timed) (call : Act) → earlier (acts ++ timed ∷ []) (log ++ call ∷ []) ≡ earlier acts log
same_earlier acts log timed call = omega (arith, length-append acts (timed ∷ []), length-append log (call ∷ []))

within_push : (acts : List Timed) (log : List Act) (timed : Timed) (call : Act)
    → nat_le (length (log ++ call ∷ [])) (length (acts ++ timed ∷ [])) ≡ nat_le (length log) (length acts)
within_push acts log timed call =
    let a = length-append acts (timed ∷ []) in
    let b = length-append log (call ∷ []) in
    grind (arith, nat_tests)

retimed_push : (acts : List Timed) (log : List Act) (timed : Timed) (call : Act) → length acts ≡ length log
    → retimed (acts ++ timed ∷ []) (log ++ call ∷ []) ≡ retimed acts log ++ (record { moment = timed.moment; act = wire_of call }) ∷ []
retimed_push [] [] timed call same = refl
retimed_push [] (b ∷ log) timed call same = absurd (cc same)
retimed_push (a ∷ acts) [] timed call same = absurd (cc same)
retimed_push (a ∷ acts) (b ∷ log) timed call same = ap (λ later. (record { moment = a.moment; act = wire_of b }) ∷ later) (retimed_push acts log timed call (omega (arith, same)))

calls_push : (acts : List Timed) (log : List Act) (timed : Timed) (call : Act) → nat_le (length log) (length acts) ≡ true
    → with_calls (acts ++ timed ∷ []) (log ++ call ∷ []) ≡ with_calls acts log ++ (record { moment = timed.moment; act = wire_of call }) ∷ []
calls_push acts log timed call told =
    let within : length log ≤ length acts = leb-true (length log) (length acts) told in
    let count = earlier acts log in
    let some : count ≤ length acts = omega arith in
    let as_many : length (drop count acts) ≡ length log = omega (arith, length-drop count acts, within) in
    ap (λ n. take n (acts ++ timed ∷ []) ++ retimed (drop n (acts ++ timed ∷ [])) (log ++ call ∷ [])) (same_earlier acts log timed call)
    ∙ ap (λ front. front ++ retimed (drop count (acts ++ timed ∷ [])) (log ++ call ∷ [])) (take-append-le count acts (timed ∷ []) some)
    ∙ ap (λ back. take count acts ++ retimed back (log ++ call ∷ [])) (drop-append-le count acts (timed ∷ []) some)
    ∙ ap (λ back. take count acts ++ back) (retimed_push (drop count acts) log timed call as_many)
    ∙ sym (append_assoc (take count acts) (retimed (drop count acts) log) ((record { moment = timed.moment; act = wire_of call }) ∷ []))

adds_told : (b c : Bool) (old new : List Timed) (before now : ℕ) (act : WireAct) → c ≡ b → (b ≡ true → new ≡ old ++ (record { moment = before; act = act }) ∷ []) → now ≡ before + 1
    → Adds (if_told b old) before (if_told c new) now act
adds_told true true old new before now act same more one = (more refl, one)
adds_told true false old new before now act same more one = tt
adds_told false true old new before now act same more one = absurd (false≢true (sym same))
adds_told false false old new before now act same more one = tt

pub seen_adds : (old new : Option (List Timed)) (before now : ℕ) (log : List Act) (inner : WireAct) (outer : Act) → Adds old before new now inner
    → Adds (seen_above old log) before (seen_above new (log ++ outer ∷ [])) now (wire_of outer)
seen_adds old None before now log inner outer adds = tt
seen_adds None (Some new) before now log inner outer adds = absurd adds
seen_adds (Some old) (Some new) before now log inner outer adds =
    let one : Timed = record { moment = before; act = inner } in
    subst (λ acts. Adds (seen_above (Some old) log) before (seen_above (Some acts) (log ++ outer ∷ [])) now (wire_of outer)) (sym adds.0)
    (adds_told (nat_le (length log) (length old)) (nat_le (length (log ++ outer ∷ [])) (length (old ++ one ∷ []))) (with_calls old log) (with_calls (old ++ one ∷ []) (log ++ outer ∷ [])) before now (wire_of outer)
    (within_push old log one outer) (calls_push old log one outer) adds.1)

-- ---- the relation

seen_push : (old : Blocks) (inners outers : List Timed) (mid new : Blocks) (inner outer : Timed) → AreSeen old inners outers mid → outer.moment ≡ inner.moment
    → IsSeen mid inner.act outer.act new → AreSeen old (inners ++ inner ∷ []) (outers ++ outer ∷ []) new
seen_push old [] [] mid new inner outer are moment seen = (new, moment, subst (λ from. IsSeen from inner.act outer.act new) are seen, refl)
seen_push old [] (o ∷ outers) mid new inner outer are moment seen = absurd are
seen_push old (i ∷ inners) [] mid new inner outer are moment seen = absurd are
seen_push old (i ∷ inners) (o ∷ outers) mid new inner outer are moment seen =
    (are.0, are.1, are.2, seen_push are.0 inners outers mid new inner outer are.3 moment seen)

since_push : (start : Start) (inners outers : List Timed) (old new : Blocks) (inner outer : Timed) → SeenSince start inners outers old → outer.moment ≡ inner.moment
    → IsSeen old inner.act outer.act new → SeenSince start (inners ++ inner ∷ []) (outers ++ outer ∷ []) new
since_push start inners outers old new inner outer since moment seen = record {
  inners = since.inners ++ inner ∷ [];
  outers = since.outers ++ outer ∷ [];
  inner_is = ap (λ acts. acts ++ inner ∷ []) since.inner_is ∙ append_assoc start.inner since.inners (inner ∷ []);
  outer_is = ap (λ acts. acts ++ outer ∷ []) since.outer_is ∙ append_assoc start.outer since.outers (outer ∷ []);
  are = seen_push start.blocks since.inners since.outers old new inner outer since.are moment seen;
}

since_told : (b c : Bool) (start : Start) (inners outers outers_now : List Timed) (old new : Blocks) (inner outer : Timed) → c ≡ b
    → (b ≡ true → outers_now ≡ outers ++ outer ∷ []) → outer.moment ≡ inner.moment → IsSeen old inner.act outer.act new
    → AreSince start (Some inners) (if_told b outers) old → AreSince start (Some (inners ++ inner ∷ [])) (if_told c outers_now) new
since_told true true start inners outers outers_now old new inner outer same more moment seen since =
    subst (λ acts. SeenSince start (inners ++ inner ∷ []) acts new) (sym (more refl)) (since_push start inners outers old new inner outer since moment seen)
since_told true false start inners outers outers_now old new inner outer same more moment seen since = absurd (false≢true same)
since_told false true start inners outers outers_now old new inner outer same more moment seen since = absurd (false≢true (sym same))
since_told false false start inners outers outers_now old new inner outer same more moment seen since = absurd since

pub seen_goes_on : (old new : Option (List Timed)) (before now : ℕ) (log : List Act) (inner : WireAct) (outer : Act) (blocks blocks_now : Blocks)
    → Adds old before new now inner → IsSeen blocks inner (wire_of outer) blocks_now → GoesOnSeen old log blocks new (log ++ outer ∷ []) blocks_now
seen_goes_on old None before now log inner outer blocks blocks_now adds seen = λ start since. tt
seen_goes_on None (Some new) before now log inner outer blocks blocks_now adds seen = absurd adds
seen_goes_on (Some old) (Some new) before now log inner outer blocks blocks_now adds seen =
    let one : Timed = record { moment = before; act = inner } in
    let same : Timed = record { moment = before; act = wire_of outer } in
    subst (λ acts. GoesOnSeen (Some old) log blocks (Some acts) (log ++ outer ∷ []) blocks_now) (sym adds.0)
    (λ start since.
    since_told (nat_le (length log) (length old)) (nat_le (length (log ++ outer ∷ [])) (length (old ++ one ∷ []))) start old (with_calls old log) (with_calls (old ++ one ∷ []) (log ++ outer ∷ [])) blocks blocks_now one same
    (within_push old log one outer) (calls_push old log one outer) refl seen since)

-- ---- before any call, and since

all_earlier : (acts : List Timed) → with_calls acts [] ≡ acts
all_earlier acts =
    let long : length acts ≤ earlier acts [] = omega arith in
    ap (λ back. take (earlier acts []) acts ++ retimed back []) (drop_all (earlier acts []) acts long) ∙ append-nil (take (earlier acts []) acts) ∙ take_all (earlier acts []) acts long

told_all : (b : Bool) (acts : List Timed) → b ≡ true → if_told b acts ≡ Some acts
told_all true acts is = refl
told_all false acts is = absurd (false≢true is)

pub seen_at_first : (old : Option (List Timed)) → seen_above old [] ≡ old
seen_at_first None = refl
seen_at_first (Some acts) =
    told_all (nat_le 0 (length acts)) (with_calls acts []) (le-leb 0 (length acts) (omega arith)) ∙ ap Some (all_earlier acts)

since_first : (acts : List Timed) → AreSince (from_acts acts) (Some acts) (Some acts) no_blocks
since_first acts = record { inners = []; outers = []; inner_is = sym (append-nil acts); outer_is = sym (append-nil acts); are = refl }

-- no acts are told that weren't told at first
never_told : (new : List Timed) (log : List Act) (blocks : Blocks) → GoesOnSeen None [] no_blocks (Some new) log blocks → ⊥
never_told new log blocks goes = by (nat_le (length log) (length new)) (goes start tt)
  where
    start : Start
    start = from_acts ((record { moment = 0; act = took event.Tick 0 }) ∷ new)

    by : (b : Bool) → AreSince start (Some new) (if_told b (with_calls new log)) blocks → ⊥
    by true since = absurd (omega (arith, ap length since.inner_is, length-append new since.inners))
    by false since = since

pub seen_from : (old new : Option (List Timed)) (log : List Act) (blocks : Blocks) → GoesOnSeen old [] no_blocks new log blocks → IsSeenFrom old new (seen_above new log)
seen_from old None log blocks goes = refl
seen_from None (Some new) log blocks goes = never_told new log blocks goes
seen_from (Some old) (Some new) log blocks goes =
    told (nat_le (length log) (length new)) (with_calls new log)
    (goes (from_acts old) (subst (λ seen. AreSince (from_acts old) (Some old) seen no_blocks) (sym (seen_at_first (Some old))) (since_first old)))
  where
    told : (b : Bool) (outer : List Timed) → AreSince (from_acts old) (Some new) (if_told b outer) blocks → IsSeenFrom (Some old) (Some new) (if_told b outer)
    told false outer since = absurd since
    told true outer since = record {
      inners = since.inners;
      outers = since.outers;
      blocks = blocks;
      inner_is = since.inner_is;
      seen_is = ap Some since.outer_is;
      are = since.are;
    }

-- a host around another that was never called
pub seen_unchanged : (acts : Option (List Timed)) → IsSeenFrom acts acts acts
seen_unchanged None = refl
seen_unchanged (Some acts) = record {
  inners = [];
  outers = [];
  blocks = no_blocks;
  inner_is = sym (append-nil acts);
  seen_is = ap Some (sym (append-nil acts));
  are = refl;
}

some_once : (xs ys : List Timed) → Some xs ≡ Some ys → xs ≡ ys
some_once xs ys is = cc is

pub run_inside : (P : List Timed → Type 0) (old new seen : Option (List Timed)) → IsSeenFrom old new seen → Added old seen P → Added old new (IsRunAround P)
run_inside P old None seen from added = tt
run_inside P None (Some new) seen from added = absurd from
run_inside P (Some old) (Some new) None from added = absurd (cc from.seen_is)
run_inside P (Some old) (Some new) (Some seen) from added =
    let same : from.outers ≡ added.0 = append_cancel_left old from.outers added.0 (sym (some_once seen (old ++ from.outers) from.seen_is) ∙ added.1) in (
      from.inners,
      from.inner_is,
      record { outers = from.outers; blocks = from.blocks; has = subst P (sym same) added.2; are = from.are },
    )
