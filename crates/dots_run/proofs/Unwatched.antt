-- Runs in which nobody asks to observe: their steps are decided by the events, but for want of memory.
use Rattle.std.proofs.Common.{◌≡◌, ℕ, zero, suc, ◌≤◌, ◌+◌, ◌%◌, ◌^◌, ◌<◌, ◌==◌, Bool, true, false, cond, List, [], ◌∷◌, ◌++◌, map, None, refl, sym, ap, ◌∙◌, subst, arith}
use Rattle.std.specs.Prelude.{count_by, nat_lt}
use Rattle.std.specs.List.{range_with_len}
use Rattle.std.proofs.Math.Nat.{mod-lt}
use Rattle.dots_host.specs.declared.event.Event.{Event}
use Rattle.dots_host.specs.declared.event.Event.TheVariants as event
use Rattle.dots_host.specs.declared.out.OwnedOut.{OwnedOut}
use Rattle.dots_host.specs.Acts.{WireAct, took, gave, Timed}
use Rattle.dots_host.specs.Memory.{Coming}
use Rattle.dots_host.specs.Runs.{Owing, ToldStep, Trace}
use Rattle.coap_message.specs.Message.{CoapMessage, CoapOption, IsMessage, spelling}
use Rattle.dots_keys.specs.Options.{value_of}
use Rattle.dots_keys.specs.declared.exchange.Exchange.{Exchange}
use Rattle.dots_settings.specs.Settings.{SettingsValue}
use Rattle.dots_machine.specs.Machine.{State, later, restarted, disconnected, Step}
use Rattle.dots_machine.proofs.Connections.{opens_observers, opens_once}
use Rattle.dots_machine.proofs.Unobserved.{RegistersNobody, without_observe, IsUnavailable, answered_none, answered_one, ticked_none, outs_are, turn_one, rests}
use Rattle.dots_load.specs.Datagrams.{EachComing, AreBytes}
use Rattle.dots_load.specs.Deciding.{IsDecided}
use Rattle.dots_load.specs.Events.{sends, event_by, load_event, events_to, load_events}
use Rattle.dots_load.specs.Report.{coming_by, coming_in, unavailable}
use Rattle.dots_load.proofs.Options.{get_short, delete_short, put_short}
use Rattle.dots_load.specs.Requests.{AreShort, request, all_path, mid_path, dots_format, prefix_text, scope_body}

-- the datagram is a message without Observe, and no piece of a connection comes
abbrev pub Unwatching : Event → Type 0
Unwatching (event.Datagram peer bytes) = (message : CoapMessage) × IsMessage message × (bytes ≡ spelling message) × (value_of 6 message.options ≡ None)
Unwatching (event.Piece conn piece) = ⊥
Unwatching _ = Unit {0}

registers_nobody : (settings : SettingsValue) (peer : ℕ) (bytes : List ℕ) → Unwatching (event.Datagram peer bytes) → RegistersNobody settings peer bytes
registers_nobody settings peer bytes (message, is, spelled, none) = subst (RegistersNobody settings peer) (sym spelled) (without_observe settings peer message is none)

-- the code of a 5.00
says_so : IsUnavailable unavailable
says_so peer x = refl

-- ---- a step from a state in which nobody observes, on an event that asks nothing of it
abbrev pub UnwatchedStep : SettingsValue → State → Event → ℕ → List (State × OwnedOut) → State → Type 0
UnwatchedStep settings old event at owed new = (old.observers ≡ []) × Unwatching event × Step settings old event at owed new

step_none : (settings : SettingsValue) (old : State) (event : Event) (at : ℕ) (owed : List (State × OwnedOut)) (new : State) → AreBytes event → old.observers ≡ [] → Unwatching event
    → Step settings old event at owed new → new.observers ≡ []
step_none settings old (event.Datagram peer bytes) at owed new are none unwatching step = (answered_none settings (later old at) peer bytes are (registers_nobody settings peer bytes unwatching) none step.0 new step.2).2
step_none settings old event.End at owed new are none unwatching step = ap (λ (s : State). s.observers) step.1 ∙ none
step_none settings old event.Failed at owed new are none unwatching step = ap (λ (s : State). s.observers) step.1 ∙ none
step_none settings old (event.Opened c p) at owed new are none unwatching step = opens_observers (later old at) p c step.0 new step.2 ∙ none
step_none settings old (event.Piece c p) at owed new are none unwatching step = absurd unwatching
step_none settings old (event.Closed c) at owed new are none unwatching step = ap (λ (s : State). s.observers) step.1 ∙ none
step_none settings old event.Tick at owed new are none unwatching step = (ticked_none settings (later old at) new step.0 none step.2).2
step_none settings old event.Restart at owed new are none unwatching step = ap (λ (s : State). s.observers) step.1

-- the events decide its steps, but for want of memory
pub decided : (settings : SettingsValue) → IsDecided (UnwatchedStep settings)
decided settings old (event.Datagram peer bytes) at owed others new last are (none, unwatching, a) (too, also, b) nought nil =
    turn_one owed others new last a.0 b.0 a.1 b.1
    (answered_one settings (later old at) peer bytes are (registers_nobody settings peer bytes unwatching) none unavailable says_so a.0 b.0 new last a.2 b.2
    (subst (λ sends. count_by unavailable sends ≡ 0) (outs_are owed new a.0 a.1) nought) (subst (λ sends. count_by unavailable sends ≡ 0) (outs_are others last b.0 b.1) nil))
decided settings old event.End at owed others new last are (none, unwatching, a) (too, also, b) nought nil = rests owed others new last old a b
decided settings old event.Failed at owed others new last are (none, unwatching, a) (too, also, b) nought nil = rests owed others new last old a b
decided settings old (event.Opened c p) at owed others new last are (none, unwatching, a) (too, also, b) nought nil =
    turn_one owed others new last a.0 b.0 a.1 b.1 (opens_once (later old at) p c a.0 new a.2 b.0 last b.2)
decided settings old (event.Piece c p) at owed others new last are (none, unwatching, a) (too, also, b) nought nil = absurd unwatching
decided settings old (event.Closed c) at owed others new last are (none, unwatching, a) (too, also, b) nought nil = rests owed others new last (disconnected c (later old at)) a b
decided settings old event.Tick at owed others new last are (none, unwatching, a) (too, also, b) nought nil =
    let one = ticked_none settings (later old at) new a.0 none a.2 in
    let another = ticked_none settings (later old at) last b.0 none b.2 in
    turn_one owed others new last a.0 b.0 a.1 b.1 (one.0 ∙ sym another.0, one.1 ∙ sym another.1)
decided settings old event.Restart at owed others new last are (none, unwatching, a) (too, also, b) nought nil = rests owed others new last (restarted settings old at) a b

-- ---- and so it is over a run
sent_unwatched : (settings : SettingsValue) (old between : Owing State) (act : WireAct) (told : State) (later : List Coming) → EachComing AreBytes (coming_by act ++ later) → EachComing Unwatching (coming_by act ++ later)
    → old.last.observers ≡ [] → ToldStep (Step settings) old act told between
    → ToldStep (UnwatchedStep settings) old act told between × (between.last.observers ≡ []) × EachComing AreBytes later × EachComing Unwatching later
sent_unwatched settings old between (took event at) told later are each none s =
    ((s.0, (none, each.0, s.1)), step_none settings old.last event at between.owed between.last are.0 none each.0 s.1, are.1, each.1)
sent_unwatched settings old between (gave out done) told later are each none s = (s, ap (λ (s : State). s.observers) s.1 ∙ none, are, each)

pub unwatched_trace : (settings : SettingsValue) (old : Owing State) (acts : List Timed) (trace : List State) (new : Owing State) → EachComing AreBytes (coming_in acts) → EachComing Unwatching (coming_in acts)
    → old.last.observers ≡ [] → Trace (Step settings) old acts trace new → Trace (UnwatchedStep settings) old acts trace new
unwatched_trace settings old [] [] new are each none t = t
unwatched_trace settings old [] (told ∷ trace) new are each none t = absurd t
unwatched_trace settings old (timed ∷ acts) [] new are each none t = absurd t
unwatched_trace settings old (timed ∷ acts) (told ∷ trace) new are each none t =
    let one = sent_unwatched settings old t.0 timed.act told (coming_in acts) are each none t.1 in
    (t.0, one.0, unwatched_trace settings t.0 acts trace new one.2 one.3 one.1 t.2)

-- ---- the events of a generated run

is_message : (code k : ℕ) (os : List CoapOption) (payload : List ℕ) → code < 256 → 0 < code → k < 2 ^ 16 → AreShort os → IsMessage (request code k os payload)
is_message code k os payload low some early short = record {
  code = low;
  identifier = early;
  token = omega arith;
  options = short.are;
  empty = λ none. absurd (omega (arith, none, some));
}

unwatching_by : (peer code k : ℕ) (os : List CoapOption) (payload : List ℕ) → code < 256 → 0 < code → k < 2 ^ 16 → AreShort os → value_of 6 os ≡ None → Unwatching (sends peer (request code k os payload))
unwatching_by peer code k os payload low some early short none = (request code k os payload, is_message code k os payload low some early short, refl, none)

chosen : (p q r : Bool) (x y z : Event) → Unwatching x → Unwatching y → Unwatching z → Unwatching (cond p x (cond q y (cond r z event.Tick)))
chosen true q r x y z one two three = one
chosen false true r x y z one two three = two
chosen false false true x y z one two three = three
chosen false false false x y z one two three = tt

event_unwatching : (k a b c d : ℕ) → k < 2 ^ 16 → Unwatching (event_by k a b c d)
unfolding event_by
event_unwatching k a b c d early =
    let peer : a % 8 < 2 ^ 32 = omega arith in
    let mid : k + 1 < 2 ^ 32 = omega arith in
    let asked : 1 + c % (k + 1) < 2 ^ 32 = let h = mod-lt c {m = k + 1} (omega arith) in omega (arith, h) in
    chosen (nat_lt (b % 8) 5) (b % 8 == 5) (b % 8 == 6) _ _ _
    (unwatching_by (a % 8) 3 k (mid_path (a % 8) (k + 1) ++ dots_format ∷ []) (scope_body (prefix_text (a % 8 % 4) (c % 256)) (60 + d % 600)) (omega arith) (omega arith) early
    (put_short (a % 8) (k + 1) peer mid) refl)
    (unwatching_by (a % 8) 4 k (mid_path (a % 8) (1 + c % (k + 1))) [] (omega arith) (omega arith) early (delete_short (a % 8) (1 + c % (k + 1)) peer asked) refl)
    (unwatching_by (a % 8) 1 k (all_path (a % 8)) [] (omega arith) (omega arith) early (get_short (a % 8) peer) refl)

load_unwatching : (seed k : ℕ) → k < 2 ^ 16 → Unwatching (load_event seed k).event
unfolding load_event
load_unwatching seed k early = event_unwatching k _ _ _ _ early

unwatching_from : (seed from count : ℕ) → from + count ≤ 2 ^ 16 → EachComing Unwatching (map (load_event seed) (range_with_len from count))
unwatching_from seed from zero few = tt
unwatching_from seed from (suc count) few = (load_unwatching seed from (omega (arith, few)), unwatching_from seed (from + 1) count (omega (arith, few)))

each_unwatching : (seed count : ℕ) → count ≤ 2 ^ 16 → EachComing Unwatching (events_to seed count)
unfolding events_to
each_unwatching seed count few = unwatching_from seed 0 count (omega (arith, few))

and_end : (came : List Coming) (at : ℕ) → EachComing Unwatching came → EachComing Unwatching (came ++ (record { event = event.End; at = at }) ∷ [])
and_end [] at each = (tt, tt)
and_end (coming ∷ came) at each = (each.0, and_end came at each.1)

pub all_unwatching : (seed : ℕ) → EachComing Unwatching (load_events seed ++ (record { event = event.End; at = 0 }) ∷ [])
all_unwatching seed = and_end (load_events seed) 0 (each_unwatching seed 20000 (omega arith))
