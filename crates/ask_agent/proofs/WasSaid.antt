-- What a client keeps of answers the server said.
use Rattle.std.proofs.Common.{◌≡◌, ℕ, zero, suc, eqb, Bool, true, false, List, [], ◌∷◌, ◌++◌, Option, Some, None, inl, inr, refl, sym, ap, ◌∙◌, subst, append_assoc}
use Rattle.std.specs.Prelude.{◌==◌, not, nat_lt, if◌then◌else◌}
use Rattle.std.specs.Bool.{MatchBool}
use Rattle.std.proofs.lemmas.Bool.{false≢true}
use Rattle.std.proofs.lemmas.Bool.Decides.{eqb_tells}
use Rattle.coap_message.specs.Message.{CoapMessage, IsMessage, spelling}
use Rattle.dots_host.specs.declared.event.Event.{Event}
use Rattle.dots_host.specs.declared.event.Event.TheVariants as event
use Rattle.dots_host.specs.declared.out.OwnedOut.{OwnedOut}
use Rattle.dots_host.specs.Acts.{WireAct, took, gave, Timed}
use Rattle.dots_host.specs.Runs.{Owing, resting, ToldStep, Trace}
use Rattle.dots_client.specs.declared.ask.Ask.{Ask}
use Rattle.dots_client.specs.declared.granted.Granted.{Granted}
use Rattle.dots_client.specs.declared.heard.Heard.{Heard}
use Rattle.dots_client.specs.declared.heard.Heard.TheVariants as heard
use Rattle.dots_client.specs.Answers.{GrantsMid}
use Rattle.dots_client.specs.Client.{ClientValue, has_mid, is_over, left_at, tick_after}
use Rattle.dots_client.specs.Receiving.{Receives}
use Rattle.dots_client.specs.Ledger.{with_row, without_row}
use Rattle.ask_agent.specs.declared.settings.AskSettings.{AskSettings}
use Rattle.ask_agent.specs.declared.firsts.Firsts.{Firsts}
use Rattle.ask_agent.specs.declared.refusal.Refusal.{Refusal}
use Rattle.ask_agent.specs.declared.unsent.Why.{Why}
use Rattle.ask_agent.specs.declared.unsent.Why.TheVariants as why
use Rattle.ask_agent.specs.Asking.{AskState, Makes, AsksEach, Drains, ReceivesDatagram, ReceivesNothing, ReceivesEvent, Takes, Turns, at_time, refused_after, step, start_of}
use Rattle.ask_agent.specs.Said.{IsSaid, Said, AreGranted, IsRefusedBy, WasSaid}

-- ---- what was said stays said

pub said_more : (server : ℕ) (says : CoapMessage → Type 0) (front back : List Timed) → Said server says front → Said server says (front ++ back)
said_more server says [] back said = absurd said
said_more server says (timed ∷ front) back (inl said) = inl said
said_more server says (timed ∷ front) back (inr said) = inr (said_more server says front back said)

pub said_last : (server : ℕ) (says : CoapMessage → Type 0) (front : List Timed) (timed : Timed) → IsSaid server says timed.act → Said server says (front ++ timed ∷ [])
said_last server says [] timed said = inl said
said_last server says (other ∷ front) timed said = inr (said_last server says front timed said)

granted_more : (server : ℕ) (front back : List Timed) (rows : List Granted) → AreGranted server front rows → AreGranted server (front ++ back) rows
granted_more server front back [] all = tt
granted_more server front back (row ∷ rows) (one, all) = (said_more server (λ m. GrantsMid row.mid m row.lifetime) front back one, granted_more server front back rows all)

refused_more : (server : ℕ) (front back : List Timed) (refused : Option Refusal) → IsRefusedBy server front refused → IsRefusedBy server (front ++ back) refused
refused_more server front back None is = tt
refused_more server front back (Some refusal) is = said_more server (λ m. m.code ≡ refusal.code) front back is

said_then : (server : ℕ) (front back : List Timed) (state : AskState) → WasSaid server front state → WasSaid server (front ++ back) state
said_then server front back state was = record {
  same = was.same;
  granted = granted_more server front back state.client.ledger was.granted;
  refused = refused_more server front back state.refused was.refused;
}

-- ---- the ledger

granted_with : (server : ℕ) (acts : List Timed) (row : Granted) (rows : List Granted) → Said server (λ m. GrantsMid row.mid m row.lifetime) acts → AreGranted server acts rows
    → AreGranted server acts (with_row row rows)
granted_with server acts row [] one all = (one, tt)
granted_with server acts row (r ∷ rs) one (first, all) = by (nat_lt r.mid row.mid) (r.mid == row.mid) (granted_with server acts row rs one all)
  where
    by : (b c : Bool) → AreGranted server acts (with_row row rs) → AreGranted server acts (if b then r ∷ with_row row rs else if c then row ∷ rs else row ∷ r ∷ rs)
    by true c later = (first, later)
    by false true later = (one, all)
    by false false later = (one, (first, all))

granted_without : (server : ℕ) (acts : List Timed) (mid : ℕ) (rows : List Granted) → AreGranted server acts rows → AreGranted server acts (without_row mid rows)
granted_without server acts mid [] all = tt
granted_without server acts mid (r ∷ rs) (first, all) = by (has_mid mid r) (granted_without server acts mid rs all)
  where
    by : (b : Bool) → AreGranted server acts (without_row mid rs) → AreGranted server acts (if b then [] ++ rs else r ∷ without_row mid rs)
    by true later = all
    by false later = (first, later)

granted_left : (server : ℕ) (acts : List Timed) (now : ℕ) (rows : List Granted) → AreGranted server acts rows → AreGranted server acts (left_at now rows)
granted_left server acts now [] all = tt
granted_left server acts now (r ∷ rs) (first, all) = by (not (is_over now r)) (granted_left server acts now rs all)
  where
    by : (b : Bool) → AreGranted server acts (left_at now rs) → AreGranted server acts (if b then r ∷ left_at now rs else left_at now rs)
    by true later = (first, later)
    by false later = later

granted_drained : (server : ℕ) (acts : List Timed) (now : ℕ) (old new : ClientValue) (messages : List (List ℕ)) → Drains now old messages new → AreGranted server acts old.ledger
    → AreGranted server acts new.ledger
granted_drained server acts now old new [] (none, after) all =
    subst (λ (client : ClientValue). AreGranted server acts client.ledger) (sym after) (granted_left server acts now old.ledger all)
granted_drained server acts now old new (message ∷ messages) (some, rest) all =
    granted_drained server acts now (tick_after now old) new messages rest (granted_left server acts now old.ledger all)

-- ---- the asks

made_ledger : (old new : ClientValue) (asked : Ask) (now : ℕ) (cause : Option Why) → Makes old asked now cause new → new.ledger ≡ old.ledger
made_ledger old new asked now None (known, free, is) = ap (λ (client : ClientValue). client.ledger) is
made_ledger old new asked now (Some (why.Unknown mid)) (unknown, is) = ap (λ (client : ClientValue). client.ledger) is
made_ledger old new asked now (Some (why.Refused fault)) (known, faults, is) = ap (λ (client : ClientValue). client.ledger) is

-- a state with other asks, another time and the like
alike : (server : ℕ) (acts : List Timed) (old new : AskState) → new.server ≡ old.server → new.client.ledger ≡ old.client.ledger → new.refused ≡ old.refused → WasSaid server acts old
    → WasSaid server acts new
alike server acts old new servers ledgers refusals was = record {
  same = servers ∙ was.same;
  granted = subst (AreGranted server acts) (sym ledgers) was.granted;
  refused = subst (IsRefusedBy server acts) (sym refusals) was.refused;
}

said_asked : (server : ℕ) (acts : List Timed) (count : ℕ) (old new : AskState) → AsksEach count old new → WasSaid server acts old → WasSaid server acts new
said_asked server acts zero old new (none, is) was = subst (WasSaid server acts) (sym is) was
said_asked server acts (suc count) old new (between, next, rest) was =
    said_asked server acts count between new rest
    (alike server acts old between
    (ap (λ (s : AskState). s.server) next.leaves)
    (ap (λ (s : AskState). s.client.ledger) next.leaves ∙ made_ledger old.client next.client next.planned.ask old.time next.cause next.makes)
    (ap (λ (s : AskState). s.refused) next.leaves)
    was)

-- ---- what is heard

-- whatever a message says that the datagram spells, was said
abbrev Speaks : ℕ → List Timed → List ℕ → Type 1
Speaks server acts bytes = (says : CoapMessage → Type 0) (m : CoapMessage) → IsMessage m → bytes ≡ spelling m → says m → Said server says acts

received_state : (server : ℕ) (acts : List Timed) (old : AskState) (bytes : List ℕ) (said : Heard) (client : ClientValue) → Speaks server acts bytes → Receives old.client bytes old.time said client
    → AreGranted server acts old.client.ledger → IsRefusedBy server acts old.refused → AreGranted server acts client.ledger × IsRefusedBy server acts (refused_after old.refused said)
received_state server acts old bytes (heard.Granted mid) client speaks (m, request, message, spelled, answers, tells) rows refused =
    let (same, asked, lifetime, scope, grants, leaves) = tells in (
      subst (λ (c : ClientValue). AreGranted server acts c.ledger) (sym leaves)
          (granted_with server acts (record { mid = mid; asked = asked; lifetime = lifetime; at = old.time }) old.client.ledger
          (speaks (λ n. GrantsMid mid n lifetime) m message spelled (subst (λ k. GrantsMid k m lifetime) (sym same) grants)) rows),
      refused,
    )
received_state server acts old bytes (heard.Withdrawn mid) client speaks (m, request, message, spelled, answers, tells) rows refused =
    let (same, scope, code, leaves) = tells in
    (subst (λ (c : ClientValue). AreGranted server acts c.ledger) (sym leaves) (granted_without server acts mid old.client.ledger rows), refused)
received_state server acts old bytes (heard.Refused mid code) client speaks (m, request, message, spelled, answers, tells) rows refused =
    let (same, code_is, none, nor, leaves) = tells in
    (subst (λ (c : ClientValue). AreGranted server acts c.ledger) (sym leaves) rows, speaks (λ n. n.code ≡ code) m message spelled (sym code_is))
received_state server acts old bytes (heard.Beat answer) client speaks (m, message, spelled, beat, answer_is, leaves) rows refused =
    (subst (λ (c : ClientValue). AreGranted server acts c.ledger) (sym leaves) rows, refused)
received_state server acts old bytes heard.Nothing client speaks (none, leaves) rows refused =
    (subst (λ (c : ClientValue). AreGranted server acts c.ledger) (sym leaves) rows, refused)
received_state server acts old bytes heard.NoMemory client speaks (m, request, message, spelled, answers, scope, leaves) rows refused =
    (subst (λ (c : ClientValue). AreGranted server acts c.ledger) (sym leaves) rows, refused)

equal_of : (a b : ℕ) → eqb a b ≡ true → a ≡ b
equal_of a b is = elim (eqb_tells a b) [ inl same ↦ same.1 | inr other ↦ absurd (false≢true (sym other.0 ∙ is)) ]

received_datagram : (server : ℕ) (front : List Timed) (timed : Timed) (from at : ℕ) (bytes : List ℕ) (old new : AskState) (answers : List (List ℕ)) (is : Bool) → eqb from old.server ≡ is
    → timed.act ≡ took (event.Datagram from bytes) at → MatchBool is (ReceivesDatagram old bytes answers new) (ReceivesNothing old answers new) → WasSaid server front old
    → WasSaid server (front ++ timed ∷ []) new
received_datagram server front timed from at bytes old new answers false test act (none, leaves) was =
    said_then server front (timed ∷ []) new (subst (WasSaid server front) (sym leaves) was)
received_datagram server front timed from at bytes old new answers true test act receives was =
    let before = said_then server front (timed ∷ []) old was in
    let speaks : Speaks server (front ++ timed ∷ []) bytes = λ says m message spelled told.
    said_last server says front timed (subst (IsSaid server says) (sym act) (equal_of from old.server test ∙ was.same, m, message, spelled, told)) in
    let (rows, refused) = received_state server (front ++ timed ∷ []) old bytes receives.said receives.client speaks receives.receives before.granted before.refused in
    subst (WasSaid server (front ++ timed ∷ [])) (sym receives.leaves) (record { same = was.same; granted = rows; refused = refused })

received_nothing : (server : ℕ) (front : List Timed) (timed : Timed) (old new : AskState) (answers : List (List ℕ)) → ReceivesNothing old answers new → WasSaid server front old
    → WasSaid server (front ++ timed ∷ []) new
received_nothing server front timed old new answers (none, leaves) was = said_then server front (timed ∷ []) new (subst (WasSaid server front) (sym leaves) was)

received_event : (server : ℕ) (front : List Timed) (timed : Timed) (came : Event) (at : ℕ) (old new : AskState) (answers : List (List ℕ)) → timed.act ≡ took came at
    → ReceivesEvent old came answers new → WasSaid server front old → WasSaid server (front ++ timed ∷ []) new
received_event server front timed (event.Datagram from bytes) at old new answers act receives was =
    received_datagram server front timed from at bytes old new answers (eqb from old.server) refl act receives was
received_event server front timed (event.Opened conn from) at old new answers act receives was = received_nothing server front timed old new answers receives was
received_event server front timed (event.Piece conn bytes) at old new answers act receives was = received_nothing server front timed old new answers receives was
received_event server front timed (event.Closed conn) at old new answers act receives was = received_nothing server front timed old new answers receives was
received_event server front timed event.Tick at old new answers act receives was = received_nothing server front timed old new answers receives was
received_event server front timed event.Restart at old new answers act receives was = received_nothing server front timed old new answers receives was
received_event server front timed event.End at old new answers act receives was = received_nothing server front timed old new answers receives was
received_event server front timed event.Failed at old new answers act receives was = received_nothing server front timed old new answers receives was

-- ---- an event

taken_said : (server : ℕ) (front : List Timed) (timed : Timed) (came : Event) (at : ℕ) (outs : List OwnedOut) (old new : AskState) → timed.act ≡ took came at → Takes old came at outs new
    → WasSaid server front old → WasSaid server (front ++ timed ∷ []) new
taken_said server front timed came at outs old new act takes was =
    let acts = front ++ timed ∷ [] in
    let received = received_event server front timed came at (at_time old at) takes.received takes.answers act takes.receives (record { same = was.same; granted = was.granted; refused = was.refused }) in
    let asked = said_asked server acts takes.asks.0 takes.received takes.asked takes.asks.1 received in
    let (client, drains, leaves) = takes.hands in
    subst (WasSaid server acts) (sym leaves)
    (record { same = asked.same; granted = granted_drained server acts takes.asked.time takes.asked.client client takes.messages drains asked.granted; refused = asked.refused })

turn_said : (server : ℕ) (front : List Timed) (timed : Timed) (came : Event) (at : ℕ) (outs : List OwnedOut) (old new : AskState) → timed.act ≡ took came at → Turns old came at outs new
    → WasSaid server front old → WasSaid server (front ++ timed ∷ []) new
turn_said server front timed event.End at outs old new act (none, leaves) was = said_then server front (timed ∷ []) new (subst (WasSaid server front) (sym leaves) was)
turn_said server front timed event.Failed at outs old new act (none, leaves) was = said_then server front (timed ∷ []) new (subst (WasSaid server front) (sym leaves) was)
turn_said server front timed (event.Datagram from bytes) at outs old new act takes was = taken_said server front timed (event.Datagram from bytes) at outs old new act takes was
turn_said server front timed (event.Opened conn from) at outs old new act takes was = taken_said server front timed (event.Opened conn from) at outs old new act takes was
turn_said server front timed (event.Piece conn bytes) at outs old new act takes was = taken_said server front timed (event.Piece conn bytes) at outs old new act takes was
turn_said server front timed (event.Closed conn) at outs old new act takes was = taken_said server front timed (event.Closed conn) at outs old new act takes was
turn_said server front timed event.Tick at outs old new act takes was = taken_said server front timed event.Tick at outs old new act takes was
turn_said server front timed event.Restart at outs old new act takes was = taken_said server front timed event.Restart at outs old new act takes was

-- ---- a run

act_said : (server : ℕ) (front : List Timed) (timed : Timed) (act : WireAct) (told : AskState) (old new : Owing AskState) → timed.act ≡ act → ToldStep step old act told new
    → WasSaid server front old.last → WasSaid server (front ++ timed ∷ []) new.last
act_said server front timed (took came at) told old new act (rests, made) was =
    let (outs, owed, turns) = made in turn_said server front timed came at outs old.last new.last act turns was
act_said server front timed (gave out done) told old new act (owed, same) was = said_then server front (timed ∷ []) new.last (subst (WasSaid server front) (sym same) was)

run_said : (server : ℕ) (front acts : List Timed) (trace : List AskState) (old new : Owing AskState) → Trace step old acts trace new → WasSaid server front old.last
    → WasSaid server (front ++ acts) new.last
run_said server front [] [] old new run was =
    subst (λ (o : Owing AskState). WasSaid server (front ++ []) o.last) (sym run) (said_then server front [] old.last was)
run_said server front [] (told ∷ trace) old new run was = absurd run
run_said server front (timed ∷ acts) [] old new run was = absurd run
run_said server front (timed ∷ acts) (told ∷ trace) old new (between, made, rest) was =
    subst (λ more. WasSaid server more new.last) (append_assoc front (timed ∷ []) acts)
    (run_said server (front ++ timed ∷ []) acts trace between new rest (act_said server front timed timed.act told old between refl made was))

pub all_said : (settings : AskSettings) (firsts : Firsts) (acts : List Timed) (trace : List AskState) (end : AskState) → Trace step (resting (start_of settings firsts)) acts trace (resting end)
    → WasSaid settings.server acts end
all_said settings firsts acts trace end run =
    run_said settings.server [] acts trace (resting (start_of settings firsts)) (resting end) run (record { same = refl; granted = tt; refused = tt })
