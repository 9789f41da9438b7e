-- An entry is added exactly where the rules accept.
use Rattle.std.proofs.Common.{◌≡◌, ◌⊎◌, inl, inr, ℕ, Bool, List, [], ◌∷◌, ◌++◌, Result, Ok, Err, refl, sym, ap, ◌∙◌, subst, append-nil}
use Rattle.std.proofs.lemmas.Option.{same_Some}
use Rattle.dots_host.specs.declared.event.Event.{Event}
use Rattle.dots_host.specs.declared.event.Event.TheVariants as event
use Rattle.dots_host.specs.declared.out.OwnedOut.{OwnedOut}
use Rattle.dots_host.specs.Acts.{Timed}
use Rattle.dots_host.specs.Runs.{resting, Turn, Chain, outs_of, Trace}
use Rattle.dots_host.proofs.RunLemmas.{outs_back}
use Rattle.dots_settings.specs.Settings.{SettingsValue}
use Rattle.dots_settings.specs.Lookups.{role_of}
use Rattle.dots_history.specs.declared.entry.Entry.{Entry}
use Rattle.stream_table.specs.Lines.{Line}
use Rattle.http_cut.specs.declared.fault.HttpFault.TheVariants.{BadHead}
use Rattle.http_cut.specs.Requests.{Request as HttpRequest, takes, IsCut}
use Rattle.data_channel.specs.declared.reject.RestReject.{RestReject}
use Rattle.data_channel.specs.declared.request.RestRequest.{RestRequest}
use Rattle.data_channel.specs.Rest.{Rest}
use Rattle.rest_answers.specs.declared.answer.RestAnswer.TheVariants as answer
use Rattle.rest_answers.specs.declared.caller.Caller.{Caller}
use Rattle.rest_answers.specs.declared.front.RestFront.TheVariants as fronts
use Rattle.rest_answers.specs.Answers.{answer_to, Answers as HttpAnswers}
use Rattle.rest_answers.specs.Replies.{unavailable}
use Rattle.rest_answers.specs.Turns.{RestFront, IsFront, sends_of, entries_of, LackMemory, IsEarly}
use Rattle.rest_answers.proofs.Turning.{one_front}
use Rattle.dots_machine.specs.Verdict.{Verdict}
use Rattle.dots_machine.specs.declared.verdict.Verdict.TheVariants as verdict
use Rattle.dots_machine.specs.Domains.{is_gateway}
use Rattle.dots_machine.specs.Machine.{State, later, LacksMemory, Decides, by_silence, by_rules, for_want_of_memory, after, Answers, AnswersFront, receiving, Takes, Step}
use Rattle.dots_machine.specs.Answering.{AreBytes, SaysUnavailable}
use Rattle.dots_machine.specs.Handlings.{Handling, IsHandling, EachHandling, handlings_of}
use Rattle.dots_machine.specs.Adding.{AcceptsDatagram, AcceptsFront, SaysFailed, FrontAdds, PieceAdds, DatagramAdds, Adds, AddsExactly}
use Rattle.dots_machine.proofs.OneAnswer.{one_verdict, says}
use Rattle.dots_machine.proofs.Hearing.{answer_history, tick_history}
use Rattle.dots_machine.proofs.Connections.{opens_history}
use Rattle.dots_machine.proofs.Observing.{notified_history}
use Rattle.dots_machine.proofs.Fronts.{outs_in, front_history, takes_outs}
use Rattle.dots_machine.proofs.Handlings.{by_handlings, each_weaker}

module _ (settings : SettingsValue) (old : State) (peer : ℕ) (datagram : List ℕ) where
  abbrev AddsFor : State → Type 0
  AddsFor new = (new.history ≡ old.history) ⊎ ((entry : Entry) × (new.history ≡ old.history ++ entry ∷ []) × AcceptsDatagram settings old peer datagram entry)

  accepts_it : (reply : List ℕ) (entry : Entry) → Decides settings old peer datagram (verdict.Accept reply entry) → AcceptsDatagram settings old peer datagram entry
  accepts_it reply entry (by_silence n is) = absurd (cc is)
  accepts_it reply entry (for_want_of_memory n lacks) = absurd (cc lacks.answer)
  accepts_it reply entry (by_rules n got received rules) = record { known = n; got = got; received = received; reply = reply; accepted = rules }

  adds_so : (v : Verdict) → Decides settings old peer datagram v → AddsFor (after v old)
  adds_so verdict.Silent decides = inl refl
  adds_so (verdict.Reply reply) decides = inl refl
  adds_so (verdict.LongReply reply) decides = inl refl
  adds_so (verdict.Retrieves y body) decides = inl refl
  adds_so (verdict.Accept reply entry) decides = inr (entry, refl, accepts_it reply entry decides)

module _ (settings : SettingsValue) (old : State) (peer : ℕ) (datagram : List ℕ) where
  module _ (are : AreBytes datagram) (sends : List OwnedOut) (new : State) where
    accepted_so : (entry : Entry) (a : Answers settings old peer datagram sends new) → AcceptsDatagram settings a.met peer datagram entry
        → (new.history ≡ a.met.history ++ entry ∷ []) ⊎ SaysUnavailable peer datagram sends
    accepted_so entry a accepts =
        by_verdicts (one_verdict settings a.met peer datagram are a.decided (verdict.Accept accepts.reply entry) a.decides (by_rules accepts.known accepts.got accepts.received accepts.accepted))
      where
        by_verdicts : (a.decided ≡ verdict.Accept accepts.reply entry)
            ⊎ (LacksMemory datagram (is_gateway (role_of settings peer)) a.decided ⊎ LacksMemory datagram (is_gateway (role_of settings peer)) (verdict.Accept accepts.reply entry))
            → (new.history ≡ a.met.history ++ entry ∷ []) ⊎ SaysUnavailable peer datagram sends
        by_verdicts (inl same) = inl (answer_history settings old peer datagram sends new a ∙ ap (λ v. (after v a.met).history) same)
        by_verdicts (inr (inl lacks)) = inr (says settings old peer datagram are sends new a lacks)
        by_verdicts (inr (inr lacks)) = absurd (cc lacks.answer)

-- ---- of a connection

module _ (settings : SettingsValue) (conn : ℕ) where
  module _ (state : State) (sends : List OwnedOut) (new : State) (x : AnswersFront settings conn state sends new) where
    abbrev AddsAt : List Entry → Type 0
    AddsAt entries = (new.history ≡ state.history ++ entries)
        → (new.history ≡ state.history) ⊎ ((entry : Entry) × (new.history ≡ state.history ++ entry ∷ []) × AcceptsFront settings conn state entry)

    -- what is accepted is what the rules accept
    accepts_so : (message : HttpRequest) (reply : List ℕ) (entry : Entry) → IsCut x.2.line.buffered (takes message) → (read : Result RestRequest RestReject) → Rest message read
        → answer.Accept reply entry ≡ answer_to settings state.time state.history x.2.caller message.close read → AcceptsFront settings conn state entry
    accepts_so message reply entry cut (Ok asked) means is = record {
      caller = x.2.caller;
      asks = x.2.asks;
      line = x.2.line;
      there = x.2.there;
      message = message;
      cut = cut;
      asked = asked;
      means = means;
      reply = reply;
      accepted = sym is;
    }
    accepts_so message reply entry cut (Err rejected) means is = absurd (cc is)

    adds_by : (at : RestFront) → IsFront settings state.time state.history x.2.caller x.2.line.buffered at → AddsAt (entries_of at)
    adds_by fronts.Waits stands is = inl (is ∙ append-nil state.history)
    adds_by (fronts.Refused fault) stands is = inl (is ∙ append-nil state.history)
    adds_by (fronts.Answered size close (answer.Reply reply)) stands is = inl (is ∙ append-nil state.history)
    adds_by (fronts.Answered size close (answer.LongReply reply)) stands is = inl (is ∙ append-nil state.history)
    adds_by (fronts.Answered size close (answer.Accept reply entry)) stands is = inr (entry, is, by_answers stands.4)
      where
        by_answers : HttpAnswers settings state.time state.history x.2.caller stands.0 (answer.Accept reply entry) → AcceptsFront settings conn state entry
        by_answers (inl given) = accepts_so stands.0 reply entry stands.1 given.0 given.1 given.2
        by_answers (inr lacks) = absurd (cc lacks)

    module _ (entry : Entry) (accepts : AcceptsFront settings conn state entry) where
      -- another front than this one stands there for want of memory alone
      abbrev accepted_front : RestFront
      accepted_front = fronts.Answered accepts.message.size accepts.message.close (answer.Accept accepts.reply entry)

      abbrev StandsHere : RestFront → Type 0
      StandsHere at = IsFront settings state.time state.history x.2.caller x.2.line.buffered at

      stands_there : StandsHere accepted_front
      stands_there =
          subst (λ (c : Caller). IsFront settings state.time state.history c x.2.line.buffered accepted_front) (same_Some accepts.caller x.2.caller (sym accepts.asks ∙ x.2.asks))
          (subst (λ (l : Line). IsFront settings state.time state.history accepts.caller l.buffered accepted_front) (same_Some accepts.line x.2.line (sym accepts.there ∙ x.2.there))
          (accepts.message, accepts.cut, refl, refl, inl (Ok accepts.asked, accepts.means, sym accepts.accepted)))

      says_failed : (close : Bool) (size : ℕ) → x.2.front ≡ fronts.Answered size close (answer.Reply (unavailable close)) → SaysFailed conn sends
      says_failed close size is = (close, x.2.sends_are ∙ ap (sends_of conn) is)

      by_lack : LackMemory x.2.front accepted_front → (new.history ≡ state.history ++ entry ∷ []) ⊎ SaysFailed conn sends
      by_lack lack = by_which lack.lacks
        where
          by_which : (lack.first ≡ answer.Reply (unavailable lack.close)) ⊎ (lack.second ≡ answer.Reply (unavailable lack.close))
              → (new.history ≡ state.history ++ entry ∷ []) ⊎ SaysFailed conn sends
          by_which (inl is) = inr (says_failed lack.close lack.size (lack.one_is ∙ ap (fronts.Answered lack.size lack.close) is))
          by_which (inr is) =
              let same : fronts.Answered accepts.message.size accepts.message.close (answer.Accept accepts.reply entry) ≡ fronts.Answered lack.size lack.close (answer.Reply (unavailable lack.close)) =
              lack.other_is ∙ ap (fronts.Answered lack.size lack.close) is in
              absurd (cc same)

      by_early : IsEarly x.2.line.buffered x.2.front accepted_front → (new.history ≡ state.history ++ entry ∷ []) ⊎ SaysFailed conn sends
      by_early early = by_which early.which
        where
          by_which : ((x.2.front ≡ fronts.Waits) × (accepted_front ≡ fronts.Refused BadHead)) ⊎ ((x.2.front ≡ fronts.Refused BadHead) × (accepted_front ≡ fronts.Waits))
              → (new.history ≡ state.history ++ entry ∷ []) ⊎ SaysFailed conn sends
          by_which (inl is) = let never : fronts.Answered accepts.message.size accepts.message.close (answer.Accept accepts.reply entry) ≡ fronts.Refused BadHead = is.1 in absurd (cc never)
          by_which (inr is) = let never : fronts.Answered accepts.message.size accepts.message.close (answer.Accept accepts.reply entry) ≡ fronts.Waits = is.1 in absurd (cc never)

      accepted_so_far : (x.2.front ≡ accepted_front) ⊎ (LackMemory x.2.front accepted_front ⊎ IsEarly x.2.line.buffered x.2.front accepted_front)
          → (new.history ≡ state.history ++ entry ∷ []) ⊎ SaysFailed conn sends
      accepted_so_far (inl same) = inl (front_history settings conn state sends new x ∙ ap (λ f. state.history ++ entries_of f) same)
      accepted_so_far (inr (inl lack)) = by_lack lack
      accepted_so_far (inr (inr early)) = by_early early

      accepted_there : (new.history ≡ state.history ++ entry ∷ []) ⊎ SaysFailed conn sends
      accepted_there = accepted_so_far (one_front settings state.time state.history x.2.caller x.2.line.buffered x.2.front accepted_front x.2.stands stands_there)

    front_adds : FrontAdds settings conn state sends new
    front_adds = record {
      answers = x;
      added = adds_by x.2.front x.2.stands (front_history settings conn state sends new x);
      accepted = accepted_there;
    }

  fronts_add : (state : State) (turns : List (Turn State)) (new : State) → Chain (AnswersFront settings conn) state turns new → Chain (FrontAdds settings conn) state turns new
  fronts_add state [] new x = x
  fronts_add state (turn ∷ turns) new x = (front_adds state turn.sends turn.left x.0, fronts_add turn.left turns new x.1)

  piece_adds : (state : State) (turns : List (Turn State)) (new : State) → Takes settings conn state turns new → PieceAdds settings conn state (outs_in turns) new
  piece_adds state turns new x = record {
    turns = x.answered;
    rested = x.rested;
    fronts = fronts_add state x.answered x.rested x.fronts;
    notices = x.notices;
    sends_are = takes_outs settings conn state turns new x;
    history_is = notified_history settings x.rested new x.notices x.notified;
  }

-- ---- of a handling

module _ (settings : SettingsValue) (old : State) (at : ℕ) (new : State) where
  datagram_adds : (peer : ℕ) (datagram : List ℕ) (owed : List (State × OwnedOut)) → Step settings old (event.Datagram peer datagram) at owed new
      → DatagramAdds settings (later old at) peer datagram owed new
  datagram_adds peer datagram owed step = record {
    met = a.met;
    hears = a.hears;
    added = by_history (sym (answer_history settings now peer datagram step.0 new a)) (adds_so settings a.met peer datagram a.decided a.decides);
    accepted = λ are entry accepts. joined entry (accepted_so settings now peer datagram are step.0 new entry a accepts);
  }
    where
      now : State
      now = later old at

      a : Answers settings now peer datagram step.0 new
      a = step.2

      by_history : {before : List Entry} → before ≡ new.history → (before ≡ a.met.history) ⊎ ((entry : Entry) × (before ≡ a.met.history ++ entry ∷ []) × AcceptsDatagram settings a.met peer datagram entry)
          → (new.history ≡ a.met.history) ⊎ ((entry : Entry) × (new.history ≡ a.met.history ++ entry ∷ []) × AcceptsDatagram settings a.met peer datagram entry)
      by_history same (inl is) = inl (sym same ∙ is)
      by_history same (inr (entry, is, accepts)) = inr (entry, sym same ∙ is, accepts)

      joined : (entry : Entry) → (new.history ≡ a.met.history ++ entry ∷ []) ⊎ SaysUnavailable peer datagram step.0
          → (new.history ≡ a.met.history ++ entry ∷ []) ⊎ SaysUnavailable peer datagram (outs_of owed)
      joined entry (inl is) = inl is
      joined entry (inr said) = inr (subst (SaysUnavailable peer datagram) (sym (ap outs_of step.1 ∙ outs_back new step.0)) said)

  adds_as : (what : Event) (owed : List (State × OwnedOut)) → Step settings old what at owed new → Adds settings (later old at) what owed new
  adds_as (event.Datagram peer datagram) owed step = datagram_adds peer datagram owed step
  adds_as event.End owed step = ap (λ state. state.history) step.1
  adds_as event.Failed owed step = ap (λ state. state.history) step.1
  adds_as (event.Opened c p) owed step = opens_history (later old at) p c step.0 new step.2
  adds_as (event.Piece c p) owed step =
      subst (λ outs. PieceAdds settings c (receiving c p (later old at)) outs new) (sym (ap outs_of step.1)) (piece_adds settings c (receiving c p (later old at)) step.0 new step.2)
  adds_as (event.Closed c) owed step = ap (λ state. state.history) step.1
  adds_as event.Tick owed step = tick_history settings (later old at) step.0 new step.2
  adds_as event.Restart owed step = ap (λ state. state.history) step.1

pub handling_adds : (settings : SettingsValue) (old : State) (handling : Handling) (new : State) → IsHandling settings old handling new → AddsExactly settings old handling new
handling_adds settings old handling new is = record { handled = is; adds = adds_as settings old handling.at new handling.what is.owed is.step }

pub run_adds : (settings : SettingsValue) (from : State) (acts : List Timed) (trace : List State) (new : State) → Trace (Step settings) (resting from) acts trace (resting new)
    → EachHandling (AddsExactly settings) from (handlings_of acts) new
run_adds settings from acts trace new run =
    each_weaker (IsHandling settings) (AddsExactly settings) (handling_adds settings) from (handlings_of acts) new (by_handlings settings (resting from) acts trace new run)
