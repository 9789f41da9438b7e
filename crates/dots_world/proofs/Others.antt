-- No event but a datagram makes the machine send a grant.
use Rattle.std.proofs.Common.{◌≡◌, ◌⊎◌, inl, inr, ℕ, ℤ, Bool, true, false, List, [], ◌∷◌, ◌++◌, map, Result, Ok, Err, Contains, refl, sym, ap, ◌∙◌, subst}
use Rattle.std.proofs.lemmas.List.Elements.{Contains-append_cases}
use Rattle.dots_host.specs.declared.event.Event.{Event}
use Rattle.dots_host.specs.declared.event.Event.TheVariants as event
use Rattle.dots_host.specs.declared.out.OwnedOut.{OwnedOut}
use Rattle.dots_host.specs.declared.out.OwnedOut.TheVariants as owned
use Rattle.dots_host.specs.Runs.{Turn, Chain, each_telling, outs_of}
use Rattle.dots_host.proofs.RunLemmas.{outs_back}
use Rattle.cbor_profile.specs.Canon.{canon}
use Rattle.coap_message.specs.declared.codes.TheConstants.{PUT}
use Rattle.coap_message.specs.declared.kind.Kind.TheVariants.{Non}
use Rattle.dots_keys.specs.Paths.{heartbeat, path_of}
use Rattle.reply_bodies.specs.Sessions.{beat_tree}
use Rattle.session_core.specs.declared.contact.Beat.{Beat}
use Rattle.dots_keys.specs.Replies.{dots_cbor}
use Rattle.session_core.specs.Beats.{uri_path, beat_sent, beat_bytes}
use Rattle.stream_table.specs.declared.refused.Refused.{Refused}
use Rattle.rest_answers.specs.declared.front.RestFront.TheVariants as fronts
use Rattle.rest_answers.specs.Turns.{RestFront, closing, reply_in, sends_of}
use Rattle.rest_answers.specs.Replies.{refusal}
use Rattle.dots_settings.specs.Settings.{SettingsValue}
use Rattle.dots_machine.specs.Observing.{bodies_at}
use Rattle.dots_machine.specs.Machine.{State, later, seen_in, Notified, Ticks, turned_away, AnswersFront, receiving, Takes, Step, lapsed}
use Rattle.dots_machine.proofs.Fronts.{outs_in, outs_first, takes_outs}
use Rattle.stream_table.specs.Lines.{opening}
use Rattle.dots_world.specs.Granting.{IsGrant, IsNoDatagram}
use Rattle.dots_world.proofs.Telling.{IsQuiet, quiet, grant_says}
use Rattle.dots_world.proofs.Granting.{in_none, in_one, one_sent, notices_quiet}

-- none of the messages tells a grant
abbrev GrantNone : List OwnedOut → Type 0
GrantNone sends = (to : ℕ) (bytes : List ℕ) → Contains sends (owned.To to bytes) → IsQuiet bytes

nothing_quiet : GrantNone []
nothing_quiet to bytes has = absurd (in_none (owned.To to bytes) has)

both_quiet : (sends more : List OwnedOut) → GrantNone sends → GrantNone more → GrantNone (sends ++ more)
both_quiet sends more first second to bytes has = by_place (Contains-append_cases sends more (owned.To to bytes) has)
  where
    by_place : Contains sends (owned.To to bytes) ⊎ Contains more (owned.To to bytes) → IsQuiet bytes
    by_place (inl is) = first to bytes is
    by_place (inr is) = second to bytes is

conn_quiet : (conn : ℕ) (reply : List ℕ) → GrantNone (owned.Conn conn reply ∷ [])
conn_quiet conn reply to bytes has = let same = in_one (owned.Conn conn reply) (owned.To to bytes) has in absurd (cc same)

close_quiet : (conn : ℕ) → GrantNone (owned.Close conn ∷ [])
close_quiet conn to bytes has = let same = in_one (owned.Close conn) (owned.To to bytes) has in absurd (cc same)

-- ---- notifications and heartbeats
notified_quiet : (settings : SettingsValue) (state new : State) (sends : List OwnedOut) → Notified settings state sends new → GrantNone sends
notified_quiet settings state new sends n = notices_quiet (seen_in settings state) (bodies_at settings state.time state.history) state.observers state.contacts sends n.0 n.1 n.2

beat_quiet : (id : ℕ) (heard : Bool) → IsQuiet (beat_bytes id heard)
beat_quiet id heard =
    quiet (record { kind = Non; code = PUT; identifier = id; token = []; options = map uri_path (path_of heartbeat) ++ dots_cbor ∷ []; payload = canon (beat_tree heard) }) refl

beats_quiet : (beats : List Beat) → GrantNone (map beat_sent beats)
beats_quiet [] = nothing_quiet
beats_quiet (beat ∷ beats) =
    both_quiet (beat_sent beat ∷ []) (map beat_sent beats)
    (λ to bytes has. subst IsQuiet (one_sent beat.peer to (beat_bytes beat.id beat.heard) bytes has).1 (beat_quiet beat.id beat.heard)) (beats_quiet beats)

tick_quiet : (settings : SettingsValue) (state : State) (sends : List OwnedOut) (new : State) → Ticks settings state sends new → GrantNone sends
tick_quiet settings state sends new t =
    subst GrantNone (sym t.sends_are)
    (both_quiet t.notices t.heartbeats (notified_quiet settings (lapsed settings state) t.between t.notices t.notified) (subst GrantNone (sym t.beaten.0) (beats_quiet _)))

-- ---- connections
closing_quiet : (conn : ℕ) (close : Bool) → GrantNone (closing conn close)
closing_quiet conn true = close_quiet conn
closing_quiet conn false = nothing_quiet

away_quiet : (conn : ℕ) (taken : Result Unit Refused) → GrantNone (turned_away conn taken)
away_quiet conn (Ok taken) = nothing_quiet
away_quiet conn (Err refused) = close_quiet conn

front_quiet : (conn : ℕ) (front : RestFront) → GrantNone (sends_of conn front)
front_quiet conn fronts.Waits = nothing_quiet
front_quiet conn (fronts.Refused fault) = both_quiet (owned.Conn conn (refusal fault) ∷ []) (closing conn true) (conn_quiet conn (refusal fault)) (closing_quiet conn true)
front_quiet conn (fronts.Answered size close answered) = both_quiet (owned.Conn conn (reply_in answered) ∷ []) (closing conn close) (conn_quiet conn (reply_in answered)) (closing_quiet conn close)

module _ (settings : SettingsValue) (conn : ℕ) where
  fronts_quiet : (state : State) (turns : List (Turn State)) (new : State) → Chain (AnswersFront settings conn) state turns new → GrantNone (outs_in turns)
  fronts_quiet state [] new is = nothing_quiet
  fronts_quiet state (turn ∷ turns) new x =
      let front : AnswersFront settings conn state turn.sends turn.left = x.0 in
      subst GrantNone (sym (outs_first turn turns))
      (both_quiet turn.sends (outs_in turns) (subst GrantNone (sym front.2.sends_are) (front_quiet conn front.2.front)) (fronts_quiet turn.left turns new x.1))

  takes_quiet : (state : State) (turns : List (Turn State)) (new : State) → Takes settings conn state turns new → GrantNone (outs_in turns)
  takes_quiet state turns new x =
      subst GrantNone (sym (takes_outs settings conn state turns new x))
      (both_quiet (outs_in x.answered) x.notices (fronts_quiet state x.answered x.rested x.fronts) (notified_quiet settings x.rested new x.notices x.notified))

-- ---- an event
module _ (settings : SettingsValue) (old : State) (at : ℕ) (owed : List (State × OwnedOut)) (new : State) where
  in_turn : (sends : List OwnedOut) → owed ≡ each_telling new sends → GrantNone sends → GrantNone (outs_of owed)
  in_turn sends is told = subst GrantNone (sym (ap outs_of is ∙ outs_back new sends)) told

  without_sends : owed ≡ [] → GrantNone (outs_of owed)
  without_sends is = subst GrantNone (sym (ap outs_of is)) nothing_quiet

  step_quiet : (what : Event) → IsNoDatagram what → Step settings old what at owed new → GrantNone (outs_of owed)
  step_quiet (event.Datagram peer datagram) other step = absurd other
  step_quiet event.End other step = without_sends step.0
  step_quiet event.Failed other step = without_sends step.0
  step_quiet event.Restart other step = without_sends step.0
  step_quiet (event.Closed conn) other step = without_sends step.0
  step_quiet (event.Opened conn peer) other step =
      in_turn step.0 step.1 (subst GrantNone (sym step.2.0) (away_quiet conn (opening peer conn (later old at).lines)))
  step_quiet event.Tick other step = in_turn step.0 step.1 (tick_quiet settings (later old at) step.0 new step.2)
  step_quiet (event.Piece conn piece) other step = subst GrantNone (sym (ap outs_of step.1)) (takes_quiet settings conn (receiving conn piece (later old at)) step.0 new step.2)

pub step_grants_none : (settings : SettingsValue) (old : State) (what : Event) (at : ℕ) (owed : List (State × OwnedOut)) (new : State) (to : ℕ) (bytes token : List ℕ) (mid : ℕ) (lifetime : ℤ)
    → IsNoDatagram what → Step settings old what at owed new → Contains (outs_of owed) (owned.To to bytes) → IsGrant bytes token mid lifetime → ⊥
step_grants_none settings old what at owed new to bytes token mid lifetime other step has grant = step_quiet settings old at owed new what other step to bytes has (grant_says bytes token mid lifetime grant)
