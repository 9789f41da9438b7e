-- Who is sent a grant was answered by it.
use Rattle.std.specs.Prelude.{if◌then◌else◌}
use Rattle.std.proofs.Common.{◌≡◌, ◌⊎◌, inl, inr, ℕ, ℤ, Bool, true, false, List, [], ◌∷◌, ◌++◌, codes, Option, Contains, refl, sym, ap, ◌∙◌, subst, arith}
use Rattle.std.proofs.lemmas.List.Elements.{Contains-push, Contains-push_cases, Contains-append_cases}
use Rattle.dots_host.specs.declared.event.Event.TheVariants as event
use Rattle.dots_host.specs.declared.out.OwnedOut.{OwnedOut}
use Rattle.dots_host.specs.declared.out.OwnedOut.TheVariants as owned
use Rattle.dots_host.specs.Runs.{outs_of}
use Rattle.dots_host.proofs.RunLemmas.{outs_back}
use Rattle.coap_message.specs.declared.kind.Kind.TheVariants.{Non}
use Rattle.coap_message.specs.declared.codes.TheConstants.{CONTENT, NOT_FOUND}
use Rattle.dots_history.specs.declared.entry.Entry.{Entry}
use Rattle.coap_observe.specs.Seen.{Lists}
use Rattle.coap_observe.specs.Observed.{ObservedValue}
use Rattle.session_core.specs.declared.contact.PeerContact.{PeerContact}
use Rattle.session_core.specs.Contacts.{numbered}
use Rattle.session_core.specs.Notices.{observe, content_notice, gone_notice}
use Rattle.session_core.specs.Notifying.{Bodies, is_gone, notice_bytes, notice, Notifies}
use Rattle.dots_settings.specs.Settings.{SettingsValue}
use Rattle.dots_machine.specs.Verdict.{Verdict}
use Rattle.dots_machine.specs.declared.verdict.Verdict.TheVariants as verdict
use Rattle.dots_keys.specs.Exchanges.{reply_kind}
use Rattle.dots_keys.specs.Replies.{dots_cbor}
use Rattle.dots_machine.specs.Replies.{observe_with, showing}
use Rattle.dots_machine.specs.Observing.{number_of, bodies_at}
use Rattle.dots_machine.specs.Machine.{State, later, seen_in, sends_of, after, watched, Answers, Step}
use Rattle.dots_machine.proofs.Hearing.{answer_history}
use Rattle.dots_world.specs.Granting.{IsGrant, WasAnswered}
use Rattle.dots_world.proofs.Telling.{Says, IsQuiet, quiet, grant_says}
use Rattle.dots_world.proofs.Adding.{IsRight, decided_right}

-- ---- what is sent
pub in_none : {X : Type 0} (x : X) → Contains [] x → ⊥
in_none x has = absurd (omega (arith, has.1))

pub in_one : {X : Type 0} (y x : X) → Contains (y ∷ []) x → y ≡ x
in_one y x has = by_cases (Contains-push_cases [] y x has)
  where
    by_cases : Contains [] x ⊎ (y ≡ x) → y ≡ x
    by_cases (inl none) = absurd (in_none x none)
    by_cases (inr same) = same

pub one_sent : (peer to : ℕ) (reply bytes : List ℕ) → Contains (owned.To peer reply ∷ []) (owned.To to bytes) → (peer ≡ to) × (reply ≡ bytes)
one_sent peer to reply bytes has = let same = in_one (owned.To peer reply) (owned.To to bytes) has in (cc, cc)

-- ---- notifications tell no grant
module _ (lists : Lists) (bodies : Bodies) where
  notice_quiet : (id : ℕ) (o : ObservedValue) → IsQuiet (notice_bytes lists bodies id o)
  notice_quiet id o = by_test (is_gone lists o)
    where
      by_test : (gone : Bool) → IsQuiet (if gone then gone_notice id o.observer.token else content_notice id o.observer.token o.number (bodies o.observer))
      by_test true = quiet (record { kind = Non; code = NOT_FOUND; identifier = id; token = o.observer.token; options = []; payload = codes "absent" }) refl
      by_test false =
          quiet (record { kind = Non; code = CONTENT; identifier = id; token = o.observer.token; options = observe o.number ∷ dots_cbor ∷ []; payload = bodies o.observer }) refl

  pub notices_quiet : (observed : List ObservedValue) (contacts : List PeerContact) (sends : List OwnedOut) (new : List ObservedValue) (left : List PeerContact)
      → Notifies lists bodies observed contacts sends new left → (to : ℕ) (bytes : List ℕ) → Contains sends (owned.To to bytes) → IsQuiet bytes
  notices_quiet [] contacts sends new left n to bytes has = absurd (in_none (owned.To to bytes) (subst (λ outs. Contains outs (owned.To to bytes)) n.0 has))
  notices_quiet (o ∷ observed) contacts sends new left (inl (rest, is, n)) to bytes has = notices_quiet observed contacts sends rest left n to bytes has
  notices_quiet (o ∷ observed) contacts sends new left (inr (id, more, rest, due, numbers, is, is_new, n)) to bytes has =
      by_cases (notices_quiet observed (numbered o.observer.peer contacts) more rest left n to bytes)
      (Contains-append_cases (notice lists bodies id o ∷ []) more (owned.To to bytes) (subst (λ outs. Contains outs (owned.To to bytes)) is has))
    where
      by_cases : (Contains more (owned.To to bytes) → IsQuiet bytes) → Contains (notice lists bodies id o ∷ []) (owned.To to bytes) ⊎ Contains more (owned.To to bytes) → IsQuiet bytes
      by_cases others (inl first) = subst IsQuiet (one_sent o.observer.peer to (notice_bytes lists bodies id o) bytes first).1 (notice_quiet id o)
      by_cases others (inr behind) = others behind

-- ---- the replies to a datagram
module _ (settings : SettingsValue) (state : State) (peer : ℕ) (datagram : List ℕ) (to : ℕ) (bytes : List ℕ) (says : Says bytes) where
  abbrev IsAnswered : Verdict → Type 0
  IsAnswered v = WasAnswered (after v state).history to bytes

  spoken : (reply : List ℕ) → IsQuiet reply ⊎ WasAnswered state.history peer reply → (peer ≡ to) × (reply ≡ bytes) → WasAnswered state.history to bytes
  spoken reply (inl none) same = absurd (none (subst Says (sym same.1) says))
  spoken reply (inr was) same = record { entry = was.entry; kept = was.kept; peer_is = was.peer_is ∙ same.0; reply_is = was.reply_is ∙ same.1 }

  sent_answered : (number : Option ℕ) (v : Verdict) → IsRight settings state peer datagram v → Contains (sends_of number v peer) (owned.To to bytes) → IsAnswered v
  sent_answered number verdict.Silent right has = absurd (in_none (owned.To to bytes) has)
  sent_answered number (verdict.Reply reply) right has = spoken reply right (one_sent peer to reply bytes has)
  sent_answered number (verdict.LongReply reply) right has = spoken reply right (one_sent peer to reply bytes has)
  sent_answered number (verdict.Retrieves x body) right has =
      absurd (quiet (record { kind = reply_kind x.kind; code = CONTENT; identifier = x.id; token = x.token; options = observe_with number ++ dots_cbor ∷ []; payload = body }) refl (subst Says (sym (one_sent peer to (showing x number body) bytes has).1) says))
  sent_answered number (verdict.Accept reply entry) right has =
      let same = one_sent peer to reply bytes has in
      record { entry = entry; kept = Contains-push state.history entry; peer_is = right.carries.peer_is ∙ same.0; reply_is = right.reply_is ∙ same.1 }

module _ (settings : SettingsValue) (state : State) (peer : ℕ) (datagram : List ℕ) (to : ℕ) (bytes : List ℕ) (says : Says bytes) where
  module _ (sends : List OwnedOut) (new : State) (a : Answers settings state peer datagram sends new) where
    by_place : Contains a.replies (owned.To to bytes) ⊎ Contains a.notices (owned.To to bytes) → IsAnswered settings a.met peer datagram to bytes says a.decided
    by_place (inl has) =
        sent_answered settings a.met peer datagram to bytes says (number_of settings a.asked a.met.observers) a.decided (decided_right settings a.met peer datagram a.decided a.decides)
        (subst (λ outs. Contains outs (owned.To to bytes)) a.replies_are has)
    by_place (inr has) =
        let told : State = watched settings peer a.asked a.decided a.replies (after a.decided a.met) in
        absurd (notices_quiet (seen_in settings told) (bodies_at settings told.time told.history) told.observers told.contacts a.notices a.notified.0 a.notified.1 a.notified.2 to bytes has says)

    pub answers_grant : Contains sends (owned.To to bytes) → WasAnswered new.history to bytes
    answers_grant has =
        subst (λ (history : List Entry). WasAnswered history to bytes) (sym (answer_history settings state peer datagram sends new a))
        (by_place (Contains-append_cases a.replies a.notices (owned.To to bytes) (subst (λ outs. Contains outs (owned.To to bytes)) a.sends_are has)))

pub step_grants : (settings : SettingsValue) (old : State) (peer : ℕ) (datagram : List ℕ) (at : ℕ) (owed : List (State × OwnedOut)) (new : State) (to : ℕ) (bytes token : List ℕ) (mid : ℕ) (lifetime : ℤ)
    → Step settings old (event.Datagram peer datagram) at owed new → Contains (outs_of owed) (owned.To to bytes) → IsGrant bytes token mid lifetime → WasAnswered new.history to bytes
step_grants settings old peer datagram at owed new to bytes token mid lifetime step has grant =
    answers_grant settings (later old at) peer datagram to bytes (grant_says bytes token mid lifetime grant) step.0 new step.2
    (subst (λ outs. Contains outs (owned.To to bytes)) (ap outs_of step.1 ∙ outs_back new step.0) has)
