-- What is decided on a request of a client for its mitigations, by what is known (RFC 9132, section 4.4).
use Rattle.std.specs.Prelude.{ℕ, Bool, true, false, ◌==◌, List, [], ◌∷◌, codes, filter, Option, Some, None, Result, Ok, Err}
use Rattle.coap_message.specs.declared.kind.Kind.{Kind}
use Rattle.coap_message.specs.declared.kind.Kind.TheVariants.{Con}
use Rattle.dots_settings.specs.Settings.{SettingsValue}
use Rattle.dots_settings.specs.Lookups.{prefixes_of}
use Rattle.dots_history.specs.declared.entry.Entry.{Entry}
use Rattle.dots_history.specs.declared.entry.MessageKey.{MessageKey}
use Rattle.dots_history.specs.declared.entry.MessageKey.TheVariants as key
use Rattle.dots_history.specs.declared.change.Change.{Change}
use Rattle.dots_history.specs.declared.change.Change.TheVariants as change
use Rattle.dots_history.specs.Tables.{Client}
use Rattle.dots_keys.specs.declared.head_request.Content.{Content}
use Rattle.conflict_rules.specs.LiveViews.{LiveView}
use Rattle.reply_bodies.specs.declared.conflict.ConflictCause.TheVariants as cause
use Rattle.conflict_rules.specs.declared.fault.PutFault.{PutFault}
use Rattle.conflict_rules.specs.declared.fault.PutFault.TheVariants as faults
use Rattle.conflict_rules.specs.declared.judging.Judged.{Judged}
use Rattle.conflict_rules.specs.Requests.{Request}
use Rattle.conflict_rules.specs.declared.target.TargetFault.{TargetFault}
use Rattle.dots_keys.specs.declared.exchange.Exchange.{Exchange}
use Rattle.dots_machine.specs.declared.mitigation_request.MitigationRequest.{MitigationRequest}
use Rattle.dots_machine.specs.declared.client_request.ClientRequest.{ClientRequest}
use Rattle.dots_machine.specs.Verdict.{Verdict}
use Rattle.dots_machine.specs.declared.verdict.Verdict.TheVariants as verdict
use Rattle.conflict_rules.specs.AskableTargets.{scope_fault}
use Rattle.dots_machine.specs.MessageRepeats.{Sent, sent_for, unless_repeated}
use Rattle.dots_machine.specs.Facts.{Facts}
use Rattle.dots_machine.specs.Replies.{granting, conflicting, deleted, retrieved_body, absent, bad_target, bad_request, at_capacity, unavailable}

-- the message by which its repeats are known
abbrev pub key_of : Kind → ℕ → MessageKey
key_of Con id = key.Con id
key_of _ id = key.Non id

-- what is kept of an accepted change, with the reply to it
abbrev pub entry_of : ℕ → ClientRequest → List ℕ → Change → Entry
entry_of time from reply change = record {
  time = time;
  peer = from.peer;
  domain = from.domain;
  cuid = from.cuid;
  key = key_of from.exchange.kind from.exchange.id;
  reply = reply;
  change = change;
}

-- by which a repeat of the request is known
abbrev pub sent_by : ClientRequest → Sent
sent_by from = sent_for from.peer from.exchange from.domain

-- ---- a mitigation is asked for (section 4.4.1)

-- as the rules see it; what waits for a lost signal isn't served yet, so each asks for what filters at once
abbrev pub request_of : MitigationRequest → Request
request_of asked =
    record { peer = asked.from.peer; cuid = asked.from.cuid; mid = asked.mid; asked = asked.body.asked; lifetime = asked.body.lifetime; trigger = asked.body.trigger }

-- the answer to one that can't be granted
abbrev pub refusal : Exchange → ℕ → PutFault → Verdict
refusal exchange mid faults.Collision = verdict.LongReply (conflicting exchange (Some mid) cause.Collision)
refusal exchange mid faults.Changed = verdict.Reply (bad_request exchange (codes "changed"))
refusal exchange mid faults.UnknownAlias = verdict.Reply (bad_request exchange (codes "unknown alias"))
refusal exchange mid faults.TooMany = verdict.Reply (bad_request exchange (codes "too many"))
refusal exchange mid (faults.Higher higher) = verdict.LongReply (conflicting exchange (Some mid) (cause.Higher higher))
refusal exchange mid (faults.Other prefixes) = verdict.LongReply (conflicting exchange (Some mid) (cause.Other prefixes))
refusal exchange mid (faults.Capacity which number) = verdict.Reply (at_capacity exchange)
refusal exchange mid faults.NoMemory = verdict.Reply (unavailable exchange)

-- what is granted is kept, and its client is told
abbrev pub grant : ℕ → ClientRequest → Judged → Verdict
grant time from judged =
    verdict.Accept (granting from.exchange judged) (entry_of time from (granting from.exchange judged) (change.Put judged.put))

abbrev pub judged : ℕ → MitigationRequest → Result Judged PutFault → Verdict
judged time asked (Ok put) = grant time asked.from put
judged time asked (Err fault) = refusal asked.from.exchange asked.mid fault

-- one for what may not be asked for is refused before the rules are looked at
abbrev pub unless_faulty : Exchange → Option TargetFault → Verdict → Verdict
unless_faulty exchange (Some fault) otherwise = verdict.Reply (bad_target exchange fault)
unless_faulty exchange None otherwise = otherwise

-- a repeat is answered, and on any other the first rule that applies is carried out
abbrev pub put_answer : SettingsValue → Facts → MitigationRequest → Verdict
put_answer settings facts asked =
    unless_faulty asked.from.exchange (scope_fault settings (prefixes_of settings asked.from.domain) asked.body.asked)
    (unless_repeated (facts.repeated (sent_by asked.from)) (judged facts.time asked (facts.judged asked.from.domain (request_of asked))))

-- ---- a mitigation is withdrawn (section 4.4.4)

-- the client that is asked for
abbrev pub client_for : ClientRequest → Client
client_for from = record { domain = from.domain; cuid = from.cuid }

-- the client's name is in use by another peer
abbrev pub is_taken : Facts → ClientRequest → Bool
is_taken facts from = facts.taken (client_for from) from.peer

abbrev pub withdrawal : ℕ → ClientRequest → ℕ → Verdict
withdrawal time from mid =
    verdict.Accept (deleted from.exchange) (entry_of time from (deleted from.exchange) (change.Withdraw mid))

-- The name is taken; or a mitigation of the mid stands, and is withdrawn; or none does: any other is gone already, or about to go.
abbrev pub delete_by : ℕ → ClientRequest → ℕ → Bool → Bool → Verdict
delete_by time from mid true stands = verdict.LongReply (conflicting from.exchange (Some mid) cause.Collision)
delete_by time from mid false true = withdrawal time from mid
delete_by time from mid false false = verdict.Reply (deleted from.exchange)

abbrev pub delete_answer : Facts → ClientRequest → ℕ → Verdict
delete_answer facts from mid = delete_by facts.time from mid (is_taken facts from) (facts.stands (client_for from) mid)

-- ---- mitigations are read (section 4.4.2)

-- any is wanted, or that of the one mid
abbrev pub is_wanted : Option ℕ → LiveView → Bool
is_wanted None m = true
is_wanted (Some mid) m = m.put.mid == mid

abbrev pub get_reply : Exchange → Content → List LiveView → Verdict
get_reply exchange content [] = verdict.Reply (absent exchange)
get_reply exchange content (m ∷ ms) = verdict.Retrieves exchange (retrieved_body content (m ∷ ms))

-- the name is taken; or the client's live mitigations are told, or the one of a mid
abbrev pub get_by : Exchange → Option ℕ → Content → Bool → List LiveView → Verdict
get_by exchange mid content true ms = verdict.LongReply (conflicting exchange mid cause.Collision)
get_by exchange mid content false ms = get_reply exchange content (filter (is_wanted mid) ms)

abbrev pub get_answer : Facts → ClientRequest → Option ℕ → Content → Verdict
get_answer facts from mid content = get_by from.exchange mid content (is_taken facts from) (facts.views (client_for from))
