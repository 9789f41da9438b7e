-- What is decided on a request, by what is known.
use Rattle.std.specs.Prelude.{ℕ, Bool, true, false, if◌then◌else◌, List, [], Option, Some, None, Result, Ok, Err}
use Rattle.dots_settings.specs.Settings.{SettingsValue}
use Rattle.dots_settings.specs.Lookups.{role_of}
use Rattle.dots_keys.specs.declared.head_request.Content.{Content}
use Rattle.dots_keys.specs.declared.head_request.MitigationPath.{MitigationPath}
use Rattle.dots_keys.specs.declared.request.Request.{Request}
use Rattle.dots_keys.specs.declared.request.Request.TheVariants as request
use Rattle.dots_keys.specs.declared.request.MitigationBody.{MitigationBody}
use Rattle.dots_keys.specs.declared.request.ConfigBody.{ConfigBody}
use Rattle.dots_history.specs.declared.entry.Entry.{Entry}
use Rattle.dots_history.specs.declared.config.Config.{Config}
use Rattle.dots_history.specs.declared.change.Change.{Change}
use Rattle.dots_history.specs.declared.change.Change.TheVariants as change
use Rattle.session_core.specs.declared.negotiating.ConfigFault.{ConfigFault}
use Rattle.session_core.specs.declared.negotiating.ConfigFault.TheVariants.{Range, OlderSid}
use Rattle.session_core.specs.Negotiating.{negotiated}
use Rattle.dots_keys.specs.declared.exchange.Exchange.{Exchange}
use Rattle.dots_machine.specs.declared.client_request.ClientRequest.{ClientRequest}
use Rattle.dots_machine.specs.Verdict.{Verdict}
use Rattle.dots_machine.specs.declared.verdict.Verdict.TheVariants as verdict
use Rattle.dots_machine.specs.Domains.{domain_for, config_domain}
use Rattle.dots_machine.specs.Replies.{bad_parameter, configuring, older_sid, out_of_range, configuration_reply, deleted, absent, heartbeat_reply}
use Rattle.dots_machine.specs.MessageRepeats.{sent_for, unless_repeated}
use Rattle.dots_machine.specs.ConfiguredPeers.{Configured, sid_of, is_held}
use Rattle.dots_machine.specs.Facts.{Facts}
use Rattle.dots_machine.specs.Mitigations.{sent_by, key_of, put_answer, delete_answer, get_answer}

-- for a domain that there is, or a parameter is wrong
abbrev pub in_domain : Exchange → Option ℕ → (ℕ → Verdict) → Verdict
in_domain exchange None decided = verdict.Reply (bad_parameter exchange)
in_domain exchange (Some domain) decided = decided domain

-- who asks, for which domain, with the path of the request
abbrev pub asks_for : ℕ → Exchange → MitigationPath → ℕ → ClientRequest
asks_for peer exchange path domain = record { peer = peer; domain = domain; exchange = exchange; cuid = path.cuid }

-- with a mid, or a parameter is missing
abbrev pub with_mid : Exchange → Option ℕ → (ℕ → Verdict) → Verdict
with_mid exchange None decided = verdict.Reply (bad_parameter exchange)
with_mid exchange (Some mid) decided = decided mid

abbrev pub put_in : SettingsValue → Facts → ClientRequest → MitigationBody → ℕ → Verdict
put_in settings facts from body mid = put_answer settings facts (record { from = from; mid = mid; body = body })

-- what is asked of the mitigations of a client in a domain
abbrev pub put_for : SettingsValue → Facts → ℕ → Exchange → MitigationPath → MitigationBody → ℕ → Verdict
put_for settings facts peer exchange path body domain = with_mid exchange path.mid (put_in settings facts (asks_for peer exchange path domain) body)

abbrev pub delete_in : Facts → ClientRequest → ℕ → Verdict
delete_in facts from mid = unless_repeated (facts.repeated (sent_by from)) (delete_answer facts from mid)

abbrev pub delete_for : Facts → ℕ → Exchange → MitigationPath → ℕ → Verdict
delete_for facts peer exchange path domain = with_mid exchange path.mid (delete_in facts (asks_for peer exchange path domain))

abbrev pub get_for : Facts → ℕ → Exchange → MitigationPath → Content → ℕ → Verdict
get_for facts peer exchange path content domain = get_answer facts (asks_for peer exchange path domain) path.mid content

-- ---- the configuration of a session (RFC 9132, section 4.5), for the domain in which the peer configures it

-- what is kept of a change of it, which is of no client
abbrev pub config_entry : ℕ → ℕ → ℕ → Exchange → List ℕ → Change → Entry
config_entry time peer domain exchange reply change = record {
  time = time;
  peer = peer;
  domain = domain;
  cuid = [];
  key = key_of exchange.kind exchange.id;
  reply = reply;
  change = change;
}

-- a configuration is set under a sid, in place of that of the same sid, or of a lower one; or it is refused
abbrev pub config_answer : ℕ → ℕ → ℕ → Exchange → ℕ → Bool → Result Config ConfigFault → Verdict
config_answer time peer domain exchange sid replaced (Ok config) =
    verdict.Accept (configuring exchange replaced) (config_entry time peer domain exchange (configuring exchange replaced) (change.SetConfig sid config))
config_answer time peer domain exchange sid replaced (Err (Range key)) = verdict.Reply (out_of_range exchange key)
config_answer time peer domain exchange sid replaced (Err (OlderSid kept)) = verdict.Reply (older_sid exchange)

abbrev pub put_config_for : Facts → ℕ → Exchange → ℕ → ConfigBody → ℕ → Verdict
put_config_for facts peer exchange sid body domain =
    unless_repeated (facts.repeated (sent_for peer exchange domain))
    (config_answer facts.time peer domain exchange sid (is_held sid (facts.configured domain peer)) (negotiated (sid_of (facts.configured domain peer)) sid body))

-- it is given up, where it has this sid; any other is gone already
abbrev pub clear_answer : ℕ → ℕ → ℕ → Exchange → Bool → Verdict
clear_answer time peer domain exchange true = verdict.Accept (deleted exchange) (config_entry time peer domain exchange (deleted exchange) change.ClearConfig)
clear_answer time peer domain exchange false = verdict.Reply (deleted exchange)

abbrev pub delete_config_for : Facts → ℕ → Exchange → ℕ → ℕ → Verdict
delete_config_for facts peer exchange sid domain =
    unless_repeated (facts.repeated (sent_for peer exchange domain))
    (clear_answer facts.time peer domain exchange (is_held sid (facts.configured domain peer)))

-- it is read, whatever its sid, or where it has this one
abbrev pub config_view : Exchange → Option ℕ → Option Configured → Verdict
config_view exchange None configured = verdict.LongReply (configuration_reply exchange configured)
config_view exchange (Some sid) configured =
    if is_held sid configured then verdict.LongReply (configuration_reply exchange configured) else verdict.Reply (absent exchange)

abbrev pub get_config_for : Facts → ℕ → Exchange → Option ℕ → ℕ → Verdict
get_config_for facts peer exchange sid domain = config_view exchange sid (facts.configured domain peer)

-- what is decided on a request
abbrev pub answer_to : SettingsValue → Facts → ℕ → Exchange → Request → Verdict
answer_to settings facts peer exchange (request.PutMitigation path body) =
    in_domain exchange (domain_for settings (role_of settings peer) path.cdid) (put_for settings facts peer exchange path body)
answer_to settings facts peer exchange (request.GetMitigation path content observe) =
    in_domain exchange (domain_for settings (role_of settings peer) path.cdid) (get_for facts peer exchange path content)
answer_to settings facts peer exchange (request.DeleteMitigation path) =
    in_domain exchange (domain_for settings (role_of settings peer) path.cdid) (delete_for facts peer exchange path)
answer_to settings facts peer exchange (request.PutConfig sid body) =
    in_domain exchange (config_domain (role_of settings peer)) (put_config_for facts peer exchange sid body)
answer_to settings facts peer exchange (request.GetConfig sid) =
    in_domain exchange (config_domain (role_of settings peer)) (get_config_for facts peer exchange sid)
answer_to settings facts peer exchange (request.DeleteConfig sid) =
    in_domain exchange (config_domain (role_of settings peer)) (delete_config_for facts peer exchange sid)
answer_to settings facts peer exchange (request.PutHeartbeat seen) = verdict.Reply (heartbeat_reply exchange)
