-- How a history judges a request for a mitigation at a time (RFC 9132, section 4.4.1).
use Rattle.std.specs.Prelude.{ℕ, Bool, ◌||◌, List, Result}
use Rattle.dots_settings.specs.Settings.{SettingsValue}
use Rattle.dots_history.specs.declared.entry.Entry.{Entry}
use Rattle.dots_history.specs.Histories.{held}
use Rattle.dots_history.specs.Tables.{Client}
use Rattle.conflict_rules.specs.ByMid as by_mid
use Rattle.conflict_rules.specs.Lives.{lives_of}
use Rattle.dots_history.specs.Held.{aliases_of, registrant, is_of_another}
use Rattle.conflict_rules.specs.declared.fault.PutFault.{PutFault}
use Rattle.conflict_rules.specs.declared.judging.Judged.{Judged}
use Rattle.conflict_rules.specs.Requests.{Request, ClientValue}
use Rattle.conflict_rules.specs.Judging as rules

-- The client's name is in use by another peer: a live mitigation of the client, or its registration, has another one.
abbrev pub collides : ℕ → List Entry → ℕ → Client → Bool
collides t entries peer client =
    by_mid.collides (lives_of client.domain t entries) peer client.cuid || is_of_another peer client (held entries)

-- what is held of a client
abbrev pub client_in : List Entry → Client → ClientValue
client_in entries client =
    record { registrant = registrant client (held entries); aliases = aliases_of client (held entries) }

-- The judgement of a request for a domain, by the live mitigations of the domain and by what is held of the client.
abbrev pub judge_request : SettingsValue → ℕ → List Entry → ℕ → Request → Result Judged PutFault
judge_request settings t entries domain request =
    rules.judge_put
    settings
    (lives_of domain t entries)
    (client_in entries (record { domain = domain; cuid = request.cuid }))
    t
    request
