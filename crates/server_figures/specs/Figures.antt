-- The figures of a server: what came and was sent since its start, what it has now, and how full its domains and its journal are.
use Rattle.std.specs.Prelude.{ℕ, ◌==◌, if◌then◌else◌, List, [], ◌++◌, length, filter, codes, decimal}
use Rattle.coap_message.specs.MessageText.{code_text}
use Rattle.dots_host.specs.declared.act.Act.{Act}
use Rattle.dots_settings.specs.Settings.{SettingsValue}
use Rattle.dots_settings.specs.Lookups.{name_of}
use Rattle.dots_history.specs.declared.entry.Entry.{Entry}
use Rattle.dots_history.specs.Histories.{mitigations, held}
use Rattle.dots_history.specs.Views.{mitigations_of}
use Rattle.dots_history.specs.Rows.{plain_rows, acl_rows}
use Rattle.held_resources.specs.declared.kind.RoomKind.TheVariants as rooms
use Rattle.held_resources.specs.Numbers.{number_of}
use Rattle.slot_store.specs.StoreValues.{JournalValue}
use Rattle.wire_figures.specs.Counting.{counted, is_event, is_datagram, is_stranger, is_opening, is_loss, last_time, with_code, with_status}
use Rattle.server_figures.specs.Lines.{Heading, heading_lines, labelled_line, lines_from, plain_figure, spelled}

abbrev pub counter : List ℕ → List ℕ → Heading
counter name help = record { name = name; help = help; kind = codes "counter" }

abbrev pub gauge : List ℕ → List ℕ → Heading
gauge name help = record { name = name; help = help; kind = codes "gauge" }

-- ---- since the start

-- what came
unfoldable pub came_lines : List Act → List ℕ
came_lines calls =
    plain_figure (counter (codes "dots_events_total") (codes "Events that were taken.")) (counted is_event calls)
    ++ plain_figure (gauge (codes "dots_last_event_seconds") (codes "Time beside the last event, in seconds.")) (last_time calls)
    ++ plain_figure (counter (codes "dots_datagrams_total") (codes "Datagrams that came.")) (counted is_datagram calls)
    ++ plain_figure (counter (codes "dots_stranger_datagrams_total") (codes "Datagrams from addresses that no peer has.")) (counted is_stranger calls)
    ++ plain_figure (counter (codes "dots_connections_total") (codes "Connections that were opened.")) (counted is_opening calls)

-- a line for a code with which a datagram was sent
abbrev pub code_line : List Act → ℕ → List ℕ
code_line calls code =
    if with_code code calls == 0 then [] else labelled_line (codes "dots_replies_total") (codes "code") (code_text code) (with_code code calls)

-- the codes of replies, from 2.00 to 5.31
unfoldable pub codes_lines : List Act → List ℕ
codes_lines calls =
    heading_lines (counter (codes "dots_replies_total") (codes "Replies and notifications on the signal channel, by code."))
    ++ lines_from (code_line calls) 64 128

abbrev pub status_line : List Act → ℕ → List ℕ
status_line calls status =
    if with_status status calls == 0 then [] else labelled_line (codes "dots_http_replies_total") (codes "status") (decimal status) (with_status status calls)

unfoldable pub statuses_lines : List Act → List ℕ
statuses_lines calls =
    heading_lines (counter (codes "dots_http_replies_total") (codes "Replies on the data channel, by status."))
    ++ lines_from (status_line calls) 100 500

-- what was sent
unfoldable pub sent_lines : List Act → List ℕ
sent_lines calls =
    codes_lines calls ++ statuses_lines calls
    ++ plain_figure (counter (codes "dots_lost_sends_total") (codes "Sends that were lost.")) (counted is_loss calls)

-- ---- now

-- a line for each domain of the settings, by its number
abbrev pub domain_lines : SettingsValue → List ℕ → (ℕ → ℕ) → List ℕ
domain_lines settings name number_in =
    lines_from (λ domain. labelled_line name (codes "domain") (spelled (name_of settings domain)) (number_in domain)) 0 (length settings.domains)

-- how many mitigations of a domain a history leaves live at a time
abbrev pub live_in : ℕ → List Entry → ℕ → ℕ
live_in t history domain = length (mitigations_of domain (mitigations t history))

-- how many clients of a domain it leaves registered
abbrev pub registered_in : List Entry → ℕ → ℕ
registered_in history domain = number_of rooms.Client (record { domain = domain; cuid = [] }) (held history)

unfoldable pub mitigations_lines : SettingsValue → ℕ → List Entry → List ℕ
mitigations_lines settings t history =
    heading_lines (gauge (codes "dots_mitigations") (codes "Live mitigations of a domain."))
    ++ domain_lines settings (codes "dots_mitigations") (live_in t history)
    ++ plain_figure (gauge (codes "dots_mitigations_limit") (codes "Live mitigations that a domain may have.")) settings.limits.domain_mitigations

unfoldable pub clients_lines : SettingsValue → List Entry → List ℕ
clients_lines settings history =
    heading_lines (gauge (codes "dots_clients") (codes "Registered clients of a domain."))
    ++ domain_lines settings (codes "dots_clients") (registered_in history)
    ++ plain_figure (gauge (codes "dots_clients_limit") (codes "Registered clients that a domain may have.")) settings.limits.clients

-- how many rows of mitigations filter, and how many access lists are held
unfoldable pub rows_lines : ℕ → ℕ → List ℕ
rows_lines rows lists =
    plain_figure (gauge (codes "dots_mitigation_rows") (codes "Rows of mitigations that filter.")) rows
    ++ plain_figure (gauge (codes "dots_list_rows") (codes "Access lists that are held.")) lists

-- how many slots of the journal are in use, and how many there are
unfoldable pub slots_lines : JournalValue → List ℕ
slots_lines journal =
    plain_figure (gauge (codes "dots_journal_slots_used") (codes "Slots of the journal in use.")) journal.used
    ++ plain_figure (gauge (codes "dots_journal_slots") (codes "Slots of the journal in all.")) journal.slots

unfoldable pub kept_lines : ℕ → List Entry → JournalValue → List ℕ
kept_lines t history journal =
    rows_lines (length (filter (λ row. row.active) (plain_rows t history))) (length (acl_rows t history)) ++ slots_lines journal

-- ---- the whole

-- at how many ticks the wall clock was away from the time beside events
unfoldable pub clock_lines : ℕ → List ℕ
clock_lines strayed = plain_figure (counter (codes "dots_clock_strayed_total") (codes "Ticks at which the wall clock was more than 30 seconds away.")) strayed

abbrev pub figures_of : SettingsValue → ℕ → List Entry → JournalValue → List Act → ℕ → List ℕ
figures_of settings t history journal calls strayed =
    came_lines calls ++ sent_lines calls ++ clock_lines strayed
    ++ mitigations_lines settings t history ++ clients_lines settings history ++ kept_lines t history journal
