-- What the lines so far have said, and which line may stand behind them.
use Rattle.std.specs.Prelude.{ℕ, Bool, ◌&&◌, nat_le, nat_lt, List, [], ◌∷◌, length, Option, Some, None, is_some, is_none, option_map, option_and_then}
use Rattle.std.specs.List.{filter_map, list_all}
use Rattle.dots_client.specs.Client.{is_empty}
use Rattle.ask_agent.specs.declared.draft.Draft.{Draft}
use Rattle.ask_agent.specs.declared.line.Line.{Line}
use Rattle.ask_agent.specs.declared.line.Line.TheVariants as said
use Rattle.ask_agent.specs.declared.planned.Planned.{Planned}
use Rattle.ask_agent.specs.declared.settings.AskSettings.{AskSettings}

-- ---- what a line gives

abbrev pub server_in : Line → Option ℕ
server_in (said.Server peer) = Some peer
server_in _ = None

abbrev pub cuid_in : Line → Option (List ℕ)
cuid_in (said.Cuid name) = Some name
cuid_in _ = None

abbrev pub mid_in : Line → Option ℕ
mid_in (said.Mid mid) = Some mid
mid_in _ = None

abbrev pub number_in : Line → Option ℕ
number_in (said.Number number) = Some number
number_in _ = None

abbrev pub ask_in : Line → Option Planned
ask_in (said.At at ask) = Some (record { at = at; ask = ask })
ask_in _ = None

-- ---- what they give together

abbrev pub first_of : {A : Type 0} → List A → Option A
first_of [] = None
first_of (x ∷ xs) = Some x

-- the asks in the file's order
abbrev pub said_of : List Line → Draft
said_of lines = record {
  server = first_of (filter_map server_in lines);
  cuid = first_of (filter_map cuid_in lines);
  mid = first_of (filter_map mid_in lines);
  number = first_of (filter_map number_in lines);
  asks = filter_map ask_in lines;
}

-- the server and the client's name were said
abbrev pub is_complete : Draft → Bool
is_complete before = is_some before.server && is_some before.cuid

-- no ask was said
abbrev pub is_front : Draft → Bool
is_front before = is_empty before.asks

-- nothing was asked at a later time
abbrev pub is_none_after : Draft → ℕ → Bool
is_none_after before at = list_all (λ (planned : Planned). nat_le planned.at at) before.asks

abbrev pub may_ask : Draft → ℕ → Bool
may_ask before at = is_complete before && nat_lt (length before.asks) 64 && is_none_after before at

-- Each line but an ask stands once, and before the asks. These stand behind the server and the client's name, with times that don't
-- fall, and there are at most 64.
abbrev pub may_follow : Draft → Line → Bool
may_follow before (said.Server peer) = is_front before && is_none before.server
may_follow before (said.Cuid name) = is_front before && is_none before.cuid
may_follow before (said.Mid mid) = is_front before && is_none before.mid
may_follow before (said.Number number) = is_front before && is_none before.number
may_follow before (said.At at ask) = may_ask before at

-- the settings that this comes to, where nothing is missing
abbrev pub settings_by : Draft → Option AskSettings
settings_by draft = option_and_then (λ server. option_map (λ cuid. record {
  server = server;
  cuid = cuid;
  mid = draft.mid;
  number = draft.number;
  asks = draft.asks;
}) draft.cuid) draft.server
