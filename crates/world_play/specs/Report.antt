-- The report of a generated world.
use Rattle.std.specs.Prelude.{◌≡◌, ℕ, List, [], ◌∷◌, length, codes}
use Rattle.std.specs.List.{sum_by}
use Rattle.dots_client.specs.Client.{ClientValue}
use Rattle.dots_load.specs.Report.{lines}
use Rattle.dots_machine.specs.Machine.{State}
use Rattle.dots_world.specs.Plans.{Plan}
use Rattle.dots_world.specs.Worlds.{World}
use Rattle.dots_world.specs.declared.event.WorldEvent.{WorldEvent}
use Rattle.world_play.specs.Rows.{rows_of}
use Rattle.world_play.specs.Plans.{IsGenerated}
use Rattle.world_play.specs.Running.{RunsFrom}

-- how many mitigations the ledgers of clients have in all
abbrev pub granted_to : List ClientValue → ℕ
granted_to clients = sum_by (λ (client : ClientValue). length client.ledger) clients

-- how many packets were sent, mitigations are granted, and rows filter
abbrev pub text_of : ℕ → ℕ → ℕ → List ℕ
text_of packets granted rows = lines ((codes "packets", packets) ∷ (codes "granted", granted) ∷ (codes "rows", rows) ∷ [])

abbrev pub world_text : World State → List ℕ
world_text world = text_of (length world.packets) (granted_to world.clients) (rows_of world.server)

-- The text is the report of a generated world, to which 2,000 events of a seed lead.
pub record WorldReported (seed : ℕ) (text : List ℕ) : Type 0 where
  pub plan : Plan
  pub is_plan : IsGenerated plan
  pub events : List WorldEvent
  pub count : length events ≡ 2000
  pub world : World State
  pub runs : RunsFrom seed plan events world
  pub text_is : text ≡ world_text world
