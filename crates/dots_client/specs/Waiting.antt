-- Requests beside their messages.
use Rattle.std.specs.Prelude.{ℕ, List, [], ◌∷◌}
use Rattle.coap_exchange.specs.Sent.{SentValue}
use Rattle.dots_client.specs.declared.request.Request.{Request}
use Rattle.dots_client.specs.Client.{WaitingValue}

-- those that wait, in the order of asking, and how many there may be
pub record RequestsValue : Type 0 where
  pub room : ℕ
  pub waiting : List WaitingValue

abbrev pub pairs : List Request → List SentValue → List WaitingValue
pairs [] sent = []
pairs (r ∷ rs) [] = []
pairs (r ∷ rs) (s ∷ ss) = record { request = r; sent = s } ∷ pairs rs ss
