-- What the server said among the acts of a run.
use Rattle.std.specs.Prelude.{◌≡◌, ◌⊎◌, ⊤, ℕ, List, [], ◌∷◌, Option, Some, None}
use Rattle.coap_message.specs.Message.{CoapMessage, IsMessage, spelling}
use Rattle.dots_host.specs.declared.event.Event.TheVariants as event
use Rattle.dots_host.specs.Acts.{WireAct, took, Timed}
use Rattle.dots_client.specs.declared.granted.Granted.{Granted}
use Rattle.dots_client.specs.Answers.{GrantsMid}
use Rattle.ask_agent.specs.declared.refusal.Refusal.{Refusal}
use Rattle.ask_agent.specs.Asking.{AskState}

-- a datagram of the server was taken, which spells a message that says this
abbrev pub IsSaid : ℕ → (CoapMessage → Type 0) → WireAct → Type 0
IsSaid server says (took (event.Datagram from bytes) at) = (from ≡ server) × (m : CoapMessage) × IsMessage m × (bytes ≡ spelling m) × says m
IsSaid server says _ = ⊥

-- one of the acts did so
abbrev pub Said : ℕ → (CoapMessage → Type 0) → List Timed → Type 0
Said server says [] = ⊥
Said server says (timed ∷ acts) = IsSaid server says timed.act ⊎ Said server says acts

-- each row was granted, with its mid and its lifetime
abbrev pub AreGranted : ℕ → List Timed → List Granted → Type 0
AreGranted server acts [] = ⊤
AreGranted server acts (row ∷ rows) = Said server (λ m. GrantsMid row.mid m row.lifetime) acts × AreGranted server acts rows

-- the refusal came, with its code
abbrev pub IsRefusedBy : ℕ → List Timed → Option Refusal → Type 0
IsRefusedBy server acts None = ⊤
IsRefusedBy server acts (Some refusal) = Said server (λ m. m.code ≡ refusal.code) acts

-- all that the state says of answers came from the server
pub record WasSaid (server : ℕ) (acts : List Timed) (state : AskState) : Type 0 where
  pub same : state.server ≡ server
  pub granted : AreGranted server acts state.client.ledger
  pub refused : IsRefusedBy server acts state.refused
