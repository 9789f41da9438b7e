-- What contracts see of what is known between datagrams.
use Rattle.std.specs.Prelude.{ℕ, List, Option}
use Rattle.std.specs.Option.{ForSome}
use Rattle.coap_block.specs.declared.awaiting.Awaiting.{Awaiting}
use Rattle.coap_block.specs.Option.{IsBlock}
use Rattle.coap_block.specs.Blocks.{Asked, Blocks}

-- and the bytes that were written last
pub record Known : Type 0 where
  pub blocks : Blocks
  pub written : List ℕ

-- the GET with its request
abbrev pub asked_with : List ℕ → Awaiting → Asked
asked_with request awaiting = record { peer = awaiting.peer; identifier = awaiting.id; token = awaiting.token; block = awaiting.block; request = request }

-- the block that is asked for was read
abbrev pub AsksBlock : Option Awaiting → Type 0
AsksBlock awaited = ForSome awaited (λ awaiting. ForSome awaiting.block IsBlock)
