-- A body is fetched block by block (RFC 7959, sections 2.4 and 2.6).
use Rattle.std.specs.Prelude.{◌≡◌, ℕ, ◌+◌, ◌⊎◌, Bool, false, List, [], ◌∷◌, ⊤}
use Rattle.coap_message.specs.Message.{CoapMessage, spelling}
use Rattle.dots_host.specs.declared.event.Event.TheVariants as event
use Rattle.dots_host.specs.declared.out.OwnedOut.TheVariants as owned
use Rattle.dots_host.specs.Acts.{Timed, WireAct, took, gave}
use Rattle.coap_block.specs.declared.block.BlockOption.{BlockOption}
use Rattle.coap_block.specs.Blocks.{Blocks, Replies, Notifies, Answer, same, refused, first, later, first_block, answer_of, cut_to, part_of, follows}
use Rattle.coap_block.specs.Around.{IsSeen}

-- who fetches, for which path and query, and in blocks of which size
pub record Fetch : Type 0 where
  pub peer : ℕ
  pub request : List ℕ
  pub exponent : ℕ

-- the answer is this block of this body
abbrev pub IsCutFrom : Answer → CoapMessage → BlockOption → List ℕ → Type 0
IsCutFrom same message block body = ⊥
IsCutFrom refused message block body = ⊥
IsCutFrom (first made) message block body = (made ≡ block) × (body ≡ message.payload)
IsCutFrom (later made stored) message block body = (made ≡ block) × (body ≡ stored)

-- The reply to the request was awaited, and left with 2.05 as the block of this number of a body.
pub record AnswersBlock (fetch : Fetch) (number : ℕ) (old : Blocks) (peer : ℕ) (bytes leaves : List ℕ) (new : Blocks) (block : BlockOption) (body : List ℕ) : Type 0 where
  pub reply : Replies old peer bytes leaves new
  pub of_peer : reply.asked.peer ≡ fetch.peer
  pub of_request : reply.asked.request ≡ fetch.request
  pub cut : IsCutFrom (answer_of old.stored reply.asked reply.message) reply.message block body
  pub content : leaves ≡ spelling (cut_to reply.message block body)
  pub numbered : block.number ≡ number
  pub sized : block.exponent ≡ fetch.exponent

-- A notification of the request left as block 0 of its payload.
pub record NotifiesBlock (fetch : Fetch) (old : Blocks) (peer : ℕ) (bytes leaves : List ℕ) (new : Blocks) (block : BlockOption) (body : List ℕ) : Type 0 where
  pub notifies : Notifies old peer bytes leaves new
  pub of_peer : notifies.observed.peer ≡ fetch.peer
  pub of_request : notifies.observed.request ≡ fetch.request
  pub made : block ≡ first_block
  pub whole : body ≡ notifies.message.payload
  pub content : leaves ≡ spelling (cut_to notifies.message block body)
  pub sized : block.exponent ≡ fetch.exponent

abbrev pub IsNoFirst : Answer → Type 0
IsNoFirst (first block) = ⊥
IsNoFirst _ = ⊤

-- no block 0 was made for the peer, nor a long notification of what it observes
abbrev pub MakesNoFirst : Fetch → Blocks → ℕ → List ℕ → List ℕ → Blocks → Type 0
MakesNoFirst fetch old peer bytes leaves new =
    ((reply : Replies old peer bytes leaves new) → reply.asked.peer ≡ fetch.peer → IsNoFirst (answer_of old.stored reply.asked reply.message))
    × ((notice : Notifies old peer bytes leaves new) → notice.observed.peer ≡ fetch.peer → ⊥)

-- an act between two blocks: no restart, and no block 0 for the peer
abbrev pub IsBetween : Fetch → Blocks → WireAct → WireAct → Blocks → Type 0
IsBetween fetch old (took event.Restart at) outer new = ⊥
IsBetween fetch old (gave (owned.To to leaves) done) (gave (owned.To peer bytes) was) new = MakesNoFirst fetch old peer bytes leaves new
IsBetween fetch old inner outer new = ⊤

-- the act is the block of this number of a body
abbrev pub IsFetched : Fetch → ℕ → Blocks → WireAct → WireAct → Blocks → BlockOption → List ℕ → Type 0
IsFetched fetch number old (gave (owned.To to leaves) done) (gave (owned.To peer bytes) was) new block body = AnswersBlock fetch number old peer bytes leaves new block body
IsFetched fetch number old inner outer new block body = ⊥

-- the act is a notification as block 0 of this body
abbrev pub IsNotice : Fetch → Blocks → WireAct → WireAct → Blocks → BlockOption → List ℕ → Type 0
IsNotice fetch old (gave (owned.To to leaves) done) (gave (owned.To peer bytes) was) new block body = NotifiesBlock fetch old peer bytes leaves new block body
IsNotice fetch old inner outer new block body = ⊥

-- The blocks from this number on are fetched, others may come between, and none follows the last. The block before said whether more follow.
abbrev pub FetchesRest : Fetch → ℕ → Bool → Blocks → List Timed → List Timed → List (List ℕ) → Type 0
FetchesRest fetch number more old [] [] parts = (more ≡ false) × (parts ≡ [])
FetchesRest fetch number more old (inner ∷ inners) (outer ∷ outers) parts = (mid : Blocks) × IsSeen old inner.act outer.act mid
    × ((IsBetween fetch old inner.act outer.act mid × FetchesRest fetch number more mid inners outers parts)
    ⊎ ((block : BlockOption) × (body : List ℕ) × (rest : List (List ℕ)) × IsFetched fetch number old inner.act outer.act mid block body × (parts ≡ part_of body block ∷ rest)
    × FetchesRest fetch (number + 1) (follows body block) mid inners outers rest))
FetchesRest fetch number more old [] (outer ∷ outers) parts = ⊥
FetchesRest fetch number more old (inner ∷ inners) [] parts = ⊥

-- block 0 of this body is fetched, or came as a notification, and then the others are fetched
pub record Fetches (fetch : Fetch) (old : Blocks) (inner outer : Timed) (inners outers : List Timed) (body : List ℕ) (parts : List (List ℕ)) : Type 0 where
  pub mid : Blocks
  pub block : BlockOption
  pub rest : List (List ℕ)
  pub begins : IsFetched fetch 0 old inner.act outer.act mid block body ⊎ IsNotice fetch old inner.act outer.act mid block body
  pub parts_are : parts ≡ part_of body block ∷ rest
  pub goes_on : FetchesRest fetch 1 (follows body block) mid inners outers rest
