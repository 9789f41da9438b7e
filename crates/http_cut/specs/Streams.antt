-- The requests of a stream, by all of its bytes.
use Rattle.std.specs.Prelude.{◌≡◌, ℕ, Bool, true, false, List, [], ◌∷◌, ◌++◌, drop, Result, Ok, Err, ⊤}
use Rattle.std.specs.List.{list_any}
use Rattle.dots_lists.specs.declared.memory.NoMemory.{NoMemory}
use Rattle.httparse.specs.Grammar.{RequestHead}
use Rattle.http_cut.specs.declared.stream_end.StreamEnd.{StreamEnd}
use Rattle.http_cut.specs.declared.stream_end.StreamEnd.TheVariants.{Waits, Closes, Refused}
use Rattle.http_cut.specs.declared.request.HttpRequest.{HttpRequest}
use Rattle.http_cut.specs.declared.request.Cut as code
use Rattle.http_cut.specs.declared.request.Cut.TheVariants as cuts
use Rattle.http_cut.specs.Requests.{BeginsWith, NeverHasHead, IsOver, Request, takes, waits, refuses, IsCut, cut_value_behind, head_of}

-- the bytes begin with this request
abbrev pub IsFirst : List ℕ → Request → Type 0
IsFirst bytes request =
    (head : RequestHead) × (rest : List ℕ) × BeginsWith bytes head rest × (takes request ≡ cut_value_behind (head_of head) rest)

-- no request follows one that closes
abbrev pub ClosesLast : Bool → List Request → Type 0
ClosesLast true later = later ≡ []
ClosesLast false later = ⊤

-- the bytes are these requests, one behind the other, and then the rest; one that closes is the last of its connection
-- (RFC 9112, section 9.6)
abbrev pub AreRequests : List ℕ → List Request → List ℕ → Type 0
AreRequests bytes [] rest = bytes ≡ rest
AreRequests bytes (request ∷ requests) rest =
    IsFirst bytes request × ClosesLast request.close requests × AreRequests (drop request.size bytes) requests rest

-- whether one of the requests closes
abbrev pub any_closes : List Request → Bool
any_closes requests = list_any (λ request. request.close) requests

-- how a stream goes on behind its requests, of which one closes or none does
abbrev pub HasEnd : StreamEnd → Bool → List ℕ → Type 0
HasEnd Waits closed rest = (closed ≡ false) × IsCut rest waits
HasEnd Closes closed rest = closed ≡ true
HasEnd (Refused fault) closed rest = (closed ≡ false) × IsCut rest (refuses fault)

-- the bytes of a stream are these requests, one behind the other, and then the rest
pub record IsStream (bytes : List ℕ) (requests : List Request) (end : StreamEnd) (rest : List ℕ) : Type 0 where
  pub whole : AreRequests bytes requests rest
  pub ends : HasEnd end (any_closes requests) rest

-- no head can come, and a refusal of that may still be waited with
abbrev pub IsOpen : List ℕ → Type 0
IsOpen rest = NeverHasHead rest × ¬ (IsOver rest)

-- what is buffered of the rest of a stream: all of it where more is waited for, and else the front of it
abbrev pub Buffers : StreamEnd → List ℕ → List ℕ → Type 0
Buffers Waits buffered rest = buffered ≡ rest
Buffers Closes buffered rest = (left : List ℕ) × (rest ≡ buffered ++ left)
Buffers (Refused fault) buffered rest = (left : List ℕ) × (rest ≡ buffered ++ left) × IsCut buffered (refuses fault)

-- of the bytes that were brought some came to those that were there, and others are left; what is buffered is the rest of all
-- that were there or came, behind these requests
pub record IsBuffered (old brought : List ℕ) (requests : List Request) (buffered : List ℕ) : Type 0 where
  pub came : List ℕ
  pub left : List ℕ
  pub parts : brought ≡ came ++ left
  pub whole : AreRequests (old ++ came) requests buffered

-- the same for requests that were put behind others, none of which closes
pub record AreTaken (bytes : List ℕ) (before after : List Request) (rest : List ℕ) : Type 0 where
  pub requests : List Request
  pub added : after ≡ before ++ requests
  pub whole : AreRequests bytes requests rest
  pub open_yet : any_closes requests ≡ false

-- how the taking of requests ended: as the stream goes on, or at a request for which memory wasn't found
abbrev pub Ends : Result StreamEnd NoMemory → Bool → List ℕ → Type 0
Ends (Ok end) closed buffered = HasEnd end closed buffered
Ends (Err fault) closed buffered = (closed ≡ false) × ((request : Request) × IsFirst buffered request)

pub record AreTakenTo (bytes : List ℕ) (before after : List Request) (buffered : List ℕ) (end : Result StreamEnd NoMemory) : Type 0 where
  pub requests : List Request
  pub added : after ≡ before ++ requests
  pub whole : AreRequests bytes requests buffered
  pub ends : Ends end (any_closes requests) buffered

-- whether more is waited for
abbrev pub is_waiting : Result StreamEnd NoMemory → Bool
is_waiting (Ok Waits) = true
is_waiting (Ok Closes) = false
is_waiting (Ok (Refused fault)) = false
is_waiting (Err fault) = false

abbrev pub IsAll : Bool → List ℕ → Type 0
IsAll true left = left ≡ []
IsAll false left = ⊤

-- the same with bytes that are brought; they all came where more is waited for
pub record AreTakenOf (old brought : List ℕ) (before after : List Request) (buffered : List ℕ) (end : Result StreamEnd NoMemory) : Type 0 where
  pub came : List ℕ
  pub left : List ℕ
  pub parts : brought ≡ came ++ left
  pub taken : AreTakenTo (old ++ came) before after buffered end
  pub all : IsAll (is_waiting end) left

-- P of the request, where there is one
abbrev pub IfRequest : code.Cut → (HttpRequest → Type 0) → Type 0
IfRequest (cuts.Request request) P = P request
IfRequest cuts.More P = ⊤
IfRequest (cuts.Refused fault) P = ⊤
