-- Requests at the front of the bytes of a stream (RFC 9112, sections 2 to 6 and 9).
use Rattle.std.specs.Prelude.{◌≡◌, ◌⊎◌, ℕ, ◌+◌, ◌≤◌, ◌==◌, ◌||◌, not, Bool, List, ◌∷◌, ◌++◌, map, length, take, nat_le, if◌then◌else◌, codes, Result, Ok, Err, Option, option_map, IsTrue}
use Rattle.std.specs.List.{list_any}
use Rattle.httparse.specs.Ascii.{line_feed, carriage_return}
use Rattle.httparse.specs.Grammar.{LineEnd, print_end, RequestHead, print_request, ReadsRequest}
use Rattle.httparse.specs.Spans.{name_and_value}
use Rattle.http_cut.specs.declared.fault.HttpFault.{HttpFault}
use Rattle.http_cut.specs.declared.fault.HttpFault.TheVariants.{BadHead}
use Rattle.http_cut.specs.declared.request.HttpRequest.{HttpRequest}
use Rattle.http_cut.specs.declared.request.Cut as code
use Rattle.http_cut.specs.declared.request.Cut.TheVariants as cuts
use Rattle.http_cut.specs.Fields.{Fields, values_of, first_media, has_close, framing}

-- the bytes begin with this head, which has at most 8,192 bytes; the rest stands behind it
pub record BeginsWith (bytes : List ℕ) (head : RequestHead) (rest : List ℕ) : Type 0 where
  pub reads : ReadsRequest bytes head rest
  pub size : length (print_request head) ≤ 8192

abbrev pub HasNoHead : List ℕ → Type 0
HasNoHead bytes = (head : RequestHead) (rest : List ℕ) → ¬ (BeginsWith bytes head rest)

-- no bytes can follow that make a head
abbrev pub NeverHasHead : List ℕ → Type 0
NeverHasHead bytes = (more : List ℕ) → HasNoHead (bytes ++ more)

-- a byte of a line that isn't empty
abbrev pub is_other : ℕ → Bool
is_other b = not (b == carriage_return || b == line_feed)

-- behind a line that isn't empty stands an empty line
abbrev pub HasEmptyLine : List ℕ → Type 0
HasEmptyLine bytes =
    (front : List ℕ) × (end : LineEnd) × (back : List ℕ)
    × IsTrue (list_any is_other front) × (bytes ≡ front ++ line_feed ∷ (print_end end ++ back))

-- a head would have ended here
abbrev pub IsOver : List ℕ → Type 0
IsOver bytes = (8192 ≤ length bytes) ⊎ HasEmptyLine bytes

-- the parts of a head that are read here
pub record Head : Type 0 where
  pub method : List ℕ
  pub target : List ℕ
  pub minor : ℕ
  pub fields : Fields
  pub size : ℕ

abbrev pub head_of : RequestHead → Head
head_of head = record {
  method = head.method;
  target = head.target;
  minor = head.minor;
  fields = map name_and_value head.fields;
  size = length (print_request head);
}

-- a request without where it lies in memory; its size is that of the head and the body
pub record Request : Type 0 where
  pub method : List ℕ
  pub target : List ℕ
  pub media : Option (List ℕ)
  pub close : Bool
  pub body : List ℕ
  pub size : ℕ

-- HTTP/1.0, or an option `close` (RFC 9112, section 9.3)
abbrev pub closes : Head → Bool
closes head = (head.minor == 0) || list_any has_close (values_of (codes "connection") head.fields)

-- the request of a head that a body of n bytes follows
abbrev pub request_of : Head → ℕ → List ℕ → Request
request_of head n rest = record {
  method = head.method;
  target = head.target;
  media = first_media (values_of (codes "content-type") head.fields);
  close = closes head;
  body = take n rest;
  size = head.size + n;
}

-- what stands at the front of a stream
pub data CutValue : Type 0 where
  takes : Request → CutValue
  waits : CutValue
  refuses : HttpFault → CutValue

-- a body of n bytes that may be there whole
abbrev pub with_body : Head → List ℕ → ℕ → CutValue
with_body head rest n = if nat_le n (length rest) then takes (request_of head n rest) else waits

abbrev pub by_framing : Head → List ℕ → Result ℕ HttpFault → CutValue
by_framing head rest (Ok n) = with_body head rest n
by_framing head rest (Err fault) = refuses fault

-- how bytes are cut where a head is there, with the bytes behind it
unfoldable pub cut_value_behind : Head → List ℕ → CutValue
cut_value_behind head rest = by_framing head rest (framing head.fields)

-- how bytes are cut where no head is there. A head that can't come any more may be refused at once.
abbrev pub IsHeadless : List ℕ → CutValue → Type 0
IsHeadless bytes (takes request) = ⊥
IsHeadless bytes waits = ¬ (IsOver bytes)
IsHeadless bytes (refuses fault) = (fault ≡ BadHead) × (IsOver bytes ⊎ NeverHasHead bytes)

-- how the buffered bytes are cut
abbrev pub IsCut : List ℕ → CutValue → Type 0
IsCut bytes as_cut =
    ((head : RequestHead) × (rest : List ℕ) × BeginsWith bytes head rest × (as_cut ≡ cut_value_behind (head_of head) rest))
    ⊎ (HasNoHead bytes × IsHeadless bytes as_cut)

-- what the code's answers stand for
abbrev pub request_value : HttpRequest → Request
request_value request = record {
  method = request.method.now;
  target = request.target.now;
  media = option_map (λ media. media.now) request.media;
  close = request.close;
  body = request.body.now;
  size = request.length;
}

abbrev pub cut_value : code.Cut → CutValue
cut_value (cuts.Request request) = takes (request_value request)
cut_value cuts.More = waits
cut_value (cuts.Refused fault) = refuses fault
