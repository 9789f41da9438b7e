-- What the spans of a head stand for.
use Rattle.std.specs.Prelude.{ℕ, List, map}
use Rattle.httparse.specs.declared.spans.HeaderSpan.{HeaderSpan}
use Rattle.httparse.specs.declared.spans.RequestSpans.{RequestSpans}
use Rattle.httparse.specs.Spans.{header_bytes, span_bytes}
use Rattle.http_cut.specs.Fields.{Fields}
use Rattle.http_cut.specs.Requests.{Head}

-- the names and the values that the spans cover
abbrev pub fields_at : List ℕ → List HeaderSpan → Fields
fields_at bytes spans = map (header_bytes bytes) spans

-- the parts of a head that the spans cover
abbrev pub head_at : List ℕ → RequestSpans → List HeaderSpan → Head
head_at bytes head spans = record {
  method = span_bytes bytes head.method;
  target = span_bytes bytes head.path;
  minor = head.version;
  fields = fields_at bytes spans;
  size = head.len;
}
