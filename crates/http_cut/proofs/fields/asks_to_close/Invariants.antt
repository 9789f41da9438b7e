use Rattle.std.proofs.Common.{◌≡◌, length}
use Rattle.std.specs.Prelude.{All, codes}
use Rattle.std.specs.List.{list_any}
use Rattle.httparse.specs.Spans.{IsHeaderWithin}
use Rattle.http_cut.specs.Fields.{values_of, has_close}
use Rattle.http_cut.specs.SpanValues.{fields_at}
use Rattle.http_cut.proofs.fields.asks_to_close.Given as goal

abbrev pub invariant-loop-value : goal.invariant-loop-value
invariant-loop-value l = record {
  same : list_any has_close (values_of (codes "connection") (fields_at l.head l.rest)) ≡ list_any has_close (values_of (codes "connection") (fields_at l.head l.fields));
  within : All (IsHeaderWithin (length l.head)) l.rest;
}

abbrev pub decreases-loop-value : goal.decreases-loop-value
decreases-loop-value l = length l.rest
