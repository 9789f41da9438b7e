use Rattle.std.proofs.Common.{◌≡◌, ◌≤◌, length}
use Rattle.std.specs.Prelude.{All}
use Rattle.httparse.specs.Spans.{IsHeaderWithin}
use Rattle.http_cut.specs.Fields.{values_of}
use Rattle.http_cut.specs.SpanValues.{fields_at}
use Rattle.http_cut.proofs.fields.find_field.Given as goal

abbrev pub invariant-loop-field : goal.invariant-loop-field
invariant-loop-field l = record {
  same : values_of l.name (fields_at l.head l.rest) ≡ values_of l.name (fields_at l.head l.fields);
  within : All (IsHeaderWithin (length l.head)) l.rest;
  fewer : length l.rest ≤ length l.fields;
}

abbrev pub decreases-loop-field : goal.decreases-loop-field
decreases-loop-field l = length l.rest
