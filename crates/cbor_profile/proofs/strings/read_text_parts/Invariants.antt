use Rattle.std.proofs.Common.{◌≡◌, ◌-◌, ◌≤◌, length}
use Rattle.std.specs.Prelude.{string_bytes}
use Rattle.cbor_profile.specs.declared.major.Major.TheVariants as major_type
use Rattle.cbor_profile.specs.ItemReading.{parts_at}
use Rattle.cbor_profile.proofs.Loops.{with_front}
use Rattle.cbor_profile.proofs.strings.read_text_parts.Given as goal

-- the parts so far and those to come are all of them
abbrev pub invariant-loop : goal.invariant-loop
invariant-loop l = record {
  read : with_front (string_bytes l.string) (parts_at (length l.bytes - l.counter) l.fn.end major_type.Text l.rest) ≡ parts_at (length l.bytes) l.fn.end major_type.Text l.bytes;
  shorter : length l.rest ≤ length l.bytes;
}
