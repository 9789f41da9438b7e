use Rattle.std.proofs.Common.{◌≡◌, true, false, arith, rules}
use Rattle.http_cut.specs.Owned.{owned_values}
use Rattle.http_cut.specs.Streams.{is_waiting}
use Rattle.http_cut.proofs.Takings.{come_ends, come_then, come_more, come_all, empty, not_empty}
use Rattle.http_cut.proofs.Streams.{waits_room}
use Rattle.http_cut.proofs.taking.take_piece.Goals as goal

pub returns-then-not-is_waiting : goal.returns-then-not-is_waiting
returns-then-not-is_waiting c =
    let over : is_waiting c.take_out-end.result ≡ false = search rules in
    come_ends c.args.stream.now c.args.piece.now c.bytes.rest.now c.bytes.stream c.take_out-end.new.stream _ (owned_values c.bytes.out) _ c.take_out-end.result over c.bytes.invariant c.take_out-end.ensures

pub returns-then-is_empty : goal.returns-then-is_empty
returns-then-is_empty c =
    let waiting : is_waiting c.take_out-end.result ≡ true = search rules in
    let come = come_then c.args.stream.now c.args.piece.now c.bytes.rest.now c.bytes.stream c.take_out-end.new.stream _ (owned_values c.bytes.out) _ c.take_out-end.result waiting c.bytes.invariant c.take_out-end.ensures in
    come_all c.args.stream.now c.args.piece.now c.bytes.rest.now c.take_out-end.new.stream _ _ (empty c.bytes.rest.now c.if-is_empty.ensures) come.0 come.1

pub bytes-smaller : goal.bytes-smaller
bytes-smaller c =
    let waiting : is_waiting c.take_out-end.result ≡ true = search rules in
    let come = come_then c.args.stream.now c.args.piece.now c.bytes.rest.now c.bytes.stream c.take_out-end.new.stream _ (owned_values c.bytes.out) _ c.take_out-end.result waiting c.bytes.invariant c.take_out-end.ensures in
    omega (arith, waits_room c.take_out-end.new.stream come.1, c.take-count.ensures.count, c.split_at.ensures.back_len, not_empty c.bytes.rest.now c.if-is_empty.ensures)

pub bytes-preserved : goal.bytes-preserved
bytes-preserved c =
    let waiting : is_waiting c.take_out-end.result ≡ true = search rules in
    let come = come_then c.args.stream.now c.args.piece.now c.bytes.rest.now c.bytes.stream c.take_out-end.new.stream _ (owned_values c.bytes.out) _ c.take_out-end.result waiting c.bytes.invariant c.take_out-end.ensures in
    come_more c.args.stream.now c.args.piece.now c.bytes.rest.now c.take_out-end.new.stream c.split_at.result.1.now c.take-count.new.self _ _ c.take-count.result come.0 c.take-count.ensures.held c.split_at.ensures.back
