use Rattle.std.proofs.Common.{flat_map, rules}
use Rattle.http_cut.specs.Owned.{owned_values}
use Rattle.http_cut.proofs.Takings.{buffered_of, stream_of, only_stream, lacked_of}
use Rattle.http_cut.proofs.taking.take_requests.Goals as goal

pub returns-clause-held : goal.returns-clause-held
returns-clause-held c =
    buffered_of c.args.stream.now (flat_map (λ piece. piece.now) c.args.pieces.now) (owned_values c.take_pieces-end.new.out) c.take_pieces-end.new.stream c.take_pieces-end.result (search rules)

pub returns-clause-stream : goal.returns-clause-stream
returns-clause-stream c =
    stream_of c.args.stream.now (flat_map (λ piece. piece.now) c.args.pieces.now) (owned_values c.take_pieces-end.new.out) c.take_pieces-end.new.stream c.take_pieces-end.result (search rules)

pub returns-clause-only : goal.returns-clause-only
returns-clause-only c =
    only_stream c.args.stream.now (flat_map (λ piece. piece.now) c.args.pieces.now) (owned_values c.take_pieces-end.new.out) c.take_pieces-end.new.stream c.take_pieces-end.result (search rules)

pub returns-clause-lacked : goal.returns-clause-lacked
returns-clause-lacked c =
    lacked_of c.args.stream.now (flat_map (λ piece. piece.now) c.args.pieces.now) (owned_values c.take_pieces-end.new.out) c.take_pieces-end.new.stream c.take_pieces-end.result (search rules)
