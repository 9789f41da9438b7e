use Rattle.std.proofs.Common.{◌≡◌, true, false, flat_map, add-one, refl, rules}
use Rattle.http_cut.specs.Owned.{owned_values}
use Rattle.http_cut.specs.Streams.{is_waiting}
use Rattle.http_cut.proofs.Takings.{come_none, come_ends, come_then, come_all, next_piece, last_piece, no_piece}
use Rattle.http_cut.proofs.taking.take_pieces.Goals as goal

pub returns-then-not-is_waiting : goal.returns-then-not-is_waiting
returns-then-not-is_waiting c =
    let brought = flat_map (λ piece. piece.now) c.args.pieces.now in
    let over : is_waiting c.take_out-buffered.result ≡ false = search rules in
    come_ends c.args.stream.now brought brought c.args.stream.now c.take_out-buffered.new.stream _ (owned_values c.args.out.now) _ c.take_out-buffered.result over (come_none c.args.stream.now brought (owned_values c.args.out.now)) c.take_out-buffered.ensures

pub loop-piece-init : goal.loop-piece-init
loop-piece-init c =
    let brought = flat_map (λ piece. piece.now) c.args.pieces.now in
    let waiting : is_waiting c.take_out-buffered.result ≡ true = search rules in
    let come = come_then c.args.stream.now brought brought c.args.stream.now c.take_out-buffered.new.stream _ (owned_values c.args.out.now) _ c.take_out-buffered.result waiting (come_none c.args.stream.now brought (owned_values c.args.out.now)) c.take_out-buffered.ensures in
    record { come = come.0; waiting = come.1 }

pub returns-then-not-is_waiting-2 : goal.returns-then-not-is_waiting-2
returns-then-not-is_waiting-2 c =
    let over : is_waiting c.take_piece-end.result ≡ false = search rules in
    last_piece (λ piece. piece.now) c.args.stream.now c.loop-piece.stream c.take_piece-end.new.stream _ c.args.pieces.now c.loop-piece.piece-index _ _ (owned_values c.loop-piece.out) _ c.take_piece-end.result c.loop-piece-test.true refl over
    c.loop-piece.invariant.come c.take_piece-end.ensures

pub loop-piece-preserved : goal.loop-piece-preserved
loop-piece-preserved c =
    let waiting : is_waiting c.take_piece-end.result ≡ true = search rules in
    let come = next_piece (λ piece. piece.now) c.args.stream.now c.loop-piece.stream c.take_piece-end.new.stream _ c.args.pieces.now c.loop-piece.piece-index _ _ (owned_values c.loop-piece.out) _ c.take_piece-end.result c.loop-piece-test.true refl waiting
    c.loop-piece.invariant.come c.take_piece-end.ensures in
    record { come = rw (add-one c.loop-piece.piece-index) come.0; waiting = come.1 }

pub returns : goal.returns
returns c =
    come_all c.args.stream.now _ _ c.loop-piece.stream _ (owned_values c.loop-piece.out) (no_piece (λ piece. piece.now) c.args.pieces.now c.loop-piece.piece-index c.loop-piece-test.false) c.loop-piece.invariant.come c.loop-piece.invariant.waiting
