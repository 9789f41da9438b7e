use Rattle.std.proofs.Common.{◌+◌, arith, ap, ◌∙◌, take, drop}
use Rattle.dots_script.proofs.Known.{filled, filled_known, part_length, written_over}
use Rattle.dots_script.proofs.block.Block.fill.Goals as goal

pub returns-in-Ok-clause-more : goal.returns-in-Ok-clause-more
returns-in-Ok-clause-more g c =
    let fields = c.self.inside in
    let end = c.settle-start.result.1 in
    let more = take c.in-Ok.count (drop end c.read_behind.new.room) in
    let stood = c.settle-start.ensures.kept ∙ ap (λ xs. drop fields.start (take fields.end xs)) c.as_mut_slice-room.ensures.value ∙ c.self.view_is in (
      more,
      part_length c.read_behind.new.room end c.in-Ok.count c.in-Ok.ensures.within,
      ap (λ room. drop c.settle-start.result.0 (take (end + c.in-Ok.count) room)) (written_over c.read_behind.new.room fields.room.items fields.room.len (omega arith))
          ∙ filled c.args.self.now c.settle-start.new.room c.read_behind.new.room c.settle-start.result.0 end c.in-Ok.count c.settle-start.ensures.places.0 (omega (arith, c.in-Ok.ensures.within)) stood c.in-Ok.ensures.front,
    )

pub returns-in-Ok-clause-kept : goal.returns-in-Ok-clause-kept
unfolding returns-in-Ok-clause-more
returns-in-Ok-clause-kept g c =
    let grown = returns-in-Ok-clause-more g c in
    filled_known _ _ c.args.self.now (take c.in-Ok.count (drop c.settle-start.result.1 c.read_behind.new.room)) _ grown.2 c.in-Ok.ensures.read
