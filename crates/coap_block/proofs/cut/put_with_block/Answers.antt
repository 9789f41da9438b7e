use Rattle.std.proofs.Common.{◌∙◌}
use Rattle.coap_block.proofs.Cuts.{front_are, back_are, front_fits, block_rises, block_fits, back_fits, with_block_written}
use Rattle.coap_block.specs.Option.{block_number}
use Rattle.coap_block.specs.declared.spelling.Which.TheVariants as which
use Rattle.coap_block.proofs.cut.put_with_block.Goals as goal

pub put_options-last-requires-clause-are : goal.put_options-last-requires-clause-are
put_options-last-requires-clause-are c = front_are c.args.message.now.options _ which.UpToBlock c.options-options.ensures.value c.options-options.ensures.are

pub put_options-last-requires-clause-room : goal.put_options-last-requires-clause-room
put_options-last-requires-clause-room c = front_fits _ _ c.args.message.now.options _ c.options-options.ensures.value c.requires.room

pub put_option-requires-clause-rises : goal.put_option-requires-clause-rises
put_option-requires-clause-rises c = block_rises c.options-options.result _ c.put_options-last.ensures.last

pub put_option-requires-clause-room : goal.put_option-requires-clause-room
put_option-requires-clause-room c =
    block_fits c.args.room.now _ c.args.message.now.options c.options-options.result c.put_options-last.result (block_number c.args.block.now) _ c.options-options.ensures.value c.put_options-last.ensures.written (c.bytes.ensures ∙ c.value-value.ensures) c.requires.room

pub put_options-requires-clause-are : goal.put_options-requires-clause-are
put_options-requires-clause-are c = back_are c.args.message.now.options _ c.options-options-2.ensures.value c.options-options-2.ensures.are

pub put_options-requires-clause-room : goal.put_options-requires-clause-room
put_options-requires-clause-room c =
    back_fits c.args.room.now c.put_options-last.new.room _ c.args.message.now.options c.options-options.result c.options-options-2.result c.put_options-last.result (block_number c.args.block.now) _ c.options-options.ensures.value c.options-options-2.ensures.value
    c.put_options-last.ensures.written (c.bytes.ensures ∙ c.value-value.ensures) c.put_option.ensures c.requires.room

pub returns : goal.returns
returns c =
    with_block_written c.args.room.now _ _ _ c.args.message.now.options c.options-options.result c.options-options-2.result _ _ c.args.block.now c.options-options.ensures.value c.options-options-2.ensures.value
    c.put_options-last.ensures.written c.put_options-last.ensures.last (c.bytes.ensures ∙ c.value-value.ensures) c.put_option.ensures c.put_options.ensures.written
