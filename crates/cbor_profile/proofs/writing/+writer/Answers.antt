use Rattle.cbor_profile.specs.ItemTrees.{tree_of}
use Rattle.cbor_profile.proofs.Written.{on_ok_then, array_written, map_written, bytes_written, text_written, tag_written, items_on, pairs_on}
use Rattle.cbor_profile.proofs.writing.+writer.Goals as goal

pub write_array-returns : goal.write_array-returns
write_array-returns t c =
    on_ok_then c.write_items.result c.write_items.ensures
    (array_written c.args.out.now.items c.write_head.new.out.items c.write_items.new.out.items c.as_slice-items.result.now c.args.list.now c.as_slice-items.ensures.value c.in_ok-write_head.ensures)

pub write_map-returns : goal.write_map-returns
write_map-returns t c =
    on_ok_then c.write_pairs.result c.write_pairs.ensures
    (map_written c.args.out.now.items c.write_head.new.out.items c.write_pairs.new.out.items c.as_slice-pairs.result.now c.args.list.now c.as_slice-pairs.ensures.value c.in_ok-write_head.ensures)

pub write_item-returns-in-Bytes : goal.write_item-returns-in-Bytes
write_item-returns-in-Bytes t c = bytes_written c.write_string.result c.args.out.now.items c.write_string.new.out.items c.args.item.now c.items.result.now c.in-Bytes.bytes c.in-Bytes.is c.items.ensures c.write_string.ensures

pub write_item-returns-in-Text : goal.write_item-returns-in-Text
write_item-returns-in-Text t c =
    text_written c.write_string-in-Text.result c.args.out.now.items c.write_string-in-Text.new.out.items c.args.item.now c.bytes.result.now c.in-Text.text c.in-Text.is c.bytes.ensures.value c.write_string-in-Text.ensures

pub write_tag-returns : goal.write_tag-returns
write_tag-returns t c =
    on_ok_then c.write_item.result c.write_item.ensures
    (tag_written c.args.out.now.items c.write_head.new.out.items c.write_item.new.out.items c.args.number (tree_of c.args.inner.now) c.in_ok-write_head.ensures)

pub write_items-loop-item-preserved : goal.write_items-loop-item-preserved
write_items-loop-item-preserved t c =
    items_on c.loop-item.out.items c.write_item.new.out.items c.args.items.now c.loop-item.item-index c.item-item.result _ c.loop-item-test.true c.item-item.is c.in_ok-write_item.ensures c.loop-item.invariant

pub write_pairs-loop-key-preserved : goal.write_pairs-loop-key-preserved
write_pairs-loop-key-preserved t c =
    pairs_on c.loop-key.out.items c.write_item.new.out.items c.write_item-in-loop-key.new.out.items c.args.pairs.now c.loop-key.key-index c.loop-key-item.result _ c.loop-key-test.true c.loop-key-item.is
    c.in_ok-write_item.ensures c.in_ok-write_item-2.ensures c.loop-key.invariant
