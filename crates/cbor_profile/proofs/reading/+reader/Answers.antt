use Rattle.std.proofs.Common.{◌≡◌, ◌-◌, ◌+◌, true, false, List, [], ◌∷◌, ◌++◌, Option, IfSome, length, refl, sym, ap, subst, ◌∙◌, arith}
use Rattle.std.proofs.lemmas.Result.{err_from_is_err_and}
use Rattle.cbor_profile.specs.declared.item.Item.{Unsigned}
use Rattle.cbor_profile.specs.declared.gathering.Place.{Place}
use Rattle.cbor_profile.specs.Tree.{Tree}
use Rattle.cbor_profile.specs.ItemReading.{item_read, item_at, items_at, open_items_at, pairs_at, open_pairs_at, as_array, as_map}
use Rattle.cbor_profile.specs.ItemTrees.{tree_of, trees, tree_pairs}
use Rattle.cbor_profile.specs.Gathering.{gathered, AllBefore}
use Rattle.cbor_profile.specs.Keys.{has_key}
use Rattle.cbor_profile.proofs.WholeReading.{short_bytes}
use Rattle.cbor_profile.proofs.Inside.{small_read, item_short, value_begun, indefinite_begun, reserved_begun, unsupported_begun, gives_same}
use Rattle.cbor_profile.proofs.Paired.{key_sound, item_sound, same_gathered, put_gathered}
use Rattle.cbor_profile.proofs.Made.{array_made, array_fails, map_made, map_fails}
use Rattle.cbor_profile.proofs.Parts.{value_bytes, value_text, value_array, value_map, value_tag, indefinite_bytes, indefinite_text, indefinite_array, indefinite_map}
use Rattle.cbor_profile.proofs.Rising.{number_sound, next_key_fails, next_again, next_value_fails, next_pair, next_rises, next_sound}
use Rattle.cbor_profile.proofs.Loops.{items_fail, items_go, items_done, open_items_short, open_items_spent, open_items_end, open_items_fail, open_items_go, pairs_fail, pairs_go, pairs_done, open_pairs_short, open_pairs_spent, open_pairs_end, open_pairs_fail, open_pairs_go}
use Rattle.cbor_profile.proofs.reading.+reader.Goals as goal

-- ---- an item

pub read_item-returns-in-Some-clause-value : goal.read_item-returns-in-Some-clause-value
read_item-returns-in-Some-clause-value t c = small_read c.args.levels c.args.end c.args.bytes.now c.in-Some.rest.now c.in-Some.first.now c.in-Some.ensures.cases.0 c.if-first-lt24.true

pub read_item-returns-in-Some-clause-sound : goal.read_item-returns-in-Some-clause-sound
read_item-returns-in-Some-clause-sound t c =
    key_sound c.args.levels c.args.end c.args.bytes.now c.in-Some.rest.now _ (short_bytes c.args.bytes.now (λ i. omega (arith, c.type_inv.bytes i)) (omega (arith, c.requires, c.ranges.end.fits)))
    (read_item-returns-in-Some-clause-value t c)

pub read_item-returns-in_default-clause-sound : goal.read_item-returns-in_default-clause-sound
read_item-returns-in_default-clause-sound t c =
    item_sound c.read_long_item.result c.args.levels c.args.end c.args.bytes.now (short_bytes c.args.bytes.now (λ i. omega (arith, c.type_inv.bytes i)) (omega (arith, c.requires, c.ranges.end.fits))) c.read_long_item.ensures.value

pub read_long_item-returns-in_default-clause-value : goal.read_long_item-returns-in_default-clause-value
read_long_item-returns-in_default-clause-value t c = item_short c.args.levels c.args.end c.args.bytes.now c.in_default.ensures.cases

pub read_long_item-returns-in-Value-clause-value : goal.read_long_item-returns-in-Value-clause-value
read_long_item-returns-in-Value-clause-value t c =
    let begun = value_begun c.args.levels c.args.end c.args.bytes.now c.in-Some.rest.now c.in-Some.first.now c.in-Some.ensures.cases.0 c.in-Value.major c.in-Value.info c.in-Value.ensures in
    gives_same item_read c.read_value.result _ _ (sym begun) c.read_value.ensures.value

pub read_long_item-returns-in-Indefinite-clause-value : goal.read_long_item-returns-in-Indefinite-clause-value
read_long_item-returns-in-Indefinite-clause-value t c =
    let begun = indefinite_begun c.args.levels c.args.end c.args.bytes.now c.in-Some.rest.now c.in-Some.first.now c.in-Some.ensures.cases.0 c.in-Indefinite.major c.in-Indefinite.ensures in
    gives_same item_read c.read_indefinite.result _ _ (sym begun) c.read_indefinite.ensures.value

pub read_long_item-returns-in-Reserved-clause-value : goal.read_long_item-returns-in-Reserved-clause-value
read_long_item-returns-in-Reserved-clause-value t c = reserved_begun c.args.levels c.args.end c.args.bytes.now c.in-Some.rest.now c.in-Some.first.now c.in-Some.ensures.cases.0 c.in-Reserved.ensures

pub read_long_item-returns-in-Unsupported-clause-value : goal.read_long_item-returns-in-Unsupported-clause-value
read_long_item-returns-in-Unsupported-clause-value t c = unsupported_begun c.args.levels c.args.end c.args.bytes.now c.in-Some.rest.now c.in-Some.first.now c.in-Some.ensures.cases.0 c.in-Unsupported.ensures

-- ---- by what it begins with

pub read_value-returns-in-Bytes-clause-value : goal.read_value-returns-in-Bytes-clause-value
read_value-returns-in-Bytes-clause-value t c = gives_same item_read c.read_byte_string.result _ _ (value_bytes c.args.levels c.args.end c.args.at c.args.major c.args.info c.args.bytes.now c.in-Bytes.is) c.read_byte_string.ensures.value

pub read_value-returns-in-Text-clause-value : goal.read_value-returns-in-Text-clause-value
read_value-returns-in-Text-clause-value t c = gives_same item_read c.read_text.result _ _ (value_text c.args.levels c.args.end c.args.at c.args.major c.args.info c.args.bytes.now c.in-Text.is) c.read_text.ensures.value

pub read_value-returns-in-Array-clause-value : goal.read_value-returns-in-Array-clause-value
read_value-returns-in-Array-clause-value t c = gives_same item_read c.read_array.result _ _ (value_array c.args.levels c.args.end c.args.at c.args.major c.args.info c.args.bytes.now c.in-Array.is c.if-levels-gt0.true) c.read_array.ensures.value

pub read_value-returns-in-Map-clause-value : goal.read_value-returns-in-Map-clause-value
read_value-returns-in-Map-clause-value t c = gives_same item_read c.read_map.result _ _ (value_map c.args.levels c.args.end c.args.at c.args.major c.args.info c.args.bytes.now c.in-Map.is c.if-levels-gt0-2.true) c.read_map.ensures.value

pub read_value-returns-in-Tag-clause-value : goal.read_value-returns-in-Tag-clause-value
read_value-returns-in-Tag-clause-value t c = gives_same item_read c.read_tag.result _ _ (value_tag c.args.levels c.args.end c.args.at c.args.major c.args.info c.args.bytes.now c.in-Tag.is c.if-levels-gt0-3.true) c.read_tag.ensures.value

pub read_indefinite-returns-in-Bytes-clause-value : goal.read_indefinite-returns-in-Bytes-clause-value
read_indefinite-returns-in-Bytes-clause-value t c = gives_same item_read c.read_byte_parts.result _ _ (indefinite_bytes c.args.levels c.args.end c.args.at c.args.major c.args.bytes.now c.in-Bytes.is) c.read_byte_parts.ensures.value

pub read_indefinite-returns-in-Text-clause-value : goal.read_indefinite-returns-in-Text-clause-value
read_indefinite-returns-in-Text-clause-value t c = gives_same item_read c.read_text_parts.result _ _ (indefinite_text c.args.levels c.args.end c.args.at c.args.major c.args.bytes.now c.in-Text.is) c.read_text_parts.ensures.value

pub read_indefinite-returns-in-Array-clause-value : goal.read_indefinite-returns-in-Array-clause-value
read_indefinite-returns-in-Array-clause-value t c = gives_same item_read c.read_open_array.result _ _ (indefinite_array c.args.levels c.args.end c.args.at c.args.major c.args.bytes.now c.in-Array.is c.if-levels-gt0.true) c.read_open_array.ensures.value

pub read_indefinite-returns-in-Map-clause-value : goal.read_indefinite-returns-in-Map-clause-value
read_indefinite-returns-in-Map-clause-value t c = gives_same item_read c.read_open_map.result _ _ (indefinite_map c.args.levels c.args.end c.args.at c.args.major c.args.bytes.now c.in-Map.is c.if-levels-gt0-2.true) c.read_open_map.ensures.value

-- ---- items

pub read_items-returns-in_err-item-clause-value : goal.read_items-returns-in_err-item-clause-value
read_items-returns-in_err-item-clause-value t c =
    let p = err_from_is_err_and c.from_residual-in_err-item.result c.from_residual-in_err-item.ensures.1 in
    rw (p.1, p.2) (
    array_fails c.in_err-item.field-0.0 (items_at (item_at c.args.levels c.args.end) c.args.count c.args.bytes.now) (
    items_fail c.in_err-item.field-0.0 (item_at c.args.levels c.args.end) (c.args.count - c.loop.counter) (trees c.loop.items) c.loop.rest.now _ (omega (arith, c.loop-test.true)) c.in_err-item.ensures.value c.loop.invariant.read
    ))

pub read_items-loop-preserved : goal.read_items-loop-preserved
read_items-loop-preserved t c =
    rw (c.push_within.ensures, c.in_ok-items-2.ensures.same) (
    record {
      read =
          items_go (item_at c.args.levels c.args.end) (c.args.count - c.loop.counter) (c.args.count - (c.loop.counter + 1)) (trees c.loop.items) (tree_of c.in_ok-item.item) c.loop.rest.now c.in_ok-item.after.now _
          (omega (arith, c.loop-test.true)) c.in_ok-item.ensures.value c.loop.invariant.read;
      shorter = omega (arith, c.in_ok-item.ensures.shorter, c.loop.invariant.shorter);
    }
    )

pub read_items-returns-clause-value : goal.read_items-returns-clause-value
read_items-returns-clause-value t c =
    array_made (items_at (item_at c.args.levels c.args.end) c.args.count c.args.bytes.now) c.loop.items c.loop.rest.now (
    items_done (item_at c.args.levels c.args.end) (c.args.count - c.loop.counter) (trees c.loop.items) c.loop.rest.now _ (omega (arith, c.loop-test.false)) c.loop.invariant.read
    )

pub read_open_array-returns-in_default-clause-value : goal.read_open_array-returns-in_default-clause-value
read_open_array-returns-in_default-clause-value t c =
    ap as_array (
    open_items_short (item_at c.args.levels c.args.end) (length c.args.bytes.now - c.loop.counter) c.args.end (trees c.loop.items) c.loop.rest.now _ c.in_default.ensures.cases c.loop.invariant.read
    )

pub read_open_array-returns-then-first-clause-value : goal.read_open_array-returns-then-first-clause-value
read_open_array-returns-then-first-clause-value t c =
    array_made (open_items_at (item_at c.args.levels c.args.end) (length c.args.bytes.now) c.args.end c.args.bytes.now) c.loop.items c.in-Some.behind.now (
    open_items_end (item_at c.args.levels c.args.end) (length c.args.bytes.now - c.loop.counter) c.args.end (trees c.loop.items) c.loop.rest.now c.in-Some.behind.now c.in-Some.first.now _
    (omega (arith, c.loop-test.true)) c.in-Some.ensures.cases.0 c.if-first.true c.loop.invariant.read
    )

pub read_open_array-returns-in_err-item-clause-value : goal.read_open_array-returns-in_err-item-clause-value
read_open_array-returns-in_err-item-clause-value t c =
    let p = err_from_is_err_and c.from_residual.result c.from_residual.ensures.1 in
    rw (p.1, p.2) (
    array_fails c.in_err-item.field-0.0 (open_items_at (item_at c.args.levels c.args.end) (length c.args.bytes.now) c.args.end c.args.bytes.now) (
    open_items_fail c.in_err-item.field-0.0 (item_at c.args.levels c.args.end) (length c.args.bytes.now - c.loop.counter) c.args.end (trees c.loop.items) c.loop.rest.now c.in-Some.behind.now c.in-Some.first.now _
    (omega (arith, c.loop-test.true)) c.in-Some.ensures.cases.0 c.if-first.false c.in_err-item.ensures.value c.loop.invariant.read
    ))

pub read_open_array-loop-preserved : goal.read_open_array-loop-preserved
read_open_array-loop-preserved t c =
    rw c.in_ok-push.ensures.ok (
    record {
      read =
          open_items_go (item_at c.args.levels c.args.end) (length c.args.bytes.now - c.loop.counter) (length c.args.bytes.now - (c.loop.counter + 1)) c.args.end (trees c.loop.items) (tree_of c.in_ok-item.item) c.loop.rest.now c.in-Some.behind.now
          c.in_ok-item.after.now c.in-Some.first.now _ (omega (arith, c.loop-test.true)) c.in-Some.ensures.cases.0 c.if-first.false c.in_ok-item.ensures.value c.loop.invariant.read;
      shorter = omega (arith, c.in_ok-item.ensures.shorter, c.loop.invariant.shorter);
    }
    )

pub read_open_array-returns-clause-value : goal.read_open_array-returns-clause-value
read_open_array-returns-clause-value t c =
    ap as_array (
    open_items_spent (item_at c.args.levels c.args.end) (length c.args.bytes.now - c.loop.counter) c.args.end (trees c.loop.items) c.loop.rest.now _ (omega (arith, c.loop-test.false)) c.loop.invariant.read
    -- ---- pairs
    )

pub read_pair-returns-clause-gathered : goal.read_pair-returns-clause-gathered
read_pair-returns-clause-gathered t c =
    let same = same_gathered c.args.pairs.now c.find_place.new.self c.requires.gathered c.in_ok-place.ensures.same c.in_ok-place.ensures.kept in
    let fresh = ap (has_key (tree_of c.in_ok-key.key)) c.in_ok-place.ensures.same ∙ subst (λ (o : Option Place). IfSome o (λ _. has_key (tree_of c.in_ok-key.key) (gathered c.args.pairs.now) ≡ false)) c.in-Some.is c.in_ok-place.ensures.fresh in
    put_gathered c.find_place.new.self c.put.new.self (tree_of c.in_ok-key.key) (tree_of c.in_ok-value.value) same c.in_ok-key.ensures.sound fresh c.in_ok-put.ensures.pairs c.in_ok-put.ensures.kept

pub read_pairs-returns-in_err-value-in-Some-clause-value : goal.read_pairs-returns-in_err-value-in-Some-clause-value
read_pairs-returns-in_err-value-in-Some-clause-value t c =
    let p = err_from_is_err_and c.from_residual-in_err-value-in-Some.result c.from_residual-in_err-value-in-Some.ensures.1 in
    rw (p.1, p.2) (
    map_fails c.in_err-value-in-Some.field-0.0 (pairs_at (item_at c.args.levels c.args.end) c.args.end c.args.count [] c.args.bytes.now) (
    next_value_fails (item_at c.args.levels c.args.end) c.args.end (c.args.count - c.loop-done.done) (tree_pairs c.loop-done.pairs) c.loop-done.rest.now _ c.loop-done.invariant.read c.in_err-value-in-Some.field-0.0
    c.in-Some.after_key.now (tree_of (Unsigned c.in-Some.first.now)) (omega (arith, c.loop-done-test.true)) (small_read c.args.levels c.args.end c.loop-done.rest.now c.in-Some.after_key.now c.in-Some.first.now c.in-Some.ensures.cases.0 c.if-first-lt24.true) (subst (AllBefore (tree_of (Unsigned c.in-Some.first.now))) c.items.ensures (c.comes_last.ensures c.if-comes_last.true)) c.in_err-value-in-Some.ensures.value
    ))

pub read_pairs-loop-done-preserved : goal.read_pairs-loop-done-preserved
read_pairs-loop-done-preserved t c =
    let before = subst (AllBefore (tree_of (Unsigned c.in-Some.first.now))) c.items.ensures (c.comes_last.ensures c.if-comes_last.true) in
    let good = small_read c.args.levels c.args.end c.loop-done.rest.now c.in-Some.after_key.now c.in-Some.first.now c.in-Some.ensures.cases.0 c.if-first-lt24.true in
    let is = c.push_within.ensures ∙ ap (λ (l : List (Tree × Tree)). l ++ (tree_of (Unsigned c.in-Some.first.now), tree_of c.in_ok-value-in-Some.value) ∷ []) c.in_ok-pairs-in-Some.ensures.same in
    record {
      read =
          next_pair (item_at c.args.levels c.args.end) c.args.end (c.args.count - c.loop-done.done) (tree_pairs c.loop-done.pairs) c.loop-done.rest.now _ c.loop-done.invariant.read (c.args.count - (c.loop-done.done + 1))
          (tree_pairs c.push_within.new.self) c.in-Some.after_key.now c.in_ok-value-in-Some.after.now (tree_of (Unsigned c.in-Some.first.now)) (tree_of c.in_ok-value-in-Some.value) (omega (arith, c.loop-done-test.true)) good before
          c.in_ok-value-in-Some.ensures.value is;
      rise = next_rises (tree_pairs c.loop-done.pairs) (tree_pairs c.push_within.new.self) (tree_of (Unsigned c.in-Some.first.now)) (tree_of c.in_ok-value-in-Some.value) before is c.loop-done.invariant.rise;
      sound = next_sound (tree_pairs c.loop-done.pairs) (tree_pairs c.push_within.new.self) (tree_of (Unsigned c.in-Some.first.now)) (tree_of c.in_ok-value-in-Some.value) before is c.loop-done.invariant.sound (number_sound c.in-Some.first.now (omega (arith, c.if-first-lt24.true)));
      shorter = omega (arith, c.in_ok-value-in-Some.ensures.shorter, ap length c.in-Some.ensures.cases.0, c.loop-done.invariant.shorter);
    }

pub read_pairs-returns-in_default-clause-value : goal.read_pairs-returns-in_default-clause-value
read_pairs-returns-in_default-clause-value t c = gives_same item_read c.read_other_pairs.result _ _ (ap as_map c.loop-done.invariant.read) c.read_other_pairs.ensures.value

pub read_pairs-returns-clause-value : goal.read_pairs-returns-clause-value
read_pairs-returns-clause-value t c =
    map_made (pairs_at (item_at c.args.levels c.args.end) c.args.end c.args.count [] c.args.bytes.now) c.loop-done.pairs c.loop-done.rest.now (
    pairs_done (item_at c.args.levels c.args.end) c.args.end (c.args.count - c.loop-done.done) (tree_pairs c.loop-done.pairs) c.loop-done.rest.now _ (omega (arith, c.loop-done-test.false)) c.loop-done.invariant.read
    )

pub read_other_pairs-returns-in_err-key-clause-value : goal.read_other_pairs-returns-in_err-key-clause-value
read_other_pairs-returns-in_err-key-clause-value t c =
    let p = err_from_is_err_and c.from_residual.result c.from_residual.ensures.1 in
    rw (p.1, p.2) (
    map_fails c.in_err-key.field-0.0 (pairs_at (item_at c.args.levels c.args.end) c.args.end c.args.count (tree_pairs c.args.pairs) c.args.bytes.now) (
    next_key_fails (item_at c.args.levels c.args.end) c.args.end (c.args.count - c.loop-done.done) (tree_pairs c.loop-done.pairs) c.loop-done.rest.now _ c.loop-done.invariant.read c.in_err-key.field-0.0 (omega (arith, c.loop-done-test.true)) c.in_err-key.ensures.value
    ))

pub read_other_pairs-returns-in_err-value-in-Less-clause-value : goal.read_other_pairs-returns-in_err-value-in-Less-clause-value
read_other_pairs-returns-in_err-value-in-Less-clause-value t c =
    let p = err_from_is_err_and c.from_residual-in_err-value-in-Less.result c.from_residual-in_err-value-in-Less.ensures.1 in
    rw (p.1, p.2) (
    map_fails c.in_err-value-in-Less.field-0.0 (pairs_at (item_at c.args.levels c.args.end) c.args.end c.args.count (tree_pairs c.args.pairs) c.args.bytes.now) (
    next_value_fails (item_at c.args.levels c.args.end) c.args.end (c.args.count - c.loop-done.done) (tree_pairs c.loop-done.pairs) c.loop-done.rest.now _ c.loop-done.invariant.read c.in_err-value-in-Less.field-0.0
    c.in_ok-key.after_key.now (tree_of c.in_ok-key.key) (omega (arith, c.loop-done-test.true)) c.in_ok-key.ensures.value (subst (AllBefore (tree_of c.in_ok-key.key)) c.items.ensures (c.in-Less.ensures.less refl)) c.in_err-value-in-Less.ensures.value
    ))

pub read_other_pairs-returns-in-Equal-clause-value : goal.read_other_pairs-returns-in-Equal-clause-value
read_other_pairs-returns-in-Equal-clause-value t c =
    ap as_map (
    next_again (item_at c.args.levels c.args.end) c.args.end (c.args.count - c.loop-done.done) (tree_pairs c.loop-done.pairs) c.loop-done.rest.now _ c.loop-done.invariant.read c.in_ok-key.after_key.now
    (tree_of c.in_ok-key.key) (omega (arith, c.loop-done-test.true)) c.in_ok-key.ensures.value (subst (λ l. has_key (tree_of c.in_ok-key.key) l ≡ true) c.items.ensures (c.in-Equal.ensures.equal refl))
    )

pub read_other_pairs-loop-done-preserved : goal.read_other_pairs-loop-done-preserved
read_other_pairs-loop-done-preserved t c =
    let before = subst (AllBefore (tree_of c.in_ok-key.key)) c.items.ensures (c.in-Less.ensures.less refl) in
    record {
      read =
          next_pair (item_at c.args.levels c.args.end) c.args.end (c.args.count - c.loop-done.done) (tree_pairs c.loop-done.pairs) c.loop-done.rest.now _ c.loop-done.invariant.read (c.args.count - (c.loop-done.done + 1))
          (tree_pairs c.push.new.self) c.in_ok-key.after_key.now c.in_ok-value-in-Less.after.now (tree_of c.in_ok-key.key) (tree_of c.in_ok-value-in-Less.value) (omega (arith, c.loop-done-test.true)) c.in_ok-key.ensures.value before
          c.in_ok-value-in-Less.ensures.value c.in_ok-push-in-Less.ensures.ok;
      rise = next_rises (tree_pairs c.loop-done.pairs) (tree_pairs c.push.new.self) (tree_of c.in_ok-key.key) (tree_of c.in_ok-value-in-Less.value) before c.in_ok-push-in-Less.ensures.ok c.loop-done.invariant.rise;
      sound = next_sound (tree_pairs c.loop-done.pairs) (tree_pairs c.push.new.self) (tree_of c.in_ok-key.key) (tree_of c.in_ok-value-in-Less.value) before c.in_ok-push-in-Less.ensures.ok c.loop-done.invariant.sound c.in_ok-key.ensures.sound;
      shorter = omega (arith, c.in_ok-value-in-Less.ensures.shorter, c.in_ok-key.ensures.shorter, c.loop-done.invariant.shorter);
    }

pub read_other_pairs-returns-in-Greater-clause-value : goal.read_other_pairs-returns-in-Greater-clause-value
read_other_pairs-returns-in-Greater-clause-value t c = gives_same item_read c.read_late_pairs.result _ _ (ap as_map c.loop-done.invariant.read) c.read_late_pairs.ensures.value

pub read_other_pairs-returns-clause-value : goal.read_other_pairs-returns-clause-value
read_other_pairs-returns-clause-value t c =
    map_made (pairs_at (item_at c.args.levels c.args.end) c.args.end c.args.count (tree_pairs c.args.pairs) c.args.bytes.now) c.loop-done.pairs c.loop-done.rest.now (
    pairs_done (item_at c.args.levels c.args.end) c.args.end (c.args.count - c.loop-done.done) (tree_pairs c.loop-done.pairs) c.loop-done.rest.now _ (omega (arith, c.loop-done-test.false)) c.loop-done.invariant.read
    )

pub read_late_pairs-returns-in_err-after-clause-value : goal.read_late_pairs-returns-in_err-after-clause-value
read_late_pairs-returns-in_err-after-clause-value t c =
    let p = err_from_is_err_and c.from_residual.result c.from_residual.ensures.1 in
    rw (p.1, p.2) (
    map_fails c.in_err-after.field-0.0 (pairs_at (item_at c.args.levels c.args.end) c.args.end c.args.count (tree_pairs c.args.pairs) c.args.bytes.now) (
    pairs_fail c.in_err-after.field-0.0 (item_at c.args.levels c.args.end) c.args.end (c.args.count - c.loop.counter) (gathered c.loop.pairs) c.loop.rest.now _ (omega (arith, c.loop-test.true)) c.in_err-after.ensures.value
    c.loop.invariant.read
    ))

pub read_late_pairs-loop-preserved : goal.read_late_pairs-loop-preserved
read_late_pairs-loop-preserved t c = record {
  read =
      pairs_go (item_at c.args.levels c.args.end) c.args.end (c.args.count - c.loop.counter) (c.args.count - (c.loop.counter + 1)) (gathered c.loop.pairs) (gathered c.read_pair.new.pairs) c.loop.rest.now c.in_ok-after.after.now _
      (omega (arith, c.loop-test.true)) c.in_ok-after.ensures.value c.loop.invariant.read;
  gathered = c.in_ok-after.ensures.gathered;
  shorter = omega (arith, c.in_ok-after.ensures.shorter, c.loop.invariant.shorter);
}

pub read_late_pairs-returns-clause-value : goal.read_late_pairs-returns-clause-value
read_late_pairs-returns-clause-value t c =
    map_made (pairs_at (item_at c.args.levels c.args.end) c.args.end c.args.count (tree_pairs c.args.pairs) c.args.bytes.now) c.in_ok-into_list.field-0 c.loop.rest.now (
    rw c.in_ok-into_list.ensures (pairs_done (item_at c.args.levels c.args.end) c.args.end (c.args.count - c.loop.counter) (gathered c.loop.pairs) c.loop.rest.now _ (omega (arith, c.loop-test.false)) c.loop.invariant.read)
    )

pub read_open_map-returns-in_default-clause-value : goal.read_open_map-returns-in_default-clause-value
read_open_map-returns-in_default-clause-value t c =
    ap as_map (
    open_pairs_short (item_at c.args.levels c.args.end) (length c.args.bytes.now - c.loop.counter) c.args.end (gathered c.loop.pairs) c.loop.rest.now _ c.in_default.ensures.cases c.loop.invariant.read
    )

pub read_open_map-returns-then-first-clause-value : goal.read_open_map-returns-then-first-clause-value
read_open_map-returns-then-first-clause-value t c =
    map_made (open_pairs_at (item_at c.args.levels c.args.end) (length c.args.bytes.now) c.args.end [] c.args.bytes.now) c.in_ok-into_list.field-0 c.in-Some.behind.now (
    rw c.in_ok-into_list.ensures (
    open_pairs_end (item_at c.args.levels c.args.end) (length c.args.bytes.now - c.loop.counter) c.args.end (gathered c.loop.pairs) c.loop.rest.now c.in-Some.behind.now c.in-Some.first.now _
    (omega (arith, c.loop-test.true)) c.in-Some.ensures.cases.0 c.if-first.true c.loop.invariant.read
    )
    )

pub read_open_map-returns-in_err-after-clause-value : goal.read_open_map-returns-in_err-after-clause-value
read_open_map-returns-in_err-after-clause-value t c =
    let p = err_from_is_err_and c.from_residual-in_err-after.result c.from_residual-in_err-after.ensures.1 in
    rw (p.1, p.2) (
    map_fails c.in_err-after.field-0.0 (open_pairs_at (item_at c.args.levels c.args.end) (length c.args.bytes.now) c.args.end [] c.args.bytes.now) (
    open_pairs_fail c.in_err-after.field-0.0 (item_at c.args.levels c.args.end) (length c.args.bytes.now - c.loop.counter) c.args.end (gathered c.loop.pairs) c.loop.rest.now c.in-Some.behind.now c.in-Some.first.now _
    (omega (arith, c.loop-test.true)) c.in-Some.ensures.cases.0 c.if-first.false c.in_err-after.ensures.value c.loop.invariant.read
    ))

pub read_open_map-loop-preserved : goal.read_open_map-loop-preserved
read_open_map-loop-preserved t c = record {
  read =
      open_pairs_go (item_at c.args.levels c.args.end) (length c.args.bytes.now - c.loop.counter) (length c.args.bytes.now - (c.loop.counter + 1)) c.args.end (gathered c.loop.pairs) (gathered c.read_pair.new.pairs) c.loop.rest.now
      c.in-Some.behind.now c.in_ok-after.after.now c.in-Some.first.now _ (omega (arith, c.loop-test.true)) c.in-Some.ensures.cases.0 c.if-first.false c.in_ok-after.ensures.value c.loop.invariant.read;
  gathered = c.in_ok-after.ensures.gathered;
  shorter = omega (arith, c.in_ok-after.ensures.shorter, c.loop.invariant.shorter);
}

pub read_open_map-returns-clause-value : goal.read_open_map-returns-clause-value
read_open_map-returns-clause-value t c =
    ap as_map (
    open_pairs_spent (item_at c.args.levels c.args.end) (length c.args.bytes.now - c.loop.counter) c.args.end (gathered c.loop.pairs) c.loop.rest.now _ (omega (arith, c.loop-test.false)) c.loop.invariant.read
    )
