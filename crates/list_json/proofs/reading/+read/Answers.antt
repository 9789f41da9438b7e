use Rattle.std.proofs.Common.{◌≡◌, ◌-◌, ◌<◌, [], ◌∷◌, length, Some, None, string_bytes, sym, ap, ◌∙◌, arith, rules}
use Rattle.json.specs.Token.{Token}
use Rattle.json.specs.Json.{parse_map, after_end_array, read_key, items, members, value}
use Rattle.json.specs.Reads.{token_of}
use Rattle.json.proofs.Grammar.{value_is, read_key-shorter}
use Rattle.serde_json.specs.Data.{array, object, put}
use Rattle.serde_json.specs.Read.{of_json, of_items, of_members, converted}
use Rattle.serde_json.specs.View.{view, members_view}
use Rattle.serde_json.specs.declared.value.Value.{the_lemmas}
use Rattle.serde_json.proofs.Views.{view-Array, view-Object}
use Rattle.list_json.proofs.Turns.{text_read, number_read, number_refused, none_deeper, array_begun, object_begun, item_read, item_refused, items_over, member_read, member_refused, key_refused, members_over, items_before, items_before-no_items, one_more_item, none_before}
use Rattle.list_json.proofs.reading.+read.Goals as goal

pub read-returns-in_default-clause-err : goal.read-returns-in_default-clause-err
read-returns-in_default-clause-err t c refused =
    let empty : c.args.reader.now ≡ [] = grind arith in
    ap (converted of_json) (ap (value c.args.depth) empty ∙ value_is c.args.depth [])

pub read-returns-in-String-clause-ok : goal.read-returns-in-String-clause-ok
read-returns-in-String-clause-ok t c =
    let is : c.args.reader.now ≡ Token.string c.in-String.text.now ∷ c.next.new.self = grind arith in
    rw is (text_read c.args.depth c.in-String.text.now c.next.new.self c.text_value.result c.text_value.ensures.ok)

pub read-returns-in-Number-clause-ok : goal.read-returns-in-Number-clause-ok
read-returns-in-Number-clause-ok t c =
    let is : c.args.reader.now ≡ Token.number c.in-Number.text.now ∷ c.next.new.self = grind arith in
    rw is (number_read c.args.depth c.in-Number.text.now c.next.new.self c.number_value.result c.number_value.ensures.ok)

pub read-returns-in-Number-clause-err : goal.read-returns-in-Number-clause-err
read-returns-in-Number-clause-err t c refused =
    let is : c.args.reader.now ≡ Token.number c.in-Number.text.now ∷ c.next.new.self = grind arith in
    rw is (number_refused c.args.depth c.in-Number.text.now c.next.new.self (c.number_value.ensures.err refused))

pub read-returns-in-Bool-clause-ok : goal.read-returns-in-Bool-clause-ok
read-returns-in-Bool-clause-ok t c =
    let is : c.args.reader.now ≡ Token.boolean c.in-Bool.b ∷ c.next.new.self = grind arith in
    rw (is, value_is c.args.depth (Token.boolean c.in-Bool.b ∷ c.next.new.self)) (search (rules, the_lemmas))

pub read-returns-in-Null-clause-ok : goal.read-returns-in-Null-clause-ok
read-returns-in-Null-clause-ok t c =
    let is : c.args.reader.now ≡ Token.null ∷ c.next.new.self = grind arith in
    rw (is, value_is c.args.depth (Token.null ∷ c.next.new.self)) (search (rules, the_lemmas))

pub read-returns-in-EndObject-clause-err : goal.read-returns-in-EndObject-clause-err
read-returns-in-EndObject-clause-err t c refused =
    let first : c.args.reader.now ≡ token_of c.in-Some.token ∷ c.next.new.self = grind arith in
    let none : value c.args.depth c.args.reader.now ≡ None = rw (value_is c.args.depth c.args.reader.now, first) (grind arith) in
    ap (converted of_json) none

pub read_array-returns-then-depth-eq0-clause-err : goal.read_array-returns-then-depth-eq0-clause-err
read_array-returns-then-depth-eq0-clause-err t c never = (none_deeper c.args.depth c.args.reader.now (omega arith)).0

pub read_array-items-init : goal.read_array-items-init
read_array-items-init t c =
    let all = converted of_items (items (value (c.args.depth - 1)) (length c.args.reader.now) c.args.reader.now) in
    (length c.args.reader.now, omega arith, none_before all ∙ ap (λ vs. parse_map (items_before vs) all) (sym c.new-found.ensures.items), omega arith)

pub read_array-returns-in_err-item-clause-err : goal.read_array-returns-in_err-item-clause-err
read_array-returns-in_err-item-clause-err t c refused =
    let p = value (c.args.depth - 1) in
    let l = c.items in
    let n = l.invariant.0 in
    let going : (after_end_array l.reader ≡ None) × (c.take_end_array.new.self ≡ l.reader) = grind arith in
    array_begun c.args.depth c.args.reader.now (omega arith)
    ∙ ap (parse_map array) (l.invariant.2 ∙ ap (parse_map (items_before l.found.items)) (item_refused p n l.reader going.0 (rw (← going.1) (c.read.ensures.err (grind arith)))))

pub read_array-items-preserved : goal.read_array-items-preserved
read_array-items-preserved t c =
    let p = value (c.args.depth - 1) in
    let l = c.items in
    let n = l.invariant.0 in
    let going : (after_end_array l.reader ≡ None) × (c.take_end_array.new.self ≡ l.reader) = grind arith in
    let done = c.in_ok-item.ensures in
    let v = c.in_ok-item.item in
    let r = c.read.new.reader in
    let less : length r < length l.reader = rw (← going.1) done.shorter in
    let turn = item_read p n l.reader r (view v) (omega (arith, l.invariant.1)) going.0 (rw (← going.1) done.ok) in (
      n - 1,
      omega (arith, l.invariant.1),
      l.invariant.2 ∙ ap (parse_map (items_before l.found.items)) turn ∙ one_more_item l.found.items v _
          ∙ ap (λ vs. parse_map (items_before vs) (converted of_items (items p (n - 1) r))) (sym c.in_ok-push.ensures.items),
      omega (arith, l.invariant.3),
    )

pub read_array-returns-clause-ok : goal.read_array-returns-clause-ok
read_array-returns-clause-ok t c =
    let p = value (c.args.depth - 1) in
    let l = c.items in
    let n = l.invariant.0 in
    let r = c.take_end_array.new.self in
    array_begun c.args.depth c.args.reader.now (omega arith)
    ∙ ap (parse_map array) (l.invariant.2 ∙ ap (parse_map (items_before l.found.items)) (items_over p n l.reader r l.invariant.1 (grind arith)) ∙ ap (λ ds. Some (ds, r)) (items_before-no_items l.found.items))
    ∙ ap (λ d. Some (d, r)) (sym (view-Array l.found))

pub read_object-returns-then-depth-eq0-clause-err : goal.read_object-returns-then-depth-eq0-clause-err
read_object-returns-then-depth-eq0-clause-err t c never = (none_deeper c.args.depth c.args.reader.now (omega arith)).1

pub read_object-members-init : goal.read_object-members-init
read_object-members-init t c =
    let all = members (value (c.args.depth - 1)) (length c.args.reader.now) c.args.reader.now in
    (length c.args.reader.now, omega arith, ap (λ es. converted (λ ms. of_members ms (members_view es)) all) (sym c.new-found.ensures.empty), omega arith)

pub read_object-returns-in_err-name-clause-err : goal.read_object-returns-in_err-name-clause-err
read_object-returns-in_err-name-clause-err t c refused =
    let p = value (c.args.depth - 1) in
    let l = c.members in
    let n = l.invariant.0 in
    let old = members_view l.found.entries in
    object_begun c.args.depth c.args.reader.now (omega arith) ∙ ap (parse_map object) (l.invariant.2 ∙ key_refused p old n l.reader c.in_err-name.ensures.value)

pub read_object-returns-in_err-member-clause-err : goal.read_object-returns-in_err-member-clause-err
read_object-returns-in_err-member-clause-err t c refused =
    let p = value (c.args.depth - 1) in
    let l = c.members in
    let n = l.invariant.0 in
    let old = members_view l.found.entries in
    let k = c.in-Some.name.now in
    let s = c.next_key.new.self in
    let named : read_key l.reader ≡ Some (Some k, s) = grind arith in
    object_begun c.args.depth c.args.reader.now (omega arith)
    ∙ ap (parse_map object) (l.invariant.2 ∙ member_refused p old n k l.reader s named (c.read.ensures.err (grind arith)))

pub read_object-members-preserved : goal.read_object-members-preserved
read_object-members-preserved t c =
    let p = value (c.args.depth - 1) in
    let l = c.members in
    let n = l.invariant.0 in
    let old = members_view l.found.entries in
    let k = c.in-Some.name.now in
    let s = c.next_key.new.self in
    let named : read_key l.reader ≡ Some (Some k, s) = grind arith in
    let done = c.in_ok-member.ensures in
    let v = c.in_ok-member.member in
    let r = c.read.new.reader in
    let less = read_key-shorter l.reader (Some k) s named in
    let lesser = done.shorter in
    let copied : string_bytes c.in_ok-key.key ≡ k = search rules in
    let inserted : members_view c.put.new.found.entries ≡ put k (view v) old = c.in_ok-put.ensures.ok ∙ ap (λ name. put name (view v) old) copied in (
      n - 1,
      omega (arith, l.invariant.1),
      l.invariant.2 ∙ member_read p old n k l.reader s r (view v) (omega (arith, l.invariant.1)) named done.ok
          ∙ ap (λ found. converted (λ ms. of_members ms found) (members p (n - 1) r)) (sym inserted),
      omega (arith, l.invariant.3),
    )

pub read_object-returns-clause-ok : goal.read_object-returns-clause-ok
read_object-returns-clause-ok t c =
    let p = value (c.args.depth - 1) in
    let l = c.members in
    let n = l.invariant.0 in
    let old = members_view l.found.entries in
    object_begun c.args.depth c.args.reader.now (omega arith)
    ∙ ap (parse_map object) (l.invariant.2 ∙ members_over p old n l.reader c.next_key.new.self l.invariant.1 (grind arith))
    ∙ ap (λ d. Some (d, c.next_key.new.self)) (sym (view-Object l.found))
