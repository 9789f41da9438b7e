-- The record of an entry in the first format, upgraded, is that in the second.
use Rattle.std.proofs.Common.{◌≡◌, ℕ, ◌+◌, ◌/◌, ◌%◌, ◌≤◌, Bool, true, false, nat_le, List, [], ◌∷◌, ◌++◌, length, take, drop, IsTrue, refl, sym, ap, subst, ◌∙◌, arith, append_assoc}
use Rattle.std.specs.Prelude.{slice_index_or}
use Rattle.std.specs.Int.{w16, w32, w64, to_be_bytes, cast_unsigned}
use Rattle.std.proofs.lemmas.Bool.Decides.{nat_tests}
use Rattle.std.proofs.lemmas.List.{length-append, get_or-append-add, get_or_at, take_at, drop_at}
use Rattle.slot_store.specs.declared.format.Format.{Format}
use Rattle.slot_store.specs.declared.format.Format.TheVariants.{One, Two}
use Rattle.slot_store.specs.Formats.{sealed, change_place, triggered_at, triggered, upgraded}
use Rattle.dots_history.specs.Bounds.{within_bounds}
use Rattle.dots_history.specs.declared.change.Change.{Change}
use Rattle.dots_history.specs.declared.change.Change.TheVariants as change
use Rattle.dots_history.specs.declared.entry.Entry.{Entry}
use Rattle.dots_history.specs.declared.put.Put.{Put}
use Rattle.slot_journal.specs.Values.{IsEntry}
use Rattle.slot_journal.specs.Layout.{byte, counted, listed, flag_number, asked_bytes, target_bytes, put_bytes, put_number, change_number, change_fields, change_bytes, key_bytes, reply_bytes, body_bytes, record_bytes}
use Rattle.slot_journal.proofs.Writings.{entry_sizes}
use Rattle.slot_journal.proofs.Lengths.{joined_most, fields_most}

-- ---- the place of the change's number

-- the fields up to the cuid
abbrev head_bytes : Entry → List ℕ
head_bytes e = to_be_bytes w64 e.time ++ (to_be_bytes w32 e.peer ++ (to_be_bytes w16 e.domain ++ counted e.cuid))

-- the fields before the change
abbrev front_bytes : Entry → List ℕ
front_bytes e = head_bytes e ++ (key_bytes e.key ++ reply_bytes e.reply)

front_length : (e : Entry) → length (front_bytes e) ≡ length e.cuid + 20 + length e.reply
front_length e = omega (arith, length-append (head_bytes e) (key_bytes e.key ++ reply_bytes e.reply))

body_is : (format : Format) (e : Entry) → body_bytes format e ≡ head_bytes e ++ (key_bytes e.key ++ (reply_bytes e.reply ++ change_bytes format e.change))
unfolding body_bytes
body_is format e = refl

body_parts : (format : Format) (e : Entry) → body_bytes format e ≡ front_bytes e ++ change_bytes format e.change
body_parts format e =
    body_is format e
    ∙ ap (λ (l : List ℕ). head_bytes e ++ l) (sym (append_assoc (key_bytes e.key) (reply_bytes e.reply) (change_bytes format e.change)))
    ∙ sym (append_assoc (head_bytes e) (key_bytes e.key ++ reply_bytes e.reply) (change_bytes format e.change))

tail_item : (format : Format) (e : Entry) (n m : ℕ) → m ≡ length (head_bytes e) + n → slice_index_or (body_bytes format e) m 0 ≡ slice_index_or (key_bytes e.key ++ (reply_bytes e.reply ++ change_bytes format e.change)) n 0
tail_item format e n m is =
    ap (λ (l : List ℕ). slice_index_or l m 0) (body_is format e)
    ∙ ap (λ (i : ℕ). slice_index_or (head_bytes e ++ (key_bytes e.key ++ (reply_bytes e.reply ++ change_bytes format e.change))) i 0) is
    ∙ get_or-append-add (head_bytes e) (key_bytes e.key ++ (reply_bytes e.reply ++ change_bytes format e.change)) n 0

cuid_item : (format : Format) (e : Entry) → slice_index_or (body_bytes format e) 14 0 ≡ length e.cuid
cuid_item format e = ap (λ (l : List ℕ). slice_index_or l 14 0) (body_is format e)

place_is : (format : Format) (e : Entry) → length e.reply ≤ 64 → change_place (body_bytes format e) ≡ length (front_bytes e)
place_is format e few =
    let cuid = cuid_item format e in
    let high : slice_index_or (body_bytes format e) (slice_index_or (body_bytes format e) 14 0 + 18) 0 ≡ length e.reply / 256 % 256 = tail_item format e 3 _ (omega (arith, cuid)) in
    let low : slice_index_or (body_bytes format e) (slice_index_or (body_bytes format e) 14 0 + 19) 0 ≡ length e.reply % 256 = tail_item format e 4 _ (omega (arith, cuid)) in
    omega (arith, cuid, high, low, few, front_length e)

-- ---- the change

put_more : (put : Put) → put_bytes Two put ≡ put_bytes One put ++ byte (flag_number put.trigger)
unfolding put_bytes
put_more put =
    let last = to_be_bytes w64 put.start in
    let granted = to_be_bytes w32 (cast_unsigned w32 put.granted) in
    let targets = listed target_bytes put.targets in
    let asked = asked_bytes put.asked in
    let flag = byte (flag_number put.trigger) in
    ap (λ (l : List ℕ). to_be_bytes w32 put.mid ++ l)
    (ap (λ (l : List ℕ). asked ++ l) (sym (append_assoc targets (granted ++ (last ++ [])) flag)) ∙ sym (append_assoc asked (targets ++ (granted ++ (last ++ []))) flag))

abbrev Becomes : List ℕ → Change → Type 0
Becomes front c = triggered_at (length front) (change_number One c) (front ++ change_bytes One c) ≡ front ++ change_bytes Two c

-- of a mitigation, where its trigger is this
abbrev PutBecomes : List ℕ → Put → Bool → Type 0
PutBecomes front put trigger = triggered_at (length front) (put_number One trigger) (front ++ (put_number One trigger ∷ put_bytes One put)) ≡ front ++ (1 ∷ put_bytes Two put)

put_becomes : (front : List ℕ) (put : Put) (trigger : Bool) → put.trigger ≡ trigger → Becomes front (change.Put put)
unfolding change_fields
put_becomes front put true is =
    let more : put_bytes Two put ≡ put_bytes One put ++ (1 ∷ []) = put_more put ∙ ap (λ (t : Bool). put_bytes One put ++ byte (flag_number t)) is in
    subst (PutBecomes front put) (sym is) (append_assoc front (1 ∷ put_bytes One put) (1 ∷ []) ∙ ap (λ (l : List ℕ). front ++ (1 ∷ l)) (sym more))
put_becomes front put false is =
    let more : put_bytes Two put ≡ put_bytes One put ++ (0 ∷ []) = put_more put ∙ ap (λ (t : Bool). put_bytes One put ++ byte (flag_number t)) is in
    let before : take (length front) (front ++ (13 ∷ put_bytes One put)) ≡ front = take_at front (13 ∷ put_bytes One put) (length front) refl in
    let behind : drop (length front + 1) (front ++ (13 ∷ put_bytes One put)) ≡ put_bytes One put =
    ap (drop (length front + 1)) (sym (append_assoc front (13 ∷ []) (put_bytes One put))) ∙ drop_at (front ++ (13 ∷ [])) (put_bytes One put) (length front + 1) (length-append front (13 ∷ [])) in
    subst (PutBecomes front put) (sym is) (rw (before, behind) (append_assoc front (1 ∷ put_bytes One put) (0 ∷ []) ∙ ap (λ (l : List ℕ). front ++ (1 ∷ l)) (sym more)))

becomes : (front : List ℕ) (c : Change) → Becomes front c
unfolding change_fields
becomes front (change.Put put) = put_becomes front put put.trigger refl
becomes front (change.Withdraw mid) = refl
becomes front (change.SetAlias alias) = refl
becomes front (change.DropAlias name) = refl
becomes front (change.SetAcl acl) = refl
becomes front (change.DropAcl name) = refl
becomes front change.Register = refl
becomes front change.Deregister = refl
becomes front (change.SetConfig sid config) = refl
becomes front change.ClearConfig = refl
becomes front change.Lost = refl
becomes front change.Back = refl

-- ---- the whole

triggered_is : (e : Entry) → length e.reply ≤ 64 → triggered (body_bytes One e) ≡ body_bytes Two e
unfolding triggered
triggered_is e few =
    let place = place_is One e few in
    let number : slice_index_or (body_bytes One e) (length (front_bytes e)) 0 ≡ change_number One e.change =
    ap (λ (l : List ℕ). slice_index_or l (length (front_bytes e)) 0) (body_parts One e) ∙ get_or_at (front_bytes e) (change_number One e.change) (change_fields One e.change) 0 (length (front_bytes e)) refl in
    ap (λ (at : ℕ). triggered_at at (slice_index_or (body_bytes One e) at 0) (body_bytes One e)) place
    ∙ ap (λ (n : ℕ). triggered_at (length (front_bytes e)) n (body_bytes One e)) number
    ∙ ap (triggered_at (length (front_bytes e)) (change_number One e.change)) (body_parts One e)
    ∙ becomes (front_bytes e) e.change
    ∙ sym (body_parts Two e)

body_short : (e : Entry) → IsEntry e → IsTrue (within_bounds e) → length (body_bytes One e) ≤ 7641
body_short e is within =
    let sizes = entry_sizes e within in
    let front : length (front_bytes e) ≤ 148 = omega (arith, front_length e, sizes.0, sizes.1.0) in
    let fields : length (change_bytes One e.change) ≤ 7493 = omega (arith, fields_most e.change is.change sizes.1.1) in
    omega (arith, ap (length {A = ℕ}) (body_parts One e), joined_most (front_bytes e) (change_bytes One e.change) 148 7493 front fields)

pub upgraded_is : (e : Entry) → IsEntry e → IsTrue (within_bounds e) → upgraded (record_bytes One e) ≡ record_bytes Two e
unfolding upgraded record_bytes
upgraded_is e is within =
    let short = body_short e is within in
    let fits : nat_le (length (body_bytes One e)) 8180 ≡ true = grind (arith, nat_tests) in
    rw fits (ap sealed (triggered_is e (entry_sizes e within).1.0))
