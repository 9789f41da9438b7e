-- A reply is written part by part.
use Rattle.std.proofs.Common.{inl, inr, ◌≡◌, ℕ, ◌+◌, ◌*◌, ◌≤◌, List, [], ◌∷◌, ◌++◌, length, sym, ap, subst, ◌∙◌, append_assoc, length-append, arith}
use Rattle.std.proofs.lemmas.Bool.{cases_Bool}
use Rattle.std.specs.Prelude.{◌==◌, nat_lt}
use Rattle.coap_message.specs.Message.{CoapOption, CoapMessage, AreOptions, option_bytes, options_bytes, last_number, payload_bytes, spelling}
use Rattle.coap_block.specs.declared.block.BlockOption.{BlockOption}
use Rattle.coap_block.specs.declared.spelling.Which.{Which}
use Rattle.coap_block.specs.declared.spelling.Which.TheVariants as which
use Rattle.coap_block.specs.Option.{shortest, block_number}
use Rattle.coap_block.specs.Writing.{Written}
use Rattle.coap_block.specs.Spelling.{among, head_of}
use Rattle.coap_block.specs.Blocks.{with_block, head_size}
use Rattle.coap_block.proofs.Sizes.{options_append, parts_size, no_longer, block_option_size, last_front, behind_are, among_are}

abbrev pub put : Written → List ℕ → Written
put room bytes = record room { filled = room.filled ++ bytes }

pub put_size : (old new : Written) (bytes : List ℕ) → new ≡ put old bytes → (length new.filled ≡ length old.filled + length bytes) × (new.most ≡ old.most)
put_size old new bytes is = (ap (λ room. length room.filled) is ∙ length-append old.filled bytes, ap (λ room. room.most) is)

pub clear_size : (old new : Written) → new ≡ record old { filled = [] } → (length new.filled ≡ 0) × (new.most ≡ old.most)
clear_size old new is = (ap (λ room. length room.filled) is, ap (λ room. room.most) is)

pub put_three : (old one two three : Written) (a b c : List ℕ) → one ≡ put old a → two ≡ put one b → three ≡ put two c → three ≡ put old (a ++ b ++ c)
put_three old one two three a b c e f g =
    g ∙ ap (λ room. put room c) (f ∙ ap (λ room. put room b) e)
    ∙ ap (λ filled. record { filled = filled; most = old.most }) (append_assoc (old.filled ++ a) b c ∙ append_assoc old.filled a (b ++ c) ∙ ap (λ bytes. old.filled ++ bytes) (sym (append_assoc a b c)))

pub shortest_size : (n : ℕ) → length (shortest n) ≤ 3
shortest_size n = elim (cases_Bool (n == 0)) [
  | inl e ↦ rw e (omega arith)
  | inr e ↦ elim (cases_Bool (nat_lt n 256)) [
    | inl f ↦ rw (e, f) (omega arith)
    | inr f ↦ elim (cases_Bool (nat_lt n 65536)) [ inl h ↦ rw (e, f, h) (omega arith) | inr h ↦ rw (e, f, h) (omega arith) ]
  ]
]

with_block_bytes : (os : List CoapOption) (block : BlockOption)
    → options_bytes 0 (with_block os block)
    ≡ options_bytes 0 (among which.UpToBlock os) ++ option_bytes (last_number 0 (among which.UpToBlock os)) (record { number = 23; value = shortest (block_number block) }) ++ options_bytes 23 (among which.BehindBlock os)
with_block_bytes os block =
    let up = among which.UpToBlock os in
    let o : CoapOption = record { number = 23; value = shortest (block_number block) } in
    options_append 0 up (o ∷ among which.BehindBlock os) ∙ sym (append_assoc (options_bytes 0 up) (option_bytes (last_number 0 up) o) (options_bytes 23 (among which.BehindBlock os)))

-- ---- the options with a Block2 among them

pub front_are : (os options : List CoapOption) (kind : Which) → options ≡ os → AreOptions 0 os → AreOptions 0 (among kind options)
front_are os options kind is are = subst (λ all. AreOptions 0 (among kind all)) (sym is) (among_are kind 0 0 os (omega arith) are)

pub back_are : (os options : List CoapOption) → options ≡ os → AreOptions 0 os → AreOptions 23 (among which.BehindBlock options)
back_are os options is are = subst (λ all. AreOptions 23 (among which.BehindBlock all)) (sym is) (behind_are 0 os are)

pub front_fits : (filled most : ℕ) (os options : List CoapOption) → options ≡ os → filled + 3 * length (options_bytes 0 os) + 6 ≤ most → filled + length (options_bytes 0 (among which.UpToBlock options)) ≤ most
front_fits filled most os options is room = subst (λ all. filled + length (options_bytes 0 (among which.UpToBlock all)) ≤ most) (sym is) (omega (arith, parts_size 0 23 0 os, room))

pub block_rises : (options : List CoapOption) (last : ℕ) → last ≡ last_number 0 (among which.UpToBlock options) → last ≤ 23
block_rises options last is = subst (λ n. n ≤ 23) (sym is) (last_front 0 options (omega arith))

pub block_fits : (old one : Written) (os options : List CoapOption) (last n : ℕ) (value : List ℕ) → options ≡ os → one ≡ put old (options_bytes 0 (among which.UpToBlock options)) → value ≡ shortest n
    → length old.filled + 3 * length (options_bytes 0 os) + 6 ≤ old.most → length one.filled + length (option_bytes last (record { number = 23; value = value })) ≤ one.most
block_fits old one os options last n value is one_is value_is room =
    let same : length (options_bytes 0 (among which.UpToBlock options)) ≡ length (options_bytes 0 (among which.UpToBlock os)) = ap (λ all. length (options_bytes 0 (among which.UpToBlock all))) is in
    let short : length value ≤ 3 = subst (λ bytes. length bytes ≤ 3) (sym value_is) (shortest_size n) in
    let filled : length one.filled ≡ length old.filled + length (options_bytes 0 (among which.UpToBlock options)) = ap (λ room. length room.filled) one_is ∙ length-append old.filled (options_bytes 0 (among which.UpToBlock options)) in
    let most : one.most ≡ old.most = ap (λ room. room.most) one_is in
    omega (arith, parts_size 0 23 0 os, room, same, filled, most, block_option_size last value short)

pub back_fits : (old one two : Written) (os options others : List CoapOption) (last n : ℕ) (value : List ℕ) → options ≡ os → others ≡ os → one ≡ put old (options_bytes 0 (among which.UpToBlock options)) → value ≡ shortest n
    → two ≡ put one (option_bytes last (record { number = 23; value = value }))
    → length old.filled + 3 * length (options_bytes 0 os) + 6 ≤ old.most → length two.filled + length (options_bytes 23 (among which.BehindBlock others)) ≤ two.most
back_fits old one two os options others last n value is others_are one_is value_is two_is room =
    let same : length (options_bytes 0 (among which.UpToBlock options)) ≡ length (options_bytes 0 (among which.UpToBlock os)) = ap (λ all. length (options_bytes 0 (among which.UpToBlock all))) is in
    let back : length (options_bytes 23 (among which.BehindBlock others)) ≡ length (options_bytes 23 (among which.BehindBlock os)) = ap (λ all. length (options_bytes 23 (among which.BehindBlock all))) others_are in
    let short : length value ≤ 3 = subst (λ bytes. length bytes ≤ 3) (sym value_is) (shortest_size n) in
    let filled : length one.filled ≡ length old.filled + length (options_bytes 0 (among which.UpToBlock options)) = ap (λ room. length room.filled) one_is ∙ length-append old.filled (options_bytes 0 (among which.UpToBlock options)) in
    let more : length two.filled ≡ length one.filled + length (option_bytes last (record { number = 23; value = value })) = ap (λ room. length room.filled) two_is ∙ length-append one.filled (option_bytes last (record { number = 23; value = value })) in
    let most : two.most ≡ old.most = ap (λ room. room.most) two_is ∙ ap (λ room. room.most) one_is in
    omega (arith, parts_size 0 23 0 os, room, same, back, filled, more, most, block_option_size last value short)

pub with_block_written : (old one two three : Written) (os options others : List CoapOption) (last : ℕ) (value : List ℕ) (block : BlockOption) → options ≡ os → others ≡ os
    → one ≡ put old (options_bytes 0 (among which.UpToBlock options)) → last ≡ last_number 0 (among which.UpToBlock options) → value ≡ shortest (block_number block)
    → two ≡ put one (option_bytes last (record { number = 23; value = value })) → three ≡ put two (options_bytes 23 (among which.BehindBlock others))
    → three ≡ put old (options_bytes 0 (with_block os block))
with_block_written old one two three os options others last value block is others_are one_is last_is value_is two_is three_is =
    put_three old one two three _ _ _ (one_is ∙ ap (λ all. put old (options_bytes 0 (among which.UpToBlock all))) is)
    (two_is ∙ ap (λ n. put one (option_bytes n (record { number = 23; value = value }))) (last_is ∙ ap (λ all. last_number 0 (among which.UpToBlock all)) is)
    ∙ ap (λ bytes. put one (option_bytes (last_number 0 (among which.UpToBlock os)) (record { number = 23; value = bytes }))) value_is)
    (three_is ∙ ap (λ all. put two (options_bytes 23 (among which.BehindBlock all))) others_are)
    ∙ ap (put old) (sym (with_block_bytes os block))

-- ---- whole messages

pub payload_size : (payload : List ℕ) → length (payload_bytes payload) ≤ 1 + length payload
payload_size [] = omega arith
payload_size (b ∷ bs) = omega arith

pub spelling_size : (m : CoapMessage) → length (spelling m) ≡ head_size m + length (payload_bytes m.payload)
spelling_size m = omega (arith, length-append (head_of m ++ options_bytes 0 m.options) (payload_bytes m.payload), length-append (head_of m) (options_bytes 0 m.options))

pub chosen_fit : (kind : Which) (os options : List CoapOption) (room : ℕ) → options ≡ os → AreOptions 0 os → length (options_bytes 0 os) ≤ room → length (options_bytes 0 (among kind options)) ≤ room
chosen_fit kind os options room is are fits = subst (λ all. length (options_bytes 0 (among kind all)) ≤ room) (sym is) (omega (arith, no_longer kind os are, fits))

pub with_block_size : (os : List CoapOption) (block : BlockOption) → length (options_bytes 0 (with_block os block)) ≤ 3 * length (options_bytes 0 os) + 6
with_block_size os block =
    let up = options_bytes 0 (among which.UpToBlock os) in
    let last = last_number 0 (among which.UpToBlock os) in
    let mid = option_bytes last (record { number = 23; value = shortest (block_number block) }) in
    let back = options_bytes 23 (among which.BehindBlock os) in
    omega (arith, ap length (with_block_bytes os block), length-append (up ++ mid) back, length-append up mid, parts_size 0 23 0 os, block_option_size last (shortest (block_number block)) (shortest_size (block_number block)))
