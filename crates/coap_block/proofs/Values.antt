-- A block is read again as it was written, and a reply that is cut is a message.
use Rattle.std.proofs.Common.{inl, inr, ◌≡◌, ℕ, ◌+◌, ◌*◌, ◌/◌, ◌%◌, ◌<◌, ◌≤◌, ◌^◌, Bool, true, false, List, [], ◌∷◌, ◌++◌, length, refl, sym, ap, subst, ◌∙◌, arith}
use Rattle.std.specs.Prelude.{◌==◌, nat_lt, nat_le}
use Rattle.std.proofs.lemmas.Bool.{cases_Bool, eqb-true, eq-eqb, ne_eqb, le-leb, leb-true, leb-false, lt-leb, le-ltb}
use Rattle.coap_message.specs.Message.{CoapOption, CoapMessage, AreOptions, IsMessage}
use Rattle.coap_block.specs.declared.asks.Asks.TheVariants as asks
use Rattle.coap_block.specs.declared.block.BlockOption.{BlockOption}
use Rattle.coap_block.specs.declared.spelling.Which.{Which}
use Rattle.coap_block.specs.declared.spelling.Which.TheVariants as which
use Rattle.coap_block.specs.Option.{IsBlock, number_in, block_of, block_number, shortest}
use Rattle.coap_block.specs.Spelling.{is_among, among}
use Rattle.coap_block.specs.Blocks.{asks_of, blocks_in, cut_to, follows}
use Rattle.coap_block.proofs.Sizes.{among_none, among_more, behind_are}
use Rattle.coap_block.proofs.Cuts.{shortest_size}

abbrev the_block : ℕ → Bool → ℕ → BlockOption
the_block number more exponent = record { number = number; more = more; exponent = exponent }

pub number_again : (n : ℕ) → n < 2 ^ 24 → number_in (shortest n) ≡ n
number_again n below = elim (cases_Bool (n == 0)) [
  | inl e ↦ rw e (sym (eqb-true n 0 e))
  | inr e ↦ elim (cases_Bool (nat_lt n 256)) [
    | inl f ↦ rw (e, f) (omega arith)
    | inr f ↦ elim (cases_Bool (nat_lt n 65536)) [ inl h ↦ rw (e, f, h) (grind arith) | inr h ↦ rw (e, f, h) (grind arith) ]
  ]
]

made : (k n number exponent : ℕ) (more : Bool) → k ≡ n → n / 16 ≡ number → (n / 8 % 2 == 1) ≡ more → n % 8 ≡ exponent
    → the_block (k / 16) (k / 8 % 2 == 1) (k % 8) ≡ the_block number more exponent
made k n number exponent more same a b c =
    ap (λ m. the_block (m / 16) (m / 8 % 2 == 1) (m % 8)) same ∙ ap (λ x. the_block x (n / 8 % 2 == 1) (n % 8)) a ∙ ap (λ x. the_block number x (n % 8)) b ∙ ap (λ x. the_block number more x) c

cons_none : (o : CoapOption) (os : List CoapOption) → o ∷ os ≡ [] → ⊥
cons_none o os e = cc

value_fields : (number : ℕ) (more : Bool) (exponent : ℕ) → number < 2 ^ 20 → exponent < 8
    → block_of (shortest (block_number (record { number = number; more = more; exponent = exponent }))) ≡ record { number = number; more = more; exponent = exponent }
value_fields number true exponent below small =
    let n = 16 * number + 8 + exponent in
    let same : number_in (shortest n) ≡ n = number_again n (omega (arith, below, small)) in
    let a : n / 16 ≡ number = omega (arith, below, small) in
    let rest : n / 8 % 2 ≡ 1 = omega (arith, below, small) in
    let b : (n / 8 % 2 == 1) ≡ true = eq-eqb (n / 8 % 2) 1 rest in
    let c : n % 8 ≡ exponent = omega (arith, below, small) in
    made (number_in (shortest n)) n number exponent true same a b c
value_fields number false exponent below small =
    let n = 16 * number + 0 + exponent in
    let same : number_in (shortest n) ≡ n = number_again n (omega (arith, below, small)) in
    let a : n / 16 ≡ number = omega (arith, below, small) in
    let rest : n / 8 % 2 ≡ 0 = omega (arith, below, small) in
    let b : (n / 8 % 2 == 1) ≡ false = ne_eqb (n / 8 % 2) 1 (λ one. absurd (omega (arith, one, rest))) in
    let c : n % 8 ≡ exponent = omega (arith, below, small) in
    made (number_in (shortest n)) n number exponent false same a b c

pub value_again : (block : BlockOption) → IsBlock block → block_of (shortest (block_number block)) ≡ block
value_again block is = value_fields block.number block.more block.exponent is.number is.exponent

-- ---- the options of a reply that is cut

none_front : (previous : ℕ) (os : List CoapOption) → 23 < previous → AreOptions previous os → among which.UpToBlock os ≡ []
none_front previous [] above are = refl
none_front previous (o ∷ os) above are =
    among_none which.UpToBlock o os (lt-leb o.number 23 (omega (arith, above, are.0))) ∙ none_front o.number os (omega (arith, above, are.0)) are.3

-- the options in front of a Block2, it, and those behind it
pub with_are : (previous : ℕ) (os : List CoapOption) (value : List ℕ) → previous ≤ 23 → length value ≤ 65804 → AreOptions previous os
    → AreOptions previous (among which.UpToBlock os ++ record { number = 23; value = value } ∷ among which.BehindBlock os)
with_are previous [] value le size are = (le, omega arith, size, tt)
with_are previous (o ∷ os) value le size are = elim (cases_Bool (is_among which.UpToBlock o.number)) [
  | inl is_it ↦
      let none : is_among which.BehindBlock o.number ≡ false = le-ltb 23 o.number (leb-true o.number 23 is_it) in
      subst (λ front. AreOptions previous (front ++ record { number = 23; value = value } ∷ among which.BehindBlock (o ∷ os))) (sym (among_more which.UpToBlock o os is_it))
      (subst (λ back. AreOptions previous ((o ∷ among which.UpToBlock os) ++ record { number = 23; value = value } ∷ back)) (sym (among_none which.BehindBlock o os none))
      (are.0, are.1, are.2, with_are o.number os value (leb-true o.number 23 is_it) size are.3))
  | inr not_it ↦
      subst (λ front. AreOptions previous (front ++ record { number = 23; value = value } ∷ among which.BehindBlock (o ∷ os)))
      (sym (among_none which.UpToBlock o os not_it ∙ none_front o.number os (leb-false o.number 23 not_it) are.3))
      (le, omega arith, size, behind_are previous (o ∷ os) are)
]

blocks_append : (front back : List CoapOption) → blocks_in (front ++ back) ≡ blocks_in front ++ blocks_in back
blocks_append [] back = refl
blocks_append (o ∷ front) back = elim (cases_Bool (o.number == 23)) [
  | inl e ↦ rw e (ap (λ others. o ∷ others) (blocks_append front back))
  | inr e ↦ rw e (blocks_append front back)
]

none_among : (kind : Which) (os : List CoapOption) → blocks_in os ≡ [] → blocks_in (among kind os) ≡ []
none_among kind [] none = refl
none_among kind (o ∷ os) none = elim (cases_Bool (o.number == 23)) [
  | inl e ↦ absurd (cons_none o (blocks_in os) (rw e at none))
  | inr e ↦ elim (cases_Bool (is_among kind o.number)) [
    | inl f ↦ rw (f, e) (none_among kind os (rw e at none))
    | inr f ↦ rw f (none_among kind os (rw e at none))
  ]
]

pub one_block : (os : List CoapOption) (value : List ℕ) → blocks_in os ≡ [] → blocks_in (among which.UpToBlock os ++ record { number = 23; value = value } ∷ among which.BehindBlock os) ≡ record { number = 23; value = value } ∷ []
one_block os value none =
    let o : CoapOption = record { number = 23; value = value } in
    blocks_append (among which.UpToBlock os) (o ∷ among which.BehindBlock os) ∙ ap (λ front. front ++ blocks_in (o ∷ among which.BehindBlock os)) (none_among which.UpToBlock os none)
    ∙ ap (λ back. o ∷ back) (none_among which.BehindBlock os none)

pub cut_message : (message : CoapMessage) (block : BlockOption) (body : List ℕ) → IsMessage message → IsBlock block → message.code ≡ 69 → IsMessage (cut_to message block body)
cut_message message block body is is_block code = record {
  code = is.code;
  identifier = is.identifier;
  token = is.token;
  options = with_are 0 message.options (shortest (block_number (record block { more = follows body block }))) (omega arith) (omega (arith, shortest_size (block_number (record block { more = follows body block })))) is.options;
  empty = λ none. absurd (omega (arith, none, code));
}

pub cut_block : (message : CoapMessage) (block : BlockOption) (body : List ℕ) → IsBlock block → blocks_in message.options ≡ []
    → asks_of (blocks_in (cut_to message block body).options) ≡ asks.Block (record block { more = follows body block })
cut_block message block body is none =
    let answered : BlockOption = record block { more = follows body block } in
    let value = shortest (block_number answered) in
    let short : nat_le (length value) 3 ≡ true = le-leb (length value) 3 (shortest_size (block_number answered)) in
    let one : asks_of (record { number = 23; value = value } ∷ []) ≡ asks.Block (block_of value) = rw short refl in
    ap asks_of (one_block message.options value none) ∙ one ∙ ap asks.Block (value_again answered (record { number = is.number; exponent = is.exponent }))
