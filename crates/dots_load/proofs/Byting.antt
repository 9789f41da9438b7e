-- The datagrams of a generated run are bytes, which are below 256.
use Rattle.std.proofs.Common.{◌≡◌, ℕ, zero, suc, ◌+◌, ◌-◌, ◌*◌, ◌%◌, ◌^◌, ◌<◌, ◌≤◌, Bool, true, false, List, [], ◌∷◌, ◌++◌, length, get_or, map, refl, subst, inl, inr, arith, rules}
use Rattle.std.specs.Prelude.{⊤, codes, decimal, cond, nat_lt, ◌==◌}
use Rattle.std.specs.Int.{w16, to_be_bytes}
use Rattle.std.specs.Str.{IsAscii}
use Rattle.std.specs.List.{range_with_len}
use Rattle.std.proofs.lemmas.Bool.{cases_lt, ltb-true}
use Rattle.std.proofs.lemmas.Fmt.{IsAscii-decimal}
use Rattle.coap_message.specs.declared.kind.Kind.TheVariants.{Non}
use Rattle.coap_message.specs.Message.{CoapOption, CoapMessage, nibble, extension, option_bytes, options_bytes, payload_bytes, spelling}
use Rattle.cbor_profile.specs.Head.{head}
use Rattle.cbor_profile.proofs.Heads.{head_none, head_one, head_two}
use Rattle.std.proofs.Math.Nat.{mod-lt}
use Rattle.coap_message.specs.declared.parts.Parts.{Parts}
use Rattle.coap_message.specs.Parts.{parts_of, values_of}
use Rattle.dots_host.specs.declared.event.Event.{Event}
use Rattle.dots_host.specs.declared.event.Event.TheVariants as event
use Rattle.dots_host.specs.Memory.{Coming}
use Rattle.dots_load.specs.Events.{sends, event_by, load_event, events_to, load_events}
use Rattle.dots_load.proofs.Options.{AreFrom, message_is, spelling_short, get_short, delete_short, put_short}
use Rattle.dots_load.proofs.Scopes.{scope_short, prefix_short}
use Rattle.dots_load.specs.Datagrams.{EachComing, AreBytes}
use Rattle.dots_load.specs.Requests.{AreShort, request, all_path, mid_path, dots_format, scope_body, prefix_text}

abbrev pub AreSmall : List ℕ → Type 0
AreSmall [] = ⊤
AreSmall (b ∷ bs) = (b < 256) × AreSmall bs

pub small_at : (bs : List ℕ) → AreSmall bs → (i : ℕ) → get_or bs i 0 < 256
small_at [] small i = omega arith
small_at (b ∷ bs) small zero = small.0
small_at (b ∷ bs) small (suc i) = small_at bs small.1 i

joined : (xs ys : List ℕ) → AreSmall xs → AreSmall ys → AreSmall (xs ++ ys)
joined [] ys a b = b
joined (x ∷ xs) ys a b = (a.0, joined xs ys a.1 b)

of_ascii : (bs : List ℕ) → IsAscii bs → AreSmall bs
of_ascii [] ascii = tt
of_ascii (b ∷ bs) ascii = (let first : b < 128 = ascii 0 in omega (arith, first), of_ascii bs (λ i. ascii (suc i)))

digits : (n : ℕ) → n < 2 ^ 64 → AreSmall (decimal n)
digits n few = of_ascii (decimal n) (IsAscii-decimal n few)

two : (n : ℕ) → AreSmall (to_be_bytes w16 n)
two n = (omega arith, (omega arith, tt))

extended : (p q : Bool) (n : ℕ) → (q ≡ true → n < 269) → AreSmall (cond p [] (cond q ((n - 13) ∷ []) (to_be_bytes w16 (n - 269))))
extended true q n below = tt
extended false true n below = (let h = below refl in omega (arith, h), tt)
extended false false n below = two (n - 269)

extension_small : (n : ℕ) → AreSmall (extension n)
extension_small n = extended (nat_lt n 13) (nat_lt n 269) n (ltb-true n 269)

nibble_small : (n : ℕ) → nibble n ≤ 14
nibble_small n = grind arith

abbrev SmallValues : List CoapOption → Type 0
SmallValues [] = ⊤
SmallValues (o ∷ os) = AreSmall o.value × SmallValues os

option_small : (previous : ℕ) (o : CoapOption) → AreSmall o.value → AreSmall (option_bytes previous o)
option_small previous o value =
    let delta = o.number - previous in
    let first : 16 * nibble delta + nibble (length o.value) < 256 = omega (arith, nibble_small delta, nibble_small (length o.value)) in
    (first, joined (extension delta ++ extension (length o.value)) o.value (joined (extension delta) (extension (length o.value)) (extension_small delta) (extension_small (length o.value))) value)

options_small : (previous : ℕ) (os : List CoapOption) → SmallValues os → AreSmall (options_bytes previous os)
options_small previous [] values = tt
options_small previous (o ∷ os) values = joined (option_bytes previous o) _ (option_small previous o values.0) (options_small o.number os values.1)

payload_small : (payload : List ℕ) → AreSmall payload → AreSmall (payload_bytes payload)
payload_small [] small = tt
payload_small (b ∷ bs) small = (omega arith, small)

request_small : (code k : ℕ) (os : List CoapOption) (payload : List ℕ) → code < 256 → SmallValues os → AreSmall payload → AreSmall (spelling (request code k os payload))
request_small code k os payload few values small =
    (omega arith, (few, (omega arith, (omega arith, joined (options_bytes 0 os) (payload_bytes payload) (options_small 0 os values) (payload_small payload small)))))

head_small : (major n : ℕ) → major < 8 → n < 2 ^ 16 → AreSmall (head major n)
head_small major n few small = elim (cases_lt n 24) [
  | inl low ↦ rw (head_none major n low) (omega arith, tt)
  | inr high ↦ elim (cases_lt n 256) [
    | inl also ↦ rw (head_one major n high also) (omega arith, (also, tt))
    | inr over ↦ rw (head_two major n over small) (omega arith, two n)
  ]
]

word : (text : List ℕ) → IsAscii text → AreSmall text
word = of_ascii

path_small : (peer : ℕ) → peer < 2 ^ 32 → SmallValues (all_path peer)
path_small peer few = (
  word (codes ".well-known") (search rules),
  (
    word (codes "dots") (search rules),
    (
      word (codes "mitigate") (search rules),
      (joined (codes "cuid=c") (decimal peer) (word (codes "cuid=c") (search rules)) (digits peer (omega arith)), tt),
    ),
  ),
)

mid_small : (peer mid : ℕ) → peer < 2 ^ 32 → mid < 2 ^ 32 → SmallValues (mid_path peer mid)
mid_small peer mid few small = (
  word (codes ".well-known") (search rules),
  (
    word (codes "dots") (search rules),
    (
      word (codes "mitigate") (search rules),
      (
        joined (codes "cuid=c") (decimal peer) (word (codes "cuid=c") (search rules)) (digits peer (omega arith)),
        (joined (codes "mid=") (decimal mid) (word (codes "mid=") (search rules)) (digits mid (omega arith)), tt),
      ),
    ),
  ),
)

put_small : (peer mid : ℕ) → peer < 2 ^ 32 → mid < 2 ^ 32 → SmallValues (mid_path peer mid ++ dots_format ∷ [])
put_small peer mid few small = (
  word (codes ".well-known") (search rules),
  (
    word (codes "dots") (search rules),
    (
      word (codes "mitigate") (search rules),
      (
        joined (codes "cuid=c") (decimal peer) (word (codes "cuid=c") (search rules)) (digits peer (omega arith)),
        (joined (codes "mid=") (decimal mid) (word (codes "mid=") (search rules)) (digits mid (omega arith)), ((omega arith, (omega arith, tt)), tt)),
      ),
    ),
  ),
)

text_small : (domain third : ℕ) → domain < 1000 → third < 1000 → AreSmall (prefix_text domain third)
text_small domain third d t =
    joined (codes "10.") _ (word (codes "10.") (search rules)) (joined (decimal domain) (codes "." ++ (decimal third ++ codes ".0/24")) (digits domain (omega arith))
    (joined (codes ".") (decimal third ++ codes ".0/24") (word (codes ".") (search rules)) (joined (decimal third) (codes ".0/24") (digits third (omega arith)) (word (codes ".0/24") (search rules)))))

one : (major n : ℕ) (rest : List ℕ) → major < 8 → n < 2 ^ 16 → AreSmall rest → AreSmall (head major n ++ rest)
one major n rest few small behind = joined (head major n) rest (head_small major n few small) behind

only_one : (major n : ℕ) → major < 8 → n < 2 ^ 16 → AreSmall (head major n ++ [])
only_one major n few small = one major n [] few small tt

body_small : (prefix : List ℕ) (lifetime : ℕ) → AreSmall prefix → length prefix < 2 ^ 16 → lifetime < 2 ^ 16 → AreSmall (scope_body prefix lifetime)
body_small prefix lifetime text short early =
    let texts : AreSmall ((head 3 (length prefix) ++ prefix) ++ []) = joined (head 3 (length prefix) ++ prefix) [] (one 3 (length prefix) prefix (omega arith) short text) tt in
    let prefixes : AreSmall (head 4 1 ++ ((head 3 (length prefix) ++ prefix) ++ [])) = one 4 1 _ (omega arith) (omega arith) texts in
    let last : AreSmall (head 0 14 ++ (head 0 lifetime ++ [])) = one 0 14 _ (omega arith) (omega arith) (only_one 0 lifetime (omega arith) early) in
    let fields = one 0 6 _ (omega arith) (omega arith) (joined _ _ prefixes last) in
    let scope = one 5 2 _ (omega arith) (omega arith) fields in
    let scopes = one 4 1 _ (omega arith) (omega arith) (joined _ [] scope tt) in
    let inner = one 5 1 _ (omega arith) (omega arith) (one 0 2 _ (omega arith) (omega arith) (joined _ [] scopes tt)) in
    one 5 1 _ (omega arith) (omega arith) (one 0 1 _ (omega arith) (omega arith) (joined _ [] inner tt))

-- ---- the events

request_short : (code k : ℕ) (os : List CoapOption) (payload : List ℕ) → AreShort os → length payload ≤ 64 → length (spelling (request code k os payload)) ≤ 4096
request_short code k os payload short few =
    let parts : Parts = record {
      kind = Non;
      code = code;
      id = k;
      token = record { ref_ptr = (0, 0); now = [] };
      options = record { ref_ptr = (0, 0); now = parts_of os };
      values = record { ref_ptr = (0, 0); now = values_of os };
      payload = record { ref_ptr = (0, 0); now = payload };
    } in
    let from : AreFrom parts os = record { kind = refl; token = refl; options = refl; values = refl } in
    subst (λ (m : CoapMessage). length (spelling m) ≤ 4096) (message_is parts os from) (spelling_short parts os from short few)

spelled : (peer code k : ℕ) (os : List CoapOption) (payload : List ℕ) → code < 256 → SmallValues os → AreSmall payload → AreShort os → length payload ≤ 64
    → AreBytes (sends peer (request code k os payload))
spelled peer code k os payload low values small short few =
    (small_at (spelling (request code k os payload)) (request_small code k os payload low values small), omega (arith, request_short code k os payload short few))

chosen : (p q r : Bool) (x y z : Event) → AreBytes x → AreBytes y → AreBytes z → AreBytes (cond p x (cond q y (cond r z event.Tick)))
chosen true q r x y z one two three = one
chosen false true r x y z one two three = two
chosen false false true x y z one two three = three
chosen false false false x y z one two three = tt

pub event_bytes : (k a b c d : ℕ) → k < 2 ^ 16 → AreBytes (event_by k a b c d)
unfolding event_by
event_bytes k a b c d early =
    let peer : a % 8 < 2 ^ 32 = omega arith in
    let domain : a % 8 % 4 < 1000 = omega arith in
    let third : c % 256 < 1000 = omega arith in
    let lifetime : 60 + d % 600 < 1000 = omega arith in
    let mid : k + 1 < 2 ^ 32 = omega arith in
    let asked : 1 + c % (k + 1) < 2 ^ 32 = let h = mod-lt c {m = k + 1} (omega arith) in omega (arith, h) in
    let text = text_small (a % 8 % 4) (c % 256) domain third in
    let few = prefix_short (a % 8 % 4) (c % 256) domain third in
    let body = body_small (prefix_text (a % 8 % 4) (c % 256)) (60 + d % 600) text (omega (arith, few)) (omega arith) in
    chosen (nat_lt (b % 8) 5) (b % 8 == 5) (b % 8 == 6) _ _ _
    (spelled (a % 8) 3 k (mid_path (a % 8) (k + 1) ++ dots_format ∷ []) (scope_body (prefix_text (a % 8 % 4) (c % 256)) (60 + d % 600)) (omega arith)
    (put_small (a % 8) (k + 1) peer mid) body (put_short (a % 8) (k + 1) peer mid) (scope_short (prefix_text (a % 8 % 4) (c % 256)) (60 + d % 600) few lifetime))
    (spelled (a % 8) 4 k (mid_path (a % 8) (1 + c % (k + 1))) [] (omega arith) (mid_small (a % 8) (1 + c % (k + 1)) peer asked) tt (delete_short (a % 8) (1 + c % (k + 1)) peer asked) (omega arith))
    (spelled (a % 8) 1 k (all_path (a % 8)) [] (omega arith) (path_small (a % 8) peer) tt (get_short (a % 8) peer) (omega arith))

load_bytes : (seed k : ℕ) → k < 2 ^ 16 → AreBytes (load_event seed k).event
unfolding load_event
load_bytes seed k early = event_bytes k _ _ _ _ early

bytes_from : (seed from count : ℕ) → from + count ≤ 2 ^ 16 → EachComing AreBytes (map (load_event seed) (range_with_len from count))
bytes_from seed from zero few = tt
bytes_from seed from (suc count) few = (load_bytes seed from (omega (arith, few)), bytes_from seed (from + 1) count (omega (arith, few)))

pub each_bytes : (seed count : ℕ) → count ≤ 2 ^ 16 → EachComing AreBytes (events_to seed count)
unfolding events_to
each_bytes seed count few = bytes_from seed 0 count (omega (arith, few))

-- the End behind them has none
and_end : (came : List Coming) (at : ℕ) → EachComing AreBytes came → EachComing AreBytes (came ++ (record { event = event.End; at = at }) ∷ [])
and_end [] at each = (tt, tt)
and_end (coming ∷ came) at each = (each.0, and_end came at each.1)

pub all_bytes : (seed : ℕ) → EachComing AreBytes (load_events seed ++ (record { event = event.End; at = 0 }) ∷ [])
all_bytes seed = and_end (load_events seed) 0 (each_bytes seed 20000 (omega arith))
