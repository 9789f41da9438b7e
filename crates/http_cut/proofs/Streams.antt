-- Requests stay where bytes follow, and are one list.
use Rattle.std.specs.Str.Parse.{digits_value}
use Rattle.std.proofs.Common.{◌≡◌, ℕ, Bool, true, false, ◌+◌, ◌-◌, ◌<◌, ◌≤◌, List, [], ◌∷◌, ◌++◌, length, take, drop, refl, sym, ap, subst, ◌∙◌, append_assoc, arith, inl, inr}
use Rattle.std.specs.Prelude.{◌⊎◌, ◌||◌, nat_le, if◌then◌else◌, codes, IfOk, Result, Ok, Err}
use Rattle.std.proofs.lemmas.Bool.{both_ways, cond-true, le-leb, leb-true, cases_Bool, cases_lt}
use Rattle.std.proofs.Math.Seq.{take-append_seam, take-append-add}
use Rattle.std.proofs.lemmas.List.{length-append, take-append-le, drop-append-le}
use Rattle.httparse.specs.Grammar.{RequestHead, print_request, print_end}
use Rattle.httparse.proofs.GrammarLemmas.{request_unique, ReadsRequest-append}
use Rattle.http_cut.specs.declared.fault.HttpFault.{HttpFault}
use Rattle.http_cut.specs.declared.request.Cut as code
use Rattle.http_cut.specs.declared.request.Cut.TheVariants as cuts
use Rattle.http_cut.specs.Fields.{values_of, is_length, announced, body_length, framed, framing}
use Rattle.http_cut.specs.declared.fault.HttpFault.TheVariants.{BadHead, BodyTooLong}
use Rattle.http_cut.specs.Requests.{BeginsWith, HasNoHead, NeverHasHead, HasEmptyLine, IsOver, IsHeadless, Head, Request, request_of, CutValue, takes, waits, refuses, IsCut, by_framing, cut_value_behind, head_of, cut_value, request_value}
use Rattle.http_cut.specs.declared.stream_end.StreamEnd.{StreamEnd}
use Rattle.http_cut.specs.declared.stream_end.StreamEnd.TheVariants.{Waits, Closes, Refused}
use Rattle.http_cut.specs.Streams.{IfRequest, IsFirst, ClosesLast, AreRequests, any_closes, HasEnd, IsStream, IsOpen}
use Rattle.http_cut.proofs.Ends.{ends_empty}
use Rattle.http_cut.proofs.Windows.{some_head}

pub begins_append : (bytes : List ℕ) (h : RequestHead) (rest more : List ℕ) → BeginsWith bytes h rest → BeginsWith (bytes ++ more) h (rest ++ more)
begins_append bytes h rest more x = record { reads = ReadsRequest-append bytes h rest more x.reads; size = x.size }

abbrev taken : Request → CutValue → Request
taken instead (takes request) = request
taken instead waits = instead
taken instead (refuses fault) = instead

-- whether a cut is a request, a wait or a refusal
abbrev kind : CutValue → ℕ
kind (takes request) = 0
kind waits = 1
kind (refuses fault) = 2

-- a request that is there whole, by its length
record Whole (head : Head) (rest : List ℕ) (request : Request) : Type 0 where
  n : ℕ
  framed : framing head.fields ≡ Ok n
  fits : n ≤ length rest
  is : request ≡ request_of head n rest

whole_by : (head : Head) (rest : List ℕ) (request : Request) (r : Result ℕ HttpFault) → framing head.fields ≡ r → takes request ≡ by_framing head rest r → Whole head rest request
whole_by head rest request (Err fault) is e = absurd (omega (arith, ap kind e))
whole_by head rest request (Ok n) is e = elim (cases_Bool (nat_le n (length rest))) [
  | inl fits ↦ record {
    n = n;
    framed = is;
    fits = leb-true n (length rest) fits;
    is = ap (taken request) (e ∙ ap (λ b. if b then takes (request_of head n rest) else waits) fits);
  }
  | inr short ↦ absurd (omega (arith, ap kind (e ∙ ap (λ b. if b then takes (request_of head n rest) else waits) short)))
]

whole : (head : Head) (rest : List ℕ) (request : Request) → takes request ≡ cut_value_behind head rest → Whole head rest request
unfolding cut_value_behind
whole head rest request e = whole_by head rest request (framing head.fields) refl e

taken_by : (head : Head) (rest : List ℕ) (n : ℕ) → framing head.fields ≡ Ok n → n ≤ length rest → takes (request_of head n rest) ≡ cut_value_behind head rest
unfolding cut_value_behind
taken_by head rest n framed fits =
    sym (ap (λ (r : Result ℕ HttpFault). by_framing head rest r) framed ∙ cond-true (nat_le n (length rest)) _ _ (le-leb n (length rest) fits))

-- a request has a head, and isn't longer than the bytes
pub first_size : (bytes : List ℕ) (request : Request) → IsFirst bytes request → (0 < request.size) × (request.size ≤ length bytes)
first_size bytes request x =
    let w = whole (head_of x.0) x.1 request x.3 in
    let all : length bytes ≡ length (print_request x.0 ++ x.1) = ap (λ (y : List ℕ). length y) x.2.reads.1 in
    let size : request.size ≡ length (print_request x.0) + w.n = ap (λ (y : Request). y.size) w.is in
    (omega (arith, size, some_head x.0), omega (arith, size, all, length-append (print_request x.0) x.1, w.fits))

-- the same request with another body
abbrev with_bytes : Head → ℕ → List ℕ → Request
with_bytes head n bytes = record (request_of head n []) { body = bytes }

pub first_append : (bytes more : List ℕ) (request : Request) → IsFirst bytes request → IsFirst (bytes ++ more) request
first_append bytes more request x =
    let head = head_of x.0 in
    let w = whole head x.1 request x.3 in
    let fits : w.n ≤ length (x.1 ++ more) = omega (arith, w.fits, length-append x.1 more) in
    let same : request ≡ request_of head w.n (x.1 ++ more) = w.is ∙ ap (λ (b : List ℕ). with_bytes head w.n b) (sym (take-append-le w.n x.1 more w.fits)) in
    (x.0, x.1 ++ more, begins_append bytes x.0 x.1 more x.2, ap takes same ∙ taken_by head (x.1 ++ more) w.n w.framed fits)

pub requests_append : (bytes more : List ℕ) (requests : List Request) (rest : List ℕ) → AreRequests bytes requests rest → AreRequests (bytes ++ more) requests (rest ++ more)
requests_append bytes more [] rest e = ap (λ (y : List ℕ). y ++ more) e
requests_append bytes more (r ∷ requests) rest x =
    let behind : drop r.size (bytes ++ more) ≡ drop r.size bytes ++ more = drop-append-le r.size bytes more (first_size bytes r x.0).1 in
    (first_append bytes more r x.0, x.1, subst (λ (y : List ℕ). AreRequests y requests (rest ++ more)) (sym behind) (requests_append (drop r.size bytes) more requests rest x.2))

false_first : (a b : Bool) → (a || b) ≡ false → a ≡ false
false_first true b e = e
false_first false b e = refl

false_second : (a b : Bool) → (a || b) ≡ false → b ≡ false
false_second true b e = absurd (both_ways true e refl)
false_second false b e = e

pub requests_join : (bytes middle rest : List ℕ) (first second : List Request) → any_closes first ≡ false → AreRequests bytes first middle → AreRequests middle second rest → AreRequests bytes (first ++ second) rest
requests_join bytes middle rest [] second goes_on e y = subst (λ (z : List ℕ). AreRequests z second rest) (sym e) y
requests_join bytes middle rest (r ∷ first) second goes_on x y =
    let stays : r.close ≡ false = false_first r.close (any_closes first) goes_on in (
      x.0,
      subst (λ (b : Bool). ClosesLast b (first ++ second)) (sym stays) tt,
      requests_join (drop r.size bytes) middle rest first second (false_second r.close (any_closes first) goes_on) x.2 y,
    )

-- ---- one request

one_first : (bytes : List ℕ) (r s : Request) → IsFirst bytes r → IsFirst bytes s → r ≡ s
one_first bytes r s x y =
    let same = request_unique bytes x.0 y.0 x.1 y.1 x.2.reads y.2.reads in
    ap (taken r) (x.3 ∙ (λ i. cut_value_behind (head_of (same.0 i)) (same.1 i)) ∙ sym y.3)

-- ---- what is refused stays refused

refused_by : (head : Head) (rest other : List ℕ) (fault : HttpFault) (r : Result ℕ HttpFault) → refuses fault ≡ by_framing head rest r → refuses fault ≡ by_framing head other r
refused_by head rest other fault (Err f) e = e
refused_by head rest other fault (Ok n) e = elim (cases_Bool (nat_le n (length rest))) [
  | inl fits ↦ absurd (omega (arith, ap kind (e ∙ ap (λ b. if b then takes (request_of head n rest) else waits) fits)))
  | inr short ↦ absurd (omega (arith, ap kind (e ∙ ap (λ b. if b then takes (request_of head n rest) else waits) short)))
]

refused : (head : Head) (rest other : List ℕ) (fault : HttpFault) → refuses fault ≡ cut_value_behind head rest → refuses fault ≡ cut_value_behind head other
unfolding cut_value_behind
refused head rest other fault e = refused_by head rest other fault (framing head.fields) e

-- a head of more bytes that ends in the first of them
shorter : (buffered more : List ℕ) (h : RequestHead) (rest : List ℕ) → BeginsWith (buffered ++ more) h rest → length (print_request h) ≤ length buffered → (behind : List ℕ) × BeginsWith buffered h behind
shorter buffered more h rest x fits =
    let text = print_request h in
    let k = length buffered - length text in
    let size : length buffered ≡ length text + k = omega (arith, fits) in
    let front : buffered ≡ text ++ take k rest = sym (take-append_seam buffered more) ∙ ap (λ (y : List ℕ). take (length buffered) y) x.reads.1 ∙ ap (λ (n : ℕ). take n (text ++ rest)) size ∙ take-append-add text rest k in
    (take k rest, record { reads = (x.reads.0, front); size = x.size })

over_never : (buffered : List ℕ) → HasNoHead buffered → IsOver buffered → NeverHasHead buffered
over_never buffered none (inl full) = λ more h rest x.
    let short = shorter buffered more h rest x (omega (arith, x.size, full)) in
    none h short.0 short.1
over_never buffered none (inr line) = λ more h rest x. elim (cases_lt (length buffered) (length (print_request h))) [
  | inr fits ↦ (let short = shorter buffered more h rest x fits in none h short.0 short.1)
  | inl longer ↦ beyond buffered more h rest x line longer
]
  where
    beyond : (buffered more : List ℕ) (h : RequestHead) (rest : List ℕ) → BeginsWith (buffered ++ more) h rest → HasEmptyLine buffered → length buffered < length (print_request h) → ⊥
    beyond buffered more h rest x line longer =
        let text = print_request h in
        let k = length text - length buffered in
        let size : length text ≡ length buffered + k = omega (arith, longer) in
        let part : text ≡ buffered ++ take k more = sym (take-append_seam text rest) ∙ ap (λ (y : List ℕ). take (length text) y) (sym x.reads.1) ∙ ap (λ (n : ℕ). take n (buffered ++ more)) size ∙ take-append-add buffered more k in
        let front = line.0 in
        let end = line.1 in
        let back = line.2 in
        let both : text ≡ front ++ 10 ∷ (print_end end ++ (back ++ take k more)) =
        part ∙ ap (λ (y : List ℕ). y ++ take k more) line.4 ∙ append_assoc front (10 ∷ (print_end end ++ back)) (take k more) ∙ ap (λ (y : List ℕ). front ++ 10 ∷ y) (append_assoc (print_end end) back (take k more)) in
        let nothing = ends_empty h x.reads.0 front end (back ++ take k more) line.3 both in
        let none : length (back ++ take k more) ≡ 0 = ap (λ (y : List ℕ). length y) nothing in
        absurd (omega (arith, none, length-append back (take k more), ap (λ (y : List ℕ). length y) part, length-append buffered (take k more), longer))

-- a refusal stays where bytes follow
pub refused_still : (buffered left : List ℕ) (fault : HttpFault) → IsCut buffered (refuses fault) → IsCut (buffered ++ left) (refuses fault)
refused_still buffered left fault (inl x) = inl (x.0, x.1 ++ left, begins_append buffered x.0 x.1 left x.2, refused (head_of x.0) x.1 (x.1 ++ left) fault x.3)
refused_still buffered left fault (inr x) = elim x.1.1 [
  | inl over ↦ stays (over_never buffered x.0 over) x.1.0
  | inr never ↦ stays never x.1.0
]
  where
    stays : NeverHasHead buffered → fault ≡ BadHead → IsCut (buffered ++ left) (refuses fault)
    stays never is = inr (never left, (is, inr (λ more. subst (λ (y : List ℕ). HasNoHead y) (sym (append_assoc buffered left more)) (never (left ++ more)))))

no_first_refused : (buffered : List ℕ) (fault : HttpFault) → IsCut buffered (refuses fault) → (request : Request) → ¬ (IsFirst buffered request)
no_first_refused buffered fault (inl cut) request x =
    let same = request_unique buffered cut.0 x.0 cut.1 x.1 cut.2.reads x.2.reads in
    absurd (omega (arith, ap kind (cut.3 ∙ (λ i. cut_value_behind (head_of (same.0 i)) (same.1 i)) ∙ sym x.3)))
no_first_refused buffered fault (inr cut) request x = cut.0 x.0 x.1 x.2

no_first_waits : (buffered : List ℕ) → IsCut buffered waits → (request : Request) → ¬ (IsFirst buffered request)
no_first_waits buffered (inl cut) request x =
    let same = request_unique buffered cut.0 x.0 cut.1 x.1 cut.2.reads x.2.reads in
    absurd (omega (arith, ap kind (cut.3 ∙ (λ i. cut_value_behind (head_of (same.0 i)) (same.1 i)) ∙ sym x.3)))
no_first_waits buffered (inr cut) request x = cut.0 x.0 x.1 x.2

-- where no request closes and the stream ends, no request stands in front
no_next : (end : StreamEnd) (rest : List ℕ) (request : Request) → HasEnd end false rest → ¬ (IsFirst rest request)
no_next Waits rest request ends = no_first_waits rest ends.1 request
no_next Closes rest request ends = absurd (both_ways true (sym ends) refl)
no_next (Refused fault) rest request ends = no_first_refused rest fault ends.1 request

-- ---- one stream

-- two lists of requests of the same bytes
record AreSame (rs ss : List Request) (a b : List ℕ) : Type 0 where
  requests : rs ≡ ss
  rest : a ≡ b

-- behind a request that is the same, and closes or doesn't
one_later : (close : Bool) (bytes : List ℕ) (rs ss : List Request) (a b : List ℕ) (e f : StreamEnd) → ClosesLast close rs → ClosesLast close ss → AreRequests bytes rs a → AreRequests bytes ss b
    → HasEnd e (close || any_closes rs) a → HasEnd f (close || any_closes ss) b → (HasEnd e (any_closes rs) a → HasEnd f (any_closes ss) b → AreSame rs ss a b) → AreSame rs ss a b
one_later true bytes rs ss a b e f none none' x y ends ends' by = record {
  requests = none ∙ sym none';
  rest = sym (subst (λ (z : List Request). AreRequests bytes z a) none x) ∙ subst (λ (z : List Request). AreRequests bytes z b) none' y;
}
one_later false bytes rs ss a b e f none none' x y ends ends' by = by ends ends'

one_list : (bytes : List ℕ) (rs ss : List Request) (a b : List ℕ) (e f : StreamEnd) → AreRequests bytes rs a → HasEnd e (any_closes rs) a
    → AreRequests bytes ss b → HasEnd f (any_closes ss) b → AreSame rs ss a b
one_list bytes [] [] a b e f x ends y ends' = record { requests = refl; rest = sym x ∙ y }
one_list bytes [] (s ∷ ss) a b e f x ends y ends' = absurd (no_next e a s ends (subst (λ (z : List ℕ). IsFirst z s) x y.0))
one_list bytes (r ∷ rs) [] a b e f x ends y ends' = absurd (no_next f b r ends' (subst (λ (z : List ℕ). IsFirst z r) y x.0))
one_list bytes (r ∷ rs) (s ∷ ss) a b e f x ends y ends' =
    let same : r ≡ s = one_first bytes r s x.0 y.0 in
    let there : AreRequests (drop r.size bytes) ss b = subst (λ (z : Request). AreRequests (drop z.size bytes) ss b) (sym same) y.2 in
    let last : ClosesLast r.close ss = subst (λ (z : Request). ClosesLast z.close ss) (sym same) y.1 in
    let ends_so : HasEnd f (r.close || any_closes ss) b = subst (λ (z : Request). HasEnd f (z.close || any_closes ss) b) (sym same) ends' in
    let left = drop r.size bytes in
    let later = one_later r.close left rs ss a b e f x.1 last x.2 there ends ends_so (λ ends_a ends_b. one_list left rs ss a b e f x.2 ends_a there ends_b) in
    record { requests = λ i. same i ∷ later.requests i; rest = later.rest }

abbrev fault_of : CutValue → HttpFault
fault_of (takes request) = BadHead
fault_of waits = BadHead
fault_of (refuses fault) = fault

headless_wait : (rest : List ℕ) (fault : HttpFault) → IsHeadless rest waits → IsHeadless rest (refuses fault) → IsOpen rest
headless_wait rest fault x y = elim y.1 [
  | inl over ↦ absurd (x over)
  | inr never ↦ (never, x)
]

wait_or_refusal : (rest : List ℕ) (fault : HttpFault) → IsCut rest waits → IsCut rest (refuses fault) → IsOpen rest
wait_or_refusal rest fault (inl x) (inl y) =
    let same = request_unique rest x.0 y.0 x.1 y.1 x.2.reads y.2.reads in
    absurd (omega (arith, ap kind (x.3 ∙ (λ i. cut_value_behind (head_of (same.0 i)) (same.1 i)) ∙ sym y.3)))
wait_or_refusal rest fault (inl x) (inr y) = absurd (y.0 x.0 x.1 x.2)
wait_or_refusal rest fault (inr x) (inl y) = absurd (x.0 y.0 y.1 y.2)
wait_or_refusal rest fault (inr x) (inr y) = headless_wait rest fault x.1 y.1

one_refusal : (rest : List ℕ) (f g : HttpFault) → IsCut rest (refuses f) → IsCut rest (refuses g) → f ≡ g
one_refusal rest f g (inl x) (inl y) =
    let same = request_unique rest x.0 y.0 x.1 y.1 x.2.reads y.2.reads in
    ap fault_of (x.3 ∙ (λ i. cut_value_behind (head_of (same.0 i)) (same.1 i)) ∙ sym y.3)
one_refusal rest f g (inl x) (inr y) = absurd (y.0 x.0 x.1 x.2)
one_refusal rest f g (inr x) (inl y) = absurd (x.0 y.0 y.1 y.2)
one_refusal rest f g (inr x) (inr y) = x.1.0 ∙ sym y.1.0

one_end : (rest : List ℕ) (closed : Bool) (e f : StreamEnd) → HasEnd e closed rest → HasEnd f closed rest → (e ≡ f) ⊎ IsOpen rest
one_end rest closed Waits Waits x y = inl refl
one_end rest closed Waits Closes x y = absurd (both_ways closed x.0 y)
one_end rest closed Waits (Refused g) x y = inr (wait_or_refusal rest g x.1 y.1)
one_end rest closed Closes Waits x y = absurd (both_ways closed y.0 x)
one_end rest closed Closes Closes x y = inl refl
one_end rest closed Closes (Refused g) x y = absurd (both_ways closed y.0 x)
one_end rest closed (Refused f) Waits x y = inr (wait_or_refusal rest f y.1 x.1)
one_end rest closed (Refused f) Closes x y = absurd (both_ways closed x.0 y)
one_end rest closed (Refused f) (Refused g) x y = inl (ap Refused (one_refusal rest f g x.1 y.1))

pub one_stream : (bytes : List ℕ) (rs ss : List Request) (e f : StreamEnd) (a b : List ℕ) → IsStream bytes rs e a → IsStream bytes ss f b → (rs ≡ ss) × ((e ≡ f) ⊎ IsOpen b)
one_stream bytes rs ss e f a b x y =
    let same = one_list bytes rs ss a b e f x.whole x.ends y.whole y.ends in
    let ends : HasEnd e (any_closes ss) b = subst (λ (z : List ℕ). HasEnd e (any_closes ss) z) same.rest (subst (λ (z : List Request). HasEnd e (any_closes z) a) same.requests x.ends) in
    (same.requests, one_end b (any_closes ss) e f ends y.ends)

-- a request that is cut isn't longer than what is buffered
pub cut_size : (buffered : List ℕ) (cut : code.Cut) → IsCut buffered (cut_value cut) → IfRequest cut (λ request. (0 < request.length) × (request.length ≤ length buffered))
cut_size buffered (cuts.Request request) (inl x) = first_size buffered (request_value request) x
cut_size buffered (cuts.Request request) (inr x) = absurd x.1
cut_size buffered cuts.More x = tt
cut_size buffered (cuts.Refused fault) x = tt

-- ---- a stream that waits has room

size_or : (b c : Bool) (n : ℕ) (e f : HttpFault) → nat_le n 8192 ≡ c → IfOk (if b then (if c then Ok n else Err e) else Err f) (λ size. size ≤ 8192)
size_or true true n e f is = leb-true n 8192 is
size_or true false n e f is = tt
size_or false c n e f is = tt

announced_fits : (value : List ℕ) → IfOk (announced value) (λ size. size ≤ 8192)
unfolding announced
announced_fits value = size_or (is_length value) (nat_le (digits_value 10 value) 8192) (digits_value 10 value) BodyTooLong BadHead refl

body_fits : (values : List (List ℕ)) → IfOk (body_length values) (λ size. size ≤ 8192)
unfolding body_length
body_fits [] = omega arith
body_fits (value ∷ []) = announced_fits value
body_fits (value ∷ other ∷ values) = tt

framed_fits : (encodings : List (List ℕ)) (r : Result ℕ HttpFault) → IfOk r (λ size. size ≤ 8192) → IfOk (framed encodings r) (λ size. size ≤ 8192)
unfolding framed
framed_fits [] r fits = fits
framed_fits (encoding ∷ encodings) r fits = tt

waits_by : (head : Head) (rest : List ℕ) (r : Result ℕ HttpFault) → IfOk r (λ size. size ≤ 8192) → waits ≡ by_framing head rest r → length rest < 8192
waits_by head rest (Err fault) fits e = absurd (omega (arith, ap kind e))
waits_by head rest (Ok n) fits e = elim (cases_lt (length rest) n) [
  | inl short ↦ omega (arith, short, fits)
  | inr whole ↦ absurd (omega (arith, ap kind (e ∙ ap (λ b. if b then takes (request_of head n rest) else waits) (le-leb n (length rest) whole))))
]

waits_behind : (head : Head) (rest : List ℕ) → waits ≡ cut_value_behind head rest → length rest < 8192
unfolding cut_value_behind
waits_behind head rest e =
    waits_by head rest (framing head.fields) (framed_fits (values_of (codes "transfer-encoding") head.fields) (body_length (values_of (codes "content-length") head.fields)) (body_fits (values_of (codes "content-length") head.fields))) e

pub waits_room : (buffered : List ℕ) → IsCut buffered waits → length buffered < 16384
waits_room buffered (inl x) =
    let all : length buffered ≡ length (print_request x.0 ++ x.1) = ap (λ (y : List ℕ). length y) x.2.reads.1 in
    omega (arith, all, length-append (print_request x.0) x.1, x.2.size, waits_behind (head_of x.0) x.1 x.3)
waits_room buffered (inr x) = elim (cases_lt (length buffered) 8192) [
  | inl short ↦ omega (arith, short)
  | inr full ↦ absurd (x.1 (inl full))
]
