-- Until a body is there whole, more is waited for.
use Rattle.std.proofs.Common.{◌≡◌, ℕ, ◌+◌, ◌<◌, ◌≤◌, Bool, List, [], ◌++◌, length, take, drop, sym, ap, subst, ◌∙◌, append_assoc, arith, inl}
use Rattle.std.specs.Prelude.{Option, Some, None, IfSome, Result, Ok, if◌then◌else◌}
use Rattle.std.proofs.lemmas.Bool.{lt-leb}
use Rattle.std.proofs.lemmas.List.{length-append, append-nil}
use Rattle.httparse.specs.declared.spans.HeaderSpan.{HeaderSpan}
use Rattle.httparse.specs.declared.spans.RequestSpans.{RequestSpans}
use Rattle.httparse.specs.Grammar.{print_request}
use Rattle.httparse.specs.Spans.{IsRequestOf}
use Rattle.http_cut.specs.declared.fault.HttpFault.{HttpFault}
use Rattle.http_cut.specs.declared.place.Place.{Place}
use Rattle.http_cut.specs.declared.place.Place.TheVariants.{Blank}
use Rattle.http_cut.specs.Fields.{framing}
use Rattle.http_cut.specs.Requests.{Head, request_of, takes, waits, IsCut, by_framing, cut_value_behind, head_of}
use Rattle.http_cut.specs.SpanValues.{fields_at}
use Rattle.http_cut.specs.Places.{place_from, WaitsBelow, IsKnown}
use Rattle.http_cut.proofs.Places.{from_append}
use Rattle.http_cut.proofs.Streams.{begins_append}
use Rattle.http_cut.proofs.Windows.{begins, head_is}

short_body : (head : Head) (rest : List ℕ) (n : ℕ) → framing head.fields ≡ Ok n → length rest < n → waits ≡ cut_value_behind head rest
unfolding cut_value_behind
short_body head rest n framed short =
    sym (ap (λ (r : Result ℕ HttpFault). by_framing head rest r) framed ∙ ap (λ (b : Bool). if b then takes (request_of head n rest) else waits) (lt-leb n (length rest) short))

pub waits_for_body : (buffered window : List ℕ) (spans : List HeaderSpan) (r : RequestSpans) (n : ℕ) → window ≡ take 8192 buffered → IsRequestOf window spans r → r.len ≤ 8192
    → framing (fields_at window (take r.headers spans)) ≡ Ok n → WaitsBelow buffered (r.len + n)
waits_for_body buffered window spans r n is x fits framed more short =
    let h = x.0 in
    let rest = drop r.len buffered in
    let begun = begins buffered h (drop r.len window) r.len (x.1.reads.0, sym is ∙ x.1.reads.1) x.1.len fits in
    let framed_so : framing (head_of h).fields ≡ Ok n = ap (λ (y : Head). framing y.fields) (sym (head_is window spans r h x.1)) ∙ framed in
    let all : length buffered ≡ length (print_request h ++ rest) = ap (λ (y : List ℕ). length y) begun.reads.1 in
    let lacks : length (rest ++ more) < n = omega (arith, all, length-append (print_request h) rest, length-append rest more, length-append buffered more, short, x.1.len) in
    inl (h, rest ++ more, begins_append buffered h rest more begun, short_body (head_of h) (rest ++ more) n framed_so lacks)

pub waits_for_nothing : (buffered : List ℕ) → WaitsBelow buffered 0
waits_for_nothing buffered more short = absurd (omega (arith, short))

pub waits_now : (buffered : List ℕ) (n : ℕ) → WaitsBelow buffered n → length buffered < n → IsCut buffered waits
waits_now buffered n below short = subst (λ (y : List ℕ). IsCut y waits) (append-nil buffered) (below [] (subst (λ (y : List ℕ). length y < n) (sym (append-nil buffered)) short))

needed_still : (bytes more : List ℕ) (needed : Option ℕ) → IfSome needed (WaitsBelow bytes) → IfSome needed (WaitsBelow (bytes ++ more))
needed_still bytes more None known = tt
needed_still bytes more (Some n) known = λ later short.
    subst (λ (y : List ℕ). IsCut y waits) (sym (append_assoc bytes more later)) (known (more ++ later) (subst (λ (y : List ℕ). length y < n) (append_assoc bytes more later) short))

-- what is known stays so where bytes follow
pub known_still : (bytes more : List ℕ) (p q : Place) (needed : Option ℕ) → IsKnown bytes p needed → q ≡ place_from p more → IsKnown (bytes ++ more) q needed
known_still bytes more p q needed known is = record {
  came = is ∙ ap (λ (z : Place). place_from z more) known.came ∙ sym (from_append Blank bytes more);
  lacks = needed_still bytes more needed known.lacks;
}
