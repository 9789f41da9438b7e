-- A head lies in the first 8,192 bytes, and has fewer fields than there is room for.
use Rattle.std.proofs.Common.{◌≡◌, ℕ, ◌+◌, ◌-◌, ◌*◌, ◌<◌, ◌≤◌, List, [], ◌∷◌, ◌++◌, length, take, drop, sym, ap, subst, ◌∙◌, append_assoc, arith}
use Rattle.std.specs.Prelude.{All}
use Rattle.std.specs.List.{flat_map}
use Rattle.std.proofs.lemmas.List.{length-append, append-nil, take-append-drop}
use Rattle.std.proofs.lemmas.List.Elements.{All-head, All-tail}
use Rattle.std.proofs.Math.Seq.{drop-append_seam, take-append-add}
use Rattle.httparse.specs.declared.spans.HeaderSpan.{HeaderSpan}
use Rattle.httparse.specs.declared.spans.RequestSpans.{RequestSpans}
use Rattle.httparse.specs.Grammar.{LineEnd, crlf, lf, print_end, print_blank, print_version, print_field, print_section, Field, IsField, RequestHead, IsRequestHead, print_request, ReadsRequest, HasNoRequest}
use Rattle.httparse.specs.Spans.{IsRequestAt, RequestOverflows}
use Rattle.httparse.proofs.GrammarLemmas.{ReadsRequest-append}
use Rattle.http_cut.specs.Requests.{BeginsWith, HasNoHead, NeverHasHead, head_of}
use Rattle.http_cut.specs.SpanValues.{head_at}

pub into_window : (buffered : List ℕ) (h : RequestHead) (rest : List ℕ) → BeginsWith buffered h rest
    → ReadsRequest (take 8192 buffered) h (take (8192 - length (print_request h)) rest)
into_window buffered h rest x =
    let text = print_request h in
    let k = 8192 - length text in
    let sum : 8192 ≡ length text + k = omega (arith, x.size) in
    (x.reads.0, ap (λ (n : ℕ). take n buffered) sum ∙ ap (λ (y : List ℕ). take (length text + k) y) x.reads.1 ∙ take-append-add text rest k)

pub begins : (buffered : List ℕ) (h : RequestHead) (rest : List ℕ) (n : ℕ) → ReadsRequest (take 8192 buffered) h rest → n ≡ length (print_request h) → n ≤ 8192
    → BeginsWith buffered h (drop n buffered)
begins buffered h rest n x size fits =
    let text = print_request h in
    let all = rest ++ drop 8192 buffered in
    let out : buffered ≡ text ++ all = sym (take-append-drop 8192 buffered) ∙ (ReadsRequest-append (take 8192 buffered) h rest (drop 8192 buffered) x).1 in
    let same : drop n buffered ≡ all = ap (λ (k : ℕ). drop k buffered) size ∙ ap (λ (y : List ℕ). drop (length text) y) out ∙ drop-append_seam text all in
    record { reads = (x.0, out ∙ ap (λ (y : List ℕ). text ++ y) (sym same)); size = omega (arith, size, fits) }

-- what the spans cover is what is read of the head
pub head_is : (bytes : List ℕ) (spans : List HeaderSpan) (r : RequestSpans) (h : RequestHead) → IsRequestAt bytes spans r h → head_at bytes r (take r.headers spans) ≡ head_of h
head_is bytes spans r h x = λ i. record { method = x.method i; target = x.path i; minor = x.version i; fields = x.fields i; size = x.len i }

one_byte : (end : LineEnd) → 1 ≤ length (print_end end)
one_byte lf = omega arith
one_byte crlf = omega arith

fields_size : (fields : List Field) → All IsField fields → 3 * length fields ≤ length (flat_map print_field fields)
fields_size [] are = omega arith
fields_size (f ∷ fields) are =
    let more = fields_size fields (All-tail IsField f fields are) in
    let some = (All-head IsField f fields are).name.0 in
    omega (arith, more, some, length-append (print_field f) (flat_map print_field fields), length-append (f.name ++ 58 ∷ f.raw) (print_end f.end), length-append f.name (58 ∷ f.raw), one_byte f.end)

-- each field has three bytes at least
head_size : (h : RequestHead) → IsRequestHead h → 3 * length h.fields ≤ length (print_request h)
unfolding print_request
head_size h is =
    let front = print_blank h.blank ++ h.method ++ 32 ∷ h.target ++ 32 ∷ print_version h.minor ++ print_end h.line_end in
    omega (arith, fields_size h.fields is.fields, length-append front (print_section h.fields h.last), length-append (flat_map print_field h.fields) (print_end h.last))

pub no_head : (buffered : List ℕ) → HasNoRequest (take 8192 buffered) → HasNoHead buffered
no_head buffered none = λ h rest x. none h _ (into_window buffered h rest x)

pub never : (buffered : List ℕ) → RequestOverflows 2731 (take 8192 buffered) → NeverHasHead buffered
never buffered over = λ more h rest x.
    let window = take 8192 buffered in
    let behind = drop 8192 buffered in
    let split : buffered ++ more ≡ window ++ (behind ++ more) = ap (λ (y : List ℕ). y ++ more) (sym (take-append-drop 8192 buffered)) ∙ append_assoc window behind more in
    absurd (omega (arith, over (behind ++ more) h rest (x.reads.0, sym split ∙ x.reads.1), head_size h x.reads.0, x.size))

pub never_now : (buffered : List ℕ) → NeverHasHead buffered → HasNoHead buffered
never_now buffered none = subst (λ (y : List ℕ). HasNoHead y) (append-nil buffered) (none [])

-- a head isn't empty
pub some_head : (h : RequestHead) → 0 < length (print_request h)
unfolding print_request
some_head h =
    let front = print_blank h.blank ++ h.method ++ 32 ∷ h.target ++ 32 ∷ print_version h.minor ++ print_end h.line_end in
    omega (arith, length-append front (print_section h.fields h.last), length-append (flat_map print_field h.fields) (print_end h.last), one_byte h.last)
