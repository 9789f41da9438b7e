-- How the buffered bytes are cut, by what is read in the window.
use Rattle.std.proofs.Common.{◌≡◌, ℕ, ◌<◌, ◌≤◌, List, length, take, drop, refl, sym, ap, subst, ◌∙◌, arith, inl, inr}
use Rattle.std.proofs.lemmas.List.{length-take}
use Rattle.httparse.specs.declared.spans.HeaderSpan.{HeaderSpan}
use Rattle.httparse.specs.declared.spans.RequestSpans.{RequestSpans}
use Rattle.httparse.specs.Grammar.{HasNoRequest, MayBecomeRequest}
use Rattle.httparse.specs.Spans.{IsRequestOf, RequestOverflows}
use Rattle.http_cut.specs.declared.fault.HttpFault.TheVariants.{BadHead}
use Rattle.http_cut.specs.Requests.{Head, CutValue, waits, refuses, IsCut, cut_value_behind}
use Rattle.http_cut.specs.SpanValues.{head_at}
use Rattle.http_cut.proofs.Ends.{no_empty_line}
use Rattle.http_cut.proofs.Windows.{begins, head_is, no_head, never, never_now}

pub window_fits : (buffered window : List ℕ) → window ≡ take 8192 buffered → (length window ≤ 8192) × (length window ≤ length buffered)
window_fits buffered window is =
    let size : length window ≡ length (take 8192 buffered) = ap (λ (y : List ℕ). length y) is in
    (omega (arith, size, length-take 8192 buffered), omega (arith, size, length-take 8192 buffered))

-- a head is there
pub cut_whole : (buffered window : List ℕ) (spans : List HeaderSpan) (r : RequestSpans) (as_cut : CutValue) → window ≡ take 8192 buffered → IsRequestOf window spans r → r.len ≤ 8192
    → as_cut ≡ cut_value_behind (head_at window r (take r.headers spans)) (drop r.len buffered) → IsCut buffered as_cut
cut_whole buffered window spans r as_cut is x fits same =
    let h = x.0 in
    let begun = begins buffered h (drop r.len window) r.len (x.1.reads.0, sym is ∙ x.1.reads.1) x.1.len fits in
    inl (h, drop r.len buffered, begun, same ∙ ap (λ (y : Head). cut_value_behind y (drop r.len buffered)) (head_is window spans r h x.1))

-- no head is there yet, and there is room for one
pub cut_waits : (buffered window : List ℕ) → window ≡ take 8192 buffered → window ≡ buffered → length buffered < 8192 → HasNoRequest window → MayBecomeRequest window → IsCut buffered waits
cut_waits buffered window is all short none may =
    let none_buffered : HasNoRequest buffered = subst (λ (y : List ℕ). HasNoRequest y) all none in
    inr (
      no_head buffered (subst (λ (y : List ℕ). HasNoRequest y) is none),
      λ over. elim over [
        | inl long ↦ omega (arith, long, short)
        | inr line ↦ no_empty_line buffered none_buffered (subst (λ (y : List ℕ). MayBecomeRequest y) all may) line
      ],
    )

-- no head is there, and no room
pub cut_full : (buffered window : List ℕ) → window ≡ take 8192 buffered → 8192 ≤ length buffered → HasNoRequest window → IsCut buffered (refuses BadHead)
cut_full buffered window is full none = inr (no_head buffered (subst (λ (y : List ℕ). HasNoRequest y) is none), (refl, inl (inl full)))

-- no head can come
pub cut_never : (buffered window : List ℕ) → window ≡ take 8192 buffered → RequestOverflows 2731 window → IsCut buffered (refuses BadHead)
cut_never buffered window is over =
    let none = never buffered (subst (λ (y : List ℕ). RequestOverflows 2731 y) is over) in
    inr (never_now buffered none, (refl, inr none))
