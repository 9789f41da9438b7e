-- The place behind a head is its end, so that bytes that didn't come to an end have no head.
use Rattle.std.proofs.Common.{◌≡◌, ℕ, ◌<◌, ◌≤◌, Bool, true, false, List, [], ◌∷◌, ◌++◌, length, refl, sym, ap, subst, ◌∙◌, append_assoc, arith, inl, inr}
use Rattle.std.specs.Prelude.{◌||◌, ◌==◌, if◌then◌else◌}
use Rattle.std.specs.List.{list_any, flat_map}
use Rattle.std.proofs.lemmas.Bool.{both_ways, cases_Bool}
use Rattle.std.proofs.lemmas.List.Folds.{list_any-append}
use Rattle.httparse.specs.Grammar.{LineEnd, crlf, lf, print_end, print_blank, print_version, print_field, print_section, Field, RequestHead, print_request}
use Rattle.http_cut.specs.declared.place.Place.{Place}
use Rattle.http_cut.specs.declared.place.Place.TheVariants.{Blank, Line, LineFeed, Return, End}
use Rattle.http_cut.specs.declared.fault.HttpFault.TheVariants.{BadHead}
use Rattle.http_cut.specs.Requests.{is_other, HasEmptyLine, BeginsWith, HasNoHead, waits, refuses, IsCut}
use Rattle.http_cut.specs.Places.{place_behind, place_from, is_end}

-- ---- an empty line is an end

pub from_append : (p : Place) (xs ys : List ℕ) → place_from p (xs ++ ys) ≡ place_from (place_from p xs) ys
from_append p [] ys = refl
from_append p (x ∷ xs) ys = from_append (place_behind p x) xs ys

pub from_end : (xs : List ℕ) → place_from End xs ≡ End
from_end [] = refl
from_end (x ∷ xs) = from_end xs

-- a byte of a line came
abbrev IsPast : Place → Type 0
IsPast Blank = ⊥
IsPast Line = Unit {0}
IsPast LineFeed = Unit {0}
IsPast Return = Unit {0}
IsPast End = Unit {0}

past_if : (b : Bool) (p q : Place) → IsPast p → IsPast q → IsPast (if b then p else q)
past_if true p q x y = x
past_if false p q x y = y

past_byte : (p : Place) (b : ℕ) → IsPast p → IsPast (place_behind p b)
past_byte Blank b past = absurd past
past_byte Line b past = past_if (b == 10) LineFeed Line tt tt
past_byte LineFeed b past = past_if (b == 10) End (if b == 13 then Return else Line) tt (past_if (b == 13) Return Line tt tt)
past_byte Return b past = past_if (b == 10) End Line tt tt
past_byte End b past = tt

past_all : (p : Place) (xs : List ℕ) → IsPast p → IsPast (place_from p xs)
past_all p [] past = past
past_all p (x ∷ xs) past = past_all (place_behind p x) xs (past_byte p x past)

past_any : (xs : List ℕ) → list_any is_other xs ≡ true → IsPast (place_from Blank xs)
past_any [] any = absurd (both_ways false refl any)
past_any (x ∷ xs) any = elim (cases_Bool (is_other x)) [
  | inl other ↦ subst (λ (b : Bool). IsPast (place_from (if b then Line else Blank) xs)) (sym other) (past_all Line xs tt)
  | inr blank ↦ subst (λ (b : Bool). IsPast (place_from (if b then Line else Blank) xs)) (sym blank) (past_any xs (ap (λ (b : Bool). b || list_any is_other xs) (sym blank) ∙ any))
]

line_ends : (p : Place) (end : LineEnd) → IsPast p → place_from p (10 ∷ print_end end) ≡ End
line_ends Blank end past = absurd past
line_ends Line lf past = refl
line_ends Line crlf past = refl
line_ends LineFeed lf past = refl
line_ends LineFeed crlf past = refl
line_ends Return lf past = refl
line_ends Return crlf past = refl
line_ends End lf past = refl
line_ends End crlf past = refl

pub ends_behind : (bytes : List ℕ) → HasEmptyLine bytes → place_from Blank bytes ≡ End
ends_behind bytes line =
    let front = line.0 in
    let end = line.1 in
    let back = line.2 in
    let p = place_from Blank front in
    ap (λ (y : List ℕ). place_from Blank y) line.4
    ∙ from_append Blank front ((10 ∷ print_end end) ++ back)
    ∙ from_append p (10 ∷ print_end end) back
    ∙ ap (λ (q : Place). place_from q back) (line_ends p end (past_any front line.3))
    ∙ from_end back

pub end_is : (p : Place) → is_end p ≡ true → p ≡ End
end_is Blank e = absurd (both_ways false refl e)
end_is Line e = absurd (both_ways false refl e)
end_is LineFeed e = absurd (both_ways false refl e)
end_is Return e = absurd (both_ways false refl e)
end_is End e = refl

pub end_stays : (p : Place) (xs : List ℕ) → is_end p ≡ true → p ≡ place_from p xs
end_stays p xs e = end_is p e ∙ sym (ap (λ (q : Place). place_from q xs) (end_is p e) ∙ from_end xs)

-- ---- a head has an empty line

or_true : (b : Bool) → (b || true) ≡ true
or_true true = refl
or_true false = refl

any_front : (xs ys : List ℕ) → list_any is_other xs ≡ true → list_any is_other (xs ++ ys) ≡ true
any_front xs ys any = list_any-append is_other xs ys ∙ ap (λ (b : Bool). b || list_any is_other ys) any

any_back : (xs ys : List ℕ) → list_any is_other ys ≡ true → list_any is_other (xs ++ ys) ≡ true
any_back xs ys any = list_any-append is_other xs ys ∙ ap (λ (b : Bool). list_any is_other xs || b) any ∙ or_true (list_any is_other xs)

-- behind the end of a line the field lines and the empty line
abbrev Ends : List ℕ → Type 0
Ends bytes = HasEmptyLine bytes

section_ends : (front : List ℕ) (end : LineEnd) (fields : List Field) (last : LineEnd) (rest : List ℕ) → list_any is_other front ≡ true
    → Ends ((front ++ print_end end) ++ (print_section fields last ++ rest))
section_ends front lf [] last rest any = (front, last, rest, any, append_assoc front (10 ∷ []) (print_end last ++ rest))
section_ends front crlf [] last rest any =
    (front ++ 13 ∷ [], last, rest, any_front front (13 ∷ []) any, append_assoc front (13 ∷ 10 ∷ []) (print_end last ++ rest) ∙ sym (append_assoc front (13 ∷ []) (10 ∷ (print_end last ++ rest))))
section_ends front end (f ∷ fields) last rest any =
    let text = f.name ++ 58 ∷ f.raw in
    let longer = (front ++ print_end end) ++ text in
    let later = section_ends longer f.end fields last rest (any_front (front ++ print_end end) text (any_front front (print_end end) any)) in
    subst Ends (regroup (front ++ print_end end) text (print_end f.end) (flat_map print_field fields) (print_end last) rest) later
  where
    regroup : (a b c d e r : List ℕ) → ((a ++ b) ++ c) ++ ((d ++ e) ++ r) ≡ a ++ ((((b ++ c) ++ d) ++ e) ++ r)
    regroup a b c d e r = simp append_assoc

-- behind a head stands an empty line
pub head_ends : (bytes : List ℕ) (h : RequestHead) (rest : List ℕ) → BeginsWith bytes h rest → HasEmptyLine bytes
unfolding print_request
head_ends bytes h rest x =
    let start = print_blank h.blank ++ h.method in
    let line = start ++ 32 ∷ h.target ++ 32 ∷ print_version h.minor in
    let any = any_front (start ++ 32 ∷ h.target) (32 ∷ print_version h.minor) (any_back start (32 ∷ h.target) refl) in
    subst Ends (sym (x.reads.1 ∙ append_assoc (line ++ print_end h.line_end) (print_section h.fields h.last) rest)) (section_ends line h.line_end h.fields h.last rest any)

-- ---- bytes that didn't come to an end

not_end : (p : Place) → is_end p ≡ false → p ≡ End → ⊥
not_end p open_yet is = both_ways (is_end p) open_yet (ap is_end is)

no_head_yet : (buffered : List ℕ) (p : Place) → p ≡ place_from Blank buffered → is_end p ≡ false → HasNoHead buffered
no_head_yet buffered p is open_yet = λ h rest x. not_end p open_yet (is ∙ ends_behind buffered (head_ends buffered h rest x))

pub waits_yet : (buffered : List ℕ) (p : Place) → p ≡ place_from Blank buffered → is_end p ≡ false → length buffered < 8192 → IsCut buffered waits
waits_yet buffered p is open_yet short =
    inr (no_head_yet buffered p is open_yet, λ over. elim over [ inl long ↦ omega (arith, long, short) | inr line ↦ not_end p open_yet (is ∙ ends_behind buffered line) ])

pub full_yet : (buffered : List ℕ) (p : Place) → p ≡ place_from Blank buffered → is_end p ≡ false → 8192 ≤ length buffered → IsCut buffered (refuses BadHead)
full_yet buffered p is open_yet full = inr (no_head_yet buffered p is open_yet, (refl, inl (inl full)))
