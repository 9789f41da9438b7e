-- A head ends at the first empty line behind a line that isn't empty.
use Rattle.std.proofs.Common.{◌≡◌, ℕ, ◌+◌, ◌<◌, ◌≤◌, Bool, true, false, IsTrue, List, [], ◌∷◌, ◌++◌, length, refl, sym, ap, subst, ◌∙◌, append_assoc, arith, inl, inr}
use Rattle.std.specs.Prelude.{◌⊎◌, ◌==◌, not, All, codes}
use Rattle.std.specs.List.{list_any, flat_map}
use Rattle.std.proofs.lemmas.Bool.{both_ways, eqb-false}
use Rattle.std.proofs.lemmas.List.{length-append, append-nil, nil_from_length}
use Rattle.std.proofs.lemmas.List.Elements.{All-head, All-tail}
use Rattle.std.proofs.lemmas.List.Sums.{AllPass-from_list_all}
use Rattle.httparse.specs.Grammar.{LineEnd, crlf, lf, print_end, print_blank, print_field, print_section, Field, IsField, AllPass, is_token_byte, is_uri_byte, is_value_byte, RequestHead, IsRequestHead, print_request, EndsInTarget, HasNoRequest, MayBecomeRequest}
use Rattle.httparse.proofs.GrammarLemmas.{print_request-append}
use Rattle.http_cut.specs.Requests.{is_other, HasEmptyLine}

abbrev head : List ℕ → ℕ
head [] = 0
head (b ∷ bytes) = b

abbrev tail : List ℕ → List ℕ
tail [] = []
tail (b ∷ bytes) = bytes

token_lf : is_token_byte 10 ≡ false
unfolding is_token_byte
token_lf = refl

token_cr : is_token_byte 13 ≡ false
unfolding is_token_byte
token_cr = refl

-- what begins behind a line feed
abbrev Later : List ℕ → List ℕ → Type 0
Later xs rest = (front : List ℕ) × (xs ≡ front ++ 10 ∷ rest)

no_bytes : (front rest : List ℕ) → [] ≡ front ++ 10 ∷ rest → ⊥
no_bytes front rest e =
    let size : 0 ≡ length (front ++ 10 ∷ rest) = ap (λ (y : List ℕ). length y) e in
    absurd (omega (arith, size, length-append front (10 ∷ rest)))

past_byte : (b : ℕ) (xs front rest : List ℕ) → (b ≡ 10 → ⊥) → b ∷ xs ≡ front ++ 10 ∷ rest → Later xs rest
past_byte b xs [] rest other e = absurd (other (ap head e))
past_byte b xs (c ∷ front) rest other e = (front, ap tail e)

-- a line feed that doesn't pass the test stands behind bytes that pass
past : (test : ℕ → Bool) → test 10 ≡ false → (line xs front rest : List ℕ) → AllPass test line → line ++ xs ≡ front ++ 10 ∷ rest → Later xs rest
past test fails [] xs front rest pass e = (front, e)
past test fails (b ∷ line) xs front rest pass e =
    let first : test b ≡ true = All-head (λ (x : ℕ). IsTrue (test x)) b line pass in
    let next = past_byte b (line ++ xs) front rest (λ same. both_ways (test 10) fails (sym (ap test same) ∙ first)) e in
    past test fails line xs next.0 rest (All-tail (λ (x : ℕ). IsTrue (test x)) b line pass) next.1

past_end : (end : LineEnd) (xs front rest : List ℕ) → print_end end ++ xs ≡ front ++ 10 ∷ rest → (xs ≡ rest) ⊎ Later xs rest
past_end lf xs [] rest e = inl (ap tail e)
past_end lf xs (c ∷ front) rest e = inr (front, ap tail e)
past_end crlf xs [] rest e = absurd (eqb-false 13 10 refl (ap head e))
past_end crlf xs (c ∷ []) rest e = inl (ap tail (ap tail e))
past_end crlf xs (c ∷ d ∷ front) rest e = inr (front, ap tail (ap tail e))

-- the bytes behind the empty lines that come first
past_blank : (ends : List LineEnd) (xs front rest : List ℕ) → list_any is_other front ≡ true → print_blank ends ++ xs ≡ front ++ rest
    → (later : List ℕ) × (xs ≡ later ++ rest)
past_blank [] xs front rest any e = (front, e)
past_blank (lf ∷ ends) xs [] rest any e = absurd (both_ways false refl any)
past_blank (lf ∷ ends) xs (b ∷ front) rest any e =
    let any_at : list_any is_other (10 ∷ front) ≡ true = subst (λ (y : ℕ). list_any is_other (y ∷ front) ≡ true) (sym (ap head e)) any in
    past_blank ends xs front rest any_at (ap tail e)
past_blank (crlf ∷ ends) xs [] rest any e = absurd (both_ways false refl any)
past_blank (crlf ∷ ends) xs (b ∷ []) rest any e =
    let any_at : list_any is_other (13 ∷ []) ≡ true = subst (λ (y : ℕ). list_any is_other (y ∷ []) ≡ true) (sym (ap head e)) any in
    absurd (both_ways false refl any_at)
past_blank (crlf ∷ ends) xs (b ∷ c ∷ front) rest any e =
    let first : list_any is_other (13 ∷ c ∷ front) ≡ true = subst (λ (y : ℕ). list_any is_other (y ∷ c ∷ front) ≡ true) (sym (ap head e)) any in
    let second : list_any is_other (10 ∷ front) ≡ true = subst (λ (y : ℕ). list_any is_other (y ∷ front) ≡ true) (sym (ap head (ap tail e))) first in
    past_blank ends xs front rest second (ap tail (ap tail e))

end_size : (end : LineEnd) → (1 ≤ length (print_end end)) × (length (print_end end) ≤ 2)
end_size lf = (omega arith, omega arith)
end_size crlf = (omega arith, omega arith)

-- where the bytes behind the empty line are those of `back`
one_end : (last end : LineEnd) (back : List ℕ) → print_end last ≡ print_end end ++ back → back ≡ []
one_end lf lf back e = sym (ap tail e)
one_end lf crlf back e = absurd (eqb-false 10 13 refl (ap head e))
one_end crlf lf back e = absurd (eqb-false 13 10 refl (ap head e))
one_end crlf crlf back e = sym (ap tail (ap tail e))

field_text : (f : Field) (xs : List ℕ) → print_field f ++ xs ≡ f.name ++ (58 ∷ (f.raw ++ (print_end f.end ++ xs)))
field_text f xs = regroup f.name f.raw (print_end f.end) xs
  where
    regroup : (a b c r : List ℕ) → (a ++ 58 ∷ b ++ c) ++ r ≡ a ++ (58 ∷ (b ++ (c ++ r)))
    regroup a b c r =
        append_assoc (a ++ 58 ∷ b) c r ∙ append_assoc a (58 ∷ b) (c ++ r)

section_text : (f : Field) (fields : List Field) (last : LineEnd) → print_section (f ∷ fields) last ≡ print_field f ++ print_section fields last
section_text f fields last = append_assoc (print_field f) (flat_map print_field fields) (print_end last)

-- a field doesn't begin with a line end
no_line : (f : Field) (xs : List ℕ) (end : LineEnd) (back : List ℕ) → IsField f → f.name ++ xs ≡ print_end end ++ back → ⊥
no_line f xs end back is e = starts f.name is.name.0 is.name.1 end e
  where
    starts : (name : List ℕ) → 0 < length name → AllPass is_token_byte name → (end : LineEnd) → name ++ xs ≡ print_end end ++ back → ⊥
    starts [] some pass end e = absurd (omega (arith, some))
    starts (b ∷ name) some pass lf e = both_ways (is_token_byte 10) token_lf (ap is_token_byte (sym (ap head e)) ∙ All-head (λ (x : ℕ). IsTrue (is_token_byte x)) b name pass)
    starts (b ∷ name) some pass crlf e = both_ways (is_token_byte 13) token_cr (ap is_token_byte (sym (ap head e)) ∙ All-head (λ (x : ℕ). IsTrue (is_token_byte x)) b name pass)

-- behind an empty line nothing follows, nor behind one that comes later
empty_here : (fields : List Field) (last end : LineEnd) (back : List ℕ) → All IsField fields → print_section fields last ≡ print_end end ++ back → back ≡ []
empty_here [] last end back are e = one_end last end back e
empty_here (f ∷ fields) last end back are e =
    absurd (no_line f _ end back (All-head IsField f fields are) (sym (field_text f (print_section fields last)) ∙ sym (section_text f fields last) ∙ e))

empty_later : (fields : List Field) (last end : LineEnd) (back front : List ℕ) → All IsField fields → print_section fields last ≡ front ++ 10 ∷ (print_end end ++ back) → back ≡ []
empty_later [] last end back front are e =
    let size : length (print_end last) ≡ length (front ++ 10 ∷ (print_end end ++ back)) = ap (λ (y : List ℕ). length y) e in
    nil_from_length back (omega (arith, size, length-append front (10 ∷ (print_end end ++ back)), length-append (print_end end) back, (end_size last).1, (end_size end).0))
empty_later (f ∷ fields) last end back front are e =
    let is = All-head IsField f fields are in
    let rest = print_end end ++ back in
    let name = past is_token_byte token_lf f.name _ front rest is.name.1 (sym (field_text f (print_section fields last)) ∙ sym (section_text f fields last) ∙ e) in
    let colon = past_byte 58 _ name.0 rest (eqb-false 58 10 refl) name.1 in
    let raw = past is_value_byte refl f.raw _ colon.0 rest is.raw colon.1 in
    elim (past_end f.end (print_section fields last) raw.0 rest raw.1) [
      | inl here ↦ empty_here fields last end back (All-tail IsField f fields are) here
      | inr later ↦ empty_later fields last end back later.0 (All-tail IsField f fields are) later.1
    ]

abbrev not_lf : ℕ → Bool
not_lf b = not (b == 10)

-- a head ends with the first empty line
pub ends_empty : (h : RequestHead) → IsRequestHead h → (front : List ℕ) (end : LineEnd) (back : List ℕ) → list_any is_other front ≡ true
    → print_request h ≡ front ++ 10 ∷ (print_end end ++ back) → back ≡ []
ends_empty h is front end back any e =
    let rest = print_end end ++ back in
    let whole = sym (print_request-append h []) ∙ append-nil (print_request h) ∙ e in
    let blank = past_blank h.blank _ front (10 ∷ rest) any whole in
    let method = past is_token_byte token_lf h.method _ blank.0 rest is.method.1 blank.1 in
    let first = past_byte 32 _ method.0 rest (eqb-false 32 10 refl) method.1 in
    let target = past is_uri_byte refl h.target _ first.0 rest is.target.1 first.1 in
    let second = past_byte 32 _ target.0 rest (eqb-false 32 10 refl) target.1 in
    let words = codes "HTTP/1." in
    let version = past not_lf refl words _ second.0 rest (AllPass-from_list_all not_lf words refl) (sym (append_assoc words ((48 + h.minor) ∷ []) _) ∙ second.1) in
    let minor = past_byte (48 + h.minor) _ version.0 rest (λ same. absurd (omega (arith, same))) version.1 in
    let section : print_section h.fields h.last ++ [] ≡ print_section h.fields h.last = append-nil (print_section h.fields h.last) in
    elim (past_end h.line_end (print_section h.fields h.last ++ []) minor.0 rest minor.1) [
      | inl here ↦ empty_here h.fields h.last end back is.fields (sym section ∙ here)
      | inr later ↦ empty_later h.fields h.last end back later.0 is.fields (sym section ∙ later.1)
    ]

-- bytes that end in a target have no line behind a line that isn't empty
no_line_in_target : (bytes : List ℕ) → EndsInTarget bytes → (front rest : List ℕ) → list_any is_other front ≡ true → bytes ≡ front ++ 10 ∷ rest → ⊥
no_line_in_target bytes x front rest any e =
    let blank = x.0 in
    let method = x.1 in
    let target = x.2 in
    let text = sym (append_assoc (print_blank blank) method (32 ∷ target)) ∙ sym x.5 ∙ e in
    let start = past_blank blank (method ++ 32 ∷ target) front (10 ∷ rest) any text in
    let after = past is_token_byte token_lf method (32 ∷ target) start.0 rest x.3.1 start.1 in
    let space = past_byte 32 target after.0 rest (eqb-false 32 10 refl) after.1 in
    let end = past is_uri_byte refl target [] space.0 rest x.4 (append-nil target ∙ space.1) in
    no_bytes end.0 rest end.1

-- where bytes without a head may become one, no empty line is there yet
pub no_empty_line : (bytes : List ℕ) → HasNoRequest bytes → MayBecomeRequest bytes → HasEmptyLine bytes → ⊥
no_empty_line bytes none (inl may) line =
    let more = may.0 in
    let h = may.1 in
    let front = line.0 in
    let end = line.1 in
    let back = line.2 in
    let rest = print_end end ++ back in
    let spelled : bytes ++ more ≡ print_request h = may.2.1 ∙ append-nil (print_request h) in
    let both : bytes ++ more ≡ front ++ 10 ∷ (print_end end ++ (back ++ more)) =
    ap (λ (y : List ℕ). y ++ more) line.4 ∙ append_assoc front (10 ∷ rest) more ∙ ap (λ (y : List ℕ). front ++ 10 ∷ y) (append_assoc (print_end end) back more) in
    let nothing = ends_empty h may.2.0 front end (back ++ more) line.3 (sym spelled ∙ both) in
    let size : length (back ++ more) ≡ 0 = ap (λ (y : List ℕ). length y) nothing in
    let no_more : more ≡ [] = nil_from_length more (omega (arith, size, length-append back more)) in
    none h [] (may.2.0, sym (append-nil bytes) ∙ ap (λ (y : List ℕ). bytes ++ y) (sym no_more) ∙ may.2.1)
no_empty_line bytes none (inr target) line = no_line_in_target bytes target line.0 (print_end line.1 ++ line.2) line.3 line.4
