-- Parts of a text that were written, and what is still owed.
use Rattle.std.proofs.Common.{◌≡◌, ℕ, ◌+◌, ◌-◌, inl, inr, Result, Ok, Err, OnOk, OnErr, List, [], ◌++◌, length, take, drop, Option, refl, sym, ap, ◌∙◌, append_assoc, arith, length-drop}
use Rattle.std.specs.Io.KnownBytes.{Appends, Keeps}
use Rattle.std.proofs.KnownBytes.{Appends-nil, Appends-trans, Appends-kept}
use Rattle.std.proofs.lemmas.List.{take_all, take-append-drop, append-nil}
use Rattle.std.proofs.Math.Seq.{take-add}
use Rattle.dots_host.specs.Writing.{Owes, AppendsBeginning, Writes}

pub rest_of : (text : List ℕ) (from : ℕ) → take (length text - from) (drop from text) ≡ drop from text
rest_of text from = take_all _ _ (omega (arith, length-drop from text))

-- a part of the rest was written
pub wrote_more : (a b c : Option (List ℕ)) (text : List ℕ) (written count : ℕ) → Appends a b (take written text) → Appends b c (take count (take (length text - written) (drop written text)))
    → Appends a c (take (written + count) text)
wrote_more a b c text written count first second =
    let next : Appends b c (take count (drop written text)) = rw rest_of at second in
    rw (take-add written count text) (Appends-trans a b c (take written text) (take count (drop written text)) first next)

-- a write failed, and what was written before is a beginning
pub wrote_front : (a b c : Option (List ℕ)) (text : List ℕ) (written : ℕ) → Appends a b (take written text) → Keeps b c → AppendsBeginning a c text
wrote_front a b c text written first kept = record {
  front = take written text;
  rest = drop written text;
  split = sym (take-append-drop written text);
  appends = Appends-kept a b c (take written text) first kept;
}

-- nothing was written yet
pub owes_all : (a : Option (List ℕ)) (text : List ℕ) → Owes a a text text
owes_all a text = record { front = []; split = refl; appends = Appends-nil a }

pub owes_less : (a b c : Option (List ℕ)) (text piece rest : List ℕ) → Owes a b text (piece ++ rest) → Appends b c piece → Owes a c text rest
owes_less a b c text piece rest owes wrote = record {
  front = owes.front ++ piece;
  split = owes.split ∙ sym (append_assoc owes.front piece rest);
  appends = Appends-trans a b c owes.front piece owes.appends wrote;
}

pub owes_none : (a b : Option (List ℕ)) (text : List ℕ) → Owes a b text [] → Appends a b text
owes_none a b text owes =
    let whole : text ≡ owes.front = owes.split ∙ append-nil owes.front in
    rw whole owes.appends

pub owes_lost : (a b c : Option (List ℕ)) (text piece rest : List ℕ) → Owes a b text (piece ++ rest) → AppendsBeginning b c piece → AppendsBeginning a c text
owes_lost a b c text piece rest owes part = record {
  front = owes.front ++ part.front;
  rest = part.rest ++ rest;
  split = owes.split ∙ ap (λ xs. owes.front ++ (xs ++ rest)) part.split ∙ ap (λ xs. owes.front ++ xs) (append_assoc part.front part.rest rest) ∙ sym (append_assoc owes.front part.front (part.rest ++ rest));
  appends = Appends-trans a b c owes.front part.front owes.appends part.appends;
}

-- a beginning of a text is one of the text that goes on
pub begun_longer : (a b : Option (List ℕ)) (text more : List ℕ) → AppendsBeginning a b text → AppendsBeginning a b (text ++ more)
begun_longer a b text more part = record {
  front = part.front;
  rest = part.rest ++ more;
  split = ap (λ xs. xs ++ more) part.split ∙ append_assoc part.front part.rest more;
  appends = part.appends;
}

same_text : (text front rest more : List ℕ) → text ≡ front ++ rest → text ++ more ≡ front ++ (rest ++ more)
same_text text front rest more split = ap (λ xs. xs ++ more) split ∙ append_assoc front rest more

-- more is gathered, after which other bytes are owed
pub owes_then : (a b c : Option (List ℕ)) (text rest more owed : List ℕ) → Owes a b text rest → Owes b c (rest ++ more) owed → Owes a c (text ++ more) owed
owes_then a b c text rest more owed first second = record {
  front = first.front ++ second.front;
  split = same_text text first.front rest more first.split ∙ ap (λ xs. first.front ++ xs) second.split ∙ sym (append_assoc first.front second.front owed);
  appends = Appends-trans a b c first.front second.front first.appends second.appends;
}

-- more was to be gathered, and the sink failed
pub owes_begun : (a b c : Option (List ℕ)) (text rest more : List ℕ) → Owes a b text rest → AppendsBeginning b c (rest ++ more) → AppendsBeginning a c (text ++ more)
owes_begun a b c text rest more first part = record {
  front = first.front ++ part.front;
  rest = part.rest;
  split = same_text text first.front rest more first.split ∙ ap (λ xs. first.front ++ xs) part.split ∙ sym (append_assoc first.front part.front part.rest);
  appends = Appends-trans a b c first.front part.front first.appends part.appends;
}

-- a call that writes a text writes it, or a beginning of it where it failed
pub writes : {A E : Type 0} (result : Result A E) (a b : Option (List ℕ)) (text : List ℕ) (cause : Type 0) → OnOk result (Appends a b text) → OnErr result (AppendsBeginning a b text) → OnErr result cause → Writes a b text cause
writes (Ok x) a b text cause ok err rose = inl ok
writes (Err e) a b text cause ok err rose = inr (err, rose)
