-- Texts that are written one after the other.
use Rattle.std.proofs.Common.{◌≡◌, ℕ, ◌+◌, ◌<◌, ◌≤◌, List, [], ◌∷◌, ◌++◌, length, take, drop, get_or, Option, Result, Ok, Err, refl, sym, ap, ◌∙◌, subst, append_assoc, append-nil, arith}
use Rattle.std.specs.Prelude.{flat_map}
use Rattle.std.specs.Io.KnownBytes.{Appends}
use Rattle.std.proofs.KnownBytes.{Appends-nil, Appends-trans}
use Rattle.std.proofs.lemmas.Grind.{take_at_read, flat_map-append}
use Rattle.std.proofs.lemmas.List.{take_all, take-append-drop}
use Rattle.dots_host.specs.Causes.{Rose}
use Rattle.dots_host.specs.Writing.{AppendsBeginning, Writes}
use Rattle.dots_host.proofs.WriteLemmas.{owes_lost, begun_longer, writes}
use Rattle.dots_host.specs.AgentWriting.{Wrote}

-- the texts of the first items were written, and nothing failed
pub record Begun {A : Type 0} (text : A → List ℕ) (items : List A) (index : ℕ) (old : Option (List ℕ)) (before : ℕ) (new : Option (List ℕ)) (now : ℕ) : Type 0 where
  pub wrote : Appends old new (flat_map text (take index items))
  pub same : now ≡ before

pub begun_none : {A : Type 0} (text : A → List ℕ) (items : List A) (old : Option (List ℕ)) (before : ℕ) → Begun text items 0 old before old before
begun_none text items old before = record { wrote = Appends-nil old; same = refl }

-- one more
one_more : {A : Type 0} (text : A → List ℕ) (items : List A) (index : ℕ) (item other : A) → index < length items → item ≡ get_or items index other
    → flat_map text (take index items) ++ text item ≡ flat_map text (take (index + 1) items)
one_more text items index item other within is =
    let more : take (index + 1) items ≡ take index items ++ item ∷ [] =
    (take_at_read items index other within).1 ∙ ap (λ x. take index items ++ x ∷ []) (sym is) in
    sym (ap (flat_map text) more ∙ flat_map-append text (take index items) (item ∷ []) ∙ ap (λ xs. flat_map text (take index items) ++ xs) (append-nil (text item)))

pub begun_more : {A : Type 0} (text : A → List ℕ) (items : List A) (index : ℕ) (item other : A) (old mid new : Option (List ℕ)) (before between now : ℕ) → index < length items
    → item ≡ get_or items index other → Begun text items index old before mid between → Appends mid new (text item) → now ≡ between
    → Begun text items (index + 1) old before new now
begun_more text items index item other old mid new before between now within is begun wrote same = record {
  wrote = subst (λ bytes. Appends old new bytes) (one_more text items index item other within is) (Appends-trans old mid new _ _ begun.wrote wrote);
  same = same ∙ begun.same;
}

-- what all come to, by the first ones, the next and the rest
by_parts : {A : Type 0} (text : A → List ℕ) (items : List A) (index : ℕ) (item other : A) → index < length items → item ≡ get_or items index other
    → flat_map text items ≡ flat_map text (take index items) ++ (text item ++ flat_map text (drop (index + 1) items))
by_parts text items index item other within is =
    ap (flat_map text) (sym (take-append-drop (index + 1) items))
    ∙ flat_map-append text (take (index + 1) items) (drop (index + 1) items)
    ∙ ap (λ xs. xs ++ flat_map text (drop (index + 1) items)) (sym (one_more text items index item other within is))
    ∙ append_assoc (flat_map text (take index items)) (text item) (flat_map text (drop (index + 1) items))

-- the next one couldn't be written whole
pub begun_lost : {A : Type 0} (text : A → List ℕ) (items : List A) (index : ℕ) (item other : A) (old mid new : Option (List ℕ)) (before between : ℕ) → index < length items
    → item ≡ get_or items index other → Begun text items index old before mid between → AppendsBeginning mid new (text item)
    → AppendsBeginning old new (flat_map text items)
begun_lost text items index item other old mid new before between within is begun part =
    owes_lost old mid new (flat_map text items) (text item) (flat_map text (drop (index + 1) items))
    (record { front = flat_map text (take index items); split = by_parts text items index item other within is; appends = begun.wrote })
    part

pub begun_all : {A : Type 0} (text : A → List ℕ) (items : List A) (index : ℕ) (old new : Option (List ℕ)) (before now : ℕ) → length items ≤ index
    → Begun text items index old before new now → Appends old new (flat_map text items)
begun_all text items index old new before now past begun = subst (λ xs. Appends old new (flat_map text xs)) (take_all _ _ past) begun.wrote

-- ---- the two ways out of a call that writes texts one after the other

pub all_wrote : {A E : Type 0} (text : A → List ℕ) (items : List A) (index : ℕ) (old new : Option (List ℕ)) (before now : ℕ) → length items ≤ index
    → Begun text items index old before new now → Wrote {E = E} old before new now (Ok tt) (flat_map text items)
all_wrote text items index old new before now past begun = record {
  ok = begun_all text items index old new before now past begun;
  err = tt;
  cause = record { later = omega (arith, begun.same); same = begun.same; rose = tt };
}

pub lost_one : {A E : Type 0} (text : A → List ℕ) (items : List A) (index : ℕ) (item other : A) (fault : E) (old mid new : Option (List ℕ)) (before between now : ℕ) → index < length items
    → item ≡ get_or items index other → Begun text items index old before mid between → AppendsBeginning mid new (text item) → between ≤ now → Rose between now
    → Wrote old before new now (Err fault) (flat_map text items)
lost_one text items index item other fault old mid new before between now within is begun part later rose = record {
  ok = tt;
  err = begun_lost text items index item other old mid new before between within is begun part;
  cause = record { later = omega (arith, later, begun.same); same = tt; rose = omega (arith, rose, begun.same) };
}

-- ---- two texts

pub wrote_both : {E : Type 0} (result : Result Unit E) (old mid new : Option (List ℕ)) (before between now : ℕ) (front back : List ℕ)
    → Wrote {E = E} old before mid between (Ok tt) front → Wrote mid between new now result back → Wrote old before new now result (front ++ back)
wrote_both (Ok done) old mid new before between now front back first second = record {
  ok = Appends-trans old mid new front back first.ok second.ok;
  err = tt;
  cause = record { later = omega (arith, first.cause.later, second.cause.later); same = second.cause.same ∙ first.cause.same; rose = tt };
}
wrote_both (Err fault) old mid new before between now front back first second = record {
  ok = tt;
  err = owes_lost old mid new (front ++ back) back [] (record { front = front; split = ap (λ xs. front ++ xs) (sym (append-nil back)); appends = first.ok }) second.err;
  cause = record { later = omega (arith, first.cause.later, second.cause.later); same = tt; rose = omega (arith, second.cause.rose, first.cause.same) };
}

pub wrote_first : {E : Type 0} (fault : E) (old new : Option (List ℕ)) (before now : ℕ) (front back : List ℕ)
    → Wrote old before new now (Err fault) front → Wrote old before new now (Err fault) (front ++ back)
wrote_first fault old new before now front back first = record { ok = tt; err = begun_longer old new front back first.err; cause = first.cause }

-- a text that was written, or for this cause a beginning of it
pub wrote_writes : {E : Type 0} (result : Result Unit E) (old new : Option (List ℕ)) (before now : ℕ) (text : List ℕ) → Wrote old before new now result text
    → Writes old new text (Rose before now)
wrote_writes result old new before now text wrote = writes result old new text (Rose before now) wrote.ok wrote.err wrote.cause.rose
