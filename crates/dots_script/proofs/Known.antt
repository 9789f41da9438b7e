-- What is known to come.
use Rattle.std.proofs.Common.{◌≡◌, ℕ, ◌+◌, ◌≤◌, List, ◌++◌, length, take, drop, Option, Some, None, sym, ap, ◌∙◌, append_assoc, arith, length-take-le, length-drop}
use Rattle.std.specs.Io.KnownBytes.{Consumes, Keeps}
use Rattle.std.proofs.lemmas.List.{take_all, take-append-le, drop-append-le}
use Rattle.std.proofs.Math.Seq.{take-add}
use Rattle.dots_script.specs.Lines.{to_come}

-- bytes that were read stand behind those that were read before
pub read_ahead : (a b : Option (List ℕ)) (ahead more : List ℕ) → Consumes a b more → Keeps (to_come ahead a) (to_come (ahead ++ more) b)
read_ahead None b ahead more c = tt
read_ahead (Some xs) None ahead more c = absurd c
read_ahead (Some xs) (Some ys) ahead more c = append_assoc ahead more ys ∙ ap (λ rest. ahead ++ rest) (sym c)

-- nothing was read
pub read_none : (a b : Option (List ℕ)) (ahead : List ℕ) → Keeps a b → Keeps (to_come ahead a) (to_come ahead b)
read_none None b ahead k = tt
read_none (Some xs) None ahead k = absurd k
read_none (Some xs) (Some ys) ahead k = ap (λ rest. ahead ++ rest) k

-- what stood between two places stands there, and more was read behind it
pub filled : (ahead between new : List ℕ) (start end count : ℕ) → start ≤ end → end ≤ length new → drop start (take end between) ≡ ahead → take end new ≡ take end between
    → drop start (take (end + count) new) ≡ ahead ++ take count (drop end new)
filled ahead between new start end count places within kept front =
    ap (λ xs. drop start xs) (take-add end count new)
    ∙ drop-append-le start (take end new) (take count (drop end new)) (omega (arith, length-take-le end new within))
    ∙ ap (λ xs. xs ++ take count (drop end new)) (ap (λ xs. drop start xs) front ∙ kept)

-- the room of a vector, written over whole
pub written_over : (room items : List ℕ) (count : ℕ) → length room ≡ count → take count (room ++ drop (length room) items) ≡ room
written_over room items count long = take-append-le count room (drop (length room) items) (omega arith) ∙ take_all count room (omega arith)

pub filled_known : (a b : Option (List ℕ)) (ahead more new : List ℕ) → new ≡ ahead ++ more → Consumes a b more → Keeps (to_come ahead a) (to_come new b)
filled_known a b ahead more new is c = rw is (read_ahead a b ahead more c)

pub part_length : (text : List ℕ) (from count : ℕ) → from + count ≤ length text → length (take count (drop from text)) ≡ count
part_length text from count within = length-take-le count (drop from text) (omega (arith, length-drop from text))
