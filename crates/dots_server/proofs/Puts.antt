-- Texts that are put one after the other.
use Rattle.std.proofs.Common.{◌≡◌, ℕ, ◌<◌, ◌≤◌, Bool, true, false, zero, suc, List, [], ◌∷◌, ◌++◌, length, get_or, take, flat_map, Option, sym, ap, ◌∙◌, subst, arith, append_assoc, append-nil}
use Rattle.std.specs.Io.KnownBytes.{Appends}
use Rattle.dots_host.specs.Causes.{Rose}
use Rattle.dots_host.specs.Writing.{Owes, AppendsBeginning}
use Rattle.dots_host.proofs.WriteLemmas.{owes_less, owes_none, owes_lost, begun_longer}
use Rattle.dots_server.specs.Gathering.{Gathered, Sunk, HasWritten, Puts}

-- nothing is put
pub puts_nothing : (now : Sunk) (g : Gathered) → Puts now g now g []
puts_nothing now g = λ start written is. subst (HasWritten start now g.failed g.block) (sym (append-nil written)) is

pub puts_then : (a b c : Sunk) (g h i : Gathered) (x y : List ℕ) → Puts a g b h x → Puts b h c i y → Puts a g c i (x ++ y)
puts_then a b c g h i x y first second = λ start written is. subst (HasWritten start c i.failed i.block) (append_assoc written x y) (second start (written ++ x) (first start written is))

pub puts_same : (a b : Sunk) (g h : Gathered) (x y : List ℕ) → x ≡ y → Puts a g b h x → Puts a g b h y
puts_same a b g h x y is puts = subst (λ text. Puts a g b h text) is puts

-- ---- the calls of a gatherer

more_owed : (a b : Option (List ℕ)) (text rest more : List ℕ) → Owes a b text rest → Owes a b (text ++ more) (rest ++ more)
more_owed a b text rest more owes = record {
  front = owes.front;
  split = ap (λ xs. xs ++ more) owes.split ∙ append_assoc owes.front rest more;
  appends = owes.appends;
}

-- the bytes were gathered
pub puts_gathered : (now : Sunk) (g h : Gathered) (bytes : List ℕ) → h.block ≡ g.block ++ bytes → h.failed ≡ g.failed → Puts now g now h bytes
puts_gathered now g h bytes block failed = λ start written is.
    subst (λ failed. HasWritten start now failed h.block (written ++ bytes)) (sym failed)
    (subst (λ block. HasWritten start now g.failed block (written ++ bytes)) (sym block) (by_test g.failed start written is))
  where
    by_test : (b : Bool) (start : Sunk) (written : List ℕ) → HasWritten start now b g.block written → HasWritten start now b (g.block ++ bytes) (written ++ bytes)
    by_test true start written is = (begun_longer start.written now.written written bytes is.0, is.1, is.2)
    by_test false start written is = (more_owed start.written now.written written g.block bytes is.0, is.1)

-- once the sink has failed nothing changes
pub puts_failed : (now : Sunk) (g : Gathered) (bytes : List ℕ) → g.failed ≡ true → Puts now g now g bytes
puts_failed now g bytes failed = λ start written is.
    subst (λ b. HasWritten start now b g.block (written ++ bytes)) (sym failed)
    (still start written (subst (λ b. HasWritten start now b g.block written) failed is))
  where
    still : (start : Sunk) (written : List ℕ) → HasWritten start now true g.block written → HasWritten start now true g.block (written ++ bytes)
    still start written is = (begun_longer start.written now.written written bytes is.0, is.1, is.2)

rose_then : (start before now : ℕ) → before ≡ start → Rose before now → Rose start now
rose_then start before now is rose = subst (λ n. Rose n now) is rose

later_then : (start before now : ℕ) → before ≡ start → before ≤ now → start ≤ now
later_then start before now is later = subst (λ n. n ≤ now) is later

-- the block was written
pub puts_flushed : (a b : Sunk) (g h : Gathered) (block : List ℕ) → g.block ≡ block → g.failed ≡ false → h.block ≡ [] → h.failed ≡ false → Appends a.written b.written block → b.faults ≡ a.faults → Puts a g b h []
puts_flushed a b g h block gathered well none still wrote same = λ start written is.
    let old : HasWritten start a false block written = subst (λ f. HasWritten start a f block written) well (subst (λ block. HasWritten start a g.failed block written) gathered is) in
    let new : HasWritten start b false [] (written ++ []) = (
      subst (λ text. Owes start.written b.written text []) (sym (append-nil written)) (owes_less start.written a.written b.written written block [] (subst (Owes start.written a.written written) (sym (append-nil block)) old.0) wrote),
      same ∙ old.1,
    ) in
    subst (λ f. HasWritten start b f h.block (written ++ [])) (sym still) (subst (λ block. HasWritten start b false block (written ++ [])) (sym none) new)

-- or a beginning of it
pub puts_unflushed : (a b : Sunk) (g h : Gathered) (block : List ℕ) → g.block ≡ block → g.failed ≡ false → h.failed ≡ true → AppendsBeginning a.written b.written block → a.faults ≤ b.faults → Rose a.faults b.faults
    → Puts a g b h []
puts_unflushed a b g h block gathered well fails wrote later rose = λ start written is.
    let old : HasWritten start a false block written = subst (λ f. HasWritten start a f block written) well (subst (λ block. HasWritten start a g.failed block written) gathered is) in
    let new : HasWritten start b true h.block (written ++ []) = (
      subst (λ text. AppendsBeginning start.written b.written text) (sym (append-nil written)) (owes_lost start.written a.written b.written written block [] (subst (Owes start.written a.written written) (sym (append-nil block)) old.0) wrote),
      later_then start.faults a.faults b.faults old.1 later,
      rose_then start.faults a.faults b.faults old.1 rose,
    ) in
    subst (λ f. HasWritten start b f h.block (written ++ [])) (sym fails) new

whole_owed : (a b c : Option (List ℕ)) (text bytes : List ℕ) → Owes a b text [] → Appends b c bytes → Owes a c (text ++ bytes) []
whole_owed a b c text bytes owes wrote =
    owes_less a b c (text ++ bytes) bytes [] (subst (λ rest. Owes a b (text ++ bytes) rest) (sym (append-nil bytes)) (more_owed a b text [] bytes owes)) wrote

-- bytes were written where nothing was gathered
pub puts_written : (a b : Sunk) (g : Gathered) (bytes : List ℕ) → g.failed ≡ false → g.block ≡ [] → Appends a.written b.written bytes → b.faults ≡ a.faults → Puts a g b g bytes
puts_written a b g bytes failed none wrote same = λ start written is.
    let old : HasWritten start a false [] written = subst (λ f. HasWritten start a f [] written) failed (subst (λ block. HasWritten start a g.failed block written) none is) in
    let new : HasWritten start b false [] (written ++ bytes) = (whole_owed start.written a.written b.written written bytes old.0 wrote, same ∙ old.1) in
    subst (λ f. HasWritten start b f g.block (written ++ bytes)) (sym failed) (subst (λ block. HasWritten start b false block (written ++ bytes)) (sym none) new)

pub puts_unwritten : (a b : Sunk) (g h : Gathered) (bytes : List ℕ) → g.failed ≡ false → g.block ≡ [] → h.failed ≡ true → AppendsBeginning a.written b.written bytes → a.faults ≤ b.faults → Rose a.faults b.faults → Puts a g b h bytes
puts_unwritten a b g h bytes failed none fails wrote later rose = λ start written is.
    let old : HasWritten start a false [] written = subst (λ f. HasWritten start a f [] written) failed (subst (λ block. HasWritten start a g.failed block written) none is) in
    let new : HasWritten start b true h.block (written ++ bytes) = (
      owes_lost start.written a.written b.written (written ++ bytes) bytes [] (subst (λ rest. Owes start.written a.written (written ++ bytes) rest) (sym (append-nil bytes)) (more_owed start.written a.written written [] bytes old.0)) wrote,
      later_then start.faults a.faults b.faults old.1 later,
      rose_then start.faults a.faults b.faults old.1 rose,
    ) in
    subst (λ f. HasWritten start b f h.block (written ++ bytes)) (sym fails) new

-- what was flushed last
pub finished_well : (start now : Sunk) (block text : List ℕ) → block ≡ [] → HasWritten start now false block text → Appends start.written now.written text
finished_well start now block text none is = owes_none start.written now.written text (subst (Owes start.written now.written text) none is.0)

-- ---- loops

module _ {X : Type 0} (f : X → List ℕ) where
  -- the texts of the elements up to one more
  pub flat_map_more : (xs : List X) (i : ℕ) (d : X) → i < length xs → flat_map f (take (suc i) xs) ≡ flat_map f (take i xs) ++ f (get_or xs i d)
  flat_map_more [] i d within = absurd (omega arith)
  flat_map_more (y ∷ ys) zero d within = append-nil (f y)
  flat_map_more (y ∷ ys) (suc i) d within = ap (λ rest. f y ++ rest) (flat_map_more ys i d (omega arith)) ∙ sym (append_assoc (f y) (flat_map f (take i ys)) (f (get_or ys i d)))

  pub puts_more : (a b c : Sunk) (g h k : Gathered) (before : List ℕ) (xs : List X) (i : ℕ) (d : X) (text : List ℕ) → i < length xs → text ≡ f (get_or xs i d)
      → Puts a g b h (before ++ flat_map f (take i xs)) → Puts b h c k text → Puts a g c k (before ++ flat_map f (take (suc i) xs))
  puts_more a b c g h k before xs i d text within is first second =
      puts_same a c g k ((before ++ flat_map f (take i xs)) ++ text) (before ++ flat_map f (take (suc i) xs))
      (ap (λ t. (before ++ flat_map f (take i xs)) ++ t) is ∙ append_assoc before (flat_map f (take i xs)) (f (get_or xs i d)) ∙ ap (λ rest. before ++ rest) (sym (flat_map_more xs i d within)))
      (puts_then a b c g h k (before ++ flat_map f (take i xs)) text first second)
