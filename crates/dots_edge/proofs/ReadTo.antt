-- How far a host file has been read, from line to line.
use Rattle.std.proofs.Common.{◌≡◌, ℕ, ◌+◌, ◌<◌, ◌≤◌, Bool, true, false, Result, Ok, Err, List, [], ◌∷◌, ◌++◌, length, refl, sym, ap, subst, ◌∙◌, append_assoc, append-nil, length-append, arith}
use Rattle.std.specs.Prelude.{OnOk, IfErr}
use Rattle.std.specs.Bool.{MatchBool}
use Rattle.dots_lists.specs.Lines.{lines_of, is_skipped}
use Rattle.dots_edge.specs.HostLine.{LineValue, Says}
use Rattle.dots_edge.specs.HostFile.{AreSaid, Joins, AreJoined, Stand, HasFault, IsAdded, FileFails, IsRefused, Takes}
use Rattle.dots_edge.specs.declared.host_fault.HostFault.{HostFault}
use Rattle.dots_edge.specs.declared.host_fault.HostFault.TheVariants as fault

-- one more line, which is skipped
said_then_skipped : (lines : List (List ℕ)) (values : List LineValue) (line : List ℕ) → AreSaid lines values → is_skipped line ≡ true → AreSaid (lines ++ line ∷ []) values
said_then_skipped [] values line are skipped = rw skipped are
said_then_skipped (first ∷ lines) values line are skipped = by (λ later are. said_then_skipped lines later line are skipped) (is_skipped first) are
  where
    by : ((later : List LineValue) → AreSaid lines later → AreSaid (lines ++ line ∷ []) later) → (b : Bool)
        → MatchBool b (AreSaid lines values) ((value : LineValue) × (later : List LineValue) × Says first value × (values ≡ value ∷ later) × AreSaid lines later)
        → MatchBool b (AreSaid (lines ++ line ∷ []) values) ((value : LineValue) × (later : List LineValue) × Says first value × (values ≡ value ∷ later) × AreSaid (lines ++ line ∷ []) later)
    by behind true are = behind values are
    by behind false (value, later, says, is, are) = (value, later, says, is, behind later are)

-- one more line, which says something
said_then_more : (lines : List (List ℕ)) (values : List LineValue) (line : List ℕ) (more : LineValue) → AreSaid lines values → is_skipped line ≡ false → Says line more
    → AreSaid (lines ++ line ∷ []) (values ++ more ∷ [])
said_then_more [] values line more are unskipped says =
    let only : values ++ more ∷ [] ≡ more ∷ [] = ap (λ xs. xs ++ more ∷ []) are in
    rw unskipped (more, [], says, only, refl)
said_then_more (first ∷ lines) values line more are unskipped says = by (λ later are. said_then_more lines later line more are unskipped says) (is_skipped first) are
  where
    by : ((later : List LineValue) → AreSaid lines later → AreSaid (lines ++ line ∷ []) (later ++ more ∷ [])) → (b : Bool)
        → MatchBool b (AreSaid lines values) ((value : LineValue) × (later : List LineValue) × Says first value × (values ≡ value ∷ later) × AreSaid lines later)
        → MatchBool b (AreSaid (lines ++ line ∷ []) (values ++ more ∷ []))
        ((value : LineValue) × (later : List LineValue) × Says first value × (values ++ more ∷ [] ≡ value ∷ later) × AreSaid (lines ++ line ∷ []) later)
    by behind true are = behind values are
    by behind false (value, later, says, is, are) = (value, later ++ more ∷ [], says, ap (λ xs. xs ++ more ∷ []) is, behind later are)

-- one more thing, which joins them
joined_then : (before values : List LineValue) (more : LineValue) → AreJoined before values → Joins (before ++ values) more → AreJoined before (values ++ more ∷ [])
joined_then before [] more are new = (subst (λ (xs : List LineValue). Joins xs more) (append-nil before) new, tt)
joined_then before (first ∷ values) more are new =
    (are.0, joined_then (before ++ first ∷ []) values more are.1 (subst (λ (xs : List LineValue). Joins xs more) (sym (append_assoc before (first ∷ []) values)) new))

pub stand_none : Stand [] []
stand_none = record { said = refl; joined = tt }

-- one more line was taken
pub stand_then : (lines : List (List ℕ)) (old new : List LineValue) (line : List ℕ) → Stand lines old → Takes line old new → Stand (lines ++ line ∷ []) new
stand_then lines old new line stand takes = by (is_skipped line) refl takes
  where
    by : (b : Bool) → is_skipped line ≡ b
        → MatchBool b (new ≡ old) ((value : LineValue) × Says line value × Joins old value × (new ≡ old ++ value ∷ []))
        → Stand (lines ++ line ∷ []) new
    by true skipped same = record {
      said = said_then_skipped lines new line (subst (AreSaid lines) (sym same) stand.said) skipped;
      joined = subst (AreJoined []) (sym same) stand.joined;
    }
    by false unskipped (value, says, joins, is) = record {
      said = subst (AreSaid (lines ++ line ∷ [])) (sym is) (said_then_more lines old line value stand.said unskipped says);
      joined = subst (AreJoined []) (sym is) (joined_then [] old value stand.joined joins);
    }

-- of what was read the lines stand, and the rest is as the file has it
pub record IsReadTo (file rest : List ℕ) (number : ℕ) (values : List LineValue) : Type 0 where
  pub lines : List (List ℕ)
  pub split : lines_of file ≡ lines ++ lines_of rest
  pub counted : number ≡ length lines
  pub stand : Stand lines values
  pub fits : number + length rest ≤ length file

pub at_start : (file : List ℕ) → IsReadTo file file 0 []
at_start file = record { lines = []; split = refl; counted = refl; stand = stand_none; fits = omega arith }

pub read_line : (file rest line behind : List ℕ) (number : ℕ) (old new : List LineValue) → IsReadTo file rest number old → lines_of rest ≡ line ∷ lines_of behind → length behind < length rest
    → Takes line old new → IsReadTo file behind (number + 1) new
read_line file rest line behind number old new read first shorter takes = record {
  lines = read.lines ++ line ∷ [];
  split = read.split ∙ ap (λ xs. read.lines ++ xs) first ∙ sym (append_assoc read.lines (line ∷ []) (lines_of behind));
  counted = ap (λ n. n + 1) read.counted ∙ sym (length-append read.lines (line ∷ []));
  stand = stand_then read.lines old new line read.stand takes;
  fits = omega (arith, read.fits, shorter);
}

failed : (file rest line behind : List ℕ) (number : ℕ) (values : List LineValue) (told : HostFault) → IsReadTo file rest number values → lines_of rest ≡ line ∷ lines_of behind
    → HasFault values (number + 1) line told → FileFails file told
failed file rest line behind number values told read first fault = record {
  before = read.lines;
  line = line;
  behind = lines_of behind;
  split = read.split ∙ ap (λ xs. read.lines ++ xs) first;
  values = values;
  stand = read.stand;
  at_fault = subst (λ n. HasFault values (n + 1) line told) read.counted fault;
}

pub refused_line : (file rest line behind : List ℕ) (number : ℕ) (values : List LineValue) (told : HostFault) → IsReadTo file rest number values → lines_of rest ≡ line ∷ lines_of behind
    → HasFault values (number + 1) line told → IsRefused file told
refused_line file rest line behind number values (fault.Line n) read first at = failed file rest line behind number values _ read first at
refused_line file rest line behind number values (fault.Twice n) read first at = failed file rest line behind number values _ read first at
refused_line file rest line behind number values (fault.Many n) read first at = failed file rest line behind number values _ read first at
refused_line file rest line behind number values (fault.Wildcard n) read first at = failed file rest line behind number values _ read first at
refused_line file rest line behind number values fault.NoMemory read first at = tt

pub read_whole : (file rest : List ℕ) (number : ℕ) (values : List LineValue) → IsReadTo file rest number values → lines_of rest ≡ [] → Stand (lines_of file) values
read_whole file rest number values read none =
    let all : lines_of file ≡ read.lines = read.split ∙ ap (λ xs. read.lines ++ xs) none ∙ append-nil read.lines in
    subst (λ (xs : List (List ℕ)). Stand xs values) (sym all) read.stand

-- a line that says something was added to what stood, or has the fault
pub added : (line : List ℕ) (value : LineValue) (number : ℕ) (old new : List LineValue) (result : Result (Unit {0}) HostFault) → false ≡ is_skipped line → Says line value
    → IsAdded value number old new result → OnOk result (Takes line old new)
added line value number old new (Ok done) unskipped says are = rw (sym unskipped) (value, says, are.0, are.1)
added line value number old new (Err fault) unskipped says are = tt

pub not_added : (line : List ℕ) (value : LineValue) (number : ℕ) (old new : List LineValue) (result : Result (Unit {0}) HostFault) → false ≡ is_skipped line → Says line value
    → IsAdded value number old new result → IfErr result (HasFault old number line)
not_added line value number old new (Ok done) unskipped says are = tt
not_added line value number old new (Err (fault.Line n)) unskipped says are = absurd are
not_added line value number old new (Err (fault.Twice n)) unskipped says are = (are.0, sym unskipped, value, says, are.1)
not_added line value number old new (Err (fault.Many n)) unskipped says are = (are.0, sym unskipped, value, says, are.1)
not_added line value number old new (Err (fault.Wildcard n)) unskipped says are = (are.0, sym unskipped, value, says, are.1)
not_added line value number old new (Err fault.NoMemory) unskipped says are = tt
