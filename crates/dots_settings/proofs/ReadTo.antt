-- How far a file has been read, from line to line.
use Rattle.std.proofs.Common.{◌≡◌, ◌==◌, ℕ, ◌+◌, ◌^◌, ◌<◌, ◌≤◌, Bool, true, false, cond, nat_lt, List, [], ◌∷◌, ◌++◌, length, refl, sym, ap, subst, ◌∙◌, append_assoc, append-nil, length-append, arith}
use Rattle.std.proofs.lemmas.List.{take_all}
use Rattle.std.proofs.lemmas.Bool.Decides.{nat_tests}
use Rattle.std.specs.List.{onto_first}
use Rattle.sha2.specs.Sha256.{sha256}
use Rattle.dots_settings.specs.declared.fault.SettingsFault.{SettingsFault}
use Rattle.dots_settings.specs.declared.fault.SettingsFault.TheVariants as fault
use Rattle.dots_settings.specs.declared.reading.Taken.{Taken}
use Rattle.dots_settings.specs.Lines.{lines_of, content_of}
use Rattle.dots_settings.specs.Row.{Row}
use Rattle.dots_settings.specs.Admitting.{draft_value}
use Rattle.dots_settings.specs.File.{Stand, HasFault, SettingsAre, SettingsFail, IsRefused, IsSound, is_past}
use Rattle.dots_settings.specs.Settings.{SettingsValue, settings_by, digest_text}
use Rattle.dots_settings.specs.Taking.{HasTaken, TakesLine, RefusesLine}

onto_past : (content : List ℕ) (byte : ℕ) (lines : List (List ℕ)) → is_past content (onto_first byte lines) ≡ false
onto_past content byte [] = refl
onto_past content byte (line ∷ lines) = refl

-- the last line hasn't been read where bytes are left
pub bytes_left : (content : List ℕ) (byte : ℕ) (rest : List ℕ) → is_past content (lines_of (byte ∷ rest)) ≡ false
bytes_left content byte rest = by (byte == 10)
  where
    by : (b : Bool) → is_past content (cond b ([] ∷ lines_of rest) (onto_first byte (lines_of rest))) ≡ false
    by true = refl
    by false = onto_past content byte (lines_of rest)

-- nothing has been read
pub at_start : (content : List ℕ) → is_past content (lines_of content) ≡ false
at_start [] = refl
at_start (byte ∷ rest) = bytes_left (byte ∷ rest) byte rest

-- of what was read the lines stand, and the rest is as the file has it
pub record IsReadTo (content rest : List ℕ) (taken : Taken) : Type 0 where
  pub lines : List (List ℕ)
  pub rows : List Row
  pub split : lines_of content ≡ lines ++ lines_of rest
  pub number : taken.number ≡ length lines
  pub has : HasTaken taken lines rows
  pub fits : taken.number + length rest ≤ length content
  pub before : is_past content (lines_of rest) ≡ false

pub read_line : (content rest line behind : List ℕ) (taken new : Taken) → IsReadTo content rest taken → lines_of rest ≡ line ∷ lines_of behind → length behind < length rest
    → is_past content (lines_of behind) ≡ false → TakesLine line (record taken { number = taken.number + 1 }) new → IsReadTo content behind new
read_line content rest line behind taken new read first shorter before takes =
    let more = takes.taken read.lines read.rows (omega (arith, read.number)) (record { stand = read.has.stand; said = read.has.said; hashed = read.has.hashed }) in
    record {
      lines = read.lines ++ line ∷ [];
      rows = more.0;
      split = read.split ∙ ap (λ xs. read.lines ++ xs) first ∙ sym (append_assoc read.lines (line ∷ []) (lines_of behind));
      number = takes.number ∙ ap (λ n. n + 1) read.number ∙ sym (length-append read.lines (line ∷ []));
      has = more.1;
      fits = omega (arith, takes.number, read.fits, shorter);
      before = before;
    }

whole : (content : List ℕ) → length content ≤ 2 ^ 16 + 1 → content_of content ≡ content
whole content small = take_all (2 ^ 16 + 1) content small

pub past_end : (content rest line behind : List ℕ) (taken : Taken) → IsReadTo content rest taken → length content ≤ 2 ^ 16 + 1 → lines_of rest ≡ line ∷ lines_of behind
    → is_past content (lines_of behind) ≡ true → SettingsFail content (fault.Capacity (taken.number + 1))
past_end content rest line behind taken read small first past = record {
  before = read.lines;
  line = line;
  behind = lines_of behind;
  split = ap lines_of (whole content small) ∙ read.split ∙ ap (λ xs. read.lines ++ xs) first;
  rows = read.rows;
  stand = read.has.stand;
  at_fault = rw past (ap (λ n. fault.Capacity (n + 1)) read.number);
}

failed : (content rest line behind : List ℕ) (taken : Taken) (why : SettingsFault) → IsReadTo content rest taken → length content ≤ 2 ^ 16 + 1 → lines_of rest ≡ line ∷ lines_of behind
    → is_past content (lines_of behind) ≡ false
    → ((lines : List (List ℕ)) (rows : List Row) → HasTaken (record taken { number = taken.number + 1 }) lines rows → HasFault rows (taken.number + 1) line why) → SettingsFail content why
failed content rest line behind taken why read small first before fault = record {
  before = read.lines;
  line = line;
  behind = lines_of behind;
  split = ap lines_of (whole content small) ∙ read.split ∙ ap (λ xs. read.lines ++ xs) first;
  rows = read.rows;
  stand = read.has.stand;
  at_fault =
      let here = fault read.lines read.rows (record { stand = read.has.stand; said = read.has.said; hashed = read.has.hashed }) in
      rw before (subst (λ n. HasFault read.rows (n + 1) line why) read.number here);
}

pub refused_line : (content rest line behind : List ℕ) (taken : Taken) (why : SettingsFault) → IsReadTo content rest taken → length content ≤ 2 ^ 16 + 1 → lines_of rest ≡ line ∷ lines_of behind
    → is_past content (lines_of behind) ≡ false → RefusesLine line (record taken { number = taken.number + 1 }) why → IsRefused content why
refused_line content rest line behind taken (fault.Line n) read small first before fault = failed content rest line behind taken _ read small first before fault
refused_line content rest line behind taken (fault.Twice n) read small first before fault = failed content rest line behind taken _ read small first before fault
refused_line content rest line behind taken (fault.Unknown n) read small first before fault = failed content rest line behind taken _ read small first before fault
refused_line content rest line behind taken (fault.Overlap a b) read small first before fault = failed content rest line behind taken _ read small first before fault
refused_line content rest line behind taken (fault.Capacity n) read small first before fault = failed content rest line behind taken _ read small first before fault
refused_line content rest line behind taken fault.ReadFault read small first before fault = tt
refused_line content rest line behind taken fault.NoMemory read small first before fault = tt

pub sound : (content rest : List ℕ) (taken : Taken) → IsReadTo content rest taken → IsSound (draft_value taken.draft)
sound content rest taken read = (read.rows, read.lines, read.has.stand, read.has.said)

not_long : (content : List ℕ) → nat_lt (2 ^ 16) (length content) ≡ false → length content ≤ 2 ^ 16
not_long content e = grind (arith, nat_tests)

pub read_whole : (content rest digest : List ℕ) (taken : Taken) (settings : SettingsValue) (read : IsReadTo content rest taken) → length content ≤ 2 ^ 16 + 1 → lines_of rest ≡ []
    → digest ≡ sha256 (digest_text read.rows) → settings ≡ settings_by (draft_value taken.draft) taken.number digest → SettingsAre content settings
read_whole content rest digest taken settings read small none hashed given =
    let all : lines_of (content_of content) ≡ read.lines = ap lines_of (whole content small) ∙ read.split ∙ ap (λ xs. read.lines ++ xs) none ∙ append-nil read.lines in
    let lines : taken.number ≡ length (lines_of content) = read.number ∙ ap length (sym (read.split ∙ ap (λ xs. read.lines ++ xs) none ∙ append-nil read.lines)) in
    let before : is_past content [] ≡ false = subst (λ (xs : List (List ℕ)). is_past content xs ≡ false) none read.before in
    record {
      rows = read.rows;
      stand = subst (λ (xs : List (List ℕ)). Stand xs read.rows) (sym all) read.has.stand;
      short = not_long content before;
      given = given ∙ (λ i. settings_by (read.has.said i) (lines i) (hashed i));
    }

-- no more lines have been read than a file has bytes at most
pub few_read : (content rest : List ℕ) (taken : Taken) → IsReadTo content rest taken → lines_of rest ≡ [] → taken.number ≤ 2 ^ 16
few_read content rest taken read none =
    let short = not_long content (subst (λ (xs : List (List ℕ)). is_past content xs ≡ false) none read.before) in
    omega (arith, short, read.fits)

pub some_left : (content rest : List ℕ) → 0 < length rest → is_past content (lines_of rest) ≡ false
some_left content [] some = absurd (omega arith)
some_left content (byte ∷ rest) some = bytes_left content byte rest
