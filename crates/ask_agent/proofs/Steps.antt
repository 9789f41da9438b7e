-- How far a file has been read, from line to line.
use Rattle.std.proofs.Common.{◌≡◌, ◌==◌, ℕ, ◌+◌, ◌^◌, ◌<◌, ◌≤◌, ◌&&◌, Bool, true, false, cond, nat_lt, List, [], ◌∷◌, ◌++◌, length, take, min, length-take, Option, Some, None, Result, Ok, Err, is_none, refl, sym, ap, subst, ◌∙◌, append-nil, length-append, arith, true≢false, if◌then◌else◌, IfOk, IfErr, IfSome}
use Rattle.std.proofs.lemmas.Bool.Decides.{nat_tests}
use Rattle.std.proofs.lemmas.List.{take_all}
use Rattle.std.proofs.lemmas.List.Elements.{filter_map-append}
use Rattle.std.specs.List.{onto_first, filter_map, cons_option}
use Rattle.std.specs.Option.{option_map_or, option_to_list}
use Rattle.dots_lists.specs.Lines.{lines_of}
use Rattle.ask_agent.specs.declared.draft.Draft.{Draft}
use Rattle.ask_agent.specs.declared.fault.AskSettingsFault.{AskSettingsFault}
use Rattle.ask_agent.specs.declared.fault.AskSettingsFault.TheVariants as fault
use Rattle.ask_agent.specs.declared.line.Line.{Line}
use Rattle.ask_agent.specs.declared.line.Line.TheVariants as said
use Rattle.ask_agent.specs.declared.settings.AskSettings.{AskSettings}
use Rattle.ask_agent.specs.Lines.{line_says}
use Rattle.ask_agent.specs.SettingsSaid.{said_of, first_of, server_in, cuid_in, mid_in, number_in, ask_in, is_front, may_follow, settings_by}
use Rattle.ask_agent.specs.Admitting.{admitted, no_lines}
use Rattle.ask_agent.specs.File.{content_of, is_long, but_last, whole_lines, fitting, said_from, or_missing, meaning, meaning_by, IsRefused}
use Rattle.ask_agent.specs.Taking.{Takes, Refuses, is_past}

-- ---- what one more line says

one_or_none : {A : Type 0} (o : Option A) → cons_option o [] ≡ option_to_list o
one_or_none None = refl
one_or_none (Some x) = refl

more : {A : Type 0} (part : Line → Option A) (lines : List Line) (line : Line) → filter_map part (lines ++ line ∷ []) ≡ filter_map part lines ++ option_to_list (part line)
more part lines line = filter_map-append part lines (line ∷ []) ∙ ap (λ xs. filter_map part lines ++ xs) (one_or_none (part line))

-- the first of a list that had none
first_new : {A : Type 0} (xs : List A) (x : A) → is_none (first_of xs) ≡ true → first_of (xs ++ x ∷ []) ≡ Some x
first_new [] x none = refl
first_new (y ∷ xs) x none = absurd (true≢false (sym none))

both : (a b : Bool) → (a && b) ≡ true → (a ≡ true) × (b ≡ true)
both true b e = (refl, e)
both false b e = absurd (true≢false (sym e))

pub said_then : (lines : List Line) (line : Line) → may_follow (said_of lines) line ≡ true → said_of (lines ++ line ∷ []) ≡ admitted (said_of lines) line
said_then lines (said.Server peer) follows =
    let none = (both (is_front (said_of lines)) (is_none (first_of (filter_map server_in lines))) follows).1 in
    λ i. record {
      server = (ap first_of (more server_in lines (said.Server peer)) ∙ first_new (filter_map server_in lines) peer none) i;
      cuid = first_of ((more cuid_in lines (said.Server peer) ∙ append-nil (filter_map cuid_in lines)) i);
      mid = first_of ((more mid_in lines (said.Server peer) ∙ append-nil (filter_map mid_in lines)) i);
      number = first_of ((more number_in lines (said.Server peer) ∙ append-nil (filter_map number_in lines)) i);
      asks = (more ask_in lines (said.Server peer) ∙ append-nil (filter_map ask_in lines)) i;
    }
said_then lines (said.Cuid name) follows =
    let none = (both (is_front (said_of lines)) (is_none (first_of (filter_map cuid_in lines))) follows).1 in
    λ i. record {
      server = first_of ((more server_in lines (said.Cuid name) ∙ append-nil (filter_map server_in lines)) i);
      cuid = (ap first_of (more cuid_in lines (said.Cuid name)) ∙ first_new (filter_map cuid_in lines) name none) i;
      mid = first_of ((more mid_in lines (said.Cuid name) ∙ append-nil (filter_map mid_in lines)) i);
      number = first_of ((more number_in lines (said.Cuid name) ∙ append-nil (filter_map number_in lines)) i);
      asks = (more ask_in lines (said.Cuid name) ∙ append-nil (filter_map ask_in lines)) i;
    }
said_then lines (said.Mid mid) follows =
    let none = (both (is_front (said_of lines)) (is_none (first_of (filter_map mid_in lines))) follows).1 in
    λ i. record {
      server = first_of ((more server_in lines (said.Mid mid) ∙ append-nil (filter_map server_in lines)) i);
      cuid = first_of ((more cuid_in lines (said.Mid mid) ∙ append-nil (filter_map cuid_in lines)) i);
      mid = (ap first_of (more mid_in lines (said.Mid mid)) ∙ first_new (filter_map mid_in lines) mid none) i;
      number = first_of ((more number_in lines (said.Mid mid) ∙ append-nil (filter_map number_in lines)) i);
      asks = (more ask_in lines (said.Mid mid) ∙ append-nil (filter_map ask_in lines)) i;
    }
said_then lines (said.Number number) follows =
    let none = (both (is_front (said_of lines)) (is_none (first_of (filter_map number_in lines))) follows).1 in
    λ i. record {
      server = first_of ((more server_in lines (said.Number number) ∙ append-nil (filter_map server_in lines)) i);
      cuid = first_of ((more cuid_in lines (said.Number number) ∙ append-nil (filter_map cuid_in lines)) i);
      mid = first_of ((more mid_in lines (said.Number number) ∙ append-nil (filter_map mid_in lines)) i);
      number = (ap first_of (more number_in lines (said.Number number)) ∙ first_new (filter_map number_in lines) number none) i;
      asks = (more ask_in lines (said.Number number) ∙ append-nil (filter_map ask_in lines)) i;
    }
said_then lines (said.At at ask) follows = λ i. record {
  server = first_of ((more server_in lines (said.At at ask) ∙ append-nil (filter_map server_in lines)) i);
  cuid = first_of ((more cuid_in lines (said.At at ask) ∙ append-nil (filter_map cuid_in lines)) i);
  mid = first_of ((more mid_in lines (said.At at ask) ∙ append-nil (filter_map mid_in lines)) i);
  number = first_of ((more number_in lines (said.At at ask) ∙ append-nil (filter_map number_in lines)) i);
  asks = more ask_in lines (said.At at ask) i;
}

-- ---- whole lines

onto_last : (line : List ℕ) (byte : ℕ) (lines : List (List ℕ)) → but_last (line ∷ onto_first byte lines) ≡ line ∷ but_last (onto_first byte lines)
onto_last line byte [] = refl
onto_last line byte (next ∷ lines) = refl

-- a line behind which bytes are left isn't the last
whole_step : (long : Bool) (line behind : List ℕ) → is_past long behind ≡ false → whole_lines long (line ∷ lines_of behind) ≡ line ∷ whole_lines long (lines_of behind)
whole_step false line behind before = refl
whole_step true line [] before = absurd (true≢false before)
whole_step true line (byte ∷ behind) before = by (byte == 10)
  where
    by : (b : Bool) → but_last (line ∷ cond b ([] ∷ lines_of behind) (onto_first byte (lines_of behind))) ≡ line ∷ but_last (cond b ([] ∷ lines_of behind) (onto_first byte (lines_of behind)))
    by true = refl
    by false = onto_last line byte (lines_of behind)

-- and one that the byte after the 65,536th stands in is left out
whole_end : (long : Bool) (line behind : List ℕ) → is_past long behind ≡ true → (whole_lines long (line ∷ lines_of behind) ≡ []) × (length (lines_of behind) ≡ 0)
whole_end true line [] past = (refl, refl)
whole_end false line [] past = absurd (true≢false (sym past))
whole_end long line (byte ∷ behind) past = absurd (true≢false (sym past))

-- ---- from line to line

-- these lines have been said, and the rest of the file follows
pub record IsReadTo (content rest : List ℕ) (number : ℕ) (draft : Draft) : Type 0 where
  pub lines : List Line
  pub here : said_from [] (whole_lines (is_long content) (lines_of content)) ≡ said_from lines (whole_lines (is_long content) (lines_of rest))
  pub draft_is : draft ≡ said_of lines
  pub number_is : number ≡ length lines
  pub count : length (lines_of content) ≡ number + length (lines_of rest)
  pub fits : number + length rest ≤ length content

pub begun : (content : List ℕ) → IsReadTo content content 0 no_lines
begun content = record {
  lines = [];
  here = refl;
  draft_is = refl;
  number_is = refl;
  count = omega arith;
  fits = omega arith;
}

says_more : (before : List Line) (line : List ℕ) (behind : List (List ℕ)) (said : Line) → line_says line ≡ Some said → may_follow (said_of before) said ≡ true
    → said_from before (line ∷ behind) ≡ said_from (before ++ said ∷ []) behind
says_more before line behind said says follows =
    ap (λ o. option_map_or (λ more. said_from (before ++ more ∷ []) behind) (fitting before o) before) says
    ∙ ap (λ b. option_map_or (λ more. said_from (before ++ more ∷ []) behind) (if b then Some said else None) before) follows

pub taken_line : (content rest line behind : List ℕ) (number : ℕ) (draft new : Draft) → IsReadTo content rest number draft → lines_of rest ≡ line ∷ lines_of behind → length behind < length rest
    → is_past (is_long content) behind ≡ false → Takes line draft new → IsReadTo content behind (number + 1) new
taken_line content rest line behind number draft new read first shorter before takes =
    let follows : may_follow (said_of read.lines) takes.said ≡ true = subst (λ (d : Draft). may_follow d takes.said ≡ true) read.draft_is takes.follows in
    record {
      lines = read.lines ++ takes.said ∷ [];
      here = read.here
          ∙ ap (λ ls. said_from read.lines (whole_lines (is_long content) ls)) first
          ∙ ap (said_from read.lines) (whole_step (is_long content) line behind before)
          ∙ says_more read.lines line (whole_lines (is_long content) (lines_of behind)) takes.said takes.says follows;
      draft_is = takes.now ∙ ap (λ d. admitted d takes.said) read.draft_is ∙ sym (said_then read.lines takes.said follows);
      number_is = ap (λ n. n + 1) read.number_is ∙ sym (length-append read.lines (takes.said ∷ []));
      count = omega (arith, read.count, ap length first);
      fits = omega (arith, read.fits, shorter);
    }

-- ---- where it ends

whole : (content : List ℕ) → length content ≤ 2 ^ 16 + 1 → content_of content ≡ content
whole content small = take_all (2 ^ 16 + 1) content small

abbrev meaning_of : List ℕ → List ℕ → Result AskSettings ℕ
meaning_of content bytes = meaning_by (length (lines_of bytes)) (said_from [] (whole_lines (is_long content) (lines_of bytes)))

by_count : (lines : ℕ) (said : List Line) (test : Bool) → (length said == lines) ≡ test → meaning_by lines said ≡ (if test then or_missing lines (settings_by (said_of said)) else Err (length said + 1))
by_count lines said test is = ap (λ b. if b then or_missing lines (settings_by (said_of said)) else Err (length said + 1)) is

unequal : (n m : ℕ) → n < m → (n == m) ≡ false
unequal n m less = grind (arith, nat_tests)

equal : (n m : ℕ) → n ≡ m → (n == m) ≡ true
equal n m same = grind (arith, nat_tests)

-- the line behind those that have been said is at fault
stops : (content rest : List ℕ) (number : ℕ) (draft : Draft) (read : IsReadTo content rest number draft) → length content ≤ 2 ^ 16 + 1
    → said_from read.lines (whole_lines (is_long content) (lines_of rest)) ≡ read.lines → 0 < length (lines_of rest) → meaning content ≡ Err (number + 1)
stops content rest number draft read small last some =
    ap (meaning_of content) (whole content small)
    ∙ ap (meaning_by (length (lines_of content))) (read.here ∙ last)
    ∙ by_count (length (lines_of content)) read.lines false (unequal (length read.lines) (length (lines_of content)) (omega (arith, read.count, read.number_is, some)))
    ∙ ap (λ n. Err (n + 1)) (sym read.number_is)

some_lines : (rest line behind : List ℕ) → lines_of rest ≡ line ∷ lines_of behind → 0 < length (lines_of rest)
some_lines rest line behind first = omega (arith, ap length first)

-- since it is too long
pub past_end : (content rest line behind : List ℕ) (number : ℕ) (draft : Draft) → IsReadTo content rest number draft → length content ≤ 2 ^ 16 + 1 → lines_of rest ≡ line ∷ lines_of behind
    → is_past (is_long content) behind ≡ true → meaning content ≡ Err (number + 1)
past_end content rest line behind number draft read small first past =
    stops content rest number draft read small
    (ap (λ ls. said_from read.lines (whole_lines (is_long content) ls)) first ∙ ap (said_from read.lines) (whole_end (is_long content) line behind past).0)
    (some_lines rest line behind first)

-- since it says nothing that may stand there
no_more : (before : List Line) (line : List ℕ) (behind : List (List ℕ)) → ((said : Line) → line_says line ≡ Some said → may_follow (said_of before) said ≡ false) → said_from before (line ∷ behind) ≡ before
no_more before line behind none = by (line_says line) refl
  where
    by : (o : Option Line) → line_says line ≡ o → said_from before (line ∷ behind) ≡ before
    by None says = ap (λ o. option_map_or (λ more. said_from (before ++ more ∷ []) behind) (fitting before o) before) says
    by (Some said) says =
        ap (λ o. option_map_or (λ more. said_from (before ++ more ∷ []) behind) (fitting before o) before) says
        ∙ ap (λ b. option_map_or (λ more. said_from (before ++ more ∷ []) behind) (if b then Some said else None) before) (none said says)

pub refused_line : (content rest line behind : List ℕ) (number : ℕ) (draft : Draft) (why : AskSettingsFault) → IsReadTo content rest number draft → length content ≤ 2 ^ 16 + 1 → lines_of rest ≡ line ∷ lines_of behind
    → is_past (is_long content) behind ≡ false → Refuses line (number + 1) draft why → IsRefused content why
refused_line content rest line behind number draft (fault.Line n) read small first before refuses =
    stops content rest number draft read small
    (ap (λ ls. said_from read.lines (whole_lines (is_long content) ls)) first
    ∙ ap (said_from read.lines) (whole_step (is_long content) line behind before)
    ∙ no_more read.lines line (whole_lines (is_long content) (lines_of behind)) (λ said says. subst (λ (d : Draft). may_follow d said ≡ false) read.draft_is (refuses.1 said says)))
    (some_lines rest line behind first)
    ∙ ap Err (sym refuses.0)
refused_line content rest line behind number draft fault.ReadFault read small first before refuses = tt
refused_line content rest line behind number draft fault.NoMemory read small first before refuses = tt

-- all lines have been said
no_lines_whole : (long : Bool) (lines : List (List ℕ)) → lines ≡ [] → whole_lines long lines ≡ []
no_lines_whole true lines none = ap but_last none
no_lines_whole false lines none = none

pub at_end : (content rest : List ℕ) (number : ℕ) (draft : Draft) → IsReadTo content rest number draft → length content ≤ 2 ^ 16 + 1 → lines_of rest ≡ []
    → meaning content ≡ or_missing number (settings_by draft)
at_end content rest number draft read small none =
    let all : length (lines_of content) ≡ number = omega (arith, read.count, ap length none) in
    ap (meaning_of content) (whole content small)
    ∙ ap (meaning_by (length (lines_of content))) (read.here ∙ ap (said_from read.lines) (no_lines_whole (is_long content) (lines_of rest) none))
    ∙ by_count (length (lines_of content)) read.lines true (equal (length read.lines) (length (lines_of content)) (omega (arith, all, read.number_is)))
    ∙ (λ i. or_missing (all i) (settings_by (sym read.draft_is i)))

-- ---- a file means what its first 65,537 bytes do

few : (file : List ℕ) → length (content_of file) ≤ 2 ^ 16 + 1
few file = omega (arith, length-take (2 ^ 16 + 1) file)

longer : (n m : ℕ) → m ≡ min (2 ^ 16 + 1) n → nat_lt (2 ^ 16) m ≡ nat_lt (2 ^ 16) n
longer n m e = grind (arith, nat_tests)

pub meaning_of_file : (file : List ℕ) → meaning (content_of file) ≡ meaning file
meaning_of_file file =
    let again : content_of (content_of file) ≡ content_of file = take_all (2 ^ 16 + 1) (content_of file) (few file) in
    let long : is_long (content_of file) ≡ is_long file = longer (length file) (length (content_of file)) (length-take (2 ^ 16 + 1) file) in
    λ i. meaning_by (length (lines_of (again i))) (said_from [] (whole_lines (long i) (lines_of (again i))))

pub read_settings_are : (left : Option (List ℕ)) (bytes : List ℕ) (result : Result AskSettings AskSettingsFault) → IfSome left (λ file. bytes ≡ take (2 ^ 16 + 1) file)
    → IfOk result (λ settings. meaning bytes ≡ Ok settings) → IfOk result (λ settings. IfSome left (λ file. meaning file ≡ Ok settings))
read_settings_are left bytes (Err why) read is = tt
read_settings_are None bytes (Ok settings) read is = tt
read_settings_are (Some file) bytes (Ok settings) read is = sym (meaning_of_file file) ∙ ap meaning (sym read) ∙ is

refusal_of_file : (file bytes : List ℕ) (why : AskSettingsFault) → bytes ≡ content_of file → IsRefused bytes why → IsRefused file why
refusal_of_file file bytes (fault.Line n) read is = sym (meaning_of_file file) ∙ ap meaning (sym read) ∙ is
refusal_of_file file bytes fault.ReadFault read is = tt
refusal_of_file file bytes fault.NoMemory read is = tt

pub read_fault_is : (left : Option (List ℕ)) (bytes : List ℕ) (result : Result AskSettings AskSettingsFault) → IfSome left (λ file. bytes ≡ take (2 ^ 16 + 1) file) → IfErr result (IsRefused bytes)
    → IfErr result (λ why. IfSome left (λ file. IsRefused file why))
read_fault_is left bytes (Ok settings) read refused = tt
read_fault_is None bytes (Err why) read refused = tt
read_fault_is (Some file) bytes (Err why) read refused = refusal_of_file file bytes why read refused
