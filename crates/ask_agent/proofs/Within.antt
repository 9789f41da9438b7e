-- The mid of settings is one that a client can begin with.
use Rattle.std.proofs.Common.{◌≡◌, ℕ, ◌≤◌, ◌&&◌, Bool, true, false, List, [], ◌∷◌, ◌++◌, length, decimal, ◌==◌, ◌+◌, Option, Some, None, Result, Ok, Err, IfSome, option_map, option_and_then, refl, sym, subst, arith, true≢false, if◌then◌else◌, bytes_eq}
use Rattle.std.specs.Prelude.{nat_le, codes, ⊤}
use Rattle.dots_lists.specs.Lines.{lines_of, fields_of}
use Rattle.std.specs.List.{filter_map, AllByRecursion}
use Rattle.std.specs.Option.{option_map_or}
use Rattle.std.specs.Str.Parse.{digits_value}
use Rattle.std.proofs.lemmas.Bool.Decides.{nat_tests}
use Rattle.dots_lists.specs.Numbers.{number_in, is_number_in}
use Rattle.dots_lists.specs.Name.{is_name}
use Rattle.dots_client.specs.Cuid.{cuid_text}
use Rattle.dots_client.specs.declared.ask.Ask.{Ask}
use Rattle.ask_agent.specs.declared.draft.Draft.{Draft}
use Rattle.ask_agent.specs.declared.line.Line.{Line}
use Rattle.ask_agent.specs.declared.line.Line.TheVariants as said
use Rattle.ask_agent.specs.declared.settings.AskSettings.{AskSettings}
use Rattle.ask_agent.specs.Lines.{line_says, fields_say, front_of, value_of, named, at_of, ask_of, word_in, bytes_in}
use Rattle.ask_agent.specs.SettingsSaid.{said_of, first_of, mid_in, settings_by, may_follow}
use Rattle.ask_agent.specs.File.{fitting, said_from, said_in, content_of, is_long, whole_lines, or_missing, meaning, IsMidFit}

abbrev IsFine : Line → Type 0
IsFine (said.Mid mid) = mid ≤ 3221225471
IsFine _ = ⊤

abbrev IsFound : Option Line → Type 0
IsFound None = ⊤
IsFound (Some line) = IsFine line

-- ---- a line

most : (n : ℕ) (rest : Bool) → (rest && nat_le n 3221225471) ≡ true → n ≤ 3221225471
most n true e = grind (arith, nat_tests)
most n false e = absurd (true≢false (sym e))

few_mid : (text : List ℕ) → IsFound (option_map said.Mid (number_in 0 3221225471 text))
few_mid text = by (is_number_in 0 3221225471 text) (most (digits_value 10 text) (bytes_eq (decimal (digits_value 10 text)) text && nat_le 0 (digits_value 10 text)))
  where
    by : (b : Bool) → (b ≡ true → digits_value 10 text ≤ 3221225471) → IsFound (option_map said.Mid (if b then Some (digits_value 10 text) else None))
    by true few = few refl
    by false few = tt

of_server : (o : Option ℕ) → IsFound (option_map said.Server o)
of_server None = tt
of_server (Some peer) = tt

of_number : (o : Option ℕ) → IsFound (option_map said.Number o)
of_number None = tt
of_number (Some number) = tt

of_name : (name : List ℕ) → IsFound (named name)
of_name name = by (is_name name)
  where
    by : (b : Bool) → IsFound (if b then Some (said.Cuid name) else None)
    by true = tt
    by false = tt

of_key : (o : Option (List ℕ)) → IsFound (option_and_then (λ key. named (cuid_text key)) o)
of_key None = tt
of_key (Some key) = of_name (cuid_text key)

fine_value : (word text : List ℕ) → IsFound (value_of word text)
fine_value word text = by (bytes_eq word (codes "server")) (bytes_eq word (codes "cuid")) (bytes_eq word (codes "spki")) (bytes_eq word (codes "mid")) (bytes_eq word (codes "number"))
  where
    by : (a b c d e : Bool) → IsFound (if a then option_map said.Server (word_in text) else if b then named text else if c then option_and_then (λ key. named (cuid_text key)) (bytes_in text)
        else if d then option_map said.Mid (number_in 0 3221225471 text) else if e then option_map said.Number (number_in 0 18446744073709551615 text) else None)
    by true b c d e = of_server (word_in text)
    by false true c d e = of_name text
    by false false true d e = of_key (bytes_in text)
    by false false false true e = few_mid text
    by false false false false true = of_number (number_in 0 18446744073709551615 text)
    by false false false false false = tt

of_ask : (at : Option ℕ) (asked : Option Ask) → IsFound (option_and_then (λ time. option_map (λ ask. said.At time ask) asked) at)
of_ask None asked = tt
of_ask (Some at) None = tt
of_ask (Some at) (Some ask) = tt

fine_fields : (fields : List (List ℕ)) → IsFound (fields_say fields)
fine_fields [] = tt
fine_fields (word ∷ fields) = by (bytes_eq word (codes "at")) fields
  where
    by : (b : Bool) (fields : List (List ℕ)) → IsFound (if b then at_of fields else front_of word fields)
    by true [] = tt
    by true (time ∷ fields) = of_ask (number_in 0 281474976710655 time) (ask_of fields)
    by false [] = tt
    by false (text ∷ []) = fine_value word text
    by false (text ∷ other ∷ fields) = tt

-- ---- the lines

fine_more : (before : List Line) (line : Line) → AllByRecursion IsFine before → IsFine line → AllByRecursion IsFine (before ++ line ∷ [])
fine_more [] line all fine = (fine, tt)
fine_more (first ∷ before) line all fine = (all.0, fine_more before line all.1 fine)

fine_from : (lines : List (List ℕ)) (before : List Line) → AllByRecursion IsFine before → AllByRecursion IsFine (said_from before lines)
fine_from [] before all = all
fine_from (line ∷ lines) before all = by (λ more fine. fine_from lines (before ++ more ∷ []) (fine_more before more all fine)) (line_says line) (fine_fields (fields_of line))
  where
    by : ((more : Line) → IsFine more → AllByRecursion IsFine (said_from (before ++ more ∷ []) lines)) → (o : Option Line) → IsFound o
        → AllByRecursion IsFine (option_map_or (λ more. said_from (before ++ more ∷ []) lines) (fitting before o) before)
    by later None found = all
    by later (Some more) found = fits (may_follow (said_of before) more)
      where
        fits : (b : Bool) → AllByRecursion IsFine (option_map_or (λ more. said_from (before ++ more ∷ []) lines) (if b then Some more else None) before)
        fits true = later more found
        fits false = all

first_mid : (lines : List Line) → AllByRecursion IsFine lines → IfSome (first_of (filter_map mid_in lines)) (λ mid. mid ≤ 3221225471)
first_mid [] all = tt
first_mid (said.Server peer ∷ lines) all = first_mid lines all.1
first_mid (said.Cuid name ∷ lines) all = first_mid lines all.1
first_mid (said.Mid mid ∷ lines) all = all.0
first_mid (said.Number number ∷ lines) all = first_mid lines all.1
first_mid (said.At at ask ∷ lines) all = first_mid lines all.1

-- ---- the settings

ok_same : (a b : AskSettings) → ◌≡◌ {A = Result AskSettings ℕ} (Ok a) (Ok b) → a ≡ b
ok_same a b e = cc

err_ok : (n : ℕ) (s : AskSettings) → ◌≡◌ {A = Result AskSettings ℕ} (Err n) (Ok s) → ⊥
err_ok n s e = cc

of_draft : (draft : Draft) (lines : ℕ) (settings : AskSettings) → IfSome draft.mid (λ mid. mid ≤ 3221225471) → or_missing lines (settings_by draft) ≡ Ok settings → IsMidFit settings
of_draft draft lines settings few is = by draft.server draft.cuid is
  where
    by : (server : Option ℕ) (cuid : Option (List ℕ)) → or_missing lines (settings_by (record draft { server = server; cuid = cuid })) ≡ Ok settings → IsMidFit settings
    by None cuid is = absurd (err_ok _ _ is)
    by (Some peer) None is = absurd (err_ok _ _ is)
    by (Some peer) (Some name) is = subst IsMidFit (ok_same _ _ is) few

pub mid_fits : (file : List ℕ) (settings : AskSettings) → meaning file ≡ Ok settings → IsMidFit settings
mid_fits file settings is = by (length said == lines) is
  where
    said : List Line
    said = said_in file

    lines : ℕ
    lines = length (lines_of (content_of file))

    by : (b : Bool) → (if b then or_missing lines (settings_by (said_of said)) else Err (length said + 1)) ≡ Ok settings → IsMidFit settings
    by true is = of_draft (said_of said) lines settings (first_mid said (fine_from (whole_lines (is_long file) (lines_of (content_of file))) [] tt)) is
    by false is = absurd (err_ok _ _ is)
