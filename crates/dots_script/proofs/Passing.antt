-- How far the lines of a script have been passed.
use Rattle.std.proofs.Common.{◌≡◌, ℕ, ◌+◌, ◌≤◌, List, [], ◌∷◌, ◌++◌, length, codes, inr, refl, sym, ap, ◌∙◌, append_assoc, append-nil, length-append, arith}
use Rattle.dots_host.specs.declared.event.Event.{Event}
use Rattle.dots_host.specs.Memory.{Coming}
use Rattle.dots_script.specs.Accounts.{AreMade, LineSays}
use Rattle.dots_script.specs.Lines.{IsLine, IsFault, with_feed, with_feeds}
use Rattle.dots_script.specs.Script.{IsEventLine}
use Rattle.dots_settings.specs.Lines.{lines_of}
use Rattle.dots_script.specs.declared.checked.Checked.TheVariants as checked
use Rattle.dots_script.specs.Checks.{ChecksScript, script_report, line_in}
use Rattle.dots_script.specs.Summary.{count_line}
use Rattle.dots_script.proofs.Making.{made_then, made_one, feeds_append}

pub record HasPassed (script rest : List ℕ) (number events : ℕ) : Type 0 where
  pub lines : List (List ℕ)
  pub said : List Coming
  pub split : script ≡ with_feeds lines ++ rest
  pub made : AreMade LineSays lines said
  pub number_is : number ≡ length lines
  pub events_is : events ≡ length said
  pub fits : number + length rest ≤ length script
  pub few : events ≤ number

pub passed_none : (script : List ℕ) → HasPassed script script 0 0
passed_none script = record { lines = []; said = []; split = refl; made = refl; number_is = refl; events_is = refl; fits = omega arith; few = omega arith }

pub passes : (script rest behind line : List ℕ) (number events more : ℕ) (said : List Coming) → HasPassed script rest number events → rest ≡ with_feed line ++ behind → LineSays line said
    → length said ≡ more → more ≤ 1 → HasPassed script behind (number + 1) (events + more)
passes script rest behind line number events more said old split says count few = record {
  lines = old.lines ++ line ∷ [];
  said = old.said ++ said;
  split =
      old.split ∙ ap (λ (text : List ℕ). with_feeds old.lines ++ text) (split ∙ ap (λ (text : List ℕ). text ++ behind) (sym (append-nil (with_feed line))))
      ∙ sym (append_assoc (with_feeds old.lines) (with_feeds (line ∷ [])) behind) ∙ ap (λ (text : List ℕ). text ++ behind) (sym (feeds_append old.lines (line ∷ [])));
  made = made_then LineSays old.lines (line ∷ []) old.said said old.made (made_one LineSays line said says);
  number_is = omega (arith, old.number_is, length-append old.lines (line ∷ []));
  events_is = omega (arith, old.events_is, count, length-append old.said said);
  fits =
      let longer : length rest ≡ (length line + 1) + length behind = ap length split ∙ length-append (with_feed line) behind ∙ ap (λ n. n + length behind) (length-append line (10 ∷ [])) in
      omega (arith, old.fits, longer);
  few = omega (arith, old.few, few);
}

-- a line that says an event was passed
pub passed_event : (rest line behind : List ℕ) → rest ≡ with_feed line ++ behind → IsLine line → (event : Event) (at : ℕ) → IsEventLine line event at
    → (line : List ℕ) × (said : List Coming) × (rest ≡ with_feed line ++ behind) × LineSays line said × (length said ≡ 1) × (1 ≤ 1)
passed_event rest line behind split is_line event at is =
    let coming : Coming = record { event = event; at = at } in
    (line, coming ∷ [], split, (is_line, inr (coming, is, refl)), refl, omega arith)

-- all the lines were passed, or all before the first that is none
pub passed_all : (script rest text : List ℕ) (number events : ℕ) → HasPassed script rest number events → rest ≡ [] → text ≡ count_line (codes "events") events → ChecksScript script (checked.Good text)
passed_all script rest text number events passed none is = (
  passed.lines,
  passed.said,
  passed.split ∙ ap (λ (t : List ℕ). with_feeds passed.lines ++ t) none ∙ append-nil (with_feeds passed.lines),
  passed.made,
  is ∙ ap (λ (n : ℕ). count_line (codes "events") n) passed.events_is,
)

pub passed_fault : (script rest text : List ℕ) (number events : ℕ) → HasPassed script rest number events → IsFault rest → text ≡ script_report (number + 1) rest (line_in (lines_of rest))
    → ChecksScript script (checked.AtFault text)
passed_fault script rest text number events passed fault is = (
  passed.lines,
  passed.said,
  rest,
  passed.split,
  passed.made,
  fault,
  is ∙ ap (λ (n : ℕ). script_report (n + 1) rest (line_in (lines_of rest))) passed.number_is,
)
