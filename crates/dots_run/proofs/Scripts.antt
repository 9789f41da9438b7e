-- A script has one check.
use Rattle.std.proofs.Common.{◌≡◌, ℕ, ◌+◌, inl, inr, List, [], ◌∷◌, ◌++◌, length, refl, sym, ap, ◌∙◌, append_assoc, append-nil, codes}
use Rattle.dots_host.specs.Memory.{Coming}
use Rattle.dots_script.specs.Accounts.{AreMade, LineSays}
use Rattle.dots_script.specs.Lines.{with_feed, with_feeds, IsFault}
use Rattle.dots_script.proofs.OneAnswer.{one_line, no_fault_at_end, no_fault_at_event, stops_at_fault}
use Rattle.dots_script.proofs.OneList.{one_list}
use Rattle.dots_settings.specs.Lines.{lines_of}
use Rattle.dots_script.specs.declared.checked.Checked.{Checked}
use Rattle.dots_script.specs.declared.checked.Checked.TheVariants as checked
use Rattle.dots_script.specs.Checks.{ChecksScript, script_report, line_in}
use Rattle.dots_script.specs.Summary.{count_line}

-- the text begins with no line of a script
abbrev Breaks : List ℕ → Type 0
Breaks text = (line rest : List ℕ) (said : List Coming) → text ≡ with_feed line ++ rest → LineSays line said → ⊥

breaks_at_fault : (text : List ℕ) → IsFault text → Breaks text
breaks_at_fault text fault line rest said is says = elim says.1 [
  | inl skipped ↦ stops_at_fault text fault line rest is says.0 skipped.0
  | inr event ↦ no_fault_at_event text line rest event.0.event event.0.at is says.0 event.1 fault
]

no_line : (line rest : List ℕ) → [] ≡ with_feed line ++ rest → ⊥
no_line [] rest is = absurd (cc is)
no_line (byte ∷ line) rest is = absurd (cc is)

breaks_at_end : Breaks []
breaks_at_end line rest said is says = no_line line rest is

-- the lines of a script before what is none of it
one_front : (lines others : List (List ℕ)) (said told : List Coming) (rest back : List ℕ) → with_feeds lines ++ rest ≡ with_feeds others ++ back → AreMade LineSays lines said → AreMade LineSays others told
    → Breaks rest → Breaks back → (lines ≡ others) × (rest ≡ back)
one_front [] [] said told rest back same a b first second = (refl, same)
one_front [] (line ∷ lines) said told rest back same a b first second =
    absurd (first line (with_feeds lines ++ back) b.0 (same ∙ append_assoc (with_feed line) (with_feeds lines) back) b.3)
one_front (line ∷ lines) [] said told rest back same a b first second =
    absurd (second line (with_feeds lines ++ rest) a.0 (sym same ∙ append_assoc (with_feed line) (with_feeds lines) rest) a.3)
one_front (line ∷ lines) (other ∷ others) said told rest back same a b first second =
    let front = one_line line other (with_feeds lines ++ rest) (with_feeds others ++ back) a.3.0 b.3.0 (sym (append_assoc (with_feed line) (with_feeds lines) rest) ∙ same ∙ append_assoc (with_feed other) (with_feeds others) back) in
    let later = one_front lines others a.1 b.1 rest back front.1 a.4 b.4 first second in
    (ap (λ xs. line ∷ xs) later.0 ∙ ap (λ x. x ∷ others) front.0, later.1)

never_both : (script text other : List ℕ) → ChecksScript script (checked.Good text) → ChecksScript script (checked.AtFault other) → ⊥
never_both script text other (lines, said, is, made, text_is) (others, told, rest, split, made', fault, other_is) =
    let same = one_front lines others said told [] rest (append-nil (with_feeds lines) ∙ sym is ∙ split) made made' breaks_at_end (breaks_at_fault rest fault) in
    no_fault_at_end rest (sym same.1) fault

pub one_check : (script : List ℕ) (one other : Checked) → ChecksScript script one → ChecksScript script other → one ≡ other
one_check script (checked.Good text) (checked.Good other) (lines, said, is, made, text_is) (others, told, is', made', other_is) =
    let same = one_list lines others said told (sym is ∙ is') made made' in
    ap checked.Good (text_is ∙ ap (λ (said : List Coming). count_line (codes "events") (length said)) same ∙ sym other_is)
one_check script (checked.Good text) (checked.AtFault other) a b = absurd (never_both script text other a b)
one_check script (checked.AtFault text) (checked.Good other) a b = absurd (never_both script other text b a)
one_check script (checked.AtFault text) (checked.AtFault other) (lines, said, rest, split, made, fault, text_is) (others, told, back, split', made', fault', other_is) =
    let same = one_front lines others said told rest back (sym split ∙ split') made made' (breaks_at_fault rest fault) (breaks_at_fault back fault') in
    ap checked.AtFault (text_is ∙ ap (λ (lines : List (List ℕ)). script_report (length lines + 1) rest (line_in (lines_of rest))) same.0
    ∙ ap (λ (rest : List ℕ). script_report (length others + 1) rest (line_in (lines_of rest))) same.1 ∙ sym other_is)
