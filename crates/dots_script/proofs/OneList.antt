-- Lines say one list of events.
use Rattle.std.proofs.Common.{◌≡◌, ℕ, ◌+◌, inl, inr, List, [], ◌∷◌, ◌++◌, length, sym, ap, ◌∙◌, subst, arith}
use Rattle.dots_host.specs.declared.event.Event.{Event}
use Rattle.dots_host.specs.Memory.{Coming}
use Rattle.dots_script.specs.Lines.{with_feed, with_feeds}
use Rattle.dots_script.specs.Accounts.{AreMade, LineSays}
use Rattle.dots_script.proofs.EventLines.{one_event, event_not_skipped}
use Rattle.dots_script.proofs.OneAnswer.{one_line, long}

abbrev coming_of : Event → ℕ → Coming
coming_of event at = record { event = event; at = at }

one_said : (line : List ℕ) (said told : List Coming) → LineSays line said → LineSays line told → said ≡ told
one_said line said told a b = elim a.1 [
  | inl skipped ↦ elim b.1 [
    | inl too ↦ skipped.1 ∙ sym too.1
    | inr event ↦ absurd (event_not_skipped line event.0.event event.0.at event.1 skipped.0)
  ]
  | inr event ↦ elim b.1 [
    | inl skipped ↦ absurd (event_not_skipped line event.0.event event.0.at event.1 skipped.0)
    | inr other ↦
        let same = one_event line event.0.event other.0.event event.0.at other.0.at event.1 other.1 in
        let coming : event.0 ≡ other.0 = ap (λ e. coming_of e event.0.at) same.0 ∙ ap (λ at. coming_of other.0.event at) same.1 in
        event.2 ∙ ap (λ c. c ∷ []) coming ∙ sym other.2
  ]
]

no_lines : (line rest : List ℕ) → [] ≡ with_feed line ++ rest → ⊥
no_lines line rest is = let size : 0 ≡ length line + 1 + length rest = ap length is ∙ long line rest in absurd (omega (arith, size))

pub one_list : (lines others : List (List ℕ)) (said told : List Coming) → with_feeds lines ≡ with_feeds others → AreMade LineSays lines said → AreMade LineSays others told → said ≡ told
one_list [] [] said told same a b = a ∙ sym b
one_list [] (other ∷ others) said told same a b = absurd (no_lines other (with_feeds others) same)
one_list (line ∷ lines) [] said told same a b = absurd (no_lines line (with_feeds lines) (sym same))
one_list (line ∷ lines) (other ∷ others) said told same a b =
    let first = one_line line other (with_feeds lines) (with_feeds others) a.3.0 b.3.0 same in
    let part = one_said line a.0 b.0 a.3 (subst (λ (bytes : List ℕ). LineSays bytes b.0) (sym first.0) b.3) in
    let later = one_list lines others a.1 b.1 first.1 a.4 b.4 in
    a.2 ∙ ap (λ front. front ++ a.1) part ∙ ap (λ back. b.0 ++ back) later ∙ sym b.2
