use Rattle.std.proofs.Common.{ℕ, Bool, true, false, ◌≡◌, ◌&&◌, ◌<◌, ◌≤◌, nat_le, sym, ap, ◌∙◌, arith}
use Rattle.std.proofs.lemmas.Bool.{false≢true}
use Rattle.std.proofs.lemmas.Bool.Decides.{nat_tests}
use Rattle.live_mitigations.specs.LiveValues.{has_live_room}
use Rattle.held_resources.specs.Accepting.{accepts}
use Rattle.dots_registry.proofs.fitting.takes.Goals.{then-time-entry, else-time-entry}
use Rattle.dots_registry.proofs.fitting.takes.Goals as goal

is_within : (a b : ℕ) → a ≤ b → nat_le a b ≡ true
is_within a b le = grind (arith, nat_tests)

isnt_within : (a b : ℕ) → b < a → nat_le a b ≡ false
isnt_within a b less = grind (arith, nat_tests)

first_false : (first second third value : Bool) → first ≡ false → value ≡ false → value ≡ first && (second && third)
first_false first second third value one is = is ∙ sym (ap (λ test. test && (second && third)) one)

second_false : (first second third value : Bool) → first ≡ true → second ≡ false → value ≡ false → value ≡ first && (second && third)
second_false first second third value one two is = is ∙ sym (ap (λ test. test && (second && third)) one ∙ ap (λ test. test && third) two)

third_left : (first second third value : Bool) → first ≡ true → second ≡ true → value ≡ third → value ≡ first && (second && third)
third_left first second third value one two is = is ∙ sym (ap (λ test. test && (second && third)) one ∙ ap (λ test. test && third) two)

pub returns-then-fits : goal.returns-then-fits
returns-then-fits c = λ entries alive kept. elim c.if-time-entry.branch [
  | then-time-entry w ↦
      third_left _ _ (has_live_room c.args.live.now.limits entries c.args.entry.now) c.has_live_room.result
      (is_within c.args.live.now.time c.args.entry.now.time (omega (arith, w.if-time-entry.true, c.time.ensures)))
      (sym (w.fits.ensures entries kept) ∙ sym w.value-is ∙ c.if-fits.true)
      (c.has_live_room.ensures entries alive)
  | else-time-entry w ↦ absurd (false≢true (sym (isnt_within c.time.result c.args.entry.now.time w.if-time-entry.false) ∙ sym w.value-is ∙ c.if-fits.true))
]

pub returns-else-fits : goal.returns-else-fits
returns-else-fits c = λ entries alive kept. elim c.if-time-entry.branch [
  | then-time-entry w ↦
      second_false _ _ (has_live_room c.args.live.now.limits entries c.args.entry.now) c.if-time-entry.value
      (is_within c.args.live.now.time c.args.entry.now.time (omega (arith, w.if-time-entry.true, c.time.ensures)))
      (sym (w.fits.ensures entries kept) ∙ sym w.value-is ∙ c.if-fits.false)
      c.if-fits.false
  | else-time-entry w ↦
      first_false _ (accepts c.args.held.now.sizes entries c.args.entry.now) (has_live_room c.args.live.now.limits entries c.args.entry.now) c.if-time-entry.value
      (isnt_within c.args.live.now.time c.args.entry.now.time (omega (arith, w.if-time-entry.false, c.time.ensures)))
      (w.value-is ∙ isnt_within c.time.result c.args.entry.now.time w.if-time-entry.false)
]
