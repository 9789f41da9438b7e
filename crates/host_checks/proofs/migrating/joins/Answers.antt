use Rattle.std.proofs.Common.{Bool, true, false, ◌≡◌, ◌&&◌, sym, ap, ◌∙◌}
use Rattle.std.proofs.lemmas.Bool.{false≢true}
use Rattle.dots_history.specs.Histories.{mitigations}
use Rattle.dots_history.specs.Calm.{came_rightly}
use Rattle.dots_history.specs.Fits.{has_one_peer}
use Rattle.dots_registry.specs.RegistryValues.{time_of}
use Rattle.host_checks.proofs.migrating.joins.Goals.{then-fits, else-fits}
use Rattle.host_checks.proofs.migrating.joins.Goals as goal

first_false : (first second third value : Bool) → first ≡ false → value ≡ false → value ≡ first && (second && third)
first_false first second third value one is = is ∙ sym (ap (λ test. test && (second && third)) one)

second_false : (first second third value : Bool) → first ≡ true → second ≡ false → value ≡ false → value ≡ first && (second && third)
second_false first second third value one two is = is ∙ sym (ap (λ test. test && (second && third)) one ∙ ap (λ test. test && third) two)

third_left : (first second third value : Bool) → first ≡ true → second ≡ true → value ≡ third → value ≡ first && (second && third)
third_left first second third value one two is = is ∙ sym (ap (λ test. test && (second && third)) one ∙ ap (λ test. test && third) two)

pub returns-then-came_rightly : goal.returns-then-came_rightly
returns-then-came_rightly c = λ before gathers. elim c.if-fits.branch [
  | then-fits w ↦
      third_left _ _ _ c.has_one_peer.result (sym (c.fits.ensures before gathers) ∙ w.if-fits.true) (sym w.came_rightly.ensures ∙ sym w.value-is ∙ c.if-came_rightly.true) (c.has_one_peer.ensures before gathers)
  | else-fits w ↦ absurd (false≢true (sym w.if-fits.false ∙ sym w.value-is ∙ c.if-came_rightly.true))
]

pub returns-else-came_rightly : goal.returns-else-came_rightly
returns-else-came_rightly c = λ before gathers. elim c.if-fits.branch [
  | then-fits w ↦
      second_false _ _ _ c.if-fits.value (sym (c.fits.ensures before gathers) ∙ w.if-fits.true) (sym w.came_rightly.ensures ∙ sym w.value-is ∙ c.if-came_rightly.false) c.if-came_rightly.false
  | else-fits w ↦
      first_false _ (came_rightly c.args.entry.now) (has_one_peer c.args.entry.now (mitigations (time_of c.args.tables.now) before)) c.if-fits.value (sym (c.fits.ensures before gathers) ∙ w.if-fits.false) (w.value-is ∙ w.if-fits.false)
]
