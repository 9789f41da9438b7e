use Rattle.std.proofs.Common.{Ok, Err, refl, sym, subst}
use Rattle.dots_script.specs.declared.checked.Checked.TheVariants as checked
use Rattle.dots_script.specs.declared.checked.Unchecked.TheVariants as unchecked
use Rattle.dots_run.specs.Load.{LoadReported}
use Rattle.dots_run.proofs.reporting.report_load.Goals as goal

pub returns-in-Ok : goal.returns-in-Ok
returns-in-Ok g c = (Ok (checked.Good c.as_bytes.result.now), subst (λ text. LoadReported c.args.number text) (sym c.as_bytes.ensures.value) c.in-Ok.ensures, c.write_good.ensures)

pub returns-in-Err : goal.returns-in-Err
returns-in-Err g c = (Err unchecked.NoMemory, tt, (refl, refl))
