use Rattle.dots_script.proofs.OneList.{one_list}
use Rattle.dots_script.proofs.laws.lines_say_one_list.Goals as goal

pub returns : goal.returns
returns c = one_list
