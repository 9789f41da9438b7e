use Rattle.dots_machine.proofs.RememberedMessages.{accepted_is_repeated}
use Rattle.dots_machine.proofs.RepeatAnswers.{request_repeated, step_repeated, run_repeats}
use Rattle.dots_machine.proofs.law.repeats_are_answered.Goals as goal

pub returns : goal.returns
returns c = record {
  accepted = accepted_is_repeated;
  rules = λ settings state peer x r domain entry v asks is decides. request_repeated settings state peer x domain entry is v r asks decides;
  step = λ settings old peer datagram at owed new x r domain entry. step_repeated settings old peer datagram at owed new x r domain entry;
  run = run_repeats;
}
