-- What is answered to a request of the data channel, as a plain value.
use Rattle.dots_history.specs.declared.entry.Entry.{Entry}
use Rattle.rest_answers.specs.declared.answer.RestAnswer.{RestAnswer as AnswerOf}

abbrev pub RestAnswer : Type 0
RestAnswer = AnswerOf Entry
