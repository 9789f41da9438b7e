use Rattle.std.proofs.Common.{map}
use Rattle.std.proofs.lemmas.Slice.Eq.{bytes_eq-Decides}
use Rattle.std.specs.Bool.{one_answer}
use Rattle.std.specs.Char.{to_ascii_lowercase}
use Rattle.http_cut.specs.Fields.{is_same_word}
use Rattle.http_cut.proofs.text.is_same_word.Goals as goal

pub returns : goal.returns
unfolding is_same_word
returns c = one_answer _ _ c.eq_ignore_ascii_case.ensures.test (bytes_eq-Decides (map to_ascii_lowercase c.args.one.now) (map to_ascii_lowercase c.args.other.now))
