use Rattle.std.proofs.Common.{rules}
use Rattle.data_channel.proofs.Encoding.{path_in_line, path_length, name_length}
use Rattle.data_channel.proofs.location.path_to.Goals as goal

pub returns-clause-path : goal.returns-clause-path
returns-clause-path c = search rules

pub returns-clause-line : goal.returns-clause-line
returns-clause-line c = rw (returns-clause-path c) (path_in_line c.args.cuid.now c.args.fixed.now c.args.name.now c.requires.line)

pub returns-clause-size : goal.returns-clause-size
returns-clause-size c =
    rw (returns-clause-path c) (path_length c.args.cuid.now c.args.fixed.now c.args.name.now (name_length c.args.cuid.now c.bytes.ensures.name) c.requires.fixed c.requires.name)
