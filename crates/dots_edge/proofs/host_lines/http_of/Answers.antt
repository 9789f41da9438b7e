use Rattle.dots_lists.specs.Lines.{fields_of}
use Rattle.dots_edge.proofs.EndpointLemmas.{no_http}
use Rattle.dots_edge.proofs.host_lines.http_of.Goals as goal

pub returns-in_default : goal.returns-in_default
returns-in_default c = no_http c.in_ok-text.text.now (fields_of c.args.fields.now) c.in_ok-text.ensures c.in_default.ensures
