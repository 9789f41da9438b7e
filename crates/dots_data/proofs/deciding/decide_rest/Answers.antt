use Rattle.http_cut.specs.Requests.{request_value}
use Rattle.data_channel.proofs.Within.{asked_within}
use Rattle.dots_data.proofs.Acceptable.{acts_inside, ready}
use Rattle.dots_data.proofs.deciding.decide_rest.Goals as goal

pub decide_or_fail-requires-clause-inside : goal.decide_or_fail-requires-clause-inside
decide_or_fail-requires-clause-inside c =
    acts_inside c.args.desk.now.settings.now c.args.desk.now.registry.now c.args.caller c.requires.is_of c.requires.acts

pub returns-in-Ok-clause-ready : goal.returns-in-Ok-clause-ready
returns-in-Ok-clause-ready c =
    let used = c.requires.in_use in
    ready c.args.desk.now.settings.now c.args.desk.now.registry.now c.args.caller c.requires.is_of used c.requires.acts
    c.in-Ok.request c.args.message.now.close c.decide_or_fail.result
    (asked_within (request_value c.args.message.now) c.in-Ok.request c.in-Ok.ensures)
    (c.decide_or_fail.ensures used.history used.represents)
