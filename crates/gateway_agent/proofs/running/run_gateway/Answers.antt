use Rattle.std.proofs.Common.{inl}
use Rattle.std.specs.Prelude.{Ok, Err}
use Rattle.dots_gateway.specs.Gateway.{GatewayValue}
use Rattle.gateway_agent.specs.Stores.{StoreValue}
use Rattle.gateway_agent.specs.Passing.{opened}
use Rattle.gateway_agent.specs.Keeping.{agent}
use Rattle.gateway_agent.proofs.Ending.{completes_by, has_run}
use Rattle.gateway_agent.proofs.Restarting.{unopened_ends}
use Rattle.gateway_agent.proofs.running.run_gateway.Goals as goal

pub returns-in-Err : goal.returns-in-Err
returns-in-Err g c =
    let host = c.args.host.now in
    let left = c.begin.new.disk in
    let wrote = g.met.H.Host.disk_keeps host left c.begin.ensures.beside in
    record {
      machine = (wrote.0, c.in-Err.ensures.refused);
      ended = unopened_ends (GatewayValue × StoreValue) c.in-Err.fault _ (g.H.Disk.faults host) (g.H.Disk.faults left) c.in-Err.ensures.cause;
      leads = wrote.2;
      complete = c.in-Err.ensures.complete;
    }

pub returns-in-Ok-take_all-clause-machine : goal.returns-in-Ok-take_all-clause-machine
returns-in-Ok-take_all-clause-machine g c =
    let host = c.args.host.now in
    let between = c.begin.new.disk in
    let left = c.take_all.new.host in
    let begun = c.in-Ok.begun in
    has_run c.args.settings.now c.args.upstream (agent begun.0 begun.1) (Ok c.in-Ok-take_all.waiting) (g.H.Disk.media host) (g.H.Disk.media between) (g.H.Disk.media left)
    (g.H.Wire.acts host) (g.H.Wire.acts between) (g.H.Wire.acts left) (g.met.H.Host.disk_keeps host between c.begin.ensures.beside).0 c.take_all.ensures.adds
    c.in-Ok.ensures.begun.0 c.in-Ok.ensures.begun.1 c.in-Ok.ensures.opened c.begin.ensures.moments c.in-Ok-take_all.ensures.came

pub returns-in-Err-take_all-clause-machine : goal.returns-in-Err-take_all-clause-machine
returns-in-Err-take_all-clause-machine g c =
    let host = c.args.host.now in
    let between = c.begin.new.disk in
    let left = c.take_all.new.host in
    let begun = c.in-Ok.begun in
    has_run c.args.settings.now c.args.upstream (agent begun.0 begun.1) (Err c.in-Err-take_all.how) (g.H.Disk.media host) (g.H.Disk.media between) (g.H.Disk.media left)
    (g.H.Wire.acts host) (g.H.Wire.acts between) (g.H.Wire.acts left) (g.met.H.Host.disk_keeps host between c.begin.ensures.beside).0 c.take_all.ensures.adds
    c.in-Ok.ensures.begun.0 c.in-Ok.ensures.begun.1 c.in-Ok.ensures.opened c.begin.ensures.moments c.in-Err-take_all.ensures.came

-- what the disk held is found again at each restart
pub returns-in-Err-take_all-clause-complete : goal.returns-in-Err-take_all-clause-complete
returns-in-Err-take_all-clause-complete g c = λ seen exchanges sees image_has store size.
    let begun = c.in-Ok.begun in
    let came = c.in-Err-take_all.ensures.came (opened c.args.settings.now c.args.upstream begun.1.exchanges 0) c.in-Ok.ensures.begun.1 (inl (c.in-Ok.ensures.opened seen sees).1) in
    completes_by c.in-Err-take_all.how came.1.found
