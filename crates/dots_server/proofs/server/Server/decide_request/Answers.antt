use Rattle.dots_server.proofs.Watching.{alone_does, alone_ready}
use Rattle.dots_server.proofs.Yielding.{yields_ok, alone_lacks}
use Rattle.dots_server.proofs.server.Server.decide_request.Goals as goal

pub returns-in-PutMitigation-clause-does : goal.returns-in-PutMitigation-clause-does
returns-in-PutMitigation-clause-does c = λ settings state represents.
    rw c.in-PutMitigation.is
    (alone_does c.args.self.now settings c.args.peer state.observers c.put_by_path.result c.alone.result _ c.alone.ensures.ok
    (yields_ok c.put_by_path.result _ _ (c.put_by_path.ensures.decides settings state represents)) c.put_by_path.ensures.ready)

pub returns-in-PutMitigation-clause-lacks : goal.returns-in-PutMitigation-clause-lacks
returns-in-PutMitigation-clause-lacks c = λ settings state represents.
    rw c.in-PutMitigation.is (alone_lacks c.put_by_path.result c.alone.result _ _ c.alone.ensures.err (c.put_by_path.ensures.decides settings state represents))

pub returns-in-PutMitigation-clause-ready : goal.returns-in-PutMitigation-clause-ready
returns-in-PutMitigation-clause-ready c = alone_ready c.args.self.now c.put_by_path.result c.alone.result c.alone.ensures.ok c.put_by_path.ensures.ready

pub returns-in-DeleteMitigation-clause-does : goal.returns-in-DeleteMitigation-clause-does
returns-in-DeleteMitigation-clause-does c = λ settings state represents.
    rw c.in-DeleteMitigation.is
    (alone_does c.args.self.now settings c.args.peer state.observers c.delete_by_path.result c.alone-in-DeleteMitigation.result _ c.alone-in-DeleteMitigation.ensures.ok
    (yields_ok c.delete_by_path.result _ _ (c.delete_by_path.ensures.decides settings state represents)) c.delete_by_path.ensures.ready)

pub returns-in-DeleteMitigation-clause-lacks : goal.returns-in-DeleteMitigation-clause-lacks
returns-in-DeleteMitigation-clause-lacks c = λ settings state represents.
    rw c.in-DeleteMitigation.is (alone_lacks c.delete_by_path.result c.alone-in-DeleteMitigation.result _ _ c.alone-in-DeleteMitigation.ensures.err (c.delete_by_path.ensures.decides settings state represents))

pub returns-in-DeleteMitigation-clause-ready : goal.returns-in-DeleteMitigation-clause-ready
returns-in-DeleteMitigation-clause-ready c = alone_ready c.args.self.now c.delete_by_path.result c.alone-in-DeleteMitigation.result c.alone-in-DeleteMitigation.ensures.ok c.delete_by_path.ensures.ready

pub returns-in-PutConfig-clause-does : goal.returns-in-PutConfig-clause-does
returns-in-PutConfig-clause-does c = λ settings state represents.
    rw c.in-PutConfig.is
    (alone_does c.args.self.now settings c.args.peer state.observers c.put_config.result c.alone-in-PutConfig.result _ c.alone-in-PutConfig.ensures.ok
    (yields_ok c.put_config.result _ _ (c.put_config.ensures.decides settings state represents)) c.put_config.ensures.ready)

pub returns-in-PutConfig-clause-lacks : goal.returns-in-PutConfig-clause-lacks
returns-in-PutConfig-clause-lacks c = λ settings state represents.
    rw c.in-PutConfig.is (alone_lacks c.put_config.result c.alone-in-PutConfig.result _ _ c.alone-in-PutConfig.ensures.err (c.put_config.ensures.decides settings state represents))

pub returns-in-PutConfig-clause-ready : goal.returns-in-PutConfig-clause-ready
returns-in-PutConfig-clause-ready c = alone_ready c.args.self.now c.put_config.result c.alone-in-PutConfig.result c.alone-in-PutConfig.ensures.ok c.put_config.ensures.ready

pub returns-in-GetConfig-clause-does : goal.returns-in-GetConfig-clause-does
returns-in-GetConfig-clause-does c = λ settings state represents.
    rw c.in-GetConfig.is
    (alone_does c.args.self.now settings c.args.peer state.observers c.get_config.result c.alone-in-GetConfig.result _ c.alone-in-GetConfig.ensures.ok
    (yields_ok c.get_config.result _ _ (c.get_config.ensures.decides settings state represents)) c.get_config.ensures.ready)

pub returns-in-GetConfig-clause-lacks : goal.returns-in-GetConfig-clause-lacks
returns-in-GetConfig-clause-lacks c = λ settings state represents.
    rw c.in-GetConfig.is (alone_lacks c.get_config.result c.alone-in-GetConfig.result _ _ c.alone-in-GetConfig.ensures.err (c.get_config.ensures.decides settings state represents))

pub returns-in-GetConfig-clause-ready : goal.returns-in-GetConfig-clause-ready
returns-in-GetConfig-clause-ready c = alone_ready c.args.self.now c.get_config.result c.alone-in-GetConfig.result c.alone-in-GetConfig.ensures.ok c.get_config.ensures.ready

pub returns-in-DeleteConfig-clause-does : goal.returns-in-DeleteConfig-clause-does
returns-in-DeleteConfig-clause-does c = λ settings state represents.
    rw c.in-DeleteConfig.is
    (alone_does c.args.self.now settings c.args.peer state.observers c.delete_config.result c.alone-in-DeleteConfig.result _ c.alone-in-DeleteConfig.ensures.ok
    (yields_ok c.delete_config.result _ _ (c.delete_config.ensures.decides settings state represents)) c.delete_config.ensures.ready)

pub returns-in-DeleteConfig-clause-lacks : goal.returns-in-DeleteConfig-clause-lacks
returns-in-DeleteConfig-clause-lacks c = λ settings state represents.
    rw c.in-DeleteConfig.is (alone_lacks c.delete_config.result c.alone-in-DeleteConfig.result _ _ c.alone-in-DeleteConfig.ensures.err (c.delete_config.ensures.decides settings state represents))

pub returns-in-DeleteConfig-clause-ready : goal.returns-in-DeleteConfig-clause-ready
returns-in-DeleteConfig-clause-ready c = alone_ready c.args.self.now c.delete_config.result c.alone-in-DeleteConfig.result c.alone-in-DeleteConfig.ensures.ok c.delete_config.ensures.ready
