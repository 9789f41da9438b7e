use Rattle.gateway_agent.proofs.Foreign.{own_not, server_refuses, store_refuses}
use Rattle.gateway_agent.proofs.store_laws.no_servers.Goals as goal

pub returns-clause-own : goal.returns-clause-own
returns-clause-own c = own_not

pub returns-clause-server : goal.returns-clause-server
returns-clause-server c = server_refuses

pub returns-clause-store : goal.returns-clause-store
returns-clause-store c = store_refuses
