use Rattle.dots_server.proofs.server.Server.domain_for.Goals as goal

pub returns-in-None-Some-clause-domain : goal.returns-in-None-Some-clause-domain
returns-in-None-Some-clause-domain c = rw (c.in-None-Some.is-0, c.in-None-Some.is-1, ← c.self.view_is) (rw c.bytes.ensures.value at c.domain_named.ensures.number)
