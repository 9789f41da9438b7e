-- Events that calls hand out go on being handed out.
use Rattle.std.proofs.Common.{List, [], ◌∷◌, ◌++◌, subst}
use Rattle.dots_host.specs.declared.act.Act.{Act}
use Rattle.dots_host.specs.Memory.{Coming, Hands}

pub hands_then : (coming between later : List Coming) (front back : List Act) → Hands coming front between → Hands between back later → Hands coming (front ++ back) later
hands_then coming between later [] back a b = subst (λ start. Hands start back later) a b
hands_then coming between later (call ∷ front) back a b = (a.0, a.1, hands_then a.0 between later front back a.2 b)
