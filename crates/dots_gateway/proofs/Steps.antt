-- What a datagram does, by its parts.
use Rattle.std.proofs.Common.{◌≡◌, ℕ, List, refl, sym, ap, subst}
use Rattle.std.specs.Prelude.{Some, None, Result, Ok, Err}
use Rattle.dots_lists.specs.declared.memory.NoMemory.{NoMemory}
use Rattle.dots_gateway.specs.declared.passed.Passed.{Passed}
use Rattle.dots_gateway.specs.declared.passed.Passed.TheVariants as passed
use Rattle.dots_gateway.specs.declared.passed.GatewayFault.TheVariants as fault
use Rattle.dots_gateway.specs.Exchanges.{ExchangesValue}
use Rattle.dots_gateway.specs.Gateway.{GatewayValue, Said, Ups, Downs, UpOrLacks}
use Rattle.dots_gateway.specs.Steps.{Gives, NowWaits, IsOld, Yields, YieldsOf}

abbrev with_exchanges : GatewayValue → ExchangesValue → GatewayValue
with_exchanges g e = record g { exchanges = e }

pub up_then : (g : GatewayValue) (peer : ℕ) (datagram : List ℕ) (said answer : Said) (e : ExchangesValue) → Ups g peer datagram said → Gives answer said
    → NowWaits g.exchanges datagram answer e → UpOrLacks g peer datagram answer (record g { exchanges = e })
up_then g peer datagram said (Err fault.NoMemory) e ups gives leaves = (said, ups, gives, ap (with_exchanges g) leaves)
up_then g peer datagram said (Err fault.TableFull) e ups gives leaves = (subst (Ups g peer datagram) (sym gives) ups, ap (with_exchanges g) leaves)
up_then g peer datagram said (Ok (passed.Forward bytes (Some x))) e ups gives leaves = (subst (Ups g peer datagram) (sym gives) ups, ap (with_exchanges g) leaves)
up_then g peer datagram said (Ok (passed.Forward bytes None)) e ups gives leaves = (subst (Ups g peer datagram) (sym gives) ups, ap (with_exchanges g) leaves)
up_then g peer datagram said (Ok (passed.Reply to bytes)) e ups gives leaves = (subst (Ups g peer datagram) (sym gives) ups, ap (with_exchanges g) leaves)
up_then g peer datagram said (Ok passed.Nothing) e ups gives leaves = (subst (Ups g peer datagram) (sym gives) ups, ap (with_exchanges g) leaves)
up_then g peer datagram said (Ok passed.NoMemory) e ups gives leaves = (subst (Ups g peer datagram) (sym gives) ups, ap (with_exchanges g) leaves)

-- where no exchange is new none is waiting
pub old_leaves : (e : ExchangesValue) (datagram : List ℕ) (answer : Said) → IsOld answer → NowWaits e datagram answer e
old_leaves e datagram (Err fault) old = refl
old_leaves e datagram (Ok (passed.Forward bytes (Some x))) old = absurd old
old_leaves e datagram (Ok (passed.Forward bytes None)) old = refl
old_leaves e datagram (Ok (passed.Reply to bytes)) old = refl
old_leaves e datagram (Ok passed.Nothing) old = refl
old_leaves e datagram (Ok passed.NoMemory) old = refl

pub yields_then : (g : GatewayValue) (datagram : List ℕ) (said : Passed) (answer : Result Passed NoMemory) → Downs g datagram said → Yields answer said → YieldsOf g datagram answer
yields_then g datagram said (Ok answer) downs tells = subst (Downs g datagram) (sym tells) downs
yields_then g datagram said (Err lack) downs tells = (said, downs, tells)

pub err_ok : {A E : Type 0} {x : A} {e : E} → ◌≡◌ {A = Result A E} (Err e) (Ok x) → ⊥
err_ok is = absurd (cc)
