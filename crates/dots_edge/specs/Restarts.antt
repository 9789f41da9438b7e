-- Acts without a restart. A host of real sockets hands in none: there a server begins again as a new process does, over the same file.
use Rattle.std.specs.Prelude.{List, [], ◌∷◌, ⊤}
use Rattle.dots_host.specs.declared.event.Event.TheVariants as event
use Rattle.dots_host.specs.declared.event.What.{What}
use Rattle.dots_host.specs.declared.event.What.TheVariants as what
use Rattle.dots_host.specs.Acts.{WireAct, took, Timed}

-- where a restart came, this holds
abbrev pub OnRestart : What → Type 0 → Type 0
OnRestart what.Restart P = P
OnRestart _ P = ⊤

-- where the end came, this holds
abbrev pub OnEnd : What → Type 0 → Type 0
OnEnd what.End P = P
OnEnd _ P = ⊤

abbrev pub IsNoRestart : WireAct → Type 0
IsNoRestart (took event.Restart at) = ⊥
IsNoRestart _ = ⊤

-- none of the acts hands in a restart
abbrev pub AreNoRestarts : List Timed → Type 0
AreNoRestarts [] = ⊤
AreNoRestarts (timed ∷ acts) = IsNoRestart timed.act × AreNoRestarts acts
