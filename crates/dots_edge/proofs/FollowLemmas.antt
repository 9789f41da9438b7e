-- Which connections are open over several steps.
use Rattle.std.proofs.Common.{◌≡◌, ℕ, Bool, true, false, Option, Some, None, if◌then◌else◌, sym, ap, ◌∙◌, inl, inr}
use Rattle.std.proofs.lemmas.Bool.{cases_eq}
use Rattle.dots_host.specs.declared.event.What.{What}
use Rattle.dots_host.specs.declared.event.What.TheVariants as what
use Rattle.dots_edge.specs.declared.connections.Connections.{Connections}
use Rattle.dots_edge.specs.Places.{at_place, is_opened, is_open, SameBeside, SameOpen, Follows}

-- a step that leaves open what was open, and then one with an event
pub follows_after : (found : Option What) (old between new : Connections) → SameOpen old between → Follows found between new → Follows found old new
follows_after None old between new same follows = λ conn. follows conn ∙ same conn
follows_after (Some (what.Datagram from len)) old between new same follows = λ conn. follows conn ∙ same conn
follows_after (Some (what.Opened conn from)) old between new same follows = (sym (same conn) ∙ follows.0, follows.1, λ other ne. follows.2 other ne ∙ same other, follows.3)
follows_after (Some (what.Piece conn len)) old between new same follows = (sym (same conn) ∙ follows.0, λ other. follows.1 other ∙ same other)
follows_after (Some (what.Closed conn)) old between new same follows = (sym (same conn) ∙ follows.0, follows.1, λ other ne. follows.2 other ne ∙ same other)
follows_after (Some what.Tick) old between new same follows = λ conn. follows conn ∙ same conn
follows_after (Some what.Restart) old between new same follows = λ conn. follows conn ∙ same conn
follows_after (Some what.End) old between new same follows = λ conn. follows conn ∙ same conn
follows_after (Some what.Failed) old between new same follows = λ conn. follows conn ∙ same conn

-- a connection goes, and it is told where it was open
pub follows_end : (was : Bool) (old new : Connections) (place : ℕ) → is_open old place ≡ was → at_place new place ≡ None → SameBeside old place new → Follows (if was then Some (what.Closed place) else None) old new
follows_end true old new place is ended beside = (is, ap is_opened ended, λ other ne. ap is_opened (beside other ne))
follows_end false old new place is ended beside = λ conn. elim (cases_eq conn place) [
  | inl same ↦ ap (λ at. is_open new at) same ∙ ap is_opened ended ∙ sym is ∙ ap (λ at. is_open old at) (sym same)
  | inr other ↦ ap is_opened (beside conn other)
]
