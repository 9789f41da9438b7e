-- Places that are swept, one more each time.
use Rattle.std.proofs.Common.{◌≡◌, ℕ, ◌+◌, ◌≤◌, Bool, true, false, not, ◌&&◌, Option, Some, None, if◌then◌else◌, refl, sym, ap, ◌∙◌, inl, inr, arith}
use Rattle.std.proofs.lemmas.Bool.{cases_eq}
use Rattle.std.specs.declared.time.Duration.{Duration}
use Rattle.dots_edge.specs.declared.connection.Connection.{Connection}
use Rattle.dots_edge.specs.declared.connections.Connections.{Connections}
use Rattle.dots_edge.specs.Idle.{is_unwritten}
use Rattle.dots_edge.specs.Passing.{is_stale}
use Rattle.dots_edge.specs.Places.{at_place, is_opened, is_open, SameBeside, SameOpen, marked, swept, ends_at, AreSwept, NoneEnds}

pub swept_more : (old between new : Connections) (now : Duration) (from to : ℕ) → from ≤ to → AreSwept old now from to between → at_place new to ≡ swept now (at_place between to) → SameBeside between to new → AreSwept old now from (to + 1) new
swept_more old between new now from to order before here beside place =
    elim (cases_eq place to) [
      | inl same ↦ (
        (λ _ _.
            ap (λ at. at_place new at) same
            ∙ here
            ∙ ap (λ at. swept now (at_place between at)) (sym same)
            ∙ ap (swept now) ((before place).1 (inr (omega (arith, same))))),
        λ out. absurd (elim out [ inl less ↦ omega (arith, less, same, order) | inr more ↦ omega (arith, more, same) ]),
      )
      | inr other ↦ (
        (λ least less. beside place other ∙ (before place).0 least (omega arith)),
        λ out. beside place other ∙ (before place).1 (elim out [ inl less ↦ inl less | inr more ↦ inr (omega (arith, more)) ]),
      )
    ]

pub none_ends_more : (old between : Connections) (now : Duration) (from to : ℕ) → AreSwept old now from to between → NoneEnds old now from to → ends_at now (at_place between to) ≡ false → NoneEnds old now from (to + 1)
none_ends_more old between now from to before none here place least less =
    elim (cases_eq place to) [
      | inl same ↦
          ap (λ found. ends_at now found) (sym ((before place).1 (inr (omega (arith, same)))) ∙ ap (λ at. at_place between at) same) ∙ here
      | inr other ↦ none place least (omega arith)
    ]

opened_by : (stale kept : Bool) (connection : Connection) → (stale && not connection.closing) ≡ false → is_opened (if stale then None else (if kept then marked (Some connection) else Some connection)) ≡ not connection.closing
opened_by true kept connection none = sym none
opened_by false true connection none = refl
opened_by false false connection none = refl

-- where none is told to end, what was open is open still
opened_swept : (now : Duration) (found : Option Connection) → ends_at now found ≡ false → is_opened (swept now found) ≡ is_opened found
opened_swept now None none = refl
opened_swept now (Some connection) none = opened_by (is_stale connection.moved connection.asked now) (is_unwritten connection) connection none

pub same_open_swept : (old new : Connections) (now : Duration) (at : ℕ) → at_place new at ≡ swept now (at_place old at) → SameBeside old at new → ends_at now (at_place old at) ≡ false → SameOpen old new
same_open_swept old new now at here beside none conn =
    elim (cases_eq conn at) [
      | inl same ↦
          ap (λ at. is_open new at) same
          ∙ ap is_opened here
          ∙ opened_swept now (at_place old at) none
          ∙ ap (λ at. is_open old at) (sym same)
      | inr other ↦ ap is_opened (beside conn other)
    ]

-- where nothing is answered nothing ends
pub none_ends : (ends : Bool) (place : ℕ) (answer : Option ℕ) → answer ≡ (if ends then Some place else None) → answer ≡ None → ends ≡ false
none_ends true place answer is none = cc
none_ends false place answer is none = refl
