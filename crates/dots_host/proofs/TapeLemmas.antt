-- A tape that grew by one call of the wire tells one act more.
use Rattle.std.proofs.Common.{◌≡◌, ℕ, ◌+◌, Bool, true, false, List, [], ◌∷◌, ◌++◌, length, ap, ◌∙◌, arith}
use Rattle.std.proofs.lemmas.List.{length_push}
use Rattle.dots_host.specs.declared.event.Event.{Event}
use Rattle.dots_host.specs.declared.out.OwnedOut.{OwnedOut}
use Rattle.dots_host.specs.declared.act.Act.{Act}
use Rattle.dots_host.specs.declared.act.Act.TheVariants as act
use Rattle.dots_host.specs.Acts.{took, gave, Adds, wire_acts}
use Rattle.dots_host.specs.Memory.{told}

took_last : (moment now : ℕ) (acts : List Act) (event : Event) (at : ℕ) → now ≡ moment + length acts
    → wire_acts moment (acts ++ act.Took event at ∷ []) ≡ wire_acts moment acts ++ (record { moment = now; act = took event at }) ∷ []
took_last moment now [] event at is = ap (λ n. (record { moment = n; act = took event at }) ∷ []) (omega arith)
took_last moment now (act.Took e t ∷ acts) event at is = ap (λ later. (record { moment = moment; act = took e t }) ∷ later) (took_last (moment + 1) now acts event at (omega arith))
took_last moment now (act.Gave o d ∷ acts) event at is = ap (λ later. (record { moment = moment; act = gave o d }) ∷ later) (took_last (moment + 1) now acts event at (omega arith))
took_last moment now (act.Read o ∷ acts) event at is = took_last (moment + 1) now acts event at (omega arith)
took_last moment now (act.Wrote a b o ∷ acts) event at is = took_last (moment + 1) now acts event at (omega arith)
took_last moment now (act.Synced o ∷ acts) event at is = took_last (moment + 1) now acts event at (omega arith)

gave_last : (moment now : ℕ) (acts : List Act) (out : OwnedOut) (done : Bool) → now ≡ moment + length acts
    → wire_acts moment (acts ++ act.Gave out done ∷ []) ≡ wire_acts moment acts ++ (record { moment = now; act = gave out done }) ∷ []
gave_last moment now [] out done is = ap (λ n. (record { moment = n; act = gave out done }) ∷ []) (omega arith)
gave_last moment now (act.Took e t ∷ acts) out done is = ap (λ later. (record { moment = moment; act = took e t }) ∷ later) (gave_last (moment + 1) now acts out done (omega arith))
gave_last moment now (act.Gave o d ∷ acts) out done is = ap (λ later. (record { moment = moment; act = gave o d }) ∷ later) (gave_last (moment + 1) now acts out done (omega arith))
gave_last moment now (act.Read o ∷ acts) out done is = gave_last (moment + 1) now acts out done (omega arith)
gave_last moment now (act.Wrote a b o ∷ acts) out done is = gave_last (moment + 1) now acts out done (omega arith)
gave_last moment now (act.Synced o ∷ acts) out done is = gave_last (moment + 1) now acts out done (omega arith)

pub adds_took : (old between new : Bool) (acts room after : List Act) (event : Event) (at : ℕ) → between ≡ old → new ≡ between → room ≡ acts → after ≡ room ++ act.Took event at ∷ []
    → Adds (told old acts) (length acts) (told new after) (length after) (took event at)
adds_took old between new acts room after event at first second third fourth =
    let whole : new ≡ old = second ∙ first in
    let grown : after ≡ acts ++ act.Took event at ∷ [] = fourth ∙ ap (λ xs. xs ++ act.Took event at ∷ []) third in
    rw (whole, grown) (told_took old)
  where
    told_took : (old : Bool) → Adds (told old acts) (length acts) (told old (acts ++ act.Took event at ∷ [])) (length (acts ++ act.Took event at ∷ [])) (took event at)
    told_took true = (took_last 0 (length acts) acts event at (omega arith), length_push acts (act.Took event at))
    told_took false = tt

pub adds_gave : (old between new : Bool) (acts room after : List Act) (out : OwnedOut) (done : Bool) → between ≡ old → new ≡ between → room ≡ acts → after ≡ room ++ act.Gave out done ∷ []
    → Adds (told old acts) (length acts) (told new after) (length after) (gave out done)
adds_gave old between new acts room after out done first second third fourth =
    let whole : new ≡ old = second ∙ first in
    let grown : after ≡ acts ++ act.Gave out done ∷ [] = fourth ∙ ap (λ xs. xs ++ act.Gave out done ∷ []) third in
    rw (whole, grown) (told_gave old)
  where
    told_gave : (old : Bool) → Adds (told old acts) (length acts) (told old (acts ++ act.Gave out done ∷ [])) (length (acts ++ act.Gave out done ∷ [])) (gave out done)
    told_gave true = (gave_last 0 (length acts) acts out done (omega arith), length_push acts (act.Gave out done))
    told_gave false = tt
