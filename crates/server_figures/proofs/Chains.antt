-- What is added behind what was added before.
use Rattle.std.proofs.Common.{◌≡◌, ◌∙◌, ℕ, List, ◌++◌, ap, subst, append_assoc, Result, Ok, Err}
use Rattle.server_figures.specs.Lines.{Heading, plain_figure}
use Rattle.std.specs.Prelude.{OnOk}

pub more : (base mid now a rest : List ℕ) → mid ≡ base ++ a → now ≡ mid ++ rest → now ≡ base ++ (a ++ rest)
more base mid now a rest first next = next ∙ ap (λ (text : List ℕ). text ++ rest) first ∙ append_assoc base a rest

pub on_ok : {A E P Q : Type 0} (result : Result A E) → (P → Q) → OnOk result P → OnOk result Q
on_ok (Ok value) follows holds = follows holds
on_ok (Err fault) follows holds = tt

-- a figure of the number that another is
pub figure : (base now : List ℕ) (h : Heading) (n m : ℕ) → now ≡ base ++ plain_figure h n → n ≡ m → now ≡ base ++ plain_figure h m
figure base now h n m is same = subst (λ k. now ≡ base ++ plain_figure h k) same is
