-- How one line is taken, or refused.
use Rattle.std.specs.Prelude.{◌≡◌, ℕ, ⊤, Bool, true, false, List, [], ◌∷◌, Some}
use Rattle.ask_agent.specs.declared.draft.Draft.{Draft}
use Rattle.ask_agent.specs.declared.fault.AskSettingsFault.{AskSettingsFault}
use Rattle.ask_agent.specs.declared.fault.AskSettingsFault.TheVariants as fault
use Rattle.ask_agent.specs.declared.line.Line.{Line}
use Rattle.ask_agent.specs.Lines.{line_says}
use Rattle.ask_agent.specs.SettingsSaid.{may_follow}
use Rattle.ask_agent.specs.Admitting.{admitted}

-- the line says something that may stand here
pub record Takes (line : List ℕ) (old new : Draft) : Type 0 where
  pub said : Line
  pub says : line_says line ≡ Some said
  pub follows : may_follow old said ≡ true
  pub now : new ≡ admitted old said

-- or the line of this number says nothing that may
abbrev pub Refuses : List ℕ → ℕ → Draft → AskSettingsFault → Type 0
Refuses line number old (fault.Line n) = (n ≡ number) × ((said : Line) → line_says line ≡ Some said → may_follow old said ≡ false)
Refuses line number old fault.ReadFault = ⊥
Refuses line number old fault.NoMemory = ⊤

-- the byte after the 65,536th stands in the line behind which these bytes are left
abbrev pub is_past : Bool → List ℕ → Bool
is_past long [] = long
is_past long (byte ∷ bytes) = false
