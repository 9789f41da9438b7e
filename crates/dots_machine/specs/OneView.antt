-- Two histories with one view at a time. What is decided by a history is read from its view.
use Rattle.std.specs.Prelude.{◌≡◌, ℕ, List, [], ◌∷◌, ⊤}
use Rattle.dots_settings.specs.Settings.{SettingsValue}
use Rattle.dots_history.specs.declared.entry.Entry.{Entry}
use Rattle.dots_history.specs.Histories.{OneDomain, view}

-- they have one view, when so many messages are remembered as the settings say
abbrev pub HaveOneView : SettingsValue → ℕ → List Entry → List Entry → Type 0
HaveOneView settings t one other = view settings.limits.remembered t one ≡ view settings.limits.remembered t other

-- The session configurations of each peer are of one domain, as they are in a calm history (RFC 9132, section 4.5).
abbrev pub ConfigureInOneDomain : List Entry → Type 0
ConfigureInOneDomain [] = ⊤
ConfigureInOneDomain (e ∷ later) = OneDomain e later × ConfigureInOneDomain later

-- They have one view, and so it is in both. A view says which configuration of a peer was the last in any domain, and what is configured in a domain
-- goes by the entries of this domain alone: so where a peer had configured in two, one view could have two meanings.
pub record AreReadAlike (settings : SettingsValue) (t : ℕ) (one other : List Entry) : Type 0 where
  pub one_view : HaveOneView settings t one other
  pub one_configures : ConfigureInOneDomain one
  pub other_configures : ConfigureInOneDomain other
