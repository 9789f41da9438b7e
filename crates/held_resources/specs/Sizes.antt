-- How much is held at most, by the settings.
use Rattle.std.specs.Prelude.{ℕ, ◌+◌, ◌*◌, Bool, true, false, length}
use Rattle.std.specs.List.{flat_map}
use Rattle.dots_settings.specs.declared.peer.Role.{Role}
use Rattle.dots_settings.specs.declared.peer.Role.TheVariants as role
use Rattle.dots_settings.specs.Settings.{SettingsValue}
use Rattle.dots_settings.specs.Sizes.{most_of_domain}
use Rattle.dots_history.specs.Calm.{loser_of}

-- a peer of this role is a client
abbrev pub is_client : Role → Bool
is_client (role.Client domain) = true
is_client _ = false

-- in all domains, with a session configuration of each peer and a lost signal of each client peer, and one more
abbrev pub most_held : SettingsValue → ℕ
most_held settings =
    length settings.domains * most_of_domain settings.limits + length settings.peers + length (flat_map loser_of settings.peers) + 1
