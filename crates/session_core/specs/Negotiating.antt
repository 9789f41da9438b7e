-- The configuration that a client asks for (RFC 9132, section 4.5.2).
use Rattle.std.specs.Prelude.{◌≡◌, ℕ, Bool, true, nat_lt, if◌then◌else◌, List, [], ◌∷◌, ◌++◌, Option, Some, None, option_map, Result, Ok, Err, find}
use Rattle.dots_history.specs.declared.config.Config.{Config}
use Rattle.dots_history.specs.declared.config.Values.{Values}
use Rattle.dots_keys.specs.declared.request.ConfigBody.{ConfigBody}
use Rattle.dots_keys.specs.declared.request.Offer.{Offer}
use Rattle.session_core.specs.declared.setting.Setting.{Setting}
use Rattle.session_core.specs.declared.setting.Setting.TheVariants.{Interval, Missing, Retransmit, Timeout, Factor, Rate}
use Rattle.session_core.specs.declared.negotiating.ConfigFault.{ConfigFault}
use Rattle.session_core.specs.declared.negotiating.ConfigFault.TheVariants.{Range, OlderSid}
use Rattle.session_core.specs.Ranges.{key_of, is_accepted, is_refused, chosen}

-- the values of an offer, keys ascending
abbrev pub given_by : Offer → List (Setting × Option ℕ)
given_by offer =
    (Interval, offer.interval)
    ∷ (Missing, offer.missing)
    ∷ (Retransmit, offer.retransmit)
    ∷ (Timeout, offer.timeout)
    ∷ (Factor, offer.factor)
    ∷ (Rate, offer.rate)
    ∷ []

-- all that is asked for, the values of a mitigation before those of idle times
abbrev pub all_given : ConfigBody → List (Setting × Option ℕ)
all_given body = given_by body.mitigating ++ given_by body.idle

-- the first of them that isn't accepted
abbrev pub refuses_given : Setting × Option ℕ → Bool
refuses_given given = is_refused given.0 given.1

abbrev pub setting_of : Setting × Option ℕ → Setting
setting_of given = given.0

abbrev pub refused_in : List (Setting × Option ℕ) → Option Setting
refused_in given = option_map setting_of (find refuses_given given)

-- what isn't given takes its default
abbrev pub values_by : Offer → Values
values_by offer = record {
  interval = chosen Interval offer.interval;
  missing = chosen Missing offer.missing;
  retransmit = chosen Retransmit offer.retransmit;
  timeout = chosen Timeout offer.timeout;
  factor = chosen Factor offer.factor;
  rate = chosen Rate offer.rate;
}

abbrev pub config_by : ConfigBody → Config
config_by body = record { mitigating = values_by body.mitigating; idle = values_by body.idle }

-- a configuration, or the key of the first value that is out of its range
abbrev pub judged_by : Option Setting → ConfigBody → Result Config ConfigFault
judged_by None body = Ok (config_by body)
judged_by (Some setting) body = Err (Range (key_of setting))

abbrev pub judged : ConfigBody → Result Config ConfigFault
judged body = judged_by (refused_in (all_given body)) body

-- the sid of what is held, where it is higher than the one that is asked for
abbrev pub higher : ℕ → Option ℕ → Option ℕ
higher sid None = None
higher sid (Some kept) = if nat_lt sid kept then Some kept else None

-- a higher sid that is held comes before any range
abbrev pub answered : Option ℕ → ConfigBody → Result Config ConfigFault
answered None body = judged body
answered (Some kept) body = Err (OlderSid kept)

abbrev pub negotiated : Option ℕ → ℕ → ConfigBody → Result Config ConfigFault
negotiated held sid body = answered (higher sid held) body

-- each value is accepted
pub record AreAccepted (values : Values) : Type 0 where
  pub interval : is_accepted Interval values.interval ≡ true
  pub missing : is_accepted Missing values.missing ≡ true
  pub retransmit : is_accepted Retransmit values.retransmit ≡ true
  pub timeout : is_accepted Timeout values.timeout ≡ true
  pub factor : is_accepted Factor values.factor ≡ true
  pub rate : is_accepted Rate values.rate ≡ true
