-- The resource that the code's stands for.
use Rattle.std.specs.Option.{option_copied}
use Rattle.dots_keys.specs.declared.path.Resource.{Resource}
use Rattle.dots_keys.specs.declared.path.Resource.TheVariants as code
use Rattle.dots_keys.specs.Paths.{mitigation, config, heartbeat}
use Rattle.dots_keys.specs.Paths as paths

abbrev pub resource_value : Resource → paths.Resource
resource_value (code.Mitigation cdid cuid mid) = mitigation (option_copied cdid) (option_copied cuid) (option_copied mid)
resource_value (code.Config sid) = config (option_copied sid)
resource_value code.Heartbeat = heartbeat
