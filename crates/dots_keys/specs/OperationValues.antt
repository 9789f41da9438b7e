-- The operation that the code's stands for.
use Rattle.std.specs.Prelude.{IsTrue, IfSome, ⊤}
use Rattle.std.specs.Option.{option_copied}
use Rattle.dots_lists.specs.Name.{is_name}
use Rattle.dots_keys.specs.declared.operation.Parameters.{Parameters}
use Rattle.dots_keys.specs.declared.operation.Operation.{Operation}
use Rattle.dots_keys.specs.declared.operation.Operation.TheVariants as code
use Rattle.dots_keys.specs.declared.head_request.MitigationPath.{MitigationPath}
use Rattle.dots_keys.specs.Operations.{put_mitigation, get_mitigation, delete_mitigation, put_config, get_config, delete_config, put_heartbeat}
use Rattle.dots_keys.specs.Operations as operations

abbrev pub path_value : Parameters → MitigationPath
path_value parameters = record { cdid = option_copied parameters.cdid; cuid = parameters.cuid.now; mid = parameters.mid }

abbrev pub operation_value : Operation → operations.Operation
operation_value (code.PutMitigation parameters) = put_mitigation (path_value parameters)
operation_value (code.GetMitigation parameters) = get_mitigation (path_value parameters)
operation_value (code.DeleteMitigation parameters) = delete_mitigation (path_value parameters)
operation_value (code.PutConfig sid) = put_config sid
operation_value (code.GetConfig sid) = get_config sid
operation_value (code.DeleteConfig sid) = delete_config sid
operation_value code.PutHeartbeat = put_heartbeat

-- its cuid and its cdid are names
pub record HasNames (path : MitigationPath) : Type 0 where
  pub cuid : IsTrue (is_name path.cuid)
  pub cdid : IfSome path.cdid (λ cdid. IsTrue (is_name cdid))

abbrev pub IsNamed : Operation → Type 0
IsNamed (code.PutMitigation parameters) = HasNames (path_value parameters)
IsNamed (code.GetMitigation parameters) = HasNames (path_value parameters)
IsNamed (code.DeleteMitigation parameters) = HasNames (path_value parameters)
IsNamed _ = ⊤
