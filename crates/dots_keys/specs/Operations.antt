-- What is to be done with a resource (RFC 9132, sections 4.4 to 4.7).
use Rattle.std.specs.Prelude.{ℕ, ◌^◌, Bool, true, false, not, ◌&&◌, ◌==◌, nat_lt, nat_le, List, length, Option, Some, None, Result, Ok, Err, if◌then◌else◌}
use Rattle.std.specs.Char.{is_digit}
use Rattle.std.specs.List.{list_all, list_any}
use Rattle.std.specs.Str.Parse.{digits_value}
use Rattle.dots_lists.specs.Name.{is_name}
use Rattle.dots_keys.specs.declared.operation.Method.{Method}
use Rattle.dots_keys.specs.declared.operation.Method.TheVariants as method
use Rattle.dots_keys.specs.declared.reject.Reject.{Reject}
use Rattle.dots_keys.specs.declared.reject.Reject.TheVariants as reject
use Rattle.dots_keys.specs.declared.head_request.MitigationPath.{MitigationPath}
use Rattle.dots_keys.specs.Paths.{Resource, mitigation, config, heartbeat}
use Rattle.dots_keys.specs.Results.{◌>>=◌}

-- What the method wants of the resource, with its parameters. A PUT and a DELETE have a mid or a sid.
pub data Operation : Type 0 where
  put_mitigation : MitigationPath → Operation
  get_mitigation : MitigationPath → Operation
  delete_mitigation : MitigationPath → Operation
  put_config : ℕ → Operation
  get_config : Option ℕ → Operation
  delete_config : ℕ → Operation
  put_heartbeat : Operation

-- GET 0.01, PUT 0.03, DELETE 0.04 (RFC 7252, section 12.1.1)
abbrev pub method_in : ℕ → Option Method
method_in code =
    if code == 1 then Some method.Get else if code == 3 then Some method.Put else if code == 4 then Some method.Delete else None

-- a heartbeat has PUT alone, the others have all three
abbrev pub allowed : Resource → Option Method → Result Method Reject
allowed resource None = Err reject.Method
allowed resource (Some method.Put) = Ok method.Put
allowed (mitigation cdid cuid mid) (Some method.Get) = Ok method.Get
allowed (mitigation cdid cuid mid) (Some method.Delete) = Ok method.Delete
allowed (config sid) (Some method.Get) = Ok method.Get
allowed (config sid) (Some method.Delete) = Ok method.Delete
allowed heartbeat (Some method.Get) = Err reject.Method
allowed heartbeat (Some method.Delete) = Err reject.Method

abbrev pub method_of : Resource → ℕ → Result Method Reject
method_of resource code = allowed resource (method_in code)

-- a name without a slash
abbrev pub is_client_name : List ℕ → Bool
is_client_name text = is_name text && not (list_any (λ byte. byte == 47) text)

abbrev pub client_name : List ℕ → Result (List ℕ) Reject
client_name text = if is_client_name text then Ok text else Err reject.Parameter

-- a mid or a sid: 1 to 10 decimal digits that write a number below 2^32
abbrev pub is_identifier : List ℕ → Bool
is_identifier text =
    nat_le 1 (length text) && nat_le (length text) 10 && list_all (λ byte. is_digit byte 10) text && nat_lt (digits_value 10 text) (2 ^ 32)

abbrev pub identifier : List ℕ → Result ℕ Reject
identifier text = if is_identifier text then Ok (digits_value 10 text) else Err reject.Parameter

-- a parameter that may be missing, and one that may not
abbrev pub optional : {A : Type 0} → (List ℕ → Result A Reject) → Option (List ℕ) → Result (Option A) Reject
optional read None = Ok None
optional read (Some text) = read text >>= λ value. Ok (Some value)

abbrev pub mandatory : {A : Type 0} → Option A → Result A Reject
mandatory None = Err reject.Parameter
mandatory (Some value) = Ok value

-- a gateway has to say for which domain it asks; what a client says is passed over
abbrev pub domain_of : Bool → Option (List ℕ) → Result (Option (List ℕ)) Reject
domain_of true cdid = mandatory cdid >>= λ text. client_name text >>= λ name. Ok (Some name)
domain_of false cdid = Ok None

abbrev pub mitigation_path : Bool → Option (List ℕ) → Option (List ℕ) → Option (List ℕ) → Result MitigationPath Reject
mitigation_path gateway cdid cuid mid = do
  domain ← domain_of gateway cdid
  text ← mandatory cuid
  client ← client_name text
  number ← optional identifier mid
  Ok (record { cdid = domain; cuid = client; mid = number })

abbrev pub with_mid : MitigationPath → Result MitigationPath Reject
with_mid path = mandatory path.mid >>= λ mid. Ok path

abbrev pub mitigation_operation : Method → MitigationPath → Result Operation Reject
mitigation_operation method.Get path = Ok (get_mitigation path)
mitigation_operation method.Put path = with_mid path >>= λ path. Ok (put_mitigation path)
mitigation_operation method.Delete path = with_mid path >>= λ path. Ok (delete_mitigation path)

abbrev pub config_operation : Method → Option ℕ → Result Operation Reject
config_operation method.Get sid = Ok (get_config sid)
config_operation method.Put sid = mandatory sid >>= λ sid. Ok (put_config sid)
config_operation method.Delete sid = mandatory sid >>= λ sid. Ok (delete_config sid)

-- the operation, where no parameter is missing and each has its form
abbrev pub operation_of : Resource → Method → Bool → Result Operation Reject
operation_of (mitigation cdid cuid mid) method gateway = mitigation_path gateway cdid cuid mid >>= mitigation_operation method
operation_of (config sid) method gateway = optional identifier sid >>= config_operation method
operation_of heartbeat method gateway = Ok put_heartbeat
