-- What is printed of a refusal.
use Rattle.std.specs.Prelude.{ℕ, List, codes}
use Rattle.http_cut.specs.declared.fault.HttpFault.{HttpFault}
use Rattle.http_cut.specs.declared.fault.HttpFault.TheVariants.{BadHead, LengthRequired, BodyTooLong}

abbrev pub fault_text : HttpFault → List ℕ
fault_text BadHead = codes "bad head"
fault_text LengthRequired = codes "length required"
fault_text BodyTooLong = codes "body too long"
