-- What is printed of a refusal.
use Rattle.std.specs.Prelude.{ℕ, List, codes}
use Rattle.data_channel.specs.declared.reject.RestReject.{RestReject}
use Rattle.data_channel.specs.declared.reject.RestReject.TheVariants as reject

-- why it is refused; the methods of the resource and the fault of the body aren't printed
abbrev pub reject_text : RestReject → List ℕ
reject_text reject.NotFound = codes "no such resource"
reject_text reject.BadName = codes "a name of the path is none"
reject_text reject.Query = codes "a query"
reject_text (reject.Method allow) = codes "no such method"
reject_text reject.Media = codes "another media type"
reject_text reject.NotJson = codes "no JSON"
reject_text (reject.Body fault) = codes "another body"
reject_text reject.NoMemory = codes "out of memory"
