-- What is replied and printed of a refusal.
use Rattle.std.specs.Prelude.{ℕ, List, ◌++◌, codes, decimal}
use Rattle.dots_keys.specs.declared.reject.Reject.{Reject}
use Rattle.dots_keys.specs.declared.reject.Reject.TheVariants as reject
use Rattle.dots_keys.specs.declared.reject.Cause.{Cause}
use Rattle.dots_keys.specs.declared.reject.Cause.TheVariants as cause

abbrev pub cause_text : Cause → List ℕ
cause_text (cause.Cbor fault) = codes "cbor"
cause_text (cause.Missing key) = codes "missing " ++ decimal key
cause_text (cause.Invalid key) = codes "invalid " ++ decimal key
cause_text (cause.Unknown key) = codes "unknown " ++ decimal key

abbrev pub reject_text : Reject → List ℕ
reject_text (reject.Critical number) = codes "option " ++ decimal number
reject_text reject.Path = codes "path"
reject_text reject.Method = codes "method"
reject_text reject.HopLimit = codes "hop limit"
reject_text reject.Parameter = codes "path parameter"
reject_text reject.Accept = codes "accept"
reject_text reject.Format = codes "content format"
reject_text reject.Query = codes "query"
reject_text (reject.Body cause) = cause_text cause
reject_text reject.NoMemory = codes "out of memory"

-- 4.02 Bad Option, 4.04 Not Found, 4.05 Method Not Allowed, 4.06 Not Acceptable, 4.15 Unsupported Content-Format, and else 4.00 Bad
-- Request (RFC 7252, section 12.1.2)
abbrev pub reject_code : Reject → ℕ
reject_code (reject.Critical number) = 0x82
reject_code reject.Path = 0x84
reject_code reject.Method = 0x85
reject_code reject.Accept = 0x86
reject_code reject.Format = 0x8f
reject_code _ = 0x80
