-- What is to be mended in a line that says nothing: the first field that isn't what it has to be, and why.
use Rattle.std.specs.Prelude.{◌≡◌, ◌≢◌, ◌⊎◌, ℕ, ◌-◌, ◌^◌, ◌<◌, ◌≤◌, Bool, ◌||◌, List, [], ◌∷◌, bytes_eq, codes, decimal, Option, Some, None, MatchOption, IsUtf8}
use Rattle.std.specs.Bool.{MatchBool}
use Rattle.ip_scope.specs.declared.address.Addr.{Addr}
use Rattle.dots_lists.specs.Lines.{fields_of}
use Rattle.dots_edge.specs.HostLine.{LineValue, Says, IsEndpointText, IsPeerText}
use Rattle.dots_edge.specs.declared.complaint.Complaint.{Complaint}
use Rattle.dots_edge.specs.declared.complaint.Reason.{Reason}
use Rattle.dots_edge.specs.declared.complaint.Reason.TheVariants as reason
use Rattle.dots_edge.specs.declared.host_fault.HostFault.{HostFault}
use Rattle.dots_edge.specs.declared.host_fault.HostFault.TheVariants as fault

abbrev pub of_field : Reason → ℕ → Complaint
of_field why field = record { reason = why; field = Some field }

abbrev pub of_line : Reason → Complaint
of_line why = record { reason = why; field = None }

-- Of the fields behind a word that has one: there isn't one, or it isn't of the form, or it is.
abbrev pub JudgesOne : Reason → (List ℕ → Type 0) → (List ℕ → Type 0) → List (List ℕ) → Option Complaint → Type 0
JudgesOne why Fits FitsNot rest found = MatchOption found
    ((text : List ℕ) × (rest ≡ text ∷ []) × Fits text)
    (λ complaint. ((complaint ≡ of_line reason.OneField) × ((text : List ℕ) → rest ≢ text ∷ []))
    ⊎ ((complaint ≡ of_field why 1) × (text : List ℕ) × (rest ≡ text ∷ []) × FitsNot text))

abbrev pub JudgesPath : List (List ℕ) → Option Complaint → Type 0
JudgesPath rest found = JudgesOne reason.Path (λ text. (text ≢ []) × IsUtf8 text) (λ text. ¬ ((text ≢ []) × IsUtf8 text)) rest found

abbrev pub JudgesBytes : List (List ℕ) → Option Complaint → Type 0
JudgesBytes rest found = JudgesOne reason.Bytes
    (λ text. (bytes : ℕ) × (bytes ≤ 2 ^ 30) × (text ≡ decimal bytes))
    (λ text. (bytes : ℕ) → bytes ≤ 2 ^ 30 → text ≢ decimal bytes) rest found

abbrev pub JudgesEnd : List (List ℕ) → Option Complaint → Type 0
JudgesEnd rest found = JudgesOne reason.End
    (λ text. (address : Addr) × (port : ℕ) × IsEndpointText text address port)
    (λ text. (address : Addr) (port : ℕ) → ¬ (IsEndpointText text address port)) rest found

abbrev pub JudgesCount : List (List ℕ) → Option Complaint → Type 0
JudgesCount rest found = JudgesOne reason.Count
    (λ text. (count : ℕ) × (count < 10 ^ 19) × (text ≡ decimal count))
    (λ text. (count : ℕ) → count < 10 ^ 19 → text ≢ decimal count) rest found

-- the same of the two fields of a peer, of which the first that isn't of its form is blamed
abbrev pub JudgesPeer : List (List ℕ) → Option Complaint → Type 0
JudgesPeer rest found = MatchOption found
    ((digits text : List ℕ) × (rest ≡ digits ∷ text ∷ []) × ((number : ℕ) × (number < 2 ^ 32 - 1) × (digits ≡ decimal number))
    × ((address : Addr) × (port : Option ℕ) × IsPeerText text address port))
    (λ complaint. ((complaint ≡ of_line reason.TwoFields) × ((digits text : List ℕ) → rest ≢ digits ∷ text ∷ []))
    ⊎ (((complaint ≡ of_field reason.Peer 1) × (digits text : List ℕ) × (rest ≡ digits ∷ text ∷ []) × ((number : ℕ) → number < 2 ^ 32 - 1 → digits ≢ decimal number))
    ⊎ ((complaint ≡ of_field reason.PeerEnd 2) × (digits text : List ℕ) × (rest ≡ digits ∷ text ∷ []) × ((address : Addr) (port : Option ℕ) → ¬ (IsPeerText text address port)))))

-- behind the word stands a path
abbrev pub names_file : List ℕ → Bool
names_file word =
    bytes_eq word (codes "journal") || (bytes_eq word (codes "filters") || (bytes_eq word (codes "filters-nft") || bytes_eq word (codes "figures")))

-- of all fields of a line: by its first word, or that this is none
abbrev pub Judges : List (List ℕ) → Option Complaint → Type 0
Judges [] found = ⊥
Judges (word ∷ rest) found =
    MatchBool (names_file word) (JudgesPath rest found)
    (MatchBool (bytes_eq word (codes "reserve")) (JudgesBytes rest found)
    (MatchBool (bytes_eq word (codes "signal") || bytes_eq word (codes "http")) (JudgesEnd rest found)
    (MatchBool (bytes_eq word (codes "peer")) (JudgesPeer rest found)
    (MatchBool (bytes_eq word (codes "events")) (JudgesCount rest found)
    (found ≡ Some (of_field reason.Word 0))))))

-- A line that says something has no complaint, and any other the one of its fields. Where each field is of its form by itself, that is the whole line.
abbrev pub JudgesLine : List ℕ → Option Complaint → Type 0
JudgesLine line found = MatchOption found
    ((value : LineValue) × Says line value)
    (λ complaint. ((value : LineValue) → ¬ (Says line value))
    × (Judges (fields_of line) (Some complaint) ⊎ ((complaint ≡ of_line reason.Form) × Judges (fields_of line) None)))

-- the complaint about the line at which a host file has its fault
abbrev pub JudgesFault : HostFault → List ℕ → Option Complaint → Type 0
JudgesFault (fault.Line n) line found = JudgesLine line found
JudgesFault (fault.Twice n) line found = found ≡ Some (of_line reason.Twice)
JudgesFault (fault.Many n) line found = found ≡ Some (of_line reason.Many)
JudgesFault (fault.Wildcard n) line found = found ≡ Some (of_field reason.Wildcard 1)
JudgesFault fault.NoMemory line found = found ≡ None
