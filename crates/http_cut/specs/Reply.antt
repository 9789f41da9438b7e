-- The head of a reply (RFC 9112, section 4), with the fields that a reply may have here, in their order.
use Rattle.std.specs.Prelude.{ℕ, ◌==◌, Bool, List, [], ◌∷◌, ◌++◌, if◌then◌else◌, decimal, codes, unwrap_or}
use Rattle.std.specs.List.{list_any, list_all}
use Rattle.http.specs.StatusCode.{code_digits, reason_phrase}
use Rattle.httparse.specs.Ascii.{crlf_bytes}
use Rattle.http_cut.specs.declared.reply_head.ReplyHead.{ReplyHead}
use Rattle.http_cut.specs.Requests.{is_other}

-- the statuses of replies
abbrev pub reply_statuses : List ℕ
reply_statuses = 200 ∷ 201 ∷ 204 ∷ 400 ∷ 404 ∷ 405 ∷ 409 ∷ 411 ∷ 413 ∷ 415 ∷ 500 ∷ 503 ∷ []

abbrev pub is_reply_status : ℕ → Bool
is_reply_status status = list_any (λ known. known == status) reply_statuses

-- no byte ends the line in which the bytes stand (RFC 9110, section 5.5)
abbrev pub is_in_line : List ℕ → Bool
is_in_line bytes = list_all is_other bytes

-- the standard phrase of a status
unfoldable pub phrase_of : ℕ → List ℕ
phrase_of status = unwrap_or (reason_phrase status) []

-- status-line = HTTP-version SP status-code SP reason-phrase CRLF
unfoldable pub status_line : ℕ → List ℕ
status_line status = codes "HTTP/1.1 " ++ code_digits status ++ codes " " ++ phrase_of status ++ crlf_bytes

-- field-line = field-name ":" OWS field-value OWS CRLF, with one space for the first OWS and none for the second
unfoldable pub field_line : List ℕ → List ℕ → List ℕ
field_line name value = name ++ codes ": " ++ value ++ crlf_bytes

-- the field of this name, where it has a value
unfoldable pub text_line : List ℕ → List ℕ → List ℕ
text_line name [] = []
text_line name (b ∷ bytes) = field_line name (b ∷ bytes)

-- Connection = close (RFC 9110, section 7.6.1)
unfoldable pub closing_line : Bool → List ℕ
closing_line close = if close then field_line (codes "Connection") (codes "close") else []

-- the one media type of bodies (RFC 8040, section 3.2)
unfoldable pub media_line : Bool → List ℕ
media_line json = if json then field_line (codes "Content-Type") (codes "application/yang-data+json") else []

-- Content-Length = 1*DIGIT; status 204 never has it (RFC 9110, section 8.6)
unfoldable pub length_line : ℕ → ℕ → List ℕ
length_line status n = if status == 204 then [] else field_line (codes "Content-Length") (decimal n)

-- the status line, the field lines, and the empty line
abbrev pub head_bytes : ReplyHead → List ℕ
head_bytes head =
    status_line head.status
    ++ closing_line head.close
    ++ text_line (codes "Location") head.location.now
    ++ text_line (codes "Allow") head.allow.now
    ++ media_line head.json
    ++ length_line head.status head.length
    ++ crlf_bytes
