-- Reading exactly these bytes, and the seal behind an entry.
use Rattle.std.proofs.lemmas.List.{append-nil, length-append, take_at}
use Rattle.std.proofs.Common.{◌-◌, length, take, Ok, subst, ◌∙◌, ◌≡◌, ℕ, zero, suc, List, [], ◌∷◌, ◌++◌, refl, ap, arith, sym, ◌≤◌}
use Rattle.std.specs.Prelude.{slice_index}
use Rattle.std.specs.Int.{w32, to_be_bytes}
use Rattle.sha2.specs.Sha256.{digest_bytes, sha256}
use Rattle.slot_store.specs.declared.format.Format.{Format}
use Rattle.slot_store.specs.declared.format.Format.TheVariants.{One, Two}
use Rattle.slot_store.specs.Formats.{seal}
use Rattle.dots_history.specs.declared.entry.Entry.{Entry}
use Rattle.slot_journal.specs.declared.record_fault.EntryFault.{EntryFault}
use Rattle.slot_journal.specs.Layout.{byte, body_bytes, record_bytes}
use Rattle.slot_journal.specs.RecordReading.{Stops, pair_at, both_at, first, second, within_at, exactly_at, entry_at, closing_at, whole_at}
use Rattle.slot_journal.proofs.Readers.{Sound, AreBytes, IsReader, made_reader, pair_reader}
use Rattle.slot_journal.proofs.Fields.{IsWithin, within_reader, is_between, between_most, between_least, are_bytes_joined, front_bytes, bytes_of_4, both_reader}
use Rattle.slot_journal.proofs.Prefixes.{constant_reader}
use Rattle.slot_journal.proofs.Loops.{stops_then}
use Rattle.slot_journal.proofs.Wholes.{MayBe, entry_reader}

that_byte : (x b : ℕ) → IsWithin x x b → x ≡ b
that_byte x b is = omega (arith, between_least x x b is.0, between_most x x b is.0)

pub exactly_reader : (xs : List ℕ) → AreBytes xs → IsReader (λ (_ : Unit {0}). Unit {0}) (λ _. xs) (exactly_at xs)
unfolding exactly_at
exactly_reader [] are = constant_reader (λ (_ : Unit {0}). Unit {0}) (λ _. []) tt tt refl (λ x holds. refl)
exactly_reader (x ∷ xs) are =
    made_reader (λ (p : ℕ × Unit {0}). IsWithin x x p.0 × Unit {0}) (λ p. byte p.0 ++ xs) (both_at (within_at x x) (exactly_at xs))
    (λ (_ : Unit {0}). Unit {0}) (λ _. x ∷ xs) second
    (λ p holds. (tt, ap (λ (n : ℕ). n ∷ xs) (that_byte x p.0 holds.0)))
    (λ u holds. ((x, u), ((is_between x x x (omega arith) (omega arith), are.0), tt), refl))
    (both_reader _ _ _ _ _ _ (within_reader x x (omega arith) (omega (arith, are.0))) (exactly_reader xs are.1))

-- ---- seals

digest_are : (h : List ℕ) (n : ℕ) → AreBytes (digest_bytes h n)
unfolding digest_bytes
digest_are h zero = tt
digest_are h (suc n) = are_bytes_joined (digest_bytes h n) (to_be_bytes w32 (slice_index h n)) (digest_are h n) (bytes_of_4 (slice_index h n)).1

sha256_are : (bytes : List ℕ) → AreBytes (sha256 bytes)
unfolding sha256
sha256_are bytes = digest_are _ 8

seal_are : (bytes : List ℕ) → AreBytes (seal bytes)
unfolding seal
seal_are bytes = front_bytes 8 (sha256 bytes) (sha256_are bytes)

-- what stands behind the fields
abbrev closing_bytes : Format → List ℕ → List ℕ
closing_bytes One fields = []
closing_bytes Two fields = seal fields

closing_reader : (format : Format) (fields : List ℕ) → IsReader (λ (_ : Unit {0}). Unit {0}) (λ _. closing_bytes format fields) (closing_at format fields)
closing_reader One fields = constant_reader (λ (_ : Unit {0}). Unit {0}) (λ _. []) tt tt refl (λ x holds. refl)
closing_reader Two fields = exactly_reader (seal fields) (seal_are fields)

record_is : (format : Format) (e : Entry) → record_bytes format e ≡ body_bytes format e ++ closing_bytes format (body_bytes format e)
unfolding record_bytes
record_is One e = sym (append-nil (body_bytes One e))
record_is Two e = refl

pub whole_reader : (format : Format) → IsReader MayBe (record_bytes format) (whole_at format)
unfolding whole_at
whole_reader format =
    made_reader (λ (p : Entry × Unit {0}). MayBe p.0 × Unit {0}) (λ p. body_bytes format p.0 ++ closing_bytes format (body_bytes format p.0))
    (pair_at (entry_at format) (λ entry. closing_at format (body_bytes format entry)))
    MayBe (record_bytes format) first
    (λ p holds. (holds.0, record_is format p.0))
    (λ e holds. ((e, tt), (holds, tt), refl))
    (pair_reader MayBe (body_bytes format) (entry_at format) (λ _ _. Unit {0}) (λ entry _. closing_bytes format (body_bytes format entry)) (λ entry. closing_at format (body_bytes format entry))
    (entry_reader format) (λ entry holds. closing_reader format (body_bytes format entry)))

-- ---- reading a whole record

passed : (format : Format) (end : ℕ) (bytes rest : List ℕ) (e : Entry) → AreBytes bytes → entry_at format end bytes ≡ Ok (e, rest) → bytes ≡ body_bytes format e ++ rest
passed format end bytes rest e fits is = (subst (Sound MayBe (body_bytes format) (entry_at format) end bytes) is ((entry_reader format).sound end bytes fits)).1

pub fewer_left : (format : Format) (end : ℕ) (front bytes rest : List ℕ) (e : Entry) → AreBytes bytes → front ≡ bytes → entry_at format end front ≡ Ok (e, rest) → length rest ≤ length bytes
fewer_left format end front bytes rest e fits same is =
    let read = subst (λ (l : List ℕ). entry_at format end l ≡ Ok (e, rest)) same is in
    omega (arith, ap (length {A = ℕ}) (passed format end bytes rest e fits read), length-append (body_bytes format e) rest)

-- the bytes that were read are the fields
fields_are : (format : Format) (end : ℕ) (bytes rest : List ℕ) (e : Entry) → AreBytes bytes → entry_at format end bytes ≡ Ok (e, rest) → take (length bytes - length rest) bytes ≡ body_bytes format e
fields_are format end bytes rest e fits is =
    let all = passed format end bytes rest e fits is in
    let size : length bytes - length rest ≡ length (body_bytes format e) = omega (arith, ap (length {A = ℕ}) all, length-append (body_bytes format e) rest) in
    ap (λ (n : ℕ). take n bytes) size ∙ ap (take (length (body_bytes format e))) all ∙ take_at (body_bytes format e) rest (length (body_bytes format e)) refl

pub closing_is : (format : Format) (end there : ℕ) (front bytes rest : List ℕ) (e : Entry) → AreBytes bytes → front ≡ bytes → there ≡ end → entry_at format end front ≡ Ok (e, rest)
    → closing_at format (take (length bytes - length rest) bytes) there rest ≡ closing_at format (body_bytes format e) end rest
closing_is format end there front bytes rest e fits same at is =
    let read = subst (λ (l : List ℕ). entry_at format end l ≡ Ok (e, rest)) same is in
    ap (λ (l : List ℕ). closing_at format l there rest) (fields_are format end bytes rest e fits read) ∙ ap (λ (n : ℕ). closing_at format (body_bytes format e) n rest) at

pub whole_stop : (format : Format) (fault : EntryFault) (end : ℕ) (bytes : List ℕ) → Stops fault (entry_at format end bytes) → Stops fault (whole_at format end bytes)
unfolding whole_at
whole_stop format fault end bytes stops = stops_then fault (entry_at format end bytes) (whole_at format end bytes) (λ at bad. rw bad refl) stops

pub closing_stop : (format : Format) (fault : EntryFault) (end : ℕ) (bytes rest : List ℕ) (e : Entry) → entry_at format end bytes ≡ Ok (e, rest) → Stops fault (closing_at format (body_bytes format e) end rest)
    → Stops fault (whole_at format end bytes)
unfolding whole_at
closing_stop format fault end bytes rest e is stops = stops_then fault (closing_at format (body_bytes format e) end rest) (whole_at format end bytes) (λ at bad. rw (is, bad) refl) stops

pub whole_is : (format : Format) (end : ℕ) (bytes rest after : List ℕ) (e : Entry) (u : Unit {0}) → entry_at format end bytes ≡ Ok (e, rest) → closing_at format (body_bytes format e) end rest ≡ Ok (u, after)
    → whole_at format end bytes ≡ Ok (e, after)
unfolding whole_at
whole_is format end bytes rest after e u is closed = rw (is, closed) refl
