-- What is answered of bytes, by what reading gives.
use Rattle.std.proofs.Common.{◌≡◌, ◌≢◌, ℕ, List, Result, Ok, Err, refl, ap, ◌∙◌}
use Rattle.std.specs.Prelude.{IfOk, IfErr}
use Rattle.slot_store.specs.declared.format.Format.{Format}
use Rattle.dots_history.specs.declared.entry.Entry.{Entry}
use Rattle.slot_journal.specs.declared.record_fault.EntryFault.{EntryFault}
use Rattle.slot_journal.specs.declared.record_fault.EntryFault.TheVariants.{NotEntry, NoMemory}
use Rattle.slot_journal.specs.RecordReading.{Gives, record_at}
use Rattle.slot_journal.specs.Records.{IsRecord, IsBroken}
use Rattle.slot_journal.proofs.Readers.{AreBytes}
use Rattle.slot_journal.proofs.Places.{read_record, read_is, read_broken, broken_is, one_answer, no_error}

abbrev Answer : Type 0
Answer = Result Entry EntryFault

abbrev Gave : Format → List ℕ → Answer → Type 0
Gave format bytes r = Gives (λ (e : Entry). e) r (record_at format bytes)

pub is_found : (format : Format) (bytes : List ℕ) (r : Answer) → AreBytes bytes → Gave format bytes r → IfOk r (λ e. IsRecord format bytes e)
is_found format bytes (Ok e) fits gave = read_is format bytes e fits gave
is_found format bytes (Err fault) fits gave = tt

pub is_only : (format : Format) (bytes : List ℕ) (r : Answer) → Gave format bytes r → (e : Entry) → IsRecord format bytes e → r ≢ Err NoMemory → r ≡ Ok e
is_only format bytes (Ok x) gave e rec had = ap (λ (y : Entry). Ok y) (one_answer (record_at format bytes) x e gave (read_record format bytes e rec))
is_only format bytes (Err (NotEntry at)) gave e rec had = no_error (record_at format bytes) e at (read_record format bytes e rec) gave
is_only format bytes (Err NoMemory) gave e rec had = absurd (had refl)

same_place : (fault : EntryFault) (at there : ℕ) → fault ≡ NotEntry at → fault ≡ NotEntry there → at ≡ there
same_place fault at there is other = cc

pub is_broken : (format : Format) (bytes : List ℕ) (r : Answer) → AreBytes bytes → Gave format bytes r → IfErr r (λ fault. (at : ℕ) → fault ≡ NotEntry at → IsBroken format bytes at)
is_broken format bytes (Ok e) fits gave = tt
is_broken format bytes (Err (NotEntry there)) fits gave = λ at is. broken_is format bytes at fits (gave ∙ ap (λ (n : ℕ). Err n) (same_place (NotEntry there) there at refl is))
is_broken format bytes (Err NoMemory) fits gave = λ at is. cc

one_place : (r : Result Entry ℕ) (at there : ℕ) → r ≡ Err at → r ≡ Err there → at ≡ there
one_place r at there first next = cc

pub is_first : (format : Format) (bytes : List ℕ) (r : Answer) → AreBytes bytes → Gave format bytes r → (at : ℕ) → IsBroken format bytes at → r ≢ Err NoMemory → r ≡ Err (NotEntry at)
is_first format bytes (Ok e) fits gave at broken had = no_error (record_at format bytes) e at gave (read_broken format bytes at fits broken)
is_first format bytes (Err (NotEntry there)) fits gave at broken had = ap (λ (n : ℕ). Err (NotEntry n)) (one_place (record_at format bytes) there at gave (read_broken format bytes at fits broken))
is_first format bytes (Err NoMemory) fits gave at broken had = absurd (had refl)
