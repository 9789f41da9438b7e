-- How a disk is opened, call by call.
use Rattle.std.proofs.Common.{◌≡◌, ◌≢◌, inl, inr, ℕ, ◌+◌, ◌%◌, ◌<◌, ◌≤◌, List, [], Option, Some, None, refl, sym, ap, subst, ◌∙◌, arith}
use Rattle.std.specs.Prelude.{Result, Ok, Err, IfOk, IfErr}
use Rattle.std.proofs.Math.Path.{fun_ext}
use Rattle.dots_host.specs.Media.{Medium, Media, byte_of, bytes_at, settled}
use Rattle.dots_host.specs.Becoming.{Becomes, MayBecome, Stays, KeepsMedia, Leaves, RestsWith}
use Rattle.dots_host.proofs.WrittenLemmas.{byte_of_bytes_at}
use Rattle.slot_store.specs.declared.fault.OpenFault.{OpenFault}
use Rattle.slot_store.specs.declared.fault.OpenFault.TheVariants as fault
use Rattle.slot_store.specs.declared.format.Format.{Format}
use Rattle.slot_store.specs.declared.format.Format.TheVariants.{Two}
use Rattle.slot_store.specs.Layout.{format_place, IsHeader, HasFormat, IsBlank, IsJournal, HasRecords}
use Rattle.slot_store.specs.Opening.{Is}
use Rattle.slot_store.specs.Gates.{Sees}
use Rattle.slot_store.specs.Refusing.{Fits, FirstWrong, HasSomeFormat, HasNoFormat, IsForm, IsOtherHeader, RefusesHeader, RefusesGates, RefusesDisk, Refuses, IsSmallBy, IsNoSize, IsOpen, front, format as no_format, rest, size}
use Rattle.slot_store.proofs.SameRecords.{gate_of_header}
use Rattle.slot_store.proofs.Steps.{Images, Rests, leaves_as, leaves_then, rests_as}
use Rattle.slot_store.proofs.OpeningLemmas.{rests_settled, images_at_rest}
use Rattle.slot_store.proofs.DiskReading.{leaves_unchanged}
use Rattle.slot_store.proofs.Stages.{more, unsynced, no_call}

-- ---- the first sync

images_same : (seen : ℕ → ℕ) (medium : Medium) → Rests seen medium → Images (Is seen) medium
images_same seen medium rests = images_at_rest seen medium (Is seen) rests (λ image agree. fun_ext agree)

pub sync_lost : (start new : Option Media) (seen : ℕ → ℕ) → RestsWith start (Is seen) → MayBecome start new Stays → Leaves start new (Is seen)
sync_lost start new seen rests becomes = unsynced start start new (Is seen) (Rests seen) (no_call start seen (Is seen) rests) becomes (images_same seen)

pub sync_left : (start new : Option Media) (seen : ℕ → ℕ) → RestsWith start (Is seen) → Becomes start new (λ old now. now ≡ settled old) → Leaves start new (Is seen)
sync_left start new seen rests becomes =
    (more start start new (Is seen) (Rests seen) (Rests seen) (λ old now. now ≡ settled old) (no_call start seen (Is seen) rests) becomes (λ old now is same. rests_settled seen old now is.same same) (images_same seen)).leaves

pub sync_rests : (start new : Option Media) (seen : ℕ → ℕ) → Sees start seen → Becomes start new (λ old now. now ≡ settled old) → RestsWith new (Is seen)
sync_rests None new seen sees becomes = absurd sees
sync_rests (Some start) None seen sees becomes = absurd becomes
sync_rests (Some start) (Some new) seen sees becomes =
    let same = ap (λ media. media.now) becomes.1 ∙ becomes.2 in
    (ap (λ medium. medium.pending) same, ap (λ medium. medium.seen) same ∙ sees)

pub sync_reads : (start between new : Option Media) (seen : ℕ → ℕ) → Leaves start between (Is seen) → KeepsMedia between new → RestsWith between (Is seen) → Leaves start new (Is seen)
sync_reads start between new seen leaves keeps rests = leaves_then start between new (Is seen) leaves (leaves_unchanged between new seen (Is seen) keeps rests refl)

-- ---- the header that was read

pub found_byte : (seen : ℕ → ℕ) (found : List ℕ) (place : ℕ) → found ≡ bytes_at seen 0 64 → place < 64 → byte_of found place ≡ seen place
found_byte seen found place read low =
    let here : 0 + place ≡ place = omega arith in
    ap (λ found. byte_of found place) read ∙ byte_of_bytes_at seen 0 64 place low ∙ ap seen here

pub gate_closed : (seen : ℕ → ℕ) (found : List ℕ) → found ≡ bytes_at seen 0 64 → byte_of found 0 ≢ 165 → seen 0 ≢ 165
gate_closed seen found read closed = λ opened. closed (found_byte seen found 0 read (omega arith) ∙ opened)

-- what a call answers, said in other words
pub if_err_as : {T E : Type 0} (result : Result T E) (P R : E → Type 0) → ((fault : E) → P fault → R fault) → IfErr result P → IfErr result R
if_err_as (Ok x) P R goes is = tt
if_err_as (Err fault) P R goes is = goes fault is

pub if_ok_as : {T E : Type 0} (result : Result T E) (P R : T → Type 0) → ((x : T) → P x → R x) → IfOk result P → IfOk result R
if_ok_as (Ok x) P R goes is = goes x is
if_ok_as (Err fault) P R goes is = tt

fits_seen : (slots : ℕ) (digest : List ℕ) (seen : ℕ → ℕ) (found : List ℕ) (from to : ℕ) → found ≡ bytes_at seen 0 64 → to ≤ 64 → Fits slots digest (byte_of found) from to → Fits slots digest seen from to
fits_seen slots digest seen found from to read low fits place from_low to_low =
    let inside : place < 64 = omega arith in
    sym (found_byte seen found place read inside) ∙ fits place from_low to_low

wrong_seen : (slots : ℕ) (digest : List ℕ) (seen : ℕ → ℕ) (found : List ℕ) (from to at : ℕ) → found ≡ bytes_at seen 0 64 → to ≤ 64 → FirstWrong slots digest (byte_of found) from to at → FirstWrong slots digest seen from to at
wrong_seen slots digest seen found from to at read low is =
    let high = is.high in
    let inside : at < 64 = omega arith in
    let before : at ≤ 64 = omega arith in
    record {
      low = is.low;
      high = is.high;
      before = fits_seen slots digest seen found from at read before is.before;
      wrong = λ same. is.wrong (found_byte seen found at read inside ∙ same);
    }

-- the format of the half in use
pub format_seen : (format : Format) (seen : ℕ → ℕ) (found : List ℕ) → found ≡ bytes_at seen 0 64 → HasFormat format (byte_of found) → HasFormat format seen
format_seen format seen found read is =
    ap (λ n. seen (format_place (n % 2))) (sym (found_byte seen found 48 read (omega arith))) ∙ sym (found_byte seen found (format_place (byte_of found 48 % 2)) read (omega arith)) ∙ is

format_found : (format : Format) (seen : ℕ → ℕ) (found : List ℕ) → found ≡ bytes_at seen 0 64 → HasFormat format seen → HasFormat format (byte_of found)
format_found format seen found read is =
    found_byte seen found (format_place (byte_of found 48 % 2)) read (omega arith) ∙ ap (λ n. seen (format_place (n % 2))) (found_byte seen found 48 read (omega arith)) ∙ is

some_seen : (seen : ℕ → ℕ) (found : List ℕ) → found ≡ bytes_at seen 0 64 → HasSomeFormat (byte_of found) → HasSomeFormat seen
some_seen seen found read is = (is.0, format_seen is.0 seen found read is.1)

none_seen : (seen : ℕ → ℕ) (found : List ℕ) (at : ℕ) → found ≡ bytes_at seen 0 64 → HasNoFormat (byte_of found) at → HasNoFormat seen at
none_seen seen found at read is = record {
  here = is.here ∙ ap (λ n. format_place (n % 2)) (found_byte seen found 48 read (omega arith));
  none = λ format says. is.none format (format_found format seen found read says);
}

form_seen : (slots : ℕ) (digest : List ℕ) (seen : ℕ → ℕ) (found : List ℕ) → found ≡ bytes_at seen 0 64 → IsForm slots digest (byte_of found) → IsForm slots digest seen
form_seen slots digest seen found read is = record {
  front = fits_seen slots digest seen found 1 12 read (omega arith) is.front;
  records = some_seen seen found read is.records;
  rest = fits_seen slots digest seen found 51 64 read (omega arith) is.rest;
}

other_seen : (slots : ℕ) (digest : List ℕ) (seen : ℕ → ℕ) (found : List ℕ) (at : ℕ) → found ≡ bytes_at seen 0 64 → IsOtherHeader slots digest (byte_of found) at → IsOtherHeader slots digest seen at
other_seen slots digest seen found at read (front wrong) = front (wrong_seen slots digest seen found 1 12 at read (omega arith) wrong)
other_seen slots digest seen found at read (no_format fits none) = no_format (fits_seen slots digest seen found 1 12 read (omega arith) fits) (none_seen seen found at read none)
other_seen slots digest seen found at read (rest fits says wrong) = rest (fits_seen slots digest seen found 1 12 read (omega arith) fits) (some_seen seen found read says) (wrong_seen slots digest seen found 51 64 at read (omega arith) wrong)
other_seen slots digest seen found at read (size form fits wrong) = size (form_seen slots digest seen found read form) (fits_seen slots digest seen found 16 48 read (omega arith) fits) (wrong_seen slots digest seen found 12 16 at read (omega arith) wrong)

pub header_refuses : (slots : ℕ) (digest : List ℕ) (seen : ℕ → ℕ) (found : List ℕ) (why : OpenFault) → found ≡ bytes_at seen 0 64 → byte_of found 0 ≡ 165 → RefusesHeader slots digest (byte_of found) why → RefusesDisk slots digest seen why
header_refuses slots digest seen found (fault.NotOurs at) read gate refuses = inr (sym (found_byte seen found 0 read (omega arith)) ∙ gate, other_seen slots digest seen found at read refuses)
header_refuses slots digest seen found (fault.SettingsChanged stored) read gate refuses = (
  sym (found_byte seen found 0 read (omega arith)) ∙ gate,
  record {
    form = form_seen slots digest seen found read refuses.form;
    long = refuses.long;
    digest_there = λ place low. refuses.digest_there place low ∙ found_byte seen found (16 + place) read (omega arith);
    wrong = (refuses.wrong.0, wrong_seen slots digest seen found 16 48 refuses.wrong.0 read (omega arith) refuses.wrong.1);
  },
)
header_refuses slots digest seen found (fault.TooSmall needed bytes) read gate refuses = absurd refuses
header_refuses slots digest seen found fault.DiskFault read gate refuses = absurd refuses
header_refuses slots digest seen found fault.NoMemory read gate refuses = absurd refuses

pub gates_refuse : (slots : ℕ) (digest : List ℕ) (seen : ℕ → ℕ) (why : OpenFault) → seen 0 ≢ 165 → RefusesGates slots seen why → RefusesDisk slots digest seen why
gates_refuse slots digest seen (fault.NotOurs at) gate refuses = inl (gate, refuses)
gates_refuse slots digest seen (fault.SettingsChanged stored) gate refuses = absurd refuses
gates_refuse slots digest seen (fault.TooSmall needed bytes) gate refuses = absurd refuses
gates_refuse slots digest seen fault.DiskFault gate refuses = tt
gates_refuse slots digest seen fault.NoMemory gate refuses = absurd refuses

pub header_seen : (slots : ℕ) (digest : List ℕ) (seen : ℕ → ℕ) (found : List ℕ) → found ≡ bytes_at seen 0 64 → IsHeader slots digest (byte_of found) → IsHeader slots digest seen
header_seen slots digest seen found read is place low other = sym (found_byte seen found place read low) ∙ is place low other

-- ---- what is held stays held

pub has_still : (start new : Option Media) (slots : ℕ) (digest : List ℕ) (format : Format) (seen : ℕ → ℕ) (records : List (List ℕ)) → Leaves start new (Is seen) → HasRecords slots digest format seen records → Leaves start new (λ image. HasRecords slots digest format image records)
has_still start new slots digest format seen records leaves image_has =
    leaves_as start new (Is seen) (λ image. HasRecords slots digest format image records) (λ image is. subst (λ image. HasRecords slots digest format image records) (sym is) image_has) leaves

-- without an open header gate the list is empty
pub has_none : (slots : ℕ) (digest : List ℕ) (format : Format) (seen : ℕ → ℕ) (records : List (List ℕ)) → seen 0 ≢ 165 → HasRecords slots digest format seen records → IsBlank slots seen [] × (records ≡ []) × (format ≡ Two)
has_none slots digest format seen records gate (inl blank) = (record { gate = blank.0.gate; gates = blank.0.gates; none = refl }, blank.0.none, blank.1)
has_none slots digest format seen records gate (inr journal) = absurd (gate (gate_of_header slots digest seen journal.header))

pub has_formatted : (start between new : Option Media) (slots : ℕ) (digest : List ℕ) (format : Format) (seen : ℕ → ℕ) (records : List (List ℕ)) → Leaves start between (Is seen) → seen 0 ≢ 165 → HasRecords slots digest format seen records
    → (IsBlank slots seen [] → Leaves between new (λ image. HasRecords slots digest Two image [])) → Leaves start new (λ image. HasRecords slots digest format image records)
has_formatted start between new slots digest format seen records leaves gate image_has moments =
    let none = has_none slots digest format seen records gate image_has in
    leaves_then start between new (λ image. HasRecords slots digest format image records) (has_still start between slots digest format seen records leaves image_has)
    (subst (λ format. Leaves between new (λ image. HasRecords slots digest format image records)) (sym none.2)
    (subst (λ records. Leaves between new (λ image. HasRecords slots digest Two image records)) (sym none.1) (moments none.0)))

pub open_formatted : (new : Option Media) (slots : ℕ) (digest : List ℕ) (seen : ℕ → ℕ) → IsBlank slots seen [] → RestsWith new (λ image. IsJournal slots digest Two image [] × (image 48 ≡ 0)) → RestsWith new (IsOpen slots digest seen 0 Two)
open_formatted new slots digest seen blank rests =
    rests_as new (λ image. IsJournal slots digest Two image [] × (image 48 ≡ 0)) (IsOpen slots digest seen 0 Two) (λ image is. record { selector_there = is.1; format_there = is.0.format_there; cases = inr (blank, is.0) }) rests

pub open_as_it_was : (new : Option Media) (slots : ℕ) (digest : List ℕ) (seen : ℕ → ℕ) (selector : ℕ) (format : Format) → IsHeader slots digest seen → seen 48 ≡ selector → HasFormat format seen → RestsWith new (Is seen) → RestsWith new (IsOpen slots digest seen selector format)
open_as_it_was new slots digest seen selector format header is says rests =
    rests_as new (Is seen) (IsOpen slots digest seen selector format) (λ image same. record { selector_there = ap (λ image. image 48) same ∙ is; format_there = subst (HasFormat format) (sym same) says; cases = inl (header, same) }) rests

pub disk_refuses : (slots : ℕ) (digest : List ℕ) (extent : ℕ) (seen : ℕ → ℕ) (why : OpenFault) → RefusesDisk slots digest seen why → Refuses slots digest extent seen why
disk_refuses slots digest extent seen (fault.NotOurs at) refuses = refuses
disk_refuses slots digest extent seen (fault.SettingsChanged stored) refuses = refuses
disk_refuses slots digest extent seen (fault.TooSmall needed bytes) refuses = absurd refuses
disk_refuses slots digest extent seen fault.DiskFault refuses = tt
disk_refuses slots digest extent seen fault.NoMemory refuses = tt

-- ---- the size of the disk

pub header_size : (slots : ℕ) (digest : List ℕ) (image : ℕ → ℕ) (why : OpenFault) → RefusesHeader slots digest image why → IsNoSize why
header_size slots digest image (fault.NotOurs at) refuses = tt
header_size slots digest image (fault.SettingsChanged stored) refuses = tt
header_size slots digest image (fault.TooSmall needed bytes) refuses = refuses
header_size slots digest image fault.DiskFault refuses = tt
header_size slots digest image fault.NoMemory refuses = tt

pub other_size : (slots extent : ℕ) (why : OpenFault) → IsNoSize why → IsSmallBy slots extent why
other_size slots extent (fault.NotOurs at) other = tt
other_size slots extent (fault.SettingsChanged stored) other = tt
other_size slots extent (fault.TooSmall needed bytes) other = absurd other
other_size slots extent fault.DiskFault other = tt
other_size slots extent fault.NoMemory other = tt
