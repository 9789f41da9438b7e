-- Bytes of an image that are as those of another.
use Rattle.std.proofs.Common.{zero, suc, ◌≡◌, ℕ, ◌+◌, ◌*◌, ◌<◌, ◌≤◌, List, [], ◌∷◌, length, set, take, length-set, refl, sym, ap, subst, ◌∙◌, arith}
use Rattle.dots_host.specs.Media.{bytes_at}
use Rattle.slot_store.specs.Layout.{IsHeader, IsSlot}
use Rattle.slot_store.specs.Copying.{len_of}

-- the bytes from a place on are the same
abbrev pub Agree : (ℕ → ℕ) → (ℕ → ℕ) → ℕ → ℕ → Type 0
Agree old new at count = (place : ℕ) → at ≤ place → place < at + count → new place ≡ old place

pub same_bytes : (old new : ℕ → ℕ) (at count : ℕ) → Agree old new at count → bytes_at new at count ≡ bytes_at old at count
same_bytes old new at zero agree = refl
same_bytes old new at (suc count) agree =
    let first : new at ≡ old at = agree at (omega arith) (omega arith) in
    let rest = same_bytes old new (at + 1) count (λ place low high. agree place (omega arith) (omega arith)) in
    ap (λ byte. byte ∷ bytes_at new (at + 1) count) first ∙ ap (λ bytes. old at ∷ bytes) rest

pub same_header : (slots : ℕ) (digest : List ℕ) (old new : ℕ → ℕ) → Agree old new 0 64 → IsHeader slots digest old → IsHeader slots digest new
same_header slots digest old new front is = λ place low other. front place (omega arith) (omega arith) ∙ is place low other

-- the bytes from one place on are those from another place on
pub moved_bytes : (old new : ℕ → ℕ) (at to count : ℕ) → ((offset : ℕ) → offset < count → new (to + offset) ≡ old (at + offset)) → bytes_at new to count ≡ bytes_at old at count
moved_bytes old new at to zero same = refl
moved_bytes old new at to (suc count) same =
    let here : to ≡ to + 0 = omega arith in
    let there : at + 0 ≡ at = omega arith in
    let zeroth : 0 < suc count = omega arith in
    let first : new to ≡ old at = ap new here ∙ same 0 zeroth ∙ ap old there in
    let rest = moved_bytes old new (at + 1) (to + 1) count (λ offset under.
    let before : to + 1 + offset ≡ to + (offset + 1) = omega arith in
    let after : at + (offset + 1) ≡ at + 1 + offset = omega arith in
    let within : offset + 1 < suc count = omega arith in
    ap new before ∙ same (offset + 1) within ∙ ap old after) in
    ap (λ byte. byte ∷ bytes_at new (to + 1) count) first ∙ ap (λ bytes. old at ∷ bytes) rest

-- a slot whose gate, length and record moved, or stayed
pub moved_slot : (old new : ℕ → ℕ) (at to : ℕ) (bytes : List ℕ) → ((offset : ℕ) → offset < 8192 → offset < 3 + len_of old at → new (to + offset) ≡ old (at + offset)) → IsSlot old at bytes → IsSlot new to bytes
moved_slot old new at to bytes same is =
    let here : to ≡ to + 0 = omega arith in
    let there : at + 0 ≡ at = omega arith in
    let none : 0 < 8192 = omega arith in
    let one : 1 < 8192 = omega arith in
    let two : 2 < 8192 = omega arith in
    let fits = is.fits in
    let gate : new to ≡ 165 = ap new here ∙ same 0 none (omega arith) ∙ ap old there ∙ is.gate in
    let size : 256 * new (to + 1) + new (to + 2) ≡ length bytes = ap (λ n. 256 * n + new (to + 2)) (same 1 one (omega arith)) ∙ ap (λ n. 256 * old (at + 1) + n) (same 2 two (omega arith)) ∙ is.size in
    let len : len_of old at ≡ length bytes = is.size in
    let record_bytes = moved_bytes old new (at + 3) (to + 3) (length bytes) (λ offset under.
    let before : to + 3 + offset ≡ to + (3 + offset) = omega arith in
    let after : at + (3 + offset) ≡ at + 3 + offset = omega arith in
    let within : 3 + offset < 8192 = omega arith in
    let inside : 3 + offset < 3 + length bytes = omega arith in
    ap new before ∙ same (3 + offset) within (subst (λ len. 3 + offset < 3 + len) (sym len) inside) ∙ ap old after) in
    record { gate = gate; fits = fits; size = size; bytes = record_bytes ∙ is.bytes }

pub same_slot : (old new : ℕ → ℕ) (at to : ℕ) (bytes : List ℕ) → ((offset : ℕ) → offset < 8192 → new (to + offset) ≡ old (at + offset)) → IsSlot old at bytes → IsSlot new to bytes
same_slot old new at to bytes same is = moved_slot old new at to bytes (λ offset under short. same offset under) is

-- ---- the two bytes before a record

pub same_length : (room : List ℕ) (high low : ℕ) → length (set (set room 0 high) 1 low) ≡ length room
same_length room high low = length-set (set room 0 high) 1 low ∙ length-set room 0 high

pub front_two : (room : List ℕ) (high low : ℕ) → 2 ≤ length room → take 2 (set (set room 0 high) 1 low) ≡ high ∷ low ∷ []
front_two [] high low long = absurd (omega arith)
front_two (x ∷ []) high low long = absurd (omega arith)
front_two (x ∷ y ∷ room) high low long = refl
