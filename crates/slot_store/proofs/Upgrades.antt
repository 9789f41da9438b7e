-- What an upgrade gives, by the length of the bytes.
use Rattle.std.proofs.Common.{sym, ap, ◌≡◌, ℕ, ◌<◌, ◌≤◌, List, length, if◌then◌else◌}
use Rattle.std.proofs.lemmas.Bool.{le-leb, lt-leb}
use Rattle.slot_store.specs.Formats.{triggered, sealed, upgraded}

pub short_upgraded : (bytes : List ℕ) → length bytes ≤ 8180 → sealed (triggered bytes) ≡ upgraded bytes
unfolding upgraded
short_upgraded bytes short = sym (ap (λ b. if b then sealed (triggered bytes) else bytes) (le-leb (length bytes) 8180 short))

pub long_upgraded : (bytes : List ℕ) → 8180 < length bytes → bytes ≡ upgraded bytes
unfolding upgraded
long_upgraded bytes long = sym (ap (λ b. if b then sealed (triggered bytes) else bytes) (lt-leb (length bytes) 8180 long))
