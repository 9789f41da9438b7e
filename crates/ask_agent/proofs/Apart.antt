-- Numbers of runs that begin at different seconds.
use Rattle.std.proofs.Common.{◌≡◌, ◌≢◌, ℕ, ◌+◌, ◌*◌, ◌%◌, ◌<◌, sym, ◌∙◌, arith}
use Rattle.ask_agent.specs.Numbers.{number_at, message_id}

-- what is behind a multiple of 64 is told by it
same_tens : (x y a b : ℕ) → a < 64 → b < 64 → x * 64 + a ≡ y * 64 + b → x ≡ y
same_tens x y a b small little same = omega arith

id_is : (second behind : ℕ) → behind < 64 → message_id second behind ≡ second % 1024 * 64 + behind
id_is second behind small = omega arith

same_second : (first second : ℕ) → first < second → second < first + 1024 → first % 1024 ≢ second % 1024
same_second first second less near same = omega arith

pub ids_apart : (first second a b : ℕ) → first < second → second < first + 1024 → a < 64 → b < 64 → message_id first a ≢ message_id second b
ids_apart first second a b less near small little same =
    same_second first second less near
    (same_tens (first % 1024) (second % 1024) a b small little (sym (id_is first a small) ∙ same ∙ id_is second b little))

pub numbers_apart : (first second a b : ℕ) → first < second → a < 64 → b < 64 → number_at first + a ≢ number_at second + b
numbers_apart first second a b less small little same = omega arith
