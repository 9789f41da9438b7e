-- Which words of the command line, without the program's name, ask for a client.
use Rattle.std.specs.Prelude.{ℕ, List, [], ◌∷◌, Bool, false, ◌&&◌, not, ◌==◌, bytes_eq, codes}

-- a word behind the name of a command: it isn't empty and doesn't begin with `-`
abbrev pub is_word : List ℕ → Bool
is_word [] = false
is_word (first ∷ word) = not (first == 45)

-- `ask SETTINGS HOSTFILE`
abbrev pub is_ask : List (List ℕ) → Bool
is_ask (name ∷ settings ∷ host ∷ []) = bytes_eq name (codes "ask") && (is_word settings && is_word host)
is_ask _ = false

-- `protect HOSTFILE SERVER NAME LIFETIME PREFIXES`; what the last four say is read later
abbrev pub is_protect : List (List ℕ) → Bool
is_protect (name ∷ host ∷ server ∷ cuid ∷ lifetime ∷ prefixes ∷ []) = bytes_eq name (codes "protect") && is_word host
is_protect _ = false

-- `check-ask SETTINGS`
abbrev pub is_check_ask : List (List ℕ) → Bool
is_check_ask (name ∷ settings ∷ []) = bytes_eq name (codes "check-ask") && is_word settings
is_check_ask _ = false

-- the word behind the name, and those behind that
abbrev pub second_of : List (List ℕ) → List ℕ
second_of (name ∷ word ∷ words) = word
second_of _ = []

abbrev pub third_of : List (List ℕ) → List ℕ
third_of (name ∷ word ∷ other ∷ words) = other
third_of _ = []

abbrev pub fourth_of : List (List ℕ) → List ℕ
fourth_of (a ∷ b ∷ c ∷ word ∷ words) = word
fourth_of _ = []

abbrev pub fifth_of : List (List ℕ) → List ℕ
fifth_of (a ∷ b ∷ c ∷ d ∷ word ∷ words) = word
fifth_of _ = []

abbrev pub sixth_of : List (List ℕ) → List ℕ
sixth_of (a ∷ b ∷ c ∷ d ∷ e ∷ word ∷ words) = word
sixth_of _ = []
