-- What the words of the command line, without the program's name, ask for.
use Rattle.std.specs.Prelude.{ℕ, List, [], ◌∷◌, Bool, false, ◌&&◌, ◌||◌, not, ◌==◌, bytes_eq, codes}

-- a word behind the name of a command: it isn't empty and doesn't begin with `-`
abbrev pub is_word : List ℕ → Bool
is_word [] = false
is_word (first ∷ word) = not (first == 45)

-- `replay SETTINGS`
abbrev pub is_replay : List (List ℕ) → Bool
is_replay (name ∷ file ∷ []) = bytes_eq name (codes "replay") && is_word file
is_replay _ = false

-- `serve SETTINGS HOSTFILE`
abbrev pub is_serve : List (List ℕ) → Bool
is_serve (name ∷ settings ∷ host ∷ []) = bytes_eq name (codes "serve") && (is_word settings && is_word host)
is_serve _ = false

-- the events of a host are served: the lines of a script, or what comes to sockets
abbrev pub is_served : List (List ℕ) → Bool
is_served words = is_replay words || is_serve words

-- `show HEX`
abbrev pub is_show : List (List ℕ) → Bool
is_show (name ∷ hex ∷ []) = bytes_eq name (codes "show") && is_word hex
is_show _ = false

abbrev pub is_command : List (List ℕ) → Bool
is_command words = is_served words || is_show words

-- the word behind the name, and the one behind that
abbrev pub second_of : List (List ℕ) → List ℕ
second_of (name ∷ word ∷ words) = word
second_of _ = []

abbrev pub third_of : List (List ℕ) → List ℕ
third_of (name ∷ word ∷ other ∷ words) = other
third_of _ = []
