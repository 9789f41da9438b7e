-- Which words ask for what is told without serving.
use Rattle.std.specs.Prelude.{ℕ, List, [], ◌∷◌, Bool, false, ◌&&◌, ◌||◌, if◌then◌else◌, bytes_eq, codes, Option, Some, None, is_some}
use Rattle.dots_run.specs.declared.topic.Topic.{Topic}
use Rattle.dots_run.specs.declared.topic.Topic.TheVariants as topic
use Rattle.std.specs.Option.{option_map}
use Rattle.dots_lists.specs.Numbers.{number_in}
use Rattle.dots_machine.specs.Commands.{is_word, is_served, is_command}

-- `check SETTINGS`
abbrev pub is_check : List (List ℕ) → Bool
is_check (name ∷ file ∷ []) = bytes_eq name (codes "check") && is_word file
is_check _ = false

-- this word alone
abbrev pub is_alone : List ℕ → List (List ℕ) → Bool
is_alone word (name ∷ []) = bytes_eq name word
is_alone word _ = false

abbrev pub is_check_script : List (List ℕ) → Bool
is_check_script words = is_alone (codes "check-script") words

-- `help` or `--help`
abbrev pub is_help : List (List ℕ) → Bool
is_help words = is_alone (codes "help") words || is_alone (codes "--help") words

-- `version` or `--version`
abbrev pub is_version : List (List ℕ) → Bool
is_version words = is_alone (codes "version") words || is_alone (codes "--version") words

-- the number of `load N`, of 1 to 1,000
abbrev pub load_of : List (List ℕ) → Option ℕ
load_of (name ∷ number ∷ []) = if bytes_eq name (codes "load") then number_in 1 1000 number else None
load_of _ = None

-- the topic that the words ask for
abbrev pub topic_of : List (List ℕ) → Option Topic
topic_of words =
    if is_check words then Some topic.Settings
    else if is_check_script words then Some topic.Script
    else if is_help words then Some topic.Usage
    else if is_version words then Some topic.Version
    else option_map topic.Load (load_of words)

-- the words are a line that the program knows
abbrev pub is_known : List (List ℕ) → Bool
is_known words = is_command words || is_some (topic_of words)

-- the second word names a settings file
abbrev pub names_settings : List (List ℕ) → Bool
names_settings words = is_served words || is_check words
