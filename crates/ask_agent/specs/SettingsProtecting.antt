-- The settings of a client that asks once, at its first event, by four words.
use Rattle.std.specs.Prelude.{◌≡◌, ℕ, ⊤, if◌then◌else◌, List, [], ◌∷◌, Option, Some, None, Result, Ok, Err}
use Rattle.dots_lists.specs.Name.{is_name}
use Rattle.dots_client.specs.declared.ask.Ask.{Ask}
use Rattle.dots_client.specs.declared.ask.Ask.TheVariants as ask
use Rattle.ask_agent.specs.declared.settings_protecting.ProtectFault.{ProtectFault}
use Rattle.ask_agent.specs.declared.settings_protecting.ProtectFault.TheVariants as fault
use Rattle.ask_agent.specs.declared.settings_protecting.ProtectWord.{ProtectWord}
use Rattle.ask_agent.specs.declared.settings_protecting.ProtectWord.TheVariants as word
use Rattle.ask_agent.specs.declared.settings.AskSettings.{AskSettings}
use Rattle.ask_agent.specs.Lines.{word_in, lifetime_in, prefixes_in, prefixes_asked}

-- the client's name, where the text is one
abbrev pub name_in : List ℕ → Option (List ℕ)
name_in text = if is_name text then Some text else None

-- no time is before 0, so it is asked at the first event
abbrev pub with_ask : ℕ → List ℕ → Ask → AskSettings
with_ask server cuid asked = record { server = server; cuid = cuid; mid = None; number = None; asks = record { at = 0; ask = asked } ∷ [] }

-- what the word writes is needed: where it writes nothing, it is at fault
abbrev pub need : {A B : Type 0} → ProtectWord → Option A → (A → Result B ProtectWord) → Result B ProtectWord
need which None rest = Err which
need which (Some x) rest = rest x

-- The settings by the words, each written as in a line of settings, or the first word that isn't of its form.
abbrev pub protect_settings : List ℕ → List ℕ → List ℕ → List ℕ → Result AskSettings ProtectWord
protect_settings server name lifetime prefixes =
    need word.Server (word_in server) (λ peer.
    need word.Name (name_in name) (λ cuid.
    need word.Lifetime (lifetime_in lifetime) (λ seconds.
    need word.Prefixes (prefixes_in prefixes) (λ list. Ok (with_ask peer cuid (ask.New (prefixes_asked list) seconds))))))

-- a word at fault is the first one; that memory ran out is no fault of a word
abbrev pub IsWordFault : Result AskSettings ProtectWord → ProtectFault → Type 0
IsWordFault meaning (fault.Word which) = meaning ≡ Err which
IsWordFault meaning fault.NoMemory = ⊤
