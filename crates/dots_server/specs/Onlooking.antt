-- What an onlooker sees of a run.
use Rattle.std.specs.Prelude.{◌≡◌, List, [], ◌∷◌, ◌++◌}
use Rattle.dots_host.specs.declared.event.Event.TheVariants as event
use Rattle.dots_host.specs.declared.event.What.{What}
use Rattle.dots_host.specs.declared.event.What.TheVariants as what
use Rattle.dots_host.specs.Acts.{WireAct, took, Timed}
use Rattle.dots_host.specs.Runs.{Owing}
use Rattle.dots_settings.specs.Settings.{SettingsValue}
use Rattle.dots_machine.specs.declared.ending.Stop.{Stop}
use Rattle.dots_machine.specs.Machine.{State}
use Rattle.dots_machine.specs.Endings.{Ran}
use Rattle.dots_server.specs.ServerValues.{ServerValue, Represents}

-- at a tick the server is seen, and at no other event
abbrev pub seen_at : What → ServerValue → List ServerValue
seen_at what.Tick server = server ∷ []
seen_at _ server = []

-- A tick shows a server that represents the state after it, and nothing else shows one.
abbrev pub SeesAct : SettingsValue → WireAct → State → List ServerValue → Type 0
SeesAct settings (took event.Tick at) state seen = (server : ServerValue) × (seen ≡ server ∷ []) × Represents server settings state
SeesAct settings _ state seen = seen ≡ []

-- So does each of these acts, beside each of which stands the state that it shows.
abbrev pub SeesTicks : SettingsValue → List Timed → List State → List ServerValue → Type 0
SeesTicks settings [] [] seen = seen ≡ []
SeesTicks settings (timed ∷ acts) (state ∷ trace) seen =
    (here : List ServerValue) × (later : List ServerValue) × (seen ≡ here ++ later) × SeesAct settings timed.act state here × SeesTicks settings acts trace later
SeesTicks settings [] (state ∷ trace) seen = ⊥
SeesTicks settings (timed ∷ acts) [] seen = ⊥

-- The acts are a run that stops so, with this trace, and this was seen of its whole events. An event in the middle of which the disk failed shows nothing.
abbrev pub RunIsSeen : SettingsValue → State → List State → Owing State → Stop → List ServerValue → List Timed → Type 0
RunIsSeen settings start trace end how seen acts = (ran : Ran settings start trace end how acts) × SeesTicks settings ran.whole ran.states seen
