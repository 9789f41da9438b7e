-- What a crash leaves on the disk, at each moment of a run.
use Rattle.std.specs.Prelude.{◌≡◌, ℕ, ◌+◌, ◌≤◌, nat_lt, if◌then◌else◌, List, [], ◌∷◌, ◌++◌, length, take, Option, Some, None, ⊤}
use Rattle.dots_host.specs.Acts.{WireAct, took, gave, Timed}
use Rattle.dots_host.specs.Runs.{Owing, ToldStep}
use Rattle.dots_host.specs.Media.{Medium, Media, IsImage, all_media}
use Rattle.dots_settings.specs.Settings.{SettingsValue}
use Rattle.dots_gateway.specs.declared.exchange.Exchange.{Exchange}
use Rattle.gateway_agent.specs.Passing.{GatewayState, step}
use Rattle.gateway_agent.specs.Turning.{HasAlike, time_in}

-- ---- a run with all that it tells

-- an event that was taken tells the state after it
abbrev pub ShowsState : WireAct → GatewayState → Owing GatewayState → Type 0
ShowsState (took event at) state new = state ≡ new.last
ShowsState (gave out done) state new = ⊤

-- The acts, one after the other, are a run of the machine, and beside each stands the state that it tells: beside an event the state after
-- it, and beside a send the one with which it was owed.
abbrev pub Story : Owing GatewayState → List Timed → List GatewayState → Owing GatewayState → Type 0
Story old [] [] new = new ≡ old
Story old (timed ∷ acts) (state ∷ trace) new =
    (between : Owing GatewayState) × ToldStep step old timed.act state between × ShowsState timed.act state between × Story between acts trace new
Story old [] (state ∷ trace) new = ⊥
Story old (timed ∷ acts) [] new = ⊥

-- ---- what was shown before a moment, by a run that shows these states

-- a send tells the exchanges of its state, and an event none
abbrev pub kept_shown : WireAct → GatewayState → ℕ → ℕ
kept_shown (took event at) state n = n
kept_shown (gave out done) state n = length state.kept

-- How many exchanges were kept at the last send that was handed in before the moment, or so many where there is none. Each packet that was sent
-- to the upstream before is of one of them: it is kept before its first packet is sent.
abbrev pub shown : ℕ → List Timed → List GatewayState → ℕ → ℕ
shown m [] trace n = n
shown m (timed ∷ acts) [] n = n
shown m (timed ∷ acts) (state ∷ trace) n = shown m acts trace (if nat_lt timed.moment m then kept_shown timed.act state n else n)

-- an event moves the time, and a send doesn't
abbrev pub time_shown : WireAct → GatewayState → ℕ → ℕ
time_shown (took event at) state t = time_in state
time_shown (gave out done) state t = t

-- The time of the machine at the moment: that after the last event that was taken before it, or this one where there is none.
abbrev pub time_at : ℕ → List Timed → List GatewayState → ℕ → ℕ
time_at m [] trace t = t
time_at m (timed ∷ acts) [] t = t
time_at m (timed ∷ acts) (state ∷ trace) t = time_at m acts trace (if nat_lt timed.moment m then time_shown timed.act state t else t)

-- how many calls were made of a host, where its disk is told
abbrev pub past_of : Option Media → ℕ
past_of None = 0
past_of (Some media) = length media.past

-- none of the acts came before the moment
abbrev pub NoneBefore : ℕ → List Timed → Type 0
NoneBefore m [] = ⊤
NoneBefore m (timed ∷ acts) = (m ≤ timed.moment) × NoneBefore m acts

-- ---- the disk

-- At the moment the image holds a store. In it are the exchanges that are at most 246 seconds old at the machine's time, of a front of those that
-- were kept; its last number is that of the front, so its next number is above the number of each of them; and the front has all exchanges of
-- which a packet was sent before.
pub record MeansAt (settings : SettingsValue) (most : ℕ) (start : GatewayState) (acts : List Timed) (trace : List GatewayState) (kept : List Exchange) (m : ℕ) (image : ℕ → ℕ) : Type 0 where
  pub count : ℕ
  pub within : count ≤ length kept
  pub has_shown : shown m acts trace (length start.kept) ≤ count
  pub image_has : HasAlike settings most (time_at m acts trace (time_in start)) (take count kept) image

-- the disk at each moment, from this one on, has the property in each image that a crash may leave of it
abbrev pub EachFrom : ℕ → List Medium → (ℕ → (ℕ → ℕ) → Type 0) → Type 0
EachFrom m [] P = ⊤
EachFrom m (medium ∷ media) P = ((image : ℕ → ℕ) → IsImage medium image → P m image) × EachFrom (m + 1) media P

-- Moments came, and at each of them every image that a crash may leave has the property, which speaks of the moment.
abbrev pub LeavesAt : Option Media → Option Media → (ℕ → (ℕ → ℕ) → Type 0) → Type 0
LeavesAt (Some old) (Some new) P = (added : List Medium) × (all_media new ≡ all_media old ++ added) × EachFrom (length old.past + 1) added P
LeavesAt _ _ P = ⊥

-- A run survives a crash at any moment: of the disk as it was before the run and as it is after it, and of the exchanges that were kept in
-- the end.
abbrev pub Survives : SettingsValue → ℕ → GatewayState → Option Media → Option Media → List Timed → List GatewayState → List Exchange → Type 0
Survives settings most start before now acts trace kept = LeavesAt before now (MeansAt settings most start acts trace kept)
