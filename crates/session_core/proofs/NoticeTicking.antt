-- A tick, one call after the other.
use Rattle.std.proofs.Common.{◌≡◌, ℕ, List, [], ◌∷◌, ◌++◌, map, refl, sym, subst, append_assoc, append-nil}
use Rattle.std.specs.Prelude.{Option, true, false}
use Rattle.std.proofs.lemmas.List.{map-append}
use Rattle.dots_host.specs.declared.out.OwnedOut.TheVariants as owned
use Rattle.dots_host.specs.Acts.{Timed}
use Rattle.dots_host.specs.Runs.{Added}
use Rattle.cbor_profile.specs.Head.{head, information, following}
use Rattle.session_core.specs.declared.contact.Beat.{Beat}
use Rattle.session_core.specs.declared.contact.PeerContact.{PeerContact}
use Rattle.session_core.specs.Beating.{Beating, IsNextBeat, NoneBeats}
use Rattle.session_core.specs.Spacing.{BeatsAll}
use Rattle.session_core.proofs.Ticking.{beaten}
use Rattle.session_core.specs.Notifying.{SentTo}
use Rattle.session_core.specs.Beats.{beat_with, beat_bytes, beat_sent, beats, after_beats}
use Rattle.session_core.proofs.Sends.{sent_then}

-- these heartbeats were due so far
abbrev pub DueTo : Beating → ℕ → List PeerContact → List Beat → List PeerContact → Type 0
DueTo by now old given mid = (rest : List Beat) (new : List PeerContact) → BeatsAll by now mid rest new → BeatsAll by now old (given ++ rest) new

pub due_more : (by : Beating) (now : ℕ) (old mid new : List PeerContact) (given : List Beat) (beat : Beat) → DueTo by now old given mid → IsNextBeat by now mid new beat
    → DueTo by now old (given ++ beat ∷ []) new
due_more by now old mid new given beat so next rest end left =
    subst (λ xs. BeatsAll by now old xs end) (sym (append_assoc given (beat ∷ []) rest)) (so (beat ∷ rest) end (new, next, left))

pub due_last : (by : Beating) (now : ℕ) (old mid new : List PeerContact) (given : List Beat) → DueTo by now old given mid → NoneBeats by now mid new → BeatsAll by now old given new
due_last by now old mid new given so none = subst (λ xs. BeatsAll by now old xs new) (append-nil given) (so [] new none)

-- and sent
pub sent_more : (a b c : Option (List Timed)) (first mid last : ℕ) (given : List Beat) (beat : Beat) → Added a b (SentTo first mid (map beat_sent given))
    → Added b c (SentTo mid last (beat_sent beat ∷ [])) → Added a c (SentTo first last (map beat_sent (given ++ beat ∷ [])))
sent_more a b c first mid last given beat before one =
    subst (λ sends. Added a c (SentTo first last sends)) (sym (map-append beat_sent given (beat ∷ [])))
    (sent_then a b c first mid last (map beat_sent given) (beat_sent beat ∷ []) before one)

pub all_sent : (by : Beating) (now : ℕ) (a b : Option (List Timed)) (first last : ℕ) (old new : List PeerContact) (given : List Beat)
    → BeatsAll by now old given new → Added a b (SentTo first last (map beat_sent given))
    → Added a b (SentTo first last (beats by now old)) × (new ≡ after_beats by now old)
all_sent by now a b first last old new given due sent =
    let all = beaten by now given old new due in
    (subst (λ bs. Added a b (SentTo first last (map beat_sent bs))) all.0 sent, all.1)

-- the same bytes
pub sent_as : (a b : Option (List Timed)) (first last peer : ℕ) (bytes same : List ℕ) → bytes ≡ same → Added a b (SentTo first last (owned.To peer bytes ∷ []))
    → Added a b (SentTo first last (owned.To peer same ∷ []))
sent_as a b first last peer bytes same is sent = subst (λ bs. Added a b (SentTo first last (owned.To peer bs ∷ []))) is sent

-- ---- the bodies, byte by byte

pub heard_bytes : (id : ℕ) → beat_with id (0xa1 ∷ 0x18 ∷ 0x31 ∷ 0xa1 ∷ 0x18 ∷ 0x33 ∷ 0xf5 ∷ []) ≡ beat_bytes id true
unfolding head information following
heard_bytes id = refl

pub unheard_bytes : (id : ℕ) → beat_with id (0xa1 ∷ 0x18 ∷ 0x31 ∷ 0xa1 ∷ 0x18 ∷ 0x33 ∷ 0xf4 ∷ []) ≡ beat_bytes id false
unfolding head information following
unheard_bytes id = refl
