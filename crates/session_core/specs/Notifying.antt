-- What the notifications after an event make of the observers, and of the Message IDs of their peers.
use Rattle.std.specs.Prelude.{◌≡◌, ◌⊎◌, ℕ, ◌+◌, Bool, true, if◌then◌else◌, List, [], ◌∷◌, ◌++◌, length, slice_get, Option, Some, None, MatchOption, ⊤}
use Rattle.dots_lists.specs.declared.memory.NoMemory.{NoMemory}
use Rattle.dots_history.specs.Histories.{is_nil}
use Rattle.dots_host.specs.declared.out.OwnedOut.{OwnedOut}
use Rattle.dots_host.specs.declared.out.OwnedOut.TheVariants as owned
use Rattle.dots_host.specs.Acts.{Timed}
use Rattle.dots_host.specs.Runs.{Gives}
use Rattle.coap_exchange.specs.Firsts.{replace_at}
use Rattle.coap_observe.specs.declared.observer.Observer.{Observer}
use Rattle.coap_observe.specs.declared.due_among.DueAmong.{DueAmong}
use Rattle.coap_observe.specs.declared.due_among.DueAmong.TheVariants.{Nobody, Anybody}
use Rattle.coap_observe.specs.DueAmong.{AreNotified}
use Rattle.coap_observe.specs.Seen.{Lists, list_for}
use Rattle.coap_observe.specs.Observed.{ObservedValue, is_due}
use Rattle.coap_observe.specs.Observing.{after_notice}
use Rattle.session_core.specs.declared.contact.PeerContact.{PeerContact}
use Rattle.session_core.specs.Contacts.{number_of, numbered}
use Rattle.session_core.specs.Notices.{content_notice, gone_notice}

-- the body of a reply to the GET that registered an observer, while something is left to see
abbrev pub Bodies : Type 0
Bodies = Observer → List ℕ

-- nothing is left to see
abbrev pub is_gone : Lists → ObservedValue → Bool
is_gone lists o = is_nil (list_for lists o.observer)

-- the notification with this Message ID
abbrev pub notice_bytes : Lists → Bodies → ℕ → ObservedValue → List ℕ
notice_bytes lists bodies id o =
    if is_gone lists o then gone_notice id o.observer.token else content_notice id o.observer.token o.number (bodies o.observer)

abbrev pub notice : Lists → Bodies → ℕ → ObservedValue → OwnedOut
notice lists bodies id o = owned.To o.observer.peer (notice_bytes lists bodies id o)

-- In the order of registration each observer is notified, if it is due, with the next Message ID of its peer; or it is passed over, and stays
-- as it was.
abbrev pub Notifies : Lists → Bodies → List ObservedValue → List PeerContact → List OwnedOut → List ObservedValue → List PeerContact → Type 0
Notifies lists bodies [] contacts sends new left = (sends ≡ []) × (new ≡ []) × (left ≡ contacts)
Notifies lists bodies (o ∷ os) contacts sends new left =
    ((rest : List ObservedValue) × (new ≡ o ∷ rest) × Notifies lists bodies os contacts sends rest left)
    ⊎ ((id : ℕ) × (later : List OwnedOut) × (rest : List ObservedValue) × (is_due lists o ≡ true) × (number_of o.observer.peer contacts ≡ Some id)
    × (sends ≡ notice lists bodies id o ∷ later) × (new ≡ after_notice lists id o ++ rest)
    × Notifies lists bodies os (numbered o.observer.peer contacts) later rest left)

-- these sends were made, in order, each a moment after the one before, from the one moment up to the other
abbrev pub SentTo : ℕ → ℕ → List OwnedOut → List Timed → Type 0
SentTo first last sends acts = Gives first sends acts × (last ≡ first + length sends)

-- ---- who is due behind it

abbrev pub IsOneDue : Lists → List ObservedValue → Type 0
IsOneDue lists observed = (place : ℕ) × (o : ObservedValue) × (slice_get observed place ≡ Some o) × (is_due lists o ≡ true)

-- Nobody is due any more; or one is that was passed over, and all are looked at the next time.
abbrev pub IsKnown : Lists → DueAmong → List ObservedValue → Type 0
IsKnown lists among observed = ((among ≡ Nobody) × AreNotified lists Nobody observed) ⊎ ((among ≡ Anybody) × IsOneDue lists observed)

-- each that is due has a peer that was never heard, so there is no Message ID for it
abbrev pub OnlyUnheardAreDue : Lists → List PeerContact → List ObservedValue → Type 0
OnlyUnheardAreDue lists contacts observed =
    (place : ℕ) (o : ObservedValue) → slice_get observed place ≡ Some o → is_due lists o ≡ true → number_of o.observer.peer contacts ≡ None

-- ---- no two observe under one token

abbrev pub Unlike : ObservedValue → List ObservedValue → Type 0
Unlike o [] = ⊤
Unlike o (x ∷ xs) = ((x.observer.peer ≡ o.observer.peer) × (x.observer.token ≡ o.observer.token) → ⊥) × Unlike o xs

abbrev pub Apart : List ObservedValue → Type 0
Apart [] = ⊤
Apart (o ∷ os) = Unlike o os × Apart os

-- ---- one notification

-- the bytes of a notification to this observer, where they could be made
pub record IsMade (lists : Lists) (bodies : Bodies) (contacts : List PeerContact) (one : ObservedValue)
    (peer : ℕ) (gone : Bool) (made : Option (List ℕ)) : Type 0 where
  pub peer_is : peer ≡ one.observer.peer
  pub gone_is : gone ≡ is_gone lists one
  pub bytes : MatchOption made ⊤ (λ bytes. (id : ℕ) × (number_of one.observer.peer contacts ≡ Some id) × (bytes ≡ notice_bytes lists bodies id one))

-- a notification that wasn't made, though no memory was refused, is to a peer that was never heard
abbrev pub IsExcused : List PeerContact → ℕ → Option (List ℕ) → Option NoMemory → Type 0
IsExcused contacts peer None None = number_of peer contacts ≡ None
IsExcused contacts peer _ _ = ⊤

-- The one at a place was notified, where its notification was made, or else it is as it was; and the next one is looked for from a place on.
pub data OneNotified (lists : Lists) (bodies : Bodies) (rows : List ObservedValue) (contacts : List PeerContact) (place : ℕ) (one : ObservedValue)
    (made : Option (List ℕ)) (sends : List OwnedOut) (new : List ObservedValue) (left : List PeerContact) (next : ℕ) : Type 0 where
  missing : made ≡ None → sends ≡ [] → new ≡ rows → left ≡ contacts → next ≡ place + 1 → OneNotified lists bodies rows contacts place one made sends new left next
  sent : (bytes : List ℕ) → made ≡ Some bytes → (id : ℕ) → number_of one.observer.peer contacts ≡ Some id → sends ≡ notice lists bodies id one ∷ []
      → new ≡ replace_at place (after_notice lists id) rows → left ≡ numbered one.observer.peer contacts → next ≡ (if is_gone lists one then place else place + 1)
      → OneNotified lists bodies rows contacts place one made sends new left next
