-- When a peer was sent its last heartbeat.
use Rattle.std.proofs.Common.{◌≡◌, ℕ, ◌+◌, ◌≤◌, Bool, true, false, Option, Some, None, refl, sym, ap, subst, ◌∙◌, inl, inr, arith}
use Rattle.std.specs.Prelude.{if◌then◌else◌, ◌&&◌, nat_lt, nat_le, is_some, option_map, option_and_then, MatchOption, ⊤}
use Rattle.std.proofs.lemmas.Bool.{leb-true, cases_Bool, cond-true, cond-false}
use Rattle.std.proofs.lemmas.Grind.{common_steps}
use Rattle.session_core.specs.declared.contact.Session.{Session}
use Rattle.session_core.specs.declared.contact.Contact.{Contact}
use Rattle.session_core.specs.declared.contact.PeerContact.{PeerContact}
use Rattle.session_core.specs.declared.contact.Beat.{Beat}
use Rattle.session_core.specs.Contacts.{session_in, session_of, session_heard, row_heard, row_begun, contact_numbered, row_numbered}
use Rattle.session_core.specs.Beating.{lost_in, has_session, contact_forgotten, row_forgotten, row_watched, turn_loses, row_turned, beat_before, has_waited, is_due, was_heard, beat_to, beat_in, session_sent, contact_sent, row_sent}

same_session : (x y : Session) → Some x ≡ Some y → x ≡ y
same_session x y same = cc

same_beat : (x y : Beat) → Some x ≡ Some y → x ≡ y
same_beat x y same = cc

-- ---- a heartbeat that is due

due_now : (some passed : Bool) → (some && passed) ≡ true → passed ≡ true
due_now true passed is = is
due_now false passed is = cc is

due_before : (interval now last : ℕ) → (nat_lt 0 interval && nat_le (last + interval) now) ≡ true → nat_lt last now ≡ true
due_before interval now last is = grind (arith, common_steps, is)

given : (due : Bool) (made beat : Beat) → (if due then Some made else None) ≡ Some beat → (due ≡ true) × (made ≡ beat)
given true made beat is = (refl, same_beat made beat is)
given false made beat is = cc is

-- the interval has passed since the last one
pub record IsDue (interval now : ℕ) (row : PeerContact) (beat : Beat) : Type 0 where
  pub session : Session
  pub has : session_of row ≡ Some session
  pub passed : session.beat + interval ≤ now
  pub waited : nat_lt session.beat now ≡ true
  pub own : beat.peer ≡ row.peer

due_session : (interval now : ℕ) (row : PeerContact) (beat : Beat) (id : ℕ) (o : Option Session) → session_of row ≡ o
    → option_and_then (beat_to interval now row.peer id) o ≡ Some beat → IsDue interval now row beat
due_session interval now row beat id None has is = cc is
due_session interval now row beat id (Some session) has is =
    let made : Beat = record { peer = row.peer; id = id; heard = was_heard interval now session } in
    let both = given (is_due interval now session) made beat is in
    record {
      session = session;
      has = has;
      passed = leb-true (session.beat + interval) now (due_now (nat_lt 0 interval) (nat_le (session.beat + interval) now) both.0);
      waited = due_before interval now session.beat both.0;
      own = ap (λ b. b.peer) (sym both.1);
    }

due_contact : (interval now : ℕ) (row : PeerContact) (beat : Beat) (o : Option Contact) → row.contact ≡ o
    → option_and_then (beat_in interval now row.peer) o ≡ Some beat → IsDue interval now row beat
due_contact interval now row beat None there is = cc is
due_contact interval now row beat (Some contact) there is =
    due_session interval now row beat contact.number contact.session (ap (option_and_then session_in) there) is

pub due : (interval now : ℕ) (row : PeerContact) (beat : Beat) → option_and_then (beat_in interval now row.peer) row.contact ≡ Some beat
    → IsDue interval now row beat
due interval now row beat is = due_contact interval now row beat row.contact refl is

-- ---- who is answered, whatever is said

lost_some : (by : ℕ × ℕ) (now : ℕ) (o : Option Session) → lost_in by now o ≡ true → is_some o ≡ true
lost_some by now None is = cc is
lost_some by now (Some session) is = refl

-- a session that is lost is there
pub lost_there : (by : ℕ × ℕ) (now : ℕ) (row : PeerContact) (lost : Bool) → lost ≡ lost_in by now (session_of row) → lost ≡ true
    → has_session row ≡ true
lost_there by now row lost was is = lost_some by now (session_of row) (sym was ∙ is)

waited_some : (interval now : ℕ) (row : PeerContact) (beat : Beat) → IsDue interval now row beat → has_waited now row ≡ true
waited_some interval now row beat is = ap (beat_before now) is.has ∙ is.waited

-- the last heartbeat of a peer that is due one was before
pub due_waited : (interval now : ℕ) (row : PeerContact) (given : Option Beat) → given ≡ option_and_then (beat_in interval now row.peer) row.contact
    → MatchOption given ⊤ (λ beat. has_waited now row ≡ true)
due_waited interval now row None is = tt
due_waited interval now row (Some beat) is = waited_some interval now row beat (due interval now row beat (sym is))

-- ---- when the last heartbeat was

-- a session of the row had its last heartbeat, or began, no earlier
abbrev pub NotBefore : ℕ → PeerContact → Type 0
NotBefore time row = (s : Session) → session_of row ≡ Some s → time ≤ s.beat

heard_session : (time now : ℕ) (o : Option Session) (s : Session) → time ≤ now → ((x : Session) → o ≡ Some x → time ≤ x.beat)
    → Some (session_heard now o) ≡ Some s → time ≤ s.beat
heard_session time now None s less before is = let P : Session → Type 0 = λ y. time ≤ y.beat in subst P (same_session _ s is) less
heard_session time now (Some x) s less before is = let P : Session → Type 0 = λ y. time ≤ y.beat in subst P (same_session _ s is) (before x refl)

pub hearing_keeps : (time now : ℕ) (row : PeerContact) → time ≤ now → NotBefore time row → NotBefore time (row_heard now row)
hearing_keeps time now row less before s is = heard_session time now (session_of row) s less before is

pub beginning_keeps : (time now : ℕ) (row : PeerContact) → time ≤ now → NotBefore time row → NotBefore time (row_begun now row)
beginning_keeps time now row less before =
    let has = is_some (session_of row) in
    let P : PeerContact → Type 0 = NotBefore time in
    elim (cases_Bool has) [
      | inl is ↦ subst P (sym (cond-true has row (row_heard now row) is)) before
      | inr out ↦ subst P (sym (cond-false has row (row_heard now row) out)) (hearing_keeps time now row less before)
    ]

numbered_contact : (o : Option Contact) → option_and_then session_in (option_map contact_numbered o) ≡ option_and_then session_in o
numbered_contact None = refl
numbered_contact (Some contact) = refl

pub numbering_keeps : (time : ℕ) (row : PeerContact) → NotBefore time row → NotBefore time (row_numbered row)
numbering_keeps time row before s is = before s (sym (numbered_contact row.contact) ∙ is)

forgotten_contact : (o : Option Contact) → option_and_then session_in (option_map contact_forgotten o) ≡ None
forgotten_contact None = refl
forgotten_contact (Some contact) = refl

-- no session is left
pub none_left : (row : PeerContact) → session_of (row_forgotten row) ≡ None
none_left row = forgotten_contact row.contact

pub forgotten_gone : (row : PeerContact) → has_session (row_forgotten row) ≡ false
forgotten_gone row = ap is_some (none_left row)

pub forgetting_keeps : (time : ℕ) (row : PeerContact) → NotBefore time (row_forgotten row)
forgetting_keeps time row s is = let none = none_left row in cc (none, is)

sent_session : (time now : ℕ) (o : Option Session) (s : Session) → time ≤ now → option_map (session_sent now) o ≡ Some s → time ≤ s.beat
sent_session time now None s less is = cc is
sent_session time now (Some x) s less is = let P : Session → Type 0 = λ y. time ≤ y.beat in subst P (same_session (session_sent now x) s is) less

sent_contact : (time now : ℕ) (o : Option Contact) (s : Session) → time ≤ now
    → option_and_then session_in (option_map (contact_sent now) o) ≡ Some s → time ≤ s.beat
sent_contact time now None s less is = cc is
sent_contact time now (Some contact) s less is = sent_session time now contact.session s less is

never_before : (now : ℕ) → nat_lt now now ≡ false
never_before now = grind (arith, common_steps)

sent_session_last : (now : ℕ) (o : Option Session) → beat_before now (option_map (session_sent now) o) ≡ false
sent_session_last now None = refl
sent_session_last now (Some x) = never_before now

sent_contact_last : (now : ℕ) (o : Option Contact) → beat_before now (option_and_then session_in (option_map (contact_sent now) o)) ≡ false
sent_contact_last now None = refl
sent_contact_last now (Some contact) = sent_session_last now contact.session

pub sent_last : (now : ℕ) (row : PeerContact) → has_waited now (row_sent now row) ≡ false
sent_last now row = sent_contact_last now row.contact

-- the last heartbeat is the one that was sent now
pub sending_keeps : (time now : ℕ) (row : PeerContact) → time ≤ now → NotBefore time (row_sent now row)
sending_keeps time now row less s is = sent_contact time now row.contact s less is

-- ---- the peer

pub begun_peer : (now : ℕ) (row : PeerContact) → (row_begun now row).peer ≡ row.peer
begun_peer now row =
    let has = is_some (session_of row) in
    elim (cases_Bool has) [
      | inl is ↦ ap (λ r. r.peer) (cond-true has row (row_heard now row) is)
      | inr out ↦ ap (λ r. r.peer) (cond-false has row (row_heard now row) out)
    ]

-- a turn at a tick leaves the peer
pub turned_peer : (watched : Bool) (by : ℕ × ℕ) (now : ℕ) (row : PeerContact) → (row_turned watched by now row).peer ≡ row.peer
turned_peer watched by now row = by_loss (turn_loses watched by now row) ∙ by_watch watched
  where
    by_loss : (b : Bool) → (if b then row_forgotten (row_watched watched now row) else row_watched watched now row).peer ≡ (row_watched watched now row).peer
    by_loss true = refl
    by_loss false = refl

    by_watch : (b : Bool) → (row_watched b now row).peer ≡ row.peer
    by_watch true = begun_peer now row
    by_watch false = refl
