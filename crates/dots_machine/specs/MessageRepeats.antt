-- Which messages are repeats of one that was accepted, and what they are answered (RFC 7252, section 4.5).
use Rattle.std.specs.Prelude.{◌≡◌, ℕ, suc, ◌<◌, true, false, List, drop, slice_get, Option, Some, None}
use Rattle.dots_history.specs.declared.entry.Entry.{Entry}
use Rattle.dots_history.specs.Entries.{signals, may_repeat}
use Rattle.dots_history.specs.Histories.{tally}
use Rattle.dots_keys.specs.declared.exchange.Exchange.{Exchange}
use Rattle.dots_machine.specs.Verdict.{Verdict}
use Rattle.dots_machine.specs.declared.verdict.Verdict.TheVariants as verdict

-- Who sent a message for which domain, and its Message ID: by these a repeat is known.
pub record Sent : Type 0 where
  pub peer : ℕ
  pub domain : ℕ
  pub id : ℕ

abbrev pub sent_for : ℕ → Exchange → ℕ → Sent
sent_for peer exchange domain = record { peer = peer; domain = domain; id = exchange.id }

-- At time t the message that was sent so repeats the one that made this entry, when n messages of a peer and domain are remembered: the entry
-- is of the peer and domain, with fewer than n of these after it; its message had the Message ID and may still be repeated; and of the
-- later ones none is such.
pub record IsRepeatOf (n t : ℕ) (history : List Entry) (sent : Sent) (entry : Entry) : Type 0 where
  pub place : ℕ
  pub there : slice_get history place ≡ Some entry
  pub of_both : signals sent.peer sent.domain entry ≡ true
  pub recent : tally (signals sent.peer sent.domain) (drop (suc place) history) < n
  pub may : may_repeat t sent.id entry.time entry.key ≡ true
  pub last :
      (j : ℕ) (later : Entry) → place < j → slice_get history j ≡ Some later → signals sent.peer sent.domain later ≡ true
      → may_repeat t sent.id later.time later.key ≡ false

-- what the message repeats: the message of this entry, or none
abbrev pub Repeats : ℕ → ℕ → List Entry → Sent → Option Entry → Type 0
Repeats n t history sent (Some entry) = IsRepeatOf n t history sent entry
Repeats n t history sent None = (entry : Entry) → ¬ (IsRepeatOf n t history sent entry)

-- A repeat is answered as the message was, and nothing else is looked at; any other message is decided on.
abbrev pub unless_repeated : Option Entry → Verdict → Verdict
unless_repeated (Some entry) otherwise = verdict.Reply entry.reply
unless_repeated None otherwise = otherwise
