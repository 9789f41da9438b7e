-- What stands at a front is one, and what is sent fixes a turn.
use Rattle.std.proofs.Common.{◌≡◌, ℕ, Bool, true, false, List, [], ◌∷◌, ◌++◌, length, get_or, Some, Result, Ok, Err, ◌⊎◌, inl, inr, refl, sym, ap, subst, ◌∙◌, append-nil, arith}
use Rattle.std.specs.Prelude.{◌==◌, codes, nat_lt, option_and_then}
use Rattle.std.proofs.lemmas.Bool.{false≢true, and_from, eq-eqb, lt-ltb}
use Rattle.dots_host.specs.declared.out.OwnedOut.{OwnedOut}
use Rattle.dots_host.specs.declared.out.OwnedOut.TheVariants as owned
use Rattle.dots_settings.specs.declared.peer.Role.{Role}
use Rattle.dots_settings.specs.Settings.{SettingsValue, IsSettings}
use Rattle.dots_settings.specs.Lookups.{role_of}
use Rattle.dots_history.specs.Calm.{may_act}
use Rattle.dots_history.specs.declared.entry.Entry.{Entry}
use Rattle.stream_table.specs.Lines.{Line, PeerLines, AreOf, line_of}
use Rattle.stream_table.specs.Places.{AreApart, buffered_by, with_more}
use Rattle.stream_table.proofs.Clients.{connection_is_of_client}
use Rattle.stream_table.proofs.Buffering.{line_buffers, same_peer, forgotten_buffering, buffering_forgotten, swapped}
use Rattle.httparse.proofs.GrammarLemmas.{request_unique}
use Rattle.http_cut.specs.declared.fault.HttpFault.{HttpFault}
use Rattle.http_cut.specs.declared.fault.HttpFault.TheVariants.{BadHead}
use Rattle.http_cut.specs.Requests.{Request, CutValue, takes, waits, refuses, IsCut, cut_value_behind, head_of}
use Rattle.http_cut.specs.Streams.{IsFirst, IsOpen}
use Rattle.http_cut.proofs.Streams.{first_size, first_append, refused_still}
use Rattle.data_channel.specs.declared.reject.RestReject.{RestReject}
use Rattle.data_channel.specs.declared.request.RestRequest.{RestRequest}
use Rattle.data_channel.proofs.Meaning.{one_meaning}
use Rattle.rest_answers.specs.declared.answer.RestAnswer.TheVariants as answer
use Rattle.rest_answers.specs.declared.caller.Caller.{Caller}
use Rattle.rest_answers.specs.declared.front.RestFront.TheVariants as fronts
use Rattle.rest_answers.specs.Answer.{RestAnswer}
use Rattle.rest_answers.specs.Known.{known_of}
use Rattle.rest_answers.specs.Replies.{unavailable}
use Rattle.rest_answers.specs.Answers.{IsOf, answer_to, LacksMemory, Answers}
use Rattle.rest_answers.specs.Turns.{RestFront, caller_in, caller_by, caller_of, IsFront, is_waiting, HasSize, reply_in, closing, sends_of, entries_in, entries_of, lines_behind, HttpTurn, with_piece, AddsOne, LackMemory, IsEarly}
use Rattle.rest_answers.proofs.Accepted.{accepted_succeeds, accepted_is_of, failure}

pub one_there : {A : Type 0} (x y : A) → Some x ≡ Some y → x ≡ y
one_there x y same = cc

-- ---- what is cut is one

abbrev kind : CutValue → ℕ
kind (takes request) = 0
kind waits = 1
kind (refuses fault) = 2

abbrev taken : Request → CutValue → Request
taken instead (takes request) = request
taken instead waits = instead
taken instead (refuses fault) = instead

abbrev fault_of : CutValue → HttpFault
fault_of (takes request) = BadHead
fault_of waits = BadHead
fault_of (refuses fault) = fault

-- two outcomes of the same bytes: they are one, or no head can come, and the one is refused where the other waits
abbrev AreOneCut : List ℕ → CutValue → CutValue → Type 0
AreOneCut held one other =
    (one ≡ other) ⊎ (IsOpen held × (((one ≡ waits) × (other ≡ refuses BadHead)) ⊎ ((one ≡ refuses BadHead) × (other ≡ waits))))

one_cut : (held : List ℕ) (one other : CutValue) → IsCut held one → IsCut held other → AreOneCut held one other
one_cut held one other (inl x) (inl y) =
    let same = request_unique held x.0 y.0 x.1 y.1 x.2.reads y.2.reads in
    inl (x.3 ∙ (λ i. cut_value_behind (head_of (same.0 i)) (same.1 i)) ∙ sym y.3)
one_cut held one other (inl x) (inr y) = absurd (y.0 x.0 x.1 x.2)
one_cut held one other (inr x) (inl y) = absurd (x.0 y.0 y.1 y.2)
one_cut held (takes r) other (inr x) (inr y) = absurd x.1
one_cut held waits (takes s) (inr x) (inr y) = absurd y.1
one_cut held waits waits (inr x) (inr y) = inl refl
one_cut held waits (refuses g) (inr x) (inr y) = elim y.1.1 [
  | inl over ↦ absurd (x.1 over)
  | inr never ↦ inr ((never, x.1), inl (refl, ap refuses y.1.0))
]
one_cut held (refuses f) (takes s) (inr x) (inr y) = absurd y.1
one_cut held (refuses f) waits (inr x) (inr y) = elim x.1.1 [
  | inl over ↦ absurd (y.1 over)
  | inr never ↦ inr ((never, y.1), inr (ap refuses x.1.0, refl))
]
one_cut held (refuses f) (refuses g) (inr x) (inr y) = inl (ap refuses (x.1.0 ∙ sym y.1.0))

-- one of them is a request, so they are one
same_request : (held : List ℕ) (r : Request) (other : CutValue) → IsCut held (takes r) → IsCut held other → takes r ≡ other
same_request held r other x y = elim (one_cut held (takes r) other x y) [
  | inl same ↦ same
  | inr early ↦ elim early.1 [
    | inl a ↦ absurd (omega (arith, ap kind a.0))
    | inr b ↦ absurd (omega (arith, ap kind b.0))
  ]
]

first_of : (held : List ℕ) (r : Request) → IsCut held (takes r) → IsFirst held r
first_of held r (inl x) = x
first_of held r (inr x) = absurd x.1

-- ---- what is answered is one, or memory ran out

module _ (settings : SettingsValue) (t : ℕ) (history : List Entry) (caller : Caller) where
  one_answer : (message : Request) (one other : RestAnswer) → Answers settings t history caller message one → Answers settings t history caller message other
      → (one ≡ other) ⊎ (LacksMemory message one ⊎ LacksMemory message other)
  one_answer message one other (inl x) (inl y) =
      inl (x.2 ∙ ap (answer_to settings t history caller message.close) (one_meaning message x.0 y.0 x.1 y.1) ∙ sym y.2)
  one_answer message one other (inl x) (inr lacks) = inr (inr lacks)
  one_answer message one other (inr lacks) y = inr (inl lacks)

  abbrev Stands : List ℕ → RestFront → Type 0
  Stands held at = IsFront settings t history caller held at

  -- two answers to one message
  answered_once : (held : List ℕ) (size size' : ℕ) (close close' : Bool) (first second : RestAnswer)
      → Stands held (fronts.Answered size close first) → Stands held (fronts.Answered size' close' second)
      → (fronts.Answered size close first ≡ fronts.Answered size' close' second) ⊎ LackMemory (fronts.Answered size close first) (fronts.Answered size' close' second)
  answered_once held size size' close close' first second x y =
      let m : Request = x.0 in
      let same : m ≡ y.0 = ap (taken m) (same_request held m (takes y.0) x.1 y.1) in
      let sizes : size ≡ size' = x.2 ∙ ap (λ (r : Request). r.size) same ∙ sym y.2 in
      let closes : close ≡ close' = x.3 ∙ ap (λ (r : Request). r.close) same ∙ sym y.3 in
      let there : Answers settings t history caller m second = subst (λ (r : Request). Answers settings t history caller r second) (sym same) y.4 in
      let of_one : fronts.Answered size' close' second ≡ fronts.Answered size close second = λ i. fronts.Answered (sym sizes i) (sym closes i) second in
      elim (one_answer m first second x.4 there) [
        | inl one ↦ inl (ap (fronts.Answered size close) one ∙ sym of_one)
        | inr lacks ↦ inr (record {
          size = size;
          close = close;
          first = first;
          second = second;
          one_is = refl;
          other_is = of_one;
          lacks = elim lacks [
            | inl l ↦ inl (l ∙ ap (λ (b : Bool). answer.Reply (unavailable b)) (sym x.3))
            | inr l ↦ inr (l ∙ ap (λ (b : Bool). answer.Reply (unavailable b)) (sym x.3))
          ];
        })
      ]

  pub one_front : (held : List ℕ) (one other : RestFront) → Stands held one → Stands held other → (one ≡ other) ⊎ (LackMemory one other ⊎ IsEarly held one other)
  one_front held fronts.Waits fronts.Waits x y = inl refl
  one_front held fronts.Waits (fronts.Refused g) x y = elim (one_cut held waits (refuses g) x y) [
    | inl same ↦ absurd (omega (arith, ap kind same))
    | inr early ↦ inr (inr (record { never = early.0; which = elim early.1 [ inl a ↦ inl (refl, ap fronts.Refused (ap fault_of a.1)) | inr b ↦ absurd (omega (arith, ap kind b.0)) ] }))
  ]
  one_front held fronts.Waits (fronts.Answered size close answered) x y = absurd (omega (arith, ap kind (same_request held y.0 waits y.1 x)))
  one_front held (fronts.Refused f) fronts.Waits x y = elim (one_cut held (refuses f) waits x y) [
    | inl same ↦ absurd (omega (arith, ap kind same))
    | inr early ↦ inr (inr (record { never = early.0; which = elim early.1 [ inl a ↦ absurd (omega (arith, ap kind a.0)) | inr b ↦ inr (ap fronts.Refused (ap fault_of b.0), refl) ] }))
  ]
  one_front held (fronts.Refused f) (fronts.Refused g) x y = elim (one_cut held (refuses f) (refuses g) x y) [
    | inl same ↦ inl (ap fronts.Refused (ap fault_of same))
    | inr early ↦ elim early.1 [ inl a ↦ absurd (omega (arith, ap kind a.0)) | inr b ↦ absurd (omega (arith, ap kind b.1)) ]
  ]
  one_front held (fronts.Refused f) (fronts.Answered size close answered) x y = absurd (omega (arith, ap kind (same_request held y.0 (refuses f) y.1 x)))
  one_front held (fronts.Answered size close answered) fronts.Waits x y = absurd (omega (arith, ap kind (same_request held x.0 waits x.1 y)))
  one_front held (fronts.Answered size close answered) (fronts.Refused g) x y = absurd (omega (arith, ap kind (same_request held x.0 (refuses g) x.1 y)))
  one_front held (fronts.Answered size close first) (fronts.Answered size' close' second) x y = elim (answered_once held size size' close close' first second x y) [
    | inl same ↦ inl same
    | inr lacks ↦ inr (inl lacks)
  ]

  -- ---- bytes that follow

  pub front_stays : (held more : List ℕ) (at : RestFront) → Stands held at → is_waiting at ≡ false → Stands (held ++ more) at
  front_stays held more fronts.Waits x due = absurd (false≢true (sym due))
  front_stays held more (fronts.Refused fault) x due = refused_still held more fault x
  front_stays held more (fronts.Answered size close answered) x due = (x.0, inl (first_append held more x.0 (first_of held x.0 x.1)), x.2, x.3, x.4)

  pub front_has_size : (held : List ℕ) (at : RestFront) → Stands held at → HasSize held at
  front_has_size held fronts.Waits x = tt
  front_has_size held (fronts.Refused fault) x = tt
  front_has_size held (fronts.Answered size close answered) x =
      let n = first_size held x.0 (first_of held x.0 x.1) in
      let same = x.2 in
      (omega (arith, n.0, same), omega (arith, n.1, same))

  -- ---- what a reply shows

  -- the status is one of success: its first digit stands behind "HTTP/1.1 "
  abbrev says_success : List ℕ → Bool
  says_success reply = get_or reply 9 0 == 50

  never_both : (reply : List ℕ) (close : Bool) → (rest : List ℕ) × (reply ≡ codes "HTTP/1.1 2" ++ rest) → ¬ (reply ≡ unavailable close)
  never_both reply close success same =
      let failed = failure close in
      absurd (false≢true (ap says_success (sym failed.1 ∙ sym same ∙ success.1)))

  accepted_by : (message : Request) (read : Result RestRequest RestReject) (reply : List ℕ) (entry : Entry)
      → answer.Accept reply entry ≡ answer_to settings t history caller message.close read
      → ((asked : RestRequest) × IsOf t caller asked entry) × ((rest : List ℕ) × (reply ≡ codes "HTTP/1.1 2" ++ rest))
  accepted_by message (Ok asked) reply entry is =
      let known = known_of settings t history caller asked in
      ((asked, accepted_is_of known caller message.close asked reply entry (sym is)), accepted_succeeds known caller message.close asked reply entry (sym is))
  accepted_by message (Err rejected) reply entry is = absurd (cc is)

  pub accepted : (message : Request) (reply : List ℕ) (entry : Entry) → Answers settings t history caller message (answer.Accept reply entry)
      → ((asked : RestRequest) × IsOf t caller asked entry) × ((rest : List ℕ) × (reply ≡ codes "HTTP/1.1 2" ++ rest))
  accepted message reply entry (inl x) = accepted_by message x.0 reply entry x.2
  accepted message reply entry (inr lacks) = absurd (cc lacks)

  -- an answer with the bytes of 500 has no entry
  no_entry : (message : Request) (close : Bool) (answered : RestAnswer) → Answers settings t history caller message answered → reply_in answered ≡ unavailable close → entries_in answered ≡ []
  no_entry message close (answer.Reply reply) x is = refl
  no_entry message close (answer.LongReply reply) x is = refl
  no_entry message close (answer.Accept reply entry) x is = absurd (never_both reply close (accepted message reply entry x).1 is)

  -- two answers of which one is 500, with the same bytes, have the same entries
  same_entries : (message other : Request) (close : Bool) (first second : RestAnswer) → Answers settings t history caller message first → Answers settings t history caller other second
      → (first ≡ answer.Reply (unavailable close)) ⊎ (second ≡ answer.Reply (unavailable close)) → reply_in first ≡ reply_in second → entries_in first ≡ entries_in second
  same_entries message other close first second x y (inl lacks) same =
      ap entries_in lacks ∙ sym (no_entry other close second y (sym same ∙ ap reply_in lacks))
  same_entries message other close first second x y (inr lacks) same =
      no_entry message close first x (same ∙ ap reply_in lacks) ∙ sym (ap entries_in lacks)

-- ---- turns

same_parts : (a b : OwnedOut) (xs ys : List OwnedOut) → a ∷ xs ≡ b ∷ ys → (a ≡ b) × (xs ≡ ys)
same_parts a b xs ys is = (cc is, cc is)

same_reply : (conn : ℕ) (a b : List ℕ) → owned.Conn conn a ≡ owned.Conn conn b → a ≡ b
same_reply conn a b is = cc is

module _ (settings : SettingsValue) (conn t : ℕ) (history : List Entry) (lines : List PeerLines) where
  -- what is left of two turns whose first send is the same
  abbrev AreSame : RestFront → RestFront → List OwnedOut → List OwnedOut → Type 0
  AreSame one other rest rest' = (rest ≡ rest') × (entries_of one ≡ entries_of other) × (lines_behind conn one lines ≡ lines_behind conn other lines)

  by_lack : (caller : Caller) (held : List ℕ) (one other : RestFront) → IsFront settings t history caller held one → IsFront settings t history caller held other
      → (out : OwnedOut) (rest rest' : List OwnedOut) → out ∷ rest ≡ sends_of conn one → out ∷ rest' ≡ sends_of conn other → LackMemory one other → AreSame one other rest rest'
  by_lack caller held one other x y out rest rest' s s' l =
      let a = subst (λ (f : RestFront). IsFront settings t history caller held f) l.one_is x in
      let b = subst (λ (f : RestFront). IsFront settings t history caller held f) l.other_is y in
      let p = same_parts out (owned.Conn conn (reply_in l.first)) rest (closing conn l.close) (s ∙ ap (sends_of conn) l.one_is) in
      let q = same_parts out (owned.Conn conn (reply_in l.second)) rest' (closing conn l.close) (s' ∙ ap (sends_of conn) l.other_is) in
      let reply : reply_in l.first ≡ reply_in l.second = same_reply conn (reply_in l.first) (reply_in l.second) (sym p.0 ∙ q.0) in
      let entries = same_entries settings t history caller a.0 b.0 l.close l.first l.second a.4 b.4 l.lacks reply in (
        p.1 ∙ sym q.1,
        ap entries_of l.one_is ∙ entries ∙ sym (ap entries_of l.other_is),
        ap (λ (f : RestFront). lines_behind conn f lines) l.one_is ∙ sym (ap (λ (f : RestFront). lines_behind conn f lines) l.other_is),
      )

  both_due : (held : List ℕ) (one other : RestFront) → is_waiting one ≡ false → is_waiting other ≡ false → ¬ (IsEarly held one other)
  both_due held one other due due' early = elim early.which [
    | inl a ↦ absurd (false≢true (sym due ∙ ap is_waiting a.0))
    | inr b ↦ absurd (false≢true (sym due' ∙ ap is_waiting b.1))
  ]

  by_fronts : (caller : Caller) (held : List ℕ) (one other : RestFront) → IsFront settings t history caller held one → IsFront settings t history caller held other
      → is_waiting one ≡ false → is_waiting other ≡ false
      → (out : OwnedOut) (rest rest' : List OwnedOut) → out ∷ rest ≡ sends_of conn one → out ∷ rest' ≡ sends_of conn other → AreSame one other rest rest'
  by_fronts caller held one other x y due due' out rest rest' s s' = elim (one_front settings t history caller held one other x y) [
    | inl same ↦ (
      (same_parts out out rest rest' (s ∙ ap (sends_of conn) same ∙ sym s')).1,
      ap entries_of same,
      ap (λ (f : RestFront). lines_behind conn f lines) same,
    )
    | inr differ ↦ elim differ [
      | inl lack ↦ by_lack caller held one other x y out rest rest' s s' lack
      | inr early ↦ absurd (both_due held one other due due' early)
    ]
  ]

  -- the front of a turn, of the caller and over the bytes of another
  stands_for : (caller : Caller) (line : Line) (own : Caller) (there : Line) (at : RestFront) → own ≡ caller → there ≡ line
      → IsFront settings t history own there.buffered at → IsFront settings t history caller line.buffered at
  stands_for caller line own there at same_caller same_line x =
      subst (λ (c : Caller). IsFront settings t history c line.buffered at) same_caller (subst (λ (l : Line). IsFront settings t history own l.buffered at) same_line x)

  pub first_send_fixes : (out : OwnedOut) (rest rest' : List OwnedOut) (after after' : List Entry) (behind behind' : List PeerLines)
      → HttpTurn settings conn t history lines (out ∷ rest) after behind → HttpTurn settings conn t history lines (out ∷ rest') after' behind'
      → (rest ≡ rest') × (after ≡ after') × (behind ≡ behind')
  first_send_fixes out rest rest' after after' behind behind' x y =
      let there = stands_for x.caller x.line y.caller y.line y.front (one_there y.caller x.caller (sym y.asks ∙ x.asks)) (one_there y.line x.line (sym y.there ∙ x.there)) y.stands in
      let same = by_fronts x.caller x.line.buffered x.front y.front x.stands there x.due y.due out rest rest' x.sends_are y.sends_are in
      (same.0, x.history_is ∙ ap (λ (es : List Entry). history ++ es) same.1 ∙ sym y.history_is, x.lines_are ∙ same.2 ∙ sym y.lines_are)

  -- ---- it begins on the connection

  due_begins : (at : RestFront) → is_waiting at ≡ false → (reply : List ℕ) × (rest : List OwnedOut) × (sends_of conn at ≡ owned.Conn conn reply ∷ rest)
  due_begins fronts.Waits due = absurd (false≢true (sym due))
  due_begins (fronts.Refused fault) due = (_, _, refl)
  due_begins (fronts.Answered size close answered) due = (_, _, refl)

  pub turn_begins : (sends : List OwnedOut) (after : List Entry) (behind : List PeerLines) → HttpTurn settings conn t history lines sends after behind
      → (reply : List ℕ) × (rest : List OwnedOut) × (sends ≡ owned.Conn conn reply ∷ rest)
  turn_begins sends after behind x = let begins = due_begins x.front x.due in (begins.0, begins.1, x.sends_are ∙ begins.2)

  -- ---- its entry

  added_by : (caller : Caller) (held : List ℕ) (at : RestFront) (after : List Entry) → IsFront settings t history caller held at → after ≡ history ++ entries_of at → AddsOne t caller history after
  added_by caller held fronts.Waits after x is = inl (is ∙ append-nil history)
  added_by caller held (fronts.Refused fault) after x is = inl (is ∙ append-nil history)
  added_by caller held (fronts.Answered size close (answer.Reply reply)) after x is = inl (is ∙ append-nil history)
  added_by caller held (fronts.Answered size close (answer.LongReply reply)) after x is = inl (is ∙ append-nil history)
  added_by caller held (fronts.Answered size close (answer.Accept reply entry)) after x is =
      let how = (accepted settings t history caller x.0 reply entry x.4).0 in
      inr (how.0, entry, is, how.1)

  pub adds_one : (sends : List OwnedOut) (after : List Entry) (behind : List PeerLines) (caller : Caller) → HttpTurn settings conn t history lines sends after behind
      → caller_of settings conn lines ≡ Some caller → AddsOne t caller history after
  adds_one sends after behind caller x asks =
      let same : x.caller ≡ caller = one_there x.caller caller (sym x.asks ∙ asks) in
      subst (λ (c : Caller). AddsOne t c history after) same (added_by x.caller x.line.buffered x.front after x.stands x.history_is)

  -- ---- bytes that follow

  behind_with : (more : List ℕ) (line : Line) (at : RestFront) → AreApart lines → line_of conn lines ≡ Some line → HasSize line.buffered at
      → with_piece conn more (lines_behind conn at lines) ≡ lines_behind conn at (with_piece conn more lines)
  behind_with more line fronts.Waits apart there has = refl
  behind_with more line (fronts.Refused fault) apart there has = buffering_forgotten conn (with_more more) lines ∙ sym (forgotten_buffering conn (with_more more) lines)
  behind_with more line (fronts.Answered size true answered) apart there has = buffering_forgotten conn (with_more more) lines ∙ sym (forgotten_buffering conn (with_more more) lines)
  behind_with more line (fronts.Answered size false answered) apart there has = sym (swapped conn size more lines line apart there has.1)

  pub turn_stays : (more : List ℕ) (sends : List OwnedOut) (after : List Entry) (behind : List PeerLines) → AreApart lines → HttpTurn settings conn t history lines sends after behind
      → HttpTurn settings conn t history (with_piece conn more lines) sends after (with_piece conn more behind)
  turn_stays more sends after behind apart x = record {
    caller = x.caller;
    asks = ap (option_and_then (caller_by settings)) (same_peer conn (with_more more) lines) ∙ x.asks;
    line = buffered_by (with_more more) x.line;
    there = line_buffers conn (with_more more) lines x.line x.there;
    front = x.front;
    stands = front_stays settings t history x.caller x.line.buffered more x.front x.stands x.due;
    due = x.due;
    sends_are = x.sends_are;
    history_is = x.history_is;
    lines_are =
        ap (with_piece conn more) x.lines_are
        ∙ behind_with more x.line x.front apart x.there (front_has_size settings t history x.caller x.line.buffered x.front x.stands);
  }

-- ---- who asks

pub connection_has_caller : (settings : SettingsValue) (conn : ℕ) (lines : List PeerLines) (line : Line) → IsSettings settings → AreOf settings.peers lines → line_of conn lines ≡ Some line
    → (caller : Caller) × (caller_of settings conn lines ≡ Some caller) × (may_act settings (role_of settings caller.peer) caller.domain ≡ true)
connection_has_caller settings conn lines line are of_settings there =
    let client = connection_is_of_client settings lines conn line are of_settings there in
    let peer = client.0 in
    let domain = client.1 in
    let is = client.3.role in (
      record { peer = peer; domain = domain },
      ap (option_and_then (caller_by settings)) client.2 ∙ ap (caller_in peer) is,
      ap (λ (r : Role). may_act settings r domain) is
          ∙ and_from (domain == domain) (nat_lt domain (length settings.domains)) (eq-eqb domain domain refl) (lt-ltb domain (length settings.domains) client.3.known),
    )
