-- What stands at the front of a connection, and what is answered.
use Rattle.std.proofs.Common.{◌≡◌, ℕ, ◌-◌, ◌<◌, ◌≤◌, min, Bool, true, false, cond, List, [], ◌∷◌, ◌++◌, length, take, drop, Option, Some, None, refl, sym, ap, ◌∙◌, subst, arith, append-nil, length-append, length-take, take_all, take-append-drop}
use Rattle.std.specs.Prelude.{MatchOption, ⊤}
use Rattle.dots_host.specs.declared.out.OwnedOut.{OwnedOut}
use Rattle.dots_host.specs.declared.out.OwnedOut.TheVariants as owned
use Rattle.dots_host.specs.Acts.{Timed}
use Rattle.dots_host.specs.Runs.{Added, Gives}
use Rattle.dots_host.proofs.RunLemmas.{added_weaker}
use Rattle.dots_host.specs.Media.{Media}
use Rattle.dots_host.specs.Becoming.{KeepsMedia, IsMoment}
use Rattle.dots_settings.specs.Settings.{SettingsValue}
use Rattle.dots_history.specs.declared.entry.Entry.{Entry}
use Rattle.slot_store.specs.StoreValues.{JournalValue}
use Rattle.slot_journal.specs.DiskEntries as journal
use Rattle.http_cut.specs.declared.fault.HttpFault.{HttpFault}
use Rattle.http_cut.specs.Requests.{waits, IsCut}
use Rattle.stream_table.specs.declared.place.LinePlace.{LinePlace}
use Rattle.stream_table.specs.Lines.{Line, PeerLines, line_of, forgotten, buffering}
use Rattle.stream_table.specs.Places.{AreApart, IsAt, NowBuffers, with_more}
use Rattle.rest_answers.specs.declared.answer.RestAnswer.TheVariants as answer
use Rattle.rest_answers.specs.declared.front.RestFront.TheVariants as fronts
use Rattle.rest_answers.specs.Answer.{RestAnswer}
use Rattle.rest_answers.specs.Replies.{refusal}
use Rattle.rest_answers.specs.Turns.{RestFront, is_waiting, reply_in, closing, sends_of, entries_in, entries_of, lines_behind, HttpTurn, with_piece}
use Rattle.rest_answers.proofs.Turning.{turn_stays}
use Rattle.session_core.specs.Notifying.{SentTo}
use Rattle.dots_machine.specs.Machine.{State, AnswersFront, receiving}
use Rattle.dots_server.specs.ServerValues.{ServerValue, RestartsWith}
use Rattle.dots_server.specs.Turning.{Turned, TurnedTo, Broke}
use Rattle.dots_server.specs.Pieces.{IsFrontAt, having, IsAcceptedBy, FrontAnswered, FrontRests, IsFrontTaken, FrontBroke, PieceAnswered, IsPieceTaken}
use Rattle.dots_server.proofs.Rows.{apart_buffering, buffering_nowhere, pieces_joined, held_all}
use Rattle.dots_server.proofs.Connecting.{lines_restarts}
use Rattle.dots_server.proofs.Turning.{unwritten, notices_behind, turned_from}
use Rattle.dots_server.proofs.Chaining.{broke_as}

-- ---- the state with the entry of an answer

having_history : (answered : RestAnswer) (state : State) → (having answered state).history ≡ state.history ++ entries_in answered
having_history (answer.Reply reply) state = sym (append-nil state.history)
having_history (answer.LongReply reply) state = sym (append-nil state.history)
having_history (answer.Accept reply entry) state = refl

-- and other connections
abbrev with_lines : (List PeerLines → List PeerLines) → State → State
with_lines becomes state = record state { lines = becomes state.lines }

having_is : (answered : RestAnswer) (becomes : List PeerLines → List PeerLines) (state : State)
    → with_lines becomes (having answered state) ≡ record state { history = state.history ++ entries_in answered; lines = becomes state.lines }
having_is (answer.Reply reply) becomes state = ap (λ (es : List Entry). record state { history = es; lines = becomes state.lines }) (sym (append-nil state.history))
having_is (answer.LongReply reply) becomes state = ap (λ (es : List Entry). record state { history = es; lines = becomes state.lines }) (sym (append-nil state.history))
having_is (answer.Accept reply entry) becomes state = refl

-- ---- a turn, by what stands there

module _ (settings : SettingsValue) (conn : ℕ) (place : LinePlace) (old : ServerValue) (at : IsAt conn place old.lines) (state : State) (entries : List Entry) (kept : RestartsWith old settings state entries) where
  line_there : line_of conn state.lines ≡ Some at.line
  line_there = ap (line_of conn) (sym kept.represents.represents.lines) ∙ at.found

  front_turn : (front : RestFront) → IsFrontAt settings conn state at.line front → is_waiting front ≡ false → (new : State)
      → new ≡ record state { history = state.history ++ entries_of front; lines = lines_behind conn front state.lines } → AnswersFront settings conn state (sends_of conn front) new
  front_turn front stands due new is = (
    state.history ++ entries_of front,
    lines_behind conn front state.lines,
    record { caller = stands.0; asks = stands.1; line = at.line; there = line_there; front = front; stands = stands.2; due = due; sends_are = refl; history_is = refl; lines_are = refl },
    is,
  )

  -- more is waited for
  pub front_rests : IsFrontAt settings conn state at.line fronts.Waits → (now : ServerValue) → now ≡ old → (media : Option Media) (acts : Option (List Timed))
      → FrontRests settings conn state old now entries media media acts acts
  front_rests stands now same media acts = record {
    rests = subst (λ (o : Option Line). MatchOption o ⊤ (λ line. IsCut line.buffered waits)) (sym line_there) stands.2;
    kept = subst (λ (server : ServerValue). RestartsWith server settings state entries) (sym same) kept;
    written = ap (λ (server : ServerValue). server.journal) same;
    still = refl;
    silent = refl;
  }

  -- no request stands there
  module _ (fault : HttpFault) (stands : IsFrontAt settings conn state at.line (fronts.Refused fault)) (now : ServerValue) (is : now ≡ record old { lines = forgotten conn old.lines }) where
    pub refused_answered : (media media_new : Option Media) (moment last : ℕ) (acts acts_new : Option (List Timed)) → IsMoment moment media
        → Added acts acts_new (SentTo moment last (owned.Conn conn (refusal fault) ∷ owned.Close conn ∷ [])) → KeepsMedia media media_new
        → FrontAnswered settings conn state old now entries media media_new acts acts_new
    refused_answered media media_new moment last acts acts_new here sent keeps =
        let sends : List OwnedOut = owned.Conn conn (refusal fault) ∷ owned.Close conn ∷ [] in
        let new : State = with_lines (forgotten conn) state in
        record {
          sends = sends;
          new = new;
          few = entries;
          answers = front_turn (fronts.Refused fault) stands refl new (ap (λ (es : List Entry). record state { history = es; lines = forgotten conn state.lines }) (sym (append-nil state.history)));
          kept = subst (λ (server : ServerValue). RestartsWith server settings new entries) (sym is) (lines_restarts (forgotten conn) old settings state entries kept);
          turned = subst
              (λ (j : JournalValue). Turned settings state new sends (journal.Represents old.journal settings entries) (journal.Represents j settings entries) media media_new acts acts_new)
              (sym (ap (λ (server : ServerValue). server.journal) is))
              (unwritten settings state new sends (journal.Represents old.journal settings entries) media media_new moment acts acts_new here
              (added_weaker acts acts_new (SentTo moment last sends) (Gives moment sends) sent (λ acts is. is.0)) keeps);
        }

  -- a request stands there
  module _ (size : ℕ) (close : Bool) (answered : RestAnswer) (stands : IsFrontAt settings conn state at.line (fronts.Answered size close answered)) where
    abbrev becomes : List PeerLines → List PeerLines
    becomes lines = cond close (forgotten conn lines) (buffering conn (drop size) lines)

    abbrev answered_so : State
    answered_so = with_lines becomes (having answered state)

    abbrev sent_so : List OwnedOut
    sent_so = owned.Conn conn (reply_in answered) ∷ closing conn close

    answers_so : AnswersFront settings conn state sent_so answered_so
    answers_so = front_turn (fronts.Answered size close answered) stands refl answered_so (having_is answered becomes state)

    pub request_answered : (said now : ServerValue) (few : List Entry) (media there media_new : Option Media) (moment last : ℕ) (acts told acts_new : Option (List Timed))
        → RestartsWith said settings (having answered state) few
        → TurnedTo moment settings state (having answered state) (owned.Conn conn (reply_in answered) ∷ []) (journal.Represents old.journal settings entries) (journal.Represents said.journal settings few)
        media there acts told
        → now ≡ record said { lines = becomes said.lines } → Added told acts_new (SentTo moment last (closing conn close)) → KeepsMedia there media_new
        → FrontAnswered settings conn state old now entries media media_new acts acts_new
    request_answered said now few media there media_new moment last acts told acts_new said_kept turned is sent keeps = record {
      sends = sent_so;
      new = answered_so;
      few = few;
      answers = answers_so;
      kept = subst (λ (server : ServerValue). RestartsWith server settings answered_so few) (sym is) (lines_restarts becomes said settings (having answered state) few said_kept);
      turned = subst
          (λ (j : JournalValue). Turned settings state answered_so sent_so (journal.Represents old.journal settings entries) (journal.Represents j settings few) media media_new acts acts_new)
          (sym (ap (λ (server : ServerValue). server.journal) is))
          (notices_behind settings state (having answered state) answered_so (owned.Conn conn (reply_in answered) ∷ []) (closing conn close) (journal.Represents old.journal settings entries)
          (journal.Represents said.journal settings few) media there media_new moment last acts told acts_new turned refl refl sent keeps);
    }

    -- the disk failed
    pub request_broke : (media media_new : Option Media) (acts acts_new : Option (List Timed)) → IsAcceptedBy answered
        → Broke settings state (having answered state) (journal.Represents old.journal settings entries) media media_new acts acts_new
        → FrontBroke settings conn state old entries media media_new acts acts_new
    request_broke media media_new acts acts_new accepted broke = record {
      sends = sent_so;
      new = answered_so;
      answers = answers_so;
      entry = accepted.1;
      adds = having_history answered state ∙ ap (λ (a : RestAnswer). state.history ++ entries_in a) accepted.2;
      broke = broke_as settings state state (having answered state) answered_so refl refl refl (journal.Represents old.journal settings entries) media media_new acts acts_new broke;
    }

-- ---- by what was said of it

module _ (more : Bool) (settings : SettingsValue) (conn : ℕ) (state : State) (old now : ServerValue) (entries : List Entry) (media media_now : Option Media) (acts acts_now : Option (List Timed)) where
  pub is_answered : more ≡ true → IsFrontTaken more settings conn state old now entries media media_now acts acts_now → FrontAnswered settings conn state old now entries media media_now acts acts_now
  is_answered is taken = subst (λ (b : Bool). IsFrontTaken b settings conn state old now entries media media_now acts acts_now) is taken

  pub is_resting : more ≡ false → IsFrontTaken more settings conn state old now entries media media_now acts acts_now → FrontRests settings conn state old now entries media media_now acts acts_now
  is_resting is taken = subst (λ (b : Bool). IsFrontTaken b settings conn state old now entries media media_now acts acts_now) is taken

module _ (taken : Option ℕ) (settings : SettingsValue) (conn : ℕ) (rest : List ℕ) (state : State) (old now : ServerValue) (entries : List Entry) (media media_now : Option Media) (acts acts_now : Option (List Timed)) where
  pub some_taken : (n : ℕ) → taken ≡ Some n → IsPieceTaken taken settings conn rest state old now entries media media_now acts acts_now
      → PieceAnswered settings conn rest (drop n rest) state old now entries media media_now acts acts_now
  some_taken n is was = subst (λ (o : Option ℕ). IsPieceTaken o settings conn rest state old now entries media media_now acts acts_now) is was

  pub none_left : taken ≡ None → IsPieceTaken taken settings conn rest state old now entries media media_now acts acts_now
      → FrontRests settings conn (receiving conn rest state) old now entries media media_now acts acts_now
  none_left is was = subst (λ (o : Option ℕ). IsPieceTaken o settings conn rest state old now entries media media_now acts acts_now) is was

-- ---- as bytes come

-- so many are held as there is room for
pub all_held : (n : ℕ) (rest held : List ℕ) → n ≡ min (length rest) (16384 - length held) → length (held ++ take n rest) < 16384 → take n rest ≡ rest
all_held n rest held count room =
    let sum = length-append held (take n rest) in
    let some = length-take n rest in
    let whole : length rest ≤ n = omega (arith, count, room, sum, some) in
    take_all n rest whole

-- a turn in a state is one in a state that is to receive more bytes
module _ (settings : SettingsValue) (conn : ℕ) (more left : List ℕ) (state : State) (apart : AreApart state.lines) where
  pub answers_on : (sends : List OwnedOut) (new : State) → AnswersFront settings conn (receiving conn more state) sends new
      → AnswersFront settings conn (receiving conn (more ++ left) state) sends (receiving conn left new)
  answers_on sends new x = (
    x.0,
    with_piece conn left x.1,
    subst (λ (lines : List PeerLines). HttpTurn settings conn state.time state.history lines sends x.0 (with_piece conn left x.1)) (pieces_joined conn more left state.lines)
        (turn_stays settings conn state.time state.history (with_piece conn more state.lines) left sends x.0 x.1 (apart_buffering conn (with_more more) state.lines apart) x.2),
    ap (receiving conn left) x.3,
  )

module _ (settings : SettingsValue) (conn : ℕ) (rest : List ℕ) (state : State) (old : ServerValue) (entries : List Entry) (kept : RestartsWith old settings state entries) (media media_new : Option Media) (acts acts_new : Option (List Timed)) where
  -- the connection isn't there
  pub rests_nowhere : line_of conn old.lines ≡ None → FrontRests settings conn (receiving conn rest state) old old entries media media acts acts
  rests_nowhere none =
      let gone : line_of conn state.lines ≡ None = ap (line_of conn) (sym kept.represents.represents.lines) ∙ none in
      let same = buffering_nowhere conn (with_more rest) state.lines gone in
      record {
        rests = subst (λ (o : Option Line). MatchOption o ⊤ (λ line. IsCut line.buffered waits)) (sym (ap (line_of conn) same ∙ gone)) tt;
        kept = subst (λ (lines : List PeerLines). RestartsWith old settings (record state { lines = lines }) entries) (sym same) kept;
        written = refl;
        still = refl;
        silent = refl;
      }

  -- these bytes of the rest are held
  module _ (n : ℕ) (place : LinePlace) (at : IsAt conn place old.lines) (held : ServerValue) (holds : NowBuffers place (with_more (take n rest)) old.lines held.lines at.line)
      (others : held ≡ record old { lines = held.lines }) where
    written : held.journal ≡ old.journal
    written = ap (λ (server : ServerValue). server.journal) others

    pub held_restarts : RestartsWith held settings (receiving conn (take n rest) state) entries
    held_restarts =
        subst (λ (server : ServerValue). RestartsWith server settings (receiving conn (take n rest) state) entries)
        (sym (others ∙ ap (λ (lines : List PeerLines). record old { lines = lines }) (held_all conn place (with_more (take n rest)) old.lines held.lines at holds)))
        (lines_restarts (with_piece conn (take n rest)) old settings state entries kept)

    -- and all that there are
    pub piece_rests : (next : ServerValue) → take n rest ≡ rest → FrontRests settings conn (receiving conn (take n rest) state) held next entries media media_new acts acts_new
        → FrontRests settings conn (receiving conn rest state) old next entries media media_new acts acts_new
    piece_rests next whole rests =
        subst (λ (bytes : List ℕ). FrontRests settings conn (receiving conn bytes state) old next entries media media_new acts acts_new) whole
        (record { rests = rests.rests; kept = rests.kept; written = rests.written ∙ written; still = rests.still; silent = rests.silent })

    module _ (apart : AreApart old.lines) where
      answers_there : (sends : List OwnedOut) (new : State) → AnswersFront settings conn (receiving conn (take n rest) state) sends new
          → AnswersFront settings conn (receiving conn rest state) sends (receiving conn (drop n rest) new)
      answers_there sends new x =
          subst (λ (bytes : List ℕ). AnswersFront settings conn (receiving conn bytes state) sends (receiving conn (drop n rest) new)) (take-append-drop n rest)
          (answers_on settings conn (take n rest) (drop n rest) state (subst AreApart kept.represents.represents.lines apart) sends new x)

      pub piece_answered : (next : ServerValue) → FrontAnswered settings conn (receiving conn (take n rest) state) held next entries media media_new acts acts_new
          → PieceAnswered settings conn rest (drop n rest) state old next entries media media_new acts acts_new
      piece_answered next one = record {
        sends = one.sends;
        new = one.new;
        few = one.few;
        answers = answers_there one.sends one.new one.answers;
        kept = one.kept;
        turned = turned_from settings (receiving conn (take n rest) state) state one.new refl (journal.Represents old.journal settings entries) media media_new acts acts_new one.sends
            (journal.Represents next.journal settings one.few)
            (subst
            (λ (j : JournalValue). Turned settings (receiving conn (take n rest) state) one.new one.sends (journal.Represents j settings entries) (journal.Represents next.journal settings one.few) media media_new acts acts_new)
            written one.turned);
      }

      pub piece_broke : FrontBroke settings conn (receiving conn (take n rest) state) held entries media media_new acts acts_new
          → FrontBroke settings conn (receiving conn rest state) old entries media media_new acts acts_new
      piece_broke one =
          let new = receiving conn (drop n rest) one.new in
          record {
            sends = one.sends;
            new = new;
            answers = answers_there one.sends one.new one.answers;
            entry = one.entry;
            adds = one.adds;
            broke = broke_as settings (receiving conn (take n rest) state) (receiving conn rest state) one.new new refl refl refl (journal.Represents old.journal settings entries) media media_new acts acts_new
                (subst
                (λ (j : JournalValue). Broke settings (receiving conn (take n rest) state) one.new (journal.Represents j settings entries) media media_new acts acts_new)
                written one.broke);
          }
