-- What a piece of a connection comes to in a run: its turns, and then the observers that are due are notified.
use Rattle.std.proofs.Common.{◌≡◌, ℕ, List, [], ◌∷◌, ◌++◌, Option, refl, sym, ap, ◌∙◌, subst, append-nil}
use Rattle.dots_host.specs.declared.event.Event.TheVariants as event
use Rattle.dots_host.specs.declared.out.OwnedOut.{OwnedOut}
use Rattle.dots_host.specs.Acts.{Timed}
use Rattle.dots_host.specs.Runs.{Turn, Added, Gives}
use Rattle.dots_host.proofs.RunLemmas.{added_weaker}
use Rattle.dots_host.specs.Media.{Media}
use Rattle.dots_host.specs.Becoming.{KeepsMedia, IsMoment}
use Rattle.dots_settings.specs.Settings.{SettingsValue}
use Rattle.dots_history.specs.declared.entry.Entry.{Entry}
use Rattle.slot_store.specs.StoreValues.{JournalValue}
use Rattle.session_core.specs.Notifying.{SentTo}
use Rattle.dots_machine.specs.Machine.{State, later, Notified}
use Rattle.dots_machine.proofs.Observing.{notified_history, notified_time}
use Rattle.dots_server.specs.ServerValues.{ServerValue, RestartsWith}
use Rattle.dots_server.specs.Turning.{Turned, Stored, LiesOn, IsStored, last_left, Chained}
use Rattle.dots_server.specs.Taking.{stored_of, Took, BrokeOff}
use Rattle.dots_server.specs.Pieces.{PieceTaken, PieceBroke}
use Rattle.dots_server.proofs.Looping.{restarts_stored}
use Rattle.dots_server.proofs.Turning.{unwritten}
use Rattle.dots_server.proofs.Chaining.{broke_as, last_more, last_from, chained_more, chained_from}

abbrev stored_by : JournalValue → List Entry → Stored
stored_by journal entries = record { journal = journal; entries = entries }

module _ (settings : SettingsValue) (conn at : ℕ) (piece : List ℕ) (state : State) (old moved : ServerValue) (entries : List Entry) (same : moved.journal ≡ old.journal) where
  abbrev now : State
  now = later state at

  -- from the state before the time moved, by the journal of then
  chained_back : (time : ℕ) (turns : List (Turn State)) (after : Stored) (media media_new : Option Media) (acts acts_new : Option (List Timed))
      → Chained settings time now (stored_of moved entries) turns after media media_new acts acts_new → Chained settings time state (stored_of old entries) turns after media media_new acts acts_new
  chained_back time turns after media media_new acts acts_new chained =
      chained_from settings time now state (stored_of old entries) turns after media media_new acts acts_new refl
      (subst (λ (j : JournalValue). Chained settings time now (stored_by j entries) turns after media media_new acts acts_new) same chained)

  module _ (taken next : ServerValue) (media there media_new : Option Media) (acts told acts_new : Option (List Timed)) (moment last : ℕ)
      (p : PieceTaken settings conn piece now moved taken entries media there acts told) (sends : List OwnedOut) (new : State) (notified : Notified settings p.rested sends new) (kept : RestartsWith next settings new p.few)
      (journal_is : next.journal ≡ taken.journal) (here : IsMoment moment there) (sent : Added told acts_new (SentTo moment last sends)) (keeps : KeepsMedia there media_new) where
    abbrev notices : Turn State
    notices = record { sends = sends; left = new }

    time_is : new.time ≡ now.time
    time_is = notified_time settings p.rested new sends notified ∙ p.time

    history_is : new.history ≡ (last_left state p.turns).history
    history_is = notified_history settings p.rested new sends notified ∙ p.left ∙ last_from now state p.turns refl

    notified_turn : Turned settings (last_left state p.turns) new sends (LiesOn settings (stored_of taken p.few)) (LiesOn settings (stored_of next p.few)) there media_new told acts_new
    notified_turn =
        subst
        (λ (j : JournalValue). Turned settings (last_left state p.turns) new sends (LiesOn settings (stored_of taken p.few)) (LiesOn settings (stored_by j p.few)) there media_new told acts_new)
        (sym journal_is)
        (unwritten settings (last_left state p.turns) new sends (LiesOn settings (stored_of taken p.few)) there media_new moment told acts_new here
        (added_weaker told acts_new (SentTo moment last sends) (Gives moment sends) sent (λ acts is. is.0)) keeps)

    pub piece_took : Took settings state (event.Piece conn piece) at old next entries media media_new acts acts_new
    piece_took = record {
      turns = p.turns ++ notices ∷ [];
      new = new;
      few = p.few;
      step = (
        p.turns ++ notices ∷ [],
        refl,
        record { answered = p.turns; rested = p.rested; fronts = p.fronts; rests = p.rests; notices = sends; notified = notified; turns_are = refl },
      );
      kept = kept;
      chained = subst (λ t. Chained settings t state (stored_of old entries) (p.turns ++ notices ∷ []) (stored_of next p.few) media media_new acts acts_new) (sym time_is)
          (chained_more settings now.time state (stored_of old entries) p.turns (stored_of taken p.few) (stored_of next p.few) notices media there media_new acts told acts_new
          (chained_back now.time p.turns (stored_of taken p.few) media there acts told p.chained) time_is ([], history_is ∙ sym (append-nil (last_left state p.turns).history))
          (subst (λ t. IsStored settings t new.history p.few) time_is (restarts_stored next settings new p.few kept)) notified_turn);
      left = sym (ap (λ (s : State). s.history) (last_more state p.turns notices));
    }

  -- the disk failed in one of its turns
  pub piece_broke_off : (media media_new : Option Media) (acts acts_new : Option (List Timed)) → PieceBroke settings conn piece now moved entries media media_new acts acts_new
      → BrokeOff settings state (event.Piece conn piece) at old entries media media_new acts acts_new
  piece_broke_off media media_new acts acts_new b =
      let back = last_from now state b.turns refl in
      record {
        turns = b.turns;
        last = b.last;
        into = (b.between, b.fronts, b.answers, b.entry, b.adds);
        steps = b.turns;
        owes = refl;
        stored = b.stored;
        there = b.there;
        told = b.told;
        chained = subst (λ t. Chained settings t state (stored_of old entries) b.turns b.stored media b.there acts b.told) (sym b.time)
            (chained_back now.time b.turns b.stored media b.there acts b.told b.chained);
        grows = (b.entry ∷ [], b.adds ∙ ap (λ (es : List Entry). es ++ b.entry ∷ []) (b.left ∙ back));
        broke = broke_as settings (last_left now b.turns) (last_left state b.turns) b.last.left b.last.left back refl refl (LiesOn settings b.stored) b.there media_new b.told acts_new b.broke;
      }
