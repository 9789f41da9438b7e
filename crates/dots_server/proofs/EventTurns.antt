-- What a datagram and a tick come to in a run.
use Rattle.std.proofs.Common.{◌≡◌, ◌≢◌, inl, inr, ℕ, Bool, true, false, List, [], ◌∷◌, ◌++◌, Option, refl, sym, ap, ◌∙◌, subst, append-nil}
use Rattle.dots_host.specs.declared.event.Event.TheVariants as event
use Rattle.dots_host.specs.declared.out.OwnedOut.{OwnedOut}
use Rattle.dots_host.specs.declared.out.OwnedOut.TheVariants as owned
use Rattle.dots_host.specs.Acts.{Timed}
use Rattle.dots_host.specs.Runs.{Turn, owed_in, each_telling, Added, Gives}
use Rattle.dots_host.proofs.RunLemmas.{added_weaker}
use Rattle.dots_host.specs.Media.{Media}
use Rattle.dots_host.specs.Becoming.{KeepsMedia, IsMoment}
use Rattle.dots_settings.specs.Settings.{SettingsValue}
use Rattle.dots_history.specs.declared.entry.Entry.{Entry}
use Rattle.slot_store.specs.StoreValues.{JournalValue}
use Rattle.slot_journal.specs.DiskEntries as journal
use Rattle.session_core.specs.Notifying.{SentTo}
use Rattle.session_core.specs.Beats.{beats}
use Rattle.dots_machine.specs.Verdict.{Verdict}
use Rattle.dots_machine.specs.declared.verdict.Verdict.TheVariants as verdict
use Rattle.dots_machine.specs.Signals.{back_of}
use Rattle.dots_machine.specs.Machine.{State, later, after, with_entry, lapsed, beating, Hears, Notified}
use Rattle.dots_machine.proofs.Fronts.{owed_then}
use Rattle.dots_machine.proofs.Hearing.{answer_time, hears_time}
use Rattle.dots_machine.proofs.Observing.{notified_history, notified_time}
use Rattle.dots_server.specs.ServerValues.{ServerValue, RestartsWith}
use Rattle.dots_server.specs.HearingPeers.{met, beaten}
use Rattle.dots_server.specs.Turning.{Turned, Wrote, Broke, Stored, LiesOn, IsStored, Grows, last_left, Chained}
use Rattle.dots_server.specs.Taking.{stored_of, Took, BrokeOff, Answered, Failing, DatagramTaken, DatagramBroke}
use Rattle.dots_server.specs.Signals.{HasLapsed, LapseBroke}
use Rattle.dots_server.proofs.Looping.{restarts_stored}
use Rattle.dots_server.proofs.Turning.{unwritten, wrote_turned}
use Rattle.dots_server.proofs.Chaining.{last_more, last_from, chained_more, chained_from, broke_as}

abbrev stored_by : JournalValue → List Entry → Stored
stored_by journal entries = record { journal = journal; entries = entries }

-- ---- a datagram

after_time : (v : Verdict) (state : State) → (after v state).time ≡ state.time
after_time verdict.Silent state = refl
after_time (verdict.Reply reply) state = refl
after_time (verdict.LongReply reply) state = refl
after_time (verdict.Retrieves x body) state = refl
after_time (verdict.Accept reply entry) state = refl

pub met_grows : (settings : SettingsValue) (heard : Bool) (peer : ℕ) (state : State) → Grows state.history (met settings heard peer state).history
met_grows settings true peer state = (back_of settings state.time state.history peer, refl)
met_grows settings false peer state = ([], sym (append-nil state.history))

-- The peer was met, and that was written.
module _ (settings : SettingsValue) (state here : State) (peer : ℕ) (datagram : List ℕ) (hears : Hears settings state peer datagram here) (grows : Grows state.history here.history)
    (old mid : ServerValue) (entries few : List Entry) (media there : Option Media) (acts told : Option (List Timed)) where
  module _ (kept : RestartsWith mid settings here few) (moment : ℕ) (at : IsMoment moment there)
      (wrote : Wrote settings state here (journal.Represents old.journal settings entries) (journal.Represents mid.journal settings few) media there acts told) where
    abbrev first : Turn State
    first = record { sends = []; left = here }

    first_turned : Turned settings state here [] (LiesOn settings (stored_of old entries)) (LiesOn settings (stored_of mid few)) media there acts told
    first_turned = wrote_turned settings state here (LiesOn settings (stored_of old entries)) (LiesOn settings (stored_of mid few)) media there moment acts told at wrote

    first_stored : IsStored settings here.time here.history few
    first_stored = restarts_stored mid settings here few kept

    -- and it was answered
    pub datagram_taken : (now : ServerValue) (media_now : Option Media) (acts_now : Option (List Timed)) → Answered settings state here peer datagram mid now few there media_now told acts_now
        → DatagramTaken settings state peer datagram old now entries media media_now acts acts_now
    datagram_taken now media_now acts_now a =
        let time_is : here.time ≡ a.new.time =
        hears_time settings peer datagram state here hears ∙ sym (answer_time settings state peer datagram a.sends a.new a.answers ∙ after_time a.answers.decided state) in
        record {
          sends = a.sends;
          new = a.new;
          few = a.few;
          answers = a.answers;
          kept = a.kept;
          steps = first ∷ (record { sends = a.sends; left = a.new }) ∷ [];
          owes = append-nil (each_telling a.new a.sends);
          chained = (
            stored_of mid few,
            there,
            told,
            time_is,
            grows,
            subst (λ t. IsStored settings t here.history few) time_is first_stored,
            first_turned,
            (
              stored_of now a.few,
              media_now,
              acts_now,
              refl,
              a.grows,
              restarts_stored now settings a.new a.few a.kept,
              a.turned,
              (refl, refl, refl),
            ),
          );
          left = refl;
        }

    -- or the disk failed while it was answered
    pub datagram_failed : (media_now : Option Media) (acts_now : Option (List Timed)) → Failing settings here peer datagram mid few there media_now told acts_now
        → DatagramBroke settings state peer datagram old entries media media_now acts acts_now
    datagram_failed media_now acts_now f = record {
      met = here;
      hears = hears;
      last = record { sends = owned.To peer f.reply ∷ []; left = with_entry here f.entry };
      cut = inr (f.reply, f.entry, f.decides, refl);
      steps = first ∷ [];
      silent = refl;
      stored = stored_of mid few;
      there = there;
      told = told;
      chained = (stored_of mid few, there, told, refl, grows, first_stored, first_turned, (refl, refl, refl));
      grows = (f.entry ∷ [], refl);
      broke = f.broke;
    }

  -- or the disk failed as it was met
  pub meeting_failed : here.history ≢ state.history → Broke settings state here (journal.Represents old.journal settings entries) media there acts told
      → DatagramBroke settings state peer datagram old entries media there acts told
  meeting_failed adds broke = record {
    met = here;
    hears = hears;
    last = record { sends = []; left = here };
    cut = inl (adds, refl);
    steps = [];
    silent = refl;
    stored = stored_of old entries;
    there = media;
    told = acts;
    chained = (refl, refl, refl);
    grows = grows;
    broke = broke;
  }

-- ---- behind the time that was moved

module _ (settings : SettingsValue) (at : ℕ) (state : State) (old moved : ServerValue) (entries : List Entry) (same : moved.journal ≡ old.journal) where
  abbrev now : State
  now = later state at

  chained_back : (time : ℕ) (turns : List (Turn State)) (after : Stored) (media media_new : Option Media) (acts acts_new : Option (List Timed))
      → Chained settings time now (stored_of moved entries) turns after media media_new acts acts_new → Chained settings time state (stored_of old entries) turns after media media_new acts acts_new
  chained_back time turns after media media_new acts acts_new chained =
      chained_from settings time now state (stored_of old entries) turns after media media_new acts acts_new refl
      (subst (λ (j : JournalValue). Chained settings time now (stored_by j entries) turns after media media_new acts acts_new) same chained)

  module _ (media media_new : Option Media) (acts acts_new : Option (List Timed)) where
    pub datagram_took : (peer : ℕ) (datagram : List ℕ) (next : ServerValue) → DatagramTaken settings now peer datagram moved next entries media media_new acts acts_new
        → Took settings state (event.Datagram peer datagram) at old next entries media media_new acts acts_new
    datagram_took peer datagram next t = record {
      turns = t.steps;
      new = t.new;
      few = t.few;
      step = (t.sends, t.owes, t.answers);
      kept = t.kept;
      chained = chained_back t.new.time t.steps (stored_of next t.few) media media_new acts acts_new t.chained;
      left = t.left ∙ last_from now state t.steps refl;
    }

    pub datagram_broke_off : (peer : ℕ) (datagram : List ℕ) → DatagramBroke settings now peer datagram moved entries media media_new acts acts_new
        → BrokeOff settings state (event.Datagram peer datagram) at old entries media media_new acts acts_new
    datagram_broke_off peer datagram b =
        let back = last_from now state b.steps refl in
        record {
          turns = [];
          last = b.last;
          into = (refl, b.met, b.hears, b.cut);
          steps = b.steps;
          owes = b.silent;
          stored = b.stored;
          there = b.there;
          told = b.told;
          chained = chained_back b.last.left.time b.steps b.stored media b.there acts b.told b.chained;
          grows = subst (λ es. Grows es b.last.left.history) back b.grows;
          broke = broke_as settings (last_left now b.steps) (last_left state b.steps) b.last.left b.last.left back refl refl (LiesOn settings b.stored) b.there media_new b.told acts_new b.broke;
        }

    -- signals that were lost were being kept at a tick
    pub tick_broke_off : LapseBroke settings now moved entries media media_new acts acts_new → BrokeOff settings state event.Tick at old entries media media_new acts acts_new
    tick_broke_off b =
        let back = last_from now state b.steps refl in
        record {
          turns = [];
          last = record { sends = []; left = lapsed settings now };
          into = (refl, b.adds, refl);
          steps = b.steps;
          owes = b.silent;
          stored = b.stored;
          there = b.there;
          told = b.told;
          chained = chained_back now.time b.steps b.stored media b.there acts b.told b.chained;
          grows = subst (λ es. Grows es (lapsed settings now).history) back b.grows;
          broke = broke_as settings (last_left now b.steps) (last_left state b.steps) (lapsed settings now) (lapsed settings now) back refl refl (LiesOn settings b.stored) b.there media_new b.told acts_new b.broke;
        }

  -- ---- a tick

  module _ (taken next : ServerValue) (media there media_new : Option Media) (acts told acts_new : Option (List Timed)) (moment last : ℕ)
      (l : HasLapsed settings now moved taken entries media there acts told) (notices : List OwnedOut) (new : State) (notified : Notified settings (lapsed settings now) notices new)
      (kept : RestartsWith next settings (beaten settings new) l.few) (journal_is : next.journal ≡ taken.journal) (here : IsMoment moment there)
      (sent : Added told acts_new (SentTo moment last (notices ++ beats (beating settings new) new.time new.contacts))) (keeps : KeepsMedia there media_new) where
    abbrev sends : List OwnedOut
    sends = notices ++ beats (beating settings new) new.time new.contacts

    abbrev left : State
    left = beaten settings new

    abbrev final : Turn State
    final = record { sends = sends; left = left }

    time_is : left.time ≡ now.time
    time_is = notified_time settings (lapsed settings now) new notices notified

    history_is : left.history ≡ (last_left state l.steps).history
    history_is = notified_history settings (lapsed settings now) new notices notified ∙ l.left ∙ last_from now state l.steps refl

    final_turn : Turned settings (last_left state l.steps) left sends (LiesOn settings (stored_of taken l.few)) (LiesOn settings (stored_of next l.few)) there media_new told acts_new
    final_turn =
        subst
        (λ (j : JournalValue). Turned settings (last_left state l.steps) left sends (LiesOn settings (stored_of taken l.few)) (LiesOn settings (stored_by j l.few)) there media_new told acts_new)
        (sym journal_is)
        (unwritten settings (last_left state l.steps) left sends (LiesOn settings (stored_of taken l.few)) there media_new moment told acts_new here
        (added_weaker told acts_new (SentTo moment last sends) (Gives moment sends) sent (λ acts is. is.0)) keeps)

    pub tick_took : Took settings state event.Tick at old next entries media media_new acts acts_new
    tick_took = record {
      turns = l.steps ++ final ∷ [];
      new = left;
      few = l.few;
      step = (
        sends,
        owed_then l.steps (final ∷ []) ∙ ap (λ owed. owed ++ owed_in (final ∷ [])) l.silent ∙ append-nil (each_telling left sends),
        record { notices = notices; between = new; notified = notified; heartbeats = beats (beating settings new) new.time new.contacts; beaten = (refl, refl); sends_are = refl },
      );
      kept = kept;
      chained = subst (λ t. Chained settings t state (stored_of old entries) (l.steps ++ final ∷ []) (stored_of next l.few) media media_new acts acts_new) (sym time_is)
          (chained_more settings now.time state (stored_of old entries) l.steps (stored_of taken l.few) (stored_of next l.few) final media there media_new acts told acts_new
          (chained_back now.time l.steps (stored_of taken l.few) media there acts told l.chained) time_is ([], history_is ∙ sym (append-nil (last_left state l.steps).history))
          (subst (λ t. IsStored settings t left.history l.few) time_is (restarts_stored next settings left l.few kept)) final_turn);
      left = sym (ap (λ (s : State). s.history) (last_more state l.steps final));
    }
