-- The turns of a piece of a connection, one after the other.
use Rattle.std.proofs.Common.{◌≡◌, ℕ, inl, inr, true, List, [], ◌∷◌, ◌++◌, Option, refl, sym, ap, ◌∙◌, subst, append-nil}
use Rattle.std.specs.List.{list_all}
use Rattle.dots_host.specs.declared.out.OwnedOut.{OwnedOut}
use Rattle.dots_host.specs.Acts.{Timed}
use Rattle.dots_host.specs.Runs.{Turn, Chain}
use Rattle.dots_host.specs.Media.{Media}
use Rattle.slot_store.proofs.Steps.{leaves_as}
use Rattle.dots_settings.specs.Settings.{SettingsValue}
use Rattle.dots_history.specs.declared.entry.Entry.{Entry}
use Rattle.dots_history.specs.Calm.{is_own}
use Rattle.slot_store.specs.StoreValues.{JournalValue}
use Rattle.slot_journal.specs.Kept.{HasKept}
use Rattle.rest_answers.specs.Turns.{entries_of}
use Rattle.dots_machine.specs.Machine.{State, AnswersFront, receiving}
use Rattle.dots_machine.proofs.Fronts.{front_history, front_time}
use Rattle.dots_server.specs.ServerValues.{ServerValue, RestartsWith}
use Rattle.dots_server.specs.Turning.{HasTurn, Turned, Broke, Stored, LiesOn, IsStored, Grows, last_left, Chained}
use Rattle.dots_server.specs.Taking.{stored_of}
use Rattle.dots_server.specs.Pieces.{FrontRests, FrontBroke, PieceAnswered, TurnsTaken, PieceTaken, PieceBroke}
use Rattle.dots_server.proofs.Looping.{restarts_stored}
use Rattle.dots_server.proofs.Turning.{broke_more}

-- ---- a turn from other states with these histories

module _ (settings : SettingsValue) (one other new now : State) (was : one.history ≡ other.history) (is : new.history ≡ now.history) (time : new.time ≡ now.time) where
  as_held : (image : ℕ → ℕ) → HasTurn settings one new image → HasTurn settings other now image
  as_held image (inl holds) =
      inl (subst (λ t. HasKept settings settings.limits.remembered t other.history image) time (subst (λ es. HasKept settings settings.limits.remembered new.time es image) was holds))
  as_held image (inr holds) =
      inr (subst (λ t. HasKept settings settings.limits.remembered t now.history image) time (subst (λ es. HasKept settings settings.limits.remembered new.time es image) is holds))

  module _ (Before : (ℕ → ℕ) → Type 0) (media media_new : Option Media) (acts acts_new : Option (List Timed)) where
    pub turned_as : (outs : List OwnedOut) (After : (ℕ → ℕ) → Type 0) → Turned settings one new outs Before After media media_new acts acts_new
        → Turned settings other now outs Before After media media_new acts acts_new
    turned_as outs After turned = record {
      between = turned.between;
      moment = turned.moment;
      is_moment = turned.is_moment;
      gives = turned.gives;
      writes = λ rests. leaves_as media turned.between (HasTurn settings one new) (HasTurn settings other now) as_held (turned.writes rests);
      rests = turned.rests;
      sends = turned.sends;
    }

    pub broke_as : Broke settings one new Before media media_new acts acts_new → Broke settings other now Before media media_new acts acts_new
    broke_as broke =
        broke_more settings one other new now was time ([], sym is ∙ sym (append-nil new.history)) (subst (λ es. list_all (is_own settings) es ≡ true) is broke.own) Before media media_new acts acts_new broke

-- ---- one turn more

chain_more : (makes : State → List OwnedOut → State → Type 0) (old between : State) (turns : List (Turn State)) (turn : Turn State) → Chain makes old turns between → makes between turn.sends turn.left
    → Chain makes old (turns ++ turn ∷ []) turn.left
chain_more makes old between [] turn chain made = (subst (λ (s : State). makes s turn.sends turn.left) chain made, refl)
chain_more makes old between (first ∷ turns) turn chain made = (chain.0, chain_more makes first.left between turns turn chain.1 made)

pub last_more : (old : State) (turns : List (Turn State)) (turn : Turn State) → last_left old (turns ++ turn ∷ []) ≡ turn.left
last_more old [] turn = refl
last_more old (first ∷ turns) turn = last_more first.left turns turn

-- the turns lead to the same history, whatever else is in the state before them
pub last_from : (one other : State) (turns : List (Turn State)) → one.history ≡ other.history → (last_left one turns).history ≡ (last_left other turns).history
last_from one other [] same = same
last_from one other (first ∷ turns) same = refl

module _ (settings : SettingsValue) (time : ℕ) where
  pub chained_more : (old : State) (stored : Stored) (turns : List (Turn State)) (middle between : Stored) (turn : Turn State) (media there media_new : Option Media) (acts told acts_new : Option (List Timed))
      → Chained settings time old stored turns middle media there acts told → turn.left.time ≡ time → Grows (last_left old turns).history turn.left.history
      → IsStored settings time turn.left.history between.entries
      → Turned settings (last_left old turns) turn.left turn.sends (LiesOn settings middle) (LiesOn settings between) there media_new told acts_new
      → Chained settings time old stored (turns ++ turn ∷ []) between media media_new acts acts_new
  chained_more old stored [] middle between turn media there media_new acts told acts_new chained time_is grows is turned = (
    between,
    media_new,
    acts_new,
    time_is,
    grows,
    is,
    subst (λ (s : Stored). Turned settings old turn.left turn.sends (LiesOn settings s) (LiesOn settings between) media media_new acts acts_new) chained.0
        (subst (λ m. Turned settings old turn.left turn.sends (LiesOn settings middle) (LiesOn settings between) m media_new acts acts_new) chained.1
        (subst (λ a. Turned settings old turn.left turn.sends (LiesOn settings middle) (LiesOn settings between) there media_new a acts_new) chained.2 turned)),
    (refl, refl, refl),
  )
  chained_more old stored (first ∷ turns) middle between turn media there media_new acts told acts_new chained time_is grows is turned =
      let (after, at, given, first_time, first_grows, first_is, first_turned, rest) = chained in (
        after,
        at,
        given,
        first_time,
        first_grows,
        first_is,
        first_turned,
        chained_more first.left after turns middle between turn at there media_new given told acts_new rest time_is grows is turned,
      )

  -- from another state with this history
  pub chained_from : (one other : State) (stored : Stored) (turns : List (Turn State)) (after : Stored) (media media_new : Option Media) (acts acts_new : Option (List Timed)) → one.history ≡ other.history
      → Chained settings time one stored turns after media media_new acts acts_new → Chained settings time other stored turns after media media_new acts acts_new
  chained_from one other stored [] after media media_new acts acts_new same chained = chained
  chained_from one other stored (turn ∷ turns) after media media_new acts acts_new same chained =
      let (between, there, told, time_is, grows, is, turned, rest) = chained in (
        between,
        there,
        told,
        time_is,
        subst (λ es. Grows es turn.left.history) same grows,
        is,
        turned_as settings one other turn.left turn.left same refl refl (LiesOn settings stored) media there acts told turn.sends (LiesOn settings between) turned,
        rest,
      )

-- ---- the turns of a piece

module _ (settings : SettingsValue) (conn : ℕ) (piece : List ℕ) (state : State) (old : ServerValue) (entries : List Entry) (media : Option Media) (acts : Option (List Timed)) where
  pub none_taken : RestartsWith old settings state entries → TurnsTaken settings conn piece piece state old old entries media media acts acts
  none_taken kept = record { turns = []; reached = state; few = entries; fronts = refl; kept = kept; chained = (refl, refl, refl); time = refl; left = refl }

  module _ (rest : List ℕ) (now next : ServerValue) (there media_new : Option Media) (told acts_new : Option (List Timed))
      (so_far : TurnsTaken settings conn piece rest state old now entries media there acts told) where
    pub one_taken : (left : List ℕ) → PieceAnswered settings conn rest left so_far.reached now next so_far.few there media_new told acts_new
        → TurnsTaken settings conn piece left state old next entries media media_new acts acts_new
    one_taken left one =
        let from = receiving conn rest so_far.reached in
        let to = receiving conn left one.new in
        let turn : Turn State = record { sends = one.sends; left = to } in
        let answers : AnswersFront settings conn from one.sends to = one.answers in
        let time_is : one.new.time ≡ state.time = front_time settings conn from one.sends to answers ∙ so_far.time in
        let grown : Grows so_far.reached.history one.new.history = (entries_of answers.2.front, front_history settings conn from one.sends to answers) in
        record {
          turns = so_far.turns ++ turn ∷ [];
          reached = one.new;
          few = one.few;
          fronts = chain_more (AnswersFront settings conn) (receiving conn piece state) from so_far.turns turn so_far.fronts answers;
          kept = one.kept;
          chained = chained_more settings state.time state (stored_of old entries) so_far.turns (stored_of now so_far.few) (stored_of next one.few) turn media there media_new acts told acts_new so_far.chained time_is
              (subst (λ es. Grows es one.new.history) so_far.left grown)
              (subst (λ t. IsStored settings t one.new.history one.few) time_is (restarts_stored next settings one.new one.few one.kept))
              (turned_as settings so_far.reached (last_left state so_far.turns) one.new to so_far.left refl refl (LiesOn settings (stored_of now so_far.few)) there media_new told acts_new one.sends
              (LiesOn settings (stored_of next one.few)) one.turned);
          time = time_is;
          left = sym (ap (λ (s : State). s.history) (last_more state so_far.turns turn));
        }

    -- the connection rests behind them
    pub whole_taken : FrontRests settings conn (receiving conn rest so_far.reached) now next so_far.few there media_new told acts_new
        → PieceTaken settings conn piece state old next entries media media_new acts acts_new
    whole_taken rests = record {
      turns = so_far.turns;
      rested = receiving conn rest so_far.reached;
      few = so_far.few;
      fronts = so_far.fronts;
      rests = rests.rests;
      kept = rests.kept;
      chained = subst (λ (j : JournalValue). Chained settings state.time state (stored_of old entries) so_far.turns (record { journal = j; entries = so_far.few }) media media_new acts acts_new) (sym rests.written)
          (subst (λ m. Chained settings state.time state (stored_of old entries) so_far.turns (stored_of now so_far.few) media m acts acts_new) (sym rests.still)
          (subst (λ a. Chained settings state.time state (stored_of old entries) so_far.turns (stored_of now so_far.few) media there acts a) (sym rests.silent) so_far.chained));
      time = so_far.time;
      left = so_far.left;
    }

    -- the disk failed in the turn behind them
    pub broke_taken : FrontBroke settings conn (receiving conn rest so_far.reached) now so_far.few there media_new told acts_new
        → PieceBroke settings conn piece state old entries media media_new acts acts_new
    broke_taken broke =
        let from = receiving conn rest so_far.reached in
        let answers : AnswersFront settings conn from broke.sends broke.new = broke.answers in
        record {
          turns = so_far.turns;
          between = from;
          last = record { sends = broke.sends; left = broke.new };
          fronts = so_far.fronts;
          answers = answers;
          entry = broke.entry;
          adds = broke.adds;
          stored = stored_of now so_far.few;
          there = there;
          told = told;
          chained = so_far.chained;
          time = front_time settings conn from broke.sends broke.new answers ∙ so_far.time;
          left = so_far.left;
          broke = broke_as settings from (last_left state so_far.turns) broke.new broke.new so_far.left refl refl (LiesOn settings (stored_of now so_far.few)) there media_new told acts_new broke.broke;
        }
