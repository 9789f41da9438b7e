-- Any two steps of one state on one event are one, but for want of memory, or where a connection is refused early.
use Rattle.std.proofs.Common.{◌≡◌, ◌⊎◌, inl, inr, ℕ, ◌+◌, ◌<◌, Bool, true, false, List, [], ◌∷◌, ◌++◌, length, refl, sym, ◌∙◌, ap, subst, arith}
use Rattle.std.proofs.lemmas.List.{get_or-append-add, length-append}
use Rattle.std.proofs.lemmas.Bool.{false≢true}
use Rattle.dots_host.specs.declared.event.Event.{Event}
use Rattle.dots_host.specs.declared.event.Event.TheVariants as event
use Rattle.dots_host.specs.declared.out.OwnedOut.{OwnedOut}
use Rattle.dots_host.specs.Runs.{outs_of, each_telling}
use Rattle.dots_host.proofs.RunLemmas.{outs_back}
use Rattle.cbor_profile.proofs.WholeReading.{short_bytes, same_reading, same_front, one_fault, not_spelled}
use Rattle.coap_message.specs.Message.{CoapMessage, header, options_bytes, payload_bytes, spelling}
use Rattle.dots_keys.proofs.OneMeaning.{OneReading}
use Rattle.dots_settings.specs.Settings.{SettingsValue}
use Rattle.dots_machine.specs.declared.received.Received.{Received}
use Rattle.stream_table.specs.Lines.{opening}
use Rattle.dots_machine.specs.Verdict.{Verdict}
use Rattle.dots_settings.specs.Lookups.{role_of}
use Rattle.dots_machine.specs.Domains.{is_gateway, is_stranger}
use Rattle.dots_machine.specs.Requests.{IsReceived}
use Rattle.dots_machine.specs.Observing.{number_of}
use Rattle.dots_machine.specs.Machine.{State, later, restarted, LacksMemory, Decides, by_silence, by_rules, for_want_of_memory, sends_of, after, watched, Notified, Answers, Ticks, connected, disconnected, turned_away, receiving, Takes, Step, facts_in, rules_say}
use Rattle.dots_machine.specs.Answering.{AreBytes, IsHandedIn, SaysUnavailable, ComesFrom, HaveOneAnswer, PartWays, Differ}
use Rattle.dots_machine.proofs.OneRequest.{one_received}
use Rattle.dots_machine.proofs.Verdicts.{valued}
use Rattle.dots_machine.proofs.Hearing.{hears_once, left}
use Rattle.dots_machine.proofs.Observing.{watches_once}
use Rattle.dots_machine.proofs.Fronts.{outs_in, takes_outs}
use Rattle.dots_machine.proofs.FrontsAlike.{AreAlike, fronts_once}

-- ---- the payload is a part of the datagram

behind : (front back : List ℕ) → AreBytes (front ++ back) → AreBytes back
behind front back are = (
  λ i. subst (λ n. n < 256) (get_or-append-add front back i 0) (are.0 (length front + i)),
  omega (arith, are.1, length-append front back),
)

after_marker : (payload : List ℕ) → AreBytes (payload_bytes payload) → AreBytes payload
after_marker [] are = are
after_marker (b ∷ bs) are = behind (0xff ∷ []) (b ∷ bs) are

pub payload_are_bytes : (datagram : List ℕ) (m : CoapMessage) → datagram ≡ spelling m → AreBytes datagram → AreBytes m.payload
payload_are_bytes datagram m is are =
    after_marker m.payload (behind (header m.kind m.code m.identifier m.token ++ options_bytes 0 m.options) (payload_bytes m.payload) (subst AreBytes is are))

pub reads_once : (payload : List ℕ) → AreBytes payload → OneReading payload
reads_once payload are =
    let image_has = short_bytes payload are.0 are.1 in
    record {
      spelling = λ s t a b x y one other same.
          let found = same_reading a b x y s t 16 one.1 other.1 same in
          (same_front a b x y found.1 same, found.0, found.1);
      fault = λ f g a b. one_fault payload f g image_has a b;
      not_both = λ front rest tree f is spelled breaks. not_spelled payload front rest tree f image_has is spelled breaks;
    }

-- ---- one verdict

true_false : (b : Bool) → b ≡ true → b ≡ false → ⊥
true_false b t f = false≢true (sym f ∙ t)

module _ (settings : SettingsValue) (state : State) (peer : ℕ) (datagram : List ℕ) (are : AreBytes datagram) where
  abbrev gateway : Bool
  gateway = is_gateway (role_of settings peer)

  pub one_thing : (got other : Received) → IsReceived datagram gateway got → IsReceived datagram gateway other → got ≡ other
  one_thing got other is also =
      one_received datagram gateway got other (λ message spelled. reads_once message.payload (payload_are_bytes datagram message spelled are)) is also

  pub one_verdict : (v w : Verdict) → Decides settings state peer datagram v → Decides settings state peer datagram w
      → (v ≡ w) ⊎ (LacksMemory datagram gateway v ⊎ LacksMemory datagram gateway w)
  one_verdict v w (for_want_of_memory n lacks) e = inr (inl lacks)
  one_verdict v w (by_silence n is) (for_want_of_memory m lacks) = inr (inr lacks)
  one_verdict v w (by_rules n got received is) (for_want_of_memory m lacks) = inr (inr lacks)
  one_verdict v w (by_silence n is) (by_silence m at) = inl (is ∙ sym at)
  one_verdict v w (by_silence n is) (by_rules m got received at) = absurd (true_false (is_stranger (role_of settings peer)) n m)
  one_verdict v w (by_rules n got received is) (by_silence m at) = absurd (true_false (is_stranger (role_of settings peer)) m n)
  one_verdict v w (by_rules n got received is) (by_rules m other also at) =
      inl (valued settings state peer got v is ∙ ap (rules_say settings (facts_in settings state) peer) (one_thing got other received also)
      ∙ sym (valued settings state peer other w at))

module _ (settings : SettingsValue) (state : State) (peer : ℕ) (datagram : List ℕ) (are : AreBytes datagram) where
  -- 5.00 is answered, for want of memory
  pub says : (sends : List OwnedOut) (new : State) (a : Answers settings state peer datagram sends new) → LacksMemory datagram (is_gateway (role_of settings peer)) a.decided → SaysUnavailable peer datagram sends
  says sends new a lacks = record {
    message = lacks.message;
    spelled = lacks.spelled;
    notices = a.notices;
    sent = a.sends_are ∙ ap (λ replies. replies ++ a.notices) (a.replies_are ∙ ap (λ v. sends_of (number_of settings a.asked a.met.observers) v peer) lacks.answer);
  }

  -- two answers of one verdict reply the same, and leave the same to be told
  module _ (sends others : List OwnedOut) (new last : State) (a : Answers settings state peer datagram sends new) (b : Answers settings state peer datagram others last) (same : a.decided ≡ b.decided) where
    asked_is : a.asked ≡ b.asked
    asked_is = watches_once settings peer datagram a.asked b.asked a.watches b.watches

    met_is : a.met ≡ b.met
    met_is = hears_once settings peer datagram state a.met b.met a.hears b.hears

    pub same_replies : a.replies ≡ b.replies
    same_replies =
        a.replies_are ∙ ap (λ asked. sends_of (number_of settings asked a.met.observers) a.decided peer) asked_is
        ∙ ap (λ (met : State). sends_of (number_of settings b.asked met.observers) a.decided peer) met_is
        ∙ ap (λ v. sends_of (number_of settings b.asked b.met.observers) v peer) same ∙ sym b.replies_are

    pub same_left : left settings state peer datagram sends new a ≡ left settings state peer datagram others last b
    same_left =
        ap (λ asked. watched settings peer asked a.decided a.replies (after a.decided a.met)) asked_is
        ∙ ap (λ met. watched settings peer b.asked a.decided a.replies (after a.decided met)) met_is
        ∙ ap (λ replies. watched settings peer b.asked a.decided replies (after a.decided b.met)) same_replies
        ∙ ap (λ v. watched settings peer b.asked v b.replies (after v b.met)) same

  pub answered : (sends others : List OwnedOut) (new last : State) → Answers settings state peer datagram sends new → Answers settings state peer datagram others last
      → HaveOneAnswer settings (event.Datagram peer datagram) sends new others last ⊎ (SaysUnavailable peer datagram sends ⊎ SaysUnavailable peer datagram others)
  answered sends others new last a b =
      by_verdicts (one_verdict settings b.met peer datagram are a.decided b.decided
      (subst (λ met. Decides settings met peer datagram a.decided) (hears_once settings peer datagram state a.met b.met a.hears b.hears) a.decides) b.decides)
    where
      by_verdicts : (a.decided ≡ b.decided) ⊎ (LacksMemory datagram (is_gateway (role_of settings peer)) a.decided ⊎ LacksMemory datagram (is_gateway (role_of settings peer)) b.decided)
          → HaveOneAnswer settings (event.Datagram peer datagram) sends new others last ⊎ (SaysUnavailable peer datagram sends ⊎ SaysUnavailable peer datagram others)
      by_verdicts (inl same) = inl (record {
        replies = b.replies;
        state = left settings state peer datagram others last b;
        one = (
          a.notices,
          a.sends_are ∙ ap (λ replies. replies ++ a.notices) (same_replies sends others new last a b same),
          subst (λ from. Notified settings from a.notices new) (same_left sends others new last a b same) a.notified,
        );
        another = (b.notices, b.sends_are, b.notified);
      })
      by_verdicts (inr (inl lacks)) = inr (inl (says sends new a lacks))
      by_verdicts (inr (inr lacks)) = inr (inr (says others last b lacks))

module _ (settings : SettingsValue) (what : Event) (owed others : List (State × OwnedOut)) (new last : State) where
  abbrev OneOf : Type 0
  OneOf = HaveOneAnswer settings what (outs_of owed) new (outs_of others) last

  -- both come from the same replies in the same state
  both_from : (replies : List OwnedOut) (state : State) → ComesFrom settings what replies state (outs_of owed) new → ComesFrom settings what replies state (outs_of others) last → OneOf
  both_from replies state one another = record { replies = replies; state = state; one = one; another = another }

sends_back : (owed : List (State × OwnedOut)) (new : State) (sends : List OwnedOut) → owed ≡ each_telling new sends → outs_of owed ≡ sends
sends_back owed new sends is = ap outs_of is ∙ outs_back new sends

pub one_answer : (settings : SettingsValue) (old : State) (event : Event) (at : ℕ) (owed others : List (State × OwnedOut)) (new last : State) → IsHandedIn event
    → Step settings old event at owed new → Step settings old event at others last
    → HaveOneAnswer settings event (outs_of owed) new (outs_of others) last ⊎ Differ settings (later old at) event (outs_of owed) (outs_of others)
one_answer settings old (event.Datagram peer datagram) at owed others new last are a b =
    subst (λ sends. HaveOneAnswer settings (event.Datagram peer datagram) sends new (outs_of others) last ⊎ (SaysUnavailable peer datagram sends ⊎ SaysUnavailable peer datagram (outs_of others)))
    (sym (sends_back owed new a.0 a.1))
    (subst (λ sends. HaveOneAnswer settings (event.Datagram peer datagram) a.0 new sends last ⊎ (SaysUnavailable peer datagram a.0 ⊎ SaysUnavailable peer datagram sends))
    (sym (sends_back others last b.0 b.1)) (answered settings (later old at) peer datagram are a.0 b.0 new last a.2 b.2))
one_answer settings old event.End at owed others new last are a b =
    inl (both_from settings event.End owed others new last [] old (refl, ap outs_of a.0, a.1) (refl, ap outs_of b.0, b.1))
one_answer settings old event.Failed at owed others new last are a b =
    inl (both_from settings event.Failed owed others new last [] old (refl, ap outs_of a.0, a.1) (refl, ap outs_of b.0, b.1))
one_answer settings old (event.Opened c p) at owed others new last are a b =
    inl (both_from settings (event.Opened c p) owed others new last (turned_away c (opening p c old.lines)) (connected p c (later old at))
    (sends_back owed new a.0 a.1 ∙ a.2.0, a.2.1)
    (sends_back others last b.0 b.1 ∙ b.2.0, b.2.1))
one_answer settings old (event.Piece c p) at owed others new last are a b = by_fronts (fronts_once settings c state x.answered y.answered x.rested y.rested x.notices y.notices x.fronts x.rests y.fronts y.rests)
  where
    state : State
    state = receiving c p (later old at)

    x : Takes settings c state a.0 new
    x = a.2

    y : Takes settings c state b.0 last
    y = b.2

    first : outs_of owed ≡ outs_in x.answered ++ x.notices
    first = ap outs_of a.1 ∙ takes_outs settings c state a.0 new x

    second : outs_of others ≡ outs_in y.answered ++ y.notices
    second = ap outs_of b.1 ∙ takes_outs settings c state b.0 last y

    by_fronts : AreAlike settings c state x.answered y.answered x.rested y.rested x.notices y.notices
        → HaveOneAnswer settings (event.Piece c p) (outs_of owed) new (outs_of others) last ⊎ PartWays settings c state (outs_of owed) (outs_of others)
    by_fronts (inl same) =
        inl (both_from settings (event.Piece c p) owed others new last (outs_in y.answered) y.rested
        (x.notices, first ∙ ap (λ turns. outs_in turns ++ x.notices) same.0, subst (λ from. Notified settings from x.notices new) same.1 x.notified)
        (y.notices, second, y.notified))
    by_fronts (inr part) =
        inr (subst (λ sends. PartWays settings c state sends (outs_of others)) (sym first) (subst (PartWays settings c state (outs_in x.answered ++ x.notices)) (sym second) part))
one_answer settings old (event.Closed c) at owed others new last are a b =
    inl (both_from settings (event.Closed c) owed others new last [] (disconnected c (later old at)) (refl, ap outs_of a.0, a.1) (refl, ap outs_of b.0, b.1))
one_answer settings old event.Tick at owed others new last are a b =
    inl (both_from settings event.Tick owed others new last [] (later old at)
    (refl, subst (λ sends. Ticks settings (later old at) sends new) (sym (sends_back owed new a.0 a.1)) a.2)
    (refl, subst (λ sends. Ticks settings (later old at) sends last) (sym (sends_back others last b.0 b.1)) b.2))
one_answer settings old event.Restart at owed others new last are a b =
    inl (both_from settings event.Restart owed others new last [] (restarted settings old at) (refl, ap outs_of a.0, a.1) (refl, ap outs_of b.0, b.1))
