-- What is decided by a history is read from its view.
use Rattle.std.proofs.Common.{◌≡◌, ℕ, Bool, true, false, cond, not, ◌&&◌, ◌||◌, ◌==◌, List, [], ◌∷◌, ◌++◌, map, Some, None, Result, Ok, Err, refl, sym, ap, ◌∙◌, subst, inl, inr}
use Rattle.std.specs.Prelude.{option_to_list, bytes_eq}
use Rattle.std.specs.List.{list_any}
use Rattle.std.proofs.lemmas.Bool.{both_ways, cond_both, and_left, or_from, eqb-true, eq-eqb, false_from_ne_true}
use Rattle.dots_host.specs.declared.out.OwnedOut.{OwnedOut}
use Rattle.dots_settings.specs.Settings.{SettingsValue}
use Rattle.dots_history.specs.declared.entry.Entry.{Entry}
use Rattle.dots_history.specs.declared.put.Put.{Put}
use Rattle.dots_history.specs.Entries.{same_client, is_held, undoes, undoes_of_client, reconfigures, resumes}
use Rattle.dots_history.specs.Histories.{OneDomain, Calm, stays, held, alone}
use Rattle.dots_history.specs.Held.{aliases_of, acls_of, registrant, is_registered, is_of_another, config_of}
use Rattle.dots_history.specs.HistoryReading.{SaySame}
use Rattle.dots_history.specs.Rows.{is_lost_in}
use Rattle.dots_history.specs.Tables.{Client}
use Rattle.dots_history.specs.Views.{mitigations_of}
use Rattle.dots_history.proofs.HistoryReading.{read_of_view}
use Rattle.dots_history.proofs.Apart.{other_domain}
use Rattle.dots_history.proofs.Alone.{own_passes, other_dropped, far_resumes}
use Rattle.conflict_rules.specs.ByMid as by_mid
use Rattle.conflict_rules.specs.Lives.{live_of, lives_of}
use Rattle.conflict_rules.specs.LiveViews.{live_views_of, live_views_in}
use Rattle.conflict_rules.specs.Statuses.{view_with}
use Rattle.conflict_rules.specs.Requests.{Request as Wish}
use Rattle.conflict_rules.specs.Judging.{judge_put}
use Rattle.conflict_rules.specs.Judgements.{IsTaken, HasMid, IsJudged}
use Rattle.conflict_rules.specs.ByHistory.{collides, client_in, judge_request}
use Rattle.http_cut.specs.Requests.{Request as Message}
use Rattle.data_channel.specs.declared.reject.RestReject.{RestReject}
use Rattle.data_channel.specs.declared.request.RestRequest.{RestRequest}
use Rattle.data_channel.specs.Asking.{kind_of, name_of}
use Rattle.stream_table.specs.Lines.{PeerLines}
use Rattle.rest_answers.specs.declared.caller.Caller.{Caller}
use Rattle.rest_answers.specs.declared.front.RestFront.TheVariants as fronts
use Rattle.rest_answers.specs.Answer.{RestAnswer}
use Rattle.rest_answers.specs.Known.{Known, client_for, is_faulty, is_there, is_full, known_of}
use Rattle.rest_answers.specs.Answers.{rest_answer, answer_to, Answers}
use Rattle.rest_answers.specs.Turns.{RestFront, IsFront, entries_of, HttpTurn}
use Rattle.dots_machine.specs.Verdict.{Verdict}
use Rattle.dots_machine.specs.MessageRepeats.{Repeats}
use Rattle.dots_machine.specs.ConfiguredPeers.{configured_in}
use Rattle.dots_machine.specs.Facts.{Facts, IsTestOf, AreFacts, stands_as, facts_of}
use Rattle.dots_machine.specs.Machine.{State, Decides, by_silence, by_rules, for_want_of_memory, AnswersFront}
use Rattle.dots_machine.specs.OneView.{HaveOneView, ConfigureInOneDomain, AreReadAlike}
use Rattle.dots_machine.proofs.Verdicts.{are_facts, repeated_is, judged_is, taken_is, stands_is}

-- ---- what is configured in a domain

pub calm_configures : (entries : List Entry) → Calm entries → ConfigureInOneDomain entries
calm_configures [] calm = tt
calm_configures (e ∷ later) calm = (calm.1, calm_configures later calm.2)

far_undone : (domain : ℕ) (e x : Entry) → (e.domain == domain) ≡ true → (x.domain == domain) ≡ false → (reconfigures e x ≡ true → x.domain ≡ e.domain) → undoes e x ≡ false
unfolding undoes same_client
far_undone domain e x own other one =
    or_from
    (((e.domain == x.domain) && bytes_eq e.cuid x.cuid) && undoes_of_client e.change x.change)
    (reconfigures e x || resumes e x)
    (and_left ((e.domain == x.domain) && bytes_eq e.cuid x.cuid) (undoes_of_client e.change x.change)
    (and_left (e.domain == x.domain) (bytes_eq e.cuid x.cuid) (other_domain domain e x own other)))
    (or_from (reconfigures e x) (resumes e x)
    (false_from_ne_true (reconfigures e x) (λ is. both_ways (x.domain == domain) other (eq-eqb x.domain domain (one is ∙ eqb-true e.domain domain own))))
    (far_resumes e x (other_domain domain e x own other)))

undone_there : (domain : ℕ) (e : Entry) (later : List Entry) → (e.domain == domain) ≡ true → OneDomain e later → list_any (undoes e) (alone domain later) ≡ list_any (undoes e) later
undone_there domain e [] own one = refl
undone_there domain e (x ∷ later) own one =
    let go = undone_there domain e later own one.1 in
    cond_both (x.domain == domain) (x ∷ alone domain later) (alone domain later) (λ es. list_any (undoes e) es ≡ list_any (undoes e) (x ∷ later))
    (λ same. ap (λ b. undoes e x || b) go)
    (λ other. go ∙ sym (ap (λ b. b || list_any (undoes e) later) (far_undone domain e x own other one.0)))

held_there : (domain : ℕ) (entries : List Entry) → ConfigureInOneDomain entries → held (alone domain entries) ≡ alone domain (held entries)
held_there domain [] one = refl
held_there domain (e ∷ later) one =
    let go = held_there domain later one.1 in
    cond_both (e.domain == domain) (e ∷ alone domain later) (alone domain later) (λ es. held es ≡ alone domain (held (e ∷ later)))
    (λ own.
    ap (λ b. option_to_list (cond (is_held e.change && not b) (Some e) None) ++ held (alone domain later)) (undone_there domain e later own one.0)
    ∙ ap (λ es. option_to_list (cond (stays e later) (Some e) None) ++ es) go
    ∙ sym (own_passes (stays e later) domain e (held later) own))
    (λ other. go ∙ sym (other_dropped (stays e later) domain e (held later) other))

-- ---- what is known

module _ (settings : SettingsValue) (t : ℕ) (one other : List Entry) (one_view : HaveOneView settings t one other) where
  same : SaySame settings.limits.remembered t one other
  same = read_of_view settings.limits.remembered t one other one_view

  judged_alike : (domain : ℕ) (wish : Wish) → judge_request settings t one domain wish ≡ judge_request settings t other domain wish
  judged_alike domain wish =
      let client : Client = record { domain = domain; cuid = wish.cuid } in
      ap (λ ms. judge_put settings (map live_of (mitigations_of domain ms)) (client_in one client) t wish) same.live
      ∙ ap (λ standing. judge_put settings (lives_of domain t other) (record { registrant = registrant client standing; aliases = aliases_of client standing }) t wish) same.written

  taken_alike : (client : Client) (peer : ℕ) → collides t one peer client ≡ collides t other peer client
  taken_alike client peer =
      ap (λ ms. by_mid.collides (map live_of (mitigations_of client.domain ms)) peer client.cuid || is_of_another peer client (held one)) same.live
      ∙ ap (λ standing. by_mid.collides (lives_of client.domain t other) peer client.cuid || is_of_another peer client standing) same.written

  views_alike : (client : Client) → (facts_of settings t one).views client ≡ (facts_of settings t other).views client
  views_alike client =
      ap (λ standing. map (view_with (is_lost_in standing) client.domain) (live_views_in client.domain client.cuid t one)) same.written
      ∙ ap (λ ms. map (view_with (is_lost_in (held other)) client.domain) (live_views_of t client.cuid (mitigations_of client.domain ms))) same.live

  -- all but what is configured
  pub rest_alike : (facts : Facts) → AreFacts settings t one facts → AreFacts settings t other (record facts { configured = configured_in other })
  rest_alike facts are =
      let read : AreFacts settings t other (facts_of settings t other) = are_facts settings t other in record {
        time = are.time;
        repeated = λ sent. subst (Repeats settings.limits.remembered t other sent)
            (sym (repeated_is settings t one facts are sent ∙ same.replies sent.peer sent.domain sent.id)) (read.repeated sent);
        judged = λ domain wish. subst (IsJudged settings t other (record { domain = domain; cuid = wish.cuid }) wish)
            (sym (judged_is settings t one facts are domain wish ∙ judged_alike domain wish)) (read.judged domain wish);
        taken = λ client peer. subst (λ b. IsTestOf b (IsTaken t other client peer))
            (sym (taken_is settings t one facts are client peer ∙ taken_alike client peer)) (read.taken client peer);
        stands = λ client mid. subst (λ b. IsTestOf b ((put : Put) × HasMid t other client mid put))
            (sym (stands_is settings t one facts are client mid ∙ ap (list_any (stands_as mid)) (views_alike client))) (read.stands client mid);
        views = λ client. are.views client ∙ views_alike client;
        configured = λ domain peer. refl;
      }

  -- ---- what is answered to a request of the data channel

  known_alike : (caller : Caller) (asked : RestRequest) → known_of settings t one caller asked ≡ known_of settings t other caller asked
  known_alike caller asked =
      let client = client_for caller asked in
      ap (λ taken. record {
        time = t;
        facts = record {
          fault = is_faulty settings caller.domain asked;
          taken = taken;
          registered = is_registered client (held one);
          there = is_there (kind_of asked) (name_of asked) client (held one);
          full = is_full settings.limits (kind_of asked) client (held one);
        };
        aliases = aliases_of client (held one);
        acls = acls_of client (held one);
      }) (taken_alike client caller.peer)
      ∙ ap (λ standing. record {
        time = t;
        facts = record {
          fault = is_faulty settings caller.domain asked;
          taken = collides t other caller.peer client;
          registered = is_registered client standing;
          there = is_there (kind_of asked) (name_of asked) client standing;
          full = is_full settings.limits (kind_of asked) client standing;
        };
        aliases = aliases_of client standing;
        acls = acls_of client standing;
      }) same.written

  answered_alike : (caller : Caller) (close : Bool) (read : Result RestRequest RestReject) → answer_to settings t one caller close read ≡ answer_to settings t other caller close read
  answered_alike caller close (Ok asked) = ap (λ (known : Known). rest_answer known caller close asked) (known_alike caller asked)
  answered_alike caller close (Err rejected) = refl

  pub answers_alike : (caller : Caller) (message : Message) (answered : RestAnswer) → Answers settings t one caller message answered → Answers settings t other caller message answered
  answers_alike caller message answered (inl x) = inl (x.0, x.1, x.2 ∙ answered_alike caller message.close x.0)
  answers_alike caller message answered (inr lacks) = inr lacks

  front_alike : (caller : Caller) (held_now : List ℕ) (at : RestFront) → IsFront settings t one caller held_now at → IsFront settings t other caller held_now at
  front_alike caller held_now fronts.Waits x = x
  front_alike caller held_now (fronts.Refused fault) x = x
  front_alike caller held_now (fronts.Answered size close answered) x = (x.0, x.1, x.2, x.3, answers_alike caller x.0 answered x.4)

  pub turn_alike : (conn : ℕ) (lines : List PeerLines) (sends : List OwnedOut) (after : List Entry) (behind : List PeerLines) (x : HttpTurn settings conn t one lines sends after behind)
      → HttpTurn settings conn t other lines sends (other ++ entries_of x.front) behind
  turn_alike conn lines sends after behind x = record {
    caller = x.caller;
    asks = x.asks;
    line = x.line;
    there = x.there;
    front = x.front;
    stands = front_alike x.caller x.line.buffered x.front x.stands;
    due = x.due;
    sends_are = x.sends_are;
    history_is = refl;
    lines_are = x.lines_are;
  }

-- ---- and what is configured

pub facts_alike : (settings : SettingsValue) (t : ℕ) (one other : List Entry) (facts : Facts) → AreReadAlike settings t one other → AreFacts settings t one facts → AreFacts settings t other facts
facts_alike settings t one other facts alike are =
    let rest = rest_alike settings t one other alike.one_view facts are in record {
      time = rest.time;
      repeated = rest.repeated;
      judged = rest.judged;
      taken = rest.taken;
      stands = rest.stands;
      views = rest.views;
      configured = λ domain peer.
          are.configured domain peer
          ∙ ap (config_of peer) (held_there domain one alike.one_configures)
          ∙ ap (λ standing. config_of peer (alone domain standing)) (same settings t one other alike.one_view).written
          ∙ ap (config_of peer) (sym (held_there domain other alike.other_configures));
    }

-- ---- what is decided

pub decides_alike : (settings : SettingsValue) (old other : State) (peer : ℕ) (datagram : List ℕ) (decided : Verdict) → old.time ≡ other.time
    → AreReadAlike settings old.time old.history other.history → Decides settings old peer datagram decided → Decides settings other peer datagram decided
decides_alike settings old other peer datagram decided time alike (by_silence unknown is) = by_silence unknown is
decides_alike settings old other peer datagram decided time alike (for_want_of_memory known lacks) = for_want_of_memory known lacks
decides_alike settings old other peer datagram decided time alike (by_rules known got is rules) = by_rules known got is (
  rules.0,
  subst (λ t. AreFacts settings t other.history rules.0) time (facts_alike settings old.time old.history other.history rules.0 alike rules.1),
  rules.2,
)

pub fronts_alike : (settings : SettingsValue) (conn : ℕ) (old other : State) (sends : List OwnedOut) (new : State) → old.time ≡ other.time → old.lines ≡ other.lines
    → HaveOneView settings old.time old.history other.history → AnswersFront settings conn old sends new
    → (extra : List Entry) × (new.history ≡ old.history ++ extra)
    × AnswersFront settings conn other sends (record other { history = other.history ++ extra; lines = new.lines })
fronts_alike settings conn old other sends new time lines one_view x =
    let extra : List Entry = entries_of x.2.front in
    let with_lines : List Entry → List PeerLines → State = λ history lines. record other { history = history; lines = lines } in (
      extra,
      ap (λ (state : State). state.history) x.3 ∙ x.2.history_is,
      (
        other.history ++ extra,
        x.1,
        subst (λ t. HttpTurn settings conn t other.history other.lines sends (other.history ++ extra) x.1) time
            (subst (λ ls. HttpTurn settings conn old.time other.history ls sends (other.history ++ extra) x.1) lines
            (turn_alike settings old.time old.history other.history one_view conn old.lines sends x.0 x.1 x.2)),
        ap (with_lines (other.history ++ extra)) (ap (λ (state : State). state.lines) x.3),
      ),
    )
