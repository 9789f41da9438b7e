-- What the steps of a client leave of its requests and of its ledger.
use Rattle.std.proofs.Common.{◌≡◌, ◌⊎◌, inl, inr, ℕ, ◌==◌, Bool, true, false, cond, nat_lt, List, [], ◌∷◌, ◌++◌, find, Contains, Option, Some, None, option_map, refl, sym, ap, ◌∙◌, subst}
use Rattle.std.specs.Int.{w64, to_be_bytes}
use Rattle.std.specs.List.{list_any}
use Rattle.std.proofs.lemmas.Option.{none-some, same_Some}
use Rattle.std.proofs.lemmas.Slice.Eq.{bytes_eq-Decides}
use Rattle.coap_exchange.specs.Firsts.{replace_first, without_first}
use Rattle.coap_exchange.specs.Sent.{is_due, may_repeat}
use Rattle.coap_message.specs.Message.{CoapMessage, IsMessage, spelling}
use Rattle.dots_client.specs.declared.granted.Granted.{Granted}
use Rattle.dots_client.specs.declared.heard.Heard.{Heard}
use Rattle.dots_client.specs.declared.heard.Heard.TheVariants as heard
use Rattle.dots_client.specs.declared.request.Request.{Request}
use Rattle.dots_client.specs.Answers.{GrantsMid}
use Rattle.dots_client.specs.Client.{ClientValue, WaitingValue, is_unsent, handed_out, again, bytes_of, repeat_answer, repeat_after, due_after, tick_answer, tick_after, milliseconds}
use Rattle.dots_client.specs.Receiving.{Receives, Answers, Yields, waits_by, granted_row}
use Rattle.dots_client.specs.Ledger.{with_row}
use Rattle.dots_world.specs.Worlds.{Drains}
use Rattle.dots_world.proofs.Lists.{not_in_none, contains_first, contains_more, contains_cases, filtered, found_in}

-- ---- less of a client

-- the same request, with the same message
pub record SameRequest (v w : WaitingValue) : Type 0 where
  pub number : v.request.number ≡ w.request.number
  pub mid : v.request.mid ≡ w.request.mid
  pub scope : v.request.scope ≡ w.request.scope
  pub bytes : v.sent.bytes ≡ w.sent.bytes

pub same_request : (w : WaitingValue) → SameRequest w w
same_request w = record { number = refl; mid = refl; scope = refl; bytes = refl }

abbrev pub Waited : List WaitingValue → WaitingValue → Type 0
Waited ws w = (v : WaitingValue) × Contains ws v × SameRequest v w

abbrev pub AreLess : List WaitingValue → List WaitingValue → Type 0
AreLess ws vs = (w : WaitingValue) → Contains vs w → Waited ws w

pub record IsLess (old new : ClientValue) : Type 0 where
  pub cuid : new.cuid ≡ old.cuid
  pub number : new.number ≡ old.number
  pub mid : new.mid ≡ old.mid
  pub waiting : AreLess old.waiting new.waiting
  pub rows : (row : Granted) → Contains new.ledger row → Contains old.ledger row

pub all_less : (ws : List WaitingValue) → AreLess ws ws
all_less ws w there = (w, there, same_request w)

none_less : AreLess [] []
none_less = all_less []

pub same_less : (k : ClientValue) → IsLess k k
same_less k = record { cuid = refl; number = refl; mid = refl; waiting = all_less k.waiting; rows = λ row there. there }

also_request : (u v w : WaitingValue) → SameRequest u v → SameRequest v w → SameRequest u w
also_request u v w a b = record { number = a.number ∙ b.number; mid = a.mid ∙ b.mid; scope = a.scope ∙ b.scope; bytes = a.bytes ∙ b.bytes }

pub less_then : (a b c : ClientValue) → IsLess a b → IsLess b c → IsLess a c
less_then a b c one two = record {
  cuid = two.cuid ∙ one.cuid;
  number = two.number ∙ one.number;
  mid = two.mid ∙ one.mid;
  waiting = λ w there.
      let v = two.waiting w there in
      let u = one.waiting v.0 v.1 in
      (u.0, u.1, also_request u.0 v.0 w u.2 v.2);
  rows = λ row there. one.rows row (two.rows row there);
}

more_waited : (w : WaitingValue) (ws : List WaitingValue) (v : WaitingValue) → Waited ws v → Waited (w ∷ ws) v
more_waited w ws v is = (is.0, contains_more w ws is.0 is.1, is.2)

-- one that stands first, by what it was before, and others behind it
first_less : (w u : WaitingValue) (ws vs : List WaitingValue) → SameRequest w u → AreLess ws vs → AreLess (w ∷ ws) (u ∷ vs)
first_less w u ws vs same less v there = elim (contains_cases u vs v there) [
  | inl is ↦ (w, contains_first w ws, subst (SameRequest w) is same)
  | inr more ↦ more_waited w ws v (less v more)
]

behind_less : (w : WaitingValue) (ws vs : List WaitingValue) → AreLess ws vs → AreLess (w ∷ ws) vs
behind_less w ws vs less v there = more_waited w ws v (less v there)

handed_less : (ws : List WaitingValue) → AreLess ws (replace_first is_unsent handed_out ws)
handed_less [] = none_less
handed_less (w ∷ ws) = by (is_unsent w) (handed_less ws)
  where
    by : (b : Bool) → AreLess ws (replace_first is_unsent handed_out ws) → AreLess (w ∷ ws) (cond b (handed_out w ++ ws) (w ∷ replace_first is_unsent handed_out ws))
    by true rest = first_less w _ ws ws (record { number = refl; mid = refl; scope = refl; bytes = refl }) (all_less ws)
    by false rest = first_less w w ws (replace_first is_unsent handed_out ws) (same_request w) rest

repeated_less : (now : ℕ) (ws : List WaitingValue) → AreLess ws (repeat_after now ws)
repeated_less now [] = none_less
repeated_less now (w ∷ ws) = by (is_due now w.sent) (may_repeat w.sent) (repeated_less now ws)
  where
    by : (due may : Bool) → AreLess ws (repeat_after now ws) → AreLess (w ∷ ws) (cond due (cond may (again w ∷ ws) (repeat_after now ws)) (w ∷ repeat_after now ws))
    by true true rest = first_less w (again w) ws ws (record { number = refl; mid = refl; scope = refl; bytes = refl }) (all_less ws)
    by true false rest = behind_less w ws (repeat_after now ws) rest
    by false may rest = first_less w w ws (repeat_after now ws) (same_request w) rest

due_less : (now : ℕ) (ws : List WaitingValue) → AreLess ws (due_after now ws)
due_less now ws = by (list_any is_unsent ws)
  where
    by : (b : Bool) → AreLess ws (cond b (replace_first is_unsent handed_out ws) (repeat_after now ws))
    by true = handed_less ws
    by false = repeated_less now ws

pub tick_less : (now : ℕ) (k : ClientValue) → IsLess k (tick_after now k)
tick_less now k = record { cuid = refl; number = refl; mid = refl; waiting = due_less (milliseconds now) k.waiting; rows = λ row there. filtered _ k.ledger row there }

-- ---- what is handed out

-- the bytes are the message of a request that waits
abbrev pub IsHandedFrom : List WaitingValue → List ℕ → Type 0
IsHandedFrom ws bytes = (w : WaitingValue) × Contains ws w × (bytes ≡ w.sent.bytes)

repeated_bytes : (now : ℕ) (ws : List WaitingValue) (bytes : List ℕ) → repeat_answer now ws ≡ Some bytes → IsHandedFrom ws bytes
repeated_bytes now [] bytes e = absurd (none-some bytes e)
repeated_bytes now (w ∷ ws) bytes e = by (is_due now w.sent) (may_repeat w.sent) e (λ more. let there = repeated_bytes now ws bytes more in (there.0, contains_more w ws there.0 there.1, there.2))
  where
    by : (due may : Bool) → cond due (cond may (Some w.sent.bytes) (repeat_answer now ws)) (repeat_answer now ws) ≡ Some bytes → (repeat_answer now ws ≡ Some bytes → IsHandedFrom (w ∷ ws) bytes) → IsHandedFrom (w ∷ ws) bytes
    by true true e rest = (w, contains_first w ws, sym (same_Some w.sent.bytes bytes e))
    by true false e rest = rest e
    by false may e rest = rest e

unsent_bytes : (ws : List WaitingValue) (o : Option WaitingValue) (bytes : List ℕ) → find is_unsent ws ≡ o → option_map bytes_of o ≡ Some bytes → IsHandedFrom ws bytes
unsent_bytes ws None bytes found e = absurd (none-some bytes e)
unsent_bytes ws (Some w) bytes found e = (w, (found_in is_unsent ws w found).0, sym (same_Some (bytes_of w) bytes e))

pub tick_bytes : (now : ℕ) (k : ClientValue) (bytes : List ℕ) → tick_answer now k ≡ Some bytes → IsHandedFrom k.waiting bytes
tick_bytes now k bytes e = by (list_any is_unsent k.waiting) e
  where
    by : (b : Bool) → cond b (option_map bytes_of (find is_unsent k.waiting)) (repeat_answer (milliseconds now) k.waiting) ≡ Some bytes → IsHandedFrom k.waiting bytes
    by true e = unsent_bytes k.waiting (find is_unsent k.waiting) bytes refl e
    by false e = repeated_bytes (milliseconds now) k.waiting bytes e

-- what is handed out until nothing is due
pub drained : (now : ℕ) (old : ClientValue) (messages : List (List ℕ)) (new : ClientValue) → Drains now old messages new
    → IsLess old new × ((bytes : List ℕ) → Contains messages bytes → IsHandedFrom old.waiting bytes)
drained now old [] new d = (subst (IsLess old) (sym d.1) (tick_less now old), λ bytes there. absurd (not_in_none bytes there))
drained now old (message ∷ messages) new d =
    let rest = drained now (tick_after now old) messages new d.1 in
    let less = tick_less now old in (
      less_then old (tick_after now old) new less rest.0,
      λ bytes there. elim (contains_cases message messages bytes there) [
        | inl is ↦ subst (IsHandedFrom old.waiting) is (tick_bytes now old message d.0)
        | inr more ↦
            let later = rest.1 bytes more in
            let before = less.waiting later.0 later.1 in
            (before.0, before.1, later.2 ∙ sym before.2.bytes)
      ],
    )

-- ---- what is received

without_less : (t : WaitingValue → Bool) (ws : List WaitingValue) → AreLess ws (without_first t ws)
without_less t [] = none_less
without_less t (w ∷ ws) = by (t w) (without_less t ws)
  where
    by : (b : Bool) → AreLess ws (without_first t ws) → AreLess (w ∷ ws) (cond b ws (w ∷ without_first t ws))
    by true rest = behind_less w ws ws (all_less ws)
    by false rest = first_less w w ws (without_first t ws) (same_request w) rest

fewer_rows : (t : Granted → Bool) (rows : List Granted) (row : Granted) → Contains (without_first t rows) row → Contains rows row
fewer_rows t [] row there = there
fewer_rows t (r ∷ rows) row there = by (t r) there (λ more. contains_more r rows row (fewer_rows t rows row more))
  where
    by : (b : Bool) → Contains (cond b rows (r ∷ without_first t rows)) row → (Contains (without_first t rows) row → Contains (r ∷ rows) row) → Contains (r ∷ rows) row
    by true there rest = contains_more r rows row there
    by false there rest = elim (contains_cases r (without_first t rows) row there) [ inl is ↦ subst (Contains (r ∷ rows)) is (contains_first r rows) | inr more ↦ rest more ]

pub one_row_more : (new : Granted) (rows : List Granted) (row : Granted) → Contains (with_row new rows) row → (new ≡ row) ⊎ Contains rows row
one_row_more new [] row there = elim (contains_cases new [] row there) [ inl is ↦ inl is | inr none ↦ absurd (not_in_none row none) ]
one_row_more new (r ∷ rows) row there = by (nat_lt r.mid new.mid) (r.mid == new.mid) there (one_row_more new rows row)
  where
    by : (low same : Bool) → Contains (cond low (r ∷ with_row new rows) (cond same (new ∷ rows) (new ∷ r ∷ rows))) row
        → (Contains (with_row new rows) row → (new ≡ row) ⊎ Contains rows row) → (new ≡ row) ⊎ Contains (r ∷ rows) row
    by true same there rest = elim (contains_cases r (with_row new rows) row there) [
      | inl is ↦ inr (subst (Contains (r ∷ rows)) is (contains_first r rows))
      | inr more ↦ elim (rest more) [ inl is ↦ inl is | inr old ↦ inr (contains_more r rows row old) ]
    ]
    by false true there rest = elim (contains_cases new rows row there) [ inl is ↦ inl is | inr old ↦ inr (contains_more r rows row old) ]
    by false false there rest = elim (contains_cases new (r ∷ rows) row there) [ inl is ↦ inl is | inr old ↦ inr old ]

-- the bytes grant the mitigation of a request that waits
pub record IsGrantReceived (k : ClientValue) (bytes : List ℕ) (row : Granted) : Type 0 where
  pub w : WaitingValue
  pub waits : Contains k.waiting w
  pub message : CoapMessage
  pub is_message : IsMessage message
  pub spelled : bytes ≡ spelling message
  pub token : message.token ≡ to_be_bytes w64 w.request.number
  pub scope : w.request.scope ≡ Some row.asked
  pub mid : row.mid ≡ w.request.mid
  pub grants : GrantsMid row.mid message row.lifetime

-- What a client receives leaves less of it, or one row more beside that.
pub record AreReceived (old : ClientValue) (bytes : List ℕ) (new : ClientValue) : Type 0 where
  pub cuid : new.cuid ≡ old.cuid
  pub number : new.number ≡ old.number
  pub mid : new.mid ≡ old.mid
  pub waiting : AreLess old.waiting new.waiting
  pub rows : (row : Granted) → Contains new.ledger row → Contains old.ledger row ⊎ IsGrantReceived old bytes row

received_less : (old : ClientValue) (bytes : List ℕ) (new : ClientValue) → IsLess old new → AreReceived old bytes new
received_less old bytes new is = record { cuid = is.cuid; number = is.number; mid = is.mid; waiting = is.waiting; rows = λ row there. inl (is.rows row there) }

received_same : (old : ClientValue) (bytes : List ℕ) (new : ClientValue) → new ≡ old → AreReceived old bytes new
received_same old bytes new is = received_less old bytes new (subst (IsLess old) (sym is) (same_less old))

waiting_token : (m : CoapMessage) (ws : List WaitingValue) (w : WaitingValue) → find (waits_by m.token) ws ≡ Some w → m.token ≡ to_be_bytes w64 w.request.number
waiting_token m ws w found = sym ((bytes_eq-Decides (to_be_bytes w64 w.request.number) m.token).0 (found_in (waits_by m.token) ws w found).1)

received_grant : (old : ClientValue) (bytes : List ℕ) (now : ℕ) (m : CoapMessage) (request : Request) (mid : ℕ) (new : ClientValue) → IsMessage m → bytes ≡ spelling m
    → Answers old m request → Yields old request m now (heard.Granted mid) new → AreReceived old bytes new
received_grant old bytes now m request mid new is spelled answers (mid_is, asked, lifetime, scope, grants, leaves) =
    subst (AreReceived old bytes) (sym leaves) (record {
      cuid = refl;
      number = refl;
      mid = refl;
      waiting = without_less (waits_by m.token) old.waiting;
      rows = rows;
    })
  where
    row_received : IsGrantReceived old bytes (granted_row mid asked lifetime now)
    row_received = record {
      w = answers.sent.0;
      waits = (found_in (waits_by m.token) old.waiting answers.sent.0 answers.sent.1).0;
      message = m;
      is_message = is;
      spelled = spelled;
      token = waiting_token m old.waiting answers.sent.0 answers.sent.1;
      scope = ap (λ (r : Request). r.scope) answers.sent.2 ∙ scope;
      mid = mid_is ∙ sym (ap (λ (r : Request). r.mid) answers.sent.2);
      grants = subst (λ n. GrantsMid n m lifetime) (sym mid_is) grants;
    }

    rows : (row : Granted) → Contains (with_row (granted_row mid asked lifetime now) old.ledger) row → Contains old.ledger row ⊎ IsGrantReceived old bytes row
    rows row there = elim (one_row_more (granted_row mid asked lifetime now) old.ledger row there) [
      | inl same ↦ inr (subst (IsGrantReceived old bytes) same row_received)
      | inr before ↦ inl before
    ]

pub receives : (old : ClientValue) (bytes : List ℕ) (now : ℕ) (said : Heard) (new : ClientValue) → Receives old bytes now said new → AreReceived old bytes new
receives old bytes now (heard.Beat answer) new h = received_same old bytes new h.5
receives old bytes now heard.Nothing new h = received_same old bytes new h.1
receives old bytes now heard.NoMemory new h = received_same old bytes new h.6
receives old bytes now (heard.Granted mid) new h = received_grant old bytes now h.0 h.1 mid new h.2 h.3 h.4 h.5
receives old bytes now (heard.Withdrawn mid) new h =
    subst (AreReceived old bytes) (sym h.5.3) (record { cuid = refl; number = refl; mid = refl; waiting = without_less (waits_by h.0.token) old.waiting; rows = λ row there. inl (fewer_rows _ old.ledger row there) })
receives old bytes now (heard.Refused mid code) new h =
    subst (AreReceived old bytes) (sym h.5.4) (record { cuid = refl; number = refl; mid = refl; waiting = without_less (waits_by h.0.token) old.waiting; rows = λ row there. inl there })
