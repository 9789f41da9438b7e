-- What a request of the data channel is answered goes by the entries of its caller's domain alone.
use Rattle.std.proofs.Common.{◌≡◌, ◌≢◌, ℕ, ◌+◌, Bool, true, false, cond, not, ◌&&◌, ◌||◌, List, [], ◌∷◌, ◌++◌, filter, Option, Some, None, Result, Ok, Err, inl, inr, refl, sym, ap, subst, ◌∙◌, append-nil, arith}
use Rattle.std.specs.Prelude.{◌==◌, option_to_list, bytes_eq, is_some, nat_lt}
use Rattle.std.specs.List.{list_any}
use Rattle.std.proofs.lemmas.Bool.{false≢true, both_ways, cond_both, cond-false, cases_Bool, and_left, and_right, and_parts, and_from, or_from, eqb-true, eq-eqb, false_from_ne_true}
use Rattle.std.proofs.lemmas.Bool.Decides.{nat_tests}
use Rattle.std.proofs.lemmas.List.Elements.{filter-append}
use Rattle.std.proofs.lemmas.Option.{none-some}
use Rattle.acl_lists.specs.declared.alias.Alias.{Alias}
use Rattle.acl_lists.specs.declared.acl.Acl.{Acl}
use Rattle.dots_host.specs.declared.out.OwnedOut.{OwnedOut}
use Rattle.dots_settings.specs.Settings.{SettingsValue}
use Rattle.dots_history.specs.declared.entry.Entry.{Entry}
use Rattle.dots_history.specs.declared.change.Change.{Change}
use Rattle.dots_history.specs.declared.change.Change.TheVariants as change
use Rattle.dots_history.specs.Entries.{same_client, is_held, undoes, undoes_of_client, undoes_of_peer, reconfigures, resumes}
use Rattle.dots_history.specs.Histories.{tally, stays, held, alone}
use Rattle.dots_history.specs.Rows.{acl_of}
use Rattle.dots_history.specs.Capacities.{is_registration, is_alias, is_list}
use Rattle.dots_history.specs.Tables.{Client, is_of}
use Rattle.dots_history.specs.Held.{alias_of, written, aliases_of, acls_of, alias_named, acl_named, registers, is_registered}
use Rattle.dots_history.proofs.Apart.{other_domain}
use Rattle.dots_history.proofs.Alone.{far_resumes}
use Rattle.conflict_rules.proofs.Alone.{collides_apart}
use Rattle.stream_table.specs.Lines.{PeerLines}
use Rattle.http_cut.specs.Requests.{Request}
use Rattle.data_channel.specs.declared.reject.RestReject.{RestReject}
use Rattle.data_channel.specs.declared.request.RestRequest.{RestRequest}
use Rattle.data_channel.specs.declared.asking.RestKind.{RestKind}
use Rattle.data_channel.specs.declared.asking.RestKind.TheVariants as kind
use Rattle.data_channel.specs.Asking.{kind_of, name_of}
use Rattle.rest_answers.specs.declared.answer.RestAnswer.TheVariants as answer
use Rattle.rest_answers.specs.declared.caller.Caller.{Caller}
use Rattle.rest_answers.specs.declared.front.RestFront.TheVariants as fronts
use Rattle.rest_answers.specs.Answer.{RestAnswer}
use Rattle.rest_answers.specs.Known.{client_for, is_faulty, is_there, number_of, most_of, Known, known_of}
use Rattle.rest_answers.specs.Answers.{rest_answer, answer_to, Answers}
use Rattle.rest_answers.specs.Turns.{RestFront, caller_of, IsFront, entries_of, HttpTurn, AddsOne}
use Rattle.rest_answers.proofs.Turning.{one_there, accepted, adds_one}

-- ---- what the data channel writes

-- a registration, an alias or an access list
abbrev is_data : Change → Bool
is_data change.Register = true
is_data (change.SetAlias alias) = true
is_data (change.SetAcl acl) = true
is_data _ = false

registration_is_data : (c : Change) → is_registration c ≡ true → is_data c ≡ true
unfolding is_registration
registration_is_data change.Register is = refl
registration_is_data _ is = absurd (false≢true is)

alias_is_data : (c : Change) → is_alias c ≡ true → is_data c ≡ true
unfolding is_alias
alias_is_data (change.SetAlias alias) is = refl
alias_is_data _ is = absurd (false≢true is)

list_is_data : (c : Change) → is_list c ≡ true → is_data c ≡ true
unfolding is_list
list_is_data (change.SetAcl acl) is = refl
list_is_data _ is = absurd (false≢true is)

an_alias_is_data : (c : Change) (a : Alias) → alias_of c ≡ Some a → is_data c ≡ true
an_alias_is_data (change.SetAlias alias) a is = refl
an_alias_is_data _ a is = absurd (none-some a is)

an_acl_is_data : (c : Change) (a : Acl) → acl_of c ≡ Some a → is_data c ≡ true
an_acl_is_data (change.SetAcl acl) a is = refl
an_acl_is_data _ a is = absurd (none-some a is)

not_by_peer : (earlier later : Change) → is_data earlier ≡ true → undoes_of_peer earlier later ≡ false
unfolding undoes_of_peer
not_by_peer change.Register later is = refl
not_by_peer (change.SetAlias alias) later is = refl
not_by_peer (change.SetAcl acl) later is = refl
not_by_peer _ later is = absurd (false≢true is)

-- an entry of another domain doesn't undo it
far_undone : (e x : Entry) → is_data e.change ≡ true → (e.domain == x.domain) ≡ false → undoes e x ≡ false
unfolding undoes reconfigures same_client
far_undone e x is other =
    or_from
    (((e.domain == x.domain) && bytes_eq e.cuid x.cuid) && undoes_of_client e.change x.change)
    (((e.peer == x.peer) && undoes_of_peer e.change x.change) || resumes e x)
    (and_left ((e.domain == x.domain) && bytes_eq e.cuid x.cuid) (undoes_of_client e.change x.change) (and_left (e.domain == x.domain) (bytes_eq e.cuid x.cuid) other))
    (or_from ((e.peer == x.peer) && undoes_of_peer e.change x.change) (resumes e x)
    (and_right (e.peer == x.peer) (undoes_of_peer e.change x.change) (not_by_peer e.change x.change is)) (far_resumes e x other))

-- ---- what is held of it in a domain

of_domain : (client : Client) (e : Entry) → is_of client e ≡ true → (e.domain == client.domain) ≡ true
unfolding is_of
of_domain client e is = eq-eqb e.domain client.domain (sym (eqb-true client.domain e.domain (and_parts (client.domain == e.domain) (bytes_eq client.cuid e.cuid) is).0))

module _ (domain : ℕ) where
  abbrev counts : Entry → Bool
  counts e = is_data e.change && (e.domain == domain)

  same_undone : (e : Entry) (later : List Entry) → is_data e.change ≡ true → (e.domain == domain) ≡ true
      → list_any (undoes e) (alone domain later) ≡ list_any (undoes e) later
  same_undone e [] is own = refl
  same_undone e (x ∷ later) is own =
      let go = same_undone e later is own in
      cond_both
      (x.domain == domain)
      (x ∷ alone domain later)
      (alone domain later)
      (λ es. list_any (undoes e) es ≡ list_any (undoes e) (x ∷ later))
      (λ same. ap (λ b. undoes e x || b) go)
      (λ other. go ∙ sym (ap (λ b. b || list_any (undoes e) later) (far_undone e x is (other_domain domain e x own other))))

  dropped : (s : Bool) (e : Entry) (rest : List Entry) → counts e ≡ false → filter counts (option_to_list (cond s (Some e) None) ++ rest) ≡ filter counts rest
  dropped true e rest out = cond-false (counts e) (e ∷ filter counts rest) (filter counts rest) out
  dropped false e rest out = refl

  behind : (s : Bool) (e : Entry) (xs ys : List Entry) → filter counts xs ≡ filter counts ys
      → filter counts (option_to_list (cond s (Some e) None) ++ xs) ≡ filter counts (option_to_list (cond s (Some e) None) ++ ys)
  behind true e xs ys same = ap (λ (zs : List Entry). cond (counts e) (e ∷ zs) zs) same
  behind false e xs ys same = same

  data_alone : (entries : List Entry) → filter counts (held (alone domain entries)) ≡ filter counts (held entries)
  data_alone [] = refl
  data_alone (e ∷ later) =
      let go = data_alone later in
      let near = held (alone domain later) in
      cond_both
      (e.domain == domain)
      (e ∷ alone domain later)
      (alone domain later)
      (λ es. filter counts (held es) ≡ filter counts (held (e ∷ later)))
      (λ own.
      elim (cases_Bool (is_data e.change)) [
        | inl is ↦
            ap (λ b. filter counts (option_to_list (cond (is_held e.change && not b) (Some e) None) ++ near)) (same_undone e later is own)
            ∙ behind (stays e later) e near (held later) go
        | inr out ↦
            let none = and_left (is_data e.change) (e.domain == domain) out in
            dropped (stays e (alone domain later)) e near none ∙ go ∙ sym (dropped (stays e later) e (held later) none)
      ])
      (λ other. go ∙ sym (dropped (stays e later) e (held later) (and_right (is_data e.change) (e.domain == domain) other)))

  same_data : (one other : List Entry) → alone domain one ≡ alone domain other → filter counts (held one) ≡ filter counts (held other)
  same_data one other same = sym (data_alone one) ∙ ap (λ es. filter counts (held es)) same ∙ data_alone other

  -- ---- what is known goes by that

  module _ (test : Entry → Bool) (leads : (e : Entry) → test e ≡ true → counts e ≡ true) where
    fails : (e : Entry) → counts e ≡ false → test e ≡ false
    fails e out = false_from_ne_true (test e) (λ is. both_ways (counts e) out (leads e is))

    any_counts : (es : List Entry) → list_any test (filter counts es) ≡ list_any test es
    any_counts [] = refl
    any_counts (e ∷ es) =
        let go = any_counts es in
        cond_both
        (counts e)
        (e ∷ filter counts es)
        (filter counts es)
        (λ xs. list_any test xs ≡ list_any test (e ∷ es))
        (λ is. ap (λ b. test e || b) go)
        (λ out. go ∙ sym (ap (λ b. b || list_any test es) (fails e out)))

    tally_counts : (es : List Entry) → tally test (filter counts es) ≡ tally test es
    tally_counts [] = refl
    tally_counts (e ∷ es) =
        let go = tally_counts es in
        cond_both
        (counts e)
        (e ∷ filter counts es)
        (filter counts es)
        (λ xs. tally test xs ≡ tally test (e ∷ es))
        (λ is. ap (λ n. cond (test e) 1 0 + n) go)
        (λ out.
        go
        ∙ (let none_more : tally test es ≡ 0 + tally test es = omega arith in none_more)
        ∙ sym (ap (λ b. cond b 1 0 + tally test es) (fails e out)))

    same_any : (one other : List Entry) → alone domain one ≡ alone domain other → list_any test (held one) ≡ list_any test (held other)
    same_any one other same = sym (any_counts (held one)) ∙ ap (list_any test) (same_data one other same) ∙ any_counts (held other)

    same_tally : (one other : List Entry) → alone domain one ≡ alone domain other → tally test (held one) ≡ tally test (held other)
    same_tally one other same = sym (tally_counts (held one)) ∙ ap (tally test) (same_data one other same) ∙ tally_counts (held other)

-- ---- of a client

module _ (client : Client) where
  of_kind : (is_kind : Change → Bool) → ((c : Change) → is_kind c ≡ true → is_data c ≡ true) → (e : Entry) → is_kind e.change && is_of client e ≡ true → counts client.domain e ≡ true
  of_kind is_kind leads e is =
      let parts = and_parts (is_kind e.change) (is_of client e) is in
      and_from (is_data e.change) (e.domain == client.domain) (leads e.change parts.0) (of_domain client e parts.1)

  registered_there : (e : Entry) → is_registration e.change && (e.domain == client.domain) ≡ true → counts client.domain e ≡ true
  registered_there e is =
      let parts = and_parts (is_registration e.change) (e.domain == client.domain) is in
      and_from (is_data e.change) (e.domain == client.domain) (registration_is_data e.change parts.0) parts.1

  module _ {A : Type 0} (pick : Change → Option A) (leads : (c : Change) (a : A) → pick c ≡ Some a → is_data c ≡ true) where
    writes_none : (e : Entry) (own : Bool) (picked : Option A) → is_of client e ≡ own → pick e.change ≡ picked → counts client.domain e ≡ false → cond own picked None ≡ None
    writes_none e false picked of is out = refl
    writes_none e true None of is out = refl
    writes_none e true (Some a) of is out =
        absurd (both_ways (counts client.domain e) out (and_from (is_data e.change) (e.domain == client.domain) (leads e.change a is) (of_domain client e of)))

    written_counts : (es : List Entry) → written pick client (filter (counts client.domain) es) ≡ written pick client es
    written_counts [] = refl
    written_counts (e ∷ es) =
        let go = written_counts es in
        cond_both
        (counts client.domain e)
        (e ∷ filter (counts client.domain) es)
        (filter (counts client.domain) es)
        (λ xs. written pick client xs ≡ written pick client (e ∷ es))
        (λ is. ap (λ rest. option_to_list (cond (is_of client e) (pick e.change) None) ++ rest) go)
        (λ out. go ∙ sym (ap (λ o. option_to_list o ++ written pick client es) (writes_none e (is_of client e) (pick e.change) refl refl out)))

    same_written : (one other : List Entry) → alone client.domain one ≡ alone client.domain other → written pick client (held one) ≡ written pick client (held other)
    same_written one other same = sym (written_counts (held one)) ∙ ap (written pick client) (same_data client.domain one other same) ∙ written_counts (held other)

  module _ (one other : List Entry) (same : alone client.domain one ≡ alone client.domain other) where
    same_aliases : aliases_of client (held one) ≡ aliases_of client (held other)
    same_aliases = same_written alias_of an_alias_is_data one other same

    same_acls : acls_of client (held one) ≡ acls_of client (held other)
    same_acls = same_written acl_of an_acl_is_data one other same

    same_registered : is_registered client (held one) ≡ is_registered client (held other)
    same_registered = same_any client.domain (registers client) (of_kind is_registration registration_is_data) one other same

    same_there : (about : RestKind) (name : Option (List ℕ)) → is_there about name client (held one) ≡ is_there about name client (held other)
    same_there kind.Client name = same_registered
    same_there kind.Alias (Some name) = ap (λ aliases. is_some (alias_named name aliases)) same_aliases
    same_there kind.Alias None = same_registered
    same_there kind.Aliases name = same_registered
    same_there kind.Acl (Some name) = ap (λ acls. is_some (acl_named name acls)) same_acls
    same_there kind.Acl None = same_registered
    same_there kind.Acls name = same_registered

    same_number : (about : RestKind) → number_of about client (held one) ≡ number_of about client (held other)
    same_number kind.Client = same_tally client.domain (λ (e : Entry). is_registration e.change && (e.domain == client.domain)) registered_there one other same
    same_number kind.Alias = same_tally client.domain (λ (e : Entry). is_alias e.change && is_of client e) (of_kind is_alias alias_is_data) one other same
    same_number kind.Aliases = same_tally client.domain (λ (e : Entry). is_alias e.change && is_of client e) (of_kind is_alias alias_is_data) one other same
    same_number kind.Acl = same_tally client.domain (λ (e : Entry). is_list e.change && is_of client e) (of_kind is_list list_is_data) one other same
    same_number kind.Acls = same_tally client.domain (λ (e : Entry). is_list e.change && is_of client e) (of_kind is_list list_is_data) one other same

-- ---- of a request

pub known_alike : (settings : SettingsValue) (t : ℕ) (one other : List Entry) (caller : Caller) (asked : RestRequest) → alone caller.domain one ≡ alone caller.domain other
    → known_of settings t one caller asked ≡ known_of settings t other caller asked
known_alike settings t one other caller asked same =
    let client = client_for caller asked in
    let taken = collides_apart t one other caller.peer client same in
    let registered = same_registered client one other same in
    let there = same_there client one other same (kind_of asked) (name_of asked) in
    let number = same_number client one other same (kind_of asked) in
    let aliases = same_aliases client one other same in
    let acls = same_acls client one other same in
    λ i. record {
      time = t;
      facts = record {
        fault = is_faulty settings caller.domain asked;
        taken = taken i;
        registered = registered i;
        there = there i;
        full = not (nat_lt (number i) (most_of settings.limits (kind_of asked)));
      };
      aliases = aliases i;
      acls = acls i;
    }

-- ---- of a turn

module _ (settings : SettingsValue) (t : ℕ) (one other : List Entry) (caller : Caller) (same : alone caller.domain one ≡ alone caller.domain other) where
  answered_alike : (close : Bool) (read : Result RestRequest RestReject) → answer_to settings t one caller close read ≡ answer_to settings t other caller close read
  answered_alike close (Ok asked) = ap (λ (known : Known). rest_answer known caller close asked) (known_alike settings t one other caller asked same)
  answered_alike close (Err rejected) = refl

  answers_alike : (message : Request) (answered : RestAnswer) → Answers settings t one caller message answered → Answers settings t other caller message answered
  answers_alike message answered (inl x) = inl (x.0, x.1, x.2 ∙ answered_alike message.close x.0)
  answers_alike message answered (inr lacks) = inr lacks

  stands_alike : (held : List ℕ) (at : RestFront) → IsFront settings t one caller held at → IsFront settings t other caller held at
  stands_alike held fronts.Waits x = x
  stands_alike held (fronts.Refused fault) x = x
  stands_alike held (fronts.Answered size close answered) x = (x.0, x.1, x.2, x.3, answers_alike x.0 answered x.4)

alone_with : (domain : ℕ) (history : List Entry) (entry : Entry) (own : Bool) → (entry.domain == domain) ≡ own
    → alone domain (history ++ entry ∷ []) ≡ alone domain history ++ cond own (entry ∷ []) []
alone_with domain history entry own is =
    filter-append (λ (e : Entry). e.domain == domain) history (entry ∷ [])
    ∙ ap (λ (b : Bool). alone domain history ++ cond b (entry ∷ []) []) is

-- what is added is of the caller's domain
module _ (settings : SettingsValue) (t : ℕ) (history : List Entry) (caller : Caller) where
  own_entries : (held : List ℕ) (at : RestFront) → IsFront settings t history caller held at → alone caller.domain (entries_of at) ≡ entries_of at
  own_entries held fronts.Waits x = refl
  own_entries held (fronts.Refused fault) x = refl
  own_entries held (fronts.Answered size close (answer.Reply reply)) x = refl
  own_entries held (fronts.Answered size close (answer.LongReply reply)) x = refl
  own_entries held (fronts.Answered size close (answer.Accept reply entry)) x =
      let of = (accepted settings t history caller x.0 reply entry x.4).0.1 in
      alone_with caller.domain [] entry true (eq-eqb entry.domain caller.domain of.domain)

pub turn_alike : (settings : SettingsValue) (conn t : ℕ) (one other : List Entry) (lines : List PeerLines) (sends : List OwnedOut) (after : List Entry) (behind : List PeerLines) (caller : Caller)
    → HttpTurn settings conn t one lines sends after behind → caller_of settings conn lines ≡ Some caller → alone caller.domain one ≡ alone caller.domain other
    → (extra : List Entry) × (after ≡ one ++ extra) × (alone caller.domain extra ≡ extra) × HttpTurn settings conn t other lines sends (other ++ extra) behind
turn_alike settings conn t one other lines sends after behind caller x asks same =
    let stands = subst (λ (c : Caller). IsFront settings t one c x.line.buffered x.front) (one_there x.caller caller (sym x.asks ∙ asks)) x.stands in (
      entries_of x.front,
      x.history_is,
      own_entries settings t one caller x.line.buffered x.front stands,
      record {
        caller = caller;
        asks = asks;
        line = x.line;
        there = x.there;
        front = x.front;
        stands = stands_alike settings t one other caller same x.line.buffered x.front stands;
        due = x.due;
        sends_are = x.sends_are;
        history_is = refl;
        lines_are = x.lines_are;
      },
    )

-- and a turn leaves every other domain as it was
left_alone : (t : ℕ) (caller : Caller) (history after : List Entry) (domain : ℕ) → caller.domain ≢ domain → AddsOne t caller history after → alone domain after ≡ alone domain history
left_alone t caller history after domain apart (inl none) = ap (alone domain) none
left_alone t caller history after domain apart (inr (asked, entry, is, of)) = ap (alone domain) is ∙ by_test (entry.domain == domain) refl
  where
    by_test : (own : Bool) → (entry.domain == domain) ≡ own → alone domain (history ++ entry ∷ []) ≡ alone domain history
    by_test true own = absurd (apart (sym of.domain ∙ grind (arith, nat_tests, own)))
    by_test false out = alone_with domain history entry false out ∙ append-nil (alone domain history)

pub turn_elsewhere : (settings : SettingsValue) (conn t : ℕ) (history : List Entry) (lines : List PeerLines) (sends : List OwnedOut) (after : List Entry) (behind : List PeerLines) (caller : Caller)
    → HttpTurn settings conn t history lines sends after behind → caller_of settings conn lines ≡ Some caller
    → (domain : ℕ) → caller.domain ≢ domain → alone domain after ≡ alone domain history
turn_elsewhere settings conn t history lines sends after behind caller x asks domain apart =
    left_alone t caller history after domain apart (adds_one settings conn t history lines sends after behind caller x asks)
