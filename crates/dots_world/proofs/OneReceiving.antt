-- What comes decides what a client says and what is left of it, but for want of memory.
use Rattle.std.proofs.Common.{◌≡◌, ◌≢◌, ◌⊎◌, inl, inr, ℕ, ℤ, ◌/◌, true, List, [], ◌∷◌, None, refl, sym, ap, ◌∙◌, subst}
use Rattle.std.proofs.lemmas.Option.{same_Some, none-some}
use Rattle.acl_lists.specs.declared.asked.Asked.{Asked}
use Rattle.cbor_profile.proofs.WholeReading.{same_reading}
use Rattle.coap_message.specs.Message.{CoapMessage, IsMessage, spelling}
use Rattle.coap_message.proofs.Whole.{one_message}
use Rattle.reply_bodies.specs.Mitigations.{granted_tree}
use Rattle.dots_client.specs.Answers.{GrantsMid}
use Rattle.dots_client.specs.Ledger.{with_row, without_row}
use Rattle.dots_client.specs.declared.ask.Ask.{Ask}
use Rattle.dots_client.specs.declared.heard.Heard.{Heard}
use Rattle.dots_client.specs.declared.heard.Heard.TheVariants as heard
use Rattle.dots_client.specs.declared.request.Request.{Request}
use Rattle.dots_client.specs.Client.{ClientValue, WaitingValue, tick_after}
use Rattle.dots_client.specs.Receiving.{IsBeat, beat_answer, Answers, ended, granted_row, Yields, Receives}
use Rattle.dots_world.specs.Plans.{PlanClient, Plan}
use Rattle.dots_world.specs.Worlds.{World, changed, IsClient, asked_now, AsksFor, made, unmade, answers_to, Drains, HandsOut, AllHandOut}
use Rattle.dots_world.specs.OneWorld.{ReceivesWell}
use Rattle.dots_world.proofs.OneGrant.{one_tree}

-- ---- a datagram

one_lifetime : (mid : ℕ) (m : CoapMessage) (lifetime last : ℤ) → GrantsMid mid m lifetime → GrantsMid mid m last → lifetime ≡ last
one_lifetime mid m lifetime last a b =
    (one_tree mid mid lifetime last (same_reading m.payload m.payload [] [] (granted_tree mid lifetime) (granted_tree mid last) 16 a.body.1 b.body.1 refl).0).1

module _ (client : ClientValue) where
  one_request : (m : CoapMessage) (request other : Request) → Answers client m request → Answers client m other → request ≡ other
  one_request m request other a b =
      sym a.sent.2 ∙ ap (λ (w : WaitingValue). w.request) (same_Some a.sent.0 b.sent.0 (sym a.sent.1 ∙ b.sent.1)) ∙ b.sent.2

  -- what is said, and what it leaves
  abbrev Same : Heard → ClientValue → Heard → ClientValue → Type 0
  Same said new other last = (said ≡ other) × (new ≡ last)

  module _ (request : Request) (m : CoapMessage) (now : ℕ) where
    one_yield : (said other : Heard) (new last : ClientValue) → Yields client request m now said new → Yields client request m now other last → Same said new other last
    one_yield (heard.Granted mid) (heard.Granted other) new last (mid_is, asked, lifetime, scope, grants, leaves) (other_is, also, lasting, too, grant, left) =
        let mids : mid ≡ other = mid_is ∙ sym other_is in
        let scopes : asked ≡ also = same_Some asked also (sym scope ∙ too) in
        let lasts : lifetime ≡ lasting = one_lifetime request.mid m lifetime lasting grants grant in (
          ap heard.Granted mids,
          leaves ∙ ap (λ n. granted n asked lifetime) mids ∙ ap (λ a. granted other a lifetime) scopes ∙ ap (λ l. granted other also l) lasts ∙ sym left,
        )
      where
        granted : ℕ → Asked → ℤ → ClientValue
        granted mid asked lifetime = record (ended client m.token) { ledger = with_row (granted_row mid asked lifetime now) client.ledger }
    one_yield (heard.Granted mid) (heard.Withdrawn other) new last (mid_is, asked, lifetime, scope, grants, leaves) (other_is, none, deleted, left) = absurd (none-some asked (sym none ∙ scope))
    one_yield (heard.Granted mid) (heard.Refused other code) new last (mid_is, asked, lifetime, scope, grants, leaves) (other_is, code_is, never, kept, left) = absurd (never asked lifetime scope grants)
    one_yield (heard.Withdrawn mid) (heard.Granted other) new last (mid_is, none, deleted, leaves) (other_is, asked, lifetime, scope, grants, left) = absurd (none-some asked (sym none ∙ scope))
    one_yield (heard.Withdrawn mid) (heard.Withdrawn other) new last (mid_is, none, deleted, leaves) (other_is, also, too, left) = (
      ap heard.Withdrawn (mid_is ∙ sym other_is),
      leaves ∙ ap (λ n. withdrawn n) (mid_is ∙ sym other_is) ∙ sym left,
    )
      where
        withdrawn : ℕ → ClientValue
        withdrawn mid = record (ended client m.token) { ledger = without_row mid client.ledger }
    one_yield (heard.Withdrawn mid) (heard.Refused other code) new last (mid_is, none, deleted, leaves) (other_is, code_is, never, kept, left) = absurd (kept none deleted)
    one_yield (heard.Refused mid code) (heard.Granted other) new last (mid_is, code_is, never, kept, leaves) (other_is, asked, lifetime, scope, grants, left) = absurd (never asked lifetime scope grants)
    one_yield (heard.Refused mid code) (heard.Withdrawn other) new last (mid_is, code_is, never, kept, leaves) (other_is, none, deleted, left) = absurd (kept none deleted)
    one_yield (heard.Refused mid code) (heard.Refused other word) new last (mid_is, code_is, never, kept, leaves) (other_is, word_is, nor, held, left) = (
      ap (λ n. heard.Refused n code) (mid_is ∙ sym other_is) ∙ ap (heard.Refused other) (code_is ∙ sym word_is),
      leaves ∙ sym left,
    )
    one_yield (heard.Beat answer) other new last a b = absurd a
    one_yield heard.Nothing other new last a b = absurd a
    one_yield heard.NoMemory other new last a b = absurd a
    one_yield (heard.Granted mid) (heard.Beat answer) new last a b = absurd b
    one_yield (heard.Granted mid) heard.Nothing new last a b = absurd b
    one_yield (heard.Granted mid) heard.NoMemory new last a b = absurd b
    one_yield (heard.Withdrawn mid) (heard.Beat answer) new last a b = absurd b
    one_yield (heard.Withdrawn mid) heard.Nothing new last a b = absurd b
    one_yield (heard.Withdrawn mid) heard.NoMemory new last a b = absurd b
    one_yield (heard.Refused mid code) (heard.Beat answer) new last a b = absurd b
    one_yield (heard.Refused mid code) heard.Nothing new last a b = absurd b
    one_yield (heard.Refused mid code) heard.NoMemory new last a b = absurd b

  module _ (bytes : List ℕ) (now : ℕ) where
    -- the same by what the datagram is
    data Hears (said : Heard) (new : ClientValue) : Type 0 where
      a_beat : (m : CoapMessage) → IsMessage m → bytes ≡ spelling m → IsBeat m → said ≡ heard.Beat (beat_answer m) → new ≡ client → Hears said new
      an_answer : (m : CoapMessage) (request : Request) → IsMessage m → bytes ≡ spelling m → Answers client m request → Yields client request m now said new → Hears said new
      neither : ((m : CoapMessage) (request : Request) → IsMessage m → bytes ≡ spelling m → IsBeat m ⊎ Answers client m request → ⊥) → said ≡ heard.Nothing → new ≡ client → Hears said new

    hears : (said : Heard) (new : ClientValue) → said ≢ heard.NoMemory → Receives client bytes now said new → Hears said new
    hears (heard.Beat answer) new well (m, is, spelled, beat, answer_is, same) = a_beat m is spelled beat (ap heard.Beat answer_is) same
    hears heard.Nothing new well (never, same) = neither never refl same
    hears heard.NoMemory new well r = absurd (well refl)
    hears (heard.Granted mid) new well (m, request, is, spelled, answers, yields) = an_answer m request is spelled answers yields
    hears (heard.Withdrawn mid) new well (m, request, is, spelled, answers, yields) = an_answer m request is spelled answers yields
    hears (heard.Refused mid code) new well (m, request, is, spelled, answers, yields) = an_answer m request is spelled answers yields

    no_request : Request
    no_request = record { number = 0; mid = 0; scope = None; handed = true }

    -- a heartbeat answers nothing
    not_both : (m n : CoapMessage) (request : Request) → IsMessage m → bytes ≡ spelling m → IsBeat m → IsMessage n → bytes ≡ spelling n → Answers client n request → ⊥
    not_both m n request is spelled beat also written answers =
        let same : m ≡ n = one_message m n is also (sym spelled ∙ written) in
        let code : n.code ≡ 3 = ap (λ (k : CoapMessage). k.code) (sym same) ∙ beat.code in
        answers.class (ap (λ c. c / 32) code)

    one_heard : (said other : Heard) (new last : ClientValue) → Hears said new → Hears other last → Same said new other last
    one_heard said other new last (a_beat m is spelled beat said_is leaves) (a_beat n also written too other_is left) = (
      said_is ∙ ap (λ (k : CoapMessage). heard.Beat (beat_answer k)) (one_message m n is also (sym spelled ∙ written)) ∙ sym other_is,
      leaves ∙ sym left,
    )
    one_heard said other new last (a_beat m is spelled beat said_is leaves) (an_answer n request also written answers yields) = absurd (not_both m n request is spelled beat also written answers)
    one_heard said other new last (a_beat m is spelled beat said_is leaves) (neither never other_is left) = absurd (never m no_request is spelled (inl beat))
    one_heard said other new last (an_answer m request is spelled answers yields) (a_beat n also written beat other_is left) = absurd (not_both n m request also written beat is spelled answers)
    one_heard said other new last (an_answer m request is spelled answers yields) (an_answer n asked also written too yielded) =
        let same : m ≡ n = one_message m n is also (sym spelled ∙ written) in
        let moved : Answers client n request = subst (λ (k : CoapMessage). Answers client k request) same answers in
        let requests : request ≡ asked = one_request n request asked moved too in
        one_yield asked n now said other new last
        (subst (λ (r : Request). Yields client r n now said new) requests (subst (λ (k : CoapMessage). Yields client request k now said new) same yields)) yielded
    one_heard said other new last (an_answer m request is spelled answers yields) (neither never other_is left) = absurd (never m request is spelled (inr answers))
    one_heard said other new last (neither never said_is leaves) (a_beat n also written beat other_is left) = absurd (never n no_request also written (inl beat))
    one_heard said other new last (neither never said_is leaves) (an_answer n request also written answers yields) = absurd (never n request also written (inr answers))
    one_heard said other new last (neither never said_is leaves) (neither still other_is left) = (said_is ∙ sym other_is, leaves ∙ sym left)

    one_receiving : (said other : Heard) (new last : ClientValue) → said ≢ heard.NoMemory → other ≢ heard.NoMemory → Receives client bytes now said new → Receives client bytes now other last
        → Same said new other last
    one_receiving said other new last well fine a b = one_heard said other new last (hears said new well a) (hears other last fine b)

-- ---- what is handed out

one_drain : (now : ℕ) (old : ClientValue) (messages others : List (List ℕ)) (new last : ClientValue) → Drains now old messages new → Drains now old others last → (messages ≡ others) × (new ≡ last)
one_drain now old [] [] new last a b = (refl, a.1 ∙ sym b.1)
one_drain now old [] (other ∷ others) new last a b = absurd (none-some other (sym a.0 ∙ b.0))
one_drain now old (message ∷ messages) [] new last a b = absurd (none-some message (sym b.0 ∙ a.0))
one_drain now old (message ∷ messages) (other ∷ others) new last a b =
    let rest = one_drain now (tick_after now old) messages others new last a.1 b.1 in
    (ap (λ m. m ∷ messages) (same_Some message other (sym a.0 ∙ b.0)) ∙ ap (λ ms. other ∷ ms) rest.0, rest.1)

-- ---- in a world

module _ {S : Type 0} (plan : Plan) (old : World S) (i : ℕ) where
  one_plan : (c d : PlanClient) (k l : ClientValue) → IsClient plan old i c k → IsClient plan old i d l → (c ≡ d) × (k ≡ l)
  one_plan c d k l a b = (same_Some c d (sym a.planned ∙ b.planned), same_Some k l (sym a.there ∙ b.there))

  -- what is left of one client, with the same messages
  one_change : (c d : PlanClient) (k l : ClientValue) (messages others : List (List ℕ)) → c ≡ d → k ≡ l → messages ≡ others → changed old i c k messages ≡ changed old i d l others
  one_change c d k l messages others clients left sent =
      ap (λ e. changed old i e k messages) clients ∙ ap (λ j. changed old i d j messages) left ∙ ap (λ ms. changed old i d l ms) sent

  pub one_packet : (bytes : List ℕ) (one other : World S) → ReceivesWell plan old i bytes one → ReceivesWell plan old i bytes other → one ≡ other
  one_packet bytes one other (a, well) (b, fine) =
      let is = one_plan a.c b.c a.client b.client a.is b.is in
      let heard_so = one_receiving b.client bytes old.time a.said b.said a.after b.after well fine (subst (λ k. Receives k bytes old.time a.said a.after) is.1 a.receives) b.receives in
      a.leaves ∙ one_change a.c b.c a.after b.after (answers_to a.said) (answers_to b.said) is.0 heard_so.1 (ap answers_to heard_so.0) ∙ sym b.leaves

  one_hand : (one other : World S) → HandsOut plan old i one → HandsOut plan old i other → one ≡ other
  one_hand one other a b =
      let is = one_plan a.c b.c a.client b.client a.is b.is in
      let drains = one_drain old.time b.client a.messages b.messages a.after b.after (subst (λ k. Drains old.time k a.messages a.after) is.1 a.drains) b.drains in
      a.leaves ∙ one_change a.c b.c a.after b.after a.messages b.messages is.0 drains.1 drains.0 ∙ sym b.leaves

  pub one_ask : (what : Ask) (one other : World S) → AsksFor plan old i what one → AsksFor plan old i what other → one ≡ other
  one_ask what one other (made c k is may leaves) (made d l also can left) =
      let same = one_plan c d k l is also in
      leaves ∙ ap (λ e. asked_now old i e k what) same.0 ∙ ap (λ j. asked_now old i d j what) same.1 ∙ sym left
  one_ask what one other (made c k is may leaves) (unmade none left) = absurd (none c k is may)
  one_ask what one other (unmade none leaves) (made c k is may left) = absurd (none c k is may)
  one_ask what one other (unmade none leaves) (unmade nor left) = leaves ∙ sym left

pub one_handing : {S : Type 0} (plan : Plan) (places : List ℕ) (old one other : World S) → AllHandOut plan places old one → AllHandOut plan places old other → one ≡ other
one_handing plan [] old one other a b = a ∙ sym b
one_handing {S} plan (i ∷ places) old one other a b =
    let same : a.0 ≡ b.0 = one_hand plan old i a.0 b.0 a.1 b.1 in
    one_handing plan places b.0 one other (subst (λ (w : World S). AllHandOut plan places w one) same a.2) b.2
