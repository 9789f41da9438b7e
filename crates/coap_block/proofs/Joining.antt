-- Blocks that were fetched join to the body that the first was cut from.
use Rattle.std.proofs.Common.{inl, inr, ◌≡◌, ℕ, zero, suc, ◌+◌, ◌*◌, ◌<◌, ◌≤◌, Bool, true, List, [], ◌∷◌, ◌++◌, length, take, drop, get_or, Some, refl, sym, ap, subst, ◌∙◌, append-nil, arith}
use Rattle.std.specs.Prelude.{◌⊎◌, nat_lt, bytes_eq}
use Rattle.std.specs.List.{concat}
use Rattle.std.proofs.lemmas.Bool.{ltb-false, eqb-true, eq-eqb, and_parts, and_from}
use Rattle.std.proofs.lemmas.List.{take-append-drop, drop-drop}
use Rattle.coap_message.specs.Message.{CoapMessage, spelling}
use Rattle.dots_host.specs.declared.event.Event.TheVariants as event
use Rattle.dots_host.specs.declared.out.OwnedOut.TheVariants as owned
use Rattle.dots_host.specs.Acts.{Timed, WireAct, took, gave}
use Rattle.coap_block.specs.declared.block.BlockOption.{BlockOption}
use Rattle.coap_block.specs.declared.stored.StoredBody.{StoredBody}
use Rattle.coap_block.specs.declared.observed.ObservedRequest.{ObservedRequest}
use Rattle.coap_block.specs.Option.{block_size}
use Rattle.coap_block.specs.Blocks.{Asked, Blocks, Sends, Answer, same, refused, first, later, IsAnswered, IsNotified, first_block, is_reply, cut_to, unavailable, part_of, follows, body_or, keeping, without_peer}
use Rattle.coap_block.specs.Around.{IsSeen}
use Rattle.coap_block.specs.Fetching.{Fetch, IsNoFirst, MakesNoFirst, IsBetween, IsFetched, IsNotice, FetchesRest, Fetches}
use Rattle.coap_block.proofs.Notices.{never_whole}
use Rattle.coap_block.proofs.BesideAround.{stored_of, stored_new, stored_still, answer_cases}

abbrev pub HasStored : Fetch → Blocks → StoredBody → Type 0
HasStored fetch blocks body = stored_of fetch.peer fetch.request blocks.stored ≡ Some body

-- ---- what is stored stays

answered_still : (fetch : Fetch) (answer : Answer) (asked : Asked) (m : CoapMessage) (old new : List StoredBody) (out : List ℕ) (body : StoredBody) → IsAnswered answer asked m old out new → (asked.peer ≡ fetch.peer → IsNoFirst answer)
    → stored_of fetch.peer fetch.request old ≡ Some body → stored_of fetch.peer fetch.request new ≡ Some body
answered_still fetch same asked m old new out body answered none holds = ap (stored_of fetch.peer fetch.request) answered.1 ∙ holds
answered_still fetch refused asked m old new out body answered none holds = ap (stored_of fetch.peer fetch.request) answered.1 ∙ holds
answered_still fetch (later block text) asked m old new out body answered none holds = ap (stored_of fetch.peer fetch.request) answered.1 ∙ holds
answered_still fetch (first block) asked m old new out body (inl made) none holds = ap (stored_of fetch.peer fetch.request) made.1 ∙ stored_still fetch.peer asked.peer fetch.request old _ body none holds
answered_still fetch (first block) asked m old new out body (inr made) none holds =
    ap (stored_of fetch.peer fetch.request) (made.1 ∙ sym (append-nil (without_peer asked.peer old))) ∙ stored_still fetch.peer asked.peer fetch.request old [] body none holds

notified_still : (fetch : Fetch) (observed : ObservedRequest) (m : CoapMessage) (old new : List StoredBody) (out : List ℕ) (body : StoredBody) → IsNotified observed m old out new → (observed.peer ≡ fetch.peer → ⊥)
    → stored_of fetch.peer fetch.request old ≡ Some body → stored_of fetch.peer fetch.request new ≡ Some body
notified_still fetch observed m old new out body (inl made) differs holds = ap (stored_of fetch.peer fetch.request) made.1 ∙ stored_still fetch.peer observed.peer fetch.request old _ body differs holds
notified_still fetch observed m old new out body (inr made) differs holds =
    ap (stored_of fetch.peer fetch.request) (made.1 ∙ sym (append-nil (without_peer observed.peer old))) ∙ stored_still fetch.peer observed.peer fetch.request old [] body differs holds

sent_still : (fetch : Fetch) (old new : Blocks) (peer : ℕ) (bytes leaves : List ℕ) (body : StoredBody) → Sends old peer bytes leaves new → MakesNoFirst fetch old peer bytes leaves new → HasStored fetch old body → HasStored fetch new body
sent_still fetch old new peer bytes leaves body (inl reply) none holds = answered_still fetch _ reply.asked reply.message old.stored new.stored leaves body reply.answered (none.0 reply) holds
sent_still fetch old new peer bytes leaves body (inr (inl notice)) none holds = notified_still fetch notice.observed notice.message old.stored new.stored leaves body notice.notified (none.1 notice) holds
sent_still fetch old new peer bytes leaves body (inr (inr other)) none holds = ap (λ blocks. stored_of fetch.peer fetch.request blocks.stored) other.2 ∙ holds

same_stored : (fetch : Fetch) (old new : Blocks) (body : StoredBody) → new.stored ≡ old.stored → HasStored fetch old body → HasStored fetch new body
same_stored fetch old new body is holds = ap (stored_of fetch.peer fetch.request) is ∙ holds

act_still : (fetch : Fetch) (old new : Blocks) (inner outer : WireAct) (body : StoredBody) → IsSeen old inner outer new → IsBetween fetch old inner outer new → HasStored fetch old body → HasStored fetch new body
act_still fetch old new (took (event.Datagram f b) at) (took (event.Datagram g s) t) body seen none holds = same_stored fetch old new body seen.0.2 holds
act_still fetch old new (took (event.Datagram f b) at) (took (event.Opened c g) t) body seen none holds = absurd seen.0
act_still fetch old new (took (event.Datagram f b) at) (took (event.Piece c s) t) body seen none holds = absurd seen.0
act_still fetch old new (took (event.Datagram f b) at) (took (event.Closed c) t) body seen none holds = absurd seen.0
act_still fetch old new (took (event.Datagram f b) at) (took event.Tick t) body seen none holds = absurd seen.0
act_still fetch old new (took (event.Datagram f b) at) (took event.Restart t) body seen none holds = absurd seen.0
act_still fetch old new (took (event.Datagram f b) at) (took event.End t) body seen none holds = absurd seen.0
act_still fetch old new (took (event.Datagram f b) at) (took event.Failed t) body seen none holds = absurd seen.0
act_still fetch old new (took (event.Opened c g) at) (took e t) body seen none holds = same_stored fetch old new body (ap (λ blocks. blocks.stored) seen.0.1) holds
act_still fetch old new (took (event.Piece c s) at) (took e t) body seen none holds = same_stored fetch old new body (ap (λ blocks. blocks.stored) seen.0.1) holds
act_still fetch old new (took (event.Closed c) at) (took e t) body seen none holds = same_stored fetch old new body (ap (λ blocks. blocks.stored) seen.0.1) holds
act_still fetch old new (took event.Tick at) (took e t) body seen none holds = same_stored fetch old new body (ap (λ blocks. blocks.stored) seen.0.1) holds
act_still fetch old new (took event.Restart at) (took e t) body seen none holds = absurd none
act_still fetch old new (took event.End at) (took e t) body seen none holds = same_stored fetch old new body (ap (λ blocks. blocks.stored) seen.0.1) holds
act_still fetch old new (took event.Failed at) (took e t) body seen none holds = same_stored fetch old new body (ap (λ blocks. blocks.stored) seen.0.1) holds
act_still fetch old new (took e at) (gave given was) body seen none holds = absurd seen
act_still fetch old new (gave leaves done) (took e t) body seen none holds = absurd seen
act_still fetch old new (gave (owned.To to leaves) done) (gave (owned.To peer bytes) was) body seen none holds = sent_still fetch old new peer bytes leaves body seen.0.1 none holds
act_still fetch old new (gave (owned.Conn c b) done) (gave (owned.To peer bytes) was) body seen none holds = absurd seen.0
act_still fetch old new (gave (owned.Close c) done) (gave (owned.To peer bytes) was) body seen none holds = absurd seen.0
act_still fetch old new (gave leaves done) (gave (owned.Conn c b) was) body seen none holds = same_stored fetch old new body (ap (λ blocks. blocks.stored) seen.0.1) holds
act_still fetch old new (gave leaves done) (gave (owned.Close c) was) body seen none holds = same_stored fetch old new body (ap (λ blocks. blocks.stored) seen.0.1) holds

-- ---- a block that is fetched

-- what a fetched block is cut from is stored then
record Fetched (fetch : Fetch) (number : ℕ) (new : Blocks) (block : BlockOption) (text : List ℕ) (body : StoredBody) : Type 0 where
  text_is : text ≡ body.body
  holds : HasStored fetch new body
  number_is : block.number ≡ number
  size_is : block.exponent ≡ fetch.exponent

second : (m n : CoapMessage) → spelling m ≡ spelling n → m.code ≡ n.code
second m n e = ap (λ bytes. get_or bytes 1 0) e

content_code : (asked : Asked) (peer : ℕ) (m : CoapMessage) → is_reply asked peer m ≡ true → m.code ≡ 69
content_code asked peer m reply = eqb-true m.code 69 (and_parts _ _ (and_parts _ _ reply).1).0

bytes_self : (xs : List ℕ) → bytes_eq xs xs ≡ true
bytes_self [] = refl
bytes_self (x ∷ xs) = and_from _ _ (eq-eqb x x refl) (bytes_self xs)

-- what was stored for the request is found
stored_found : (fetch : Fetch) (from : ℕ) (request body : List ℕ) (old new : List StoredBody) → new ≡ keeping old from request body → from ≡ fetch.peer → request ≡ fetch.request
    → stored_of fetch.peer fetch.request new ≡ Some (record { peer = from; request = request; body = body })
stored_found fetch from request body old new made of_peer of_request =
    let mine : StoredBody = record { peer = from; request = request; body = body } in
    subst (λ n. stored_of n fetch.request new ≡ Some mine) of_peer (subst (λ bytes. stored_of from bytes new ≡ Some mine) of_request
    (ap (stored_of from request) made ∙ stored_new from request old mine (and_from _ _ (eq-eqb from from refl) (bytes_self request))))

first_made : (fetch : Fetch) (asked : Asked) (m : CoapMessage) (old new : List StoredBody) (leaves : List ℕ) (block : BlockOption) → IsAnswered (first block) asked m old leaves new → leaves ≡ spelling (cut_to m block m.payload) → m.code ≡ 69
    → asked.peer ≡ fetch.peer → asked.request ≡ fetch.request → stored_of fetch.peer fetch.request new ≡ Some (record { peer = asked.peer; request = asked.request; body = m.payload })
first_made fetch asked m old new leaves block (inl made) content code peer request = stored_found fetch asked.peer asked.request m.payload old new made.1 peer request
first_made fetch asked m old new leaves block (inr made) content code peer request =
    let other : m.code ≡ 160 = second (cut_to m block m.payload) (unavailable m) (sym content ∙ made.0) in
    absurd (omega (arith, code, other))

first_fetched : (fetch : Fetch) (old new : Blocks) (inner outer : WireAct) (block : BlockOption) (text : List ℕ) → IsFetched fetch 0 old inner outer new block text → (body : StoredBody) × Fetched fetch 0 new block text body
first_fetched fetch old new (gave (owned.To to leaves) done) (gave (owned.To peer bytes) was) block text fetched =
    let reply = fetched.reply in
    elim (answer_cases old.stored reply.asked reply.message block text fetched.cut) [
      | inl made ↦
          let answered = subst (λ answer. IsAnswered answer reply.asked reply.message old.stored leaves new.stored) made.0 reply.answered in
          let content = subst (λ whole. leaves ≡ spelling (cut_to reply.message block whole)) made.2 fetched.content in
          let code = content_code reply.asked peer reply.message reply.reply in (
            record { peer = reply.asked.peer; request = reply.asked.request; body = reply.message.payload },
            record { text_is = made.2; holds = first_made fetch reply.asked reply.message old.stored new.stored leaves block answered content code fetched.of_peer fetched.of_request; number_is = fetched.numbered; size_is = fetched.sized },
          )
      | inr made ↦ absurd (made.0 fetched.numbered)
    ]
first_fetched fetch old new (gave (owned.To to leaves) done) (gave (owned.Conn c b) was) block text fetched = absurd fetched
first_fetched fetch old new (gave (owned.To to leaves) done) (gave (owned.Close c) was) block text fetched = absurd fetched
first_fetched fetch old new (gave (owned.To to leaves) done) (took e t) block text fetched = absurd fetched
first_fetched fetch old new (gave (owned.Conn c b) done) outer block text fetched = absurd fetched
first_fetched fetch old new (gave (owned.Close c) done) outer block text fetched = absurd fetched
first_fetched fetch old new (took e t) outer block text fetched = absurd fetched

-- block 0 came as a notification
notice_fetched : (fetch : Fetch) (old new : Blocks) (inner outer : WireAct) (block : BlockOption) (text : List ℕ) → IsNotice fetch old inner outer new block text → (body : StoredBody) × Fetched fetch 0 new block text body
notice_fetched fetch old new (gave (owned.To to leaves) done) (gave (owned.To peer bytes) was) block text came =
    let notice = came.notifies in
    let left : leaves ≡ spelling (cut_to notice.message first_block notice.message.payload)
    = subst (λ whole. leaves ≡ spelling (cut_to notice.message first_block whole)) came.whole (subst (λ b. leaves ≡ spelling (cut_to notice.message b text)) came.made came.content) in
    elim notice.notified [
      | inl made ↦ (
        record { peer = notice.observed.peer; request = notice.observed.request; body = notice.message.payload },
        record {
          text_is = came.whole;
          holds = stored_found fetch notice.observed.peer notice.observed.request notice.message.payload old.stored new.stored made.1 came.of_peer came.of_request;
          number_is = ap (λ b. b.number) came.made;
          size_is = came.sized;
        },
      )
      | inr made ↦ absurd (never_whole old.observed peer notice.message notice.observed notice.of notice.is (sym made.0 ∙ left))
    ]
notice_fetched fetch old new (gave (owned.To to leaves) done) (gave (owned.Conn c b) was) block text came = absurd came
notice_fetched fetch old new (gave (owned.To to leaves) done) (gave (owned.Close c) was) block text came = absurd came
notice_fetched fetch old new (gave (owned.To to leaves) done) (took e t) block text came = absurd came
notice_fetched fetch old new (gave (owned.Conn c b) done) outer block text came = absurd came
notice_fetched fetch old new (gave (owned.Close c) done) outer block text came = absurd came
notice_fetched fetch old new (took e t) outer block text came = absurd came

first_of : (fetch : Fetch) (old new : Blocks) (inner outer : WireAct) (block : BlockOption) (text : List ℕ) → IsFetched fetch 0 old inner outer new block text ⊎ IsNotice fetch old inner outer new block text
    → (body : StoredBody) × Fetched fetch 0 new block text body
first_of fetch old new inner outer block text (inl fetched) = first_fetched fetch old new inner outer block text fetched
first_of fetch old new inner outer block text (inr came) = notice_fetched fetch old new inner outer block text came

later_fetched : (fetch : Fetch) (number : ℕ) (old new : Blocks) (inner outer : WireAct) (block : BlockOption) (text : List ℕ) (body : StoredBody) → IsFetched fetch number old inner outer new block text → 0 < number → HasStored fetch old body
    → Fetched fetch number new block text body
later_fetched fetch number old new (gave (owned.To to leaves) done) (gave (owned.To peer bytes) was) block text body fetched above holds =
    let reply = fetched.reply in
    elim (answer_cases old.stored reply.asked reply.message block text fetched.cut) [
      | inl made ↦ absurd (omega (arith, made.1, fetched.numbered, above))
      | inr made ↦
          let known : stored_of reply.asked.peer reply.asked.request old.stored ≡ Some body = ap (λ n. stored_of n reply.asked.request old.stored) fetched.of_peer ∙ ap (λ bytes. stored_of fetch.peer bytes old.stored) fetched.of_request ∙ holds in
          let answered = subst (λ answer. IsAnswered answer reply.asked reply.message old.stored leaves new.stored) made.2 reply.answered in
          record { text_is = made.1 ∙ ap (λ stored. body_or stored reply.message.payload) known; holds = same_stored fetch old new body answered.1 holds; number_is = fetched.numbered; size_is = fetched.sized }
    ]
later_fetched fetch number old new (gave (owned.To to leaves) done) (gave (owned.Conn c b) was) block text body fetched above holds = absurd fetched
later_fetched fetch number old new (gave (owned.To to leaves) done) (gave (owned.Close c) was) block text body fetched above holds = absurd fetched
later_fetched fetch number old new (gave (owned.To to leaves) done) (took e t) block text body fetched above holds = absurd fetched
later_fetched fetch number old new (gave (owned.Conn c b) done) outer block text body fetched above holds = absurd fetched
later_fetched fetch number old new (gave (owned.Close c) done) outer block text body fetched above holds = absurd fetched
later_fetched fetch number old new (took e t) outer block text body fetched above holds = absurd fetched

-- ---- the parts are joined

drop_past : (n : ℕ) (xs : List ℕ) → length xs ≤ n → drop n xs ≡ []
drop_past zero [] le = refl
drop_past (suc n) [] le = refl
drop_past zero (x ∷ xs) le = absurd (omega (arith, le))
drop_past (suc n) (x ∷ xs) le = drop_past n xs (omega (arith, le))

next_start : (n s : ℕ) → (n + 1) * s ≡ n * s + s
next_start n s = grind arith

join_step : (n s : ℕ) (body part rest : List ℕ) → part ≡ take s (drop (n * s) body) → rest ≡ drop ((n + 1) * s) body → part ++ rest ≡ drop (n * s) body
join_step n s body part rest part_is rest_is =
    ap (λ front. front ++ rest) part_is ∙ ap (λ back. take s (drop (n * s) body) ++ back) (rest_is ∙ ap (λ k. drop k body) (next_start n s) ∙ sym (drop-drop s (n * s) body))
    ∙ take-append-drop s (drop (n * s) body)

part_step : (fetch : Fetch) (number : ℕ) (new : Blocks) (block : BlockOption) (text : List ℕ) (body : StoredBody) → Fetched fetch number new block text body
    → part_of text block ≡ take (block_size fetch.exponent) (drop (number * block_size fetch.exponent) body.body)
part_step fetch number new block text body f =
    ap (λ whole. part_of whole block) f.text_is ∙ ap (λ n. take (block_size block.exponent) (drop (n * block_size block.exponent) body.body)) f.number_is
    ∙ ap (λ e. take (block_size e) (drop (number * block_size e) body.body)) f.size_is

more_step : (fetch : Fetch) (number : ℕ) (new : Blocks) (block : BlockOption) (text : List ℕ) (body : StoredBody) → Fetched fetch number new block text body
    → follows text block ≡ nat_lt ((number + 1) * block_size fetch.exponent) (length body.body)
more_step fetch number new block text body f =
    ap (λ whole. follows whole block) f.text_is ∙ ap (λ n. nat_lt (n * block_size block.exponent + block_size block.exponent) (length body.body)) f.number_is
    ∙ ap (λ e. nat_lt (number * block_size e + block_size e) (length body.body)) f.size_is ∙ ap (λ k. nat_lt k (length body.body)) (sym (next_start number (block_size fetch.exponent)))

rest_joins : (fetch : Fetch) (number : ℕ) (more : Bool) (old : Blocks) (inners outers : List Timed) (parts : List (List ℕ)) (body : StoredBody) → FetchesRest fetch number more old inners outers parts → 0 < number → HasStored fetch old body
    → more ≡ nat_lt (number * block_size fetch.exponent) (length body.body) → concat parts ≡ drop (number * block_size fetch.exponent) body.body
rest_joins fetch number more old [] [] parts body rest above holds more_is =
    ap concat rest.1 ∙ sym (drop_past (number * block_size fetch.exponent) body.body (ltb-false _ _ (sym more_is ∙ rest.0)))
rest_joins fetch number more old [] (o ∷ outers) parts body rest above holds more_is = absurd rest
rest_joins fetch number more old (i ∷ inners) [] parts body rest above holds more_is = absurd rest
rest_joins fetch number more old (i ∷ inners) (o ∷ outers) parts body rest above holds more_is = elim rest.2 [
  | inl other ↦ rest_joins fetch number more rest.0 inners outers parts body other.1 above (act_still fetch old rest.0 i.act o.act body rest.1 other.0 holds) more_is
  | inr part ↦
      let f = later_fetched fetch number old rest.0 i.act o.act part.0 part.1 body part.3 above holds in
      let others = rest_joins fetch (number + 1) (follows part.1 part.0) rest.0 inners outers part.2 body part.5 (omega arith) f.holds (more_step fetch number rest.0 part.0 part.1 body f) in
      ap concat part.4 ∙ join_step number (block_size fetch.exponent) body.body (part_of part.1 part.0) (concat part.2) (part_step fetch number rest.0 part.0 part.1 body f) others
]

pub all_join : (fetch : Fetch) (old : Blocks) (inner outer : Timed) (inners outers : List Timed) (text : List ℕ) (parts : List (List ℕ)) → Fetches fetch old inner outer inners outers text parts → concat parts ≡ text
all_join fetch old inner outer inners outers text parts fetches =
    let begun = first_of fetch old fetches.mid inner.act outer.act fetches.block text fetches.begins in
    let body = begun.0 in
    let f = begun.1 in
    let others = rest_joins fetch 1 (follows text fetches.block) fetches.mid inners outers fetches.rest body fetches.goes_on (omega arith) f.holds (more_step fetch 0 fetches.mid fetches.block text body f) in
    let none : 0 * block_size fetch.exponent ≡ 0 = omega arith in
    ap concat fetches.parts_are ∙ join_step 0 (block_size fetch.exponent) body.body (part_of text fetches.block) (concat fetches.rest) (part_step fetch 0 fetches.mid fetches.block text body f) others
    ∙ ap (λ n. drop n body.body) none ∙ sym f.text_is
