-- A message has one meaning.
use Rattle.std.proofs.Common.{◌≡◌, ℕ, Bool, List, [], ◌∷◌, ◌++◌, length, Result, Ok, Err, refl, sym, ap, ◌∙◌, append-nil, inl, inr}
use Rattle.cbor_profile.specs.declared.fault.CborFault.{CborFault}
use Rattle.cbor_profile.specs.declared.fault.CborFault.TheVariants.{Trailing}
use Rattle.cbor_profile.specs.Breaking.{Breaks, Refuses}
use Rattle.cbor_profile.specs.Spelling.{Spells}
use Rattle.cbor_profile.specs.Tree.{Tree}
use Rattle.coap_message.specs.Message.{CoapMessage}
use Rattle.dots_keys.specs.declared.reject.Reject.{Reject}
use Rattle.dots_keys.specs.declared.reject.Reject.TheVariants as reject
use Rattle.dots_keys.specs.declared.reject.Cause.TheVariants as cause
use Rattle.dots_keys.specs.declared.head_request.Content.{Content}
use Rattle.dots_keys.specs.declared.head_request.Observe.{Observe}
use Rattle.dots_keys.specs.declared.request.Request.{Request}
use Rattle.dots_keys.specs.Heads.{Head, head_of}
use Rattle.dots_keys.specs.Meaning.{IsBody, AnswersBody, Completes, ReadsAs, Means, put_mitigation_with, put_config_with, put_heartbeat_with}
use Rattle.dots_keys.specs.Operations.{Operation, put_mitigation, get_mitigation, delete_mitigation, put_config, get_config, delete_config, put_heartbeat}
use Rattle.dots_keys.specs.Results.{◌>>=◌}

-- no spelling is the front of another, and the payload has one fault or a spelled front
pub record OneReading (payload : List ℕ) : Type 0 where
  pub spelling : (s t : Tree) (a b x y : List ℕ) → Spells a s 0 → Spells b t 0 → a ++ x ≡ b ++ y → (a ≡ b) × (s ≡ t) × (x ≡ y)
  pub fault : (f g : CborFault) → Breaks payload 0 f → Breaks payload 0 g → f ≡ g
  pub not_both : (front rest : List ℕ) (tree : Tree) (f : CborFault) → payload ≡ front ++ rest → Spells front tree 0 → Breaks payload 0 f → ⊥

one_tree : (payload : List ℕ) (s t : Tree) → OneReading payload → Spells payload s 0 → Spells payload t 0 → s ≡ t
one_tree payload s t one a b = (one.spelling s t payload payload [] [] a b refl).1

not_refused : (payload : List ℕ) (tree : Tree) (f : CborFault) → OneReading payload → Spells payload tree 0 → Refuses payload f → ⊥
not_refused payload tree f one spelled (inl breaks) = one.not_both payload [] tree f (sym (append-nil payload)) spelled breaks
not_refused payload tree f one spelled (inr trailing) =
    let rest = (one.spelling tree trailing.tree payload trailing.front [] (trailing.next ∷ trailing.more) spelled trailing.spelled (append-nil payload ∙ trailing.is)).2 in
    absurd (cc)

one_refusal : (payload : List ℕ) (f g : CborFault) → OneReading payload → Refuses payload f → Refuses payload g → f ≡ g
one_refusal payload f g one (inl a) (inl b) = one.fault f g a b
one_refusal payload f g one (inl a) (inr b) = absurd (one.not_both b.front (b.next ∷ b.more) b.tree f b.is b.spelled a)
one_refusal payload f g one (inr a) (inl b) = absurd (one.not_both a.front (a.next ∷ a.more) a.tree g a.is a.spelled b)
one_refusal payload f g one (inr a) (inr b) =
    let same = one.spelling a.tree b.tree a.front b.front (a.next ∷ a.more) (b.next ∷ b.more) a.spelled b.spelled (sym a.is ∙ b.is) in
    a.fault_is ∙ ap (λ (front : List ℕ). Trailing (length front)) same.0 ∙ sym b.fault_is

one_body : (payload : List ℕ) (a b : Result Tree Reject) → OneReading payload → IsBody payload a → IsBody payload b → a ≡ b
one_body payload (Ok s) (Ok t) one x y = ap (λ (t : Tree). Ok t) (one_tree payload s t one x y)
one_body payload (Ok s) (Err e) one x y = absurd (not_refused payload s y.0 one x y.1)
one_body payload (Err d) (Ok t) one x y = absurd (not_refused payload t x.0 one y x.1)
one_body payload (Err d) (Err e) one x y =
    ap (λ (e : Reject). Err e) (x.2 ∙ ap (λ (f : CborFault). reject.Body (cause.Cbor f)) (one_refusal payload x.0 y.0 one x.1 y.1) ∙ sym y.2)

one_answer : (payload : List ℕ) (read : Tree → Result Request Reject) (a b : Result Request Reject) → OneReading payload → AnswersBody payload read a → AnswersBody payload read b → a ≡ b
one_answer payload read a b one x y = x.2 ∙ ap (λ (body : Result Tree Reject). body >>= read) (one_body payload x.0 y.0 one x.1 y.1) ∙ sym y.2

completes_once : (operation : Operation) (content : Content) (observe : Observe) (payload : List ℕ) (a b : Result Request Reject) → OneReading payload
    → Completes operation content observe payload a → Completes operation content observe payload b → a ≡ b
completes_once (put_mitigation path) content observe payload a b one x y = one_answer payload (put_mitigation_with path) a b one x y
completes_once (get_mitigation path) content observe payload a b one x y = x ∙ sym y
completes_once (delete_mitigation path) content observe payload a b one x y = x ∙ sym y
completes_once (put_config sid) content observe payload a b one x y = one_answer payload (put_config_with sid) a b one x y
completes_once (get_config sid) content observe payload a b one x y = x ∙ sym y
completes_once (delete_config sid) content observe payload a b one x y = x ∙ sym y
completes_once put_heartbeat content observe payload a b one x y = one_answer payload put_heartbeat_with a b one x y

answers_once : (head : Result Head Reject) (payload : List ℕ) (a b : Result Request Reject) → OneReading payload → ReadsAs head payload a → ReadsAs head payload b → a ≡ b
answers_once (Ok head) payload a b one x y = completes_once head.operation head.content head.observe payload a b one x y
answers_once (Err e) payload a b one x y = x ∙ sym y

pub means_once : (message : CoapMessage) (gateway : Bool) (a b : Result Request Reject) → OneReading message.payload → Means message gateway a → Means message gateway b → a ≡ b
means_once message gateway a b one x y = answers_once (head_of message gateway) message.payload a b one x y
