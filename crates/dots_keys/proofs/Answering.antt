-- Answers that depend on the body, and which of them are want of memory.
use Rattle.std.proofs.Common.{◌≡◌, ℕ, List, refl, sym, ap, Ok, Err, Result}
use Rattle.cbor_profile.specs.Spelling.{Spells}
use Rattle.cbor_profile.specs.Tree.{Tree}
use Rattle.dots_keys.specs.declared.reject.Reject.{Reject}
use Rattle.dots_keys.specs.declared.reject.Reject.TheVariants as reject
use Rattle.dots_keys.specs.declared.request.Request.{Request}
use Rattle.dots_keys.specs.Meaning.{IsBody, AnswersBody}
use Rattle.dots_keys.specs.Results.{◌>>=◌, Fails, Fulfils}

pub fulfils : (e : Reject) {P : Type 0} → P → Fulfils e P
fulfils (reject.Critical number) p = p
fulfils reject.Path p = p
fulfils reject.Method p = p
fulfils reject.HopLimit p = p
fulfils reject.Parameter p = p
fulfils reject.Accept p = p
fulfils reject.Format p = p
fulfils reject.Query p = p
fulfils (reject.Body cause) p = p
fulfils reject.NoMemory p = tt

pub fulfils_more : (e : Reject) {P Q : Type 0} → (P → Q) → Fulfils e P → Fulfils e Q
fulfils_more (reject.Critical number) f p = f p
fulfils_more reject.Path f p = f p
fulfils_more reject.Method f p = f p
fulfils_more reject.HopLimit f p = f p
fulfils_more reject.Parameter f p = f p
fulfils_more reject.Accept f p = f p
fulfils_more reject.Format f p = f p
fulfils_more reject.Query f p = f p
fulfils_more (reject.Body cause) f p = f p
fulfils_more reject.NoMemory f p = tt

pub failed : {A : Type 0} (e : Reject) (read : Result A Reject) → Fails e read → Fulfils e (read ≡ Err e)
failed (reject.Critical number) read is = is
failed reject.Path read is = is
failed reject.Method read is = is
failed reject.HopLimit read is = is
failed reject.Parameter read is = is
failed reject.Accept read is = is
failed reject.Format read is = is
failed reject.Query read is = is
failed (reject.Body cause) read is = is
failed reject.NoMemory read is = tt

-- the payload is no body
pub refused_payload : (payload : List ℕ) (read : Tree → Result Request Reject) (e : Reject) → Fulfils e (IsBody payload (Err e)) → Fulfils e (AnswersBody payload read (Err e))
refused_payload payload read e is = fulfils_more e (λ (body : IsBody payload (Err e)). (Err e, body, refl)) is

-- the payload is a body, which is read so
pub answers : (payload : List ℕ) (read : Tree → Result Request Reject) (tree : Tree) (answer : Result Request Reject) → Spells payload tree 0 → read tree ≡ answer → AnswersBody payload read answer
answers payload read tree answer spelled is = (Ok tree, spelled, sym is)

abbrev pub wrapped : {A : Type 0} → (Tree → Result A Reject) → (A → Request) → Tree → Result Request Reject
wrapped parse wrap tree = parse tree >>= λ value. Ok (wrap value)

pub answers_value : {A : Type 0} (payload : List ℕ) (parse : Tree → Result A Reject) (wrap : A → Request) (tree : Tree) (value : A) → Spells payload tree 0 → parse tree ≡ Ok value
    → AnswersBody payload (wrapped parse wrap) (Ok (wrap value))
answers_value {A = A} payload parse wrap tree value spelled is = (Ok tree, spelled, sym (ap (λ (r : Result A Reject). r >>= λ value. Ok (wrap value)) is))

pub answers_refusal : {A : Type 0} (payload : List ℕ) (parse : Tree → Result A Reject) (wrap : A → Request) (tree : Tree) (e : Reject) → Spells payload tree 0 → parse tree ≡ Err e
    → AnswersBody payload (wrapped parse wrap) (Err e)
answers_refusal {A = A} payload parse wrap tree e spelled is = (Ok tree, spelled, sym (ap (λ (r : Result A Reject). r >>= λ value. Ok (wrap value)) is))
