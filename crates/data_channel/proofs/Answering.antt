-- Answers that depend on the body, and which of them are want of memory.
use Rattle.std.proofs.Common.{◌≡◌, ℕ, List, true, false, refl, sym, Option, Some, None, Result, Ok, Err}
use Rattle.serde_json.specs.Data.{Data}
use Rattle.data_channel.specs.declared.reject.RestReject.{RestReject}
use Rattle.data_channel.specs.declared.reject.RestReject.TheVariants as reject
use Rattle.data_channel.specs.declared.request.Head.TheVariants.{Plain, Wants}
use Rattle.data_channel.specs.declared.request.RestRequest.{RestRequest}
use Rattle.data_channel.specs.declared.request.Wanted.{Wanted}
use Rattle.data_channel.specs.Bodies.{whole_request}
use Rattle.http_cut.specs.Requests.{Request}
use Rattle.data_channel.specs.Heads.{Fails, Gives, Fulfils, UnlessNoMemory, IsHead, is_yang_json}
use Rattle.data_channel.specs.Rest.{IsJson, rest_result, with_json, IsAnswer, Rest}

pub fulfils : (e : RestReject) {P : Type 0} → P → Fulfils e P
fulfils reject.NotFound p = p
fulfils reject.BadName p = p
fulfils reject.Query p = p
fulfils (reject.Method allow) p = p
fulfils reject.Media p = p
fulfils reject.NotJson p = p
fulfils (reject.Body fault) p = p
fulfils reject.NoMemory p = tt

pub fulfils_more : (e : RestReject) {P Q : Type 0} → (P → Q) → Fulfils e P → Fulfils e Q
fulfils_more reject.NotFound f p = f p
fulfils_more reject.BadName f p = f p
fulfils_more reject.Query f p = f p
fulfils_more (reject.Method allow) f p = f p
fulfils_more reject.Media f p = f p
fulfils_more reject.NotJson f p = f p
fulfils_more (reject.Body fault) f p = f p
fulfils_more reject.NoMemory f p = tt

pub failed : {A : Type 0} (e : RestReject) (read : Result A RestReject) → Fails e read → Fulfils e (read ≡ Err e)
failed reject.NotFound read is = is
failed reject.BadName read is = is
failed reject.Query read is = is
failed (reject.Method allow) read is = is
failed reject.Media read is = is
failed reject.NotJson read is = is
failed (reject.Body fault) read is = is
failed reject.NoMemory read is = tt

-- the media type of another body
pub other_media : (wanted : Wanted) (media : Option (List ℕ)) (body : List ℕ) → is_yang_json media ≡ false → IsAnswer wanted media body (Err reject.Media)
other_media wanted media body other = rw other refl

-- a body that is a value, or none
pub body_answers : (wanted : Wanted) (media : Option (List ℕ)) (body : List ℕ) (json : Option Data) (answer : Result RestRequest RestReject)
    → is_yang_json media ≡ true → IsJson body json → with_json wanted json ≡ answer → IsAnswer wanted media body answer
body_answers wanted media body json answer known is read = rw known (json, is, sym read)

pub value_answers : (wanted : Wanted) (media : Option (List ℕ)) (body : List ℕ) (d : Data) (answer : Result RestRequest RestReject)
    → is_yang_json media ≡ true → IsJson body (Some d) → Gives answer (rest_result (whole_request wanted d)) → UnlessNoMemory answer (IsAnswer wanted media body answer)
value_answers wanted media body d (Ok request) known is read = body_answers wanted media body (Some d) (Ok request) known is read
value_answers wanted media body d (Err e) known is read =
    fulfils_more e (λ (r : rest_result (whole_request wanted d) ≡ Err e). body_answers wanted media body (Some d) (Err e) known is r) (failed e (rest_result (whole_request wanted d)) read)

pub no_json_answers : (wanted : Wanted) (media : Option (List ℕ)) (body : List ℕ) (e : RestReject)
    → is_yang_json media ≡ true → Fulfils e ((e ≡ reject.NotJson) × IsJson body None) → Fulfils e (IsAnswer wanted media body (Err e))
no_json_answers wanted media body e known is =
    fulfils_more e (λ (r : (e ≡ reject.NotJson) × IsJson body None). body_answers wanted media body None (Err e) known r.1 (rw r.0 refl)) is

-- what a head decides alone, and what it leaves to the body
pub refused_head : (request : Request) (e : RestReject) → Fulfils e (IsHead request.method request.target (Err e)) → Fulfils e (Rest request (Err e))
refused_head request e is = fulfils_more e (λ (h : IsHead request.method request.target (Err e)). (Err e, h, refl)) is

pub plain_head : (request : Request) (asked : RestRequest) → IsHead request.method request.target (Ok (Plain asked)) → Rest request (Ok asked)
plain_head request asked is = (Ok (Plain asked), is, refl)

pub wanted_head : (request : Request) (wanted : Wanted) (answer : Result RestRequest RestReject)
    → IsHead request.method request.target (Ok (Wants wanted)) → UnlessNoMemory answer (IsAnswer wanted request.media request.body answer) → UnlessNoMemory answer (Rest request answer)
wanted_head request wanted (Ok asked) is fact = (Ok (Wants wanted), is, fact)
wanted_head request wanted (Err e) is fact = fulfils_more e (λ (f : IsAnswer wanted request.media request.body (Err e)). (Ok (Wants wanted), is, f)) fact
