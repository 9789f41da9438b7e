-- What a request of a client means.
use Rattle.std.proofs.Common.{◌≡◌, ℕ, ℤ, ◌<◌, ◌^◌, Bool, true, false, List, [], Some, None, Ok, Err, refl, sym, ap, subst, ◌∙◌}
use Rattle.std.specs.Prelude.{IsTrue, if◌then◌else◌}
use Rattle.acl_lists.specs.declared.asked.Asked.{Asked}
use Rattle.cbor_profile.specs.Canon.{canon}
use Rattle.cbor_profile.specs.Tree.{Tree}
use Rattle.cbor_profile.specs.Valid.{IsValid}
use Rattle.cbor_profile.specs.Spelling.{Spells}
use Rattle.dots_keys.specs.declared.head_request.MitigationPath.{MitigationPath}
use Rattle.dots_keys.specs.Operations.{is_client_name}
use Rattle.dots_keys.specs.Results.{◌>>=◌, missing}
use Rattle.dots_keys.specs.declared.request.MitigationBody.{MitigationBody}
use Rattle.dots_keys.specs.declared.request.Request.TheVariants as request
use Rattle.dots_keys.specs.Meaning.{AnswersBody, ReadsAs, Means, put_mitigation_with}
use Rattle.dots_keys.specs.Mitigations.{has_target}
use Rattle.reply_bodies.specs.Requests.{request_tree}
use Rattle.dots_client.specs.Asked.{CanAsk, asked_for, withdrawn}
use Rattle.dots_client.specs.Grants.{IsGranted}
use Rattle.dots_client.specs.Requests.{asking, withdrawing}
use Rattle.dots_client.proofs.Bodies.{is_read}
use Rattle.dots_client.proofs.Heads.{asking_head, withdrawing_head}

either : (b : Bool) (path : MitigationPath) (body : MitigationBody)
    → ((if b then Ok body else Err (missing 6)) >>= λ body. Ok (request.PutMitigation path body)) ≡ (if b then Ok (request.PutMitigation path body) else Err (missing 6))
either true path body = refl
either false path body = refl

pub asking_means : ((tree : Tree) → IsValid tree → Spells (canon tree) tree 0) → (number mid : ℕ) (cuid : List ℕ) (asked : Asked) (lifetime : ℤ)
    → IsTrue (is_client_name cuid) → mid < 2 ^ 32 → CanAsk asked → IsGranted lifetime → IsValid (request_tree asked lifetime)
    → Means (asking number cuid mid asked lifetime) false (asked_for cuid mid asked lifetime)
asking_means spells number mid cuid asked lifetime named below is lasts valid =
    let path : MitigationPath = record { cdid = None; cuid = cuid; mid = Some mid } in
    let body : AnswersBody (canon (request_tree asked lifetime)) (put_mitigation_with path) (asked_for cuid mid asked lifetime) = (
      Ok (request_tree asked lifetime),
      spells (request_tree asked lifetime) valid,
      sym (ap (λ r. r >>= λ body. Ok (request.PutMitigation path body)) (is_read false asked lifetime is lasts) ∙ either (has_target asked) path (record { asked = asked; lifetime = lifetime; trigger = true })),
    ) in
    subst (λ head. ReadsAs head (canon (request_tree asked lifetime)) (asked_for cuid mid asked lifetime)) (sym (asking_head number mid cuid asked lifetime named below)) body

pub withdrawing_means : (number mid : ℕ) (cuid : List ℕ) → IsTrue (is_client_name cuid) → mid < 2 ^ 32
    → Means (withdrawing number cuid mid) false (withdrawn cuid mid)
withdrawing_means number mid cuid named below =
    subst (λ head. ReadsAs head [] (withdrawn cuid mid)) (sym (withdrawing_head number mid cuid named below)) refl
