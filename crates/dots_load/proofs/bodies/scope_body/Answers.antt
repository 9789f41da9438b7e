use Rattle.std.proofs.Common.{◌≡◌, ◌∙◌, List, ℕ, length, ◌≤◌, arith, ap, sym, subst}
use Rattle.std.proofs.lemmas.Result.{IfOk-weaker}
use Rattle.cbor_profile.specs.Canon.{canon}
use Rattle.cbor_profile.specs.Tree.{Tree}
use Rattle.cbor_profile.specs.ItemTrees.{tree_of}
use Rattle.dots_load.specs.Requests.{scope_tree, prefix_text}
use Rattle.dots_load.proofs.Scopes.{scope_valid, scope_short, prefix_utf8, prefix_short}
use Rattle.dots_load.proofs.bodies.scope_body.Goals as goal

pub encode-requires : goal.encode-requires
encode-requires c =
    let text = prefix_text c.args.domain c.args.third in
    let prefix : c.from_string.result ≡ text = c.from_string.ensures ∙ c.in_ok-prefix.ensures.ok in
    let item : tree_of c.in_ok-body.body ≡ scope_tree text c.args.lifetime = c.in_ok-body.ensures ∙ ap (λ (p : List ℕ). scope_tree p c.args.lifetime) prefix in
    let few = prefix_short c.args.domain c.args.third c.requires.domain c.requires.third in
    rw item (scope_valid text c.args.lifetime (prefix_utf8 c.args.domain c.args.third c.requires.domain c.requires.third) (omega (arith, few)) (omega (arith, c.requires.lifetime)))

pub returns-clause-body : goal.returns-clause-body
returns-clause-body c =
    let text = prefix_text c.args.domain c.args.third in
    let prefix : c.from_string.result ≡ text = c.from_string.ensures ∙ c.in_ok-prefix.ensures.ok in
    let item : tree_of c.in_ok-body.body ≡ scope_tree text c.args.lifetime = c.in_ok-body.ensures ∙ ap (λ (p : List ℕ). scope_tree p c.args.lifetime) prefix in
    IfOk-weaker c.encode.result _ _ (λ body is. is ∙ ap (λ (t : Tree). canon t) item) c.encode.ensures

pub returns-clause-short : goal.returns-clause-short
returns-clause-short c =
    let text = prefix_text c.args.domain c.args.third in
    let prefix : c.from_string.result ≡ text = c.from_string.ensures ∙ c.in_ok-prefix.ensures.ok in
    let item : tree_of c.in_ok-body.body ≡ scope_tree text c.args.lifetime = c.in_ok-body.ensures ∙ ap (λ (p : List ℕ). scope_tree p c.args.lifetime) prefix in
    let few = prefix_short c.args.domain c.args.third c.requires.domain c.requires.third in
    let short : length (canon (scope_tree text c.args.lifetime)) ≤ 64 = scope_short text c.args.lifetime few c.requires.lifetime in
    IfOk-weaker c.encode.result _ _ (λ body is. subst (λ (b : List ℕ). length b ≤ 64) (sym (is ∙ ap (λ (t : Tree). canon t) item)) short) c.encode.ensures
