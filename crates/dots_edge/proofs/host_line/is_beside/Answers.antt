use Rattle.std.proofs.Common.{ℕ, List, Some, None, ◌++◌, codes, sym, ap, ◌∙◌}
use Rattle.std.proofs.lemmas.Bool.Decides.{Decides-eqb}
use Rattle.std.proofs.lemmas.Slice.Eq.{strip_suffix_is}
use Rattle.std.specs.Prelude.{bytes_eq}
use Rattle.dots_edge.proofs.PathLemmas.{ends_beside, ends_otherwise}
use Rattle.dots_edge.proofs.host_line.is_beside.Goals as goal

pub returns-in-Some : goal.returns-in-Some
returns-in-Some c =
    let split = strip_suffix_is Decides-eqb c.as_bytes.result.now c.as_bytes-2.result.now (Some c.in-Some.front) c.in-Some.ensures.cases in
    let is = sym c.as_bytes.ensures.value ∙ split ∙ ap (λ (ending : List ℕ). c.in-Some.front.now ++ ending) c.as_bytes-2.ensures.value in
    c.eq.ensures ∙ ap (bytes_eq c.in-Some.front.now) c.as_bytes-in-Some.ensures.value ∙ ends_beside c.args.path.now c.in-Some.front.now c.args.other.now is

pub returns-in-None : goal.returns-in-None
returns-in-None c =
    let none = strip_suffix_is Decides-eqb c.as_bytes.result.now c.as_bytes-2.result.now None c.in-None.ensures.cases in
    ends_otherwise c.args.path.now c.args.other.now
    (λ front is. none front (c.as_bytes.ensures.value ∙ is ∙ ap (λ (ending : List ℕ). front ++ ending) (sym c.as_bytes-2.ensures.value)))
