use Rattle.std.proofs.Common.{◌≡◌, Bool, true, rules, take, subst, sym}
use Rattle.std.specs.Prelude.{List, ℕ, ◌++◌, if◌then◌else◌}
use Rattle.std.specs.Result.{is_ok}
use Rattle.http_cut.specs.Places.{IsKnown}
use Rattle.http_cut.proofs.Needs.{known_still}
use Rattle.http_cut.proofs.stream.Stream.take.Goals as goal

pub invariant_of-self : goal.invariant_of-self
invariant_of-self c =
    let buffered = c.self.inside.bytes.items in
    let came = take c.min-count.result c.args.piece.now in
    let place = c.behind-self-inside.result in
    let known : IsKnown (buffered ++ came) place c.self.inside.needed = known_still buffered came c.self.inside.place place c.self.inside.needed c.self.invariant.2 (search rules) in
    let done : is_ok c.extend_from_slice.result ≡ true = search rules in
    let buffered_now : IsKnown (if is_ok c.extend_from_slice.result then buffered ++ came else buffered) place c.self.inside.needed =
    subst (λ (b : Bool). IsKnown (if b then buffered ++ came else buffered) place c.self.inside.needed) (sym done) known in
    (search rules, search rules, subst (λ (y : List ℕ). IsKnown y place c.self.inside.needed) (sym c.extend_from_slice.ensures.items) buffered_now)
