use Rattle.std.proofs.Common.{◌≡◌, ◌∙◌, ap, sym, refl, false, true, [], inl, inr}
use Rattle.std.proofs.lemmas.Bool.{false≢true}
use Rattle.dots_server.proofs.Puts.{puts_written, puts_unwritten}
use Rattle.dots_server.proofs.gathering.Gatherer.write.Goals as goal

pub returns-in-Ok : goal.returns-in-Ok
returns-in-Ok g c =
    let failed : c.args.self.now.failed ≡ false = sym (ap (λ gathered. gathered.failed) c.self.view_is) ∙ c.if-self.false in
    let none : c.args.self.now.block ≡ [] = elim c.requires [ inl fails ↦ absurd (false≢true (sym failed ∙ fails)) | inr none ↦ none ] in
    puts_written _ _ c.args.self.now c.args.bytes.now failed none c.in-Ok.ensures.ok c.in-Ok.ensures.cause.same

pub returns-in-Err : goal.returns-in-Err
returns-in-Err g c =
    let failed : c.args.self.now.failed ≡ false = sym (ap (λ gathered. gathered.failed) c.self.view_is) ∙ c.if-self.false in
    let none : c.args.self.now.block ≡ [] = elim c.requires [ inl fails ↦ absurd (false≢true (sym failed ∙ fails)) | inr none ↦ none ] in
    puts_unwritten _ _ c.args.self.now (record { block = []; failed = true }) c.args.bytes.now failed none refl c.in-Err.ensures.err c.in-Err.ensures.cause.later c.in-Err.ensures.cause.rose
