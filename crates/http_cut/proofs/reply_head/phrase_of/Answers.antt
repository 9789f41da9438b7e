use Rattle.std.proofs.Common.{ℕ, ◌≤◌, List, length, refl, sym, ap, subst, ◌∙◌}
use denote.Ref.{Bor}
use Rattle.http.specs.StatusCode.{reason_phrase}
use Rattle.http_cut.proofs.Statuses.{reply_status, phrase_is}
use Rattle.http_cut.proofs.reply_head.phrase_of.Goals as goal

pub returns-in-Ok-clause-phrase : goal.returns-in-Ok-clause-phrase
returns-in-Ok-clause-phrase c =
    phrase_is (λ (s : Bor (List ℕ)). s.now) c.canonical_reason.result _ c.unwrap_or.result c.args.status (c.canonical_reason.ensures.value ∙ ap reason_phrase c.in-Ok.ensures.1) refl c.unwrap_or.ensures

pub returns-in-Ok-clause-size : goal.returns-in-Ok-clause-size
returns-in-Ok-clause-size c =
    let phrase = phrase_is (λ (s : Bor (List ℕ)). s.now) c.canonical_reason.result _ c.unwrap_or.result c.args.status (c.canonical_reason.ensures.value ∙ ap reason_phrase c.in-Ok.ensures.1) refl c.unwrap_or.ensures in
    subst (λ (y : List ℕ). length y ≤ 22) (sym phrase) (reply_status c.args.status c.requires).1

pub returns-in-Err-clause-phrase : goal.returns-in-Err-clause-phrase
returns-in-Err-clause-phrase c = absurd (c.in-Err.ensures (reply_status c.args.status c.requires).0)
