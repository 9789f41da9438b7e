-- The live mitigations after one more entry, by those before.
use Rattle.std.proofs.Common.{◌≡◌, ℕ, ◌≤◌, Bool, true, false, cond, List, [], ◌∷◌, ◌++◌, filter, map, Some, None, refl, sym, ap, ◌∙◌}
use Rattle.std.specs.Prelude.{option_to_list}
use Rattle.std.proofs.lemmas.Bool.{true≢false, cond-true, cond-false}
use Rattle.dots_history.specs.declared.entry.Entry.{Entry}
use Rattle.dots_history.specs.declared.status.Status.TheVariants.{Open}
use Rattle.dots_history.specs.Histories.{Mitigation, live, if_live, status, step, mitigations}
use Rattle.dots_history.specs.Keeping.{moved}
use Rattle.dots_history.specs.Views.{mitigations_with}
use Rattle.dots_history.proofs.Lasting.{live_no_more, dead_step, status-append}

-- one entry before it, live then or not and live now or not
added : (then_live now : Bool) (p : Mitigation → Bool) (f : Mitigation → Mitigation) (m : Mitigation) (rest tail added_rest : List Mitigation)
    → p (f m) ≡ now → (then_live ≡ false → now ≡ false)
    → added_rest ≡ filter p (map f rest ++ tail)
    → option_to_list (cond now (Some (f m)) None) ++ added_rest ≡ filter p (map f (option_to_list (cond then_live (Some m) None) ++ rest) ++ tail)
added true true p f m rest tail added_rest is over same =
    ap (λ ms. f m ∷ ms) same ∙ sym (cond-true (p (f m)) (f m ∷ filter p (map f rest ++ tail)) (filter p (map f rest ++ tail)) is)
added true false p f m rest tail added_rest is over same =
    same ∙ sym (cond-false (p (f m)) (f m ∷ filter p (map f rest ++ tail)) (filter p (map f rest ++ tail)) is)
added false true p f m rest tail added_rest is over same = absurd (true≢false (over refl))
added false false p f m rest tail added_rest is over same = same

-- the entry itself
alone_added : (now : Bool) (m : Mitigation) → option_to_list (cond now (Some m) None) ++ [] ≡ cond now (m ∷ []) []
alone_added true m = refl
alone_added false m = refl

pub adding : (t : ℕ) (e : Entry) (entries : List Entry) → t ≤ e.time → mitigations e.time (entries ++ e ∷ []) ≡ mitigations_with e (mitigations t entries)
adding t e [] less = alone_added (live e.time e Open) (record { put = e; status = Open })
adding t e (x ∷ later) less =
    let s = status x Open later in
    let next : status x Open (later ++ e ∷ []) ≡ step x s e = status-append x Open later (e ∷ []) in
    ap (λ now. option_to_list (if_live e.time x now) ++ mitigations e.time (later ++ e ∷ [])) next
    ∙ added
    (live t x s)
    (live e.time x (step x s e))
    (λ (m : Mitigation). live e.time m.put m.status)
    (moved e)
    (record { put = x; status = s })
    (mitigations t later)
    (record { put = e; status = Open } ∷ [])
    (mitigations e.time (later ++ e ∷ []))
    refl
    (λ dead. dead_step x s e (live_no_more t e.time x s less dead))
    (adding t e later less)
