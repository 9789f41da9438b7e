-- What an entry makes of the live mitigations of a domain.
use Rattle.std.proofs.Common.{◌≡◌, true, false, List, [], ◌∷◌, ◌++◌, map, Option, Some, None, refl, ap, ◌∙◌}
use Rattle.std.proofs.lemmas.List.Elements.{filter-append}
use Rattle.std.proofs.lemmas.Bool.{cond-false, true≢false}
use Rattle.dots_history.specs.declared.entry.Entry.{Entry}
use Rattle.dots_history.specs.declared.status.Status.{Status}
use Rattle.dots_history.specs.declared.status.Status.TheVariants.{Ended, Open, Withdrawn}
use Rattle.dots_history.specs.declared.put.Put.{Put}
use Rattle.dots_history.specs.Entries.{same_client, put_of, option_any, ends, withdraws}
use Rattle.dots_history.specs.Histories.{Mitigation, live, step}
use Rattle.dots_history.specs.Keeping.{moved}
use Rattle.dots_history.specs.Tables.{bare}
use Rattle.dots_history.specs.Views.{mitigations_at, mitigations_with}
use Rattle.dots_history.proofs.Touching.{never_live}
use Rattle.live_mitigations.specs.Rows.{of_entry, moved_all}
use Rattle.live_mitigations.specs.LiveValues.{puts}

-- an entry does the same without its message and reply
step_bare : (put : Entry) (s : Status) (e : Entry) → step put s (bare e) ≡ step put s e
unfolding ends withdraws same_client
step_bare put Ended e = refl
step_bare put Open e = refl
step_bare put (Withdrawn at) e = refl

moved_bare : (e : Entry) (ms : List Mitigation) → map (moved (bare e)) ms ≡ map (moved e) ms
moved_bare e [] = refl
moved_bare e (m ∷ ms) =
    ap (λ s. record { put = m.put; status = s } ∷ map (moved (bare e)) ms) (step_bare m.put m.status e)
    ∙ ap (λ rest. moved e m ∷ rest) (moved_bare e ms)

pub moved_all_bare : (e : Entry) (ms : List Mitigation) → moved_all (bare e) ms ≡ moved_all e ms
moved_all_bare e ms = ap (mitigations_at e.time) (moved_bare e ms)

-- what is left, and then its own
pub grown_rows : (e : Entry) (ms : List Mitigation) → mitigations_with (bare e) ms ≡ mitigations_at e.time (map (moved e) ms) ++ of_entry (bare e)
grown_rows e ms =
    filter-append (λ (m : Mitigation). live e.time m.put m.status) (map (moved (bare e)) ms) (record { put = bare e; status = Open } ∷ [])
    ∙ ap (λ xs. xs ++ of_entry (bare e)) (moved_all_bare e ms)

-- an entry that puts no mitigation has none
pub none_put : (e : Entry) → put_of e.change ≡ None → of_entry (bare e) ≡ []
none_put e none =
    cond-false (live e.time (bare e) Open) (record { put = bare e; status = Open } ∷ []) [] (never_live e.time (bare e) Open none)

pub puts_none : (e : Entry) → puts e ≡ false → put_of e.change ≡ None
puts_none e none = by_put (put_of e.change) none
  where
    by_put : (o : Option Put) → option_any (λ (put : Put). true) o ≡ false → o ≡ None
    by_put None is = refl
    by_put (Some put) is = absurd (true≢false is)
