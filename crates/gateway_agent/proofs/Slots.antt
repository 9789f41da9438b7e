-- The slots of the exchanges at the end of a store.
use Rattle.std.proofs.Common.{◌≡◌, ℕ, zero, suc, ◌+◌, ◌≤◌, List, [], ◌∷◌, ◌++◌, length, take, drop, refl, sym, ap, subst, ◌∙◌, append_assoc, take-append-drop, length-drop, arith}
use Rattle.std.specs.Prelude.{◌-◌, Some, slice_get, option_to_list}
use Rattle.std.specs.List.{range_with_len}
use Rattle.std.proofs.lemmas.List.{length-append, length-map, length-take-le, drop-map}
use Rattle.std.proofs.lemmas.List.FromFn.{length-range_with_len, get_or-range_with_len}
use Rattle.dots_history.specs.declared.entry.Entry.{Entry}
use Rattle.dots_gateway.specs.declared.exchange.Exchange.{Exchange}
use Rattle.slot_store.specs.Copying.{AreSlots}
use Rattle.slot_journal.specs.DiskEntries.{entries_at}
use Rattle.gateway_agent.specs.Forms.{entries_of}

at_middle : (before : List Entry) (at : ℕ) (e : Entry) (later : List Entry) → at ≡ length before → slice_get (before ++ e ∷ later) at ≡ Some e
at_middle [] zero e later same = refl
at_middle [] (suc k) e later same = absurd (omega (arith, same))
at_middle (x ∷ before) zero e later same = absurd (omega (arith, same))
at_middle (x ∷ before) (suc k) e later same = at_middle before k e later (omega (arith, same))

-- what stands in the last slots
there : (before later : List Entry) (at : ℕ) → at ≡ length before → entries_at (before ++ later) (range_with_len at (length later)) ≡ later
there before [] at same = refl
there before (e ∷ later) at same =
    let long = length-append before (e ∷ []) in
    ap (λ o. option_to_list o ++ entries_at (before ++ e ∷ later) (range_with_len (at + 1) (length later))) (at_middle before at e later same)
    ∙ ap (λ es. e ∷ es)
    (subst (λ all. entries_at all (range_with_len (at + 1) (length later)) ≡ later) (append_assoc before (e ∷ []) later)
    (there (before ++ e ∷ []) later (at + 1) (omega (arith, same, long))))

pub last_there : (xs : List Exchange) (k : ℕ) → k ≤ length xs → entries_at (entries_of xs) (range_with_len k (length xs - k)) ≡ entries_of (drop k xs)
last_there xs k fits =
    let front = length-take-le k (entries_of xs) (subst (λ n. k ≤ n) (sym (length-map xs _)) fits) in
    let many : length xs - k ≡ length (drop k (entries_of xs)) = sym (length-drop k (entries_of xs) ∙ ap (λ n. n - k) (length-map xs _)) in
    ap (λ n. entries_at (entries_of xs) (range_with_len k n)) many
    ∙ ap (λ es. entries_at es (range_with_len k (length (drop k (entries_of xs))))) (sym (take-append-drop k (entries_of xs)))
    ∙ there (take k (entries_of xs)) (drop k (entries_of xs)) k (sym front)
    ∙ drop-map _ k xs

pub are_slots : (used k many : ℕ) → k + many ≤ used → AreSlots used (range_with_len k many)
are_slots used k many fits = λ index less.
    let long = length-range_with_len k many in
    let at = get_or-range_with_len k many index 0 (omega (arith, less, long)) in
    omega (arith, at, fits, less, long)
