-- There is one first entry that ends a mitigation at most.
use Rattle.std.proofs.Common.{◌≡◌, ℕ, List, inl, inr}
use Rattle.std.proofs.lemmas.Bool.{both_ways, cases_order}
use Rattle.dots_history.specs.declared.entry.Entry.{Entry}
use Rattle.dots_history.specs.Entries.{ends}
use Rattle.dots_history.specs.Firsts.{IsFirstEnder}

pub one_first : (put : Entry) (later : List Entry) (j k : ℕ) → IsFirstEnder put later j → IsFirstEnder put later k → j ≡ k
one_first put later j k a b =
    elim (cases_order j k) [
      | inl same ↦ same
      | inr (inl less) ↦ absurd (both_ways (ends put a.entry) (b.first j a.entry less a.found) a.is_ender)
      | inr (inr more) ↦ absurd (both_ways (ends put b.entry) (a.first k b.entry more b.found) b.is_ender)
    ]
