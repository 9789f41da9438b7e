-- The canonical text of groups.
use Rattle.std.proofs.Common.{◌≡◌, ℕ, List, inl, inr, refl, sym, ◌∙◌, subst, arith, lt-ltb, le-ltb}
use Rattle.std.proofs.lemmas.Bool.{cases_lt}
use Rattle.std.specs.Net.Text.{longest_zero_run, hex_groups_text}
use Rattle.std.proofs.NetLemmas.Texts.{IsZeroRun-longest_zero_run, longest_zero_run_first}
use Rattle.ip_scope.specs.Laws.{IsZeroRun, IsCanonical}
use Rattle.ip_scope.specs.Prefix.{PrefixValue, IsPrefix}
use Rattle.ip_scope.specs.PrefixText.{prefix_text, IsPrefixText}
use Rattle.ip_scope.proofs.PrefixTexts.{IsPrefixText-prefix_text, reading_of-itself, reading_unique}

pub IsCanonical-hex_groups_text : (groups : List ℕ) → IsCanonical groups (hex_groups_text groups)
unfolding hex_groups_text
IsCanonical-hex_groups_text groups =
    let found = IsZeroRun-longest_zero_run groups in
    let best = λ (start len : ℕ) (run : IsZeroRun groups start len). longest_zero_run_first groups start len (run.within, run.zeros) in
    elim (cases_lt 1 (longest_zero_run groups).1) [
      | inl long ↦ inl (record {
        start = (longest_zero_run groups).0;
        len = (longest_zero_run groups).1;
        two = omega arith;
        run = record { within = found.0; zeros = found.1 };
        longest = λ other more run. (best other more run).0;
        first = λ other run. (best other _ run).1 refl;
        spelled = rw (lt-ltb 1 (longest_zero_run groups).1 long) refl;
      })
      | inr short ↦ inr (record {
        short = λ start len run. omega (arith, (best start len run).0);
        spelled = rw (le-ltb 1 (longest_zero_run groups).1 short) refl;
      })
    ]

pub prefix_text_injective : (a b : PrefixValue) → IsPrefix a → IsPrefix b → prefix_text a ≡ prefix_text b → a ≡ b
prefix_text_injective a b valid_a valid_b same =
    let of_a = IsPrefixText-prefix_text a valid_a in
    let of_b = subst (λ (text : List ℕ). IsPrefixText text b.family b.number b.length) (sym same) (IsPrefixText-prefix_text b valid_b) in
    let reads = sym (reading_of-itself a valid_a) ∙ reading_unique (prefix_text a) _ _ _ _ _ _ of_a of_b ∙ reading_of-itself b valid_b in
    cc
