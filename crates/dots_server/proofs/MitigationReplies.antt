-- Mitigations that are told.
use Rattle.std.proofs.Common.{◌≡◌, ◌≢◌, ℕ, Bool, true, false, List, [], ◌∷◌, ◌++◌, map, filter, cond, Option, refl, sym, ap, ◌∙◌, append_assoc}
use Rattle.cbor_profile.specs.Canon.{canon}
use Rattle.cbor_profile.specs.Tree.{Tree}
use Rattle.dots_keys.specs.declared.head_request.Content.{Content}
use Rattle.conflict_rules.specs.LiveViews.{LiveView}
use Rattle.reply_bodies.specs.declared.scope.MitigationView.{MitigationView}
use Rattle.reply_bodies.specs.Mitigations.{scope_of, mitigations_with}
use Rattle.dots_keys.specs.declared.exchange.Exchange.{Exchange}
use Rattle.dots_machine.specs.declared.verdict.Verdict.TheVariants as verdict
use Rattle.dots_machine.specs.Replies.{mitigation_fields, absent}
use Rattle.dots_machine.specs.Mitigations.{is_wanted, get_reply}

module _ (content : Content) (wanted : Option ℕ) where
  abbrev trees_of_rows : List LiveView → List Tree
  trees_of_rows ms = map (mitigation_fields content) (filter (is_wanted wanted) ms)

  one_and_others : (row : LiveView) (rest : List LiveView) → trees_of_rows (row ∷ rest) ≡ trees_of_rows (row ∷ []) ++ trees_of_rows rest
  one_and_others row rest = by_test (is_wanted wanted row)
    where
      by_test : (b : Bool) → map (mitigation_fields content) (cond b (row ∷ filter (is_wanted wanted) rest) (filter (is_wanted wanted) rest)) ≡ map (mitigation_fields content) (cond b (row ∷ []) []) ++ trees_of_rows rest
      by_test true = refl
      by_test false = refl

  -- one more is told
  pub trees_more : (old new : List Tree) (row : LiveView) (left rest : List LiveView) → left ≡ row ∷ rest → new ≡ old ++ trees_of_rows (row ∷ []) → old ++ trees_of_rows left ≡ new ++ trees_of_rows rest
  trees_more old new row left rest is pushed =
      ap (λ ms. old ++ trees_of_rows ms) is ∙ ap (λ ts. old ++ ts) (one_and_others row rest) ∙ sym (append_assoc old (trees_of_rows (row ∷ [])) (trees_of_rows rest)) ∙ ap (λ ts. ts ++ trees_of_rows rest) (sym pushed)

-- what is told of those that there are, and where there is none
pub retrieves_some : (x : Exchange) (content : Content) (ms : List LiveView) (views : List MitigationView) → map scope_of views ≡ map (mitigation_fields content) ms → views ≢ []
    → verdict.Retrieves x (canon (mitigations_with (map scope_of views))) ≡ get_reply x content ms
retrieves_some x content [] [] are some = absurd (some refl)
retrieves_some x content [] (v ∷ vs) are some = absurd (cc are)
retrieves_some x content (m ∷ ms) views are some = ap (λ scopes. verdict.Retrieves x (canon (mitigations_with scopes))) are

pub retrieves_none : (x : Exchange) (content : Content) (ms : List LiveView) (views : List MitigationView) → map scope_of views ≡ map (mitigation_fields content) ms → views ≡ []
    → verdict.Reply (absent x) ≡ get_reply x content ms
retrieves_none x content [] views are none = refl
retrieves_none x content (m ∷ ms) [] are none = absurd (cc are)
retrieves_none x content (m ∷ ms) (v ∷ vs) are none = absurd (cc none)
