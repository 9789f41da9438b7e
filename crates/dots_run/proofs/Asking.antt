-- Words that ask for what is told ask for nothing else, and how their statuses are told apart.
use Rattle.std.proofs.Common.{◌≡◌, ◌≢◌, ℕ, ◌⊎◌, inl, inr, Bool, true, false, ◌&&◌, ◌||◌, if◌then◌else◌, List, [], ◌∷◌, codes, Option, Some, None, refl, sym, ◌∙◌, subst, arith}
use Rattle.std.proofs.lemmas.Bool.Decides.{nat_tests}
use Rattle.std.specs.Prelude.{bytes_eq, is_some}
use Rattle.std.specs.Option.{option_map}
use Rattle.dots_lists.specs.Numbers.{number_in}
use Rattle.dots_machine.specs.Commands.{is_word, is_replay, is_serve, is_served, is_show, is_command}
use Rattle.dots_run.specs.declared.topic_outcome.TopicOutcome.{TopicOutcome}
use Rattle.dots_run.specs.declared.topic_outcome.TopicOutcome.TheVariants as outcomes
use Rattle.dots_run.specs.declared.topic.Topic.{Topic}
use Rattle.dots_run.specs.declared.topic.Topic.TheVariants as topic
use Rattle.dots_run.specs.Reporting.{outcome_status, has_source}
use Rattle.dots_run.proofs.Commands.{served_by}
use Rattle.dots_run.specs.Topics.{is_check, is_alone, is_check_script, is_help, is_version, load_of, topic_of, is_known}

check_or_replay : (name word : List ℕ) → (bytes_eq name (codes "check") && is_word word) ≡ true → (bytes_eq name (codes "replay") && is_word word) ≡ true → ⊥
check_or_replay [] word c r = absurd (cc c)
check_or_replay (byte ∷ name) word c r = grind (arith, nat_tests)

check_or_show : (name word : List ℕ) → (bytes_eq name (codes "check") && is_word word) ≡ true → (bytes_eq name (codes "show") && is_word word) ≡ true → ⊥
check_or_show [] word c s = absurd (cc c)
check_or_show (byte ∷ name) word c s = grind (arith, nat_tests)

check_no_replay : (words : List (List ℕ)) → is_check words ≡ true → is_replay words ≡ true → ⊥
check_no_replay [] c r = absurd (cc c)
check_no_replay (name ∷ []) c r = absurd (cc c)
check_no_replay (name ∷ word ∷ []) c r = check_or_replay name word c r
check_no_replay (name ∷ word ∷ more ∷ words) c r = absurd (cc c)

check_no_serve : (words : List (List ℕ)) → is_check words ≡ true → is_serve words ≡ true → ⊥
check_no_serve [] c s = absurd (cc c)
check_no_serve (name ∷ []) c s = absurd (cc c)
check_no_serve (name ∷ word ∷ []) c s = absurd (cc s)
check_no_serve (name ∷ word ∷ more ∷ words) c s = absurd (cc c)

check_no_show : (words : List (List ℕ)) → is_check words ≡ true → is_show words ≡ true → ⊥
check_no_show [] c s = absurd (cc c)
check_no_show (name ∷ []) c s = absurd (cc c)
check_no_show (name ∷ word ∷ []) c s = check_or_show name word c s
check_no_show (name ∷ word ∷ more ∷ words) c s = absurd (cc c)

alone_no_replay : (word : List ℕ) (words : List (List ℕ)) → is_alone word words ≡ true → is_replay words ≡ true → ⊥
alone_no_replay word [] a r = absurd (cc a)
alone_no_replay word (name ∷ []) a r = absurd (cc r)
alone_no_replay word (name ∷ other ∷ words) a r = absurd (cc a)

alone_no_serve : (word : List ℕ) (words : List (List ℕ)) → is_alone word words ≡ true → is_serve words ≡ true → ⊥
alone_no_serve word [] a s = absurd (cc a)
alone_no_serve word (name ∷ []) a s = absurd (cc s)
alone_no_serve word (name ∷ other ∷ words) a s = absurd (cc a)

alone_no_show : (word : List ℕ) (words : List (List ℕ)) → is_alone word words ≡ true → is_show words ≡ true → ⊥
alone_no_show word [] a s = absurd (cc a)
alone_no_show word (name ∷ []) a s = absurd (cc s)
alone_no_show word (name ∷ other ∷ words) a s = absurd (cc a)

-- a number comes only with the name
named_so : (b : Bool) (found : Option ℕ) (number : ℕ) → (if b then found else None) ≡ Some number → b ≡ true
named_so true found number is = refl
named_so false found number is = absurd (cc is)

load_or_replay : (name word : List ℕ) → bytes_eq name (codes "load") ≡ true → (bytes_eq name (codes "replay") && is_word word) ≡ true → ⊥
load_or_replay [] word l r = absurd (cc l)
load_or_replay (byte ∷ name) word l r = grind (arith, nat_tests)

load_or_show : (name word : List ℕ) → bytes_eq name (codes "load") ≡ true → (bytes_eq name (codes "show") && is_word word) ≡ true → ⊥
load_or_show [] word l s = absurd (cc l)
load_or_show (byte ∷ name) word l s = grind (arith, nat_tests)

load_no_replay : (words : List (List ℕ)) (number : ℕ) → load_of words ≡ Some number → is_replay words ≡ true → ⊥
load_no_replay [] number l r = absurd (cc l)
load_no_replay (name ∷ []) number l r = absurd (cc l)
load_no_replay (name ∷ word ∷ []) number l r = load_or_replay name word (named_so (bytes_eq name (codes "load")) (number_in 1 1000 word) number l) r
load_no_replay (name ∷ word ∷ more ∷ words) number l r = absurd (cc l)

load_no_serve : (words : List (List ℕ)) (number : ℕ) → load_of words ≡ Some number → is_serve words ≡ true → ⊥
load_no_serve [] number l s = absurd (cc l)
load_no_serve (name ∷ []) number l s = absurd (cc l)
load_no_serve (name ∷ word ∷ []) number l s = absurd (cc s)
load_no_serve (name ∷ word ∷ more ∷ words) number l s = absurd (cc l)

load_no_show : (words : List (List ℕ)) (number : ℕ) → load_of words ≡ Some number → is_show words ≡ true → ⊥
load_no_show [] number l s = absurd (cc l)
load_no_show (name ∷ []) number l s = absurd (cc l)
load_no_show (name ∷ word ∷ []) number l s = load_or_show name word (named_so (bytes_eq name (codes "load")) (number_in 1 1000 word) number l) s
load_no_show (name ∷ word ∷ more ∷ words) number l s = absurd (cc l)

some_once : (x y : Topic) → Some x ≡ Some y → x ≡ y
some_once x y e = cc e

module _ (words : List (List ℕ)) (asked : Topic) where
  -- words with a topic are a check of settings, or one word, or a generated run
  one_of : (P : Type 0) → topic_of words ≡ Some asked → (is_check words ≡ true → P) → ((word : List ℕ) → is_alone word words ≡ true → P) → ((number : ℕ) → load_of words ≡ Some number → P) → P
  one_of P is check alone load =
      by (is_check words) (is_alone (codes "check-script") words) (is_help words) (is_version words) (load_of words) check (alone (codes "check-script")) (either (codes "help") (codes "--help"))
      (either (codes "version") (codes "--version")) load is
    where
      either : (one other : List ℕ) → (is_alone one words || is_alone other words) ≡ true → P
      either one other is = split (is_alone one words) refl is
        where
          split : (b : Bool) → is_alone one words ≡ b → (b || is_alone other words) ≡ true → P
          split true first is = alone one first
          split false first is = alone other is

      by : (a b c d : Bool) (found : Option ℕ) → (a ≡ true → P) → (b ≡ true → P) → (c ≡ true → P) → (d ≡ true → P) → ((number : ℕ) → found ≡ Some number → P)
          → (if a then Some topic.Settings else if b then Some topic.Script else if c then Some topic.Usage else if d then Some topic.Version else option_map topic.Load found) ≡ Some asked → P
      by true b c d found p q r s t is = p refl
      by false true c d found p q r s t is = q refl
      by false false true d found p q r s t is = r refl
      by false false false true found p q r s t is = s refl
      by false false false false (Some number) p q r s t is = t number refl
      by false false false false None p q r s t is = absurd (cc is)

  pub never_served : topic_of words ≡ Some asked → is_served words ≡ true → ⊥
  never_served is served =
      served_by words ⊥ served
      (λ replay. one_of ⊥ is (λ check. check_no_replay words check replay) (λ word alone. alone_no_replay word words alone replay) (λ number load. load_no_replay words number load replay))
      (λ serve. one_of ⊥ is (λ check. check_no_serve words check serve) (λ word alone. alone_no_serve word words alone serve) (λ number load. load_no_serve words number load serve))

  -- so the run doesn't serve
  pub not_served : topic_of words ≡ Some asked → is_served words ≡ false
  not_served is = by (is_served words) (never_served is)
    where
      by : (b : Bool) → (b ≡ true → ⊥) → b ≡ false
      by true none = absurd (none refl)
      by false none = refl

  pub no_show : topic_of words ≡ Some asked → is_show words ≡ true → ⊥
  no_show is show = one_of ⊥ is (λ check. check_no_show words check show) (λ word alone. alone_no_show word words alone show) (λ number load. load_no_show words number load show)

  -- where neither settings nor a script are checked no source is read
  pub no_source : topic_of words ≡ Some asked → is_check words ≡ false → is_check_script words ≡ false → has_source asked ≡ false
  no_source is none nor = by (is_check words) (is_alone (codes "check-script") words) (is_help words) (is_version words) (load_of words) none nor is
    where
      by : (a b c d : Bool) (found : Option ℕ) → a ≡ false → b ≡ false
          → (if a then Some topic.Settings else if b then Some topic.Script else if c then Some topic.Usage else if d then Some topic.Version else option_map topic.Load found) ≡ Some asked
          → has_source asked ≡ false
      by true b c d found p q is = absurd (cc p)
      by false true c d found p q is = absurd (cc q)
      by false false true d found p q is = subst (λ t. has_source t ≡ false) (some_once topic.Usage asked is) refl
      by false false false true found p q is = subst (λ t. has_source t ≡ false) (some_once topic.Version asked is) refl
      by false false false false (Some number) p q is = subst (λ t. has_source t ≡ false) (some_once (topic.Load number) asked is) refl
      by false false false false None p q is = absurd (cc is)

or_true : (b : Bool) → (b || true) ≡ false → ⊥
or_true true e = cc e
or_true false e = cc e

or_false : (b : Bool) → (b || false) ≡ b
or_false true = refl
or_false false = refl

pub topic_is_known : (words : List (List ℕ)) (asked : Topic) → topic_of words ≡ Some asked → is_known words ≡ false → ⊥
topic_is_known words asked is none = or_true (is_command words) (subst (λ t. (is_command words || is_some t) ≡ false) is none)

pub known_without : (words : List (List ℕ)) → topic_of words ≡ None → is_known words ≡ is_command words
known_without words is = subst (λ t. (is_command words || is_some t) ≡ is_command words) (sym is) (or_false (is_command words))

-- the words that ask for no topic of what is read
pub no_topic : (words : List (List ℕ)) (asked : Topic) (P : Type 0) → topic_of words ≡ None → topic_of words ≡ Some asked → P
no_topic words asked P none some = absurd (cc (sym none ∙ some))

-- how telling ended, by the status
pub never_two : (end : TopicOutcome) → outcome_status end ≡ 2 → ⊥
never_two outcomes.Written is = absurd (omega (arith, is))
never_two outcomes.Failed is = absurd (omega (arith, is))
never_two outcomes.AtFault is = absurd (omega (arith, is))
never_two outcomes.Unread is = absurd (omega (arith, is))
never_two outcomes.NoMemory is = absurd (omega (arith, is))

pub never_ten : (end : TopicOutcome) → outcome_status end ≡ 10 → ⊥
never_ten outcomes.Written is = absurd (omega (arith, is))
never_ten outcomes.Failed is = absurd (omega (arith, is))
never_ten outcomes.AtFault is = absurd (omega (arith, is))
never_ten outcomes.Unread is = absurd (omega (arith, is))
never_ten outcomes.NoMemory is = absurd (omega (arith, is))

pub status_unread : (end : TopicOutcome) → outcome_status end ≡ 5 → end ≡ outcomes.Unread
status_unread outcomes.Written is = absurd (omega (arith, is))
status_unread outcomes.Failed is = absurd (omega (arith, is))
status_unread outcomes.AtFault is = absurd (omega (arith, is))
status_unread outcomes.Unread is = refl
status_unread outcomes.NoMemory is = absurd (omega (arith, is))

pub status_unwritten : (end : TopicOutcome) → outcome_status end ≡ 9 → end ≡ outcomes.Failed
status_unwritten outcomes.Written is = absurd (omega (arith, is))
status_unwritten outcomes.Failed is = refl
status_unwritten outcomes.AtFault is = absurd (omega (arith, is))
status_unwritten outcomes.Unread is = absurd (omega (arith, is))
status_unwritten outcomes.NoMemory is = absurd (omega (arith, is))

pub status_sound : (end : TopicOutcome) → (end ≡ outcomes.Written) ⊎ (end ≡ outcomes.NoMemory) → (outcome_status end ≡ 0) ⊎ (outcome_status end ≡ 4)
status_sound end (inl is) = inl (subst (λ end. outcome_status end ≡ 0) (sym is) refl)
status_sound end (inr is) = inr (subst (λ end. outcome_status end ≡ 4) (sym is) refl)

pub status_at_fault : (end : TopicOutcome) → (end ≡ outcomes.AtFault) ⊎ (end ≡ outcomes.NoMemory) → (outcome_status end ≡ 3) ⊎ (outcome_status end ≡ 4)
status_at_fault end (inl is) = inl (subst (λ end. outcome_status end ≡ 3) (sym is) refl)
status_at_fault end (inr is) = inr (subst (λ end. outcome_status end ≡ 4) (sym is) refl)

-- no read of the file failed, where the status says neither that nor want of memory
pub status_source_read : (end : TopicOutcome) (P : Type 0) → (end ≡ outcomes.NoMemory) ⊎ ((end ≡ outcomes.Unread) ⊎ P) → outcome_status end ≢ 4 → outcome_status end ≢ 5 → P
status_source_read end P (inl is) four five = absurd (four (subst (λ end. outcome_status end ≡ 4) (sym is) refl))
status_source_read end P (inr (inl is)) four five = absurd (five (subst (λ end. outcome_status end ≡ 5) (sym is) refl))
status_source_read end P (inr (inr same)) four five = same

pub one_topic : (words : List (List ℕ)) (asked other : Topic) → topic_of words ≡ Some asked → topic_of words ≡ Some other → asked ≡ other
one_topic words asked other a b = cc (sym a ∙ b)

-- words whose events are served ask for no topic
pub served_no_topic : (words : List (List ℕ)) → is_served words ≡ true → topic_of words ≡ None
served_no_topic words served = by (topic_of words) refl
  where
    by : (topic : Option Topic) → topic_of words ≡ topic → topic_of words ≡ None
    by None is = is
    by (Some asked) is = absurd (never_served words asked is served)
