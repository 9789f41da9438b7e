-- A run over a host around a host, said of the acts of the host.
use Rattle.std.proofs.Common.{◌≡◌, ℕ, true, false, ◌||◌, inl, inr, List, [], refl, sym, subst, ◌∙◌}
use Rattle.std.specs.Prelude.{is_some}
use Rattle.std.proofs.lemmas.Bool.{true≢false}
use Rattle.dots_host.specs.declared.act.Act.{Act}
use Rattle.coap_block.specs.Blocks.{Blocks}
use Rattle.coap_block.specs.Around.{seen_above, IsSeenFrom, GoesOnSeen, no_blocks}
use Rattle.coap_block.proofs.AroundLemmas.{seen_at_first, seen_from, seen_unchanged}
use Rattle.dots_machine.specs.declared.ending.Ending.{Ending}
use Rattle.dots_machine.specs.declared.ending.Ending.TheVariants as ending
use Rattle.dots_machine.specs.Commands.{is_served, is_show, is_command}
use Rattle.dots_machine.specs.Endings.{status_of, has_hosted, Behaves}
use Rattle.dots_machine.specs.Outside.{Outside}
use Rattle.dots_run.specs.Outcomes.{Outcome}
use Rattle.dots_run.specs.Topics.{topic_of, is_known}
use Rattle.dots_run.specs.Blocks.{seeing}
use Rattle.dots_run.specs.Onlooking.{SawWhereKnown, ShowsInBlocks}
use Rattle.dots_run.proofs.Looks.{saw_above}
use Rattle.dots_server.specs.ServerValues.{ServerValue}

-- what the run above has done is said of the acts that it saw, and so is what its onlooker saw
pub shows_blocks : (words : List (List ℕ)) (status : ℕ) (before now : Outside) (log : List Act) (blocks : Blocks) (uncalled unseen : Type 0) (saw : List ServerValue → Type 0)
    → GoesOnSeen before.acts [] no_blocks now.acts log blocks
    → (how : Ending) → status ≡ status_of how → Behaves how words (seeing before (seen_above before.acts [])) (seeing now (seen_above now.acts log)) → (has_hosted how ≡ false → uncalled)
    → SawWhereKnown how (seeing before (seen_above before.acts [])) (seeing now (seen_above now.acts log)) unseen saw → ShowsInBlocks words status before now uncalled unseen saw
shows_blocks words status before now log blocks uncalled unseen saw goes how status_is behaves idle seen = record {
  runs = record {
    ending = how;
    status_is = status_is;
    seen = seen_above now.acts log;
    handed_on = seen_from before.acts now.acts log blocks goes;
    behaves = subst (λ acts. Behaves how words (seeing before acts) (seeing now (seen_above now.acts log))) (seen_at_first before.acts) behaves;
    idle = idle;
  };
  shown = saw_above how before now log unseen saw seen;
}

-- a run over the host itself, which has served nothing
pub shows_none : (words : List (List ℕ)) (status : ℕ) (before now : Outside) (uncalled unseen : Type 0) (saw : List ServerValue → Type 0) → now.acts ≡ before.acts
    → (how : Ending) → status ≡ status_of how → Behaves how words before now → uncalled → SawWhereKnown how before now unseen saw → ShowsInBlocks words status before now uncalled unseen saw
shows_none words status before now uncalled unseen saw same how status_is behaves idle seen = record {
  runs = record {
    ending = how;
    status_is = status_is;
    seen = now.acts;
    handed_on = subst (λ acts. IsSeenFrom acts now.acts now.acts) same (seen_unchanged now.acts);
    behaves = behaves;
    idle = λ none. idle;
  };
  shown = seen;
}

served_command : (words : List (List ℕ)) → is_served words ≡ true → is_command words ≡ true
served_command words served = subst (λ b. (b || is_show words) ≡ true) (sym served) refl

served_known : (words : List (List ℕ)) → is_served words ≡ true → is_known words ≡ true
served_known words served = subst (λ b. (b || is_some (topic_of words)) ≡ true) (sym (served_command words served)) refl

-- memory ran out before anything was read or taken
pub lacks_memory : (words : List (List ℕ)) (before : Outside) (uncalled unseen : Type 0) (saw : List ServerValue → Type 0) → is_served words ≡ true → uncalled → unseen
    → ShowsInBlocks words 4 before before uncalled unseen saw
lacks_memory words before uncalled unseen saw served idle none = shows_none words 4 before before uncalled unseen saw refl ending.NoMemory refl (served_command words served, refl, refl) idle none

pub lacks_outcome : (words : List (List ℕ)) (before : Outside) → is_served words ≡ true → Outcome words 4 before before
lacks_outcome words before served = record {
  commands = (λ two. absurd (cc two), λ none. absurd (true≢false (sym (served_known words served) ∙ none)));
  read = λ five. absurd (cc five);
  source_read = λ four five. refl;
  disk = λ six. absurd (cc six);
  unfailed = λ six. refl;
  written = λ nine. absurd (cc nine);
  small = λ ten. absurd (cc ten);
  refused = λ is given. inr (inl refl);
  complete = λ is ready read came kept wrote. inr (inl refl);
  readable = λ show readable wrote. inr refl;
  unreadable = λ show none. inr refl;
  sound = λ topic is sound read wrote. inr refl;
  at_fault = λ topic is fault read. inr refl;
}
