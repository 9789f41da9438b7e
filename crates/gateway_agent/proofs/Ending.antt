-- A run behind the opening of its store.
use Rattle.std.proofs.Common.{ℕ, inl, inr, List, ◌++◌, Option, Some, None, sym, ap, ◌∙◌, subst}
use Rattle.dots_host.specs.Acts.{Timed}
use Rattle.dots_host.specs.Runs.{Owing, Added}
use Rattle.dots_host.proofs.RunLemmas.{added_weaker}
use Rattle.dots_host.specs.Media.{Media}
use Rattle.dots_host.specs.Becoming.{Leaves, RestsWith}
use Rattle.dots_host.specs.Beside.{KeepsActs}
use Rattle.slot_store.proofs.DiskReading.{sees_at_rest}
use Rattle.slot_store.proofs.Steps.{leaves_as}
use Rattle.slot_store.specs.Gates.{Sees}
use Rattle.slot_store.specs.Opening.{Is}
use Rattle.slot_journal.specs.DiskEntries.{HasEntries}
use Rattle.slot_journal.specs.Sizes.{slots_of}
use Rattle.dots_settings.specs.Settings.{SettingsValue}
use Rattle.dots_history.specs.declared.entry.Entry.{Entry}
use Rattle.dots_gateway.specs.declared.exchange.Exchange.{Exchange}
use Rattle.gateway_agent.specs.Crashes.{HasThe}
use Rattle.gateway_agent.specs.Exchanges.{IsStore, most_young}
use Rattle.gateway_agent.specs.Forms.{entries_of}
use Rattle.gateway_agent.specs.Stores.{IsOn}
use Rattle.std.specs.Prelude.{Err}
use Rattle.gateway_agent.specs.declared.stopping.GatewayHalt.{GatewayHalt}
use Rattle.gateway_agent.specs.declared.stopping.GatewayHalt.TheVariants as halt
use Rattle.gateway_agent.specs.declared.stopping.GatewayEnding.TheVariants as ending
use Rattle.gateway_agent.specs.Passing.{GatewayState, opened}
use Rattle.gateway_agent.specs.Keeping.{AgentValue, IsFor, IsIn}
use Rattle.gateway_agent.specs.Turning.{HasAlike, time_in}
use Rattle.gateway_agent.specs.Surviving.{past_of}
use Rattle.gateway_agent.specs.Running.{Answer, Came, Completes, HasCome, HasRun, SurvivesSent, IsAtRest, IsFollowed, IsFound, NeverRestarts}
use Rattle.gateway_agent.proofs.Runs.{own_time, has_the}
use Rattle.gateway_agent.specs.Sent.{HasSent}
use Rattle.gateway_agent.specs.Surviving.{MeansAt, time_at}
use Rattle.gateway_agent.proofs.Sent.{has_sent, opened_sound}
use Rattle.gateway_agent.proofs.Surviving.{leaves_at_so, leaves_past, none_earlier, survives_opening}
use Rattle.gateway_agent.proofs.Turning.{added_behind}

-- no restart came since the opening either
never_since : (xs ys zs : Option (List Timed)) → KeepsActs xs ys → Added ys zs (λ _. Unit {0}) → NeverRestarts xs zs → NeverRestarts ys zs
never_since None ys None keeps adds never = absurd never
never_since None ys (Some zs) keeps adds never = absurd never
never_since (Some xs) None None keeps adds never = absurd never
never_since (Some xs) None (Some zs) keeps adds never = absurd adds
never_since (Some xs) (Some ys) None keeps adds never = absurd never
never_since (Some xs) (Some ys) (Some zs) keeps adds never = (never.0, never.1 ∙ ap (λ l. l ++ never.0) (sym keeps), never.2)

pub followed_since : (Told Rests : Type 0) (xs ys zs : Option (List Timed)) → KeepsActs xs ys → Added ys zs (λ _. Unit {0}) → (Told → Rests) → IsFollowed Told xs zs → IsFollowed Rests ys zs
followed_since Told Rests xs ys zs keeps adds goes (inl told) = inl (goes told)
followed_since Told Rests xs ys zs keeps adds goes (inr never) = inr (never_since xs ys zs keeps adds never)

-- a run from the opened store is one from the disk as it was before
pub came_since : (settings : SettingsValue) (most : ℕ) (start : GatewayState) (how : Answer) (first mid now : Option Media) (Rests : Type 0) (xs ys zs : Option (List Timed)) (end : Owing GatewayState)
    → KeepsActs xs ys → (IsAtRest first → Rests) → (IsAtRest first → Leaves first mid (HasAlike settings most (time_in start) start.kept))
    → Came settings most start how mid now Rests ys zs end → Came settings most start how first now (IsAtRest first) xs zs end
came_since settings most start how first mid now Rests xs ys zs end keeps goes leaves came = record {
  settled = came.settled;
  found = came.found;
  waits = came.waits;
  grows = came.grows;
  trace = came.trace;
  told = added_behind xs ys zs (HasCome settings most start how first now (IsAtRest first) came.trace end) keeps
      (added_weaker ys zs (HasCome settings most start how mid now Rests came.trace end) (HasCome settings most start how first now (IsAtRest first) came.trace end) came.told
      (λ more h. (
        h.0,
        h.1,
        λ r.
            let late = h.2 (goes r) in
            let opened = leaves r in (
              none_earlier (past_of first) (past_of mid) more (leaves_past first mid (Is r.0) (HasAlike settings most (time_in start) start.kept) r.1 opened) late.0,
              survives_opening settings most start first mid now more came.trace end.last.kept came.grows.0 came.grows.1 late.0 (Is r.0) r.1 opened late.1,
            ),
      )));
}

-- what survives has all that was sent
sent_too : (settings : SettingsValue) (upstream : ℕ) (how : Answer) (stored : List Exchange) (first now : Option Media) (xs zs : Option (List Timed)) (end : Owing GatewayState) → IsStore (most_young (slots_of settings)) stored
    → (came : Came settings (most_young (slots_of settings)) (opened settings upstream stored 0) how first now (IsAtRest first) xs zs end)
    → Added xs zs (λ more. IsAtRest first → SurvivesSent settings (most_young (slots_of settings)) (opened settings upstream stored 0) first now more came.trace end.last.kept)
sent_too settings upstream how stored first now xs zs end store came =
    let most = most_young (slots_of settings) in
    let start = opened settings upstream stored 0 in
    added_weaker xs zs (HasCome settings most start how first now (IsAtRest first) came.trace end)
    (λ (more : List Timed). IsAtRest first → SurvivesSent settings most start first now more came.trace end.last.kept) came.told
    (λ more h rest. leaves_at_so first now (MeansAt settings most start more came.trace end.last.kept)
    (λ (m : ℕ) (image : ℕ → ℕ). HasSent settings most upstream m (time_at m more came.trace (time_in start)) end.last.kept more image)
    (λ m late image means. has_sent settings most upstream m start more came.trace end image (opened_sound settings upstream 0 stored store) h.0 means) (h.2 rest).1)

-- What a gateway has done that opened a store: it runs from what the disk held.
pub has_run : (settings : SettingsValue) (upstream : ℕ) (now : AgentValue) (how : Answer) (first mid end : Option Media) (xs ys zs : Option (List Timed))
    → KeepsActs xs ys → Added ys zs (λ _. Unit {0}) → IsFor settings upstream now → IsIn now (opened settings upstream now.store.exchanges 0)
    → ((seen : ℕ → ℕ) → Sees first seen → HasThe settings now.store.exchanges seen × RestsWith mid (IsOn settings now.store))
    → ((seen : ℕ → ℕ) (entries : List Entry) → RestsWith first (Is seen) → HasEntries settings seen entries → Leaves first mid (λ image. HasEntries settings image entries))
    → ((start : GatewayState) → IsIn now start → IsFollowed (RestsWith mid (IsOn settings now.store)) ys zs
    → (last : Owing GatewayState) × Came settings (most_young (slots_of settings)) start how mid end (RestsWith mid (IsOn settings now.store)) ys zs last)
    → HasRun settings upstream how first end xs zs
has_run settings upstream now how first mid end xs ys zs keeps adds of is_in opened_it moments comes =
    let most = most_young (slots_of settings) in
    let start = opened settings upstream now.store.exchanges 0 in
    let many = ap most_young of.slots in
    let Rests = RestsWith mid (IsOn settings now.store) in
    record {
      stored = now.store.exchanges;
      store = subst (λ (m : ℕ). IsStore m now.store.exchanges) many is_in.joined.order;
      was_stored = λ seen sees. (opened_it seen sees).0;
      came = λ follows.
          let comes_to = comes start is_in (followed_since ((seen : ℕ → ℕ) × Sees first seen) Rests xs ys zs keeps adds (λ told. (opened_it told.0 told.1).1) follows) in
          let came : Came settings most start how first end (IsAtRest first) xs zs comes_to.0 =
          came_since settings most start how first mid end Rests xs ys zs comes_to.0 keeps
          (λ rest. (opened_it rest.0 (sees_at_rest first rest.0 rest.1)).1)
          (λ rest. leaves_as first mid (λ image. HasEntries settings image (entries_of now.store.exchanges)) (HasAlike settings most (time_in start) start.kept)
          (λ image stored. has_the settings most now start (time_in start) image is_in many (own_time settings most now start is_in) stored)
          (moments rest.0 (entries_of now.store.exchanges) rest.1 (opened_it rest.0 (sees_at_rest first rest.0 rest.1)).0))
          comes_to.1 in
          (comes_to.0, came, sent_too settings upstream how now.store.exchanges first end xs zs comes_to.0 (subst (λ (m : ℕ). IsStore m now.store.exchanges) many is_in.joined.order) came);
    }

-- what is found again completes
pub completes_by : (how : GatewayHalt) → IsFound (Err how) → Completes (ending.Halted how)
completes_by halt.NextFailed found = tt
completes_by halt.DiskFailed found = tt
completes_by halt.TooMany found = tt
completes_by (halt.Unrecovered fault) found = found
