-- Each request that was sent before a moment is of one of the exchanges that were shown by then.
use Rattle.std.proofs.Common.{◌≡◌, ℕ, ◌<◌, ◌≤◌, ◌⊎◌, inl, inr, Bool, true, false, if◌then◌else◌, List, [], ◌∷◌, ◌++◌, length, take, Contains, refl, sym, ap, subst, ◌∙◌, append-nil, append_assoc, length-append, arith, le_refl}
use Rattle.std.specs.Prelude.{nat_lt, ⊤}
use Rattle.std.proofs.lemmas.Bool.{lt-ltb}
use Rattle.dots_host.specs.declared.out.OwnedOut.{OwnedOut}
use Rattle.dots_host.specs.declared.out.OwnedOut.TheVariants as owned
use Rattle.dots_host.specs.Acts.{WireAct, took, gave, Timed}
use Rattle.dots_host.specs.Runs.{Owing, resting, ToldStep, each_telling}
use Rattle.dots_settings.specs.Settings.{SettingsValue}
use Rattle.dots_gateway.specs.declared.exchange.Exchange.{Exchange}
use Rattle.dots_gateway.specs.Routes.{routes_of}
use Rattle.slot_journal.specs.Sizes.{slots_of}
use Rattle.gateway_agent.specs.Exchanges.{IsStore, is_young, last_number, most_young}
use Rattle.gateway_agent.proofs.Orders.{ordered}
use Rattle.gateway_agent.proofs.Young.{number_small}
use Rattle.gateway_agent.specs.Passing.{GatewayState, opened, step}
use Rattle.gateway_agent.specs.Sent.{IsHanded, WasSent, HasSent}
use Rattle.gateway_agent.specs.Surviving.{Story, kept_shown, shown, time_at, MeansAt}
use Rattle.gateway_agent.specs.Turning.{time_in}
use Rattle.gateway_agent.proofs.Rising.{AreUp, front_more, front_whole, in_front, one_numbered, to_last, up_front, up_ordered, young_from, young_in}
use Rattle.gateway_agent.proofs.Sound.{IsSound, HasNumber, IsOf, AreOf, begun_sound, passes_leads}

-- ---- while sends are owed

-- each tells the state, and is of what that has kept
abbrev pub EachIsOf : GatewayState → List (GatewayState × OwnedOut) → Type 0
EachIsOf last [] = ⊤
EachIsOf last (send ∷ owed) = (send.0 ≡ last) × IsOf last.kept send.1 × EachIsOf last owed

pub record Stands (owing : Owing GatewayState) : Type 0 where
  pub sound : IsSound owing.last.core owing.last.kept
  pub owed : EachIsOf owing.last owing.owed

-- what is kept only grows
pub record Grown (old new : Owing GatewayState) : Type 0 where
  pub stands : Stands new
  pub more : List Exchange
  pub grows : new.last.kept ≡ old.last.kept ++ more

each_is_of : (new : GatewayState) (outs : List OwnedOut) → AreOf new.kept outs → EachIsOf new (each_telling new outs)
each_is_of new [] are_of = tt
each_is_of new (out ∷ outs) are_of = (refl, are_of.0, each_is_of new outs are_of.1)

next_owed : (old between : Owing GatewayState) (told : GatewayState) (out : OwnedOut) (done : Bool) → Stands old → ToldStep step old (gave out done) told between → EachIsOf old.last ((told, out) ∷ between.owed)
next_owed old between told out done stands s = subst (EachIsOf old.last) s.0 stands.owed

act_grown : (old between : Owing GatewayState) (act : WireAct) (told : GatewayState) → Stands old → ToldStep step old act told between → Grown old between
act_grown old between (took came at) told stands s =
    let leads = passes_leads old.last between.last at s.1.0 stands.sound came s.1.2 in
    record {
      stands = record { sound = leads.sound; owed = subst (EachIsOf between.last) (sym s.1.1) (each_is_of between.last s.1.0 leads.are_of) };
      more = leads.more;
      grows = leads.grows;
    }
act_grown old between (gave out done) told stands s =
    let rest = next_owed old between told out done stands s in
    record {
      stands = record {
        sound = subst (λ (state : GatewayState). IsSound state.core state.kept) (sym s.1) stands.sound;
        owed = subst (λ (state : GatewayState). EachIsOf state between.owed) (sym s.1) rest.2;
      };
      more = [];
      grows = ap (λ (state : GatewayState). state.kept) s.1 ∙ sym (append-nil old.last.kept);
    }

pub story_grown : (old end : Owing GatewayState) (acts : List Timed) (trace : List GatewayState) → Story old acts trace end → Stands old → Grown old end
story_grown old end [] [] s stands = subst (Grown old) (sym s) (record { stands = stands; more = []; grows = sym (append-nil old.last.kept) })
story_grown old end [] (told ∷ trace) s stands = absurd s
story_grown old end (timed ∷ acts) [] s stands = absurd s
story_grown old end (timed ∷ acts) (told ∷ trace) s stands =
    let first = act_grown old s.0 timed.act told stands s.1 in
    let rest = story_grown s.0 end acts trace s.3 first.stands in
    record {
      stands = rest.stands;
      more = first.more ++ rest.more;
      grows = rest.grows ∙ ap (λ (xs : List Exchange). xs ++ rest.more) first.grows ∙ append_assoc old.last.kept first.more rest.more;
    }

-- ---- how many are shown

longer : (old new : Owing GatewayState) → Grown old new → length old.last.kept ≤ length new.last.kept
longer old new grown = let long = ap length grown.grows ∙ length-append old.last.kept grown.more in omega (arith, long)

-- a send tells all that was kept when it was owed
sent_kept : (old between : Owing GatewayState) (told : GatewayState) (out : OwnedOut) (done : Bool) → Stands old → ToldStep step old (gave out done) told between → told.kept ≡ old.last.kept
sent_kept old between told out done stands s = ap (λ (state : GatewayState). state.kept) (next_owed old between told out done stands s).0

all_shown : (old between : Owing GatewayState) (act : WireAct) (told : GatewayState) (b : Bool) (n : ℕ) → Stands old → ToldStep step old act told between → n ≤ length old.last.kept
    → (n ≤ (if b then kept_shown act told n else n)) × ((if b then kept_shown act told n else n) ≤ length old.last.kept)
all_shown old between (took came at) told true n stands s le = (le_refl n, le)
all_shown old between (took came at) told false n stands s le = (le_refl n, le)
all_shown old between (gave out done) told true n stands s le =
    let same = ap length (sent_kept old between told out done stands s) in
    (omega (arith, le, same), omega (arith, same))
all_shown old between (gave out done) told false n stands s le = (le_refl n, le)

-- no fewer than before
shown_more : (m : ℕ) (old end : Owing GatewayState) (acts : List Timed) (trace : List GatewayState) (n : ℕ) → Story old acts trace end → Stands old → n ≤ length old.last.kept → n ≤ shown m acts trace n
shown_more m old end [] [] n s stands le = le_refl n
shown_more m old end [] (told ∷ trace) n s stands le = absurd s
shown_more m old end (timed ∷ acts) [] n s stands le = absurd s
shown_more m old end (timed ∷ acts) (told ∷ trace) n s stands le =
    let next = if nat_lt timed.moment m then kept_shown timed.act told n else n in
    let grown = act_grown old s.0 timed.act told stands s.1 in
    let both = all_shown old s.0 timed.act told (nat_lt timed.moment m) n stands s.1 le in
    let no_less = both.0 in
    let within = both.1 in
    let long = longer old s.0 grown in
    let rest = shown_more m s.0 end acts trace next s.3 grown.stands (omega (arith, within, long)) in
    omega (arith, no_less, rest)

-- ---- what was sent

-- a packet is of what was kept when it was owed, and shows all of that
handed : (old between : Owing GatewayState) (act : WireAct) (told : GatewayState) (upstream number n : ℕ) → Stands old → ToldStep step old act told between → IsHanded upstream number act
    → HasNumber old.last.kept number × (kept_shown act told n ≡ length old.last.kept)
handed old between (took came at) told upstream number n stands s is = absurd is
handed old between (gave (owned.Conn conn bytes) done) told upstream number n stands s is = absurd is
handed old between (gave (owned.Close conn) done) told upstream number n stands s is = absurd is
handed old between (gave (owned.To peer bytes) done) told upstream number n stands s is =
    let owed = next_owed old between told (owned.To peer bytes) done stands s in
    (owed.1 number is.1, ap length (sent_kept old between told (owned.To peer bytes) done stands s))

sent_shown : (upstream m number : ℕ) (old end : Owing GatewayState) (acts : List Timed) (trace : List GatewayState) (n : ℕ) → Story old acts trace end → Stands old → n ≤ length old.last.kept
    → WasSent upstream m number acts → HasNumber (take (shown m acts trace n) end.last.kept) number
sent_shown upstream m number old end [] trace n s stands le sent = absurd sent
sent_shown upstream m number old end (timed ∷ acts) [] n s stands le sent = absurd s
sent_shown upstream m number old end (timed ∷ acts) (told ∷ trace) n s stands le sent =
    by_place (λ later. sent_shown upstream m number s.0 end acts trace next s.3 grown.stands within later) sent
  where
    next : ℕ
    next = if nat_lt timed.moment m then kept_shown timed.act told n else n

    grown : Grown old s.0
    grown = act_grown old s.0 timed.act told stands s.1

    within : next ≤ length s.0.last.kept
    within =
        let few = (all_shown old s.0 timed.act told (nat_lt timed.moment m) n stands s.1 le).1 in
        let long = longer old s.0 grown in
        omega (arith, few, long)

    first : timed.moment < m → HasNumber old.last.kept number × (kept_shown timed.act told n ≡ length old.last.kept) → HasNumber (take (shown m acts trace next) end.last.kept) number
    first less has =
        let all = story_grown old end (timed ∷ acts) (told ∷ trace) s stands in
        let is : next ≡ length old.last.kept = ap (λ (b : Bool). if b then kept_shown timed.act told n else n) (lt-ltb timed.moment m less) ∙ has.1 in
        let no_less = shown_more m s.0 end acts trace next s.3 grown.stands within in
        record {
          x = has.0.x;
          among = front_more (length old.last.kept) (shown m acts trace next) end.last.kept has.0.x (omega (arith, is, no_less))
              (subst (λ (xs : List Exchange). Contains (take (length old.last.kept) xs) has.0.x) (sym all.grows) (front_whole old.last.kept all.more has.0.x has.0.among));
          is = has.0.is;
        }

    by_place : (WasSent upstream m number acts → HasNumber (take (shown m acts trace next) end.last.kept) number)
        → ((timed.moment < m) × IsHanded upstream number timed.act) ⊎ WasSent upstream m number acts → HasNumber (take (shown m acts trace next) end.last.kept) number
    by_place rest (inl now) = first now.0 (handed old s.0 timed.act told upstream number n stands s.1 now.1)
    by_place rest (inr later) = rest later

-- ---- what an image means

module _ (settings : SettingsValue) (most upstream m : ℕ) (start : GatewayState) (acts : List Timed) (trace : List GatewayState) (end : Owing GatewayState) (image : ℕ → ℕ)
    (sound : IsSound start.core start.kept) (story : Story (resting start) acts trace end) (means : MeansAt settings most start acts trace end.last.kept m image) where
  abbrev now : ℕ
  now = time_at m acts trace (time_in start)

  abbrev front : List Exchange
  front = take means.count end.last.kept

  stands : Stands (resting start)
  stands = record { sound = sound; owed = tt }

  up : AreUp 0 end.last.kept
  up = (story_grown (resting start) end acts trace story stands).stands.sound.up

  in_the_front : (number : ℕ) → WasSent upstream m number acts → HasNumber front number
  in_the_front number sent =
      let there = sent_shown upstream m number (resting start) end acts trace (length start.kept) story stands (le_refl (length start.kept)) sent in
      record {
        x = there.x;
        among = front_more (shown m acts trace (length start.kept)) means.count end.last.kept there.x means.has_shown there.among;
        is = there.is;
      }

  has : (number : ℕ) (x : Exchange) → WasSent upstream m number acts → Contains end.last.kept x → x.number ≡ number → is_young now x ≡ true → Contains means.image_has.some x
  has number x sent kept is young =
      let there = in_the_front number sent in
      let same = one_numbered 0 end.last.kept there.x x up (in_front means.count end.last.kept there.x there.among) kept (there.is ∙ sym is) in
      let among = subst (Contains front) same there.among in
      young_from now means.image_has.some x (subst (λ (xs : List Exchange). Contains xs x) (sym means.image_has.alike.young) (young_in now front x among young))

  of_kept : (number : ℕ) → WasSent upstream m number acts → (x : Exchange) × Contains end.last.kept x × (x.number ≡ number)
  of_kept number sent = let there = in_the_front number sent in (there.x, in_front means.count end.last.kept there.x there.among, there.is)

  above : (number : ℕ) → WasSent upstream m number acts → number ≤ last_number means.image_has.some
  above number sent =
      let there = in_the_front number sent in
      let least = to_last 0 front there.x (up_front 0 means.count end.last.kept up) there.among in
      let is = there.is in
      let same = means.image_has.alike.number in
      omega (arith, least, is, same)

  pub has_sent : HasSent settings most upstream m now end.last.kept acts image
  has_sent = record { some = means.image_has.some; image_has = means.image_has.image_has; store = means.image_has.store; of = of_kept; has = has; above = above }

-- ---- the law

pub opened_sound : (settings : SettingsValue) (upstream at : ℕ) (stored : List Exchange) → IsStore (most_young (slots_of settings)) stored
    → IsSound (opened settings upstream stored at).core stored
opened_sound settings upstream at stored store =
    let small = number_small (most_young (slots_of settings)) stored store in
    begun_sound (routes_of settings) upstream (most_young (slots_of settings)) stored at
    (up_ordered 0 0 stored (ordered (most_young (slots_of settings)) stored store)) (omega (arith, small))
