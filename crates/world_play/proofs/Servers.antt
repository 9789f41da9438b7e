-- What the server of a world has done.
use Rattle.std.proofs.Common.{◌≡◌, ℕ, true, List, [], ◌∷◌, ◌++◌, length, map, drop, Option, Some, refl, sym, ap, ◌∙◌, subst, append_assoc}
use Rattle.std.specs.Prelude.{flat_map, count_by}
use Rattle.dots_load.specs.Report.{unavailable}
use Rattle.dots_host.specs.declared.act.Act.{Act}
use Rattle.dots_host.specs.declared.act.Act.TheVariants as act
use Rattle.dots_host.specs.declared.event.Event.{Event}
use Rattle.dots_host.specs.declared.event.Event.TheVariants as event
use Rattle.dots_host.specs.declared.out.OwnedOut.{OwnedOut}
use Rattle.dots_host.specs.Acts.{Timed, took}
use Rattle.dots_host.specs.Memory.{told}
use Rattle.dots_host.specs.Runs.{Turn, Added, Gives, each_telling, owed_in, outs_of}
use Rattle.dots_host.proofs.RunLemmas.{added_none, added_weaker, added_then, outs_back}
use Rattle.dots_host.specs.Media.{Media}
use Rattle.dots_host.specs.Becoming.{RestsWith}
use Rattle.dots_host.specs.Stored.{media_of}
use Rattle.dots_host.specs.Hosted.{HandsOut}
use Rattle.dots_settings.specs.Settings.{SettingsValue}
use Rattle.dots_world.specs.declared.party.Packet.{Packet}
use Rattle.dots_world.specs.declared.party.Party.TheVariants.{Server as the_server}
use Rattle.dots_world.specs.Worlds.{sent_act}
use Rattle.dots_history.specs.declared.entry.Entry.{Entry}
use Rattle.slot_journal.specs.DiskEntries as journal
use Rattle.dots_machine.specs.Machine.{State, begun_from, restarted}
use Rattle.dots_server.specs.ServerValues.{RestartsWith}
use Rattle.dots_server.specs.Turning.{Stored, LiesOn, Chained}
use Rattle.dots_server.specs.Taking.{Took}
use Rattle.world_play.specs.declared.parties.Parties.{Parties}
use Rattle.world_play.specs.declared.serving.ServerSide.{ServerSide}
use Rattle.world_play.specs.Calls.{sent_in, given_in, acts_in}
use Rattle.world_play.specs.Packets.{packet_sent, packets_in}
use Rattle.world_play.specs.Serving.{IsIn, HasServed}
use Rattle.world_play.proofs.Packets.{packets_are}
use Rattle.world_play.proofs.Sends.{AreSends, given_sends, sends_then, rests_on, added_calls, acts_then}

-- ---- the turns of an event

sends_joined : (xs ys : List (State × OwnedOut)) → outs_of (xs ++ ys) ≡ outs_of xs ++ outs_of ys
sends_joined [] ys = refl
sends_joined (x ∷ xs) ys = ap (λ more. x.1 ∷ more) (sends_joined xs ys)

turn_first : (turn : Turn State) (turns : List (Turn State)) → turn.sends ++ outs_of (owed_in turns) ≡ outs_of (owed_in (turn ∷ turns))
turn_first turn turns = sym (sends_joined (each_telling turn.left turn.sends) (owed_in turns) ∙ ap (λ front. front ++ outs_of (owed_in turns)) (outs_back turn.left turn.sends))

chain_sends : (settings : SettingsValue) (time : ℕ) (old : State) (stored : Stored) (turns : List (Turn State)) (after : Stored) (media media_new : Option Media) (acts acts_new : Option (List Timed))
    → Chained settings time old stored turns after media media_new acts acts_new → Added acts acts_new (AreSends (outs_of (owed_in turns)))
chain_sends settings time old stored [] after media media_new acts acts_new chained = subst (λ new. Added acts new (AreSends [])) (sym chained.2) (added_none acts (AreSends []) tt)
chain_sends settings time old stored (turn ∷ turns) after media media_new acts acts_new chained =
    let (between, there, given, time_is, grows, is, turned, rest) = chained in
    let first = added_weaker acts given (Gives turned.moment turn.sends) (AreSends turn.sends) turned.gives (λ more gives. given_sends turned.moment turn.sends more gives) in
    let later = chain_sends settings time turn.left between turns after there media_new given acts_new rest in
    added_then acts given acts_new (AreSends turn.sends) (AreSends (outs_of (owed_in turns))) (AreSends (outs_of (owed_in (turn ∷ turns)))) first later
    (λ front back a b. subst (λ outs. AreSends outs (front ++ back)) (turn_first turn turns) (sends_then turn.sends (outs_of (owed_in turns)) front back a b))

chain_rests : (settings : SettingsValue) (time : ℕ) (old : State) (stored : Stored) (turns : List (Turn State)) (after : Stored) (media media_new : Option Media) (acts acts_new : Option (List Timed))
    → Chained settings time old stored turns after media media_new acts acts_new → RestsWith media (LiesOn settings stored) → RestsWith media_new (LiesOn settings after)
chain_rests settings time old stored [] after media media_new acts acts_new chained rests =
    subst (λ m. RestsWith m (LiesOn settings after)) (sym chained.1) (subst (λ s. RestsWith media (LiesOn settings s)) (sym chained.0) rests)
chain_rests settings time old stored (turn ∷ turns) after media media_new acts acts_new chained rests =
    let (between, there, given, time_is, grows, is, turned, rest) = chained in
    chain_rests settings time turn.left between turns after there media_new given acts_new rest (rests_on turned.between there (LiesOn settings between) turned.sends (turned.rests rests))

-- ---- the acts

acts_given : (calls : List Act) → acts_in (flat_map given_in calls) ≡ map sent_act (flat_map sent_in calls)
acts_given [] = refl
acts_given (act.Gave out done ∷ calls) = acts_then (act.Gave out true ∷ []) (flat_map given_in calls) ∙ ap (λ more. sent_act out ∷ more) (acts_given calls)
acts_given (act.Took e t ∷ calls) = acts_given calls
acts_given (act.Read o ∷ calls) = acts_given calls
acts_given (act.Wrote a b o ∷ calls) = acts_given calls
acts_given (act.Synced o ∷ calls) = acts_given calls

pub has_taken : (came : Event) (at : ℕ) (acts now : List Act) → now ≡ acts ++ act.Took came at ∷ [] → acts_in now ≡ acts_in acts ++ took came at ∷ []
has_taken came at acts now taken = ap acts_in taken ∙ acts_then acts (act.Took came at ∷ [])

pub has_served : (settings : SettingsValue) (parties : Parties) (state : State) (came : Event) (at : ℕ) (old now : ServerSide) (between : List Act) (packets packets_now : List Packet) (is : IsIn settings old state)
    → Took settings state came at old.server now.server is.entries (Some (media_of old.host.disk)) (Some (media_of now.host.disk)) (told old.host.disk.whole old.host.disk.acts) (told now.host.disk.whole now.host.disk.acts)
    → now.host.disk.whole ≡ true → HandsOut old.host now.host → between ≡ old.acts.acts ++ act.Took came at ∷ []
    → count_by unavailable (flat_map sent_in (drop (length old.host.disk.acts) now.host.disk.acts)) ≡ 0
    → now.acts.acts ≡ between ++ flat_map given_in (drop (length old.host.disk.acts) now.host.disk.acts)
    → packets_now ≡ packets ++ flat_map (packets_in parties the_server) (drop (length old.host.disk.acts) now.host.disk.acts)
    → HasServed settings parties state came at now old.acts.acts packets packets_now
has_served settings parties state came at old now between packets packets_now is took_it whole leads taken enough given posted =
    let calls = drop (length old.host.disk.acts) now.host.disk.acts in
    let outs = outs_of (owed_in took_it.turns) in
    let added = chain_sends settings took_it.new.time state _ took_it.turns _ _ _ _ _ took_it.chained in
    let sent = added_calls old.host now.host outs whole leads added in
    record {
      owed = owed_in took_it.turns;
      new = took_it.new;
      step = (took_it.step, ap (count_by unavailable) (sym sent) ∙ enough);
      is_in = record { entries = took_it.few; kept = took_it.kept; rests = chain_rests settings took_it.new.time state _ took_it.turns _ _ _ _ _ took_it.chained is.rests };
      sent = posted ∙ ap (λ more. packets ++ more) (packets_are parties the_server calls ∙ ap (flat_map (packet_sent parties the_server)) sent);
      told = ap acts_in given ∙ acts_then between (flat_map given_in calls) ∙ ap (λ front. front ++ acts_in (flat_map given_in calls)) (has_taken came at old.acts.acts between taken)
          ∙ append_assoc (acts_in old.acts.acts) (took came at ∷ []) (acts_in (flat_map given_in calls))
          ∙ ap (λ more. acts_in old.acts.acts ++ took came at ∷ more) (acts_given calls ∙ ap (map sent_act) sent);
    }

-- a server that began with an empty disk
pub begun_in : (settings : SettingsValue) (side : ServerSide) (stored : List Entry) → RestartsWith side.server settings (restarted settings (begun_from settings stored) 0) stored
    → RestsWith (Some (media_of side.host.disk)) (journal.Represents side.server.journal settings stored) → stored ≡ [] → IsIn settings side (begun_from settings [])
begun_in settings side stored kept rests none =
    subst (λ entries. IsIn settings side (restarted settings (begun_from settings entries) 0)) none (record { entries = stored; kept = kept; rests = rests })
