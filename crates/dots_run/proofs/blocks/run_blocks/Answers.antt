use Rattle.std.proofs.Common.{◌≡◌, ◌∙◌, map, string_bytes, refl, sym, ap, subst}
use Rattle.std.proofs.lemmas.Bool.{true≢false}
use Rattle.coap_block.specs.Around.{Wrapped, seen_above, GoesOnSeen}
use Rattle.dots_machine.specs.Outside.{Outside, outside}
use Rattle.dots_machine.specs.Endings.{Behaves}
use Rattle.dots_run.specs.Outcomes.{Outcome}
use Rattle.dots_run.specs.Onlooking.{SawWhereKnown, ShowsInBlocks}
use Rattle.dots_run.proofs.Looks.{saw_nothing}
use Rattle.dots_run.proofs.Asking.{served_no_topic, no_topic}
use Rattle.dots_run.proofs.InBlocks.{shows_blocks, shows_none, lacks_memory, lacks_outcome}
use Rattle.dots_run.proofs.blocks.run_blocks.Goals as goal

-- ---- the host itself

pub returns-then-not-is_served : goal.returns-then-not-is_served
returns-then-not-is_served g c =
    let words = map string_bytes c.args.words.now in
    let said = c.run_shown-status.ensures in
    let none = said.unserved (sym c.is_served.ensures ∙ c.if-not-is_served.true) in
    record {
      machine = λ is.
          let (how, status_is, behaves, idle, saw) = said.machine is in
          shows_none words c.run_shown-status.result _ _ _ _ _ (ap g.H.Wire.acts none) how status_is behaves none
          (saw_nothing how words _ _ (sym c.is_served.ensures ∙ c.if-not-is_served.true) behaves (λ stopped. _) refl);
      told = said.told;
      leads = said.leads;
      outcome = record {
        commands = said.words;
        read = said.read;
        source_read = said.heard;
        disk = said.disk;
        unfailed = said.unfailed;
        written = said.written;
        small = said.small;
        refused = said.refused;
        complete = said.complete;
        readable = said.readable;
        unreadable = said.unreadable;
        sound = said.sound;
        at_fault = said.at_fault;
      };
      unread = said.unread;
      unserved = said.unserved;
      unshown = λ none. refl;
      uncalled = said.uncalled;
    }

-- ---- a host around it

pub returns-in-Ok : goal.returns-in-Ok
returns-in-Ok g c =
    let words = map string_bytes c.args.words.now in
    let served = sym c.is_served.ensures ∙ c.if-not-is_served.false in
    let said = c.run_shown-status-in-Ok.ensures in
    let status = c.run_shown-status-in-Ok.result in
    let around = c.in-Ok.around in
    let first = c.in-Ok.ensures.ok in
    let new = c.run_shown-status-in-Ok.new.host in
    let taken = sym c.into_inner.ensures in
    let acts = g.H.Wire.acts in
    let before : (h : _) → Outside =
    λ h. outside (g.S.Source.left c.args.settings.now) (g.S.Source.faults c.args.settings.now) (acts h) (g.H.Wire.faults h) (g.H.Disk.media h) (g.H.Disk.extent h) (g.H.Disk.faults h) (g.K.Sink.holds c.args.report.now) (g.K.Sink.faults c.args.report.now) in
    let after : (h : _) → Outside =
    λ h. outside (g.S.Source.left c.run_shown-status-in-Ok.new.settings) (g.S.Source.faults c.run_shown-status-in-Ok.new.settings) (acts h) (g.H.Wire.faults h) (g.H.Disk.media h) (g.H.Disk.extent h) (g.H.Disk.faults h) (g.K.Sink.holds c.run_shown-status-in-Ok.new.report) (g.K.Sink.faults c.run_shown-status-in-Ok.new.report) in
    let stays : new ≡ around → new.inner ≡ c.args.host = λ same. ap (λ (w : Wrapped _). w.inner) (same ∙ first) in
    let outcome : Outcome words status (before around.inner) (after new.inner) = record {
      commands = said.words;
      read = said.read;
      source_read = said.heard;
      disk = said.disk;
      unfailed = said.unfailed;
      written = said.written;
      small = said.small;
      refused = said.refused;
      complete = said.complete;
      readable = said.readable;
      unreadable = said.unreadable;
      sound = said.sound;
      at_fault = said.at_fault;
    } in
    record {
      machine = λ is.
          let (how, status_is, behaves, idle, saw) = said.machine is in
          let unseen = c.run_shown-status-in-Ok.new.onlooker ≡ c.args.onlooker.now in
          let sees = g.W.Onlooker.sees c.args.onlooker.now c.run_shown-status-in-Ok.new.onlooker in
          let above : (w : Wrapped _) → Outside = λ w. record (before w.inner) { acts = seen_above (acts w.inner) w.log } in
          let above_now : Outside = record (after new.inner) { acts = seen_above (acts new.inner) new.log } in
          let goes = subst (λ (w : Wrapped _). GoesOnSeen (acts w.inner) w.log w.blocks (acts new.inner) new.log new.blocks) first said.leads.1 in
          let did = subst (λ (w : Wrapped _). Behaves how words (above w) above_now) first behaves in
          let shown = subst (λ (w : Wrapped _). SawWhereKnown how (above w) above_now unseen sees) first saw in
          subst (λ h. ShowsInBlocks words status (before c.args.host) (after h) (h ≡ c.args.host) unseen sees) taken
          (shows_blocks words status (before c.args.host) (after new.inner) new.log new.blocks (new.inner ≡ c.args.host) unseen sees goes how status_is did (λ none. stays (idle none)) shown);
      told = λ topic is. no_topic words topic _ (served_no_topic words served) is;
      leads = subst (λ h. g.H.Wire.leads c.args.host h) taken (subst (λ (w : Wrapped _). g.H.Wire.leads w.inner new.inner) first said.leads.0);
      outcome = subst (λ h. Outcome words status (before c.args.host) (after h)) taken (subst (λ (w : Wrapped _). Outcome words status (before w.inner) (after new.inner)) first outcome);
      unread = λ none. absurd (true≢false (sym served ∙ none));
      unserved = λ none. absurd (true≢false (sym served ∙ none));
      unshown = λ none. absurd (true≢false (sym served ∙ none));
      uncalled = λ one three. subst (λ h. h ≡ c.args.host) taken (stays (said.uncalled one three));
    }

-- ---- no memory for one

pub returns-in-Err : goal.returns-in-Err
returns-in-Err g c =
    let words = map string_bytes c.args.words.now in
    let served = sym c.is_served.ensures ∙ c.if-not-is_served.false in
    let same = sym c.in-Err.ensures.err in
    let before : (h : _) → Outside =
    λ h. outside (g.S.Source.left c.args.settings.now) (g.S.Source.faults c.args.settings.now) (g.H.Wire.acts h) (g.H.Wire.faults h) (g.H.Disk.media h) (g.H.Disk.extent h) (g.H.Disk.faults h) (g.K.Sink.holds c.args.report.now) (g.K.Sink.faults c.args.report.now) in
    record {
      machine = λ is.
          subst (λ h. ShowsInBlocks words 4 (before c.args.host) (before h) (h ≡ c.args.host) (c.args.onlooker.now ≡ c.args.onlooker.now) (g.W.Onlooker.sees c.args.onlooker.now c.args.onlooker.now)) same
          (lacks_memory words (before c.args.host) (c.args.host ≡ c.args.host) _ _ served refl refl);
      told = λ topic is. no_topic words topic _ (served_no_topic words served) is;
      leads = subst (λ h. g.H.Wire.leads c.args.host h) same (g.met.H.Wire.leads_same c.args.host);
      outcome = subst (λ h. Outcome words 4 (before c.args.host) (before h)) same (lacks_outcome words (before c.args.host) served);
      unread = λ none check script. refl;
      unserved = λ none. sym same;
      unshown = λ none. refl;
      uncalled = λ one three. sym same;
    }
