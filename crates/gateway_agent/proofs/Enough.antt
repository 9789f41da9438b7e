-- What is passed on where memory was enough is so in the words of the machine.
use Rattle.std.specs.Bool.{MatchBool}
use Rattle.std.proofs.Common.{◌≡◌, ℕ, ◌==◌, Bool, true, false, List, Option, sym, ◌∙◌}
use Rattle.std.specs.Prelude.{Result, Ok, Err, IfOk}
use Rattle.dots_host.specs.Acts.{Timed}
use Rattle.dots_host.specs.Media.{Media}
use Rattle.dots_host.specs.declared.event.Event.{Event}
use Rattle.dots_host.specs.declared.event.Event.TheVariants as event
use Rattle.dots_host.specs.declared.out.OwnedOut.{OwnedOut}
use Rattle.dots_settings.specs.Settings.{SettingsValue}
use Rattle.dots_gateway.specs.declared.passed.Passed.{Passed}
use Rattle.dots_gateway.specs.declared.passed.Passed.TheVariants as passed
use Rattle.dots_gateway.specs.declared.passed.GatewayFault.{GatewayFault}
use Rattle.dots_gateway.specs.declared.passed.GatewayFault.TheVariants as fault
use Rattle.gateway_agent.specs.Keeping.{AgentValue}
use Rattle.gateway_agent.specs.Passing.{GatewayState, GoesUp, GoesDown, Passes, state_at}
use Rattle.gateway_agent.specs.PassingWell.{GoesUpWell, GoesDownWell, GoesUpAs, GoesDownAs, PassesAs, is_enough, is_table_full}
use Rattle.gateway_agent.specs.Turning.{TookBy, Took}

pub down_as : (said : Passed) (old : GatewayState) (datagram : List ℕ) (outs : List OwnedOut) (new : GatewayState) (goes : GoesDown old datagram outs new) → goes.said ≡ said → GoesDownAs (is_enough said) old datagram outs new
down_as passed.NoMemory old datagram outs new goes is = goes
down_as passed.Nothing old datagram outs new goes is = (goes, λ lacks. let no = sym is ∙ lacks in cc no)
down_as (passed.Reply to bytes) old datagram outs new goes is = (goes, λ lacks. let no = sym is ∙ lacks in cc no)
down_as (passed.Forward bytes fresh) old datagram outs new goes is = (goes, λ lacks. let no = sym is ∙ lacks in cc no)

pub refused_as : (why : GatewayFault) (old : GatewayState) (peer : ℕ) (datagram : List ℕ) (outs : List OwnedOut) (new : GatewayState) (goes : GoesUp old peer datagram outs new) → goes.said ≡ Err why
    → GoesUpAs (is_table_full why) old peer datagram outs new
refused_as fault.NoMemory old peer datagram outs new goes is = goes
refused_as fault.TableFull old peer datagram outs new goes is = (goes, λ lacks. let no = sym is ∙ lacks in cc no)

module _ (old : GatewayState) (at : ℕ) (outs : List OwnedOut) (new : GatewayState) where
  passes_so : (whole : Bool) (came : Event) → PassesAs whole old came at outs new → Passes old came at outs new
  passes_so false came p = p
  passes_so true (event.Datagram from bytes) p = by (from == old.core.upstream) p
    where
      by : (up : Bool) → MatchBool up (GoesDownWell (state_at old at) bytes outs new) (GoesUpWell (state_at old at) from bytes outs new)
          → MatchBool up (GoesDown (state_at old at) bytes outs new) (GoesUp (state_at old at) from bytes outs new)
      by true p = p.0
      by false p = p.0
  passes_so true event.Restart p = p
  passes_so true event.End p = p
  passes_so true event.Failed p = p
  passes_so true event.Tick p = p
  passes_so true (event.Opened conn peer) p = p
  passes_so true (event.Closed conn) p = p
  passes_so true (event.Piece conn piece) p = p

pub as_took : (settings : SettingsValue) (state : GatewayState) (came : Event) (at : ℕ) (old now : AgentValue) (media media_now : Option Media) (acts acts_now : Option (List Timed)) (whole : Bool)
    → TookBy (λ outs new. PassesAs whole state came at outs new) settings state old now media media_now acts acts_now → Took settings state came at old now media media_now acts acts_now
as_took settings state came at old now media media_now acts acts_now whole took = record {
  outs = took.outs;
  new = took.new;
  made = passes_so state at took.outs took.new whole came took.made;
  grows = took.grows;
  timely = took.timely;
  is_in = took.is_in;
  turned = took.turned;
}

pub if_ok_as : {A E : Type 0} {P Q : A → Type 0} (r : Result A E) → ((x : A) → P x → Q x) → IfOk r P → IfOk r Q
if_ok_as (Ok x) each is = each x is
if_ok_as (Err e) each is = tt
