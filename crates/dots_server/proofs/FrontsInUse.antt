-- What decides on the front of a connection stands on what a server represents.
use Rattle.std.proofs.Common.{◌≡◌, ℕ, ◌<◌, ◌^◌, true, List, Some, sym, ap, ◌∙◌, subst}
use Rattle.dots_settings.specs.Settings.{SettingsValue}
use Rattle.dots_history.specs.declared.entry.Entry.{Entry}
use Rattle.dots_history.specs.Calm.{is_own}
use Rattle.dots_registry.specs.RegistryValues.{RegistryValue, time_of}
use Rattle.dots_registry.specs.RegistryValues as registry
use Rattle.dots_registry.specs.Fitting.{fits_now}
use Rattle.dots_registry.specs.Limits.{ClientsKeepLimits}
use Rattle.stream_table.specs.declared.place.LinePlace.{LinePlace}
use Rattle.stream_table.specs.Lines.{Line, PeerLines}
use Rattle.stream_table.specs.Places.{IsAt, line_at}
use Rattle.rest_answers.specs.declared.answer.RestAnswer.TheVariants as answer
use Rattle.rest_answers.specs.declared.caller.Caller.{Caller}
use Rattle.rest_answers.specs.declared.front.RestFront.TheVariants as fronts
use Rattle.rest_answers.specs.Turns.{RestFront, caller_of, IsFront}
use Rattle.dots_data.specs.Accepting.{IsInUse, FrontCanBeCarriedOut}
use Rattle.dots_data.specs.Accepting as data_channel
use Rattle.dots_machine.specs.Machine.{State}
use Rattle.dots_server.specs.ServerValues.{ServerValue, Represents, IsServing, IsAcceptable}
use Rattle.dots_server.specs.Pieces.{IsFrontAt, CanAnswerFront}

-- its registry is in use
pub in_use : (server : ServerValue) → IsServing server → IsInUse server.settings server.registry
in_use server serving =
    let of = serving.represents.represents in
    record {
      history = serving.state.history;
      represents = of.registry;
      limits = subst (λ t. ClientsKeepLimits server.settings.limits t serving.state.history) (sym of.time_is) of.limits;
      early = subst (λ t. t < 2 ^ 48) (sym of.time_is) of.early;
    }

-- what the registry can take the server can
acceptable : (server : ServerValue) (entry : Entry) → data_channel.IsAcceptable server.settings server.registry entry → IsAcceptable server entry
acceptable server entry can = record {
  now = can.now;
  fits = λ settings state represents. subst (λ (s : SettingsValue). fits_now s server.registry state.history entry ≡ true) represents.settings_are (can.fits state.history represents.registry);
  own = λ settings state represents. subst (λ (s : SettingsValue). is_own s entry ≡ true) represents.settings_are (can.own state.history represents.registry);
  one_peer = λ settings state represents. can.one_peer state.history represents.registry;
}

pub can_answer : (server : ServerValue) (front : RestFront) → FrontCanBeCarriedOut server.settings server.registry front → CanAnswerFront front server
can_answer server fronts.Waits can = tt
can_answer server (fronts.Refused fault) can = tt
can_answer server (fronts.Answered size close (answer.Reply reply)) can = tt
can_answer server (fronts.Answered size close (answer.LongReply reply)) can = tt
can_answer server (fronts.Answered size close (answer.Accept reply entry)) can = acceptable server entry can

-- what stands there by the registry stands there in each state that the server represents
pub stands_there : (old server : ServerValue) → old ≡ server → (tables : RegistryValue) → tables ≡ old.registry → (conn : ℕ) (place : LinePlace) (at : IsAt conn place server.lines) (caller : Caller) (front : RestFront)
    → caller_of old.settings conn old.lines ≡ Some caller
    → ((line : Line) (entries : List Entry) → line_at place old.lines ≡ Some line → registry.Represents tables entries → IsFront old.settings (time_of tables) entries caller line.buffered front)
    → (settings : SettingsValue) (state : State) → Represents server settings state → IsFrontAt settings conn state at.line front
stands_there old server is tables tables_are conn place at caller front asks stands settings state represents =
    let of = subst (λ (s : ServerValue). Represents s settings state) (sym is) represents in (
      caller,
      subst (λ (lines : List PeerLines). caller_of settings conn lines ≡ Some caller) of.lines (subst (λ (s : SettingsValue). caller_of s conn old.lines ≡ Some caller) of.settings_are asks),
      subst (λ t. IsFront settings t state.history caller at.line.buffered front) (ap time_of tables_are ∙ of.time_is)
          (subst (λ (s : SettingsValue). IsFront s (time_of tables) state.history caller at.line.buffered front) of.settings_are
          (stands at.line state.history (ap (λ (s : ServerValue). line_at place s.lines) is ∙ at.there) (subst (λ (r : RegistryValue). registry.Represents r state.history) (sym tables_are) of.registry))),
    )
