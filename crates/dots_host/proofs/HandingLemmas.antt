-- An event that a host over lists hands in.
use Rattle.std.proofs.Common.{◌≡◌, ℕ, true, List, drop, sym, ap, ◌∙◌}
use Rattle.std.proofs.lemmas.Bool.{false≢true}
use Rattle.dots_host.specs.declared.event.Event.{Event}
use Rattle.dots_host.specs.declared.event.Event.TheVariants as event
use Rattle.dots_host.specs.declared.act.Act.TheVariants as act
use Rattle.dots_host.specs.Memory.{Coming, is_given, first_coming, HandsOne}

of_parts : (coming : Coming) (event : Event) (at : ℕ) → event ≡ coming.event → at ≡ coming.at → coming ≡ record { event = event; at = at }
of_parts coming event at e t = ap (λ x. with coming.at x) (sym e) ∙ ap (λ x. with x event) (sym t)
  where
    with : ℕ → Event → Coming
    with at event = record { event = event; at = at }

-- an event that was handed in
pub hands_event : (coming later : List Coming) (event : Event) (at : ℕ) → is_given event ≡ true → event ≡ (first_coming coming).event → at ≡ (first_coming coming).at → later ≡ drop 1 coming
    → HandsOne coming (act.Took event at) later
hands_event coming later event.Failed at given e t rest = absurd (false≢true given)
hands_event coming later (event.Datagram peer bytes) at given e t rest = (of_parts (first_coming coming) _ at e t, rest)
hands_event coming later (event.Opened conn peer) at given e t rest = (of_parts (first_coming coming) _ at e t, rest)
hands_event coming later (event.Piece conn bytes) at given e t rest = (of_parts (first_coming coming) _ at e t, rest)
hands_event coming later (event.Closed conn) at given e t rest = (of_parts (first_coming coming) _ at e t, rest)
hands_event coming later event.Tick at given e t rest = (of_parts (first_coming coming) _ at e t, rest)
hands_event coming later event.Restart at given e t rest = (of_parts (first_coming coming) _ at e t, rest)
hands_event coming later event.End at given e t rest = (of_parts (first_coming coming) _ at e t, rest)
