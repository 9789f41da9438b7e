-- What an event is, by its second draw.
use Rattle.std.proofs.Common.{zero, map, Bool, true, false, subst, ◌≡◌, ℕ, ◌+◌, ◌*◌, ◌%◌, ◌<◌, List, [], ◌∷◌, ◌++◌, suc, refl, ap, sym, ◌∙◌, arith}
use Rattle.std.specs.Prelude.{cond, nat_lt, ◌==◌}
use Rattle.std.specs.List.{range_with_len}
use Rattle.std.proofs.lemmas.List.FromFn.{map-range_with_len_more}
use Rattle.dots_host.specs.declared.event.Event.{Event}
use Rattle.dots_host.specs.declared.event.Event.TheVariants as event
use Rattle.dots_host.specs.Memory.{Coming, Hands}
use Rattle.dots_host.specs.declared.act.Act.{Act}
use Rattle.dots_host.specs.Acts.{took, wire_acts}
use Rattle.dots_host.specs.Runs.{IsNoEnd, EndsBy}
use Rattle.dots_load.proofs.Taken.{NoneEnds, handed}
use Rattle.dots_host.specs.Hosted.{Hosted, with_event, HandsOut}
use Rattle.coap_message.specs.Message.{spelling}
use Rattle.dots_load.specs.Draws.{next, high, number_after}
use Rattle.dots_load.specs.Requests.{get_all, delete_one, put_one, prefix_text, scope_body}
use Rattle.dots_load.specs.Events.{sends, event_by, load_event, events_to, load_events}
use Rattle.dots_load.specs.Report.{coming_in}

putting : (k a b c d : ℕ) → b % 8 < 5
    → event_by k a b c d ≡ sends (a % 8) (put_one k (a % 8) (k + 1) (scope_body (prefix_text (a % 8 % 4) (c % 256)) (60 + d % 600)))
unfolding event_by
putting k a b c d is = grind arith

pub put_event : (k a b c d mid : ℕ) (body bytes : List ℕ) → b % 8 < 5 → mid ≡ k + 1 → body ≡ scope_body (prefix_text (a % 8 % 4) (c % 256)) (60 + d % 600)
    → bytes ≡ spelling (put_one k (a % 8) mid body) → event.Datagram (a % 8) bytes ≡ event_by k a b c d
put_event k a b c d mid body bytes is mid_is body_is bytes_is =
    ap (λ (x : List ℕ). event.Datagram (a % 8) x) bytes_is
    ∙ ap (λ (x : ℕ). sends (a % 8) (put_one k (a % 8) x body)) mid_is
    ∙ ap (λ (x : List ℕ). sends (a % 8) (put_one k (a % 8) (k + 1) x)) body_is
    ∙ sym (putting k a b c d is)

deleting : (k a b c d : ℕ) → b % 8 ≡ 5 → event_by k a b c d ≡ sends (a % 8) (delete_one k (a % 8) (1 + c % (k + 1)))
unfolding event_by
deleting k a b c d is = rw is refl

pub delete_event : (k a b c d mids : ℕ) (bytes : List ℕ) → b % 8 ≡ 5 → mids ≡ k + 1 → bytes ≡ spelling (delete_one k (a % 8) (1 + c % mids))
    → event.Datagram (a % 8) bytes ≡ event_by k a b c d
delete_event k a b c d mids bytes is mids_is bytes_is =
    ap (λ (x : List ℕ). event.Datagram (a % 8) x) bytes_is
    ∙ ap (λ (x : ℕ). sends (a % 8) (delete_one k (a % 8) (1 + c % x))) mids_is
    ∙ sym (deleting k a b c d is)

pub get_event : (k a b c d : ℕ) → b % 8 ≡ 6 → event_by k a b c d ≡ sends (a % 8) (get_all k (a % 8))
unfolding event_by
get_event k a b c d is = rw is refl

pub tick_event : (k a b c d : ℕ) → b % 8 ≡ 7 → event_by k a b c d ≡ event.Tick
unfolding event_by
tick_event k a b c d is = rw is refl

-- four draws further
pub four_further : (seed k : ℕ) → number_after seed (4 * (k + 1)) ≡ next (next (next (next (number_after seed (4 * k)))))
four_further seed k =
    let far : 4 * (k + 1) ≡ suc (suc (suc (suc (4 * k)))) = omega arith in
    ap (number_after seed) far

-- one event more
pub one_more : (seed k : ℕ) → events_to seed (k + 1) ≡ events_to seed k ++ load_event seed k ∷ []
unfolding events_to
one_more seed k = map-range_with_len_more (load_event seed) 0 k k (omega arith)

pub none_yet : (seed : ℕ) → events_to seed 0 ≡ []
unfolding events_to
none_yet seed = refl

pub drawn : (seed k number : ℕ) → number ≡ number_after seed (4 * k)
    → load_event seed k ≡ record { event = event_by k (high (next number)) (high (next (next number))) (high (next (next (next number)))) (high (next (next (next (next number))))); at = 1000 + k }
unfolding load_event
drawn seed k number is =
    let one : 4 * k + 1 ≡ suc (4 * k) = omega arith in
    let two : 4 * k + 2 ≡ suc (suc (4 * k)) = omega arith in
    let three : 4 * k + 3 ≡ suc (suc (suc (4 * k))) = omega arith in
    rw (one, two, three, is) refl

-- the events to which one more was pushed
pub host_step : (start old new : Hosted) (seed k number at : ℕ) (e : Event) → at ≡ 1000 + k → old ≡ record start { coming = events_to seed k } → number ≡ number_after seed (4 * k)
    → e ≡ event_by k (high (next number)) (high (next (next number))) (high (next (next (next number)))) (high (next (next (next (next number)))))
    → new ≡ with_event old e at → new ≡ record start { coming = events_to seed (k + 1) }
host_step start old new seed k number at e at_is old_is number_is e_is new_is =
    let planned : Coming = record { event = e; at = 1000 + k } in
    let is : planned ≡ load_event seed k = ap (λ (x : Event). record { event = x; at = 1000 + k }) e_is ∙ sym (drawn seed k number number_is) in
    new_is ∙ ap (λ (t : ℕ). with_event old e t) at_is ∙ ap (λ (h : Hosted). with_event h e (1000 + k)) old_is
    ∙ ap (λ (c : Coming). record start { coming = events_to seed k ++ c ∷ [] }) is
    ∙ ap (λ (l : List Coming). record start { coming = l }) (sym (one_more seed k))

pub host_start : (start : Hosted) (seed : ℕ) → start.coming ≡ [] → start ≡ record start { coming = events_to seed 0 }
host_start start seed none = ap (λ (l : List Coming). record start { coming = l }) (none ∙ sym (none_yet seed))

-- ---- none of the events ends the run

chosen : (p q r : Bool) (x y z : Event) (at : ℕ) → IsNoEnd (took x at) → IsNoEnd (took y at) → IsNoEnd (took z at)
    → IsNoEnd (took (cond p x (cond q y (cond r z event.Tick))) at)
chosen true q r x y z at one two three = one
chosen false true r x y z at one two three = two
chosen false false true x y z at one two three = three
chosen false false false x y z at one two three = tt

goes_by : (k a b c d at : ℕ) → IsNoEnd (took (event_by k a b c d) at)
unfolding event_by
goes_by k a b c d at =
    chosen (nat_lt (b % 8) 5) (b % 8 == 5) (b % 8 == 6)
    (sends (a % 8) (put_one k (a % 8) (k + 1) (scope_body (prefix_text (a % 8 % 4) (c % 256)) (60 + d % 600))))
    (sends (a % 8) (delete_one k (a % 8) (1 + c % (k + 1)))) (sends (a % 8) (get_all k (a % 8))) at tt tt tt

goes_from : (f : ℕ → Coming) (from count : ℕ) → ((k : ℕ) → IsNoEnd (took (f k).event (f k).at)) → NoneEnds (map f (range_with_len from count))
goes_from f from zero each = tt
goes_from f from (suc count) each = (each from, goes_from f (from + 1) count each)

load_goes : (seed k : ℕ) → IsNoEnd (took (load_event seed k).event (load_event seed k).at)
unfolding load_event
load_goes seed k = goes_by k _ _ _ _ _

pub none_ends : (seed count : ℕ) → NoneEnds (events_to seed count)
unfolding events_to
none_ends seed count = goes_from (load_event seed) 0 count (load_goes seed)

pub all_come : (seed : ℕ) (old new : Hosted) → old.coming ≡ load_events seed → old.disk.acts ≡ [] → HandsOut old new → new.disk.whole ≡ true
    → EndsBy event.End (wire_acts 0 new.disk.acts) → coming_in (wire_acts 0 new.disk.acts) ≡ load_events seed ++ (record { event = event.End; at = 0 }) ∷ []
all_come seed old new coming none hands whole (before, last, at, ends, are, on) =
    let made = hands whole in
    let acts : new.disk.acts ≡ made.1 = made.2 ∙ ap (λ (front : List Act). front ++ made.1) none in
    let handing : Hands (load_events seed) made.1 new.coming = subst (λ (c : List Coming). Hands c made.1 new.coming) coming made.3 in
    let calls : Hands (load_events seed) new.disk.acts new.coming = subst (λ (a : List Act). Hands (load_events seed) a new.coming) (sym acts) handing in
    handed (load_events seed) 0 new.disk.acts new.coming before last at (none_ends seed 20000) calls ends are on
