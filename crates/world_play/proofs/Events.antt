-- What an event is by its draws.
use Rattle.std.specs.Prelude.{if◌then◌else◌, ◌==◌}
use Rattle.std.proofs.Common.{◌≡◌, ℕ, suc, ◌+◌, ◌*◌, ◌%◌, ◌<◌, ◌≤◌, ap, sym, ◌∙◌, refl, arith}
use Rattle.std.proofs.lemmas.Bool.Decides.{nat_tests}
use Rattle.dots_client.specs.declared.ask.Ask.{Ask}
use Rattle.dots_load.specs.Draws.{next, high, number_after, draw}
use Rattle.dots_world.specs.declared.event.WorldEvent.TheVariants as event
use Rattle.world_play.specs.declared.drawing.Drawn.{Drawn}
use Rattle.world_play.specs.Asks.{ask_for}
use Rattle.world_play.specs.Drawing.{drawn_at, raise, time_after, number_among, event_by}

asking : (drawn : Drawn) (time packets : ℕ) → drawn.first % 8 ≡ 0 → event_by drawn time packets ≡ event.Ask (drawn.second % 3) (ask_for (drawn.second % 3) drawn.third)
unfolding event_by
asking drawn time packets is = rw is refl

pub ask_event : (drawn : Drawn) (time packets : ℕ) (ask : Ask) → drawn.first % 8 ≡ 0 → ask ≡ ask_for (drawn.second % 3) drawn.third → event.Ask (drawn.second % 3) ask ≡ event_by drawn time packets
ask_event drawn time packets ask is asks = ap (λ (x : Ask). event.Ask (drawn.second % 3) x) asks ∙ sym (asking drawn time packets is)

pub restart_event : (drawn : Drawn) (time packets : ℕ) → drawn.first % 8 ≡ 2 → drawn.third % 16 < 2 → event_by drawn time packets ≡ (if drawn.third % 16 == 0 then event.Restart else event.GatewayRestart)
unfolding event_by
restart_event drawn time packets is few = grind (arith, nat_tests)

pub tick_event : (drawn : Drawn) (time packets : ℕ) → ¬ (drawn.first % 8 ≡ 0) → (drawn.first % 8 ≡ 2 → 2 ≤ drawn.third % 16) → drawn.first % 8 < 3 → event_by drawn time packets ≡ event.Tick time
unfolding event_by
tick_event drawn time packets not_first not_restart less = grind (arith, nat_tests)

pub deliver_event : (drawn : Drawn) (time packets : ℕ) → 3 ≤ drawn.first % 8 → event_by drawn time packets ≡ event.Deliver (number_among drawn packets)
unfolding event_by
deliver_event drawn time packets more = grind (arith, nat_tests)

-- three draws further
pub three_further : (seed k : ℕ) → number_after seed (3 * (k + 1)) ≡ next (next (next (number_after seed (3 * k))))
three_further seed k =
    let far : 3 * (k + 1) ≡ suc (suc (suc (3 * k))) = omega arith in
    ap (number_after seed) far

pub second_draw : (seed k : ℕ) → draw seed (3 * k + 1) ≡ high (next (next (number_after seed (3 * k))))
second_draw seed k =
    let far : 3 * k + 1 ≡ suc (3 * k) = omega arith in
    ap (λ (n : ℕ). draw seed n) far

pub third_draw : (seed k : ℕ) → draw seed (3 * k + 2) ≡ high (next (next (next (number_after seed (3 * k)))))
third_draw seed k =
    let far : 3 * k + 2 ≡ suc (suc (3 * k)) = omega arith in
    ap (λ (n : ℕ). draw seed n) far

-- they are those of the event
pub drawn_is : (drawn : Drawn) (seed k number : ℕ) → number ≡ number_after seed (3 * k) → drawn.first ≡ high (next number) → drawn.second ≡ high (next (next number)) → drawn.third ≡ high (next (next (next number)))
    → drawn ≡ drawn_at seed k
drawn_is drawn seed k number is first second third =
    let one = first ∙ ap (λ (n : ℕ). high (next n)) is in
    let two = second ∙ ap (λ (n : ℕ). high (next (next n))) is ∙ sym (second_draw seed k) in
    let three = third ∙ ap (λ (n : ℕ). high (next (next (next n)))) is ∙ sym (third_draw seed k) in
    ap (λ (n : ℕ). record { first = n; second = drawn.second; third = drawn.third }) one
    ∙ ap (λ (n : ℕ). record { first = draw seed (3 * k); second = n; third = drawn.third }) two
    ∙ ap (λ (n : ℕ). record { first = draw seed (3 * k); second = draw seed (3 * k + 1); third = n }) three

-- the time behind it
pub time_more : (seed k time raised : ℕ) (drawn : Drawn) → time ≡ time_after seed k → raised ≡ raise drawn → drawn ≡ drawn_at seed k → time + raised ≡ time_after seed (suc k)
time_more seed k time raised drawn is by so = ap (λ (n : ℕ). n + raised) is ∙ ap (λ (n : ℕ). time_after seed k + n) by ∙ ap (λ (d : Drawn). time_after seed k + raise d) so

pub next_time : (seed k time : ℕ) → time ≡ time_after seed (suc k) → time ≡ time_after seed (k + 1)
next_time seed k time is =
    let far : suc k ≡ k + 1 = omega arith in
    is ∙ ap (λ (n : ℕ). time_after seed n) far
