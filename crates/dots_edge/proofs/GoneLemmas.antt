-- Connections that go and that stay, over several steps.
use Rattle.std.proofs.Common.{◌≡◌, ℕ, ◌++◌, ◌&&◌, Bool, true, false, List, take, Option, Some, None, IfSome, if◌then◌else◌, ◌<◌, length, get_or, set, refl, sym, ap, ◌∙◌, subst, inl, inr, arith}
use Rattle.std.proofs.lemmas.Bool.{cases_eq}
use Rattle.std.proofs.lemmas.List.{get_or_read}
use Rattle.dots_edge.proofs.PlaceLemmas.{each_written}
use Rattle.std.specs.declared.time.Duration.{Duration}
use Rattle.dots_host.specs.declared.event.What.{What}
use Rattle.dots_host.specs.declared.event.What.TheVariants as what
use Rattle.dots_edge.specs.declared.socket_log.SocketLog.{SocketLog}
use Rattle.dots_edge.specs.declared.connection.Connection.{Connection}
use Rattle.dots_edge.specs.declared.connections.Connections.{Connections}
use Rattle.dots_edge.specs.declared.gone.Gone.{Gone}
use Rattle.dots_edge.specs.Events.{SameCame}
use Rattle.dots_edge.specs.Logs.{IfBoth}
use Rattle.dots_edge.specs.Idle.{is_unwritten}
use Rattle.dots_edge.specs.Passing.{is_stale}
use Rattle.dots_edge.specs.Places.{at_place, is_opened, is_open, SameBeside, Follows, marked, stale_at, ends_at, swept, CameAt}
use Rattle.dots_edge.specs.Gone.{WentFrom, HasStopped, HasGone, IsOver, HasComeOn, GoesOn, AreOn}

same_came_then : (old between new : SocketLog) → SameCame old between → SameCame between new → SameCame old new
same_came_then old between new a b = (b.0 ∙ a.0, omega (arith, a.1, b.1))

both_then : (old between new : Option Connection)
    → IfBoth old between (λ (before after : Connection). SameCame before.came after.came)
    → IfBoth between new (λ (before after : Connection). SameCame before.came after.came)
    → IfBoth old new (λ (before after : Connection). SameCame before.came after.came)
both_then (Some old) (Some between) (Some new) a b = same_came_then old.came between.came new.came a b
both_then (Some old) (Some between) None a b = absurd b
both_then (Some old) None new a b = absurd a
both_then None between new a b = absurd a

pub goes_on_same : (place : Option Connection) → GoesOn place place
goes_on_same None is = cc
goes_on_same (Some connection) is = (is, (refl, omega arith))

pub goes_on_then : (old between new : Option Connection) → GoesOn old between → GoesOn between new → GoesOn old new
goes_on_then old between new a b is =
    let later = b is in
    let earlier = a later.0 in
    (earlier.0, both_then old between new earlier.1 later.1)

pub on_then : (old between new : Connections) → AreOn old between → AreOn between new → AreOn old new
on_then old between new a b place = goes_on_then (at_place old place) (at_place between place) (at_place new place) (a place) (b place)

pub on_same : (all : Connections) → AreOn all all
on_same all place = goes_on_same (at_place all place)

pub on_beside : (old new : Connections) (at : ℕ) → GoesOn (at_place old at) (at_place new at) → SameBeside old at new → AreOn old new
on_beside old new at here beside place =
    elim (cases_eq place at) [
      | inl same ↦ subst (λ at. GoesOn (at_place old at) (at_place new at)) (sym same) here
      | inr other ↦ subst (GoesOn (at_place old place)) (sym (beside place other)) (goes_on_same (at_place old place))
    ]

pub on_places : (old new : Connections) → new.places ≡ old.places → AreOn old new
on_places old new same place =
    subst (λ places. GoesOn (at_place old place) (get_or places.items place None)) (sym same) (goes_on_same (at_place old place))

-- one connection goes on, and the others stay
pub on_turned : (old between new : Connections) (at : ℕ) → GoesOn (at_place old at) (at_place between at) → SameBeside old at between → new.places ≡ between.places → AreOn old new
on_turned old between new at here beside same = on_then old between new (on_beside old between at here beside) (on_places between new same)

-- where no connection is left that is open for the server
pub goes_on_none : (old new : Option Connection) → new ≡ None → GoesOn old new
goes_on_none old new none is = cc

pub goes_on_marked : (place : Option Connection) → GoesOn place (marked place)
goes_on_marked None is = cc
goes_on_marked (Some connection) is = (is, (refl, omega arith))

pub on_written : (places : List (Option Connection)) (at : ℕ) (old new : Option Connection) → at < length places → old ≡ get_or places at old → GoesOn old new
    → (place : ℕ) → GoesOn (get_or places place None) (get_or (set places at new) place None)
on_written places at old new inside read here =
    each_written places at new (λ place found. GoesOn (get_or places place None) found) inside (λ place. goes_on_same (get_or places place None))
    (subst (λ before. GoesOn before new) (get_or_read places at old inside read None) here)

on_by : (stale kept : Bool) (connection : Connection) → GoesOn (Some connection) (if stale then None else (if kept then marked (Some connection) else Some connection))
on_by true kept connection is = cc
on_by false true connection is = (is, (refl, omega arith))
on_by false false connection is = (is, (refl, omega arith))

pub goes_on_swept : (now : Duration) (place : Option Connection) → GoesOn place (swept now place)
goes_on_swept now None is = cc
goes_on_swept now (Some connection) is = on_by (is_stale connection.moved connection.asked now) (is_unwritten connection) connection is

-- ---- what goes

pub gone_stopped : (old between : Option Connection) (gone : Gone) (now : Duration)
    → GoesOn old between → is_opened between ≡ true → HasStopped between → WentFrom between gone → HasGone old gone now
gone_stopped (Some old) (Some between) gone now on is stopped went =
    subst (λ (gone : Gone). SameCame old.came gone.came × IsOver gone now) (sym went)
    ((on is).1, elim stopped [ inl broken ↦ inl broken | inr ended ↦ inr (inl ended) ])
gone_stopped None (Some between) gone now on is stopped went = absurd (on is).1
gone_stopped old None gone now on is stopped went = absurd stopped

pub closed_by : (was : Bool) (room : List ℕ) (old between new : Connections) (place : ℕ) (now : Duration)
    → is_open between place ≡ was → GoesOn (at_place old place) (at_place between place)
    → (is_open old place ≡ true → HasStopped (at_place between place))
    → (is_open between place ≡ true → WentFrom (at_place between place) new.gone)
    → IfSome (if was then Some (what.Closed place) else None) (λ came. HasComeOn came room old new now)
closed_by true room old between new place now is on stopped went =
    gone_stopped (at_place old place) (at_place between place) new.gone now on is (stopped (on is).0) (went is)
closed_by false room old between new place now is on stopped went = tt

pub gone_stale : (place : Option Connection) (gone : Gone) (now : Duration) → stale_at now place ≡ true → WentFrom place gone → HasGone place gone now
gone_stale None gone now stale went = absurd went
gone_stale (Some connection) gone now stale went =
    subst (λ (gone : Gone). SameCame connection.came gone.came × IsOver gone now) (sym went) ((refl, omega arith), inr (inr stale))

both : (a b : Bool) → (a && b) ≡ true → (a ≡ true) × (b ≡ true)
both true b is = (refl, is)
both false b is = (is, cc)

pub gone_on : (old between : Option Connection) (gone : Gone) (now : Duration) → GoesOn old between → is_opened between ≡ true → HasGone between gone now → HasGone old gone now
gone_on (Some old) (Some between) gone now on is has = (same_came_then old.came between.came gone.came (on is).1 has.0, has.1)
gone_on None (Some between) gone now on is has = absurd (on is).1
gone_on old None gone now on is has = absurd has

pub gone_swept : (ends : Bool) (old between new : Connections) (now : Duration) (at conn : ℕ) (answer : Option ℕ)
    → ends_at now (at_place between at) ≡ ends → AreOn old between → answer ≡ (if ends then Some at else None) → answer ≡ Some conn
    → WentFrom (at_place between at) new.gone → HasGone (at_place old conn) new.gone now
gone_swept true old between new now at conn answer is on answered found went =
    let same : at ≡ conn = cc in
    let ends = both (stale_at now (at_place between at)) (is_opened (at_place between at)) is in
    subst (λ at. HasGone (at_place old at) new.gone now) same
    (gone_on (at_place old at) (at_place between at) new.gone now (on at) ends.1 (gone_stale (at_place between at) new.gone now ends.0 went))
gone_swept false old between new now at conn answer is on answered found went = cc

-- ---- what comes

pub came_on : (old between new : Option Connection) (bytes : List ℕ) → GoesOn old between → is_opened between ≡ true → CameAt between bytes new → CameAt old bytes new
came_on (Some old) (Some between) (Some new) bytes on is has = has ∙ ap (λ before. before ++ bytes) (on is).1.0
came_on None (Some between) new bytes on is has = absurd (on is).1
came_on (Some old) (Some between) None bytes on is has = absurd has
came_on old None new bytes on is has = absurd has

pub come_on : (found : Option What) (room : List ℕ) (old between new : Connections) (now : Duration) → AreOn old between → Follows found between new
    → IfSome found (λ came. HasComeOn came room between new now) → IfSome found (λ came. HasComeOn came room old new now)
come_on None room old between new now on follows has = tt
come_on (Some (what.Datagram from len)) room old between new now on follows has = absurd has
come_on (Some (what.Opened conn from)) room old between new now on follows has = absurd has
come_on (Some (what.Piece conn len)) room old between new now on follows has =
    (has.0, came_on (at_place old conn) (at_place between conn) (at_place new conn) (take len room) (on conn) follows.0 has.1)
come_on (Some (what.Closed conn)) room old between new now on follows has =
    gone_on (at_place old conn) (at_place between conn) new.gone now (on conn) follows.0 has
come_on (Some what.Tick) room old between new now on follows has = absurd has
come_on (Some what.Restart) room old between new now on follows has = absurd has
come_on (Some what.End) room old between new now on follows has = absurd has
come_on (Some what.Failed) room old between new now on follows has = absurd has
