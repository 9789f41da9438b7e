use Rattle.std.proofs.Common.{◌%◌, IfSome, refl, sym, subst, ◌∙◌}
use Rattle.dots_edge.specs.Events.{OnNoBytes}
use Rattle.dots_edge.specs.Places.{at_place, is_open, Follows}
use Rattle.dots_edge.specs.Gone.{HasComeOn, GoesOn}
use Rattle.dots_edge.proofs.FollowLemmas.{follows_after, follows_end}
use Rattle.dots_edge.proofs.GoneLemmas.{on_beside, on_turned, goes_on_none, closed_by}
use Rattle.dots_edge.proofs.connections.Connections.look.Goals as goal

pub returns-in-Ended-clause-follows : goal.returns-in-Ended-clause-follows
returns-in-Ended-clause-follows c =
    let old = c.args.self.now in
    let between = c.turn_of.new.self in
    let new = c.let_go.new.self in
    let was = is_open between (old.turn % 128) in
    follows_after c.let_go.result old between new c.turn_of.ensures.«open»
    (subst (λ found. Follows found between new) (sym c.let_go.ensures.answer) (follows_end was between new (old.turn % 128) refl c.let_go.ensures.ended c.let_go.ensures.beside))

pub returns-in-Ended-clause-whence : goal.returns-in-Ended-clause-whence
returns-in-Ended-clause-whence c =
    let old = c.args.self.now in
    let between = c.turn_of.new.self in
    let new = c.let_go.new.self in
    let place = old.turn % 128 in
    let on = subst (λ piece. OnNoBytes piece (GoesOn (at_place old place) (at_place between place))) c.in-Ended.is c.turn_of.ensures.same in
    let room = c.turn_of.new.into in
    subst (λ found. IfSome found (λ came. HasComeOn came room old new c.args.now)) (sym c.let_go.ensures.answer)
    (closed_by (is_open between place) room old between new place c.args.now refl on (c.turn_of.ensures.over c.in-Ended.is) c.let_go.ensures.went)

pub returns-in-Ended-clause-on : goal.returns-in-Ended-clause-on
returns-in-Ended-clause-on c _ =
    let old = c.args.self.now in
    let new = c.let_go.new.self in
    let place = old.turn % 128 in
    on_beside old new place (goes_on_none (at_place old place) (at_place new place) c.let_go.ensures.ended)
    (λ other ne. c.let_go.ensures.beside other ne ∙ c.turn_of.ensures.beside other ne)

pub returns-in-Nothing-clause-on : goal.returns-in-Nothing-clause-on
returns-in-Nothing-clause-on c _ =
    let old = c.args.self.now in
    let between = c.turn_of.new.self in
    let place = old.turn % 128 in
    let on = subst (λ piece. OnNoBytes piece (GoesOn (at_place old place) (at_place between place))) c.in-Nothing.is c.turn_of.ensures.same in
    on_turned old between c.pass.new.self place on c.turn_of.ensures.beside c.pass.ensures.places

pub returns-in-Again-clause-on : goal.returns-in-Again-clause-on
returns-in-Again-clause-on c _ =
    let old = c.args.self.now in
    let between = c.turn_of.new.self in
    let place = old.turn % 128 in
    let on = subst (λ piece. OnNoBytes piece (GoesOn (at_place old place) (at_place between place))) c.in-Again.is c.turn_of.ensures.same in
    on_turned old between c.go_on-in-Again.new.self place on c.turn_of.ensures.beside c.go_on-in-Again.ensures.places
