use Rattle.std.proofs.Common.{◌≡◌, ◌+◌, ◌^◌, ◌<◌, ◌≤◌, false, Result, Ok, Err, length, is_some, refl, sym, ap, ◌∙◌, subst, arith}
use Rattle.std.specs.Prelude.{OnOk, is_err}
use Rattle.std.proofs.lemmas.List.{length-map}
use Rattle.cr_board.specs.Boards.{BoardParts}
use Rattle.cr_board.specs.Choices.{is_holding}
use Rattle.cr_board.specs.Partitions.{IsKept}
use Rattle.cr_board.specs.Moves.{IsDue, handed_in}
use Rattle.cr_board.specs.Rooms.{parts_of}
use Rattle.cr_board.proofs.Moving.{holder_inside}
use Rattle.cr_board.proofs.Keeping.{due_keeps}
use Rattle.cr_board.proofs.board.Board.accept.Goals as goal

pub invariant_of-self : goal.invariant_of-self
invariant_of-self c = record {
  facts = subst IsKept (sym (c.make_hand_room.ensures.same c.self.inside.opening)) c.self.invariant.facts;
  rooms = c.make_hand_room.ensures.kept c.self.invariant.rooms;
}

pub returns-then-is_err-clause-is : goal.returns-then-is_err-clause-is
returns-then-is_err-clause-is c = (refl, c.requires, c.make_hand_room.ensures.same c.self.inside.opening ∙ c.self.view_is)

pub hand_over-requires-clause-worker : goal.hand_over-requires-clause-worker
hand_over-requires-clause-worker c =
    let inside = holder_inside c.args.self.now.held c.args.worker c.requires.held c.requires.holds in
    let held : length c.make_hand_room.new.state.held.items ≡ length c.args.self.now.held = ap (λ (b : BoardParts). length b.held) (c.make_hand_room.ensures.same c.self.inside.opening ∙ c.self.view_is) in
    omega (arith, inside, held, c.make_hand_room.new.state.held.ok)

pub hand_over-requires-clause-lane : goal.hand_over-requires-clause-lane
hand_over-requires-clause-lane c =
    let inside = holder_inside c.args.self.now.held c.args.worker c.requires.held c.requires.holds in
    let held : length c.make_hand_room.new.state.held.items ≡ length c.args.self.now.held = ap (λ (b : BoardParts). length b.held) (c.make_hand_room.ensures.same c.self.inside.opening ∙ c.self.view_is) in
    let kept : IsKept (parts_of c.self.inside.opening c.make_hand_room.new.state) = subst IsKept (sym (c.make_hand_room.ensures.same c.self.inside.opening)) c.self.invariant.facts in
    omega (arith, inside, held, kept.partition.shape.held, kept.partition.shape.lanes, length-map c.make_hand_room.new.state.lanes.items (λ lane. lane.items), c.make_hand_room.new.state.lanes.ok)

pub hand_over-requires-clause-holds : goal.hand_over-requires-clause-holds
hand_over-requires-clause-holds c =
    ap (λ (b : BoardParts). is_holding b.held c.args.worker) (c.make_hand_room.ensures.same c.self.inside.opening ∙ c.self.view_is) ∙ ap is_some c.requires.holds

-- the board after the hand-in
is_handed : (c : goal.After-hand_over) → parts_of c.self.inside.opening c.hand_over.new.state ≡ handed_in (parts_of c.self.inside.opening c.self.inside.state) c.args.worker c.args.number c.args.done
is_handed c =
    c.hand_over.ensures.is c.self.inside.opening c.args.done (record { used = c.in-Ok.ensures.used; found = c.in-Ok.ensures.found; opened = c.in-Ok.ensures.opened })
    ∙ ap (λ b. handed_in b c.args.worker c.args.number c.args.done) (c.make_hand_room.ensures.same c.self.inside.opening)

pub invariant_of-self-in-Ok : goal.invariant_of-self-in-Ok
invariant_of-self-in-Ok c = record {
  facts = subst IsKept (sym (is_handed c))
      (due_keeps c.a_split_among_others.ensures (parts_of c.self.inside.opening c.self.inside.state) c.args.worker c.args.number c.args.done
      (subst (λ b. IsDue b c.args.worker c.args.number c.args.done) (sym c.self.view_is) c.requires) c.found.ensures.done c.self.invariant.facts);
  rooms = c.hand_over.ensures.rooms;
}

pub invariant_of-self-in-Err : goal.invariant_of-self-in-Err
invariant_of-self-in-Err c = record {
  facts = subst IsKept (sym (c.make_hand_room.ensures.same c.self.inside.opening)) c.self.invariant.facts;
  rooms = c.make_hand_room.ensures.kept c.self.invariant.rooms;
}

pub returns-in-Ok-clause-is : goal.returns-in-Ok-clause-is
returns-in-Ok-clause-is c = (c.requires, is_handed c ∙ ap (λ b. handed_in b c.args.worker c.args.number c.args.done) c.self.view_is)

pub returns-in-Err-clause-is : goal.returns-in-Err-clause-is
returns-in-Err-clause-is c = (c.in-Err.ensures.back, c.requires, c.make_hand_room.ensures.same c.self.inside.opening ∙ c.self.view_is)

-- what holds where a result is no error
on_ok : {V E P : Type 0} (result : Result V E) → false ≡ is_err result → OnOk result P → P
on_ok (Ok value) is holds = holds
on_ok (Err error) is holds = absurd (cc)

pub returns-in-Ok-clause-numbers : goal.returns-in-Ok-clause-numbers
returns-in-Ok-clause-numbers c = λ taken.
    let same : c.make_hand_room.new.state.next ≡ c.args.self.now.next =
    ap (λ (b : BoardParts). b.next) (c.make_hand_room.ensures.same c.self.inside.opening ∙ c.self.view_is) in
    let room : c.make_hand_room.new.state.next + 2 < 2 ^ 64 = (on_ok c.make_hand_room.result c.if-is_err.ensures.value c.make_hand_room.ensures.room).next in
    omega (arith, same, room)

pub returns-in-Ok-clause-turns : goal.returns-in-Ok-clause-turns
returns-in-Ok-clause-turns c = λ taken.
    let same : c.make_hand_room.new.state.spent ≡ c.args.self.now.spent =
    ap (λ (b : BoardParts). b.spent) (c.make_hand_room.ensures.same c.self.inside.opening ∙ c.self.view_is) in
    let room : c.make_hand_room.new.state.spent + 2 ^ 64 ≤ 2 ^ 128 = (on_ok c.make_hand_room.result c.if-is_err.ensures.value c.make_hand_room.ensures.room).spent in
    omega (arith, same, room)
