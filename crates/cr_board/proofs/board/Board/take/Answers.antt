use Rattle.std.proofs.Common.{◌≡◌, length, None, sym, ap, ◌∙◌, subst, arith}
use Rattle.std.proofs.lemmas.List.{length-map}
use Rattle.cr_board.specs.Boards.{BoardParts, held_at}
use Rattle.cr_board.specs.Choices.{refusal_of, grant_now, Stands}
use Rattle.cr_board.specs.Partitions.{IsKept}
use Rattle.cr_board.specs.Moves.{taken_at}
use Rattle.cr_board.specs.Rooms.{parts_of}
use Rattle.cr_board.proofs.Asking.{IsFree, free_from}
use Rattle.cr_board.proofs.Keeping.{take_keeps, on_err}
use Rattle.cr_board.proofs.board.Board.take.Goals as goal

pub invariant_of-self : goal.invariant_of-self
invariant_of-self c = record {
  facts = subst IsKept (sym (c.make_room.ensures.same c.self.inside.opening)) c.self.invariant.facts;
  rooms = c.make_room.ensures.kept c.self.invariant.rooms;
}

pub returns-in_err-make_room-clause-err : goal.returns-in_err-make_room-clause-err
returns-in_err-make_room-clause-err c = on_err _ _ (c.make_room.ensures.same c.self.inside.opening ∙ c.self.view_is)

pub hold-requires-clause-worker : goal.hold-requires-clause-worker
hold-requires-clause-worker c =
    let same = c.make_room.ensures.same c.self.inside.opening in
    let free : IsFree c.args.self.now c.args.worker = free_from c.args.self.now c.args.worker c.requires.free in
    let held : length c.make_room.new.state.held.items ≡ length c.args.self.now.held = ap (λ (b : BoardParts). length b.held) (same ∙ c.self.view_is) in
    let shape : length c.args.self.now.held ≡ c.args.self.now.opening.workers = subst (λ (b : BoardParts). length b.held ≡ b.opening.workers) c.self.view_is c.self.invariant.facts.partition.shape.held in
    omega (arith, free.worker, held, shape, c.make_room.new.state.held.ok)

pub hold-requires-clause-idle : goal.hold-requires-clause-idle
hold-requires-clause-idle c =
    let free : IsFree c.args.self.now c.args.worker = free_from c.args.self.now c.args.worker c.requires.free in
    ap (λ (b : BoardParts). held_at b.held c.args.worker) (c.make_room.ensures.same c.self.inside.opening ∙ c.self.view_is) ∙ free.idle

pub hold-requires-clause-stands : goal.hold-requires-clause-stands
hold-requires-clause-stands c = subst (λ (b : BoardParts). Stands b.lanes c.args.place) (sym (c.make_room.ensures.same c.self.inside.opening ∙ c.self.view_is)) c.requires.stands

pub hold-requires-clause-few : goal.hold-requires-clause-few
hold-requires-clause-few c =
    let kept : IsKept (parts_of c.self.inside.opening c.make_room.new.state) = subst IsKept (sym (c.make_room.ensures.same c.self.inside.opening)) c.self.invariant.facts in
    omega (arith, kept.partition.shape.lanes, kept.opening.few, length-map c.make_room.new.state.lanes.items (λ lane. lane.items), c.make_room.new.state.lanes.ok)

-- the board after the take
is_taken : (c : goal.After-hold) → parts_of c.self.inside.opening c.hold.new.state ≡ taken_at (parts_of c.self.inside.opening c.self.inside.state) c.args.worker c.args.place
is_taken c =
    let same = c.make_room.ensures.same c.self.inside.opening in
    c.hold.ensures.is c.self.inside.opening (c.grant-grant.ensures ∙ ap grant_now (sym (same ∙ c.self.view_is)))
    ∙ ap (λ b. taken_at b c.args.worker c.args.place) same

pub invariant_of-self-2 : goal.invariant_of-self-2
invariant_of-self-2 c = record {
  facts = subst IsKept (sym (is_taken c))
      (take_keeps (parts_of c.self.inside.opening c.self.inside.state) c.args.worker c.args.place
      (subst (λ b. refusal_of b c.args.worker ≡ None) (sym c.self.view_is) c.requires.free)
      (subst (λ (b : BoardParts). Stands b.lanes c.args.place) (sym c.self.view_is) c.requires.stands)
      c.self.invariant.facts);
  rooms = c.hold.ensures.rooms;
}

pub returns-clause-board : goal.returns-clause-board
returns-clause-board c = is_taken c ∙ ap (λ b. taken_at b c.args.worker c.args.place) c.self.view_is
