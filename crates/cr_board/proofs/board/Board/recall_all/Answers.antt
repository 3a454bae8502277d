use Rattle.std.proofs.Common.{◌≡◌, false, replicate, vec_len, sym, ap, ap₂, ◌∙◌, subst}
use Rattle.cr_board.specs.Boards.{BoardParts}
use Rattle.cr_board.specs.Moves.{back_below, after_recall}
use Rattle.cr_board.specs.Partitions.{IsKept}
use Rattle.cr_board.specs.Rooms.{parts_of}
use Rattle.cr_board.proofs.Keeping.{recall_keeps}
use Rattle.cr_board.proofs.board.Board.recall_all.Goals as goal

-- the board after all gave back and the flags were cleared
is_recalled : (c : goal.After-clear) → parts_of c.self.inside.opening (record c.give_all_back.new.state { resigned = c.clear.new.flags }) ≡ after_recall (parts_of c.self.inside.opening c.self.inside.state)
is_recalled c =
    let old : BoardParts = parts_of c.self.inside.opening c.self.inside.state in
    let workers : c.workers-workers.result ≡ old.opening.workers = c.workers-workers.ensures.is in
    let flags : vec_len c.give_all_back.new.state.resigned ≡ old.opening.workers =
    ap vec_len c.give_all_back.ensures.resigned ∙ c.self.inside.state.resigned.ok.0 ∙ c.self.invariant.facts.partition.shape.resigned in
    ap₂ {C = BoardParts} (λ b r. record b { resigned = r })
    (c.give_all_back.ensures.is c.self.inside.opening ∙ ap (back_below old) workers)
    (c.clear.ensures ∙ ap (λ n. replicate n false) flags)

pub invariant_of-self : goal.invariant_of-self
invariant_of-self c = record {
  facts = subst IsKept (sym (is_recalled c)) (recall_keeps (parts_of c.self.inside.opening c.self.inside.state) c.self.invariant.facts);
  rooms = record { lanes = c.give_all_back.ensures.rooms.lanes; journal = c.give_all_back.ensures.rooms.journal };
}

pub returns : goal.returns
returns c = is_recalled c ∙ ap after_recall c.self.view_is
