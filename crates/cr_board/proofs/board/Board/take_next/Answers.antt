use Rattle.std.proofs.Common.{sym, ◌∙◌}
use Rattle.cr_board.proofs.Asking.{free_from, next_stands}
use Rattle.cr_board.proofs.board.Board.take_next.Goals as goal

pub take-requires-clause-stands : goal.take-requires-clause-stands
take-requires-clause-stands c = next_stands c.args.self.now c.next_place.ensures.kept.partition.shape.lanes c.args.worker c.in-Some.place
    (free_from c.args.self.now c.args.worker c.requires).worker (sym c.next_place.ensures.is ∙ c.in-Some.is)
