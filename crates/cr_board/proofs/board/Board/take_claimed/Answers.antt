use Rattle.std.proofs.Common.{sym, ◌∙◌}
use Rattle.cr_board.proofs.Asking.{claim_stands}
use Rattle.cr_board.proofs.board.Board.take_claimed.Goals as goal

pub take-requires-clause-stands : goal.take-requires-clause-stands
take-requires-clause-stands c = (claim_stands c.args.self.now c.claim_place.ensures.kept.partition.shape.lanes c.args.number c.in-Some.place (sym c.claim_place.ensures.is ∙ c.in-Some.is)).0
