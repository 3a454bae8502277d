use Rattle.std.proofs.Common.{rules}
use Rattle.cr_top.proofs.Steps.{steps_of_kept}
use Rattle.cr_top.proofs.searching.pieces_after.Goals as goal

pub book_pieces-requires : goal.book_pieces-requires
book_pieces-requires g c = (search rules, steps_of_kept _ _ c.requires.came.way.nodes.kept)
