use Rattle.cr_board.proofs.Recalled.{recalled_journal, recalled_held, recalled_lanes}
use Rattle.cr_board.proofs.laws.a_recall_gives_all_back.Goals as goal

pub returns : goal.returns
returns c = record {
  held = λ b shape. recalled_held b shape.lanes shape.held;
  lanes = λ b shape. recalled_lanes b shape.lanes shape.held;
  journal = λ b shape. recalled_journal b shape.lanes shape.held;
}
