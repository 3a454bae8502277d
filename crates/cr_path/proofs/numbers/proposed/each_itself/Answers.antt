use Rattle.std.proofs.Common.{◌++◌, ◌∷◌, [], ◌∙◌, List, ℕ, sym, ap}
use Rattle.cr_path.proofs.Covering.{numbers_more}
use Rattle.cr_path.proofs.numbers.proposed.each_itself.Goals as goal

pub loop-row-preserved : goal.loop-row-preserved
loop-row-preserved c =
    c.in_ok-push.ensures.items
    ∙ ap (λ (ns : List ℕ). ns ++ c.loop-row.row ∷ []) c.loop-row.invariant
    ∙ sym (numbers_more c.loop-row.row)
