use Rattle.std.proofs.Common.{◌∙◌, not, ap}
use Rattle.cr_model.specs.Callings.{rows_of}
use Rattle.cr_model.specs.Decided.{rows_differ}
use Rattle.cr_path.specs.Walks.{PathParts}
use Rattle.cr_path.proofs.Marking.{repeat_told}
use Rattle.cr_path.proofs.walks.path.Path.has_repeat.Goals as goal

pub returns : goal.returns
returns g c =
    ap not c.are_all.ensures
    ∙ repeat_told c.self.inside.problem.now c.self.inside.numbers c.self.inside.steps c.self.inside.marks.marks c.self.inside.marks.unmarked c.self.invariant.0.marked
    ∙ ap (λ (w : PathParts). not (rows_differ (rows_of w.problem w.node))) c.self.view_is
