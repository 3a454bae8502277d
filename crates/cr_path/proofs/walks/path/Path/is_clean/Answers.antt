use Rattle.std.proofs.Common.{◌≡◌, ◌-◌, ◌∙◌, length, true, sym, ap}
use Rattle.std.proofs.lemmas.Bool.{not-false}
use Rattle.cr_model.specs.Callings.{rows_of}
use Rattle.cr_model.specs.Decided.{rows_differ}
use Rattle.cr_path.specs.Ends.{ends_of}
use Rattle.cr_path.specs.Living.{is_clean}
use Rattle.cr_path.specs.Walks.{PathParts}
use Rattle.cr_path.proofs.Enough.{told_all}
use Rattle.cr_path.proofs.Living.{clean_told}
use Rattle.cr_path.proofs.walks.path.Path.is_clean.Goals as goal

pub returns-then-not-has_repeat : goal.returns-then-not-has_repeat
returns-then-not-has_repeat g c =
    let w = c.self.inside in
    let differ : rows_differ (rows_of w.problem.now w.steps) ≡ true =
    ap (λ (v : PathParts). rows_differ (rows_of v.problem v.node)) c.self.view_is ∙ not-false (rows_differ (rows_of c.args.self.now.problem c.args.self.now.node)) (sym c.has_repeat.ensures ∙ c.if-not-has_repeat.true) in
    let told = (told_all w.problem.now w.numbers c.self.invariant.0.numbered w.steps w.next (ends_of w.steps w.ends) c.self.invariant.0.ends c.self.invariant.0.valid).first in
    clean_told w.problem.now w.numbers w.steps w.marks.marks (length w.steps - w.marks.unmarked) c.self.invariant.0.numbered c.self.invariant.0.marked.are differ told c.has_first.result c.has_first.ensures
    ∙ ap (λ (v : PathParts). is_clean v.problem v.node) c.self.view_is
