use Rattle.std.proofs.Common.{◌≡◌, ◌<◌, ◌∙◌, [], length, get_or, sym, ap, subst}
use Rattle.std.proofs.lemmas.Bool.{false≢true}
use Rattle.cr_model.specs.Callings.{head_of}
use Rattle.cr_path.specs.Numbers.{NumberParts}
use Rattle.cr_path.specs.Walks.{PathParts}
use Rattle.cr_path.proofs.walks.path.Path.head_number.Goals as goal

pub returns-else-has_head-clause-own : goal.returns-else-has_head-clause-own
returns-else-has_head-clause-own g c = λ own.
    let w = c.self.inside in
    let at_end = c.last.ensures.is w.problem.now w.numbers w.steps w.next c.self.invariant.0.ends in
    let number = c.number_of-number.ensures (head_of w.problem.now w.steps) at_end.from in
    let same : c.args.numbers.now ≡ w.numbers = own ∙ ap (λ (v : PathParts). v.numbers) (sym c.self.view_is) in
    let row : head_of w.problem.now w.steps ≡ c.head.result = ap (λ (v : PathParts). head_of v.problem v.node) c.self.view_is ∙ sym c.head.ensures.is in
    let found = c.has_head.ensures.1 (
      subst (λ (t : NumberParts). c.number_of-number.result < length t.heads) (sym same) number.0,
      ap (λ (t : NumberParts). get_or t.heads c.number_of-number.result []) same ∙ number.1 ∙ row,
    ) in
    absurd (false≢true (sym c.if-has_head.false ∙ found))
