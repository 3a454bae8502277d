use Rattle.std.proofs.Common.{◌≡◌, ◌∙◌, ℕ, List, [], false, sym, ap, subst}
use Rattle.std.specs.Prelude.{replicate}
use Rattle.cr_model.specs.Dead.{turn_free}
use Rattle.cr_model.specs.Problems.{QueryParts}
use Rattle.cr_path.specs.Marks.{MarksParts}
use Rattle.cr_path.specs.Counted.{IsIdle, IsCounted}
use Rattle.cr_path.specs.Walks.{IsWalk}
use Rattle.cr_path.specs.Numbers.{NumberParts}
use Rattle.cr_path.proofs.Walking.{root_walk}
use Rattle.cr_path.proofs.walks.path.Path.new.Goals as goal

pub invariant_of-result : goal.invariant_of-result
invariant_of-result g c =
    let p = c.args.problem.now in
    let leads = c.args.leads.now in
    let t = c.args.numbers.now in
    let counting = c.in_ok-counting.counting.value in
    let free = c.turn_free.result in
    let none : ℕ → MarksParts = (λ rows. record { marks = replicate rows false; unmarked = 0 }) in
    let marks_are : c.in_ok-marks.marks ≡ none t.rows = c.in_ok-marks.ensures ∙ ap none c.row_count.ensures in
    let numbers_are : c.of.result ≡ t = c.of.ensures in (
      subst (λ (numbers : NumberParts). IsWalk p leads numbers c.in_ok-steps.steps c.count.result c.in_ok-ends.ends c.in_ok-marks.marks.marks c.in_ok-marks.marks.unmarked counting free) (sym numbers_are)
          (subst (λ (node : List ℕ). IsWalk p leads t node c.count.result c.in_ok-ends.ends c.in_ok-marks.marks.marks c.in_ok-marks.marks.unmarked counting free) (sym c.in_ok-steps.ensures)
          (subst (λ (m : MarksParts). IsWalk p leads t [] c.count.result c.in_ok-ends.ends m.marks m.unmarked counting free) (sym marks_are)
          (root_walk p leads t counting free c.query.ensures.sound c.requires.leads c.requires.numbers (subst (IsCounted p []) (sym c.in_ok-counting.ensures.ok) c.in_ok-counts.ensures.counted)
          (c.turn_free.ensures ∙ ap (λ (q : QueryParts). turn_free q) c.query.ensures.is) c.count.result (c.count.ensures.of_problem p c.requires.leads) c.in_ok-ends.ends c.in_ok-ends.ensures))),
      ap (λ (numbers : NumberParts). numbers.width) numbers_are ∙ c.requires.width,
      λ none. subst IsIdle (sym c.in_ok-counting.ensures.ok) (c.in_ok-counts.ensures.idle (c.requires.counted none)),
      c.requires.steps,
    )
