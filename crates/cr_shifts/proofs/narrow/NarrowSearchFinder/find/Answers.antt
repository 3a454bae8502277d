use Rattle.std.proofs.Common.{◌≡◌, inl, inr, ap, ◌∙◌, subst, arith}
use Rattle.cr_model.specs.Sizes.{most_rows, size_of_all}
use Rattle.cr_model.specs.Sound.{IsSound}
use Rattle.cr_trail.proofs.Going.{some_nodes}
use Rattle.cr_shifts.proofs.narrow.NarrowSearchFinder.find.Goals as goal

pub returns-clause-smaller : goal.returns-clause-smaller
returns-clause-smaller c =
    let p = c.args.self.now in
    let sound : IsSound p = subst IsSound c.problem.ensures c.stage.ensures.sound in
    let some = some_nodes p sound c.sizes_are_sums.ensures.node c.sizes_are_sums.ensures.first c.sizes_are_sums.ensures.none c.args.job.now c.requires.job.some in
    elim c.in_ok-explored.ensures.ends [
      | inl none ↦
          let nothing : size_of_all p most_rows c.in_ok-explored.explored.rest.items ≡ 0 = ap (size_of_all p most_rows) none ∙ c.sizes_are_sums.ensures.none p most_rows in
          omega (arith, nothing, some)
      | inr is ↦ omega (arith, is, c.in_ok-explored.ensures.smaller, c.requires.some)
    ]
