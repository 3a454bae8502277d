-- What is told of the slice is counted on.
use Rattle.std.proofs.Common.{[], length, get_or, subst}
use Rattle.std.specs.List.{slice_range}
use Rattle.cr_model.specs.Checks.{TellsFirst}
use Rattle.cr_model.specs.Touches.{Kept}
use Rattle.cr_explore.proofs.InSlices.{right_in, wrong_in}
use Rattle.cr_explore.proofs.in_threads.first_in_slice.Goals as goal

pub returns-in-Some : goal.returns-in-Some
returns-in-Some c =
    let slice = slice_range c.args.touches.now c.args.slice.start c.args.slice.end in
    wrong_in (Kept c.args.tables.now) c.args.touches.now c.args.slice.start c.args.slice.end c.requires.slice.order c.requires.slice.inside c.in-Some.index
    (subst (TellsFirst (λ i. Kept c.args.tables.now (get_or slice i [])) (length slice)) c.in-Some.is c.in_ok-index.ensures)

pub returns-in-None : goal.returns-in-None
returns-in-None c =
    let slice = slice_range c.args.touches.now c.args.slice.start c.args.slice.end in
    right_in (Kept c.args.tables.now) c.args.touches.now c.args.slice.start c.args.slice.end c.requires.slice.order c.requires.slice.inside
    (subst (TellsFirst (λ i. Kept c.args.tables.now (get_or slice i [])) (length slice)) c.in-None.is c.in_ok-index.ensures)
