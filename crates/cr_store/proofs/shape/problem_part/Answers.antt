-- The line `problem` is wrong, or what comes after the problem's bytes.
use Rattle.std.proofs.Common.{sym, ap₂, ◌++◌, ◌∙◌, take-append-drop}
use Rattle.cr_store.proofs.ShapeStops.{problem_size_wrong, problem_part_wrong}
use Rattle.cr_store.proofs.shape.problem_part.Goals as goal

pub returns-in_default-clause-stops : goal.returns-in_default-clause-stops
returns-in_default-clause-stops c = problem_size_wrong c.args.text.now c.in_default.ensures.none

pub returns-in-None-clause-stops : goal.returns-in-None-clause-stops
returns-in-None-clause-stops c =
    problem_part_wrong c.in-Some.size c.args.text.now c.in-Some.rest.now c.split_at.result.0.now c.split_at.result.1.now c.in-Some.ensures.some.0 c.in-Some.ensures.some.1
    c.split_at.ensures.front_len
    (sym (ap₂ ◌++◌ c.split_at.ensures.front c.split_at.ensures.back ∙ take-append-drop c.in-Some.size c.in-Some.rest.now))
    c.in-None.ensures.none
