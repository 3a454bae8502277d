use Rattle.std.proofs.Common.{ℕ, List, [], drop, subst}
use Rattle.std.proofs.lemmas.List.{take_rest}
use Rattle.cr_path.specs.Best.{IsWay}
use Rattle.cr_path.proofs.Turned.{no_way}
use Rattle.cr_path.proofs.numbers.rotated_patterns.count_turned.Goals as goal

pub returns-clause-is : goal.returns-clause-is
returns-clause-is c =
    let p = c.args.problem.now in
    let t = c.args.numbers.now in
    let cells = c.args.pattern.now.cells in
    let half : IsWay p t cells (drop c.args.by c.args.calling.now) c.ring_on-half.result =
    subst (λ (steps : List ℕ). IsWay p t cells steps c.ring_on-half.result) (take_rest c.args.calling.now c.args.by)
    (c.ring_on-half.ensures.way [] (no_way p t cells c.requires.numbered)) in
    (c.ring_on-whole.ensures.way (drop c.args.by c.args.calling.now) half).number
