use Rattle.std.proofs.Common.{◌≡◌, ◌+◌, rules, arith}
use Rattle.std.proofs.lemmas.List.FromFn.{map-range_with_len_more}
use Rattle.cr_query.specs.Kinds.{kind_of}
use Rattle.cr_query.proofs.compiling.kinds_of.Goals as goal

pub loop-step-preserved : goal.loop-step-preserved
loop-step-preserved c =
    let at : 0 + c.loop-step.step ≡ c.loop-step.step = omega arith in
    search (rules, map-range_with_len_more (kind_of c.args.problem.now) 0 c.loop-step.step c.loop-step.step at)
