use Rattle.std.proofs.Common.{◌∙◌, nat_abs, nat_lt, ap, arith}
use Rattle.cr_model.specs.Problems.{QueryParts}
use Rattle.cr_path.proofs.Bounds.{cap_few, part_few, shortest_few}
use Rattle.cr_path.proofs.numbers.path_limits.PathLimits.of.Goals as goal

pub returns : goal.returns
returns c =
    let p = c.args.problem.now in
    let sound = c.query.ensures.sound in
    record {
      cap = c.cap.ensures;
      part_cap = c.part_cap.ensures;
      shortest = c.shortest.ensures.is;
      few = omega (arith, c.cap.ensures, cap_few p sound);
      few_in_a_part = omega (arith, c.part_cap.ensures, part_few p sound);
      some = c.shortest.ensures.some;
      short = omega (arith, c.shortest.ensures.is, shortest_few p sound);
      several = c.has_several_parts.ensures ∙ ap (λ (q : QueryParts). nat_lt 1 (nat_abs q.parts)) c.query.ensures.is;
      twice = c.in_ok-twice.ensures p c.requires;
    }
