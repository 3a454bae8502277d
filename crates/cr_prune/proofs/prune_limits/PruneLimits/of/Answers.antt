use Rattle.std.proofs.Common.{◌∙◌, nat_abs, nat_lt, ap, arith}
use Rattle.cr_model.specs.Problems.{QueryParts}
use Rattle.cr_model.specs.Dead.{turn_free}
use Rattle.cr_prune.proofs.Limits.{shortest_few}
use Rattle.cr_prune.proofs.prune_limits.PruneLimits.of.Goals as goal

pub returns : goal.returns
returns c =
    let p = c.args.problem.now in
    let query = c.query-query.ensures.is in
    record {
      cap = c.cap.ensures;
      part_cap = c.part_cap.ensures;
      shortest = c.shortest.ensures.is;
      short = omega (arith, c.shortest.ensures.is, shortest_few p c.query-query.ensures.sound);
      several = c.has_several_parts.ensures ∙ ap (λ (q : QueryParts). nat_lt 1 (nat_abs q.parts)) query;
      turn_free = c.turn_free.ensures ∙ ap turn_free query;
      steps = c.false_leads.ensures.steps;
      leads = c.false_leads.ensures.leads p c.requires;
    }
