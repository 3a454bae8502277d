use Rattle.std.proofs.Common.{◌↔◌, List, All, IsTrue, ap, ◌∙◌, subst}
use Rattle.cr_model.specs.declared.query.MethodCount.{MethodCount}
use Rattle.cr_model.specs.OneTurn.{touch_of}
use Rattle.cr_model.specs.Problems.{QueryParts}
use Rattle.cr_model.specs.Queries.{IsWithin, leads_lettered}
use Rattle.cr_audit.proofs.keeping.are_lettered_as_asked.Goals as goal

pub returns : goal.returns
returns c =
    let touch = touch_of c.args.problem.now c.args.path.now.node.items in
    subst (λ (counts : List MethodCount). IsTrue c.all_lettered.result ↔ All (λ count. IsWithin count.min count.max (leads_lettered c.args.problem.now count.letter touch)) counts)
    (c.method_counts_of.ensures ∙ ap (λ (q : QueryParts). q.method_counts) c.query.ensures.is) c.all_lettered.ensures
