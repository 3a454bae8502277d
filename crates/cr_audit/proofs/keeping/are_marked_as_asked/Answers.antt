use Rattle.std.proofs.Common.{◌↔◌, List, All, IsTrue, ap, ◌∙◌, subst}
use Rattle.cr_model.specs.declared.query.Count.{Count}
use Rattle.cr_model.specs.OneTurn.{touch_of}
use Rattle.cr_model.specs.Problems.{QueryParts}
use Rattle.cr_model.specs.Queries.{IsWithin, leads_marked}
use Rattle.cr_audit.proofs.keeping.are_marked_as_asked.Goals as goal

pub returns : goal.returns
returns c =
    let touch = touch_of c.args.problem.now c.args.path.now.node.items in
    subst (λ (counts : List Count). IsTrue c.all_marked.result ↔ All (λ count. IsWithin count.min count.max (leads_marked c.args.problem.now count.mark touch)) counts)
    (c.counts_of.ensures ∙ ap (λ (q : QueryParts). q.counts) c.query.ensures.is) c.all_marked.ensures
