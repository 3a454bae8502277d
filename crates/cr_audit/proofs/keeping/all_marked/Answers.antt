use Rattle.std.proofs.Common.{All, refl, sym, ◌∙◌, subst, pos, arith}
use Rattle.std.proofs.lemmas.Bool.{false≢true}
use Rattle.std.proofs.lemmas.List.{take_all}
use Rattle.std.proofs.lemmas.List.Elements.{All-more, All-get_or}
use Rattle.cr_model.specs.declared.query.Count.{Count}
use Rattle.cr_model.specs.OneTurn.{touch_of}
use Rattle.cr_model.specs.Queries.{IsWithin, leads_marked}
use Rattle.cr_audit.proofs.keeping.all_marked.Goals as goal

pub loop-index-preserved : goal.loop-index-preserved
loop-index-preserved c =
    let touch = touch_of c.args.problem.now c.args.path.now.node.items in
    All-more (λ (count : Count). IsWithin count.min count.max (leads_marked c.args.problem.now count.mark touch)) c.args.counts.now c.loop-index.index (record { mark = 0; min = pos 0; max = pos 0 })
    (omega arith) c.loop-index.invariant (c.is_marked.ensures.0 c.if-not-is_marked.false)

pub returns-then-not-is_marked : goal.returns-then-not-is_marked
returns-then-not-is_marked c =
    let touch = touch_of c.args.problem.now c.args.path.now.node.items in (
      λ h. absurd (false≢true h),
      λ all. absurd (false≢true (sym c.if-not-is_marked.true ∙ c.is_marked.ensures.1
          (All-get_or (λ (count : Count). IsWithin count.min count.max (leads_marked c.args.problem.now count.mark touch)) c.args.counts.now c.loop-index.index (record { mark = 0; min = pos 0; max = pos 0 }) (omega arith) all))),
    )

pub returns : goal.returns
returns c =
    let touch = touch_of c.args.problem.now c.args.path.now.node.items in (
      λ _. subst (All (λ (count : Count). IsWithin count.min count.max (leads_marked c.args.problem.now count.mark touch))) (take_all c.loop-index.index c.args.counts.now (omega arith)) c.loop-index.invariant,
      λ _. refl,
    )
