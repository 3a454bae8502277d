use Rattle.std.proofs.Common.{◌≡◌, ◌<◌, take, Some, refl, subst, arith}
use Rattle.std.proofs.lemmas.Bool.{false≢true}
use Rattle.cr_model.specs.Callings.{changes_of_all, rows_of, rows_from}
use Rattle.cr_model.specs.Queries.{repeated}
use Rattle.cr_prune.specs.Parts.{AreNew}
use Rattle.cr_prune.proofs.Past.{part_past, part_old}
use Rattle.cr_prune.proofs.further_parts.bring_new_rows.Goals as goal

pub returns-in-None : goal.returns-in-None
returns-in-None c =
    let more : c.loop-part._part < c.args.parts = omega (arith, c.loop-part-test.true) in (
      λ h. absurd (false≢true h),
      λ new. absurd (part_old (rows_of c.args.problem.now (take c.args.first.now.fresh c.args.node.now)) c.args.problem.now c.args.head c.loop-part.row c.args.node.now c.loop-part._part c.loop-part.invariant.past
          c.args.parts more c.in-None.ensures.past new),
    )

pub loop-part-preserved : goal.loop-part-preserved
loop-part-preserved c = record {
  stage = c.in-Some.ensures.same_stage;
  past = part_past (rows_of c.args.problem.now (take c.args.first.now.fresh c.args.node.now)) c.args.problem.now c.args.head c.loop-part.row c.args.node.now c.loop-part._part c.loop-part.invariant.past
      (Some c.in-Some.last) c.in-Some.ensures.past;
}

pub returns : goal.returns
returns c =
    let all : c.loop-part._part ≡ c.args.parts = omega (arith, c.loop-part-test.false) in (
      λ _. subst (λ n. AreNew (rows_of c.args.problem.now (take c.args.first.now.fresh c.args.node.now)) (rows_from c.args.head (changes_of_all c.args.problem.now (repeated n c.args.node.now)))) all c.loop-part.invariant.past.1,
      λ _. refl,
    )
