use Rattle.std.proofs.Common.{sym, ◌∙◌, arith}
use Rattle.std.proofs.lemmas.Bool.{false≢true}
use Rattle.cr_board.proofs.Reading.{same_at}
use Rattle.cr_board.proofs.same.same_jobs.Goals as goal

pub returns-then-not-same_nodes : goal.returns-then-not-same_nodes
returns-then-not-same_nodes c = (
  λ h. absurd (false≢true h),
  λ same. sym c.if-not-same_nodes.true ∙ c.same_nodes.ensures.1 (c.deref.ensures.value
      ∙ same_at c.args.a.now c.args.b.now c.loop-index.index c.index-a-index.result c.index-b-index.result c.loop-index-test.true (omega arith) c.index-a-index.is c.index-b-index.is same
      ∙ sym c.deref-in-loop-index.ensures.value),
)
