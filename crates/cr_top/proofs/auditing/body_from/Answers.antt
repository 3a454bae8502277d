use Rattle.std.proofs.Common.{◌<◌, ◌^◌, length, inl, inr, subst, arith, rules}
use Rattle.cr_store.specs.Blocks.{IsNext}
use Rattle.cr_shard.proofs.BodyReads.{read_on}
use Rattle.cr_top.proofs.AuditReads.{block_fits, over_early, wrong_behind}
use Rattle.cr_top.proofs.auditing.body_from.Goals as goal

pub body_at-requires : goal.body_at-requires
body_at-requires c = block_fits c.args.text.now c.args.at c.in-Block.place c.in-Block.size c.requires c.in-Block.ensures

pub overflow_add-result : goal.overflow_add-result
overflow_add-result c =
    let few : length c.args.text.now < 2 ^ 64 = search rules in
    omega (arith, few, block_fits c.args.text.now c.args.at c.in-Block.place c.in-Block.size c.requires c.in-Block.ensures)

pub returns-in-Block-clause-inside : goal.returns-in-Block-clause-inside
returns-in-Block-clause-inside c = block_fits c.args.text.now c.args.at c.in-Block.place c.in-Block.size c.requires c.in-Block.ensures

pub returns-in-Block-clause-read : goal.returns-in-Block-clause-read
returns-in-Block-clause-read c = λ bodies read.
    read_on c.args.text.now c.args.at bodies read c.in-Block.place c.in-Block.size c.in-Block.ensures c.body_at.result.now c.body_at.ensures

pub returns-in-End-clause-wrong : goal.returns-in-End-clause-wrong
returns-in-End-clause-wrong c = λ bodies read few. over_early c.args.text.now c.args.at bodies read few (elim c.in-End.is [
  | inl ended ↦ inl (subst (IsNext c.args.text.now c.args.at) ended c.next_block.ensures)
  | inr torn ↦ inr (subst (IsNext c.args.text.now c.args.at) torn c.next_block.ensures)
])

pub returns-in-Form-clause-wrong : goal.returns-in-Form-clause-wrong
returns-in-Form-clause-wrong c = λ bodies read few.
    wrong_behind c.args.text.now c.args.at bodies read (omega (arith, few)) c.in-Form.place c.in-Form.ensures
