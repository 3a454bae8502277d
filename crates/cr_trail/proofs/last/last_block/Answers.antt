use Rattle.std.proofs.Common.{inl, inr, sym, subst}
use Rattle.cr_store.specs.Blocks.{IsNext}
use Rattle.cr_trail.specs.Lasts.{IsLast}
use Rattle.cr_trail.proofs.Reading.{read_on, read_over, last_of}
use Rattle.cr_trail.proofs.last.last_block.Goals as goal

pub loop-place-preserved : goal.loop-place-preserved
loop-place-preserved c = read_on c.args.text.now c.loop-place.at c.loop-place.last c.loop-place.invariant c.in-Block.place c.in-Block.size c.in-Block.ensures

pub returns-in-End : goal.returns-in-End
returns-in-End c = subst (IsLast c.args.text.now) (sym c.ok_or.ensures.value) (last_of c.args.text.now c.loop-place.at c.loop-place.last c.loop-place.invariant
    (read_over c.args.text.now c.loop-place.at c.loop-place.last c.loop-place.invariant (elim c.in-End.is [
      | inl ended ↦ inl (subst (IsNext c.args.text.now c.loop-place.at) ended c.next_block.ensures)
      | inr torn ↦ inr (subst (IsNext c.args.text.now c.loop-place.at) torn c.next_block.ensures)
    ])))
