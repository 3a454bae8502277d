use Rattle.cr_top.proofs.TrailParts.{cut_off_last}
use Rattle.cr_top.proofs.last.last_written.Goals as goal

pub returns-in_err-write_whole-clause-ends : goal.returns-in_err-write_whole-clause-ends
returns-in_err-write_whole-clause-ends g c =
    cut_off_last _ _ c.in_ok-text.text.items c.in_ok-text.ensures.reads (c.in_ok-place.place, c.in_ok-place.size)
    (rw c.deref.ensures.value at c.in_ok-place.ensures)
    (record {
      front = rw (c.body_at.ensures, c.deref-2.ensures.value) at c.in_err-write_whole.ensures.front;
      rose = c.in_err-write_whole.ensures.fault;
    })
    c.from_residual-in_err-write_whole.result c.from_residual-in_err-write_whole.ensures.1

pub returns-clause-ends : goal.returns-clause-ends
returns-clause-ends g c = (
  c.in_ok-text.text.items,
  (c.in_ok-place.place, c.in_ok-place.size),
  c.in_ok-text.ensures.reads,
  rw c.deref.ensures.value at c.in_ok-place.ensures,
  record { grew = rw (c.body_at.ensures, c.deref-2.ensures.value) at c.in_ok-write_whole.ensures.whole; calm = c.in_ok-write_whole.ensures.same },
)
