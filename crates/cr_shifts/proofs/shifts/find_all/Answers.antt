use Rattle.std.proofs.Common.{arith}
use Rattle.cr_model.specs.Checkpoints.{nodes_of_jobs}
use Rattle.cr_store.specs.Written.{lists}
use Rattle.cr_shifts.proofs.Together.{not_begun, one_more}
use Rattle.cr_shifts.proofs.shifts.find_all.Goals as goal

pub loop-alloc-init : goal.loop-alloc-init
loop-alloc-init g c =
    let nodes = nodes_of_jobs (lists c.args.jobs.items) in
    record {
      turns = omega arith;
      few = omega arith;
      filled = c.requires.filled;
      on = not_begun (g.F.Finder.finds c.args.finder.now) nodes c.args.found.now.items
          (c.splits_follow_one_another.ensures.not_begun (g.F.Finder.finds c.args.finder.now) nodes c.requires.valid c.requires.independent);
    }

pub loop-alloc-preserved : goal.loop-alloc-preserved
loop-alloc-preserved g c = record {
  turns = omega (arith, c.min-turns.ensures, c.loop-alloc.invariant.turns);
  few = omega (arith, c.min-turns.ensures);
  filled = c.in_ok-left.ensures.filled;
  on = one_more c.splits_follow_one_another.ensures.onward (g.F.Finder.finds c.args.finder.now) (nodes_of_jobs (lists c.args.jobs.items)) _ c.loop-alloc.found.items
      (nodes_of_jobs (lists c.loop-alloc.left.items)) c.in_ok-done.done.items c.put_together.new.found.items (nodes_of_jobs (lists c.in_ok-left.left.items)) c.loop-alloc.invariant.on
      c.in_ok-done.ensures.splits c.in_ok-left.ensures.found c.in_ok-left.ensures.left;
}
