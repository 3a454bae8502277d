use Rattle.std.proofs.Common.{length, All, sym, ap, subst, arith}
use Rattle.cr_model.specs.Callings.{HasSteps}
use Rattle.cr_model.specs.Checks.{TellsFirst}
use Rattle.cr_store.specs.Faults.{IsShortNode}
use Rattle.cr_store.proofs.items.check_lengths.Goals as goal

pub first_long-requires : goal.first_long-requires
first_long-requires c = subst (All (HasSteps c.args.problem.now)) (sym c.deref.ensures.value) c.requires.nodes_known

pub line_of-line-requires-clause-inside : goal.line_of-line-requires-clause-inside
line_of-line-requires-clause-inside c =
    let first = subst (TellsFirst (IsShortNode c.args.problem.now c.deref.result.now) (length c.deref.result.now)) c.in-Some.is c.in_ok-node.ensures in
    omega (arith, first.within, ap length c.deref.ensures.value, c.len.ensures, c.args.items.now.found.ok.0, c.requires.as_many_touches, c.requires.as_many_nodes)
