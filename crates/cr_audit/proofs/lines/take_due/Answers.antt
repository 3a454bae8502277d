use Rattle.std.proofs.Common.{refl, sym, ◌∙◌, rules}
use Rattle.std.proofs.lemmas.Bool.{iff_false, false≢true}
use Rattle.cr_audit.proofs.Stopping.{no_line, line_here, line_due, no_node, other_node}
use Rattle.cr_audit.proofs.lines.take_due.Goals as goal

pub returns-in_default-take_line-clause-stop : goal.returns-in_default-take_line-clause-stop
returns-in_default-take_line-clause-stop c = (refl, no_line c.args.problem.now c.stage.ensures.sound c.args.text.now (search rules))

pub returns-in-Some-clause-begins : goal.returns-in-Some-clause-begins
returns-in-Some-clause-begins c =
    line_due c.args.problem.now c.stage.ensures.sound c.args.text.now c.args.path.now.node.items c.node_text.result.now c.in-Some.why c.in-Some.rest.now c.requires.known
    (c.node_text.ensures c.args.problem.now c.requires) c.in-Some.ensures.0 c.in-Some.ensures.1

pub returns-then-is_due-clause-begins : goal.returns-then-is_due-clause-begins
returns-then-is_due-clause-begins c =
    let due = (c.is_due.ensures c.args.problem.now c.requires).0 c.if-is_due.true in
    line_here c.args.problem.now c.stage.ensures.sound c.args.text.now c.in-Some-take_line.node.now c.in-Some-take_line.why c.in-Some-take_line.rest.now c.in-Some-take_line.ensures.some.0 c.in-Some-take_line.ensures.some.1
    c.args.path.now.node.items c.requires.known due.1

pub returns-then-is_node_text-clause-stop : goal.returns-then-is_node_text-clause-stop
returns-then-is_node_text-clause-stop c = (
  refl,
  other_node c.args.problem.now c.stage.ensures.sound c.args.text.now c.in-Some-take_line.node.now c.in-Some-take_line.why c.in-Some-take_line.rest.now c.in-Some-take_line.ensures.some.0 c.in-Some-take_line.ensures.some.1
      c.args.due c.args.path.now.node.items
      (λ yes' same. false≢true (sym c.if-is_due.false ∙ (c.is_due.ensures c.args.problem.now c.requires).1 (yes', same)))
      (c.is_node_text.ensures.0 c.if-is_node_text.true),
)

pub returns-else-is_node_text-clause-stop : goal.returns-else-is_node_text-clause-stop
returns-else-is_node_text-clause-stop c = (
  refl,
  no_node c.args.problem.now c.stage.ensures.sound c.args.text.now c.in-Some-take_line.node.now c.in-Some-take_line.why c.in-Some-take_line.rest.now c.in-Some-take_line.ensures.some.0 c.in-Some-take_line.ensures.some.1
      (iff_false c.is_node_text.ensures c.if-is_node_text.false),
)
