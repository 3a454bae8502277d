use Rattle.std.proofs.Common.{ap₂, ◌++◌, ◌∙◌}
use Rattle.cr_model.specs.Checkpoints.{node_line}
use Rattle.cr_shard.proofs.DealtLines.{line_more}
use Rattle.cr_shard.proofs.dealer.NodeLines.add.Goals as goal

pub returns : goal.returns
returns c = λ _ nodes are.
    line_more c.args.problem.now nodes c.args.node.now c.args.self.now _ are
    (c.in_ok-write_node.ensures ∙ ap₂ (λ before node. c.args.self.now.text.items ++ node_line c.args.problem.now 2 before node) c.steps.ensures.is c.steps-2.ensures.is)
    c.in-Some.ensures.1
    c.in_ok-self.ensures
