-- Each line is read after the last node so far.
use Rattle.std.proofs.Common.{[], get_or, sym, ap, ◌∙◌, subst}
use Rattle.cr_model.specs.Callings.{HasSteps}
use Rattle.cr_model.specs.Checkpoints.{last_node}
use Rattle.cr_store.specs.ShapeReads.{node_parts}
use Rattle.cr_store.specs.Lines.{IsNodeOf}
use Rattle.cr_store.specs.Reading.{TellsNode}
use Rattle.cr_store.proofs.Adding.{last_is_known, one_added, stopped_there, all_added}
use Rattle.cr_store.proofs.reading.read_job.Goals as goal

pub read_node-requires : goal.read_node-requires
read_node-requires c =
    subst (HasSteps c.args.problem.now) (sym (c.last_of.ensures ∙ ap (last_node []) c.deref.ensures.value))
    (last_is_known c.args.problem.now c.args.version c.args.lines.now c.args.nodes.now.items c.loop-line.nodes.items c.loop-line.line-index c.loop-line.invariant c.requires)

pub returns-in-None : goal.returns-in-None
returns-in-None c =
    let p = c.args.problem.now in
    let line = node_parts (get_or c.args.lines.now c.loop-line.line-index (record { shared = 0; steps = record { ref_ptr = (0, 0); now = [] } })) in
    let told = subst (TellsNode p c.args.version c.last_of.result.now line) c.in-None.is c.in_ok-read.ensures in
    stopped_there p c.args.version c.args.lines.now c.args.nodes.now.items c.loop-line.nodes.items c.loop-line.line-index c.loop-line.invariant
    (record { shared = 0; steps = record { ref_ptr = (0, 0); now = [] } }) c.loop-line-test.true
    (λ node is. told node (subst (λ b. IsNodeOf p c.args.version b line node) (sym (c.last_of.ensures ∙ ap (last_node []) c.deref.ensures.value)) is))

pub loop-line-preserved : goal.loop-line-preserved
loop-line-preserved c =
    let p = c.args.problem.now in
    let line = node_parts (get_or c.args.lines.now c.loop-line.line-index (record { shared = 0; steps = record { ref_ptr = (0, 0); now = [] } })) in
    let told = subst (TellsNode p c.args.version c.last_of.result.now line) c.in-Some.is c.in_ok-read.ensures in
    one_added p c.args.version c.args.lines.now c.args.nodes.now.items c.loop-line.nodes.items c.loop-line.line-index c.loop-line.invariant
    (record { shared = 0; steps = record { ref_ptr = (0, 0); now = [] } }) c.in-Some.node c.loop-line-test.true
    (subst (λ b. IsNodeOf p c.args.version b line c.in-Some.node) (c.last_of.ensures ∙ ap (last_node []) c.deref.ensures.value) told)
    c.push.new.self.items c.in_ok-push-in-Some.ensures.items

pub returns : goal.returns
returns c = all_added c.args.problem.now c.args.version c.args.lines.now c.args.nodes.now.items c.loop-line.nodes.items c.loop-line.line-index c.loop-line-test.false c.loop-line.invariant
