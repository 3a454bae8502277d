use Rattle.std.proofs.Common.{Some, subst}
use Rattle.cr_model.specs.Sound.{IsSound}
use Rattle.cr_prune.specs.Pruners.{PrunerParts}
use Rattle.cr_prune.proofs.Reasons.{dead_by_rows, dead_by_query, none_below}
use Rattle.cr_prune.proofs.pruner.Pruner.dead.Goals as goal

pub returns-in-Some-clause-is : goal.returns-in-Some-clause-is
returns-in-Some-clause-is c most table = dead_by_rows c.args.self.now.problem most c.args.walk.now.node c.in-Some.reason (c.in-Some.ensures most)

pub returns-in-Some-clause-sound : goal.returns-in-Some-clause-sound
returns-in-Some-clause-sound c most table =
    let p = c.args.self.now.problem in
    let sound : IsSound p = subst (λ (s : PrunerParts). IsSound s.problem) c.self.view_is c.stage.ensures.sound in
    none_below p most c.args.walk.now.node c.nothing_is_kept_below_a_dead_node.ensures sound (Some c.in-Some.reason)
    (dead_by_rows p most c.args.walk.now.node c.in-Some.reason (c.in-Some.ensures most))

pub returns-in-None-clause-is : goal.returns-in-None-clause-is
returns-in-None-clause-is c most table =
    dead_by_query c.args.self.now.problem most c.args.walk.now.node c.dead_by_query.result (c.in-None.ensures most) (c.dead_by_query.ensures most table)

pub returns-in-None-clause-sound : goal.returns-in-None-clause-sound
returns-in-None-clause-sound c most table =
    let p = c.args.self.now.problem in
    let sound : IsSound p = subst (λ (s : PrunerParts). IsSound s.problem) c.self.view_is c.stage.ensures.sound in
    none_below p most c.args.walk.now.node c.nothing_is_kept_below_a_dead_node.ensures sound c.dead_by_query.result
    (dead_by_query p most c.args.walk.now.node c.dead_by_query.result (c.in-None.ensures most) (c.dead_by_query.ensures most table))
