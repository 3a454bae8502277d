use Rattle.std.proofs.Common.{◌≡◌, ◌≤◌, length, take, sym, ap, subst, arith}
use Rattle.std.proofs.lemmas.List.{length-take-le}
use Rattle.cr_prune.specs.Walks.{WalkParts}
use Rattle.cr_model.specs.Callings.{length_of}
use Rattle.cr_model.specs.Queries.{part_cap}
use Rattle.cr_explore.proofs.Short.{node_is_short, front_is_valid}
use Rattle.cr_explore.proofs.walking.go_to.Goals as goal

pub go-requires-clause-few : goal.go-requires-clause-few
go-requires-clause-few c =
    let node : c.loop-index.walk.node ≡ take c.loop-index.index c.args.node.now = ap (λ (w : WalkParts). w.node) c.loop-index.invariant in
    let long = length-take-le c.loop-index.index c.args.node.now (omega arith) in
    omega (arith, ap length node, long, node_is_short c.args.walk.now.problem c.args.node.now c.requires.sound c.requires.valid)

pub go-requires-clause-short : goal.go-requires-clause-short
go-requires-clause-short c =
    let valid = front_is_valid c.args.walk.now.problem c.args.node.now c.loop-index.index c.requires.valid in
    subst (λ (w : WalkParts). length_of w.problem w.node ≤ part_cap w.problem) (sym c.loop-index.invariant) valid.short
