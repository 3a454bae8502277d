use Rattle.std.proofs.Common.{◌≡◌, List, ℕ, [], get_or, All, ◌∙◌, subst, arith}
use Rattle.std.proofs.lemmas.List.{get_or_default, take_all}
use Rattle.std.proofs.lemmas.List.Elements.{All-more}
use Rattle.cr_model.specs.Nodes.{part_of}
use Rattle.cr_shard.specs.Hashes.{IsClear}
use Rattle.cr_shard.proofs.text_cut.are_clear.Goals as goal

pub loop-calling-preserved : goal.loop-calling-preserved
loop-calling-preserved c =
    let p = c.args.problem.now in
    let hashes = c.args.known.now.hashes in
    let found = c.args.found.now in
    let i = c.loop-calling.calling-index in
    let item : c.calling-item.result ≡ get_or found i [] = c.calling-item.is ∙ get_or_default found i c.calling-item.result [] c.loop-calling-test.true in
    All-more (λ (touch : List ℕ). IsClear hashes (part_of p touch)) found i [] c.loop-calling-test.true c.loop-calling.invariant
    (subst (λ (touch : List ℕ). IsClear hashes (part_of p touch)) item
    (subst (IsClear hashes) c.part_of.ensures (c.is_clear.ensures c.if-not-is_clear.false)))

pub returns : goal.returns
returns c = λ _.
    let p = c.args.problem.now in
    let hashes = c.args.known.now.hashes in
    let found = c.args.found.now in
    subst (All (λ (touch : List ℕ). IsClear hashes (part_of p touch))) (take_all c.loop-calling.calling-index found (omega (arith, c.loop-calling-test.false)))
    c.loop-calling.invariant
