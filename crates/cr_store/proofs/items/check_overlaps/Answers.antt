use Rattle.std.proofs.Common.{◌≡◌, length, ap₂, subst, arith}
use Rattle.cr_node.specs.Overlaps.{items, TellsOverlap}
use Rattle.cr_store.proofs.ItemFacts.{item_count}
use Rattle.cr_store.proofs.items.check_overlaps.Goals as goal

pub line_of-first-requires-clause-inside : goal.line_of-first-requires-clause-inside
line_of-first-requires-clause-inside c =
    let p = c.args.problem.now in
    let pair = subst (TellsOverlap p c.deref.result.now c.deref-2.result.now) c.in-Some.is c.in_ok-earlier.ensures in
    let many : length (items p c.deref.result.now c.deref-2.result.now) ≡ length (items p c.args.items.now.found.items c.args.items.now.nodes.items) =
    ap₂ (λ f n. length (items p f n)) c.deref.ensures.value c.deref-2.ensures.value in
    omega (
      arith,
      pair.inside,
      pair.least.below,
      many,
      item_count p c.args.items.now.found.items c.args.items.now.nodes.items,
      c.requires.as_many_touches,
      c.requires.as_many_nodes,
    )

pub line_of-second-requires-clause-inside : goal.line_of-second-requires-clause-inside
line_of-second-requires-clause-inside c =
    let p = c.args.problem.now in
    let pair = subst (TellsOverlap p c.deref.result.now c.deref-2.result.now) c.in-Some.is c.in_ok-earlier.ensures in
    let many : length (items p c.deref.result.now c.deref-2.result.now) ≡ length (items p c.args.items.now.found.items c.args.items.now.nodes.items) =
    ap₂ (λ f n. length (items p f n)) c.deref.ensures.value c.deref-2.ensures.value in
    omega (arith, pair.inside, many, item_count p c.args.items.now.found.items c.args.items.now.nodes.items, c.requires.as_many_touches, c.requires.as_many_nodes)
