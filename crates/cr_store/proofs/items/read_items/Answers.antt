-- A found line is the first that is that of none, or a node line is.
use Rattle.std.proofs.Common.{◌≡◌, ◌+◌, [], false, true, inr, length, map, refl, ap, ap₂, ◌∙◌, subst, arith}
use Rattle.cr_store.specs.ShapeReads.{found_parts, shape_parts}
use Rattle.cr_store.specs.Lines.{in_all, node_lines_of, line_at}
use Rattle.cr_store.specs.Reading.{ReadsTouches, ReadsNodes}
use Rattle.cr_store.proofs.LineNumbers.{all_nodes}
use Rattle.cr_store.proofs.ReadUpTo.{touch_unread, touches_read, node_unread}
use Rattle.cr_store.proofs.items.read_items.Goals as goal

pub line_of-requires-clause-inside : goal.line_of-requires-clause-inside
line_of-requires-clause-inside c =
    let p = c.args.problem.now in
    let found = c.read_touches.new.found.items in
    let reads = subst (λ fs. ReadsTouches p (map found_parts fs) found false) c.deref.ensures.value
    (subst (ReadsTouches p (map found_parts c.deref.result.now) found) c.if-not-branch.true c.in_ok-read_touches.ensures) in
    omega (arith, (reads.stops refl).within, c.len-then-not-branch.ensures, c.read_touches.new.found.ok.0, ap (λ o. o.touches) c.requires.outline)

pub line_of-requires-then-not-branch-2-clause-inside : goal.line_of-requires-then-not-branch-2-clause-inside
line_of-requires-then-not-branch-2-clause-inside c =
    let p = c.args.problem.now in
    let shape = shape_parts c.args.shape.now in
    let found = c.read_touches.new.found.items in
    let nodes = c.read_nodes.new.nodes.items in
    let touches = subst (λ fs. ReadsTouches p (map found_parts fs) found true) c.deref.ensures.value
    (subst (ReadsTouches p (map found_parts c.deref.result.now) found) c.if-not-branch.false c.in_ok-read_touches.ensures) in
    let reads = subst (ReadsNodes p shape.version [] (node_lines_of shape) nodes) c.if-not-branch-2.true c.in_ok-read_nodes.ensures in
    omega (
      arith,
      touches.ends refl,
      (reads.stops refl).within,
      c.len-then-not-branch-2.ensures,
      c.read_touches.new.found.ok.0,
      c.len-then-not-branch-2-2.ensures,
      c.read_nodes.new.nodes.ok.0,
      ap (λ o. o.touches) c.requires.outline,
      ap (λ o. in_all o.sizes) c.requires.outline,
      all_nodes shape.jobs,
    )

pub returns-then-not-branch : goal.returns-then-not-branch
returns-then-not-branch c =
    let p = c.args.problem.now in
    let shape = shape_parts c.args.shape.now in
    let found = c.read_touches.new.found.items in
    let reads = subst (λ fs. ReadsTouches p (map found_parts fs) found false) c.deref.ensures.value
    (subst (ReadsTouches p (map found_parts c.deref.result.now) found) c.if-not-branch.true c.in_ok-read_touches.ensures) in
    let many : c.len-then-not-branch.result ≡ length found = omega (arith, c.len-then-not-branch.ensures, c.read_touches.new.found.ok.0) in
    inr (c.line_of.result, refl, record { item = length found; wrong = touch_unread p shape found reads; line_is = c.line_of.ensures ∙ ap₂ line_at c.requires.outline many })

pub returns-then-not-branch-2 : goal.returns-then-not-branch-2
returns-then-not-branch-2 c =
    let p = c.args.problem.now in
    let sound = c.query.ensures.sound in
    let shape = shape_parts c.args.shape.now in
    let found = c.read_touches.new.found.items in
    let nodes = c.read_nodes.new.nodes.items in
    let touches = subst (λ fs. ReadsTouches p (map found_parts fs) found true) c.deref.ensures.value
    (subst (ReadsTouches p (map found_parts c.deref.result.now) found) c.if-not-branch.false c.in_ok-read_touches.ensures) in
    let reads = subst (ReadsNodes p shape.version [] (node_lines_of shape) nodes) c.if-not-branch-2.true c.in_ok-read_nodes.ensures in
    let many : c.len-then-not-branch-2.result + c.len-then-not-branch-2-2.result ≡ length found + length nodes =
    omega (arith, c.len-then-not-branch-2.ensures, c.read_touches.new.found.ok.0, c.len-then-not-branch-2-2.ensures, c.read_nodes.new.nodes.ok.0) in
    let unread = node_unread p sound (c.callings_differ_in_their_texts.ensures p sound) shape found nodes (touches.ends refl) (touches_read p shape.found found touches) reads in
    inr (c.line_of-then-not-branch-2.result, refl, record { item = length found + length nodes; wrong = unread; line_is = c.line_of-then-not-branch-2.ensures ∙ ap₂ line_at c.requires.outline many })
