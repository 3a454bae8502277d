use Rattle.std.proofs.Common.{◌-◌, ◌<◌, ◌≤◌, length, drop, subst}
use Rattle.cr_store.specs.Blocks.{IsHead}
use Rattle.cr_store.specs.declared.blocks.Head.TheVariants as head
use Rattle.cr_store.proofs.BlockPlaces.{next_whole, next_short}
use Rattle.cr_store.proofs.blocks.next_block.Goals as goal

pub returns-then-size-text : goal.returns-then-size-text
returns-then-size-text c =
    let fits : c.in-Whole.size ≤ length (drop c.args.at c.args.bytes.now) - c.in-Whole.start =
    subst (λ t. c.in-Whole.size ≤ length t - c.in-Whole.start) c.behind-text.ensures c.if-size-text.true in
    next_whole c.args.bytes.now c.args.at c.in-Whole.start c.in-Whole.size
    (subst (λ t. IsHead t (head.Whole c.in-Whole.start c.in-Whole.size)) c.behind-text.ensures c.in-Whole.ensures) fits

pub returns-else-size-text : goal.returns-else-size-text
returns-else-size-text c =
    let whole = subst (λ t. IsHead t (head.Whole c.in-Whole.start c.in-Whole.size)) c.behind-text.ensures c.in-Whole.ensures in
    let short : length (drop c.args.at c.args.bytes.now) - c.in-Whole.start < c.in-Whole.size =
    subst (λ t. length t - c.in-Whole.start < c.in-Whole.size) c.behind-text.ensures c.if-size-text.false in
    next_short c.args.bytes.now c.args.at c.in-Whole.start c.in-Whole.size whole short
