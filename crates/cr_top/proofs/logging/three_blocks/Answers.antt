use Rattle.std.proofs.Common.{◌++◌, ap, ◌∙◌}
use Rattle.cr_store.specs.Blocks.{block}
use Rattle.cr_top.proofs.LogParts.{three_are}
use Rattle.cr_top.proofs.logging.three_blocks.Goals as goal

pub returns : goal.returns
returns c =
    let one = c.args.first.now in
    let two = c.args.second.now in
    let three = c.args.third.now in
    three_are one two three _ c.in_ok-put_body.ensures.body c.in_ok-put_body-2.ensures.body c.in_ok-put_body-3.ensures.body
    (c.in_ok-put_body-3.ensures.whole ∙ ap (λ t. t ++ block three) (c.in_ok-put_body-2.ensures.whole
    ∙ ap (λ t. t ++ block two) (c.in_ok-put_body.ensures.whole ∙ ap (λ t. t ++ block one) c.new-text.ensures.items)))
