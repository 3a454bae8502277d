use Rattle.std.proofs.Common.{◌≡◌, take}
use Rattle.cr_node.proofs.Taken.{first_apart}
use Rattle.cr_node.proofs.independence.first_are_apart.Goals as goal

pub returns : goal.returns
returns c =
    let words = c.args.words.now in
    let taken : c.in_ok-front.front.items ≡ take c.args.number words = c.in_ok-front.ensures.items_if_clones_equal (λ x y same. same) in
    let apart = first_apart words c.in_ok-front.front.items c.args.number c.requires taken in
    (λ h. apart.0 (c.are_apart.ensures.0 h), λ h. c.are_apart.ensures.1 (apart.1 h))
