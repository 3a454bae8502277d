use Rattle.std.proofs.Common.{◌≡◌, List, sym, subst}
use Rattle.cr_node.specs.declared.words.Word.{Word}
use Rattle.cr_node.specs.Overlaps.{items_of, NoneBeginsNext}
use Rattle.cr_node.proofs.Taken.{sorted_apart}
use Rattle.cr_node.proofs.independence.are_apart.Goals as goal

pub returns : goal.returns
returns c =
    let sorted = c.sort_unstable.new.self.items in
    let apart = sorted_apart c.args.words.items sorted c.sort_unstable.ensures.permutation c.sort_unstable.ensures.sorted in
    let seen : c.deref.result.now ≡ sorted = c.deref.ensures.value in (
      λ h. apart.0 (subst (λ (l : List Word). NoneBeginsNext (items_of l)) seen (c.none_begins_next.ensures.0 h)),
      λ h. c.none_begins_next.ensures.1 (subst (λ (l : List Word). NoneBeginsNext (items_of l)) (sym seen) (apart.1 h)),
    )
