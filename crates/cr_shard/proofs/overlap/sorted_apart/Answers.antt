use Rattle.std.proofs.Common.{◌≡◌, List, sym, subst}
use Rattle.cr_shard.specs.declared.words.Word.{Word}
use Rattle.cr_shard.specs.Reads.{items_of, NoneClashNext}
use Rattle.cr_shard.proofs.Meeting.{sorted_words}
use Rattle.cr_shard.proofs.overlap.sorted_apart.Goals as goal

pub returns : goal.returns
returns c =
    let sorted = c.sort_unstable.new.self.items in
    let apart = sorted_words c.args.words.items sorted c.sort_unstable.ensures.permutation c.sort_unstable.ensures.sorted in
    let seen : c.deref.result.now ≡ sorted = c.deref.ensures.value in (
      λ h. apart.0 (subst (λ (l : List Word). NoneClashNext (items_of l)) seen (c.none_clashes_next.ensures.0 h)),
      λ h. c.none_clashes_next.ensures.1 (subst (λ (l : List Word). NoneClashNext (items_of l)) (sym seen) (apart.1 h)),
    )
