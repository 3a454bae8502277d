use Rattle.std.proofs.Common.{◌≡◌, ◌<◌, ◌++◌, ◌∷◌, [], List, ℕ, get_or, length, arith, subst, sym, ◌∙◌}
use Rattle.std.proofs.lemmas.List.{get_or_default}
use Rattle.cr_shard.specs.Deals.{dealt_nodes}
use Rattle.cr_shard.specs.Dealers.{AreLinesOf}
use Rattle.cr_shard.proofs.DealtLines.{lines_more, next_more}
use Rattle.cr_shard.proofs.dealer.Shards.deal.Goals as goal

pub returns : goal.returns
returns c = λ _ nodes dealt.
    let p = c.args.problem.now in
    let node = c.args.node.now in
    let lines = c.args.self.now.lines.items in
    let next = c.args.self.now.next in
    let new = c.add.new.self in
    let inside : next < length lines = omega (arith, c.if-at-number.false, c.len-number.ensures) in
    let here : List (List ℕ) = dealt_nodes (length lines) next nodes in
    let read : get_or lines next new ≡ c.index_mut.result.now = get_or_default lines next new c.index_mut.result.now inside ∙ sym c.index_mut.ensures.value in
    let adds : AreLinesOf p here (get_or lines next new) → AreLinesOf p (here ++ node ∷ []) new =
    λ are. c.in_ok-add.ensures c.if-not-branch.false here (subst (AreLinesOf p here) read are) in
    record {
      next_is = next_more p nodes node lines next new inside dealt.next_is dealt.each adds c.after-self.result
          (λ end. c.after-self.ensures.last (omega (arith, end, c.len-number.ensures))) (λ more. c.after-self.ensures.others (λ end. more (omega (arith, end, c.len-number.ensures))));
      each = lines_more p nodes node lines next new inside dealt.next_is dealt.each adds;
    }
