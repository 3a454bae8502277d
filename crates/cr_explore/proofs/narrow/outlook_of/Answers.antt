use Rattle.std.proofs.Common.{◌≤◌, ℕ, List, length, sym, subst}
use Rattle.cr_path.specs.Numbers.{AreNextHeads}
use Rattle.cr_explore.proofs.LookingAhead.{are_lead_heads}
use Rattle.cr_explore.proofs.narrow.outlook_of.Goals as goal

pub new-requires : goal.new-requires
new-requires c =
    let p = c.args.problem.now in
    let heads = c.heads-heads.result.now in
    let few : length heads ≤ 4294967296 = c.are_few.ensures.0 c.if-not-are_few.false in
    let next : AreNextHeads p heads c.deref.result.now =
    subst (λ (hs : List (List ℕ)). AreNextHeads p hs c.deref.result.now) (sym c.heads-heads.ensures)
    (subst (AreNextHeads p c.args.numbers.now.heads) (sym c.deref.ensures.value) (c.in_ok-next.ensures p c.requires)) in
    are_lead_heads c.a_lead_rung_from_a_row.ensures c.rounds_is_neutral.ensures.right p heads c.deref.result.now few next
