use Rattle.std.proofs.Common.{◌≡◌, length, [], set, replicate, None, false, sym, ap, ap₂, ◌∙◌, subst, arith}
use Rattle.std.proofs.lemmas.Bool.{false≢true}
use Rattle.cr_board.specs.Jobs.{numbered}
use Rattle.cr_board.specs.Choices.{is_holding}
use Rattle.cr_board.specs.Partitions.{IsKept}
use Rattle.cr_board.specs.Rooms.{holding}
use Rattle.cr_board.proofs.Reading.{length-numbered}
use Rattle.cr_board.proofs.Rooms.{none_holding, holding_none}
use Rattle.cr_board.proofs.Keeping.{open_keeps, same_board}
use Rattle.cr_board.proofs.board.Board.open.Goals as goal

pub returns : goal.returns
returns c =
    let o = c.args.opening in
    let workers : c.workers-workers.result ≡ o.workers = c.workers-workers.ensures.is in
    let first = c.in_ok-first.ensures ∙ ap (numbered 0) c.jobs.ensures.is in
    same_board o _ _ _ _ _ _ _ _ 0 _ _ _ _
    (c.in_ok-lanes.ensures ∙ ap₂ (λ n l. set (replicate n []) 0 l) workers first)
    (c.in_ok-held.ensures ∙ ap (λ n. replicate n None) workers)
    (c.in_ok-resigned.ensures.items_if_clones_equal (λ y e. e) ∙ ap (λ n. replicate n false) workers)
    (c.in_ok-found.ensures ∙ c.found.ensures.is)
    (c.len-next.ensures ∙ c.in_ok-first.first.ok.0 ∙ ap length first ∙ length-numbered 0 o.jobs)
    c.new.ensures.items

pub invariant_of-result : goal.invariant_of-result
invariant_of-result c = record {
  facts = subst IsKept (sym (returns c)) (open_keeps c.args.opening c.workers-workers.ensures.opening);
  rooms = record {
    lanes = λ worker holds. absurd (false≢true (sym (none_holding c.workers-workers.result worker) ∙ ap (λ h. is_holding h worker) (sym c.in_ok-held.ensures) ∙ holds));
    journal = omega (arith, ap holding c.in_ok-held.ensures, holding_none c.workers-workers.result, ap length c.new.ensures.items, c.new.result.ok);
  };
}
