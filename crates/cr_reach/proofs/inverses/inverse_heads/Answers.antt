use Rattle.std.proofs.Common.{◌≡◌, ℕ, ◌+◌, ◌∙◌, List, length, sym, subst, arith}
use Rattle.std.proofs.lemmas.List.Elements.{All-push}
use Rattle.cr_reach.specs.Spreading.{AreOfStage, LeadBack}
use Rattle.cr_reach.proofs.Backwards.{BackLaws, lead_back_more}
use Rattle.cr_reach.proofs.inverses.inverse_heads.Goals as goal

pub loop-step-preserved : goal.loop-step-preserved
loop-step-preserved c =
    let laws : BackLaws = record {
      rung = c.a_lead_rung_from_a_row.ensures;
      long = c.change_of_a_row.ensures.same_length;
      twice = c.change_twice.ensures;
      associates = c.product_associates.ensures;
      product_long = c.product_of_rows.ensures.same_length;
      neutral = c.rounds_is_neutral.ensures.right;
      cancel = c.rows_cancel.ensures.right;
    } in
    let table = c.args.leads.now in
    let inverses = c.loop-step.inverses.items in
    let row = c.head_of.ensures.row in
    record {
      back = subst (LeadBack table (c.loop-step.step + 1)) (sym c.in_ok-push.ensures.items)
          (lead_back_more laws table c.loop-step.step inverses c.head_of.result c.inverse.result c.loop-step.invariant.back
          c.head_of.ensures.of_problem row.0 row.1 c.inverse.ensures.same_stage c.inverse.ensures.undoes);
      staged = subst (AreOfStage table.stage) (sym c.in_ok-push.ensures.items)
          (All-push (λ (r : List ℕ). length r ≡ table.stage) inverses c.inverse.result c.loop-step.invariant.staged
          (c.inverse.ensures.same_stage ∙ row.1));
    }

pub returns-clause-back : goal.returns-clause-back
returns-clause-back c =
    let table = c.args.leads.now in
    let all : c.loop-step.step ≡ length table.leads = omega (arith, c.loop-step-test.false, c.count-step-end.ensures.is) in
    subst (λ (n : ℕ). LeadBack table n c.loop-step.inverses.items) all c.loop-step.invariant.back
