use Rattle.std.proofs.Common.{ap, sym, ◌∙◌, arith, min}
use Rattle.cr_model.proofs.Measured.{least_lead}
use Rattle.cr_model.proofs.lengths.shortest_length.Goals as goal

pub loop-index-preserved : goal.loop-index-preserved
loop-index-preserved c =
    c.min-shortest.ensures ∙ ap (λ n. min n c.change_count.result) c.loop-index.invariant ∙ ap (min _) c.change_count.ensures ∙ sym (least_lead c.args.leads.now c.loop-index.index (omega arith) (omega arith))
