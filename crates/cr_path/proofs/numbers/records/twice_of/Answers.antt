use Rattle.std.proofs.Common.{◌++◌, ◌∷◌, [], ◌∙◌, Bool, List, sym, ap₂, arith}
use Rattle.std.proofs.lemmas.List.FromFn.{map-range_with_len_more}
use Rattle.cr_path.specs.PathLimits.{has_row_twice}
use Rattle.cr_path.proofs.numbers.records.twice_of.Goals as goal

pub loop-step-preserved : goal.loop-step-preserved
loop-step-preserved c =
    let step = c.loop-step.step in
    c.in_ok-push.ensures.items
    ∙ ap₂ (λ (before : List Bool) (twice : Bool). before ++ twice ∷ []) c.loop-step.invariant c.has_row_twice.ensures
    ∙ sym (map-range_with_len_more (has_row_twice c.args.leads.now) 0 step step (omega arith))
