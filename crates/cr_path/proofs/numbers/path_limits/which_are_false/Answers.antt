use Rattle.std.proofs.Common.{◌≡◌, ◌++◌, ◌∷◌, [], ◌∙◌, Bool, List, sym, ap₂, arith}
use Rattle.std.proofs.lemmas.List.FromFn.{map-range_with_len_more}
use Rattle.cr_path.specs.PathLimits.{has_row_twice}
use Rattle.cr_path.proofs.numbers.path_limits.which_are_false.Goals as goal

pub loop-step-preserved : goal.loop-step-preserved
loop-step-preserved c = λ p is.
    let step = c.loop-step.step in
    let pushed : c.push.new.self.items ≡ c.loop-step.twice.items ++ c.in_ok-is_false.field-0 ∷ [] = c.in_ok-push.ensures.items in
    pushed
    ∙ ap₂ (λ (before : List Bool) (twice : Bool). before ++ twice ∷ []) (c.loop-step.invariant p is) (c.in_ok-is_false.ensures p is)
    ∙ sym (map-range_with_len_more (has_row_twice p) 0 step step (omega arith))
