use Rattle.std.proofs.Common.{[], ◌∷◌, ◌++◌, codes, map, sym, ◌∙◌, ap}
use Rattle.cr_read.proofs.UnknownKeys.{unknown_first}
use Rattle.cr_read.proofs.keys.check_top_of.Goals as goal

pub returns-then-not-is_of_top : goal.returns-then-not-is_of_top
returns-then-not-is_of_top c =
    unknown_first [] (codes "stage" ∷ map (λ part. part.name.now) c.args.parts.now) c.in-Some.key.now c.in-Some.field-0-1.now c.next.new.self _ c.as_str.result.now _ _
    c.in-Some.ensures.steps c.loop-key.invariant c.as_str.ensures.value (sym c.is_of_top.ensures ∙ c.if-not-is_of_top.true)
    (c.in_ok-path_to.ensures ∙ ap (λ name. [] ++ name) c.as_str-then-not-is_of_top.ensures.value)
