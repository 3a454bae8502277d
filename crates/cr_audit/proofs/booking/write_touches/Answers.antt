use Rattle.std.proofs.Common.{◌≡◌, ◌∷◌, ◌++◌, flat_map, append_assoc, sym, ap, ◌∙◌}
use Rattle.std.specs.Map.Iter.{deref}
use Rattle.std.proofs.lemmas.List.Elements.{All-rest}
use Rattle.std.proofs.lemmas.Map.Iter.{rest_more}
use Rattle.cr_model.specs.Books.{book_line}
use Rattle.cr_audit.specs.Touched.{IsMeasured, callings}
use Rattle.cr_audit.proofs.booking.write_touches.Goals as goal

pub loop-touch-preserved : goal.loop-touch-preserved
loop-touch-preserved c =
    let p = c.args.problem.now in
    let text = c.loop-touch.text.items in
    let touch = c.in-Some.touch.now in
    let left = c.next.new.self in
    let step : c.loop-touch.touch-iterator ≡ touch ∷ left = rest_more deref _ _ c.next.result c.in-Some.touch c.in-Some.is c.next.ensures.steps in (
      ap (λ t. t ++ flat_map (book_line p) (callings left)) c.in_ok-write_touch.ensures
          ∙ append_assoc text (book_line p touch.steps.items) (flat_map (book_line p) (callings left))
          ∙ ap (λ ts. text ++ flat_map (book_line p) (callings ts)) (sym step)
          ∙ c.loop-touch.invariant.0,
      All-rest (IsMeasured p) touch left c.loop-touch.touch-iterator step c.loop-touch.invariant.1,
    )
