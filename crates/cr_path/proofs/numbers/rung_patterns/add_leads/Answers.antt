use Rattle.std.proofs.Common.{◌≡◌, ◌+◌, ◌++◌, ◌∷◌, [], ℕ, List, map, sym, ap, ◌∙◌, arith, append_assoc}
use Rattle.std.specs.List.{range_with_len}
use Rattle.std.proofs.lemmas.List.FromFn.{map-range_with_len_more}
use Rattle.cr_path.specs.Numbers.{lead_fitting}
use Rattle.cr_path.proofs.numbers.rung_patterns.add_leads.Goals as goal

pub loop-step-preserved : goal.loop-step-preserved
loop-step-preserved c = λ cells fits is.
    let f : ℕ → ℕ = lead_fitting c.args.leads.now cells c.args.head.now in
    let step : ℕ = c.loop-step.step in
    let before : List ℕ = c.args.numbers.now.items in
    let done : List ℕ = map f (range_with_len 0 step) in
    let at : 0 + step ≡ step = omega arith in
    c.in_ok-push.ensures.items
    ∙ ap (λ (xs : List ℕ). xs ++ c.count_rows.result ∷ []) (c.loop-step.invariant cells fits is)
    ∙ append_assoc before done (c.count_rows.result ∷ [])
    ∙ ap (λ (n : ℕ). before ++ (done ++ n ∷ [])) (c.count_rows.ensures cells fits is)
    ∙ ap (λ (xs : List ℕ). before ++ xs) (sym (map-range_with_len_more f 0 step step at))
