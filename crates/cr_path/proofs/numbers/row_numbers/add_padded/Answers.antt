use Rattle.std.proofs.Common.{◌≡◌, ◌+◌, ◌-◌, ◌∙◌, ◌++◌, ◌∷◌, [], ℕ, List, length, get_or, ap, ap₂, arith, append_assoc}
use Rattle.std.specs.Prelude.{replicate}
use Rattle.std.proofs.lemmas.List.{replicate_more}
use Rattle.cr_path.proofs.numbers.row_numbers.add_padded.Goals as goal

pub loop-more-preserved : goal.loop-more-preserved
loop-more-preserved c =
    let names : List ℕ = c.args.names.now in
    let before : List ℕ = c.args.numbers.now.items in
    let first : ℕ = get_or names 0 0 in
    let copies : ℕ = c.loop-more._more - length names in
    let one : copies + 1 ≡ c.loop-more._more + 1 - length names = omega (arith, c.loop-more.invariant.from) in
    record {
      from = omega (arith, c.loop-more.invariant.from);
      are = c.in_ok-push.ensures.items
          ∙ ap₂ (λ (ns : List ℕ) (n : ℕ). ns ++ n ∷ []) c.loop-more.invariant.are c.first_of.ensures
          ∙ append_assoc before (names ++ replicate copies first) (first ∷ [])
          ∙ ap (λ (ns : List ℕ). before ++ ns) (append_assoc names (replicate copies first) (first ∷ []))
          ∙ ap (λ (ns : List ℕ). before ++ (names ++ ns)) (replicate_more copies first)
          ∙ ap (λ (n : ℕ). before ++ (names ++ replicate n first)) one;
    }
