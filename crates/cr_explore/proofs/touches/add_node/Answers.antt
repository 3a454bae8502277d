use Rattle.std.proofs.Common.{◌≡◌, ◌∙◌, ℕ, List, [], ◌∷◌, ◌++◌, length, sym, ap, ap₂, arith}
use Rattle.std.specs.Prelude.{slice_set, slice_index_or}
use Rattle.std.proofs.Math.Seq.{set-append_seam}
use Rattle.std.proofs.lemmas.List.{get_or_push}
use Rattle.cr_explore.proofs.Short.{node_is_short}
use Rattle.cr_explore.proofs.touches.add_node.Goals as goal

pub extend_from_slice-requires : goal.extend_from_slice-requires
extend_from_slice-requires c =
    let short = node_is_short c.args.problem.now c.args.node.now c.stage-problem.ensures.sound c.requires in
    let counted : length c.args.touches.now.items ≡ c.len-last.result = omega (arith, c.len-last.ensures, c.args.touches.now.ok.0) in
    let none : length c.index_mut.result.now ≡ 0 = ap length
    (c.index_mut.ensures.value ∙ ap (λ (xs : List (List ℕ)). slice_index_or xs c.len-last.result c.index_mut.result.now) c.in_ok-push.ensures.items
    ∙ get_or_push c.args.touches.now.items c.empty.result c.index_mut.result.now c.len-last.result counted ∙ c.empty.ensures) in
    omega (arith, short, none)

pub returns : goal.returns
returns c =
    let counted : length c.args.touches.now.items ≡ c.len-last.result = omega (arith, c.len-last.ensures, c.args.touches.now.ok.0) in
    let none : c.index_mut.result.now ≡ [] =
    c.index_mut.ensures.value ∙ ap (λ (xs : List (List ℕ)). slice_index_or xs c.len-last.result c.index_mut.result.now) c.in_ok-push.ensures.items
    ∙ get_or_push c.args.touches.now.items c.empty.result c.index_mut.result.now c.len-last.result counted ∙ c.empty.ensures in
    ap₂ (λ (xs : List (List ℕ)) (calling : List ℕ). slice_set xs c.len-last.result calling) c.in_ok-push.ensures.items
    (c.in_ok-extend_from_slice.ensures.is ∙ ap (λ (front : List ℕ). front ++ c.args.node.now) none)
    ∙ ap (λ (n : ℕ). slice_set (c.args.touches.now.items ++ c.empty.result ∷ []) n c.args.node.now) (sym counted)
    ∙ set-append_seam c.args.touches.now.items c.empty.result [] c.args.node.now
