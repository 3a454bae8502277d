use Rattle.std.proofs.Common.{◌≡◌, ◌+◌, ◌++◌, ◌∷◌, [], List, ℕ, length, codes, refl, ap, ap₂, ◌∙◌, arith}
use Rattle.cr_model.specs.Checkpoints.{number_line}
use Rattle.cr_shard.proofs.ShardPieces.{pieces_more}
use Rattle.cr_shard.proofs.pieces.add_shard.Goals as goal

pub returns : goal.returns
returns c = λ p nodes are.
    let head : List ℕ = c.in_ok-head.head.items in
    let text : List ℕ = c.extend_from_slice.new.self.items in
    let size : c.len.result + c.len-2.result ≡ length head + length text = omega (arith, c.len.ensures, c.len-2.ensures, c.in_ok-head.head.ok, c.extend_from_slice.new.self.ok) in
    let text_is : text ≡ c.args.lines.now.text.items ++ codes "end\n" = c.in_ok-extend_from_slice.ensures.items ∙ ap (λ l. l ++ codes "end\n") (ap (λ v. v.items) c.replace-text.ensures.value) in
    let number : c.write_count.new.text.items ≡ number_line (codes "block") (length head + length text) =
    c.in_ok-write_count.ensures ∙ ap₂ (λ l n. l ++ number_line (codes "block") n) c.new-first.ensures.items size in
    pieces_more p nodes c.args.lines.now c.args.front.now head text c.args.pieces.now.items c.push-2.new.self.items c.extend_from_slice-2.new.self c.extend_from_slice.new.self are
    c.in_ok-head.ensures text_is
    (c.in_ok-extend_from_slice-2.ensures.items ∙ ap₂ ◌++◌ number c.deref.ensures.value)
    refl
    (c.in_ok-push-2.ensures.items ∙ ap (λ l. l ++ c.extend_from_slice.new.self ∷ []) c.in_ok-push.ensures.items)
