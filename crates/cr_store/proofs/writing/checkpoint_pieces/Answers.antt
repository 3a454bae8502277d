use Rattle.std.proofs.Common.{◌≡◌, ◌++◌, length, map, ap, ap₂, ◌∙◌, arith}
use Rattle.cr_book.specs.Pieces.{pieces_joined}
use Rattle.cr_store.specs.Written.{head_text, tail_text}
use Rattle.cr_store.proofs.Pieces.{is_checkpoint}
use Rattle.cr_store.proofs.writing.checkpoint_pieces.Goals as goal

pub returns-clause-text : goal.returns-clause-text
returns-clause-text g c =
    let p = c.args.problem.now in
    let bytes = c.args.problem_bytes.now in
    let jobs = map g.J.Job.nodes c.args.jobs.now in
    let lines = pieces_joined c.in_ok-pieces.field-0.pieces.items in
    let many : c.len.result ≡ length c.args.found.items = omega (arith, c.len.ensures) in
    let head : c.in_ok-head.head.items ≡ head_text bytes (length c.args.found.items) = c.in_ok-head.ensures ∙ ap (head_text bytes) many in
    let tail : c.write_tail.new.text.items ≡ tail_text p jobs = c.in_ok-write_tail.ensures ∙ ap (λ text. text ++ tail_text p jobs) c.new-tail.ensures.items in
    is_checkpoint p bytes c.args.found.items jobs lines (pieces_joined c.in_ok-pieces-2.pieces.items) c.in_ok-pieces.ensures.lines
    (c.in_ok-pieces-2.ensures ∙ ap₂ (λ before behind. before ++ lines ++ behind) head tail)
