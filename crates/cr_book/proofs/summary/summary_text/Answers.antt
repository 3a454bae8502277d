-- The first three lines, and the lines of the lengths.
use Rattle.std.proofs.Common.{◌-◌, length, get_or, map, ap, ◌∙◌, arith}
use Rattle.std.proofs.lemmas.List.{length-map}
use Rattle.cr_model.specs.Callings.{length_of}
use Rattle.cr_book.proofs.Tallies.{summed}
use Rattle.cr_book.proofs.summary.summary_text.Goals as goal

pub returns : goal.returns
returns c =
    let p = c.args.problem.now in
    let size = ap length c.deref.ensures.value ∙ c.in_ok-numbers.ensures.size in
    summed p.query.max c.most_of.result (map (length_of p) c.args.book.now) c.deref.result.now c.new-text.result.items c.write_head.new.text.items
    c.write_lengths.new.text.items (length c.args.book.now) (c.len.result - 1) size
    (λ k. ap (λ l. get_or l k 0) c.deref.ensures.value ∙ c.in_ok-numbers.ensures.each k) c.most_of.ensures
    (omega (arith, length-map c.args.book.now (length_of p))) (omega (arith, size, c.in_ok-numbers.ensures.size)) c.new-text.ensures.items
    c.in_ok-write_head.ensures c.in_ok-write_lengths.ensures
