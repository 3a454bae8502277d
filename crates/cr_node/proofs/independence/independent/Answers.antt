use Rattle.std.proofs.Common.{List, length, sym, ◌∙◌, subst}
use Rattle.std.proofs.lemmas.Bool.{false≢true}
use Rattle.cr_node.specs.Overlaps.{Item, ApartBelow}
use Rattle.cr_node.proofs.Apart.{independent_where_apart}
use Rattle.cr_node.proofs.independence.independent.Goals as goal

pub returns-then-are_apart : goal.returns-then-are_apart
returns-then-are_apart c =
    let apart = c.are_apart.ensures.0 c.if-are_apart.true in
    (independent_where_apart c.args.problem.now c.args.found.now c.args.nodes.now).1 (subst (λ (l : List Item). ApartBelow l (length l)) c.in_ok-words.ensures apart)

pub first_overlap-requires : goal.first_overlap-requires
first_overlap-requires c = λ apart.
    false≢true (sym c.if-are_apart.false ∙ c.are_apart.ensures.1 (subst (λ (l : List Item). ApartBelow l (length l)) (sym c.in_ok-words.ensures) apart))
