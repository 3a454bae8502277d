use Rattle.std.proofs.Common.{sym, subst}
use Rattle.std.specs.Prelude.{All}
use Rattle.std.proofs.lemmas.List.Sorted.{All-permutation}
use Rattle.cr_model.specs.Callings.{HasSteps}
use Rattle.cr_book.proofs.pieces.lines_as_one.Goals as goal

pub write_lines-requires : goal.write_lines-requires
write_lines-requires c = subst (All (HasSteps c.args.problem.now)) (sym c.deref.ensures.value)
    (All-permutation (HasSteps c.args.problem.now) c.args.found.items c.in_ok-book.book.items c.in_ok-book.ensures.same c.requires)
