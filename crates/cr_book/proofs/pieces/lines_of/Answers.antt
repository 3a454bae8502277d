-- The lines of each length.
use Rattle.std.proofs.Common.{◌≡◌, ℕ, [], get_or, ◌∙◌, subst}
use Rattle.std.specs.Prelude.{flat_map, IfSome}
use Rattle.std.specs.Cmp.Lexicographic.{slice_cmp}
use Rattle.std.specs.List.Sorted.{IsSorted}
use Rattle.std.specs.Ordering.{nat_cmp}
use Rattle.cr_book.specs.Lines.{texts_in, lines_as_long}
use Rattle.cr_book.specs.Slices.{parts_of}
use Rattle.cr_book.proofs.Lines.{lines_are}
use Rattle.cr_book.proofs.pieces.lines_of.Goals as goal

pub returns-clause-lines : goal.returns-clause-lines
returns-clause-lines g c =
    let p = c.args.problem.now in
    let found = c.args.found.now in
    let touches = parts_of found c.args.slices.now in
    let up = subst (λ made. IfSome made (λ _. IsSorted (slice_cmp nat_cmp) touches)) c.in-Some.is c.in_ok-lines.ensures.some in
    let lines = subst (λ made. IfSome made (λ groups. (long : ℕ) → flat_map (λ group. get_or (texts_in group.texts.items) long []) groups.items ≡ lines_as_long p long touches)) c.in-Some.is c.in_ok-lines.ensures.lines in
    lines_are p found touches c.in_ok-lists.lists.items c.in_ok-pieces.pieces.items
    c.requires.same up (λ long. c.in_ok-lists.ensures long ∙ lines long) c.in_ok-pieces.ensures
