-- Each group was written in a thread.
use Rattle.std.proofs.Common.{Option, ap, ◌∙◌, arith}
use Rattle.std.specs.Prelude.{IfSome, IsNone}
use Rattle.std.specs.List.{AllZip}
use Rattle.std.proofs.lemmas.Result.{IfOk-weaker}
use Rattle.cr_book.specs.declared.part.Part.{Part}
use Rattle.cr_book.specs.declared.texts.Lines.{Lines}
use Rattle.cr_book.specs.Lines.{texts_in, lines_as_long, AreLines}
use Rattle.cr_book.specs.Slices.{part_of, parts_of, GoOn}
use Rattle.cr_book.proofs.EachMade.{each_made}
use Rattle.cr_book.proofs.Groups.{zip_weaker, zip_there, some_weaker, each_goes_on, one_does_not}
use Rattle.cr_book.proofs.Lines.{groups_written}
use Rattle.cr_book.proofs.Parts.{parts_joined, goes_on_sorted, sorted_goes_on}
use Rattle.cr_book.proofs.pieces.lines_of_groups.Given as given
use Rattle.cr_book.proofs.pieces.lines_of_groups.Goals as goal

-- what each thread tells of its group
written : (g : given.Over) (c : goal.After-all_there g) → AllZip (λ (group : Part) (made : Option Lines). IfSome made (λ (lines : Lines). AreLines c.args.problem.now (parts_of c.args.found.now (part_of c.args.slices.now group)) (texts_in lines.texts.items))
    × IfSome made (λ (lines : Lines). GoOn c.args.found.now c.args.slices.now group)
    × (IsNone made → GoOn c.args.found.now c.args.slices.now group → ⊥)) c.args.groups.items c.in_ok-all_made.field-0.items
written g c =
    each_made _ c.args.groups.items c.in_ok-lines.lines.items c.in_ok-all_made.field-0.items c.in_ok-all_made.ensures
    (omega (arith, c.in_ok-lines.ensures.len, c.in_ok-lines.lines.ok.0, c.args.groups.ok.0))
    (λ i d inside. let h = (c.in_ok-lines.ensures.each i d inside).1 in (h.job, h.job_is, h.call.met))

pub returns-clause-lines : goal.returns-clause-lines
returns-clause-lines g c =
    let p = c.args.problem.now in
    let found = c.args.found.now in
    let slices = c.args.slices.now in
    let groups = c.args.groups.items in
    let options = c.in_ok-all_made.field-0.items in
    IfOk-weaker c.all_there.result _ _ (λ made is.
    some_weaker made _ _ (λ there same long.
    groups_written p (λ group. parts_of found (part_of slices group)) (λ (lines : Lines). texts_in lines.texts.items) groups there.items
    (zip_there (λ (group : Part) (lines : Lines). AreLines p (parts_of found (part_of slices group)) (texts_in lines.texts.items)) groups options there.items same
    (zip_weaker _ _ (λ group one told. told.0) groups options (written g c))) long
    ∙ ap (lines_as_long p long) (parts_joined (part_of found) (part_of slices) groups ∙ ap (parts_of found) c.requires.parts.whole)) is) c.all_there.ensures.some

pub returns-clause-some : goal.returns-clause-some
returns-clause-some g c =
    let found = c.args.found.now in
    let slices = c.args.slices.now in
    let groups = c.args.groups.items in
    let options = c.in_ok-all_made.field-0.items in
    IfOk-weaker c.all_there.result _ _ (λ made is.
    some_weaker made _ _ (λ there same.
    goes_on_sorted found slices c.requires.within
    (each_goes_on found slices groups options there.items same c.requires.each
    (zip_weaker _ _ (λ group one told. told.1) groups options (written g c)))) is) c.all_there.ensures.some

pub returns-clause-none : goal.returns-clause-none
returns-clause-none g c =
    let found = c.args.found.now in
    let slices = c.args.slices.now in
    let groups = c.args.groups.items in
    let options = c.in_ok-all_made.field-0.items in
    IfOk-weaker c.all_there.result _ _ (λ made gone none up.
    one_does_not found slices groups options (gone none) c.requires.parts.within
    (zip_weaker _ _ (λ group one told. told.2) groups options (written g c))
    (sorted_goes_on found slices c.requires.within up)) c.all_there.ensures.none
