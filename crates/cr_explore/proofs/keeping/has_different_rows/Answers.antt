use Rattle.std.proofs.Common.{◌≡◌, ◌∙◌, ◌↔◌, Bool, false, not, ap, sym, subst}
use Rattle.std.specs.Prelude.{IsTrue}
use Rattle.std.proofs.lemmas.Bool.{false≢true}
use Rattle.cr_model.specs.Callings.{rows_of, AllDiffer}
use Rattle.cr_model.specs.OneTurn.{touch_of}
use Rattle.cr_model.proofs.Deciding.{rows_differ_decided}
use Rattle.cr_explore.proofs.KeptTouches.{first_part_differs}
use Rattle.cr_explore.proofs.keeping.has_different_rows.Goals as goal

pub returns-then-not-has_repeat : goal.returns-then-not-has_repeat
returns-then-not-has_repeat g c =
    let rows = rows_of (g.W.Standing.problem_of c.args.walk.now) (touch_of (g.W.Standing.problem_of c.args.walk.now) (g.W.Standing.node_of c.args.walk.now)) in
    subst (λ (b : Bool). IsTrue b ↔ AllDiffer rows) (sym c.parts_differ.ensures) (rows_differ_decided rows)

pub returns-else-not-has_repeat : goal.returns-else-not-has_repeat
returns-else-not-has_repeat g c =
    let p = (g.W.Standing.problem_of c.args.walk.now) in
    let node = (g.W.Standing.node_of c.args.walk.now) in (
      λ h. absurd (false≢true (sym (ap not c.if-not-has_repeat.false) ∙ h)),
      λ all.
          let none : c.has_repeat.result ≡ false = c.has_repeat.ensures ∙ ap not ((rows_differ_decided (rows_of p node)).1 (first_part_differs p node c.requires.sound all)) in
          ap not none,
    )
