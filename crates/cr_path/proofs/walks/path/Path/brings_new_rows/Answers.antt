use Rattle.std.proofs.Common.{◌≡◌, ◌+◌, ◌-◌, ◌<◌, ◌∙◌, true, false, not, ◌&&◌, length, ℕ, refl, sym, ap, ap₂, subst, arith}
use Rattle.std.proofs.lemmas.Bool.{not-true, not-false}
use Rattle.cr_model.specs.Callings.{rows_of}
use Rattle.cr_model.specs.Decided.{rows_differ}
use Rattle.cr_model.specs.Sizes.{child}
use Rattle.cr_path.specs.Ends.{IsEnd, ends_of}
use Rattle.cr_path.specs.Marks.{some_marked}
use Rattle.cr_path.specs.Numbers.{numbers_of}
use Rattle.cr_path.specs.Walks.{PathParts}
use Rattle.cr_path.proofs.Enough.{told_after}
use Rattle.cr_path.proofs.Lives.{twice_at, twice_counted}
use Rattle.cr_path.proofs.Marking.{new_told, old_below}
use Rattle.cr_path.proofs.Walking.{have_marks}
use Rattle.cr_path.proofs.walks.path.Path.brings_new_rows.Goals as goal

pub returns-then-has_repeat : goal.returns-then-has_repeat
returns-then-has_repeat g c =
    let p = c.args.self.now.problem in
    let node = c.args.self.now.node in
    old_below p node c.args.step (not-true (rows_differ (rows_of p node)) (sym c.has_repeat.ensures ∙ c.if-has_repeat.true))

pub has_row_twice-requires : goal.has_row_twice-requires
has_row_twice-requires g c =
    let w = c.self.inside in
    let known = subst (λ (v : PathParts). c.args.step < length v.problem.leads) (sym c.self.view_is) c.requires in
    omega (arith, known, twice_counted w.problem.now w.numbers.twice c.self.invariant.0.numbered.twice)

pub has_some-requires : goal.has_some-requires
has_some-requires g c =
    let w = c.self.inside in
    let are : c.numbers_after.result.now ≡ numbers_of w.numbers (c.last_end-end.result.base + c.args.step) =
    c.numbers_after.ensures.are ∙ ap (λ (v : PathParts). numbers_of v.numbers (c.last_end-end.result.base + c.args.step)) (sym c.self.view_is) in
    have_marks w.problem.now w.leads.now w.numbers w.steps w.next w.ends w.marks.marks w.marks.unmarked w.counting.value w.turn_free c.self.invariant.0 (c.last_end-end.result.base + c.args.step) c.numbers_after.result.now are

pub returns-then-not-has_row_twice : goal.returns-then-not-has_row_twice
returns-then-not-has_row_twice g c =
    let w = c.self.inside in
    let p = w.problem.now in
    let t = w.numbers in
    let is = c.self.invariant.0 in
    let place : ℕ = c.last_end-end.result.base + c.args.step in
    let differ : rows_differ (rows_of p w.steps) ≡ true =
    ap (λ (v : PathParts). rows_differ (rows_of v.problem v.node)) c.self.view_is ∙ not-false (rows_differ (rows_of c.args.self.now.problem c.args.self.now.node)) (sym c.has_repeat.ensures ∙ c.if-has_repeat.false) in
    let inside = subst (λ (v : PathParts). c.args.step < length v.problem.leads) (sym c.self.view_is) c.requires in
    let at_end = subst (λ (v : PathParts). IsEnd v.problem v.numbers v.node c.last_end-end.result) (sym c.self.view_is) c.last_end-end.ensures in
    let are : c.numbers_after.result.now ≡ numbers_of t place = c.numbers_after.ensures.are ∙ ap (λ (v : PathParts). numbers_of v.numbers place) (sym c.self.view_is) in
    let twice_is = c.has_row_twice.ensures ∙ twice_at p t.twice c.args.step false is.numbered.twice inside in
    ap₂ (λ a b. not a && not b) (sym c.if-not-has_row_twice.true) c.has_some.ensures
    ∙ new_told p t is.numbered w.steps w.marks.marks (length w.steps - w.marks.unmarked) is.marked.are differ c.args.step place
    (told_after p t is.numbered w.steps w.next (ends_of w.steps w.ends) is.ends is.valid c.last_end-end.result c.args.step at_end inside) c.has_row_twice.result twice_is c.numbers_after.result.now are
    ∙ ap (λ (v : PathParts). rows_differ (rows_of v.problem (child v.node c.args.step))) c.self.view_is

pub returns-else-not-has_row_twice : goal.returns-else-not-has_row_twice
returns-else-not-has_row_twice g c =
    let w = c.self.inside in
    let p = w.problem.now in
    let t = w.numbers in
    let is = c.self.invariant.0 in
    let place : ℕ = c.last_end-end.result.base + c.args.step in
    let differ : rows_differ (rows_of p w.steps) ≡ true =
    ap (λ (v : PathParts). rows_differ (rows_of v.problem v.node)) c.self.view_is ∙ not-false (rows_differ (rows_of c.args.self.now.problem c.args.self.now.node)) (sym c.has_repeat.ensures ∙ c.if-has_repeat.false) in
    let inside = subst (λ (v : PathParts). c.args.step < length v.problem.leads) (sym c.self.view_is) c.requires in
    let at_end = subst (λ (v : PathParts). IsEnd v.problem v.numbers v.node c.last_end-end.result) (sym c.self.view_is) c.last_end-end.ensures in
    let twice_is = c.has_row_twice.ensures ∙ twice_at p t.twice c.args.step false is.numbered.twice inside in
    ap not c.if-not-has_row_twice.false ∙ ap (λ a. not a && not (some_marked w.marks.marks (numbers_of t place))) (sym c.if-not-has_row_twice.false)
    ∙ new_told p t is.numbered w.steps w.marks.marks (length w.steps - w.marks.unmarked) is.marked.are differ c.args.step place
    (told_after p t is.numbered w.steps w.next (ends_of w.steps w.ends) is.ends is.valid c.last_end-end.result c.args.step at_end inside) c.has_row_twice.result twice_is (numbers_of t place) refl
    ∙ ap (λ (v : PathParts). rows_differ (rows_of v.problem (child v.node c.args.step))) c.self.view_is
