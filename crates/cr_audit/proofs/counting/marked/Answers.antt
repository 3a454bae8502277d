use Rattle.std.proofs.Common.{◌≡◌, ℕ, ◌+◌, ◌<◌, ◌^◌, true, nat_eq, length, get_or, count_by, refl, sym, ap, ◌∙◌, arith, rules, eq-eqb}
use Rattle.std.proofs.lemmas.Bool.{ne_eqb}
use Rattle.std.proofs.lemmas.List.{get_or_default}
use Rattle.cr_model.specs.Callings.{mark_of}
use Rattle.cr_audit.proofs.Taken.{below, count_none, count_yes, count_no, count_all, count_few}
use Rattle.cr_audit.proofs.counting.marked.Goals as goal
use Rattle.cr_audit.proofs.counting.marked.Goals.{then-mark_at-mark, else-mark_at-mark}

pub loop-step-init : goal.loop-step-init
loop-step-init c = sym (count_none (λ s. nat_eq (mark_of c.args.problem.now s) c.args.mark) c.args.path.now.node.items)

pub overflow_add-number : goal.overflow_add-number
overflow_add-number c =
    let p = c.args.problem.now in
    let node = c.args.path.now.node.items in
    let test = λ (s : ℕ). nat_eq (mark_of p s) c.args.mark in
    let step = c.loop-step.step in
    let inside : step < length p.leads = search rules in
    let fits : length node < 2 ^ 64 = search rules in
    let has : c.index.result.now ≡ count_by (nat_eq step) node =
    c.index.ensures ∙ get_or_default c.args.path.now.taken.items step c.index.result.now 0 (omega (arith, inside, c.requires.taken.all)) ∙ c.requires.taken.each step inside in
    let yes' : test step ≡ true = eq-eqb (mark_of p step) c.args.mark (sym c.mark_at.ensures ∙ c.if-mark_at-mark.true) in
    omega (arith, count_yes test step node c.loop-step.number c.index.result.now c.loop-step.invariant has yes', count_few (below test (step + 1)) node, fits)

pub loop-step-preserved : goal.loop-step-preserved
loop-step-preserved c =
    let p = c.args.problem.now in
    let node = c.args.path.now.node.items in
    let test = λ (s : ℕ). nat_eq (mark_of p s) c.args.mark in
    let step = c.loop-step.step in
    let inside : step < length p.leads = search rules in
    elim c.if-mark_at-mark.branch [
      | then-mark_at-mark w ↦
          let has : w.index.result.now ≡ count_by (nat_eq step) node =
          w.index.ensures ∙ get_or_default c.args.path.now.taken.items step w.index.result.now 0 (omega (arith, inside, c.requires.taken.all)) ∙ c.requires.taken.each step inside in
          w.number-is ∙ count_yes test step node c.loop-step.number w.index.result.now c.loop-step.invariant has (eq-eqb (mark_of p step) c.args.mark (sym c.mark_at.ensures ∙ w.if-mark_at-mark.true))
      | else-mark_at-mark w ↦
          w.number-is ∙ count_no test step node c.loop-step.number c.loop-step.invariant (ne_eqb (mark_of p step) c.args.mark (λ same. w.if-mark_at-mark.false (c.mark_at.ensures ∙ same)))
    ]

pub returns : goal.returns
returns c =
    let p = c.args.problem.now in
    let node = c.args.path.now.node.items in
    let test = λ (s : ℕ). nat_eq (mark_of p s) c.args.mark in
    let last : c.loop-step.step ≡ length p.leads = search rules in
    c.loop-step.invariant ∙ ap (λ n. count_by (below test n) node) last ∙ count_all p test node c.requires.known
