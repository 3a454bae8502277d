use Rattle.std.proofs.Common.{◌≡◌, ℕ, ◌+◌, ◌<◌, ◌^◌, true, nat_eq, length, get_or, count_by, refl, sym, ap, ◌∙◌, arith, rules, eq-eqb}
use Rattle.std.proofs.lemmas.Bool.{ne_eqb}
use Rattle.std.proofs.lemmas.List.{get_or_default}
use Rattle.cr_model.specs.Callings.{letter_of}
use Rattle.cr_audit.proofs.Taken.{below, count_none, count_yes, count_no, count_all, count_few}
use Rattle.cr_audit.proofs.counting.lettered.Goals as goal
use Rattle.cr_audit.proofs.counting.lettered.Goals.{then-letter_at-letter, else-letter_at-letter}

pub loop-step-init : goal.loop-step-init
loop-step-init c = sym (count_none (λ s. nat_eq (letter_of c.args.problem.now s) c.args.letter) c.args.path.now.node.items)

pub overflow_add-number : goal.overflow_add-number
overflow_add-number c =
    let p = c.args.problem.now in
    let node = c.args.path.now.node.items in
    let test = λ (s : ℕ). nat_eq (letter_of p s) c.args.letter in
    let step = c.loop-step.step in
    let inside : step < length p.leads = search rules in
    let fits : length node < 2 ^ 64 = search rules in
    let has : c.index.result.now ≡ count_by (nat_eq step) node =
    c.index.ensures ∙ get_or_default c.args.path.now.taken.items step c.index.result.now 0 (omega (arith, inside, c.requires.taken.all)) ∙ c.requires.taken.each step inside in
    let yes' : test step ≡ true = eq-eqb (letter_of p step) c.args.letter (sym c.letter_at.ensures ∙ c.if-letter_at-letter.true) in
    omega (arith, count_yes test step node c.loop-step.number c.index.result.now c.loop-step.invariant has yes', count_few (below test (step + 1)) node, fits)

pub loop-step-preserved : goal.loop-step-preserved
loop-step-preserved c =
    let p = c.args.problem.now in
    let node = c.args.path.now.node.items in
    let test = λ (s : ℕ). nat_eq (letter_of p s) c.args.letter in
    let step = c.loop-step.step in
    let inside : step < length p.leads = search rules in
    elim c.if-letter_at-letter.branch [
      | then-letter_at-letter w ↦
          let has : w.index.result.now ≡ count_by (nat_eq step) node =
          w.index.ensures ∙ get_or_default c.args.path.now.taken.items step w.index.result.now 0 (omega (arith, inside, c.requires.taken.all)) ∙ c.requires.taken.each step inside in
          w.number-is ∙ count_yes test step node c.loop-step.number w.index.result.now c.loop-step.invariant has (eq-eqb (letter_of p step) c.args.letter (sym c.letter_at.ensures ∙ w.if-letter_at-letter.true))
      | else-letter_at-letter w ↦
          w.number-is ∙ count_no test step node c.loop-step.number c.loop-step.invariant (ne_eqb (letter_of p step) c.args.letter (λ same. w.if-letter_at-letter.false (c.letter_at.ensures ∙ same)))
    ]

pub returns : goal.returns
returns c =
    let p = c.args.problem.now in
    let node = c.args.path.now.node.items in
    let test = λ (s : ℕ). nat_eq (letter_of p s) c.args.letter in
    let last : c.loop-step.step ≡ length p.leads = search rules in
    c.loop-step.invariant ∙ ap (λ n. count_by (below test n) node) last ∙ count_all p test node c.requires.known
