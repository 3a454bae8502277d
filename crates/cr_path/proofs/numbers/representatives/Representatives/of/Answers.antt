use Rattle.std.proofs.Common.{◌≡◌, ◌+◌, nat_eq, List, ℕ, length, get_or, sym, arith, subst, eq-eqb, eqb-true}
use Rattle.cr_path.specs.Representatives.{AreRepresentatives}
use Rattle.cr_path.proofs.Names.{representatives_more}
use Rattle.cr_path.proofs.numbers.representatives.Representatives.of.Goals as goal

pub loop-number-preserved : goal.loop-number-preserved
loop-number-preserved c =
    let rows : List (List ℕ) = c.args.stack.now.rows in
    let cover : List ℕ = c.args.cover.now in
    let number : ℕ = c.loop-number.number in
    let representatives : List (List ℕ) = c.loop-number.rows.items in
    let later : List ℕ = c.push.new.self.items in
    let here_is : c.in_ok-narrow.field-0 ≡ length representatives = omega (arith, c.in_ok-narrow.ensures, c.len.ensures, c.loop-number.rows.ok.0) in
    subst (λ (next : List (List ℕ)). AreRepresentatives rows cover next later (number + 1)) (sym c.in_ok-add_if.ensures)
    (representatives_more rows cover representatives c.loop-number.places.items later number c.in_ok-narrow.field-0 c.row_at-row.result
    c.loop-number.invariant here_is c.in_ok-push.ensures.items c.row_at-row.ensures
    (nat_eq (get_or cover number 0) number) (eqb-true (get_or cover number 0) number) (eq-eqb (get_or cover number 0) number))

pub returns : goal.returns
returns c =
    let rows : List (List ℕ) = c.args.stack.now.rows in
    let all : c.loop-number.number ≡ length rows = omega (arith, c.loop-number-test.false, c.loop-number.auto.number-end, c.requires) in
    subst (λ (n : ℕ). AreRepresentatives rows c.args.cover.now c.loop-number.rows.items c.loop-number.places.items n) all c.loop-number.invariant
