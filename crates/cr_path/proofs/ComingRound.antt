-- Whether the touch of a node comes round.
use Rattle.std.proofs.Common.{◌≡◌, ◌↔◌, ℕ, zero, suc, ◌+◌, Bool, true, List, [], refl, sym, ap, ◌∙◌, arith, append-nil}
use Rattle.std.specs.Prelude.{IsTrue}
use Rattle.std.proofs.lemmas.Slice.Eq.{bytes_eq-Decides}
use Rattle.cr_row.specs.Rows.{rounds, product}
use Rattle.cr_model.specs.Problems.{ProblemParts}
use Rattle.cr_model.specs.Callings.{head_of}
use Rattle.cr_model.specs.Dead.{parts_of}
use Rattle.cr_model.specs.OneTurn.{touch_of}
use Rattle.cr_model.specs.Queries.{repeated}
use Rattle.cr_model.proofs.Turned.{head_joined}
use Rattle.cr_path.specs.Numbers.{power, comes_round}
use Rattle.cr_path.proofs.Children.{row_laws}
use Rattle.cr_path.proofs.Passing.{repeated_on}

-- a row once more
pub power_more : (stage number : ℕ) (row : List ℕ) → power stage row (number + 1) ≡ product (power stage row number) row
unfolding power
power_more stage number row =
    let one : number + 1 ≡ suc number = omega arith in
    ap (power stage row) one

pub power_none : (stage : ℕ) (row : List ℕ) → power stage row 0 ≡ rounds stage
unfolding power
power_none stage row = refl

module _ (p : ProblemParts) where
  -- so many nodes, one after another
  power_is : (node : List ℕ) (number : ℕ) → power p.stage (head_of p node) number ≡ head_of p (repeated number node)
  unfolding power
  power_is node zero = refl
  power_is node (suc number) =
      let one : number + 1 ≡ suc number = omega arith in
      ap (λ (row : List ℕ). product row (head_of p node)) (power_is node number)
      ∙ sym (head_joined row_laws p (repeated number node) node)
      ∙ ap (head_of p) (sym (repeated_on number node) ∙ ap (λ n. repeated n node) one)

  no_leads : (number : ℕ) → repeated number [] ≡ []
  no_leads zero = refl
  no_leads (suc number) =
      let one : suc number ≡ number + 1 = omega arith in
      ap (λ n. repeated n []) one ∙ repeated_on number [] ∙ append-nil (repeated number []) ∙ no_leads number

  pub round_told : (node : List ℕ) (round : Bool) → round ≡ comes_round p (head_of p node) → IsTrue round ↔ (head_of p (touch_of p node) ≡ rounds p.stage)
  round_told node round is =
      let whole : List ℕ = power p.stage (head_of p node) (parts_of p) in
      let decided = bytes_eq-Decides whole (rounds p.stage) in (
        λ holds. sym (power_is node (parts_of p)) ∙ decided.0 (sym is ∙ holds),
        λ round_is. is ∙ decided.1 (power_is node (parts_of p) ∙ round_is),
      )

  -- before any lead
  pub root_round : true ≡ comes_round p (head_of p [])
  root_round =
      sym ((bytes_eq-Decides (power p.stage (head_of p []) (parts_of p)) (rounds p.stage)).1
      (power_is [] (parts_of p) ∙ ap (head_of p) (no_leads (parts_of p))))
