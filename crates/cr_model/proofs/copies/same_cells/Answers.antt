use Rattle.std.proofs.Common.{◌≡◌, ap, sym, ◌∙◌, refl}
use Rattle.std.specs.Bool.{Decides}
use Rattle.std.proofs.lemmas.Slice.Eq.{slice_eq-Decides}
use Rattle.std.proofs.lemmas.Bool.Decides.{Decides-eqb}
use Rattle.cr_model.specs.declared.query.Cell.{Cell}
use Rattle.cr_model.specs.declared.query.Cell.TheVariants as cell
use Rattle.cr_model.specs.contracts.query.CellPartialEq.TheImpl.{eq-value}
use Rattle.cr_model.proofs.copies.same_cells.Goals as goal

decides : (a b : Cell) → Decides (eq-value.it a b) (a ≡ b)
decides (cell.Bell x) (cell.Bell y) = let d = Decides-eqb x y in (λ e. ap cell.Bell (d.0 e), λ e. d.1 (cc))
decides (cell.Bell x) cell.Any = (λ e. cc, λ e. cc)
decides (cell.Bell x) cell.Run = (λ e. cc, λ e. cc)
decides cell.Any (cell.Bell y) = (λ e. cc, λ e. cc)
decides cell.Any cell.Any = (λ e. refl, λ e. refl)
decides cell.Any cell.Run = (λ e. cc, λ e. cc)
decides cell.Run (cell.Bell y) = (λ e. cc, λ e. cc)
decides cell.Run cell.Any = (λ e. cc, λ e. cc)
decides cell.Run cell.Run = (λ e. refl, λ e. refl)

pub returns : goal.returns
returns c =
    let d = slice_eq-Decides decides _ _ _ c.eq.ensures in
    let left = c.as_slice.ensures.value ∙ ap (λ p. p.cells) c.pattern.view_is in
    let right = c.as_slice-2.ensures.value ∙ ap (λ p. p.cells) c.other.view_is in
    (λ yes'. sym left ∙ d.0 yes' ∙ right, λ same. d.1 (left ∙ same ∙ sym right))
