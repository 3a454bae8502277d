-- What the laws of rows and changes say of rows that are rung one after another.
use Rattle.std.proofs.Common.{◌≡◌, ℕ, List, [], ◌∷◌, length, All, sym, ap, ◌∙◌}
use Rattle.std.proofs.lemmas.List.Elements.{All-nil, All-cons}
use Rattle.cr_row.specs.Rows.{IsRow, IsInverse, Places, rounds, product, after}
use Rattle.cr_model.specs.Callings.{rows_from, last_of}
use Rattle.cr_model.proofs.Ringing.{AfterProduct, RoundsRight}

-- the laws of rows and changes, as their crate proves them
pub record RowLaws : Type 0 where
  pub rounds_row : (n : ℕ) → IsRow (rounds n)
  pub rounds_length : (n : ℕ) → length (rounds n) ≡ n
  pub rounds_right : RoundsRight
  pub rounds_left : (r : List ℕ) → IsRow r → product (rounds (length r)) r ≡ r
  pub after_row : (c : Places) (r : List ℕ) → IsRow r → IsRow (after c r)
  pub after_length : (c : Places) (r : List ℕ) → length (after c r) ≡ length r
  pub after_product : AfterProduct
  pub associates : (g h r : List ℕ) → IsRow r → length h ≡ length r → product (product g h) r ≡ product g (product h r)
  pub one_side : (h r : List ℕ) → IsRow h → IsRow r → length h ≡ length r → product h r ≡ rounds (length h)
      → IsInverse h r

-- a row of n bells
pub record IsRowOf (n : ℕ) (row : List ℕ) : Type 0 where
  pub is : IsRow row
  pub long : length row ≡ n

module _ (laws : RowLaws) where
  rounds_of : (n : ℕ) → IsRowOf n (rounds n)
  rounds_of n = record { is = laws.rounds_row n; long = laws.rounds_length n }

  after_of : (n : ℕ) (change : Places) (row : List ℕ) → IsRowOf n row → IsRowOf n (after change row)
  after_of n change row h = record { is = laws.after_row change row h.is; long = laws.after_length change row ∙ h.long }

  rows_from_of : (n : ℕ) (row : List ℕ) (changes : List Places) → IsRowOf n row
      → All (IsRowOf n) (rows_from row changes)
  rows_from_of n row [] h = All-nil (IsRowOf n)
  rows_from_of n row (change ∷ changes) h =
      let next : IsRowOf n (after change row) = after_of n change row h in
      All-cons (IsRowOf n) (after change row) (rows_from (after change row) changes) next (rows_from_of n (after change row) changes next)

  last_from_of : (n : ℕ) (row : List ℕ) (changes : List Places) → IsRowOf n row
      → IsRowOf n (last_of row (rows_from row changes))
  last_from_of n row [] h = h
  last_from_of n row (change ∷ changes) h = last_from_of n (after change row) changes (after_of n change row h)

  -- each row from rounds
  pub rows_are_rows : (n : ℕ) (changes : List Places) → All (IsRowOf n) (rows_from (rounds n) changes)
  rows_are_rows n changes = rows_from_of n (rounds n) changes (rounds_of n)

  -- the last one too
  pub last_is_row : (n : ℕ) (changes : List Places) → IsRowOf n (last_of (rounds n) (rows_from (rounds n) changes))
  last_is_row n changes = last_from_of n (rounds n) changes (rounds_of n)

  -- what g does h undoes
  pub undone : (n : ℕ) (h g row : List ℕ) → IsRowOf n g → product h g ≡ rounds n → IsRowOf n row
      → product h (product g row) ≡ row
  undone n h g row mid round is =
      sym (laws.associates h g row is.is (mid.long ∙ sym is.long)) ∙ ap (λ l. product l row) (round ∙ ap rounds (sym is.long)) ∙ laws.rounds_left row is.is

  -- a row that is undone on one side is undone on the other
  pub undone_back : (n : ℕ) (h g : List ℕ) → IsRowOf n h → IsRowOf n g → product h g ≡ rounds n → product g h ≡ rounds n
  undone_back n h g one two round =
      (laws.one_side h g one.is two.is (one.long ∙ sym two.long) (round ∙ ap rounds (sym one.long))).left ∙ ap rounds one.long
