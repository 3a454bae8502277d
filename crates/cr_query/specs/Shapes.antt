-- Compiled patterns, as contracts see them: the stage, and what the cells fix.
use Rattle.std.specs.Prelude.{ℕ, ◌<◌, Bool, List, All}
use Rattle.std.specs.List.{list_all}
use Rattle.cr_model.specs.declared.query.Cell.{Cell}
use Rattle.cr_query.specs.declared.fixing.Fixed.{Fixed}
use Rattle.cr_query.specs.Fixing.{fixed_from, is_at}

pub record ShapeParts : Type 0 where
  pub stage : ℕ
  pub fixed : List Fixed

abbrev pub shape_from : ℕ → List Fixed → ShapeParts
shape_from stage fixed = record { stage = stage; fixed = fixed }

-- the shape of some cells
abbrev pub shape_of : ℕ → List Cell → ShapeParts
shape_of stage cells = shape_from stage (fixed_from stage 0 cells)

-- a row has each bell at its place
abbrev pub has_shape : ShapeParts → List ℕ → Bool
has_shape shape row = list_all (is_at row) shape.fixed

-- each place is one of the stage
pub record IsShape (shape : ShapeParts) : Type 0 where
  pub within : All (λ fixed. fixed.place < shape.stage) shape.fixed
