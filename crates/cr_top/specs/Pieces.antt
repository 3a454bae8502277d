-- The pieces of a line.
use Rattle.std.specs.Prelude.{ℕ, List, [], ◌∷◌, ◌++◌, map}
use Rattle.std.specs.Fmt.{decimal, signed_decimal}
use Rattle.cr_top.specs.declared.piece.Piece.{Piece}
use Rattle.cr_top.specs.declared.piece.Piece.TheVariants as piece
use Rattle.cr_top.specs.Lines.{shown, notation_words}

-- a piece as it is written
abbrev pub piece_text : Piece → List ℕ
piece_text (piece.Text text) = text.now
piece_text (piece.Number value) = decimal value
piece_text (piece.Signed value) = signed_decimal value
piece_text (piece.Shown bytes) = map shown bytes.now
piece_text (piece.Wrong wrong) = notation_words wrong

-- pieces one after another
abbrev pub text_of : List Piece → List ℕ
text_of [] = []
text_of (piece ∷ []) = piece_text piece
text_of (piece ∷ next ∷ rest) = piece_text piece ++ text_of (next ∷ rest)
