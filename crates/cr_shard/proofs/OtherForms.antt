-- A text that does not begin as a checkpoint goes wrong on its first line.
use Rattle.std.proofs.Common.{◌≡◌, ℕ, ◌<◌, ◌≤◌, ◌⊎◌, inl, inr, nat_eq, List, [], ◌++◌, length, take, drop, refl, sym, ap, ◌∙◌, arith, append_assoc}
use Rattle.std.specs.Prelude.{codes}
use Rattle.std.specs.List.{starts_with}
use Rattle.std.proofs.lemmas.Bool.{cases_lt}
use Rattle.std.proofs.lemmas.List.{take-append-le, take-append-drop}
use Rattle.std.proofs.Math.Seq.{take-append_seam}
use Rattle.cr_model.specs.Checkpoints.{IsCheckpoint}
use Rattle.cr_store.specs.Shapes.{ShapeParts, HasShape, shape_text, line_feeds}
use Rattle.cr_store.specs.ShapeFaults.{CanBeginShape, IsShort, IsFormFault}
use Rattle.cr_store.proofs.ShapeBytes.{feeds_joined}

abbrev word : List ℕ
word = codes "ringsearch checkpoint "

-- a shape's text begins with the word
shape_begins : (s : ShapeParts) → shape_text s ≡ word ++ drop 22 (shape_text s)
shape_begins s = refl

-- a text that begins with the word begins as a checkpoint
word_begins : (text rest : List ℕ) → text ≡ word ++ rest → IsCheckpoint text
word_begins text rest is = ap (λ t. starts_with nat_eq t word) is

-- no line feed stands in a front of the word
none_in_word : (k : ℕ) → line_feeds (take k word) ≡ 0
none_in_word k = omega (arith, whole, feeds_joined (take k word) (drop k word), ap line_feeds (take-append-drop k word))
  where
    whole : line_feeds word ≡ 0
    whole = refl

module _ (text : List ℕ) (other : IsCheckpoint text → ⊥) where
  no_shape : (s : ShapeParts) → HasShape text s → ⊥
  no_shape s has = other (word_begins text (drop 22 (shape_text s)) (has.is ∙ shape_begins s))

  not_short : IsShort text → ⊥
  not_short short = other (ap (λ t. starts_with nat_eq t word) short.is)

  -- with the first line no text with a shape begins so
  no_line : (upto others : List ℕ) → text ≡ upto ++ others → 1 ≤ line_feeds upto → CanBeginShape upto → ⊥
  no_line upto others is feeds begins = by (cases_lt (length upto) 22)
    where
      shape : upto ++ begins.more ≡ word ++ drop 22 (shape_text begins.shape)
      shape = begins.has.is ∙ shape_begins begins.shape

      by : (length upto < 22) ⊎ (22 ≤ length upto) → ⊥
      by (inl less) =
          let front : upto ≡ take (length upto) word =
          sym (take-append_seam upto begins.more) ∙ ap (take (length upto)) shape
          ∙ take-append-le (length upto) word (drop 22 (shape_text begins.shape)) (omega (arith, less)) in
          omega (arith, feeds, ap line_feeds front, none_in_word (length upto))
      by (inr more) =
          let front : take 22 upto ≡ word =
          sym (take-append-le 22 upto begins.more more) ∙ ap (take 22) shape in
          other (word_begins text (drop 22 upto ++ others)
          (is ∙ ap (λ t. t ++ others) (sym (take-append-drop 22 upto) ∙ ap (λ t. t ++ drop 22 upto) front) ∙ append_assoc word (drop 22 upto) others))

  pub first_line_wrong : (s : ShapeParts) (t : List ℕ) → HasShape t s → IsFormFault text 1
  first_line_wrong s t has = inr (
    not_short,
    record {
      none = no_shape;
      front = [];
      rest = text;
      is = refl;
      before = record { shape = s; more = t; has = has };
      line_is = refl;
      here = no_line;
    },
  )
