-- Heads of equal words, one after another.
use Rattle.std.proofs.Common.{◌≡◌, ℕ, ◌+◌, List, ◌++◌, append-nil, sym, ap, ap₂, ◌∙◌}
use Rattle.cr_row.specs.Rows.{product}
use Rattle.cr_model.specs.Problems.{ProblemParts}
use Rattle.cr_model.specs.Callings.{head_of}
use Rattle.cr_model.specs.Queries.{repeated}
use Rattle.cr_model.proofs.Repeating.{repeated_more}

-- one word
pub one_word : (p : ProblemParts) (node row : List ℕ) → row ≡ head_of p node → row ≡ head_of p (repeated 1 node)
one_word p node row h = h ∙ ap (head_of p) (sym (append-nil node))

-- one word more
pub one_word_more : (p : ProblemParts) (node row head : List ℕ) (number : ℕ) → ((calling more : List ℕ) → head_of p (calling ++ more) ≡ product (head_of p calling) (head_of p more))
    → row ≡ head_of p (repeated number node) → head ≡ head_of p node → product row head ≡ head_of p (repeated (number + 1) node)
one_word_more p node row head number joined h e = ap₂ product h e ∙ sym (joined (repeated number node) node) ∙ ap (head_of p) (sym (repeated_more number node))
