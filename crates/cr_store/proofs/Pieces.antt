-- A checkpoint in pieces.
use Rattle.std.proofs.Common.{◌≡◌, ℕ, List, [], ◌++◌, length, codes, sym, ap, ap₂, ◌∙◌}
use Rattle.std.specs.Prelude.{flat_map}
use Rattle.std.proofs.lemmas.List.{append_assoc}
use Rattle.std.proofs.lemmas.List.Sorted.{length_permutation}
use Rattle.cr_model.specs.Problems.{ProblemParts}
use Rattle.cr_model.specs.Books.{book_line}
use Rattle.cr_model.specs.Checkpoints.{number_line, job_lines}
use Rattle.cr_book.specs.Pieces.{AreLinesOfFound}
use Rattle.cr_store.specs.Written.{head_text, tail_text, IsTextOfLeft}

-- what stands before the lines of found touches, these lines and what stands behind them are the checkpoint
pub is_checkpoint : (p : ProblemParts) (bytes : List ℕ) (found : List (List ℕ)) (jobs : List (List (List ℕ))) (lines text : List ℕ)
    → AreLinesOfFound p found lines → text ≡ head_text bytes (length found) ++ lines ++ tail_text p jobs → IsTextOfLeft p bytes found jobs text
is_checkpoint p bytes found jobs lines text of is = record {
  book = of.book;
  same = of.same;
  ascending = of.ascending;
  is = is
      ∙ ap₂ (λ n l. head_text bytes n ++ l ++ tail_text p jobs) (sym (length_permutation found of.book of.same)) of.are
      ∙ sym (append_assoc front (number ++ rest) end)
      ∙ ap (λ l. l ++ end) (sym (append_assoc front number rest));
}
  where
    front : List ℕ
    front = head_text bytes (length of.book) ++ flat_map (book_line p) of.book

    number : List ℕ
    number = number_line (codes "jobs") (length jobs)

    rest : List ℕ
    rest = job_lines p 2 [] jobs

    end : List ℕ
    end = codes "end\n"
