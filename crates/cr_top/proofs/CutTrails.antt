-- The book of what is left of a trail.
use Rattle.std.proofs.Common.{ℕ, ◌^◌, ◌<◌, List, [], ◌∷◌, length, None, ap, ◌∙◌, subst}
use Rattle.cr_model.specs.Problems.{ProblemParts}
use Rattle.cr_model.specs.Books.{IsBook, book_text}
use Rattle.cr_model.specs.Inputs.{Input, SameCover}
use Rattle.cr_store.specs.Chains.{AreSame, last_text}
use Rattle.cr_trail.specs.Taken.{IsTakenFrom, AreTaken}
use Rattle.cr_top.specs.Texts.{IsBookOf}

-- what the law on an input's parts says
abbrev pub Alone : Type 0
Alone = (text bytes : List ℕ) (p : ProblemParts) (found nodes : List (List ℕ)) (other : List ℕ) (q : ProblemParts) (founds rest : List (List ℕ))
    → length text < 2 ^ 63 → Input text bytes p found nodes → Input text other q founds rest → AreSame bytes p found nodes other q founds rest

-- inputs that cover the same have one book
pub book_of_same : Alone → (input other text : List ℕ) → SameCover input other → length other < 2 ^ 63 → IsBookOf None other text → IsBookOf None input text
book_of_same alone input other text same short made = record {
  bytes = same.bytes;
  p = same.p;
  found = same.found;
  nodes = same.nodes;
  of_input = same.input;
  keeps = tt;
  book = made.book;
  is_book = record {
    ascending = book.ascending;
    covered = λ calling. let here = book.covered calling in let there = same.covers calling in
        (λ stands. there.1 (here.0 stands), λ covered. here.1 (there.0 covered));
  };
  is = made.is ∙ ap (λ q. book_text q made.book) parts.problem_is;
}
  where
    parts : AreSame made.bytes made.p made.found made.nodes same.bytes same.p same.other_found same.other_nodes
    parts = alone other made.bytes made.p made.found made.nodes same.bytes same.p same.other_found same.other_nodes short made.of_input same.other_input

    book : IsBook same.p same.other_found same.other_nodes made.book
    book = subst (λ ns. IsBook same.p same.other_found ns made.book) parts.nodes_are
        (subst (λ fs. IsBook same.p fs made.nodes made.book) parts.found_are
        (subst (λ q. IsBook q made.found made.nodes made.book) parts.problem_is made.is_book))

module _ (covers : (input text : List ℕ) → IsTakenFrom input text → SameCover input text) (short : (input text : List ℕ) → IsTakenFrom input text → length text < 2 ^ 63)
    (alone : Alone) where
  pub taken_has_book : (input text book : List ℕ) → IsTakenFrom input text → IsBookOf None text book → IsBookOf None input book
  taken_has_book input text book taken made = book_of_same alone input text book (covers input text taken) (short input text taken) made

  pub all_taken_have_book : (input : List ℕ) (texts : List (List ℕ)) (book : List ℕ) → AreTaken input texts → IsBookOf None (last_text input texts) book
      → IsBookOf None input book
  all_taken_have_book input [] book taken made = made
  all_taken_have_book input (next ∷ texts) book taken made =
      taken_has_book input next book taken.0 (all_taken_have_book next texts book taken.1 made)
