-- Inputs have one reading, and inputs that cover the same have one book.
use Rattle.std.proofs.Common.{◌≡◌, ℕ, ◌^◌, ◌<◌, ◌⊎◌, ◌↔◌, nat_eq, codes, List, [], ◌∷◌, length, All, inl, inr, refl, sym, ap, ◌∙◌, subst}
use Rattle.std.proofs.lemmas.List.Elements.{All-head, All-tail}
use Rattle.cr_model.specs.Problems.{ProblemParts}
use Rattle.cr_model.specs.Nodes.{Covers}
use Rattle.cr_model.specs.Books.{IsBook}
use Rattle.std.specs.List.{starts_with}
use Rattle.cr_model.specs.Checkpoints.{CheckFile, IsCheckpoint, versioned_text, nodes_of_jobs}
use Rattle.cr_model.specs.Inputs.{IsResumed, IsFresh, Input, SameCover}
use Rattle.cr_model.specs.ProblemFiles.{ProblemFile}
use Rattle.cr_store.specs.Progress.{Progress}
use Rattle.cr_store.specs.Chains.{AreSame, IsChain, last_text}

abbrev pub OneCheckpoint : Type 0
OneCheckpoint = (bytes : List ℕ) (c other : Progress) → length bytes < 2 ^ 63
    → CheckFile bytes c.bytes c.problem c.found c.jobs → CheckFile bytes other.bytes other.problem other.found other.jobs → c ≡ other

abbrev pub OneProblem : Type 0
OneProblem = (bytes : List ℕ) (one other : ProblemParts) → ProblemFile bytes one → ProblemFile bytes other → one ≡ other

abbrev pub OneBook : Type 0
OneBook = (p : ProblemParts) (found nodes book other : List (List ℕ)) → IsBook p found nodes book → IsBook p found nodes other → book ≡ other

-- inputs that cover the same
pub itself : (text bytes : List ℕ) (p : ProblemParts) (found nodes : List (List ℕ)) → Input text bytes p found nodes → SameCover text text
itself text bytes p found nodes is = record {
  bytes = bytes;
  p = p;
  found = found;
  nodes = nodes;
  other_found = found;
  other_nodes = nodes;
  input = is;
  other_input = is;
  covers = λ calling. (λ h. h, λ h. h);
}

pub turned : (text other : List ℕ) → SameCover text other → SameCover other text
turned text other same = record {
  bytes = same.bytes;
  p = same.p;
  found = same.other_found;
  nodes = same.other_nodes;
  other_found = same.found;
  other_nodes = same.nodes;
  input = same.other_input;
  other_input = same.input;
  covers = λ calling. ((same.covers calling).1, (same.covers calling).0);
}

module _ (one_checkpoint : OneCheckpoint) (one_problem : OneProblem) where
  resumed_one : (text bytes : List ℕ) (p : ProblemParts) (found nodes : List (List ℕ)) (other : List ℕ) (q : ProblemParts) (founds rest : List (List ℕ)) → length text < 2 ^ 63
      → IsResumed text bytes p found nodes → IsResumed text other q founds rest → AreSame bytes p found nodes other q founds rest
  resumed_one text bytes p found nodes other q founds rest few a b =
      let same = one_checkpoint text (record { bytes = bytes; problem = p; found = found; jobs = a.jobs }) (record { bytes = other; problem = q; found = founds; jobs = b.jobs }) few a.file b.file in
      record {
        bytes_are = ap (λ c. c.bytes) same;
        problem_is = ap (λ c. c.problem) same;
        found_are = ap (λ c. c.found) same;
        nodes_are = a.nodes_are ∙ ap (λ c. nodes_of_jobs c.jobs) same ∙ sym b.nodes_are;
      }

  fresh_one : (text bytes : List ℕ) (p : ProblemParts) (found nodes : List (List ℕ)) (other : List ℕ) (q : ProblemParts) (founds rest : List (List ℕ))
      → IsFresh text bytes p found nodes → IsFresh text other q founds rest → AreSame bytes p found nodes other q founds rest
  fresh_one text bytes p found nodes other q founds rest a b = record {
    bytes_are = a.bytes_are ∙ sym b.bytes_are;
    problem_is = one_problem text p q a.file b.file;
    found_are = a.found_are ∙ sym b.found_are;
    nodes_are = a.nodes_are ∙ sym b.nodes_are;
  }

  -- an input has its parts alone
  pub one_input : (text bytes : List ℕ) (p : ProblemParts) (found nodes : List (List ℕ)) (other : List ℕ) (q : ProblemParts) (founds rest : List (List ℕ)) → length text < 2 ^ 63
      → Input text bytes p found nodes → Input text other q founds rest → AreSame bytes p found nodes other q founds rest
  one_input text bytes p found nodes other q founds rest few (inl a) (inl b) = resumed_one text bytes p found nodes other q founds rest few a b
  one_input text bytes p found nodes other q founds rest few (inl a) (inr b) = absurd (b.begins a.begins)
  one_input text bytes p found nodes other q founds rest few (inr a) (inl b) = absurd (a.begins b.begins)
  one_input text bytes p found nodes other q founds rest few (inr a) (inr b) = fresh_one text bytes p found nodes other q founds rest a b

  -- the parts of the first of two inputs that cover the same, with those of the second
  along : (text other bytes : List ℕ) (p : ProblemParts) (found nodes founds rest : List (List ℕ)) → length text < 2 ^ 63 → length other < 2 ^ 63 → SameCover text other
      → Input text bytes p found nodes → Input other bytes p founds rest → (calling : List ℕ) → Covers p found nodes calling ↔ Covers p founds rest calling
  along text other bytes p found nodes founds rest few also same is next calling =
      let first = one_input text same.bytes same.p same.found same.nodes bytes p found nodes few same.input is in
      let second = one_input other same.bytes same.p same.other_found same.other_nodes bytes p founds rest also same.other_input next in
      let C = λ (q : ProblemParts) (f n g r : List (List ℕ)). Covers q f n calling ↔ Covers q g r calling in
      subst (λ r. C p found nodes founds r) second.nodes_are (subst (λ g. C p found nodes g same.other_nodes) second.found_are
      (subst (λ n. C p found n same.other_found same.other_nodes) first.nodes_are (subst (λ f. C p f same.nodes same.other_found same.other_nodes) first.found_are
      (subst (λ q. C q same.found same.nodes same.other_found same.other_nodes) first.problem_is (same.covers calling)))))

  pub followed : (text other third : List ℕ) → length other < 2 ^ 63 → SameCover text other → SameCover other third → SameCover text third
  followed text other third few a b =
      let middle = one_input other a.bytes a.p a.other_found a.other_nodes b.bytes b.p b.found b.nodes few a.other_input b.input in
      record {
        bytes = b.bytes;
        p = b.p;
        found = a.found;
        nodes = a.nodes;
        other_found = b.other_found;
        other_nodes = b.other_nodes;
        input = subst (λ p. Input text b.bytes p a.found a.nodes) middle.problem_is (subst (λ bs. Input text bs a.p a.found a.nodes) middle.bytes_are a.input);
        other_input = b.other_input;
        covers = λ calling.
            let first : Covers b.p a.found a.nodes calling ↔ Covers b.p b.found b.nodes calling =
            subst (λ n. Covers b.p a.found a.nodes calling ↔ Covers b.p b.found n calling) middle.nodes_are
            (subst (λ f. Covers b.p a.found a.nodes calling ↔ Covers b.p f a.other_nodes calling) middle.found_are
            (subst (λ p. Covers p a.found a.nodes calling ↔ Covers p a.other_found a.other_nodes calling) middle.problem_is (a.covers calling))) in
            (λ h. (b.covers calling).0 (first.0 h), λ h. first.1 ((b.covers calling).1 h));
      }

  -- and a chain of them
  pub chained : (text : List ℕ) (texts : List (List ℕ)) → All (λ t. length t < 2 ^ 63) texts → SameCover text text → IsChain text texts → SameCover text (last_text text texts)
  chained text [] few start chain = start
  chained text (next ∷ texts) few start chain =
      followed text next (last_text next texts) (All-head (λ t. length t < 2 ^ 63) next texts few) chain.0
      (chained next texts (All-tail (λ t. length t < 2 ^ 63) next texts few) (itself next chain.0.bytes chain.0.p chain.0.other_found chain.0.other_nodes chain.0.other_input) chain.1)

  -- their books are one
  pub same_book : OneBook → (text other bytes : List ℕ) (p : ProblemParts) (found nodes book : List (List ℕ)) (others : List ℕ) (q : ProblemParts) (founds rest last : List (List ℕ))
      → length text < 2 ^ 63 → length other < 2 ^ 63 → SameCover text other → Input text bytes p found nodes → Input other others q founds rest
      → IsBook p found nodes book → IsBook q founds rest last → book ≡ last
  same_book one_book text other bytes p found nodes book others q founds rest last few also same is next whole after =
      let first = one_input text same.bytes same.p same.found same.nodes bytes p found nodes few same.input is in
      let second = one_input other same.bytes same.p same.other_found same.other_nodes others q founds rest also same.other_input next in
      let problem : q ≡ p = sym second.problem_is ∙ first.problem_is in
      let text_is : others ≡ bytes = sym second.bytes_are ∙ first.bytes_are in
      let moved : Input other bytes p founds rest = subst (λ r. Input other bytes r founds rest) problem (subst (λ bs. Input other bs q founds rest) text_is next) in
      let covers = along text other bytes p found nodes founds rest few also same is moved in
      let book_after : IsBook p founds rest last = subst (λ r. IsBook r founds rest last) problem after in
      one_book p found nodes book last whole (record {
        ascending = book_after.ascending;
        covered = λ calling. (λ h. (covers calling).1 ((book_after.covered calling).0 h), λ h. (book_after.covered calling).1 ((covers calling).0 h));
      })

  -- the last of some texts is short where all are
  last_few : (text : List ℕ) (texts : List (List ℕ)) → All (λ t. length t < 2 ^ 63) (text ∷ texts) → length (last_text text texts) < 2 ^ 63
  last_few text [] few = All-head (λ t. length t < 2 ^ 63) text [] few
  last_few text (next ∷ texts) few = last_few next texts (All-tail (λ t. length t < 2 ^ 63) text (next ∷ texts) few)

  -- the book of the first of a chain is that of its last
  pub ended : OneBook → (text : List ℕ) (texts : List (List ℕ)) (bytes : List ℕ) (p : ProblemParts) (found nodes book : List (List ℕ)) (others : List ℕ) (q : ProblemParts) (founds rest last : List (List ℕ))
      → All (λ t. length t < 2 ^ 63) (text ∷ texts) → IsChain text texts → Input text bytes p found nodes → Input (last_text text texts) others q founds rest
      → IsBook p found nodes book → IsBook q founds rest last → book ≡ last
  ended one_book text texts bytes p found nodes book others q founds rest last few chain is next whole after =
      let same = chained text texts (All-tail (λ t. length t < 2 ^ 63) text texts few) (itself text bytes p found nodes is) chain in
      same_book one_book text (last_text text texts) bytes p found nodes book others q founds rest last (All-head (λ t. length t < 2 ^ 63) text texts few) (last_few text texts few) same is next whole after

-- a checkpoint's text begins as one
text_begins : (version : ℕ) (p : ProblemParts) (bytes : List ℕ) (found : List (List ℕ)) (jobs : List (List (List ℕ))) → IsCheckpoint (versioned_text p version bytes found jobs)
text_begins version p bytes found jobs = refl

pub begins : (text bytes : List ℕ) (p : ProblemParts) (found : List (List ℕ)) (jobs : List (List (List ℕ))) → CheckFile text bytes p found jobs → IsCheckpoint text
begins text bytes p found jobs file = by file.is
  where
    by : (text ≡ versioned_text p 2 bytes found jobs) ⊎ (text ≡ versioned_text p 1 bytes found jobs) → IsCheckpoint text
    by (inl is) = ap (λ t. starts_with nat_eq t (codes "ringsearch checkpoint ")) is ∙ text_begins 2 p bytes found jobs
    by (inr is) = ap (λ t. starts_with nat_eq t (codes "ringsearch checkpoint ")) is ∙ text_begins 1 p bytes found jobs
