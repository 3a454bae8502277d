-- The book or the checkpoint of a search that went on until no job was left or the turns that are allowed were used.
use Rattle.std.proofs.Common.{◌≡◌, ℕ, zero, suc, ◌<◌, ◌⊎◌, List, [], ◌∷◌, length, Option, Some, None, inl, inr, refl, sym, ap, ◌∙◌, subst, arith}
use Rattle.std.specs.Prelude.{All}
use Rattle.std.specs.List.Sorted.{IsPermutation, IsSorted}
use Rattle.cr_model.specs.Problems.{ProblemParts}
use Rattle.cr_model.specs.Books.{IsBook, book_order}
use Rattle.cr_model.specs.Sizes.{most_rows, size_of_all}
use Rattle.cr_model.specs.ProblemFiles.{ProblemFile}
use Rattle.cr_node.specs.Work.{IsJob}
use Rattle.cr_model.specs.Checkpoints.{CanGoOn, CheckFile, IsCheckpoint, checkpoint_text, nodes_of_jobs}
use Rattle.cr_trail.specs.Runs.{size_of_jobs, KeepsTo, RunsTo}
use Rattle.cr_top.specs.Runs.{StopsAfter}
use Rattle.cr_book.specs.Pieces.{IsTextOfFound}
use Rattle.cr_top.specs.Texts.{IsBookOf, IsStopOf, IsReached, IsTextAfter, IsStopText, GoesOnOrdered, CoversOrdered}
use Rattle.cr_top.specs.Starts.{IsStart}
use Rattle.cr_trail.proofs.Going.{FoundWhole, CoveredOnce, book_found, none_ascend, some_jobs}

-- a checkpoint's text begins as one
pub checkpoint_begins : (p : ProblemParts) (bytes text : List ℕ) (found : List (List ℕ)) (jobs : List (List (List ℕ)))
    → text ≡ checkpoint_text p bytes found jobs → IsCheckpoint text
checkpoint_begins p bytes text found jobs is = subst IsCheckpoint (sym is) refl

module _ (input bytes : List ℕ) (p : ProblemParts) (found : List (List ℕ)) (jobs : List (List (List ℕ))) (turns : Option ℕ)
    (now : List (List ℕ)) (left : List (List (List ℕ))) (start : IsStart input bytes p found jobs) (run : RunsTo p found jobs turns now left) where
  -- where no job is left
  pub finished : FoundWhole → CoveredOnce → ((p : ProblemParts) (most : ℕ) → size_of_all p most [] ≡ 0) → (text : List ℕ)
      → left ≡ [] → IsTextOfFound p now text → IsBookOf turns input text
  finished law once nothing text none is = record {
    bytes = bytes;
    p = p;
    found = found;
    nodes = nodes_of_jobs jobs;
    of_input = start.of_input;
    keeps = subst (KeepsTo turns) whole run.keeps;
    book = is.book;
    is_book = book_found law once p found jobs now left run.used run.way none is.book is.same is.ascending;
    is = is.is;
  }
    where
      whole : run.used ≡ size_of_jobs p jobs
      whole = omega (arith, run.way.nodes.size, ap (size_of_jobs p) none, nothing p most_rows)

  -- where some job is
  pub stopped : (text : List ℕ) (after : ℕ) → (left ≡ [] → ⊥) → turns ≡ Some after → IsStopText p bytes now left text
      → IsStopOf after input text
  stopped text after some allowed is = record {
    same = record {
      bytes = bytes;
      p = p;
      found = found;
      nodes = nodes_of_jobs jobs;
      other_found = is.ordered;
      other_nodes = nodes_of_jobs left;
      input = start.of_input;
      other_input = inl (record {
        begins = checkpoint_begins p bytes text is.ordered left is.is;
        jobs = left;
        file = record { problem = start.file; is = inl is.is; goes_on = is.goes_on found jobs run.used run.way };
        nodes_are = refl;
      });
      covers = λ calling. let both = is.covers found jobs run.used run.way calling in (both.1, both.0);
    };
    jobs = left;
    nodes_are = refl;
    is = is.is;
    some = some_jobs left run.way.filled some;
    size = omega (arith, run.way.nodes.size, used);
  }
    where
      used : run.used ≡ after
      used = elim run.ends [
        | inl none ↦ absurd (some none)
        | inr is ↦ let same : Some run.used ≡ Some after = sym is ∙ allowed in cc
      ]

-- where any number of turns is allowed, no job is left
pub all_done : (p : ProblemParts) (found : List (List ℕ)) (jobs : List (List (List ℕ))) (now : List (List ℕ)) (left : List (List (List ℕ)))
    → RunsTo p found jobs None now left → left ≡ []
all_done p found jobs now left run = elim run.ends [
  | inl none ↦ none
  | inr some ↦ absurd (cc)
]

module _ (input bytes : List ℕ) (p : ProblemParts) (found : List (List ℕ)) (jobs : List (List (List ℕ))) (turns : Option ℕ)
    (now : List (List ℕ)) (left : List (List (List ℕ))) (start : IsStart input bytes p found jobs) (run : RunsTo p found jobs turns now left)
    (law : FoundWhole) (once : CoveredOnce) (nothing : (p : ProblemParts) (most : ℕ) → size_of_all p most [] ≡ 0) where
  none_left : (left ≡ []) ⊎ (turns ≡ None) → left ≡ []
  none_left (inl none) = none
  none_left (inr all) = all_done p found jobs now left (subst (λ ts. RunsTo p found jobs ts now left) all run)

  pub reached : (text : List ℕ) (stopped : Option ℕ) → StopsAfter left turns stopped → IsTextAfter p bytes now left stopped text
      → IsReached turns input text stopped
  reached text None stops is = finished input bytes p found jobs turns now left start run law once nothing text (none_left stops) is
  reached text (Some after) stops is = (stops.1, stopped input bytes p found jobs turns now left start run text after stops.0 stops.1 is)

-- the checkpoint of what is left and in order
pub stop_text : (p : ProblemParts) (bytes : List ℕ) (found : List (List ℕ)) (jobs : List (List (List ℕ))) (ordered : List (List ℕ))
    (left : List (List (List ℕ))) (text : List ℕ) → left ≡ jobs → GoesOnOrdered p found jobs ordered left → CoversOrdered p found jobs ordered left
    → text ≡ checkpoint_text p bytes ordered left → IsStopText p bytes found jobs text
stop_text p bytes found jobs ordered left text same on covers is = record {
  ordered = ordered;
  goes_on = subst (GoesOnOrdered p found jobs ordered) same on;
  covers = subst (CoversOrdered p found jobs ordered) same covers;
  is = is ∙ ap (checkpoint_text p bytes ordered) same;
}

-- a search that has not begun goes on from the root
root_filled : All (λ (job : List (List ℕ)). 0 < length job) (([] ∷ []) ∷ [])
root_filled zero d within = omega arith
root_filled (suc k) d within = absurd (omega (arith, within))

pub begun_goes_on : (p : ProblemParts) (found : List (List ℕ)) (jobs : List (List (List ℕ))) → IsJob p ([] ∷ []) → found ≡ []
    → jobs ≡ ([] ∷ []) ∷ [] → CanGoOn p found jobs
begun_goes_on p found jobs job none root = subst (λ f. CanGoOn p f jobs) (sym none) (subst (CanGoOn p []) (sym root) (record {
  kept = λ k d within. absurd (omega (arith, within));
  ascending = none_ascend (book_order p);
  filled = root_filled;
  valid = job.valid;
  independent = job.independent;
}))

-- a problem's file is an input of which nothing was found and the root is left
pub fresh_start : (input : List ℕ) (p : ProblemParts) (found : List (List ℕ)) (jobs : List (List (List ℕ))) → (IsCheckpoint input → ⊥)
    → ProblemFile input p → CanGoOn p found jobs → found ≡ [] → jobs ≡ ([] ∷ []) ∷ [] → IsStart input input p found jobs
fresh_start input p found jobs begins file on none root = record {
  says = inr (begins, refl, file, none, root);
  of_input = inr (record { begins = begins; bytes_are = refl; file = file; found_are = none; nodes_are = ap nodes_of_jobs root });
  file = file;
  goes_on = on;
}

-- a checkpoint is one of what stands in it
pub resumed_start : (input bytes : List ℕ) (p : ProblemParts) (found : List (List ℕ)) (jobs : List (List (List ℕ))) → IsCheckpoint input
    → CheckFile input bytes p found jobs → IsStart input bytes p found jobs
resumed_start input bytes p found jobs begins file = record {
  says = inl (begins, file);
  of_input = inl (record { begins = begins; jobs = jobs; file = file; nodes_are = refl });
  file = file.problem;
  goes_on = file.goes_on;
}

-- the book of a search of all that a problem wants
pub whole_book : FoundWhole → CoveredOnce → (p : ProblemParts) (now : List (List ℕ)) (left : List (List (List ℕ)))
    → RunsTo p [] (([] ∷ []) ∷ []) None now left → (book : List (List ℕ)) → IsPermutation now book → IsSorted (book_order p) book
    → IsBook p [] ([] ∷ []) book
whole_book law once p now left run book same up =
    book_found law once p [] (([] ∷ []) ∷ []) now left run.used run.way (all_done p [] (([] ∷ []) ∷ []) now left run) book same up
