-- Where all checks hold the bytes are a checkpoint.
use Rattle.std.proofs.Common.{◌≡◌, ℕ, ◌+◌, ◌<◌, ◌≤◌, ◌⊎◌, List, [], ◌∷◌, length, map, All, inl, inr, refl, sym, ap, ◌∙◌, subst, arith}
use Rattle.std.specs.Cmp.{IsTotalOrder}
use Rattle.std.specs.List.Sorted.{IsStrictlySortedBy}
use Rattle.std.proofs.lemmas.List.{get_or_default}
use Rattle.std.proofs.lemmas.Cmp.{nat_cmp_total, nat_list_cmp_total, on_total, then_total}
use Rattle.std.proofs.lemmas.List.Elements.{All-nil, All-cons, All-head, All-tail}
use Rattle.std.proofs.lemmas.Map.Keys.{sorted_from_all_adjacent, Less-from_sorted}
use Rattle.cr_model.specs.Problems.{ProblemParts}
use Rattle.cr_model.specs.Callings.{length_of}
use Rattle.cr_model.specs.Queries.{part_cap}
use Rattle.cr_model.specs.Touches.{Kept}
use Rattle.cr_model.specs.Nodes.{IsValid, Independent}
use Rattle.cr_model.specs.Books.{book_order}
use Rattle.cr_model.specs.Checks.{AllHold}
use Rattle.cr_model.specs.Checkpoints.{CanGoOn, CheckFile, versioned_text}
use Rattle.cr_model.specs.ProblemFiles.{ProblemFile}
use Rattle.cr_store.specs.Shapes.{NodeParts, ShapeParts, IsJobLines, HasShape}
use Rattle.cr_store.specs.Lines.{outline_of, node_lines_of, HasItems}
use Rattle.cr_store.specs.Faults.{Follows, item_checks, HasLines}
use Rattle.cr_store.specs.Progress.{Progress, AreJobs, IsMadeOf}
use Rattle.cr_store.proofs.LineReads.{nodes_known}
use Rattle.cr_store.proofs.Printing.{printed}

pub order_total : (p : ProblemParts) → IsTotalOrder (book_order p)
order_total p = then_total (on_total (length_of p) nat_cmp_total) nat_list_cmp_total

-- touches that follow one another are in strict order, and back
pub in_order : (p : ProblemParts) (found : List (List ℕ)) → ((i : ℕ) → i < length found → Follows p found i) → IsStrictlySortedBy (book_order p) found
in_order p found follow = sorted_from_all_adjacent (order_total p) found [] (λ k inside. follow (k + 1) inside k refl)

pub follow_on : (p : ProblemParts) (found : List (List ℕ)) → IsStrictlySortedBy (book_order p) found → (i : ℕ) → i < length found → Follows p found i
follow_on p found ascending i inside before next = Less-from_sorted (book_order p) found before i [] ascending (omega arith) inside

-- no job is empty
filled : (version : ℕ) (lines : List (List NodeParts)) (jobs : List (List (List ℕ))) → All (IsJobLines version) lines → map length jobs ≡ map length lines → All (λ job. 0 < length job) jobs
filled version [] [] are many = All-nil (λ job. 0 < length job)
filled version [] (job ∷ jobs) are many = absurd (cc)
filled version (line ∷ lines) [] are many = absurd (cc)
filled version (line ∷ lines) (job ∷ jobs) are many =
    let long : length job ≡ length line = cc in
    let others : map length jobs ≡ map length lines = cc in
    All-cons (λ j. 0 < length j) job jobs (omega (arith, (All-head (IsJobLines version) line lines are).some)) (filled version lines jobs (All-tail (IsJobLines version) line lines are) others)

module _ (p : ProblemParts) (shape : ShapeParts) (found nodes : List (List ℕ)) (has : HasItems p shape found nodes) (hold : AllHold (item_checks p (outline_of shape) found nodes)) where
  valid : All (IsValid p) nodes
  valid = λ k d inside. record {
    steps = nodes_known p shape.version [] (node_lines_of shape) nodes has.nodes_are k d inside;
    short = subst (λ node. length_of p node ≤ part_cap p) (get_or_default nodes k [] d inside) (hold.0 k inside);
  }

  kept : All (Kept p) found
  kept = λ k d inside. subst (Kept p) (get_or_default found k [] d inside) (hold.1.0 k inside)

  pub goes_on : (jobs : List (List (List ℕ))) → All (IsJobLines shape.version) shape.jobs → AreJobs (map length shape.jobs) nodes jobs → CanGoOn p found jobs
  goes_on jobs some are = record {
    kept = kept;
    ascending = in_order p found hold.1.1.0;
    filled = filled shape.version shape.jobs jobs some are.lengths_are;
    valid = subst (All (IsValid p)) (sym are.nodes_are) valid;
    independent = subst (Independent p found) (sym are.nodes_are) hold.1.1.1.0;
  }

  pub accepted : (bytes : List ℕ) (jobs : List (List (List ℕ))) → HasShape bytes shape → ProblemFile shape.problem p → AreJobs (map length shape.jobs) nodes jobs
      → CheckFile bytes shape.problem p found jobs
  accepted bytes jobs shape_is problem are = record {
    problem = problem;
    is = by shape_is.shape.version;
    goes_on = goes_on jobs shape_is.shape.jobs are;
  }
    where
      text : bytes ≡ versioned_text p shape.version shape.problem found jobs
      text = shape_is.is ∙ printed p shape found nodes jobs has are

      by : (shape.version ≡ 1) ⊎ (shape.version ≡ 2) → (bytes ≡ versioned_text p 2 shape.problem found jobs) ⊎ (bytes ≡ versioned_text p 1 shape.problem found jobs)
      by (inl one) = inr (text ∙ ap (λ v. versioned_text p v shape.problem found jobs) one)
      by (inr two) = inl (text ∙ ap (λ v. versioned_text p v shape.problem found jobs) two)

-- what is made of a shape, of found touches and of nodes is a checkpoint
pub made_accepted : (bytes : List ℕ) (shape : ShapeParts) (p : ProblemParts) (found nodes : List (List ℕ)) (c : Progress) → HasLines bytes shape p found nodes
    → AllHold (item_checks p (outline_of shape) found nodes) → IsMadeOf shape.problem p (map length shape.jobs) found nodes c → CheckFile bytes c.bytes c.problem c.found c.jobs
made_accepted bytes shape p found nodes c lines hold made =
    let file = accepted p shape found nodes lines.items hold bytes c.jobs lines.problem.shape_is lines.problem.problem made.jobs_are in
    subst (λ b. CheckFile bytes b c.problem c.found c.jobs) (sym made.bytes_are) (subst (λ q. CheckFile bytes shape.problem q c.found c.jobs) (sym made.problem_is)
    (subst (λ f. CheckFile bytes shape.problem p f c.jobs) (sym made.found_are) file))
