-- The text of a shape is the checkpoint of the touches and nodes that its lines are those of.
use Rattle.std.proofs.Common.{◌≡◌, ℕ, Bool, true, false, cond, nat_eq, List, [], ◌∷◌, ◌++◌, length, map, drop, flat_map, codes, decimal, refl, sym, ap, ap₂, ◌∙◌, subst, arith}
use Rattle.std.specs.List.{AllZip}
use Rattle.cr_model.specs.Problems.{ProblemParts}
use Rattle.cr_model.specs.Books.{book_line}
use Rattle.cr_model.specs.Checkpoints.{number_line, steps_text, steps_shared, node_line, node_lines, last_node, job_lines, versioned_text, nodes_of_jobs}
use Rattle.cr_store.specs.Shapes.{FoundParts, NodeParts, ShapeParts, found_text, node_text, job_text, shape_text}
use Rattle.cr_store.specs.Lines.{node_lines_of, IsTouchOf, IsNodeOf, AreNodesOf, HasItems}
use Rattle.cr_store.specs.Progress.{AreJobs}

line_feed : List ℕ
line_feed = codes "\n"

module _ (p : ProblemParts) where
  touch_line : (line : FoundParts) (touch : List ℕ) → IsTouchOf p line touch → found_text line ≡ book_line p touch
  touch_line line touch is = ap₂ (λ n c. decimal n ++ codes " " ++ c ++ codes "\n") is.long (sym is.calling.is)

  touch_lines : (lines : List FoundParts) (found : List (List ℕ)) → AllZip (IsTouchOf p) lines found → flat_map found_text lines ≡ flat_map (book_line p) found
  touch_lines [] [] are = refl
  touch_lines [] (touch ∷ found) are = absurd are
  touch_lines (line ∷ lines) [] are = absurd are
  touch_lines (line ∷ lines) (touch ∷ found) are = ap₂ ◌++◌ (touch_line line touch are.0) (touch_lines lines found are.1)

  as_many_touches : (lines : List FoundParts) (found : List (List ℕ)) → AllZip (IsTouchOf p) lines found → length lines ≡ length found
  as_many_touches [] [] are = refl
  as_many_touches [] (touch ∷ found) are = absurd are
  as_many_touches (line ∷ lines) [] are = absurd are
  as_many_touches (line ∷ lines) (touch ∷ found) are = omega (arith, as_many_touches lines found are.1)

  node_line_is : (version : ℕ) (before : List ℕ) (line : NodeParts) (node : List ℕ) → IsNodeOf p version before line node → node_text version line ≡ node_line p version before node
  node_line_is version before line node is = by (nat_eq version 1) is.shared is.rest
    where
      some : ℕ
      some = steps_shared before node

      by : (b : Bool) → line.shared ≡ cond b 0 (steps_shared before node) → line.steps ≡ steps_text p (drop (cond b 0 (steps_shared before node)) node)
          → cond b (line.steps ++ codes "\n") (decimal line.shared ++ codes " " ++ line.steps ++ codes "\n")
          ≡ cond b (steps_text p node ++ codes "\n") (decimal (steps_shared before node) ++ codes " " ++ steps_text p (drop (steps_shared before node) node) ++ codes "\n")
      by true shared rest = ap (λ t. t ++ codes "\n") rest
      by false shared rest = ap₂ (λ n t. decimal n ++ codes " " ++ t ++ codes "\n") shared rest

  nodes_lines : (version : ℕ) (before : List ℕ) (lines : List NodeParts) (nodes : List (List ℕ)) → AreNodesOf p version before lines nodes
      → flat_map (node_text version) lines ≡ node_lines p version before nodes
  nodes_lines version before [] [] are = refl
  nodes_lines version before [] (node ∷ nodes) are = absurd (cc)
  nodes_lines version before (line ∷ lines) [] are = absurd are
  nodes_lines version before (line ∷ lines) (node ∷ nodes) are = ap₂ ◌++◌ (node_line_is version before line node are.0) (nodes_lines version node lines nodes are.1)

  -- the nodes of some lines, and those of the lines after them
  pub apart : (version : ℕ) (before : List ℕ) (lines : List NodeParts) (nodes : List (List ℕ)) (others : List NodeParts) (more : List (List ℕ)) → length nodes ≡ length lines
      → AreNodesOf p version before (lines ++ others) (nodes ++ more) → AreNodesOf p version before lines nodes × AreNodesOf p version (last_node before nodes) others more
  apart version before [] [] others more many are = (refl, are)
  apart version before [] (node ∷ nodes) others more many are = absurd (omega arith)
  apart version before (line ∷ lines) [] others more many are = absurd (omega arith)
  apart version before (line ∷ lines) (node ∷ nodes) others more many are =
      let (first, later) = apart version node lines nodes others more (omega arith) are.1 in ((are.0, first), later)

  jobs_lines : (version : ℕ) (before : List ℕ) (lines : List (List NodeParts)) (jobs : List (List (List ℕ))) → map length jobs ≡ map length lines
      → AreNodesOf p version before (flat_map (λ job. job) lines) (nodes_of_jobs jobs) → flat_map (job_text version) lines ≡ job_lines p version before jobs
  jobs_lines version before [] [] many are = refl
  jobs_lines version before [] (job ∷ jobs) many are = absurd (cc)
  jobs_lines version before (line ∷ lines) [] many are = absurd (cc)
  jobs_lines version before (line ∷ lines) (job ∷ jobs) many are =
      let long : length job ≡ length line = cc in
      let others : map length jobs ≡ map length lines = cc in
      let (first, later) = apart version before line job (flat_map (λ j. j) lines) (nodes_of_jobs jobs) long are in
      ap₂ ◌++◌ (ap₂ (λ n nodes. number_line (codes "job") n ++ nodes) (sym long) (nodes_lines version before line job first)) (jobs_lines version (last_node before job) lines jobs others later)

  as_many_jobs : (lines : List (List NodeParts)) (jobs : List (List (List ℕ))) → map length jobs ≡ map length lines → length lines ≡ length jobs
  as_many_jobs [] [] many = refl
  as_many_jobs [] (job ∷ jobs) many = absurd (cc)
  as_many_jobs (line ∷ lines) [] many = absurd (cc)
  as_many_jobs (line ∷ lines) (job ∷ jobs) many = let others : map length jobs ≡ map length lines = cc in omega (arith, as_many_jobs lines jobs others)

  -- the text from its counts and lines
  abbrev text_from : ℕ → List ℕ → ℕ → List ℕ → ℕ → List ℕ → List ℕ
  text_from version bytes touches found number jobs = number_line (codes "ringsearch checkpoint") version
      ++ number_line (codes "problem") (length bytes) ++ bytes ++ codes "\n"
      ++ number_line (codes "found") touches ++ found ++ number_line (codes "jobs") number ++ jobs ++ codes "end\n"

  pub printed : (shape : ShapeParts) (found nodes : List (List ℕ)) (jobs : List (List (List ℕ))) → HasItems p shape found nodes → AreJobs (map length shape.jobs) nodes jobs
      → shape_text shape ≡ versioned_text p shape.version shape.problem found jobs
  printed shape found nodes jobs has are =
      let text = text_from shape.version shape.problem in
      let jobs_are = jobs_lines shape.version [] shape.jobs jobs are.lengths_are
      (subst (λ ns. AreNodesOf p shape.version [] (node_lines_of shape) ns) (sym are.nodes_are) has.nodes_are) in
      ap₂ (λ n f. text n f (length shape.jobs) (flat_map (job_text shape.version) shape.jobs)) (as_many_touches shape.found found has.touches_are) (touch_lines shape.found found has.touches_are)
      ∙ ap₂ (λ n j. text (length found) (flat_map (book_line p) found) n j) (as_many_jobs shape.jobs jobs are.lengths_are) jobs_are
