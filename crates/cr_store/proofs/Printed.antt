-- A checkpoint has a shape, whose lines are those of its touches and nodes.
use Rattle.std.proofs.Common.{◌≡◌, ◌≢◌, ℕ, ◌+◌, ◌^◌, ◌<◌, ◌≤◌, ◌⊎◌, Bool, true, false, cond, nat_eq, nat_lt, List, [], ◌∷◌, ◌++◌, length, map, drop, flat_map, codes, decimal, All, inl, inr, refl, sym, ap, ap₂, ◌∙◌, subst, arith, length-append}
use Rattle.std.specs.List.{AllZip, list_all}
use Rattle.std.proofs.lemmas.List.Folds.{list_all-append}
use Rattle.std.proofs.lemmas.Bool.Decides.{nat_tests}
use Rattle.std.proofs.lemmas.Bool.{and_from}
use Rattle.std.proofs.lemmas.List.Elements.{All-nil, All-cons, All-head, All-tail, All-take, All-drop}
use Rattle.std.proofs.lemmas.List.{take_at, drop_at, length-map}
use Rattle.cr_model.specs.Problems.{ProblemParts}
use Rattle.cr_model.specs.Callings.{HasSteps, length_of, method_of, mark_of, letter_of}
use Rattle.cr_model.specs.Touches.{Kept}
use Rattle.cr_model.specs.Nodes.{IsValid}
use Rattle.cr_model.specs.Books.{lead_text, calling_text, book_line}
use Rattle.cr_model.specs.Checkpoints.{CheckFile, number_line, steps_text, steps_shared, node_line, node_lines, job_lines, last_node, versioned_text, nodes_of_jobs}
use Rattle.cr_model.specs.Checks.{AllHold}
use Rattle.cr_model.specs.Sound.{IsSound, sound_leads, sound_letters}
use Rattle.cr_store.specs.Shapes.{FoundParts, NodeParts, ShapeParts, is_letter, AreLetters, AreSteps, IsFoundLine, IsNodeLine, IsJobLines, HasShape}
use Rattle.cr_store.specs.Lines.{outline_of, left_out, IsTouchOf, IsNodeOf, AreNodesOf, HasItems}
use Rattle.cr_store.specs.Faults.{item_checks}
use Rattle.cr_store.specs.Progress.{Progress, AreJobs}
use Rattle.cr_store.proofs.Shortness.{few_leads, few_steps, cap_few}
use Rattle.cr_store.proofs.StepTexts.{left_shared}
use Rattle.cr_store.proofs.LineReads.{joined}
use Rattle.cr_store.proofs.Printing.{printed}
use Rattle.cr_store.proofs.Accepting.{follow_on}

-- a letter `A` to `Z`, or `a` to `z`
upper : (x : ℕ) → 65 ≤ x → x ≤ 90 → is_letter x ≡ true
upper x low high = grind (arith, nat_tests)

lower : (x : ℕ) → 97 ≤ x → x ≤ 122 → is_letter x ≡ true
lower x low high = grind (arith, nat_tests)

module _ (p : ProblemParts) (sound : IsSound p) where
  mark_letter : (step : ℕ) → step < length p.leads → is_letter (mark_of p step) ≡ true
  mark_letter step inside = let right = (sound_leads p sound).each step inside in lower (mark_of p step) right.from right.to

  method_letter : (step : ℕ) → step < length p.leads → is_letter (letter_of p step) ≡ true
  method_letter step inside =
      let right = (sound_letters p sound).each (method_of p step) ((sound_leads p sound).each step inside).known in
      upper (letter_of p step) right.from right.to

  lead_letters : (step : ℕ) → step < length p.leads → (list_all is_letter (lead_text p step) ≡ true) × (0 < length (lead_text p step))
  lead_letters step inside = by (nat_lt 1 (length p.letters))
    where
      mark : list_all is_letter (mark_of p step ∷ []) ≡ true
      mark = and_from (is_letter (mark_of p step)) true (mark_letter step inside) refl

      by : (b : Bool) → (list_all is_letter (cond b (letter_of p step ∷ mark_of p step ∷ []) (mark_of p step ∷ [])) ≡ true)
          × (0 < length (cond b (letter_of p step ∷ mark_of p step ∷ []) (mark_of p step ∷ [])))
      by true = (and_from (is_letter (letter_of p step)) (list_all is_letter (mark_of p step ∷ [])) (method_letter step inside) mark, omega arith)
      by false = (mark, omega arith)

  all_letters : (calling : List ℕ) → HasSteps p calling → list_all is_letter (calling_text p calling) ≡ true
  all_letters [] steps = refl
  all_letters (step ∷ calling) steps =
      list_all-append is_letter (lead_text p step) (calling_text p calling)
      ∙ and_from (list_all is_letter (lead_text p step)) (list_all is_letter (calling_text p calling))
      (lead_letters step (All-head (λ s. s < length p.leads) step calling steps)).0
      (all_letters calling (All-tail (λ s. s < length p.leads) step calling steps))

  letters : (step : ℕ) (calling : List ℕ) → HasSteps p (step ∷ calling) → AreLetters (calling_text p (step ∷ calling))
  letters step calling steps = record {
    some = omega (arith, (lead_letters step (All-head (λ s. s < length p.leads) step calling steps)).1, length-append (lead_text p step) (calling_text p calling));
    letters = all_letters (step ∷ calling) steps;
  }

  steps_are : (steps : List ℕ) → HasSteps p steps → AreSteps (steps_text p steps)
  steps_are [] known = inl refl
  steps_are (step ∷ steps) known = inr (letters step steps known)

-- the lines of touches and of nodes
abbrev touch_parts : ProblemParts → List ℕ → FoundParts
touch_parts p touch = record { length = length_of p touch; calling = calling_text p touch }

abbrev node_parts : ProblemParts → ℕ → List ℕ → List ℕ → NodeParts
node_parts p version before node = record { shared = left_out version before node; steps = steps_text p (drop (left_out version before node) node) }

abbrev nodes_parts : ProblemParts → ℕ → List ℕ → List (List ℕ) → List NodeParts
nodes_parts p version before [] = []
nodes_parts p version before (node ∷ nodes) = node_parts p version before node ∷ nodes_parts p version node nodes

abbrev jobs_parts : ProblemParts → ℕ → List ℕ → List (List (List ℕ)) → List (List NodeParts)
jobs_parts p version before [] = []
jobs_parts p version before (job ∷ jobs) = nodes_parts p version before job ∷ jobs_parts p version (last_node before job) jobs

abbrev shape_of : ProblemParts → ℕ → List ℕ → List (List ℕ) → List (List (List ℕ)) → ShapeParts
shape_of p version bytes found jobs = record { version = version; problem = bytes; found = map (touch_parts p) found; jobs = jobs_parts p version [] jobs }

some_leads : (calling : List ℕ) → calling ≢ [] → 1 ≤ length calling
some_leads [] some = absurd (some refl)
some_leads (step ∷ calling) some = omega arith

module _ (p : ProblemParts) (sound : IsSound p) where
  touch_is : (touch : List ℕ) → Kept p touch → IsTouchOf p (touch_parts p touch) touch
  touch_is touch kept = record {
    calling = record {
      readable = record {
        steps = kept.wanted.steps;
        some = some_leads touch kept.wanted.touch.some;
        few = few_leads p sound touch kept.wanted.steps kept.wanted.meets.short;
      };
      is = refl;
    };
    long = refl;
    parts = kept.wanted.meets.parts;
  }

  touches_are : (found : List (List ℕ)) → All (Kept p) found → AllZip (IsTouchOf p) (map (touch_parts p) found) found
  touches_are [] kept = tt
  touches_are (touch ∷ found) kept = (touch_is touch (All-head (Kept p) touch found kept), touches_are found (All-tail (Kept p) touch found kept))

  touch_line_is : (touch : List ℕ) → Kept p touch → IsFoundLine (touch_parts p touch)
  touch_line_is [] kept = absurd (kept.wanted.touch.some refl)
  touch_line_is (step ∷ touch) kept = record {
    length = omega (arith, kept.wanted.meets.short, cap_few p sound);
    calling = letters p sound step touch kept.wanted.steps;
  }

  touch_lines_are : (found : List (List ℕ)) → All (Kept p) found → All IsFoundLine (map (touch_parts p) found)
  touch_lines_are [] kept = All-nil IsFoundLine
  touch_lines_are (touch ∷ found) kept =
      All-cons IsFoundLine (touch_parts p touch) (map (touch_parts p) found) (touch_line_is touch (All-head (Kept p) touch found kept)) (touch_lines_are found (All-tail (Kept p) touch found kept))

-- what holds of all of two lists holds of all of each
All-front : {X : Type 0} (P : X → Type 0) (xs ys : List X) → All P (xs ++ ys) → All P xs
All-front P xs ys all = subst (All P) (take_at xs ys (length xs) refl) (All-take P (length xs) (xs ++ ys) all)

All-back : {X : Type 0} (P : X → Type 0) (xs ys : List X) → All P (xs ++ ys) → All P ys
All-back P xs ys all = subst (All P) (drop_at xs ys (length xs) refl) (All-drop P (length xs) (xs ++ ys) all)

module _ (p : ProblemParts) (sound : IsSound p) (version : ℕ) where
  node_is : (before node : List ℕ) → IsValid p node → IsNodeOf p version before (node_parts p version before node) node
  node_is before node valid = record { steps = valid.steps; few = few_steps p sound node valid.steps valid.short; shared = refl; rest = refl }

  nodes_are : (before : List ℕ) (nodes : List (List ℕ)) → All (IsValid p) nodes → AreNodesOf p version before (nodes_parts p version before nodes) nodes
  nodes_are before [] valid = refl
  nodes_are before (node ∷ nodes) valid = (node_is before node (All-head (IsValid p) node nodes valid), nodes_are node nodes (All-tail (IsValid p) node nodes valid))

  jobs_are : (before : List ℕ) (jobs : List (List (List ℕ))) → All (IsValid p) (nodes_of_jobs jobs)
      → AreNodesOf p version before (flat_map (λ job. job) (jobs_parts p version before jobs)) (nodes_of_jobs jobs)
  jobs_are before [] valid = refl
  jobs_are before (job ∷ jobs) valid =
      joined p version before (nodes_parts p version before job) job (flat_map (λ j. j) (jobs_parts p version (last_node before job) jobs)) (nodes_of_jobs jobs)
      (nodes_are before job (All-front (IsValid p) job (nodes_of_jobs jobs) valid)) (jobs_are (last_node before job) jobs (All-back (IsValid p) job (nodes_of_jobs jobs) valid))

  as_long : (before : List ℕ) (nodes : List (List ℕ)) → length nodes ≡ length (nodes_parts p version before nodes)
  as_long before [] = refl
  as_long before (node ∷ nodes) = omega (arith, as_long node nodes)

  lengths_are : (before : List ℕ) (jobs : List (List (List ℕ))) → map length jobs ≡ map length (jobs_parts p version before jobs)
  lengths_are before [] = refl
  lengths_are before (job ∷ jobs) = ap₂ ◌∷◌ (as_long before job) (lengths_are (last_node before job) jobs)

  node_line_right : (before node : List ℕ) → IsValid p node → IsNodeLine version (node_parts p version before node)
  node_line_right before node valid = record {
    shared = omega (arith, (left_shared version before node).fits, few_steps p sound node valid.steps valid.short);
    alone = λ first. ap (λ v. left_out v before node) first;
    steps = steps_are p sound (drop (left_out version before node) node) (All-drop (λ s. s < length p.leads) (left_out version before node) node valid.steps);
  }

  node_lines_right : (before : List ℕ) (nodes : List (List ℕ)) → All (IsValid p) nodes → All (IsNodeLine version) (nodes_parts p version before nodes)
  node_lines_right before [] valid = All-nil (IsNodeLine version)
  node_lines_right before (node ∷ nodes) valid =
      All-cons (IsNodeLine version) (node_parts p version before node) (nodes_parts p version node nodes)
      (node_line_right before node (All-head (IsValid p) node nodes valid)) (node_lines_right node nodes (All-tail (IsValid p) node nodes valid))

  -- each line has a byte or more
  long_line : (before node : List ℕ) → 1 ≤ length (node_line p version before node)
  long_line before node = by (nat_eq version 1)
    where
      by : (b : Bool) → 1 ≤ length (cond b (steps_text p node ++ codes "\n") (decimal (steps_shared before node) ++ codes " " ++ steps_text p (drop (steps_shared before node) node) ++ codes "\n"))
      by true = simp length-append (omega arith)
      by false = simp length-append (omega arith)

  long_nodes : (before : List ℕ) (nodes : List (List ℕ)) → length nodes ≤ length (node_lines p version before nodes)
  long_nodes before [] = omega arith
  long_nodes before (node ∷ nodes) = omega (arith, long_line before node, length-append (node_line p version before node) (node_lines p version node nodes), long_nodes node nodes)

  -- the length of the lines of a job and of those after it
  long_job : (before : List ℕ) (job : List (List ℕ)) (jobs : List (List (List ℕ)))
      → length (number_line (codes "job") (length job)) + (length (node_lines p version before job) + length (job_lines p version (last_node before job) jobs)) ≡ length (job_lines p version before (job ∷ jobs))
  long_job before job jobs =
      let line = number_line (codes "job") (length job) in
      let nodes = node_lines p version before job in
      let rest = job_lines p version (last_node before job) jobs in
      omega (arith, length-append (line ++ nodes) rest, length-append line nodes)

  long_count : (name : List ℕ) (number : ℕ) → 1 ≤ length (number_line name number)
  long_count name number = simp length-append (omega arith)

  long_jobs : (before : List ℕ) (jobs : List (List (List ℕ))) → length jobs ≤ length (job_lines p version before jobs)
  long_jobs before [] = omega arith
  long_jobs before (job ∷ jobs) = omega (arith, long_job before job jobs, long_count (codes "job") (length job), long_jobs (last_node before job) jobs)

  job_lines_right : (before : List ℕ) (jobs : List (List (List ℕ))) → All (λ job. 0 < length job) jobs → All (IsValid p) (nodes_of_jobs jobs)
      → length (job_lines p version before jobs) < 2 ^ 63 → All (IsJobLines version) (jobs_parts p version before jobs)
  job_lines_right before [] some valid few = All-nil (IsJobLines version)
  job_lines_right before (job ∷ jobs) some valid few =
      All-cons (IsJobLines version) (nodes_parts p version before job) (jobs_parts p version (last_node before job) jobs)
      (record {
        some = omega (arith, as_long before job, All-head (λ j. 0 < length j) job jobs some);
        few = omega (arith, as_long before job, long_nodes before job, long_job before job jobs, few);
        nodes = node_lines_right before job (All-front (IsValid p) job (nodes_of_jobs jobs) valid);
      })
      (job_lines_right (last_node before job) jobs (All-tail (λ j. 0 < length j) job jobs some) (All-back (IsValid p) job (nodes_of_jobs jobs) valid)
      (omega (arith, long_job before job jobs, few)))

long_touch : (p : ProblemParts) (touch : List ℕ) → 1 ≤ length (book_line p touch)
long_touch p touch =
    simp length-append (omega arith)

long_touches : (p : ProblemParts) (found : List (List ℕ)) → length found ≤ length (flat_map (book_line p) found)
long_touches p [] = omega arith
long_touches p (touch ∷ found) = omega (arith, long_touch p touch, length-append (book_line p touch) (flat_map (book_line p) found), long_touches p found)

-- no part of nine is longer than the whole
long_parts : (a b c d e f g h i : List ℕ)
    → length (a ++ b ++ c ++ d ++ e ++ f ++ g ++ h ++ i) ≡ length a + length b + length c + length d + length e + length f + length g + length h + length i
long_parts a b c d e f g h i = simp length-append

-- what a checkpoint is
pub record IsPrinted (bytes : List ℕ) (c : Progress) : Type 0 where
  pub shape : ShapeParts
  pub shape_is : HasShape bytes shape
  pub bytes_are : shape.problem ≡ c.bytes
  pub items : HasItems c.problem shape c.found (nodes_of_jobs c.jobs)
  pub jobs : AreJobs (map length shape.jobs) (nodes_of_jobs c.jobs) c.jobs
  pub hold : AllHold (item_checks c.problem (outline_of shape) c.found (nodes_of_jobs c.jobs))

module _ (bytes : List ℕ) (c : Progress) (few : length bytes < 2 ^ 63) (file : CheckFile bytes c.bytes c.problem c.found c.jobs) where
  with_version : (version : ℕ) → (version ≡ 1) ⊎ (version ≡ 2) → bytes ≡ versioned_text c.problem version c.bytes c.found c.jobs → IsPrinted bytes c
  with_version version known is =
      let p = c.problem in
      let sound = file.problem.sound in
      let goes = file.goes_on in
      let found = flat_map (book_line p) c.found in
      let jobs = job_lines p version [] c.jobs in
      let whole = ap length is ∙ long_parts (number_line (codes "ringsearch checkpoint") version) (number_line (codes "problem") (length c.bytes)) c.bytes (codes "\n")
      (number_line (codes "found") (length c.found)) found (number_line (codes "jobs") (length c.jobs)) jobs (codes "end\n") in
      let shape : ShapeParts = shape_of p version c.bytes c.found c.jobs in
      let has : HasItems p shape c.found (nodes_of_jobs c.jobs) = record { touches_are = touches_are p sound c.found goes.kept; nodes_are = jobs_are p sound version [] c.jobs goes.valid } in
      let are : AreJobs (map length shape.jobs) (nodes_of_jobs c.jobs) c.jobs = record { nodes_are = refl; lengths_are = lengths_are p sound version [] c.jobs } in
      record {
        shape = shape;
        shape_is = record {
          shape = record {
            version = known;
            problem = omega (arith, whole, few);
            found_few = omega (arith, whole, few, long_touches p c.found, length-map c.found (touch_parts p));
            found = touch_lines_are p sound c.found goes.kept;
            jobs_few = omega (arith, whole, few, long_jobs p sound version [] c.jobs, ap length (lengths_are p sound version [] c.jobs), length-map c.jobs (length {A = List ℕ}), length-map (jobs_parts p version [] c.jobs) (length {A = NodeParts}));
            jobs = job_lines_right p sound version [] c.jobs goes.filled goes.valid (omega (arith, whole, few));
          };
          is = is ∙ sym (printed p shape c.found (nodes_of_jobs c.jobs) c.jobs has are);
        };
        bytes_are = refl;
        items = has;
        jobs = are;
        hold = (λ i inside. (goes.valid i [] inside).short, (λ i inside. goes.kept i [] inside, (follow_on p c.found goes.ascending, (goes.independent, tt))));
      }

  pub printed_as : IsPrinted bytes c
  printed_as = by file.is
    where
      by : (bytes ≡ versioned_text c.problem 2 c.bytes c.found c.jobs) ⊎ (bytes ≡ versioned_text c.problem 1 c.bytes c.found c.jobs) → IsPrinted bytes c
      by (inl is) = with_version 2 (inr refl) is
      by (inr is) = with_version 1 (inl refl) is
