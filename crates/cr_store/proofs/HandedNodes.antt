-- Nodes that are handed on, line by line.
use Rattle.std.proofs.Common.{◌≡◌, ℕ, ◌+◌, ◌<◌, List, [], ◌∷◌, ◌++◌, length, codes, decimal, All, refl, sym, ap, ap₂, ◌∙◌, subst, arith, append_assoc, append-nil, length-append}
use Rattle.std.proofs.lemmas.List.Concat.{flat_map-append}
use Rattle.std.proofs.lemmas.List.Elements.{All-nil, All-cons, All-append, All-head, All-tail}
use Rattle.cr_model.specs.Problems.{ProblemParts}
use Rattle.cr_model.specs.Callings.{HasSteps}
use Rattle.cr_model.specs.Nodes.{IsValid}
use Rattle.cr_model.specs.Checkpoints.{number_line, node_line, node_lines, last_node, job_lines, nodes_of_jobs}
use Rattle.cr_store.specs.Handing.{IsHanded, HandsNode, HandsNodes, HandsJob, HandsJobs}
use Rattle.cr_store.proofs.LineReads.{last_joined}

module _ (p : ProblemParts) where
  -- the lines of one node more
  pub node_lines_more : (before : List ℕ) (job : List (List ℕ)) (node : List ℕ)
      → node_lines p 2 before (job ++ node ∷ []) ≡ node_lines p 2 before job ++ node_line p 2 (last_node before job) node
  node_lines_more before [] node = append-nil (node_line p 2 before node)
  node_lines_more before (first ∷ job) node =
      ap (λ l. node_line p 2 before first ++ l) (node_lines_more first job node)
      ∙ sym (append_assoc (node_line p 2 before first) (node_lines p 2 first job) (node_line p 2 (last_node first job) node))

  -- and of one job more
  job_lines_more : (before : List ℕ) (jobs : List (List (List ℕ))) (job : List (List ℕ))
      → job_lines p 2 before (jobs ++ job ∷ []) ≡ job_lines p 2 before jobs ++ (number_line (codes "job") (length job) ++ node_lines p 2 (last_node before (nodes_of_jobs jobs)) job)
  job_lines_more before [] job = append-nil (number_line (codes "job") (length job) ++ node_lines p 2 before job)
  job_lines_more before (first ∷ jobs) job =
      let here = number_line (codes "job") (length first) ++ node_lines p 2 before first in
      let others = job_lines p 2 (last_node before first) jobs in
      let later : List ℕ → List ℕ = λ last. number_line (codes "job") (length job) ++ node_lines p 2 last job in
      ap (λ l. here ++ l) (job_lines_more (last_node before first) jobs job ∙ ap (λ last. others ++ later last) (sym (last_joined p 2 before first (nodes_of_jobs jobs))))
      ∙ sym (append_assoc here others (later (last_node before (first ++ nodes_of_jobs jobs))))

  module _ (text before : List ℕ) (Before : List (List ℕ) → Type 0) where
    pub no_node : HandsNodes p text before text before Before Before 0
    no_node = record {
      job = [];
      many = refl;
      is = refl;
      last_is = refl;
      valid = All-nil (IsValid p);
      took = λ nodes held. subst Before (sym (append-nil nodes)) held;
    }

    pub node_more : (rest last next node : List ℕ) (Now After : List (List ℕ) → Type 0) (number : ℕ) → HandsNodes p text before rest last Before Now number
        → HandsNode p rest last next node Now After → HandsNodes p text before next node Before After (number + 1)
    node_more rest last next node Now After number done more =
        let job = done.job in
        record {
          job = job ++ node ∷ [];
          many = omega (arith, done.many, length-append job (node ∷ []));
          is = done.is ∙ ap (λ l. node_lines p 2 before job ++ l) (more.is ∙ ap (λ l. node_line p 2 l node ++ next) done.last_is)
              ∙ sym (append_assoc (node_lines p 2 before job) (node_line p 2 (last_node before job) node) next)
              ∙ ap (λ l. l ++ next) (sym (node_lines_more before job node));
          last_is = sym (last_joined p 2 before job (node ∷ []));
          valid = All-append (IsValid p) job (node ∷ []) done.valid (All-cons (IsValid p) node [] more.valid (All-nil (IsValid p)));
          took = λ nodes held. subst After (append_assoc nodes job (node ∷ [])) (more.took (nodes ++ job) (done.took nodes held));
        }

    pub no_job : HandsJobs p text before text before Before Before 0
    no_job = record {
      jobs = [];
      many = refl;
      is = refl;
      last_is = refl;
      filled = All-nil (λ job. 0 < length job);
      valid = All-nil (IsValid p);
      took = λ nodes held. subst Before (sym (append-nil nodes)) held;
    }

    pub job_more : (rest last next end : List ℕ) (Now After : List (List ℕ) → Type 0) (number : ℕ) → HandsJobs p text before rest last Before Now number
        → HandsJob p rest last next end Now After → HandsJobs p text before next end Before After (number + 1)
    job_more rest last next end Now After number done more =
        let jobs = done.jobs in
        let job = more.nodes.job in
        let head = number_line (codes "job") (length job) in
        let here = job_lines p 2 before jobs in
        let lines = node_lines p 2 (last_node before (nodes_of_jobs jobs)) job in
        let all : nodes_of_jobs (jobs ++ job ∷ []) ≡ nodes_of_jobs jobs ++ job = flat_map-append (λ j. j) jobs (job ∷ []) ∙ ap (λ l. nodes_of_jobs jobs ++ l) (append-nil job) in
        record {
          jobs = jobs ++ job ∷ [];
          many = omega (arith, done.many, length-append jobs (job ∷ []));
          is = done.is ∙ ap (λ l. here ++ l) (more.is ∙ ap₂ (λ n l. number_line (codes "job") n ++ l) (sym more.nodes.many) (more.nodes.is ∙ ap (λ l. node_lines p 2 l job ++ next) done.last_is))
              ∙ ap (λ l. here ++ l) (sym (append_assoc head lines next)) ∙ sym (append_assoc here (head ++ lines) next)
              ∙ ap (λ l. l ++ next) (sym (job_lines_more before jobs job));
          last_is = more.nodes.last_is ∙ ap (λ l. last_node l job) done.last_is ∙ sym (last_joined p 2 before (nodes_of_jobs jobs) job) ∙ ap (last_node before) (sym all);
          filled = All-append (λ j. 0 < length j) jobs (job ∷ []) done.filled (All-cons (λ j. 0 < length j) job [] (omega (arith, more.some, more.nodes.many)) (All-nil (λ j. 0 < length j)));
          valid = subst (All (IsValid p)) (sym all) (All-append (IsValid p) (nodes_of_jobs jobs) job done.valid more.nodes.valid);
          took = λ nodes held. subst After (append_assoc nodes (nodes_of_jobs jobs) job ∙ ap (λ l. nodes ++ l) (sym all)) (more.nodes.took (nodes ++ nodes_of_jobs jobs) (done.took nodes held));
        }

  -- the steps of the last node
  last_of_valid : (before : List ℕ) (nodes : List (List ℕ)) → HasSteps p before → All (IsValid p) nodes → HasSteps p (last_node before nodes)
  last_of_valid before [] known valid = known
  last_of_valid before (node ∷ nodes) known valid = last_of_valid node nodes (All-head (IsValid p) node nodes valid).steps (All-tail (IsValid p) node nodes valid)

  pub last_of_nodes : (text before rest last : List ℕ) (Before After : List (List ℕ) → Type 0) (number : ℕ) → HasSteps p before
      → HandsNodes p text before rest last Before After number → HasSteps p last
  last_of_nodes text before rest last Before After number known done = subst (HasSteps p) (sym done.last_is) (last_of_valid before done.job known done.valid)

  pub last_of_jobs : (text before rest last : List ℕ) (Before After : List (List ℕ) → Type 0) (number : ℕ) → HasSteps p before
      → HandsJobs p text before rest last Before After number → HasSteps p last
  last_of_jobs text before rest last Before After number known done = subst (HasSteps p) (sym done.last_is) (last_of_valid before (nodes_of_jobs done.jobs) known done.valid)

  -- the text of jobs is over
  pub all_handed : (text lines rest last : List ℕ) (Before After : List (List ℕ) → Type 0) (number : ℕ) → text ≡ (codes "jobs " ++ decimal number ++ codes "\n") ++ lines
      → HandsJobs p lines [] rest last Before After number → rest ≡ codes "end\n" → IsHanded p text Before After
  all_handed text lines rest last Before After number is done end = record {
    jobs = done.jobs;
    is = is ∙ ap (λ n. (codes "jobs " ++ decimal n ++ codes "\n") ++ lines) (sym done.many)
        ∙ ap (λ l. number_line (codes "jobs") (length done.jobs) ++ l) (done.is ∙ ap (λ l. job_lines p 2 [] done.jobs ++ l) end)
        ∙ sym (append_assoc (number_line (codes "jobs") (length done.jobs)) (job_lines p 2 [] done.jobs) (codes "end\n"));
    filled = done.filled;
    valid = done.valid;
    took = done.took;
  }
