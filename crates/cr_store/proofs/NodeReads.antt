-- Nodes that are read, job by job.
use Rattle.std.proofs.Common.{◌≡◌, ℕ, suc, ◌+◌, ◌<◌, ◌≤◌, true, false, List, [], ◌∷◌, ◌++◌, length, get_or, take, drop, flat_map, refl, sym, ap, ap₂, ◌∙◌, subst, arith, append-nil, length-append, take-append-drop}
use Rattle.std.proofs.lemmas.Bool.{true≢false, false≢true}
use Rattle.std.proofs.lemmas.List.{take_more, take_all, drop_more, take-append-le, get_or-append-add, get_or_append_left, get_or-map}
use Rattle.std.proofs.lemmas.List.Concat.{flat_map-append}
use Rattle.cr_model.specs.Problems.{ProblemParts}
use Rattle.cr_model.specs.Checkpoints.{last_node}
use Rattle.cr_store.specs.Shapes.{NodeParts}
use Rattle.cr_store.specs.Lines.{IsNodeOf, AreNodesOf}
use Rattle.std.specs.Global.{Vec}
use Rattle.cr_store.specs.declared.shape.NodeLine.{NodeLine}
use Rattle.cr_store.specs.ShapeReads.{job_parts}
use Rattle.cr_store.specs.Reading.{lines_of_jobs, node_line_at, ReadsNodes, AddsNodes}
use Rattle.cr_store.proofs.LineReads.{as_many, joined, last_joined}

-- the first of two lists and some of the second
take_past : {X : Type 0} (xs ys : List X) (n : ℕ) → take (length xs + n) (xs ++ ys) ≡ xs ++ take n ys
take_past {X} [] ys n = let e : length {A = X} [] + n ≡ n = omega arith in ap (λ k. take k ys) e
take_past (x ∷ xs) ys n =
    let e : length (x ∷ xs) + n ≡ suc (length xs + n) = omega arith in
    ap (λ k. take k (x ∷ xs ++ ys)) e ∙ ap (λ l. x ∷ l) (take_past xs ys n)

module _ (p : ProblemParts) (version : ℕ) (jobs : List (List NodeParts)) where
  first_more : (index : ℕ) → index < length jobs → flat_map (λ job. job) (take (index + 1) jobs) ≡ flat_map (λ job. job) (take index jobs) ++ get_or jobs index []
  first_more index inside =
      ap (flat_map (λ job. job)) (take_more jobs index [] inside) ∙ flat_map-append (λ job. job) (take index jobs) (get_or jobs index [] ∷ [])
      ∙ ap (λ l. flat_map (λ job. job) (take index jobs) ++ l) (append-nil (get_or jobs index []))

  all_split : (index : ℕ) → index < length jobs → flat_map (λ job. job) jobs
      ≡ flat_map (λ job. job) (take index jobs) ++ (get_or jobs index [] ++ flat_map (λ job. job) (drop (index + 1) jobs))
  all_split index inside =
      ap (flat_map (λ job. job)) (sym (take-append-drop index jobs)) ∙ flat_map-append (λ job. job) (take index jobs) (drop index jobs)
      ∙ ap (λ ls. flat_map (λ job. job) (take index jobs) ++ flat_map (λ job. job) ls) (drop_more jobs index [] inside)

  module _ (index : ℕ) (old : List (List ℕ)) (inside : index < length jobs) (are : AreNodesOf p version [] (flat_map (λ job. job) (take index jobs)) old) where
    -- one job more
    pub job_added : (new : List (List ℕ)) → AddsNodes p version (get_or jobs index []) old new true → AreNodesOf p version [] (flat_map (λ job. job) (take (index + 1) jobs)) new
    job_added new adds =
        let line = get_or jobs index [] in
        let whole = subst (λ l. AreNodesOf p version (last_node [] old) l adds.more) (take_all (length adds.more) line (omega (arith, adds.reads.ends refl))) adds.reads.are in
        subst (AreNodesOf p version [] (flat_map (λ job. job) (take (index + 1) jobs))) (sym adds.is)
        (subst (λ l. AreNodesOf p version [] l (old ++ adds.more)) (sym (first_more index inside))
        (joined p version [] (flat_map (λ job. job) (take index jobs)) old line adds.more are whole))

    -- a line in this job is that of none
    pub job_stopped : (new : List (List ℕ)) → AddsNodes p version (get_or jobs index []) old new false → ReadsNodes p version [] (flat_map (λ job. job) jobs) new false
    job_stopped new adds =
        let line = get_or jobs index [] in
        let front = flat_map (λ job. job) (take index jobs) in
        let rest = flat_map (λ job. job) (drop (index + 1) jobs) in
        let stops = adds.reads.stops refl in
        let many : length front ≡ length old = as_many p version [] front old are in
        let long : length new ≡ length front + length adds.more = ap length adds.is ∙ length-append old adds.more ∙ ap (λ n. n + length adds.more) (sym many) in
        let lines : take (length new) (flat_map (λ job. job) jobs) ≡ front ++ take (length adds.more) line =
        ap₂ take long (all_split index inside) ∙ take_past front (line ++ rest) (length adds.more)
        ∙ ap (λ l. front ++ l) (take-append-le (length adds.more) line rest (omega (arith, stops.within))) in
        let there : node_line_at (flat_map (λ job. job) jobs) (length new) ≡ node_line_at line (length adds.more) =
        ap₂ (λ ls k. get_or ls k (record { shared = 0; steps = [] })) (all_split index inside) long
        ∙ get_or-append-add front (line ++ rest) (length adds.more) (record { shared = 0; steps = [] })
        ∙ get_or_append_left line rest (record { shared = 0; steps = [] }) (length adds.more) stops.within in
        let last : last_node [] new ≡ last_node (last_node [] old) adds.more = ap (last_node []) adds.is ∙ last_joined p version [] old adds.more in
        record {
          are = subst (λ l. AreNodesOf p version [] l new) (sym lines) (subst (AreNodesOf p version [] (front ++ take (length adds.more) line)) (sym adds.is)
              (joined p version [] front old (take (length adds.more) line) adds.more are adds.reads.are));
          ends = λ e. absurd (false≢true e);
          stops = λ _. record {
            within = omega (arith, long, stops.within, ap length (all_split index inside), length-append front (line ++ rest), length-append line rest);
            none = λ node is. stops.none node (subst (λ l. IsNodeOf p version (last_node (last_node [] old) adds.more) l node) there
                (subst (λ b. IsNodeOf p version b (node_line_at (flat_map (λ job. job) jobs) (length new)) node) last is));
          };
        }

  -- all lines of all jobs are read
  pub jobs_read : (index : ℕ) (nodes : List (List ℕ)) → length jobs ≤ index → AreNodesOf p version [] (flat_map (λ job. job) (take index jobs)) nodes
      → ReadsNodes p version [] (flat_map (λ job. job) jobs) nodes true
  jobs_read index nodes past are =
      let all : AreNodesOf p version [] (flat_map (λ job. job) jobs) nodes = subst (λ js. AreNodesOf p version [] (flat_map (λ job. job) js) nodes) (take_all index jobs past) are in
      let many = as_many p version [] (flat_map (λ job. job) jobs) nodes all in
      record {
        are = subst (λ l. AreNodesOf p version [] l nodes) (sym (take_all (length nodes) (flat_map (λ job. job) jobs) (omega (arith, many)))) all;
        ends = λ _. sym many;
        stops = λ e. absurd (true≢false e);
      }

-- the lines of one job
pub job_lines_at : (jobs : List (Vec NodeLine)) (i : ℕ) (job : Vec NodeLine) → i < length jobs → job ≡ get_or jobs i job → job_parts job ≡ get_or (lines_of_jobs jobs) i []
job_lines_at jobs i job inside is = ap job_parts is ∙ sym (get_or-map job_parts jobs i job [] inside)
