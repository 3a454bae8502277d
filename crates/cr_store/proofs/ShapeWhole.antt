-- The whole text of a shape, from its parts and into them.
use Rattle.std.proofs.Common.{◌≡◌, ℕ, zero, suc, ◌+◌, ◌-◌, ◌<◌, inr, List, [], ◌∷◌, ◌++◌, length, take, codes, flat_map, All, refl, sym, ap, ◌∙◌, subst, arith, append_assoc, length-append}
use Rattle.std.proofs.lemmas.List.{take_at}
use Rattle.std.proofs.lemmas.List.Elements.{All-head, All-tail, All-nil, All-cons}
use Rattle.cr_model.specs.Checkpoints.{number_line}
use Rattle.cr_model.specs.Texts.{IsNumber}
use Rattle.cr_store.specs.Shapes.{FoundParts, NodeParts, ShapeParts, IsFoundLine, IsNodeLine, IsJobLines, HasShape, found_text, node_text, job_text, line_feeds}
use Rattle.cr_store.specs.ShapeFaults.{IsFormFault}
use Rattle.cr_store.specs.ShapeStages.{Lines, AtEnd, AtJobs, AtJobCount, AtFound, AtStart}
use Rattle.cr_store.specs.declared.shape_stop.Stop.TheVariants as stop
use Rattle.cr_store.specs.ShapeSteps.{AreRead, IsHead, IsFoundPart, IsJobsPart, StopsAtAll}
use Rattle.cr_store.proofs.ShapeStops.{found_part_from, jobs_part_from}

regroup : (a b c d e f g h i : List ℕ) → a ++ (b ++ (c ++ d ++ (e ++ (f ++ (g ++ (h ++ i)))))) ≡ a ++ b ++ c ++ d ++ e ++ f ++ g ++ h ++ i
regroup a b c d e f g h i = simp append_assoc

-- a shape from the parts that were read
pub shape_from : (all : List ℕ) (version : ℕ) (problem found_rest : List ℕ) (found : List FoundParts) (jobs_rest : List ℕ) (jobs : List (List NodeParts)) (end_rest : List ℕ)
    → IsHead all version problem found_rest → IsFoundPart found_rest found jobs_rest → IsJobsPart version jobs_rest jobs end_rest → AtEnd end_rest
    → HasShape all (record { version = version; problem = problem; found = found; jobs = jobs })
shape_from all version problem found_rest found jobs_rest jobs end_rest head found_part jobs_part end = record {
  shape = record {
    version = head.known;
    problem = head.fits;
    found_few = found_part.few;
    found = found_part.read.known;
    jobs_few = jobs_part.few;
    jobs = jobs_part.read.known;
  };
  is =
      let start = number_line (codes "ringsearch checkpoint") version in
      let size = number_line (codes "problem") (length problem) in
      let lines : jobs_rest ≡ number_line (codes "jobs") (length jobs) ++ (flat_map (job_text version) jobs ++ codes "end\n") =
      jobs_part.is ∙ ap (λ l. number_line (codes "jobs") (length jobs) ++ l) (jobs_part.read.is ∙ ap (λ l. flat_map (job_text version) jobs ++ l) end) in
      let touches : found_rest ≡ number_line (codes "found") (length found) ++ (flat_map found_text found ++ (number_line (codes "jobs") (length jobs) ++ (flat_map (job_text version) jobs ++ codes "end\n"))) =
      found_part.is ∙ ap (λ l. number_line (codes "found") (length found) ++ l) (found_part.read.is ∙ ap (λ l. flat_map found_text found ++ l) lines) in
      head.is
      ∙ ap (λ l. start ++ (size ++ (problem ++ codes "\n" ++ l))) touches
      ∙ regroup start size problem (codes "\n") (number_line (codes "found") (length found)) (flat_map found_text found) (number_line (codes "jobs") (length jobs)) (flat_map (job_text version) jobs) (codes "end\n");
}

-- the parts of a shape
pub record PartsOf (all : List ℕ) (s : ShapeParts) : Type 0 where
  pub found_rest : List ℕ
  pub jobs_rest : List ℕ
  pub end_rest : List ℕ
  pub head : IsHead all s.version s.problem found_rest
  pub found : IsFoundPart found_rest s.found jobs_rest
  pub jobs : IsJobsPart s.version jobs_rest s.jobs end_rest
  pub end : AtEnd end_rest

pub parts_of : (all : List ℕ) (s : ShapeParts) → HasShape all s → PartsOf all s
parts_of all s has =
    let start = number_line (codes "ringsearch checkpoint") s.version in
    let size = number_line (codes "problem") (length s.problem) in
    let nodes = flat_map (job_text s.version) s.jobs ++ codes "end\n" in
    let jobs = number_line (codes "jobs") (length s.jobs) ++ nodes in
    let lines = flat_map found_text s.found ++ jobs in
    let shape = has.shape in
    record {
      found_rest = number_line (codes "found") (length s.found) ++ lines;
      jobs_rest = jobs;
      end_rest = codes "end\n";
      head = record {
        known = shape.version;
        fits = shape.problem;
        is = has.is ∙ sym (regroup start size s.problem (codes "\n") (number_line (codes "found") (length s.found)) (flat_map found_text s.found) (number_line (codes "jobs") (length s.jobs)) (flat_map (job_text s.version) s.jobs) (codes "end\n"));
      };
      found = record { lines = lines; few = shape.found_few; is = refl; read = record { known = shape.found; many = refl; is = refl } };
      jobs = record { lines = nodes; few = shape.jobs_few; is = refl; read = record { known = shape.jobs; many = refl; is = refl } };
      end = refl;
    }

module _ {V : Type 0} (text : V → List ℕ) (Known : V → Type 0) where
  -- as many lines as there are values, and the values of as many lines
  pub lines_from : (Next : List ℕ → Type 0) (values : List V) → All Known values → (rest : List ℕ) → Next rest → Lines text Known Next (length values) (flat_map text values ++ rest)
  lines_from Next [] known rest next = next
  lines_from Next (v ∷ values) known rest next = record {
    value = v;
    rest = flat_map text values ++ rest;
    known = All-head Known v values known;
    is = append_assoc (text v) (flat_map text values) rest;
    next = lines_from Next values (All-tail Known v values known) rest next;
  }

  pub lines_of : (Next : List ℕ → Type 0) (n : ℕ) (all : List ℕ) → Lines text Known Next n all → (values : List V) × (rest : List ℕ) × AreRead text Known n all values rest × Next rest
  lines_of Next zero all next = ([], all, record { known = All-nil Known; many = refl; is = refl }, next)
  lines_of Next (suc n) all of_set =
      let (values, rest, read, next) = lines_of Next n of_set.rest of_set.next in (
        of_set.value ∷ values,
        rest,
        record {
          known = All-cons Known of_set.value values of_set.known read.known;
          many = ap suc read.many;
          is = of_set.is ∙ ap (λ l. text of_set.value ++ l) read.is ∙ sym (append_assoc (text of_set.value) (flat_map text values) rest);
        },
        next,
      )

jobs_from : (version : ℕ) (jobs : List (List NodeParts)) → All (IsJobLines version) jobs → (rest : List ℕ) → AtEnd rest → AtJobs version (length jobs) (flat_map (job_text version) jobs ++ rest)
jobs_from version [] known rest end = end
jobs_from version (job ∷ jobs) known rest end =
    let here : IsJobLines version job = All-head (IsJobLines version) job jobs known in
    let more = flat_map (job_text version) jobs ++ rest in
    record {
      value = length job;
      rest = flat_map (node_text version) job ++ more;
      known = (here.some, here.few);
      is = append_assoc (job_text version job) (flat_map (job_text version) jobs) rest ∙ append_assoc (number_line (codes "job") (length job)) (flat_map (node_text version) job) more;
      next = lines_from (node_text version) (IsNodeLine version) (AtJobs version (length jobs)) job here.nodes more
          (jobs_from version jobs (All-tail (IsJobLines version) job jobs known) rest end);
    }

-- a job's text, and what comes after it
one_job : (version : ℕ) (job : List NodeParts) (jobs : List (List NodeParts)) (rest : List ℕ)
    → number_line (codes "job") (length job) ++ (flat_map (node_text version) job ++ (flat_map (job_text version) jobs ++ rest)) ≡ flat_map (job_text version) (job ∷ jobs) ++ rest
one_job version job jobs rest =
    sym (append_assoc (job_text version job) (flat_map (job_text version) jobs) rest ∙ append_assoc (number_line (codes "job") (length job)) (flat_map (node_text version) job) (flat_map (job_text version) jobs ++ rest))

jobs_of_set : (version n : ℕ) (all : List ℕ) → AtJobs version n all → (jobs : List (List NodeParts)) × (rest : List ℕ) × AreRead (job_text version) (IsJobLines version) n all jobs rest × AtEnd rest
jobs_of_set version zero all end = ([], all, record { known = All-nil (IsJobLines version); many = refl; is = refl }, end)
jobs_of_set version (suc n) all of_set =
    let (job, more, read, next) = lines_of (node_text version) (IsNodeLine version) (AtJobs version n) of_set.value of_set.rest of_set.next in
    let (jobs, rest, later, end) = jobs_of_set version n more next in (
      job ∷ jobs,
      rest,
      record {
        known = All-cons (IsJobLines version) job jobs
            (record { some = subst (λ k. 0 < k) (sym read.many) of_set.known.0; few = subst IsNumber (sym read.many) of_set.known.1; nodes = read.known }) later.known;
        many = ap suc later.many;
        is =
            of_set.is
            ∙ ap (λ k. number_line (codes "job") k ++ of_set.rest) (sym read.many)
            ∙ ap (λ l. number_line (codes "job") (length job) ++ l) (read.is ∙ ap (λ l. flat_map (node_text version) job ++ l) later.is)
            ∙ one_job version job jobs rest;
      },
      end,
    )

-- a text is of the first set exactly where it has a shape
pub at_start : (all : List ℕ) (s : ShapeParts) → HasShape all s → AtStart all
at_start all s has =
    let parts = parts_of all s has in
    let size = number_line (codes "problem") (length s.problem) in
    record {
      value = s.version;
      rest = size ++ (s.problem ++ codes "\n" ++ parts.found_rest);
      known = parts.head.known;
      is = parts.head.is;
      next = record {
        value = length s.problem;
        rest = s.problem ++ codes "\n" ++ parts.found_rest;
        known = parts.head.fits;
        is = refl;
        next = record {
          problem = s.problem;
          rest = parts.found_rest;
          long = refl;
          is = refl;
          next = record {
            value = length s.found;
            rest = parts.found.lines;
            known = parts.found.few;
            is = parts.found.is;
            next = subst (AtFound s.version (length s.found)) (sym parts.found.read.is)
                (lines_from found_text IsFoundLine (AtJobCount s.version) s.found parts.found.read.known parts.jobs_rest (record {
                  value = length s.jobs;
                  rest = parts.jobs.lines;
                  known = parts.jobs.few;
                  is = parts.jobs.is;
                  next = subst (AtJobs s.version (length s.jobs)) (sym parts.jobs.read.is) (jobs_from s.version s.jobs parts.jobs.read.known parts.end_rest parts.end);
                }));
          };
        };
      };
    }

pub shape_of_start : (all : List ℕ) → AtStart all → (s : ShapeParts) × HasShape all s
shape_of_start all of_set =
    let version = of_set.value in
    let problem = of_set.next.next in
    let found_count = problem.next in
    let (found, jobs_rest, found_read, at_jobs) = lines_of found_text IsFoundLine (AtJobCount version) found_count.value found_count.rest found_count.next in
    let (jobs, end_rest, jobs_read, end) = jobs_of_set version at_jobs.value at_jobs.rest at_jobs.next in (
      record { version = version; problem = problem.problem; found = found; jobs = jobs },
      shape_from all version problem.problem problem.rest found jobs_rest jobs end_rest
          (record {
            known = of_set.known;
            fits = subst IsNumber (sym problem.long) of_set.next.known;
            is =
                of_set.is
                ∙ ap (λ l. number_line (codes "ringsearch checkpoint") version ++ l)
                (of_set.next.is ∙ ap (λ n. number_line (codes "problem") n ++ of_set.next.rest) (sym problem.long) ∙ ap (λ l. number_line (codes "problem") (length problem.problem) ++ l) problem.is);
          })
          (found_part_from found_count.value problem.rest found_count.rest found jobs_rest found_count.known found_count.is found_read)
          (jobs_part_from version at_jobs.value jobs_rest at_jobs.rest jobs end_rest at_jobs.known at_jobs.is jobs_read) end,
    )

-- where a text stops, it goes wrong first on that line
pub form_fault : (all : List ℕ) (left line : ℕ) → StopsAtAll all (stop.Wrong left) → line ≡ 1 + line_feeds (take (length all - left) all) → IsFormFault all line
form_fault all left line (whole, wrong) is =
    let long : length all ≡ length wrong.front + length wrong.rest = ap length wrong.is ∙ length-append wrong.front wrong.rest in
    let cut : length wrong.front ≡ length all - left = omega (arith, wrong.left_is) in
    let front : take (length all - left) all ≡ wrong.front = ap (take (length all - left)) wrong.is ∙ take_at wrong.front wrong.rest (length all - left) cut in
    inr (
      whole,
      record {
        none = λ s has. wrong.none (at_start all s has);
        front = wrong.front;
        rest = wrong.rest;
        is = wrong.is;
        before = let some = shape_of_start (wrong.front ++ wrong.more) wrong.before in record { shape = some.0; more = wrong.more; has = some.1 };
        line_is = is ∙ ap (λ l. 1 + line_feeds l) front;
        here = λ upto others same many can.
            let fewer : line_feeds wrong.front < line_feeds upto = omega (arith, ap line_feeds front) in
            wrong.here upto others can.more same fewer (at_start (upto ++ can.more) can.shape can.has);
      },
    )
