-- Why reading a shape stops.
use Rattle.std.proofs.Common.{◌≡◌, ℕ, zero, suc, ◌+◌, ◌-◌, ◌<◌, inl, inr, List, [], ◌∷◌, ◌++◌, length, codes, flat_map, All, refl, sym, ap, ◌∙◌, subst, arith, append_assoc, append-nil, length-append, replicate}
use Rattle.std.proofs.lemmas.List.{length-replicate, append_cancel_left}
use Rattle.std.specs.Prelude.{Result, IfErr}
use Rattle.std.specs.Result.{IsErrAnd}
use Rattle.std.proofs.lemmas.Result.{err_from_is_err_and}
use Rattle.std.proofs.lemmas.List.Elements.{All-head, All-tail}
use Rattle.cr_model.specs.Checkpoints.{number_line}
use Rattle.cr_model.specs.Texts.{IsNumber, named}
use Rattle.cr_store.specs.Shapes.{FoundParts, NodeParts, IsFoundLine, IsNodeLine, IsJobLines, found_text, node_text, job_text, line_feeds}
use Rattle.cr_store.specs.ShapeFaults.{IsShort}
use Rattle.cr_store.specs.ShapeStages.{IsWrongAt, IsCount, IsVersion, AtEnd, AtNodes, AtJobs, AtJobCount, AtFound, AtFoundCount, AtProblem, AtProblemSize, AtStart}
use Rattle.cr_store.specs.declared.shape_stop.Stop.{Stop}
use Rattle.cr_store.specs.declared.shape_stop.Stop.TheVariants as stop
use Rattle.cr_store.specs.ShapeSteps.{NoneBegins, AreRead, IsShortAfter, IsHead, IsFoundPart, IsJobsPart, Stops, StopsAtProblem, StopsAtAll, found_body, node_body}
use Rattle.cr_store.proofs.ShapeBytes.{feeds_joined, whole_line, goes_past, append_parts}
use Rattle.cr_store.proofs.ShapeCodes.{IsCode, IsLine, code_of_line, word_line, fewer, found_is_line, node_is_line}
use Rattle.cr_store.proofs.ShapeWrong.{wrong_after, then_after, then_wrong, lines_after, lines_wrong, some_lines}

-- what stops after a front stops the whole
pub stops_on : (Set Later : List ℕ → Type 0) (all rest : List ℕ) → ((left : ℕ) → IsWrongAt Later rest left → IsWrongAt Set all left)
    → (why : Stop) → Stops Later rest why → Stops Set all why
stops_on Set Later all rest on (stop.Wrong left) wrong = on left wrong
stops_on Set Later all rest on stop.Short short = short
stops_on Set Later all rest on stop.NoMemory none = none

-- an error that is passed on
pub passed_on : {T : Type 0} (r : Result T Stop) (why : Stop) (P : Stop → Type 0) → IsErrAnd r (λ e. e ≡ why) → P why → IfErr r P
passed_on r why P passed holds =
    let given = err_from_is_err_and r passed in
    subst (λ s. IfErr s P) (sym given.1) (subst P (sym given.2) holds)

-- there is a text at each stage
pub first_found : FoundParts
first_found = record { length = 0; calling = codes "p" }

pub first_node : NodeParts
first_node = record { shared = 0; steps = codes "-" }

pub first_found_known : IsFoundLine first_found
unfolding first_found
first_found_known = record { length = omega arith; calling = record { some = omega arith; letters = refl } }

pub first_node_known : (version : ℕ) → IsNodeLine version first_node
unfolding first_node
first_node_known version = record { shared = omega arith; alone = λ _. refl; steps = inl refl }

pub some_jobs : (version n : ℕ) → (all : List ℕ) × AtJobs version n all
some_jobs version zero = (codes "end\n", refl)
some_jobs version (suc n) =
    let later = some_jobs version n in
    let nodes = some_lines (node_text version) (IsNodeLine version) (AtJobs version n) first_node (first_node_known version) later.0 later.1 1 in
    (number_line (codes "job") 1 ++ nodes.0, record { value = 1; rest = nodes.0; known = (omega arith, omega arith); is = refl; next = nodes.1 })

pub some_job_count : (version : ℕ) → (all : List ℕ) × AtJobCount version all
some_job_count version = (number_line (codes "jobs") 0 ++ codes "end\n", record { value = 0; rest = codes "end\n"; known = omega arith; is = refl; next = refl })

pub some_found_count : (version : ℕ) → (all : List ℕ) × AtFoundCount version all
some_found_count version =
    let later = some_job_count version in
    (number_line (codes "found") 0 ++ later.0, record { value = 0; rest = later.0; known = omega arith; is = refl; next = later.1 })

-- the found lines
pub found_wrong : (version done count : ℕ) (all : List ℕ) (values : List FoundParts) (rest : List ℕ) → AreRead found_text IsFoundLine done all values rest
    → done < count → NoneBegins found_text IsFoundLine rest → IsWrongAt (AtFound version count) all (length rest)
found_wrong version done count all values rest so_far few none =
    let next = some_job_count version in
    lines_wrong found_text IsFoundLine (AtJobCount version) found_body found_is_line first_found first_found_known next.0 next.1 done count all values rest so_far few none

-- the lines of nodes
pub nodes_wrong : (version n done count : ℕ) (all : List ℕ) (values : List NodeParts) (rest : List ℕ) → AreRead (node_text version) (IsNodeLine version) done all values rest
    → done < count → NoneBegins (node_text version) (IsNodeLine version) rest → IsWrongAt (AtNodes version (AtJobs version n) count) all (length rest)
nodes_wrong version n done count all values rest so_far few none =
    let next = some_jobs version n in
    lines_wrong (node_text version) (IsNodeLine version) (AtJobs version n) (node_body version) (node_is_line version) first_node (first_node_known version)
    next.0 next.1 done count all values rest so_far few none

pub found_number : IsLine (named (codes "found ")) (number_line (codes "found")) IsNumber
found_number = word_line (codes "found") refl

pub jobs_number : IsLine (named (codes "jobs ")) (number_line (codes "jobs")) IsNumber
jobs_number = word_line (codes "jobs") refl

pub found_code : IsCode (number_line (codes "found")) IsNumber
found_code = code_of_line (named (codes "found ")) (number_line (codes "found")) IsNumber found_number

pub jobs_code : IsCode (number_line (codes "jobs")) IsNumber
jobs_code = code_of_line (named (codes "jobs ")) (number_line (codes "jobs")) IsNumber jobs_number

pub job_number : IsLine (named (codes "job ")) (number_line (codes "job")) IsNumber
job_number = word_line (codes "job") refl

pub job_code : IsCode (number_line (codes "job")) IsNumber
job_code = code_of_line (named (codes "job ")) (number_line (codes "job")) IsNumber job_number

pub start_number : IsLine (named (codes "ringsearch checkpoint ")) (number_line (codes "ringsearch checkpoint")) IsNumber
start_number = word_line (codes "ringsearch checkpoint") refl

pub version_code : IsCode (number_line (codes "ringsearch checkpoint")) IsNumber
version_code = code_of_line (named (codes "ringsearch checkpoint ")) (number_line (codes "ringsearch checkpoint")) IsNumber start_number

pub version_number : (version : ℕ) → IsVersion version → IsNumber version
version_number version (inl first) = omega arith
version_number version (inr second) = omega arith

is_number : (n : ℕ) → IsCount n → IsNumber n
is_number n count = count.1

pub job_count : IsLine (named (codes "job ")) (number_line (codes "job")) IsCount
job_count = fewer (named (codes "job ")) (number_line (codes "job")) IsNumber IsCount is_number job_number

-- the line `found`
pub found_count_wrong : (version : ℕ) (all : List ℕ) → NoneBegins (number_line (codes "found")) IsNumber all → IsWrongAt (AtFoundCount version) all (length all)
found_count_wrong version all none =
    let some = some_found_count version in
    then_wrong (number_line (codes "found")) IsNumber (AtFound version) (named (codes "found ")) found_number all none some.0 some.1

pub found_count_after : (version count : ℕ) (all rest : List ℕ) → IsNumber count → all ≡ number_line (codes "found") count ++ rest
    → (left : ℕ) → IsWrongAt (AtFound version count) rest left → IsWrongAt (AtFoundCount version) all left
found_count_after version count all rest small is left wrong =
    subst (λ l. IsWrongAt (AtFoundCount version) l left) (sym is)
    (then_after (number_line (codes "found")) IsNumber (AtFound version) found_code count small rest left wrong)

-- the line `jobs`
pub job_count_wrong : (version : ℕ) (all : List ℕ) → NoneBegins (number_line (codes "jobs")) IsNumber all → IsWrongAt (AtJobCount version) all (length all)
job_count_wrong version all none =
    let some = some_job_count version in
    then_wrong (number_line (codes "jobs")) IsNumber (AtJobs version) (named (codes "jobs ")) jobs_number all none some.0 some.1

pub job_count_after : (version count : ℕ) (all rest : List ℕ) → IsNumber count → all ≡ number_line (codes "jobs") count ++ rest
    → (left : ℕ) → IsWrongAt (AtJobs version count) rest left → IsWrongAt (AtJobCount version) all left
job_count_after version count all rest small is left wrong =
    subst (λ l. IsWrongAt (AtJobCount version) l left) (sym is)
    (then_after (number_line (codes "jobs")) IsNumber (AtJobs version) jobs_code count small rest left wrong)

-- the line `job`
pub job_wrong : (version n : ℕ) (all : List ℕ) → NoneBegins (number_line (codes "job")) IsCount all → IsWrongAt (AtJobs version (suc n)) all (length all)
job_wrong version n all none =
    let some = some_jobs version (suc n) in
    then_wrong (number_line (codes "job")) IsCount (AtNodes version (AtJobs version n)) (named (codes "job ")) job_count all none some.0 some.1

pub job_after : (version n count : ℕ) (all rest : List ℕ) → IsCount count → all ≡ number_line (codes "job") count ++ rest
    → (left : ℕ) → IsWrongAt (AtNodes version (AtJobs version n) count) rest left → IsWrongAt (AtJobs version (suc n)) all left
job_after version n count all rest some is left wrong =
    subst (λ l. IsWrongAt (AtJobs version (suc n)) l left) (sym is)
    (then_after (number_line (codes "job")) IsCount (AtNodes version (AtJobs version n)) (code_of_line (named (codes "job ")) (number_line (codes "job")) IsCount job_count) count some rest left wrong)

-- after a whole job, and after several
whole_job : (version n : ℕ) (job : List NodeParts) → IsJobLines version job → (rest : List ℕ) (left : ℕ)
    → IsWrongAt (AtJobs version n) rest left → IsWrongAt (AtJobs version (suc n)) (job_text version job ++ rest) left
whole_job version n job known rest left wrong =
    job_after version n (length job) (job_text version job ++ rest) (flat_map (node_text version) job ++ rest) (known.some, known.few)
    (append_assoc (number_line (codes "job") (length job)) (flat_map (node_text version) job) rest) left
    (lines_after (node_text version) (IsNodeLine version) (AtJobs version n) (code_of_line (node_body version) (node_text version) (IsNodeLine version) (node_is_line version))
    job known.nodes 0 (length job) (omega arith) rest left wrong)

whole_jobs : (version n m : ℕ) (jobs : List (List NodeParts)) → All (IsJobLines version) jobs → m ≡ length jobs + n → (rest : List ℕ) (left : ℕ)
    → IsWrongAt (AtJobs version n) rest left → IsWrongAt (AtJobs version m) (flat_map (job_text version) jobs ++ rest) left
whole_jobs version n m [] known many rest left wrong =
    let same : n ≡ m = omega (arith, many) in
    subst (λ k. IsWrongAt (AtJobs version k) rest left) same wrong
whole_jobs version n zero (job ∷ jobs) known many rest left wrong = absurd (omega arith)
whole_jobs version n (suc m) (job ∷ jobs) known many rest left wrong =
    subst (λ l. IsWrongAt (AtJobs version (suc m)) l left) (sym (append_assoc (job_text version job) (flat_map (job_text version) jobs) rest))
    (whole_job version m job (All-head (IsJobLines version) job jobs known) (flat_map (job_text version) jobs ++ rest) left
    (whole_jobs version n m jobs (All-tail (IsJobLines version) job jobs known) (omega arith) rest left wrong))

pub jobs_wrong : (version done count : ℕ) (all : List ℕ) (jobs : List (List NodeParts)) (rest : List ℕ) → AreRead (job_text version) (IsJobLines version) done all jobs rest
    → done < count → (why : Stop) → ((n : ℕ) → Stops (AtJobs version (suc n)) rest why) → Stops (AtJobs version count) all why
jobs_wrong version done count all jobs rest so_far few why stops =
    stops_on (AtJobs version count) (AtJobs version (suc (count - done - 1))) all rest
    (λ left wrong. subst (λ l. IsWrongAt (AtJobs version count) l left) (sym so_far.is)
    (whole_jobs version (suc (count - done - 1)) count jobs so_far.known (omega (arith, so_far.many)) rest left wrong))
    why (stops (count - done - 1))

-- the end
pub end_wrong : (all : List ℕ) → ((rest : List ℕ) → all ≡ codes "end\n" ++ rest → ⊥) → IsWrongAt AtEnd all (length all)
end_wrong all none = record {
  front = [];
  rest = all;
  is = refl;
  left_is = refl;
  none = λ is. none [] (is ∙ sym (append-nil (codes "end\n")));
  more = codes "end\n";
  before = refl;
  here = λ upto others next same fewer is.
      let whole = whole_line (codes "end") upto next [] refl is fewer in
      none (whole.0 ++ others) (same ∙ ap (λ l. l ++ others) whole.1);
}

pub end_passed : (all rest : List ℕ) → all ≡ codes "end\n" ++ rest → 0 < length rest → IsWrongAt AtEnd all (length rest)
end_passed all rest is some = record {
  front = codes "end\n";
  rest = rest;
  is = is;
  left_is = refl;
  none = λ at_end. let long : length (codes "end\n" ++ rest) ≡ 4 = ap length (sym is ∙ at_end) in absurd (omega (arith, length-append (codes "end\n") rest));
  more = [];
  before = append-nil (codes "end\n");
  here = λ upto others next same fewer at_end.
      let feeds : line_feeds (upto ++ next) ≡ 1 = ap line_feeds at_end in
      absurd (omega (arith, feeds_joined upto next));
}

-- the line `problem`, and the problem's bytes
pub problem_number : IsLine (named (codes "problem ")) (number_line (codes "problem")) IsNumber
problem_number = word_line (codes "problem") refl

pub problem_code : IsCode (number_line (codes "problem")) IsNumber
problem_code = code_of_line (named (codes "problem ")) (number_line (codes "problem")) IsNumber problem_number

zeros : ℕ → List ℕ
zeros n = replicate n 0

zeros_long : (n : ℕ) → length (zeros n) ≡ n
unfolding zeros
zeros_long n = length-replicate n 0

some_problem : (version size : ℕ) → (all : List ℕ) × AtProblem version size all
some_problem version size =
    let later = some_found_count version in
    (zeros size ++ codes "\n" ++ later.0, record { problem = zeros size; rest = later.0; long = zeros_long size; is = refl; next = later.1 })

some_problem_size : (version : ℕ) → (all : List ℕ) × AtProblemSize version all
some_problem_size version =
    let later = some_problem version 0 in
    (number_line (codes "problem") 0 ++ later.0, record { value = 0; rest = later.0; known = omega arith; is = refl; next = later.1 })

pub problem_size_wrong : (all : List ℕ) → NoneBegins (number_line (codes "problem")) IsNumber all
    → (IsShortAfter all → ⊥) × ((version : ℕ) → IsWrongAt (AtProblemSize version) all (length all))
problem_size_wrong all none = (
  λ short. none short.size short.rest short.fits short.is,
  λ version.
      let some = some_problem_size version in
      then_wrong (number_line (codes "problem")) IsNumber (AtProblem version) (named (codes "problem ")) problem_number all none some.0 some.1,
)

-- a byte after a problem's bytes that is no line feed, or none
problem_wrong : (version : ℕ) (problem rest : List ℕ) → ((after : List ℕ) → rest ≡ codes "\n" ++ after → ⊥)
    → IsWrongAt (AtProblem version (length problem)) (problem ++ rest) (length rest)
problem_wrong version problem rest none =
    let later = some_found_count version in
    record {
      front = problem;
      rest = rest;
      is = refl;
      left_is = refl;
      none = λ of_set. none of_set.rest (append_parts problem of_set.problem rest (codes "\n" ++ of_set.rest) (sym of_set.long) (of_set.is ∙ append_assoc of_set.problem (codes "\n") of_set.rest)).1;
      more = codes "\n" ++ later.0;
      before = record { problem = problem; rest = later.0; long = refl; is = sym (append_assoc problem (codes "\n") later.0); next = later.1 };
      here = λ upto others next same fewer of_set.
          let past = goes_past problem rest upto others same fewer in
          let begins : problem ++ (past.part ++ next) ≡ of_set.problem ++ (codes "\n" ++ of_set.rest) =
          sym (ap (λ l. l ++ next) past.is ∙ append_assoc problem past.part next) ∙ of_set.is ∙ append_assoc of_set.problem (codes "\n") of_set.rest in
          let at_feed = append_parts problem of_set.problem (past.part ++ next) (codes "\n" ++ of_set.rest) (sym of_set.long) begins in
          let some : 0 < line_feeds past.part = omega (arith, feeds_joined problem past.part, ap line_feeds past.is) in
          let whole = whole_line [] past.part next of_set.rest refl at_feed.1 some in
          none (whole.0 ++ others) (past.rest_is ∙ ap (λ l. l ++ others) whole.1);
    }

-- the problem's bytes are read, and what comes after them is no line feed
pub problem_part_wrong : (size : ℕ) (all rest problem after : List ℕ) → IsNumber size → all ≡ number_line (codes "problem") size ++ rest → length problem ≡ size
    → rest ≡ problem ++ after → ((more : List ℕ) → after ≡ codes "\n" ++ more → ⊥)
    → (IsShortAfter all → ⊥) × ((version : ℕ) → IsWrongAt (AtProblemSize version) all (length after))
problem_part_wrong size all rest problem after small is long split none = (
  λ short.
      let both = problem_code.one size short.size rest short.rest small short.fits (sym is ∙ short.is) in
      let few : length short.rest < short.size = short.few in
      absurd (omega (arith, both.0, ap length both.1, ap length split, length-append problem after)),
  λ version.
      let here : IsWrongAt (AtProblem version size) rest (length after) =
      subst (λ n. IsWrongAt (AtProblem version n) rest (length after)) long (subst (λ l. IsWrongAt (AtProblem version (length problem)) l (length after)) (sym split) (problem_wrong version problem after none)) in
      subst (λ l. IsWrongAt (AtProblemSize version) l (length after)) (sym is)
      (then_after (number_line (codes "problem")) IsNumber (AtProblem version) problem_code size small rest (length after) here),
)

-- the first line
start_line : IsLine (named (codes "ringsearch checkpoint ")) (number_line (codes "ringsearch checkpoint")) IsVersion
start_line = fewer (named (codes "ringsearch checkpoint ")) (number_line (codes "ringsearch checkpoint")) IsNumber IsVersion version_number start_number

pub start_code : IsCode (number_line (codes "ringsearch checkpoint")) IsVersion
start_code = code_of_line (named (codes "ringsearch checkpoint ")) (number_line (codes "ringsearch checkpoint")) IsVersion start_line

some_start : (all : List ℕ) × AtStart all
some_start =
    let later = some_problem_size 1 in
    (number_line (codes "ringsearch checkpoint") 1 ++ later.0, record { value = 1; rest = later.0; known = inl refl; is = refl; next = later.1 })

-- a text that is short, after its first line
short_after : (all : List ℕ) (short : IsShort all) → all ≡ number_line (codes "ringsearch checkpoint") short.version ++ (number_line (codes "problem") short.size ++ short.rest)
short_after all short = short.is ∙ append_assoc (number_line (codes "ringsearch checkpoint") short.version) (number_line (codes "problem") short.size) short.rest

pub start_wrong : (all : List ℕ) → NoneBegins (number_line (codes "ringsearch checkpoint")) IsVersion all → StopsAtAll all (stop.Wrong (length all))
start_wrong all none = (
  λ short. none short.version (number_line (codes "problem") short.size ++ short.rest) short.known (short_after all short),
  then_wrong (number_line (codes "ringsearch checkpoint")) IsVersion AtProblemSize (named (codes "ringsearch checkpoint ")) start_line all none some_start.0 some_start.1,
)

-- after the first line
start_after : (version : ℕ) (all rest : List ℕ) → IsVersion version → all ≡ number_line (codes "ringsearch checkpoint") version ++ rest
    → (left : ℕ) → IsWrongAt (AtProblemSize version) rest left → IsWrongAt AtStart all left
start_after version all rest known is left wrong =
    subst (λ l. IsWrongAt AtStart l left) (sym is)
    (then_after (number_line (codes "ringsearch checkpoint")) IsVersion AtProblemSize start_code version known rest left wrong)

pub stops_at_problem : (version : ℕ) (all rest : List ℕ) → IsVersion version → all ≡ number_line (codes "ringsearch checkpoint") version ++ rest
    → (why : Stop) → StopsAtProblem rest why → StopsAtAll all why
stops_at_problem version all rest known is (stop.Wrong left) stops = (
  λ short.
      let both = start_code.one version short.version rest (number_line (codes "problem") short.size ++ short.rest) known short.known (sym is ∙ short_after all short) in
      stops.0 (record { size = short.size; rest = short.rest; fits = short.fits; is = both.1; few = short.few }),
  start_after version all rest known is left (stops.1 version),
)
stops_at_problem version all rest known is stop.Short short = record {
  version = version;
  size = short.size;
  rest = short.rest;
  known = known;
  fits = short.fits;
  is = is ∙ ap (λ l. number_line (codes "ringsearch checkpoint") version ++ l) short.is
      ∙ sym (append_assoc (number_line (codes "ringsearch checkpoint") version) (number_line (codes "problem") short.size) short.rest);
  few = short.few;
}
stops_at_problem version all rest known is stop.NoMemory none = none

-- with the problem's bytes a text is not short
pub not_short : (all : List ℕ) (version : ℕ) (problem rest : List ℕ) → IsHead all version problem rest → IsShort all → ⊥
not_short all version problem rest head short =
    let first = start_code.one version short.version (number_line (codes "problem") (length problem) ++ (problem ++ codes "\n" ++ rest)) (number_line (codes "problem") short.size ++ short.rest)
    head.known short.known (sym head.is ∙ short_after all short) in
    let both = problem_code.one (length problem) short.size (problem ++ codes "\n" ++ rest) short.rest head.fits short.fits first.1 in
    let few : length short.rest < short.size = short.few in
    absurd (omega (arith, both.0, ap length both.1, length-append (problem ++ codes "\n") rest, length-append problem (codes "\n")))

-- after the problem's bytes
problem_after : (version : ℕ) (problem rest : List ℕ) (left : ℕ) → IsWrongAt (AtFoundCount version) rest left → IsWrongAt (AtProblem version (length problem)) (problem ++ codes "\n" ++ rest) left
problem_after version problem rest left wrong =
    wrong_after (AtProblem version (length problem)) (AtFoundCount version) (problem ++ codes "\n") rest left
    (λ t of_set.
    let begins : problem ++ (codes "\n" ++ t) ≡ of_set.problem ++ (codes "\n" ++ of_set.rest) =
    sym (append_assoc problem (codes "\n") t) ∙ of_set.is ∙ append_assoc of_set.problem (codes "\n") of_set.rest in
    let both = append_parts problem of_set.problem (codes "\n" ++ t) (codes "\n" ++ of_set.rest) (sym of_set.long) begins in
    subst (AtFoundCount version) (sym (append_cancel_left (codes "\n") t of_set.rest both.1)) of_set.next)
    (λ t next. record { problem = problem; rest = t; long = refl; is = refl; next = next }) wrong

pub head_after : (all : List ℕ) (version : ℕ) (problem rest : List ℕ) → IsHead all version problem rest
    → (why : Stop) → Stops (AtFoundCount version) rest why → StopsAtAll all why
head_after all version problem rest head (stop.Wrong left) wrong = (
  not_short all version problem rest head,
  start_after version all (number_line (codes "problem") (length problem) ++ (problem ++ codes "\n" ++ rest)) head.known head.is left
      (then_after (number_line (codes "problem")) IsNumber (AtProblem version) problem_code (length problem) head.fits (problem ++ codes "\n" ++ rest) left
      (problem_after version problem rest left wrong)),
)
head_after all version problem rest head stop.Short short = absurd short
head_after all version problem rest head stop.NoMemory none = none

-- after the found lines, and after the jobs
pub found_after : (version : ℕ) (all : List ℕ) (found : List FoundParts) (rest : List ℕ) → IsFoundPart all found rest
    → (left : ℕ) → IsWrongAt (AtJobCount version) rest left → IsWrongAt (AtFoundCount version) all left
found_after version all found rest part left wrong =
    found_count_after version (length found) all part.lines part.few part.is left
    (subst (λ l. IsWrongAt (AtFound version (length found)) l left) (sym part.read.is)
    (lines_after found_text IsFoundLine (AtJobCount version) (code_of_line found_body found_text IsFoundLine found_is_line) found part.read.known 0 (length found) (omega arith) rest left wrong))

pub jobs_after : (version : ℕ) (all : List ℕ) (jobs : List (List NodeParts)) (rest : List ℕ) → IsJobsPart version all jobs rest
    → (left : ℕ) → IsWrongAt AtEnd rest left → IsWrongAt (AtJobCount version) all left
jobs_after version all jobs rest part left wrong =
    job_count_after version (length jobs) all part.lines part.few part.is left
    (subst (λ l. IsWrongAt (AtJobs version (length jobs)) l left) (sym part.read.is)
    (whole_jobs version 0 (length jobs) jobs part.read.known (omega arith) rest left wrong))

-- the line that tells how many there are, and as many
pub found_part_from : (count : ℕ) (all lines : List ℕ) (found : List FoundParts) (rest : List ℕ) → IsNumber count → all ≡ number_line (codes "found") count ++ lines
    → AreRead found_text IsFoundLine count lines found rest → IsFoundPart all found rest
found_part_from count all lines found rest small is read = record {
  lines = lines;
  few = subst IsNumber (sym read.many) small;
  is = subst (λ n. all ≡ number_line (codes "found") n ++ lines) (sym read.many) is;
  read = subst (λ n. AreRead found_text IsFoundLine n lines found rest) (sym read.many) read;
}

pub jobs_part_from : (version count : ℕ) (all lines : List ℕ) (jobs : List (List NodeParts)) (rest : List ℕ) → IsNumber count → all ≡ number_line (codes "jobs") count ++ lines
    → AreRead (job_text version) (IsJobLines version) count lines jobs rest → IsJobsPart version all jobs rest
jobs_part_from version count all lines jobs rest small is read = record {
  lines = lines;
  few = subst IsNumber (sym read.many) small;
  is = subst (λ n. all ≡ number_line (codes "jobs") n ++ lines) (sym read.many) is;
  read = subst (λ n. AreRead (job_text version) (IsJobLines version) n lines jobs rest) (sym read.many) read;
}

-- after the jobs a wrong end, and the same for each part before it
pub jobs_stop : (all : List ℕ) (version : ℕ) (problem found_rest : List ℕ) (found : List FoundParts) (jobs_rest : List ℕ) (why : Stop) → IsHead all version problem found_rest
    → IsFoundPart found_rest found jobs_rest → Stops (AtJobCount version) jobs_rest why → StopsAtAll all why
jobs_stop all version problem found_rest found jobs_rest why head found_part stops =
    head_after all version problem found_rest head why
    (stops_on (AtFoundCount version) (AtJobCount version) found_rest jobs_rest (found_after version found_rest found jobs_rest found_part) why stops)

pub end_stops : (all : List ℕ) (version : ℕ) (problem found_rest : List ℕ) (found : List FoundParts) (jobs_rest : List ℕ) (jobs : List (List NodeParts)) (end_rest : List ℕ)
    (why : Stop) → IsHead all version problem found_rest → IsFoundPart found_rest found jobs_rest → IsJobsPart version jobs_rest jobs end_rest → Stops AtEnd end_rest why → StopsAtAll all why
end_stops all version problem found_rest found jobs_rest jobs end_rest why head found_part jobs_part stops =
    jobs_stop all version problem found_rest found jobs_rest why head found_part
    (stops_on (AtJobCount version) AtEnd jobs_rest end_rest (jobs_after version jobs_rest jobs end_rest jobs_part) why stops)
