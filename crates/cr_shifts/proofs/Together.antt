-- What the jobs of a shift found and left, together.
use Rattle.std.proofs.Common.{◌≡◌, ℕ, zero, suc, ◌+◌, ◌-◌, ◌<◌, ◌≤◌, List, [], ◌∷◌, ◌++◌, length, get_or, All, refl, sym, ap, ap₂, ◌∙◌, subst, arith, length-append, append-nil}
use Rattle.std.specs.Global.{Vec}
use Rattle.std.specs.List.{AllZip}
use Rattle.std.specs.List.Sorted.{IsPermutation}
use Rattle.std.proofs.lemmas.List.{length-map, get_or-map, get_or_append_left, get_or-append_right, append_assoc}
use Rattle.std.proofs.lemmas.List.Sorted.{IsPermutation-append_comm}
use Rattle.cr_model.specs.Problems.{ProblemParts}
use Rattle.cr_model.specs.Checkpoints.{CanGoOn, nodes_of_jobs}
use Rattle.cr_model.specs.Nodes.{is_prefix, IsValid, Independent, Splits}
use Rattle.cr_model.specs.Sizes.{most_rows, size_of_all}
use Rattle.cr_node.specs.Work.{IsJob}
use Rattle.cr_store.specs.Written.{lists}
use Rattle.cr_shifts.specs.declared.finder.Findings.{Findings}
use Rattle.cr_shifts.specs.Shifts.{IsPartDone, GoesOn, found_by, left_by}

-- what the laws on splits and sizes say
abbrev pub AmongOthers : Type 0
AmongOthers = (p : ProblemParts) (job found rest others : List (List ℕ)) → Splits p job found rest → All (IsValid p) others
    → Independent p [] (others ++ job) → Splits p (others ++ job) found (others ++ rest)

abbrev pub Onward : Type 0
Onward = (p : ProblemParts) (job found rest more left : List (List ℕ)) → Splits p job found rest → Splits p rest more left → Splits p job (found ++ more) left

abbrev pub AnyOrder : Type 0
AnyOrder = (p : ProblemParts) (job found rest other : List (List ℕ)) → IsPermutation rest other → Splits p job found rest → Splits p job found other

abbrev pub Joined : Type 0
Joined = (p : ProblemParts) (most : ℕ) (nodes more : List (List ℕ)) → size_of_all p most (nodes ++ more) ≡ size_of_all p most nodes + size_of_all p most more

-- nodes that are apart from found touches are apart
pub alone : (p : ProblemParts) (found nodes : List (List ℕ)) → Independent p found nodes → Independent p [] nodes
alone p found nodes apart = record { nodes_apart = apart.nodes_apart; found_apart = λ i j inside within. absurd (omega (arith, within)) }

-- the front and the back of some nodes that are apart
front_apart : (p : ProblemParts) (front back : List (List ℕ)) → Independent p [] (front ++ back) → Independent p [] front
front_apart p front back apart = record {
  nodes_apart = λ i j inside within differ.
      ap₂ is_prefix (sym (get_or_append_left front back [] i inside)) (sym (get_or_append_left front back [] j within))
      ∙ apart.nodes_apart i j (omega (arith, length-append front back)) (omega (arith, length-append front back)) differ;
  found_apart = λ i j inside within. absurd (omega (arith, within));
}

back_read : (front back : List (List ℕ)) (i : ℕ) → get_or (front ++ back) (length front + i) [] ≡ get_or back i []
back_read front back i =
    let place : length front + i - length front ≡ i = omega arith in
    get_or-append_right front back (length front) (length front + i) [] refl (omega arith) ∙ ap (λ n. get_or back n []) place

back_apart : (p : ProblemParts) (front back : List (List ℕ)) → Independent p [] (front ++ back) → Independent p [] back
back_apart p front back apart = record {
  nodes_apart = λ i j inside within differ.
      ap₂ is_prefix (sym (back_read front back i)) (sym (back_read front back j))
      ∙ apart.nodes_apart (length front + i) (length front + j) (omega (arith, length-append front back)) (omega (arith, length-append front back))
      (λ same. differ (omega (arith, same)));
  found_apart = λ i j inside within. absurd (omega (arith, within));
}

-- the front and the back of nodes of which all are so
front_all : (P : List ℕ → Type 0) (front back : List (List ℕ)) → All P (front ++ back) → All P front
front_all P front back all = λ i d inside. subst P (get_or_append_left front back d i inside) (all i d (omega (arith, length-append front back)))

back_all : (P : List ℕ → Type 0) (front back : List (List ℕ)) → All P (front ++ back) → All P back
back_all P front back all = λ i d inside.
    let place : length front + i - length front ≡ i = omega arith in
    subst P (get_or-append_right front back (length front) (length front + i) d refl (omega arith) ∙ ap (λ n. get_or back n d) place)
    (all (length front + i) d (omega (arith, length-append front back)))

-- the nodes of one job more
pub one_job_more : (jobs : List (Vec (List ℕ))) (job : Vec (List ℕ)) → nodes_of_jobs (lists jobs) ++ job.items ≡ nodes_of_jobs (lists (jobs ++ job ∷ []))
one_job_more [] job = sym (append-nil job.items)
one_job_more (first ∷ jobs) job = append_assoc first.items (nodes_of_jobs (lists jobs)) job.items ∙ ap (λ nodes. first.items ++ nodes) (one_job_more jobs job)

-- jobs of which none is empty have nodes
pub some_nodes_of : (jobs : List (List (List ℕ))) → 0 < length jobs → All (λ job. 0 < length job) jobs → 0 < length (nodes_of_jobs jobs)
some_nodes_of [] some filled = absurd (omega (arith, some))
some_nodes_of (job ∷ jobs) some filled =
    let first : 0 < length job = filled 0 job (omega arith) in
    omega (arith, first, length-append job (nodes_of_jobs jobs))

-- each of some jobs whose nodes are valid and apart is one
pub each_job : (p : ProblemParts) (jobs : List (List (List ℕ))) → All (λ job. 0 < length job) jobs → All (IsValid p) (nodes_of_jobs jobs)
    → Independent p [] (nodes_of_jobs jobs) → All (IsJob p) jobs
each_job p [] filled valid apart = λ i d inside. absurd (omega (arith, inside))
each_job p (job ∷ jobs) filled valid apart =
    at (each_job p jobs (λ n e within. filled (suc n) e (omega (arith, within))) (back_all (IsValid p) job (nodes_of_jobs jobs) valid)
    (back_apart p job (nodes_of_jobs jobs) apart))
  where
    at : All (IsJob p) jobs → (i : ℕ) (d : List (List ℕ)) → i < length (job ∷ jobs) → IsJob p (get_or (job ∷ jobs) i d)
    at others zero d inside = record { some = filled 0 d inside; valid = front_all (IsValid p) job (nodes_of_jobs jobs) valid; independent = front_apart p job (nodes_of_jobs jobs) apart }
    at others (suc k) d inside = others k d (omega (arith, inside))

-- so the jobs from which a search can go on are
pub jobs_to_go_on : (p : ProblemParts) (jobs : List (Vec (List ℕ))) → CanGoOn p [] (lists jobs) → All (λ (job : Vec (List ℕ)). IsJob p job.items) jobs
jobs_to_go_on p jobs on = λ i d inside.
    subst (IsJob p) (get_or-map (λ (job : Vec (List ℕ)). job.items) jobs i d d.items inside)
    (each_job p (lists jobs) on.filled on.valid on.independent i d.items (omega (arith, inside, length-map jobs (λ (job : Vec (List ℕ)). job.items))))

-- the first job goes behind the others
to_back : (job tail left : List (List ℕ)) → IsPermutation ((job ++ tail) ++ left) ((tail ++ left) ++ job)
to_back job tail left = subst (λ nodes. IsPermutation nodes ((tail ++ left) ++ job)) (sym (append_assoc job tail left)) (IsPermutation-append_comm job (tail ++ left))

-- job by job
pub gathered : AmongOthers → Onward → AnyOrder → (p : ProblemParts) (nodes found left : List (List ℕ)) (jobs : List (Vec (List ℕ))) (done : List Findings)
    → AllZip (λ (job : Vec (List ℕ)). IsPartDone p job.items) jobs done → Splits p nodes found (nodes_of_jobs (lists jobs) ++ left)
    → Splits p nodes (found ++ found_by done) (left ++ left_by done)
gathered among onward any p nodes found left [] [] all so_far =
    subst (λ f. Splits p nodes f (left ++ [])) (sym (append-nil found)) (subst (Splits p nodes found) (sym (append-nil left)) so_far)
gathered among onward any p nodes found left [] (one ∷ done) all so_far = absurd all
gathered among onward any p nodes found left (job ∷ jobs) [] all so_far = absurd all
gathered among onward any p nodes found left (job ∷ jobs) (one ∷ done) all so_far =
    let tail = nodes_of_jobs (lists jobs) in
    let others = tail ++ left in
    let turned : Splits p nodes found (others ++ job.items) =
    any p nodes found ((job.items ++ tail) ++ left) (others ++ job.items) (to_back job.items tail left) so_far in
    let valid : All (IsValid p) others = front_all (IsValid p) others job.items (λ k d inside. (turned.rest_valid k d inside).0) in
    let step : Splits p nodes (found ++ one.found.items) (others ++ one.rest.items) =
    onward p nodes found (others ++ job.items) one.found.items (others ++ one.rest.items) turned
    (among p job.items one.found.items one.rest.items others all.0.splits valid (alone p found (others ++ job.items) turned.independent)) in
    let rest = gathered among onward any p nodes (found ++ one.found.items) (left ++ one.rest.items) jobs done all.1
    (subst (Splits p nodes (found ++ one.found.items)) (append_assoc tail left one.rest.items) step) in
    subst (λ f. Splits p nodes f (left ++ (one.rest.items ++ left_by done))) (append_assoc found one.found.items (found_by done))
    (subst (Splits p nodes ((found ++ one.found.items) ++ found_by done)) (append_assoc left one.rest.items (left_by done)) rest)

-- each job leaves less than it had
pub less_left : Joined → (p : ProblemParts) (jobs : List (Vec (List ℕ))) (done : List Findings) → AllZip (λ (job : Vec (List ℕ)). IsPartDone p job.items) jobs done
    → size_of_all p most_rows (left_by done) + length jobs ≤ size_of_all p most_rows (nodes_of_jobs (lists jobs))
less_left joined p [] [] all = omega arith
less_left joined p [] (one ∷ done) all = absurd all
less_left joined p (job ∷ jobs) [] all = absurd all
less_left joined p (job ∷ jobs) (one ∷ done) all =
    let first : size_of_all p most_rows one.rest.items < size_of_all p most_rows job.items = all.0.smaller in
    omega (arith, first, less_left joined p jobs done all.1, joined p most_rows one.rest.items (left_by done), joined p most_rows job.items (nodes_of_jobs (lists jobs)))

-- nothing is found yet
pub not_begun : (p : ProblemParts) (nodes found : List (List ℕ)) → Splits p nodes [] nodes → GoesOn p nodes found found nodes
not_begun p nodes found splits = record { more = []; behind = sym (append-nil found); splits = splits }

-- one shift more
pub one_more : Onward → (p : ProblemParts) (nodes before found left : List (List ℕ)) (done : List Findings) (now after : List (List ℕ))
    → GoesOn p nodes before found left → Splits p left (found_by done) (left_by done) → now ≡ found ++ found_by done → after ≡ left_by done
    → GoesOn p nodes before now after
one_more onward p nodes before found left done now after on splits is rest = record {
  more = on.more ++ found_by done;
  behind = is ∙ ap (λ f. f ++ found_by done) on.behind ∙ append_assoc before on.more (found_by done);
  splits = subst (Splits p nodes (on.more ++ found_by done)) (sym rest) (onward p nodes on.more left (found_by done) (left_by done) on.splits splits);
}
