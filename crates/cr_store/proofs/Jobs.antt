-- Nodes cut into jobs, from the last.
use Rattle.std.proofs.Common.{◌≡◌, ℕ, ◌+◌, ◌-◌, ◌<◌, ◌≤◌, List, [], ◌∷◌, ◌++◌, length, get_or, map, take, drop, reverse, refl, sym, ap, ap₂, ◌∙◌, subst, arith, append_assoc, append-nil, take-append-drop}
use Rattle.std.specs.Global.{Vec}
use Rattle.std.proofs.lemmas.List.{take_more, drop_more, take_all, drop_all, length-take, length-drop, reverse-append, nil_from_length}
use Rattle.cr_model.specs.Checkpoints.{nodes_of_jobs}
use Rattle.cr_store.specs.Lines.{in_all}
use Rattle.cr_store.specs.Progress.{AreJobs}
use Rattle.cr_store.specs.Written.{lists}

all_joined : (xs ys : List ℕ) → in_all (xs ++ ys) ≡ in_all xs + in_all ys
all_joined [] ys =
    let whole : in_all ([] ++ ys) ≡ in_all ys = refl in
    let none : in_all [] ≡ 0 = refl in
    omega (arith, whole, none)
all_joined (x ∷ xs) ys =
    let whole : in_all ((x ∷ xs) ++ ys) ≡ x + in_all (xs ++ ys) = refl in
    let front : in_all (x ∷ xs) ≡ x + in_all xs = refl in
    omega (arith, whole, front, all_joined xs ys)

-- some nodes are left for the first jobs, and the jobs after them have the others, the last job first
pub record AreLastJobs (sizes : List ℕ) (nodes : List (List ℕ)) (index : ℕ) (left : List (List ℕ)) (jobs : List (List (List ℕ))) : Type 0 where
  pub low : index ≤ length sizes
  pub long : length left ≡ in_all (take index sizes)
  pub nodes_are : left ++ nodes_of_jobs (reverse jobs) ≡ nodes
  pub lengths_are : map length (reverse jobs) ≡ drop index sizes

module _ (sizes : List ℕ) (nodes : List (List ℕ)) where
  -- no job is cut before all
  pub none_cut : in_all sizes ≡ length nodes → AreLastJobs sizes nodes (length sizes) nodes []
  none_cut long = record {
    low = omega arith;
    long = sym long ∙ ap in_all (sym (take_all (length sizes) sizes (omega arith)));
    nodes_are = append-nil nodes;
    lengths_are = sym (drop_all (length sizes) sizes (omega arith));
  }

  -- the nodes of the last job before some
  last_long : (index : ℕ) (left : List (List ℕ)) (jobs : List (List (List ℕ))) → index < length sizes → AreLastJobs sizes nodes (index + 1) left jobs
      → length left ≡ in_all (take index sizes) + get_or sizes index 0
  last_long index left jobs inside are =
      let whole = are.long ∙ ap in_all (take_more sizes index 0 inside) ∙ all_joined (take index sizes) (get_or sizes index 0 ∷ []) in
      omega (arith, whole)

  one_cut : (index : ℕ) (left : List (List ℕ)) (jobs : List (List (List ℕ))) (at : ℕ) → index < length sizes → AreLastJobs sizes nodes (index + 1) left jobs
      → at + get_or sizes index 0 ≡ length left → AreLastJobs sizes nodes index (take at left) (jobs ++ drop at left ∷ [])
  one_cut index left jobs at inside are place =
      let turned : reverse (jobs ++ drop at left ∷ []) ≡ drop at left ∷ reverse jobs = reverse-append jobs (drop at left ∷ []) in
      record {
        low = omega arith;
        long = omega (arith, place, length-take at left, last_long index left jobs inside are);
        nodes_are = ap (λ js. take at left ++ nodes_of_jobs js) turned
            ∙ sym (append_assoc (take at left) (drop at left) (nodes_of_jobs (reverse jobs)))
            ∙ ap (λ l. l ++ nodes_of_jobs (reverse jobs)) (take-append-drop at left) ∙ are.nodes_are;
        lengths_are = ap (map length) turned
            ∙ ap₂ ◌∷◌ (omega (arith, place, length-drop at left)) are.lengths_are
            ∙ sym (drop_more sizes index 0 inside);
      }

  -- all jobs are cut
  pub all_cut : (left : List (List ℕ)) (jobs : List (List (List ℕ))) → AreLastJobs sizes nodes 0 left jobs → AreJobs sizes nodes (reverse jobs)
  all_cut left jobs are = record {
    nodes_are = ap (λ l. l ++ nodes_of_jobs (reverse jobs)) (sym (nil_from_length left are.long)) ∙ are.nodes_are;
    lengths_are = are.lengths_are;
  }

-- one job more, and all of them turned round, as lists
pub lists_more : (jobs : List (Vec (List ℕ))) (job : Vec (List ℕ)) → lists (jobs ++ job ∷ []) ≡ lists jobs ++ job.items ∷ []
lists_more [] job = refl
lists_more (first ∷ jobs) job = ap (λ l. first.items ∷ l) (lists_more jobs job)

pub lists_turned : (jobs : List (Vec (List ℕ))) → lists (reverse jobs) ≡ reverse (lists jobs)
lists_turned [] = refl
lists_turned (job ∷ jobs) =
    ap lists (reverse-append (job ∷ []) jobs) ∙ lists_more (reverse jobs) job ∙ ap (λ l. l ++ job.items ∷ []) (lists_turned jobs) ∙ sym (reverse-append (job.items ∷ []) (lists jobs))

module _ (sizes : List ℕ) (nodes : List (List ℕ)) (index : ℕ) (left : List (List ℕ)) (old : List (Vec (List ℕ))) (some : 0 < index)
    (are : AreLastJobs sizes nodes index left (lists old)) where
  inside : index - 1 < length sizes
  inside = omega (arith, are.low)

  before : AreLastJobs sizes nodes (index - 1 + 1) left (lists old)
  before = let same : index ≡ index - 1 + 1 = omega arith in subst (λ i. AreLastJobs sizes nodes i left (lists old)) same are

  -- the last job has no more nodes than are left
  pub job_is_left : get_or sizes (index - 1) 0 ≤ length left
  job_is_left = omega (arith, last_long sizes nodes (index - 1) left (lists old) inside before)

  -- and is cut off
  pub job_is_cut : (at : ℕ) (rest : List (List ℕ)) (tail : Vec (List ℕ)) (new : List (Vec (List ℕ))) → at ≡ length left - get_or sizes (index - 1) 0 → rest ≡ take at left
      → tail.items ≡ drop at left → new ≡ old ++ tail ∷ [] → AreLastJobs sizes nodes (index - 1) rest (lists new)
  job_is_cut at rest tail new place rest_is tail_is new_is =
      let cut = one_cut sizes nodes (index - 1) left (lists old) at inside before (omega (arith, place, job_is_left)) in
      let jobs : lists new ≡ lists old ++ drop at left ∷ [] = ap lists new_is ∙ lists_more old tail ∙ ap (λ l. lists old ++ l ∷ []) tail_is in
      subst (λ js. AreLastJobs sizes nodes (index - 1) rest js) (sym jobs)
      (subst (λ r. AreLastJobs sizes nodes (index - 1) r (lists old ++ drop at left ∷ [])) (sym rest_is) cut)
