-- What the jobs of a shift found and left, each by one call.
use Rattle.std.proofs.Common.{◌≡◌, ℕ, ◌<◌, List, [], ◌∷◌, length, sym, ap, ◌∙◌, subst, arith}
use Rattle.std.specs.Prelude.{◌++◌, All}
use Rattle.std.specs.Global.{Vec}
use Rattle.std.proofs.lemmas.List.{length-map, get_or-map, append-nil}
use Rattle.std.proofs.lemmas.Result.{IfOk-weaker}
use Rattle.cr_model.specs.Checkpoints.{nodes_of_jobs}
use Rattle.cr_model.specs.Nodes.{IsValid, Independent, Splits}
use Rattle.cr_model.specs.Sizes.{most_rows, size_of_all}
use Rattle.cr_node.specs.Work.{IsJob}
use Rattle.cr_store.specs.Written.{lists}
use Rattle.cr_shifts.specs.declared.finder.Findings.{Findings}
use Rattle.cr_shifts.specs.Shifts.{IsPartDone}
use Rattle.cr_book.proofs.EachMade.{each_made}
use Rattle.cr_shifts.proofs.Together.{some_nodes_of, each_job, gathered, less_left}
use Rattle.cr_shifts.proofs.shifts.one_shift.Goals as goal

pub each_in_a_thread-requires-after_bounds : goal.each_in_a_thread-requires-after_bounds
each_in_a_thread-requires-after_bounds g c κs within = λ i x inside read.
    let p = g.F.Finder.finds c.args.finder.now in
    let jobs = c.in_ok-jobs.jobs.items in
    let all = each_job p (lists jobs) c.in_ok-jobs.ensures.filled
    (subst (All (IsValid p)) (sym c.in_ok-jobs.ensures.all) c.requires.valid)
    (subst (Independent p []) (sym c.in_ok-jobs.ensures.all) c.requires.independent) in (
      subst (IsJob p) (get_or-map (λ (job : Vec (List ℕ)). job.items) jobs i x x.items inside ∙ ap (λ (job : Vec (List ℕ)). job.items) (sym read))
          (all i x.items (omega (arith, inside, length-map jobs (λ (job : Vec (List ℕ)). job.items)))),
      c.requires.turns,
    )

pub returns-clause-splits : goal.returns-clause-splits
returns-clause-splits g c =
    let p = g.F.Finder.finds c.args.finder.now in
    let jobs = c.in_ok-jobs.jobs.items in
    let begun : Splits p (nodes_of_jobs (lists c.args.left.items)) [] (nodes_of_jobs (lists jobs) ++ []) =
    subst (Splits p (nodes_of_jobs (lists c.args.left.items)) []) (sym c.in_ok-jobs.ensures.all ∙ sym (append-nil (nodes_of_jobs (lists jobs))))
    (c.splits_follow_one_another.ensures.not_begun p (nodes_of_jobs (lists c.args.left.items)) c.requires.valid c.requires.independent) in
    IfOk-weaker c.all_made.result _ _ (λ made is.
    gathered c.a_split_among_others.ensures c.splits_follow_one_another.ensures.onward c.a_split_in_any_order.ensures.splits
    p (nodes_of_jobs (lists c.args.left.items)) [] [] jobs made.items
    (each_made (λ (job : Vec (List ℕ)) (one : Findings). IsPartDone p job.items one) jobs c.in_ok-results.results.items made.items is
    (omega (arith, c.in_ok-results.ensures.len, c.in_ok-results.results.ok.0, c.in_ok-jobs.jobs.ok.0))
    (λ i d inside. let h = (c.in_ok-results.ensures.each i d inside).1 in (h.job, h.job_is, h.call.met))) begun) c.all_made.ensures

pub returns-clause-smaller : goal.returns-clause-smaller
returns-clause-smaller g c =
    let p = g.F.Finder.finds c.args.finder.now in
    let jobs = c.in_ok-jobs.jobs.items in
    let all : size_of_all p most_rows (nodes_of_jobs (lists jobs)) ≡ size_of_all p most_rows (nodes_of_jobs (lists c.args.left.items)) = ap (size_of_all p most_rows) c.in_ok-jobs.ensures.all in
    IfOk-weaker c.all_made.result _ _ (λ made is.
    let less = less_left c.sizes_are_sums.ensures.joined p jobs made.items
    (each_made (λ (job : Vec (List ℕ)) (one : Findings). IsPartDone p job.items one) jobs c.in_ok-results.results.items made.items is
    (omega (arith, c.in_ok-results.ensures.len, c.in_ok-results.results.ok.0, c.in_ok-jobs.jobs.ok.0))
    (λ i d inside. let h = (c.in_ok-results.ensures.each i d inside).1 in (h.job, h.job_is, h.call.met))) in
    omega (arith, less, all, some jobs c.in_ok-jobs.ensures.all (some_nodes_of (lists c.args.left.items) (omega (arith, c.requires.some, length-map c.args.left.items (λ (job : Vec (List ℕ)). job.items))) c.requires.filled))) c.all_made.ensures
  where
    some : (jobs : List (Vec (List ℕ))) {nodes : List (List ℕ)} → nodes_of_jobs (lists jobs) ≡ nodes → 0 < length nodes → 0 < length jobs
    some [] is inside = absurd (omega (arith, ap length is, inside))
    some (job ∷ jobs) is inside = omega arith
