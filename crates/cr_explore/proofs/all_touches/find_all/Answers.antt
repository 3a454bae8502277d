use Rattle.std.proofs.Common.{ℕ, List, ◌≡◌, ◌+◌, ◌-◌, ◌<◌, length, get_or, inl, inr, refl, sym, ap, ◌∙◌, subst, arith}
use Rattle.std.proofs.lemmas.Result.{IfOk-from_err}
use Rattle.cr_model.specs.Problems.{ProblemParts}
use Rattle.cr_model.specs.Nodes.{IsValid}
use Rattle.cr_model.specs.Sound.{IsSound}
use Rattle.cr_model.specs.Sizes.{most_rows}
use Rattle.cr_explore.specs.Passing.{IsDealtWith, IsSplitSoFar}
use Rattle.cr_explore.specs.Stacks.{place_at, stack_of, IsPlace, IsTaken, IsPathEnded}
use Rattle.cr_explore.proofs.OneTest.{where_ok}
use Rattle.cr_explore.proofs.Passing.{PassLaws, still_place, begins, goes_on, none_left, ends}
use Rattle.cr_explore.proofs.Places.{job_taken}
use Rattle.cr_explore.proofs.Taking.{RunProgress}
use Rattle.cr_explore.proofs.all_touches.find_all.Goals as goal
use Rattle.cr_explore.proofs.all_touches.find_all.Goals.{then-not-descend+else-left-eq0, else-not-descend, else-loop-used-test, then-loop-used-test+then-not-descend+then-left-eq0}

pub loop-used-init : goal.loop-used-init
loop-used-init g c =
    let p = g.P.Path.problem_of c.args.path in
    let node = g.P.Path.node_of c.args.path in
    let job = c.args.job.now in
    let here : length c.node-base.result.now ≡ length node = ap length c.node-base.ensures in
    record {
      few = omega arith;
      problem = refl;
      place = record { sound = c.requires.sound; valid = c.requires.node; below = omega (arith, here); next = omega (arith, c.requires.tried) };
      left = omega arith;
      so_far = begins p job c.new-found.result.items (length c.node-base.result.now) (g.P.Path.next_of c.args.path) node
          (c.work_goes_on.ensures.not_begun p job c.requires.job) c.new-found.ensures.items here c.requires.tried;
    }

pub loop-used-preserved : goal.loop-used-preserved
loop-used-preserved g c =
    let p = g.P.Path.problem_of c.args.path in
    let job = c.args.job.now in
    let from = g.P.Path.node_of c.loop-used.path in
    let before = place_at c.loop-used.left c.loop-used.base (g.P.Path.next_of c.loop-used.path) in
    let to = g.P.Path.node_of c.if-not-descend.path in
    let Now = λ (path : g.row.P.Denot) (left base : ℕ). RunProgress p most_rows job before from (g.P.Path.problem_of path) left base (g.P.Path.next_of path) (g.P.Path.node_of path) in
    let down = g.P.Path.problem_of c.descend.new.path in
    let went : down ≡ p = c.descend.ensures.problem ∙ c.loop-used.invariant.problem in
    let goes : Now c.if-not-descend.path c.if-not-descend.left c.if-not-descend.base = elim c.if-not-descend.branch [
      | then-not-descend+else-left-eq0 w ↦
          let number = c.loop-used.left in
          let steps = w.steps-steps.result.now in
          let path = w.gone_to-path.result in
          let some : 0 < number = omega (arith, w.if-left-eq0.false) in
          let ended : IsPathEnded p most_rows job before from (place_at number c.loop-used.base (g.P.Path.next_of c.descend.new.path)) (g.P.Path.node_of c.descend.new.path) =
          subst (λ (q : ProblemParts). IsPathEnded q most_rows job before from (place_at number c.loop-used.base (g.P.Path.next_of c.descend.new.path)) (g.P.Path.node_of c.descend.new.path))
          c.loop-used.invariant.problem (c.descend.ensures.ends w.if-not-descend.true number job) in
          let read : steps ≡ get_or job (number - 1) steps = w.steps-steps.ensures.is ∙ w.index-job-left.is ∙ ap (get_or job (number - 1)) (sym w.steps-steps.ensures.is) in
          let taken : IsTaken p most_rows job before from (place_at (number - 1) (length steps) (g.P.Path.next_of path)) steps =
          job_taken p most_rows job before from number (g.P.Path.next_of path) steps ended.first some c.loop-used.invariant.left read w.gone_to-path.ensures.next in
          let valid : IsValid (g.P.Path.problem_of path) (g.P.Path.node_of path) =
          subst (λ (q : ProblemParts). IsValid q (g.P.Path.node_of path)) (sym (w.gone_to-path.ensures.problem ∙ went))
          (subst (IsValid p) (sym (w.gone_to-path.ensures.node ∙ read)) (c.requires.job.valid (number - 1) steps (omega (arith, c.loop-used.invariant.left)))) in
          let there : Now path (number - 1) (length steps) = record {
            problem = w.gone_to-path.ensures.problem ∙ went;
            place = record {
              sound = subst IsSound (sym w.gone_to-path.ensures.problem) c.descend.ensures.place.sound;
              valid = valid;
              below = omega (arith, ap length w.gone_to-path.ensures.node);
              next = omega (arith, w.gone_to-path.ensures.next);
            };
            inside = omega (arith, c.loop-used.invariant.left);
            taken = subst (λ (n : List ℕ). IsTaken p most_rows job before from (place_at (number - 1) (length steps) (g.P.Path.next_of path)) n) (sym w.gone_to-path.ensures.node) taken;
          } in
          rw (w.path-is, w.left-is, w.base-is) there
      | else-not-descend w ↦
          let number = c.loop-used.left in
          let path = c.descend.new.path in
          let there : Now path number c.loop-used.base = record {
            problem = went;
            place = c.descend.ensures.place;
            inside = c.loop-used.invariant.left;
            taken = subst (λ (q : ProblemParts). IsTaken q most_rows job before from (place_at number c.loop-used.base (g.P.Path.next_of path)) (g.P.Path.node_of path)) c.loop-used.invariant.problem
                (c.descend.ensures.goes w.if-not-descend.false number job);
          } in
          rw (w.path-is, w.left-is, w.base-is) there
    ] in
    let q = g.P.Path.problem_of c.if-not-descend.path in
    let base = c.if-not-descend.base in
    let next = g.P.Path.next_of c.if-not-descend.path in
    let after = g.P.Path.next_of c.deal_with.new.path in
    let found = c.loop-used.found.items in
    let now = c.deal_with.new.found.items in
    let dealt : IsDealtWith q to found next now after = where_ok c.deal_with.result _ (sym c.is_err.ensures.value ∙ c.if-is_err.false) c.deal_with.ensures.turn in
    let here : IsDealtWith p to found next now after = subst (λ (r : ProblemParts). IsDealtWith r to found next now after) goes.problem dealt in
    let laws : PassLaws p = record {
      turned = λ job found below node. c.a_turn_goes_on_with_a_split.ensures.splits p job found below node c.requires.sound;
      turned_size = λ below node. c.a_turn_goes_on_with_a_split.ensures.size p below node c.requires.sound;
      passed = c.nodes_with_none_below_may_be_left_out.ensures.splits p;
      passed_size = λ rest passed. c.nodes_with_none_below_may_be_left_out.ensures.size p rest passed c.requires.sound;
    } in
    let place : IsPlace q (place_at 0 base after) to = still_place q base next after to found now goes.place dealt in
    record {
      few = omega arith;
      problem = c.deal_with.ensures.problem ∙ goes.problem;
      place = subst (λ (n : List ℕ). IsPlace (g.P.Path.problem_of c.deal_with.new.path) (place_at 0 base after) n) (sym c.deal_with.ensures.node)
          (subst (λ (r : ProblemParts). IsPlace r (place_at 0 base after) to) (sym c.deal_with.ensures.problem) place);
      left = goes.inside;
      so_far = subst (λ (n : List ℕ). IsSplitSoFar p job now (stack_of p most_rows job (place_at c.if-not-descend.left base after) n) (c.loop-used.used + 1)) (sym c.deal_with.ensures.node)
          (goes_on p job laws before from c.if-not-descend.left base next after to found now c.loop-used.used goes.taken here c.loop-used.invariant.so_far);
    }

pub returns-then-is_err : goal.returns-then-is_err
returns-then-is_err g c = record {
  splits = IfOk-from_err _ _ c.without_memory.ensures;
  smaller = IfOk-from_err _ _ c.without_memory.ensures;
  few = IfOk-from_err _ _ c.without_memory.ensures;
  ends = IfOk-from_err _ _ c.without_memory.ensures;
}

pub returns : goal.returns
returns g c =
    let p = g.P.Path.problem_of c.args.path in
    let job = c.args.job.now in
    let found = c.loop-used.found.items in
    let used = c.loop-used.used in
    let left = c.loop-used.left in
    let base = c.loop-used.base in
    let Stack = λ (path : g.row.P.Denot) (q : ProblemParts). stack_of q most_rows job (place_at left base (g.P.Path.next_of path)) (g.P.Path.node_of path) in
    elim c.loop-used-test.branch [
      | else-loop-used-test w ↦
          let rest : c.in_ok-rest.rest.items ≡ Stack c.loop-used.path p =
          c.in_ok-rest.ensures ∙ ap (λ (path : g.row.P.Denot). Stack path (g.P.Path.problem_of path)) w.path-is ∙ ap (Stack c.loop-used.path) c.loop-used.invariant.problem in
          let so_far : IsSplitSoFar p job found c.in_ok-rest.rest.items used = subst (λ (nodes : List (List ℕ)). IsSplitSoFar p job found nodes used) (sym rest) c.loop-used.invariant.so_far in
          let all : used ≡ c.args.turns = omega (arith, w.loop-used-test.false, c.loop-used.invariant.few) in
          record { splits = so_far.splits; smaller = so_far.smaller; few = c.loop-used.invariant.few; ends = inr all }
      | then-loop-used-test+then-not-descend+then-left-eq0 w ↦
          let to = w.descend.new.path in
          let rest : c.in_ok-rest.rest.items ≡ Stack to p =
          c.in_ok-rest.ensures ∙ ap (λ (path : g.row.P.Denot). Stack path (g.P.Path.problem_of path)) w.path-is ∙ ap (Stack to) (w.descend.ensures.problem ∙ c.loop-used.invariant.problem) in
          let before = place_at left base (g.P.Path.next_of c.loop-used.path) in
          let from = g.P.Path.node_of c.loop-used.path in
          let after = place_at left base (g.P.Path.next_of to) in
          let ended : IsPathEnded p most_rows job before from after (g.P.Path.node_of to) =
          subst (λ (q : ProblemParts). IsPathEnded q most_rows job before from after (g.P.Path.node_of to)) c.loop-used.invariant.problem (w.descend.ensures.ends w.if-not-descend.true left job) in
          let so_far : IsSplitSoFar p job found c.in_ok-rest.rest.items used = subst (λ (nodes : List (List ℕ)). IsSplitSoFar p job found nodes used) (sym rest)
          (ends p job before from after (g.P.Path.node_of to) ended w.if-left-eq0.true w.if-left-eq0.true found used c.loop-used.invariant.so_far) in
          record {
            splits = so_far.splits;
            smaller = so_far.smaller;
            few = c.loop-used.invariant.few;
            ends = inl (rest ∙ none_left p job before from after (g.P.Path.node_of to) ended w.if-left-eq0.true w.if-left-eq0.true);
          }
    ]
