use Rattle.std.proofs.Common.{ℕ, List, ◌≡◌, ◌-◌, ◌<◌, ◌++◌, length, get_or, refl, sym, ap, ◌∙◌, subst, arith}
use Rattle.std.proofs.lemmas.Result.{IfOk-from_err}
use Rattle.cr_model.specs.Problems.{ProblemParts}
use Rattle.cr_model.specs.Nodes.{IsValid}
use Rattle.cr_model.specs.OneTurn.{touch_found}
use Rattle.cr_model.specs.Sound.{IsSound}
use Rattle.cr_model.specs.Sizes.{most_rows}
use Rattle.cr_explore.specs.Stacks.{place_at, stack_of, IsTaken, IsPathEnded}
use Rattle.cr_explore.specs.Turns.{after_turns}
use Rattle.cr_explore.proofs.OneTest.{where_ok}
use Rattle.cr_explore.proofs.Places.{job_taken}
use Rattle.cr_explore.proofs.Taking.{RunProgress, so_far, starts, goes_on, ends}
use Rattle.cr_explore.proofs.search.take_turns.Goals as goal
use Rattle.cr_explore.proofs.search.take_turns.Goals.{then-not-descend+else-left-eq0, else-not-descend, else-loop-used-test, then-loop-used-test+then-not-descend+then-left-eq0}

pub loop-used-init : goal.loop-used-init
loop-used-init g c =
    let p = g.P.Path.problem_of c.args.path in
    let node = g.P.Path.node_of c.args.path in
    let here : length c.node-base.result.now ≡ length node = ap length c.node-base.ensures in
    record {
      few = omega arith;
      problem = refl;
      place = record { sound = c.requires.sound; valid = c.requires.node; below = omega (arith, here); next = omega (arith, c.requires.tried) };
      left = omega arith;
      so_far = starts p most_rows c.args.job.now c.new-found.result.items (length c.node-base.result.now) (g.P.Path.next_of c.args.path) node c.new-found.ensures.items here c.requires.tried;
    }

pub returns-then-is_err : goal.returns-then-is_err
returns-then-is_err g c = IfOk-from_err _ _ c.without_memory.ensures

pub loop-used-preserved : goal.loop-used-preserved
loop-used-preserved g c =
    let p = g.P.Path.problem_of c.args.path in
    let job = c.args.job.now in
    let from = g.P.Path.node_of c.loop-used.path in
    let before = place_at c.loop-used.left c.loop-used.base (g.P.Path.next_of c.loop-used.path) in
    let to = g.P.Path.node_of c.if-not-descend.path in
    let Now = λ (path : g.row.P.Denot) (left base : ℕ). RunProgress p most_rows job before from (g.P.Path.problem_of path) left base (g.P.Path.next_of path) (g.P.Path.node_of path) in
    let down = g.P.Path.problem_of c.descend.new.path in
    let went : down ≡ p = c.descend.ensures.problem ∙ c.loop-used.invariant.problem in
    let goes : Now c.if-not-descend.path c.if-not-descend.left c.if-not-descend.base = elim c.if-not-descend.branch [
      | then-not-descend+else-left-eq0 w ↦
          let number = c.loop-used.left in
          let steps = w.steps-steps.result.now in
          let path = w.gone_to-path.result in
          let some : 0 < number = omega (arith, w.if-left-eq0.false) in
          let ended : IsPathEnded p most_rows job before from (place_at number c.loop-used.base (g.P.Path.next_of c.descend.new.path)) (g.P.Path.node_of c.descend.new.path) =
          subst (λ (q : ProblemParts). IsPathEnded q most_rows job before from (place_at number c.loop-used.base (g.P.Path.next_of c.descend.new.path)) (g.P.Path.node_of c.descend.new.path))
          c.loop-used.invariant.problem (c.descend.ensures.ends w.if-not-descend.true number job) in
          let read : steps ≡ get_or job (number - 1) steps = w.steps-steps.ensures.is ∙ w.index-job-left.is ∙ ap (get_or job (number - 1)) (sym w.steps-steps.ensures.is) in
          let taken : IsTaken p most_rows job before from (place_at (number - 1) (length steps) (g.P.Path.next_of path)) steps =
          job_taken p most_rows job before from number (g.P.Path.next_of path) steps ended.first some c.loop-used.invariant.left read w.gone_to-path.ensures.next in
          let valid : IsValid (g.P.Path.problem_of path) (g.P.Path.node_of path) =
          subst (λ (q : ProblemParts). IsValid q (g.P.Path.node_of path)) (sym (w.gone_to-path.ensures.problem ∙ went))
          (subst (IsValid p) (sym (w.gone_to-path.ensures.node ∙ read)) (c.requires.job (number - 1) steps (omega (arith, c.loop-used.invariant.left)))) in
          let there : Now path (number - 1) (length steps) = record {
            problem = w.gone_to-path.ensures.problem ∙ went;
            place = record {
              sound = subst IsSound (sym w.gone_to-path.ensures.problem) c.descend.ensures.place.sound;
              valid = valid;
              below = omega (arith, ap length w.gone_to-path.ensures.node);
              next = omega (arith, w.gone_to-path.ensures.next);
            };
            inside = omega (arith, c.loop-used.invariant.left);
            taken = subst (λ (n : List ℕ). IsTaken p most_rows job before from (place_at (number - 1) (length steps) (g.P.Path.next_of path)) n) (sym w.gone_to-path.ensures.node) taken;
          } in
          rw (w.path-is, w.left-is, w.base-is) there
      | else-not-descend w ↦
          let number = c.loop-used.left in
          let path = c.descend.new.path in
          let there : Now path number c.loop-used.base = record {
            problem = went;
            place = c.descend.ensures.place;
            inside = c.loop-used.invariant.left;
            taken = subst (λ (q : ProblemParts). IsTaken q most_rows job before from (place_at number c.loop-used.base (g.P.Path.next_of path)) (g.P.Path.node_of path)) c.loop-used.invariant.problem
                (c.descend.ensures.goes w.if-not-descend.false number job);
          } in
          rw (w.path-is, w.left-is, w.base-is) there
    ] in
    let finds : c.find_touch.new.found.items ≡ c.loop-used.found.items ++ touch_found p to =
    where_ok c.find_touch.result _ (sym c.is_err.ensures.value ∙ c.if-is_err.false) c.find_touch.ensures ∙ ap (λ (q : ProblemParts). c.loop-used.found.items ++ touch_found q to) goes.problem in
    record {
      few = omega arith;
      problem = goes.problem;
      place = goes.place;
      left = goes.inside;
      so_far = goes_on p most_rows job before from (place_at c.if-not-descend.left c.if-not-descend.base (g.P.Path.next_of c.if-not-descend.path)) to
          c.loop-used.found.items c.find_touch.new.found.items c.loop-used.used goes.taken finds c.loop-used.invariant.so_far;
    }

pub returns : goal.returns
returns g c =
    let p = g.P.Path.problem_of c.args.path in
    let job = c.args.job.now in
    let found = c.loop-used.found.items in
    let used = c.loop-used.used in
    let left = c.loop-used.left in
    let base = c.loop-used.base in
    let Stack = λ (path : g.row.P.Denot) (q : ProblemParts). stack_of q most_rows job (place_at left base (g.P.Path.next_of path)) (g.P.Path.node_of path) in
    elim c.loop-used-test.branch [
      | else-loop-used-test w ↦
          let rest : c.in_ok-rest.rest.items ≡ Stack c.loop-used.path p =
          c.in_ok-rest.ensures ∙ ap (λ (path : g.row.P.Denot). Stack path (g.P.Path.problem_of path)) w.path-is ∙ ap (Stack c.loop-used.path) c.loop-used.invariant.problem in
          let all : used ≡ c.args.turns = omega (arith, w.loop-used-test.false, c.loop-used.invariant.few) in
          ap (λ r. so_far found r used) rest ∙ c.loop-used.invariant.so_far ∙ ap (after_turns p most_rows job) all
      | then-loop-used-test+then-not-descend+then-left-eq0 w ↦
          let to = w.descend.new.path in
          let rest : c.in_ok-rest.rest.items ≡ Stack to p =
          c.in_ok-rest.ensures ∙ ap (λ (path : g.row.P.Denot). Stack path (g.P.Path.problem_of path)) w.path-is ∙ ap (Stack to) (w.descend.ensures.problem ∙ c.loop-used.invariant.problem) in
          let before = place_at left base (g.P.Path.next_of c.loop-used.path) in
          let from = g.P.Path.node_of c.loop-used.path in
          let after = place_at left base (g.P.Path.next_of to) in
          let ended : IsPathEnded p most_rows job before from after (g.P.Path.node_of to) =
          subst (λ (q : ProblemParts). IsPathEnded q most_rows job before from after (g.P.Path.node_of to)) c.loop-used.invariant.problem (w.descend.ensures.ends w.if-not-descend.true left job) in
          ap (λ r. so_far found r used) rest
          ∙ ends p most_rows job before from after (g.P.Path.node_of to) found used c.args.turns ended w.if-left-eq0.true w.if-left-eq0.true c.loop-used.invariant.few c.loop-used.invariant.so_far
    ]
