use Rattle.std.proofs.Common.{ℕ, List, [], ◌∷◌, ◌≡◌, ◌<◌, ◌++◌, ◌∙◌, length, reverse, sym, ap, subst, arith}
use Rattle.cr_model.specs.Problems.{ProblemParts}
use Rattle.cr_model.specs.Sizes.{most_rows}
use Rattle.cr_explore.specs.Stacks.{place_at, stack_of, IsPlace, IsPathEnded, IsTaken}
use Rattle.cr_explore.proofs.Places.{pushed, fewer}
use Rattle.cr_explore.proofs.search.take_path.Goals as goal

pub returns : goal.returns
returns g c = λ left job.
    let ended = subst (λ (p : ProblemParts). IsPathEnded p most_rows job (place_at left c.args.base (g.P.Path.next_of c.loop-alloc.path)) (g.P.Path.node_of c.loop-alloc.path)
    (place_at left c.args.base (g.P.Path.next_of c.descend.new.path)) (g.P.Path.node_of c.descend.new.path))
    c.loop-alloc.invariant.problem (c.descend.ensures.ends c.loop-alloc-test.false left job) in
    c.loop-alloc.invariant.nodes left job ∙ ap (λ stack. stack ++ reverse c.loop-alloc.nodes.items) ended.first

pub loop-alloc-smaller : goal.loop-alloc-smaller
loop-alloc-smaller g c =
    let loop = g.P.Path.problem_of c.loop-alloc.path in
    let to = g.P.Path.node_of c.descend.new.path in
    let went : g.P.Path.problem_of c.pass.new.self ≡ loop = c.pass.ensures.problem ∙ c.descend.ensures.problem in
    let all : g.P.Path.next_of c.pass.new.self ≡ length loop.leads = c.pass.ensures.next ∙ ap (λ (p : ProblemParts). length p.leads) c.descend.ensures.problem in
    let less = fewer loop most_rows [] (place_at 0 c.args.base (g.P.Path.next_of c.loop-alloc.path)) (g.P.Path.node_of c.loop-alloc.path) 0 c.args.base
    (g.P.Path.next_of c.descend.new.path) (g.P.Path.next_of c.pass.new.self) to all (c.descend.ensures.goes c.loop-alloc-test.true 0 []) in
    let before = length (stack_of loop most_rows [] (place_at 0 c.args.base (g.P.Path.next_of c.loop-alloc.path)) (g.P.Path.node_of c.loop-alloc.path)) in
    subst (λ (node : List ℕ). length (stack_of (g.P.Path.problem_of c.pass.new.self) most_rows [] (place_at 0 c.args.base (g.P.Path.next_of c.pass.new.self)) node) < before) (sym c.pass.ensures.node)
    (subst (λ (p : ProblemParts). length (stack_of p most_rows [] (place_at 0 c.args.base (g.P.Path.next_of c.pass.new.self)) to) < before) (sym went) less)

pub loop-alloc-preserved : goal.loop-alloc-preserved
loop-alloc-preserved g c =
    let p = g.P.Path.problem_of c.args.path.now in
    let at = g.P.Path.problem_of c.descend.new.path in
    let to = g.P.Path.node_of c.descend.new.path in
    let now = g.P.Path.next_of c.pass.new.self in
    let went : at ≡ p = c.descend.ensures.problem ∙ c.loop-alloc.invariant.problem in
    let all : now ≡ length p.leads = c.pass.ensures.next ∙ ap (λ (q : ProblemParts). length q.leads) went in
    let node : c.in_ok-node_from.field-0 ≡ to = c.in_ok-node_from.ensures ∙ c.node.ensures in
    let items : c.push.new.self.items ≡ c.loop-alloc.nodes.items ++ to ∷ [] = c.in_ok-push.ensures.items ∙ ap (λ n. c.loop-alloc.nodes.items ++ n ∷ []) node in
    let place = c.descend.ensures.place in
    let here : IsPlace at (place_at 0 c.args.base now) to = record { sound = place.sound; valid = place.valid; below = place.below; next = omega (arith, c.pass.ensures.next) } in
    record {
      problem = c.pass.ensures.problem ∙ went;
      place = subst (λ (n : List ℕ). IsPlace (g.P.Path.problem_of c.pass.new.self) (place_at 0 c.args.base now) n) (sym c.pass.ensures.node)
          (subst (λ (q : ProblemParts). IsPlace q (place_at 0 c.args.base now) to) (sym c.pass.ensures.problem) here);
      nodes = λ left job.
          let from = g.P.Path.node_of c.loop-alloc.path in
          let taken = subst (λ (q : ProblemParts). IsTaken q most_rows job (place_at left c.args.base (g.P.Path.next_of c.loop-alloc.path)) from (place_at left c.args.base (g.P.Path.next_of c.descend.new.path)) to)
          c.loop-alloc.invariant.problem (c.descend.ensures.goes c.loop-alloc-test.true left job) in
          c.loop-alloc.invariant.nodes left job
          ∙ pushed p most_rows job (place_at left c.args.base (g.P.Path.next_of c.loop-alloc.path)) from left c.args.base (g.P.Path.next_of c.descend.new.path) now to all taken c.loop-alloc.nodes.items
          ∙ ap (λ (ns : List (List ℕ)). stack_of p most_rows job (place_at left c.args.base now) to ++ reverse ns) (sym items)
          ∙ ap (λ (n : List ℕ). stack_of p most_rows job (place_at left c.args.base now) n ++ reverse c.push.new.self.items) (sym c.pass.ensures.node);
    }
