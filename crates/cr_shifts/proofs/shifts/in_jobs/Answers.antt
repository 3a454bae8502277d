use Rattle.std.proofs.Common.{ℕ, ◌<◌, ◌++◌, ◌∙◌, List, length, ap, subst}
use Rattle.std.specs.Prelude.{All}
use Rattle.std.proofs.lemmas.List.Elements.{All-head, All-tail}
use Rattle.std.specs.Global.{Vec}
use Rattle.cr_store.specs.Written.{lists}
use Rattle.cr_shifts.proofs.Together.{one_job_more}
use Rattle.cr_shifts.proofs.shifts.in_jobs.Goals as goal

-- a list of nodes that is not empty
abbrev IsFilled : List (List ℕ) → Type 0
IsFilled job = 0 < length job

pub cut-requires-clause-some : goal.cut-requires-clause-some
cut-requires-clause-some c =
    All-head IsFilled c.in-Some.nodes.items (lists c.next.new.self.rest.items)
    (subst (λ (jobs : List (Vec (List ℕ))). All IsFilled (lists jobs)) c.in-Some.ensures.steps.0 c.loop-nodes.invariant.later)

pub loop-nodes-preserved : goal.loop-nodes-preserved
loop-nodes-preserved c = record {
  all = c.in_ok-cut.ensures.all ∙ ap (λ nodes. nodes ++ c.in-Some.nodes.items) c.loop-nodes.invariant.all ∙ one_job_more c.loop-nodes.yielded c.in-Some.nodes;
  filled = c.in_ok-cut.ensures.filled;
  later = All-tail IsFilled c.in-Some.nodes.items (lists c.next.new.self.rest.items)
      (subst (λ (jobs : List (Vec (List ℕ))). All IsFilled (lists jobs)) c.in-Some.ensures.steps.0 c.loop-nodes.invariant.later);
}
