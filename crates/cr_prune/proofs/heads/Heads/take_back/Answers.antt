use Rattle.std.proofs.Common.{◌≡◌, ◌-◌, ◌≤◌, ◌∙◌, List, length, take, ap, sym, arith}
use Rattle.std.proofs.lemmas.List.{length-map, take-map}
use Rattle.cr_prune.specs.Heads.{HeadsParts, heads_from, steps_of}
use Rattle.cr_prune.specs.Walks.{parent}
use Rattle.cr_prune.specs.declared.heads.Earlier.{Earlier}
use Rattle.cr_prune.proofs.Clashes.{heads_less}
use Rattle.cr_prune.proofs.heads.Heads.take_back.Goals as goal

pub invariant_of-self : goal.invariant_of-self
invariant_of-self c =
    let kept = c.self.invariant in
    let few : c.len.result - 1 ≤ length c.self.inside.earlier.items = omega (arith, c.len.ensures, c.self.inside.earlier.ok.0) in (
      rw c.truncate.ensures.items (heads_less c.self.inside.problem.now c.self.inside.leads.now c.self.inside.table.now c.self.inside.earlier.items (c.len.result - 1) kept.0 few),
      omega (arith, c.truncate.ensures.capacity, kept.1),
    )

pub returns : goal.returns
returns c =
    let items = c.self.inside.earlier.items in
    let left : c.len.result - 1 ≡ length (steps_of items) - 1 =
    omega (arith, c.len.ensures, c.self.inside.earlier.ok.0, length-map items (λ (e : Earlier). e.step)) in
    ap (λ (es : List Earlier). heads_from c.self.inside.problem.now (steps_of es)) c.truncate.ensures.items
    ∙ ap (heads_from c.self.inside.problem.now) (sym (take-map (λ (e : Earlier). e.step) (c.len.result - 1) items) ∙ ap (λ n. take n (steps_of items)) left)
    ∙ ap (λ (h : HeadsParts). heads_from h.problem (parent h.leads)) c.self.view_is
