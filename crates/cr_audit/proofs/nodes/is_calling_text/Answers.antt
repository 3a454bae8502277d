use Rattle.std.proofs.Common.{◌≡◌, ◌<◌, length, refl, rules}
use Rattle.std.proofs.lemmas.Bool.{false≢true}
use Rattle.cr_audit.proofs.Walking.{after_lead_is, begins_somewhere, empty_calling}
use Rattle.cr_audit.proofs.nodes.is_calling_text.Goals as goal

pub loop-rest-preserved : goal.loop-rest-preserved
loop-rest-preserved c =
    let same = after_lead_is c.args.problem.now c.loop-rest.rest.now c.in-Some.others.now c.in-Some.ensures.some in
    (λ whole. same.0 (c.loop-rest.invariant.0 whole), λ rest. c.loop-rest.invariant.1 (same.1 rest))

pub returns-in-None : goal.returns-in-None
returns-in-None c =
    let some : 0 < length c.loop-rest.rest.now = search rules in (
      λ h. absurd (false≢true h),
      λ whole.
          let (rest, begins) = begins_somewhere c.args.problem.now c.loop-rest.rest.now some (c.loop-rest.invariant.0 whole) in
          absurd (c.in-None.ensures.none rest begins),
    )

pub returns : goal.returns
returns c =
    let none : length c.loop-rest.rest.now ≡ 0 = search rules in
    (λ _. c.loop-rest.invariant.1 (empty_calling c.args.problem.now c.loop-rest.rest.now none), λ _. refl)
