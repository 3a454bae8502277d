use Rattle.std.proofs.Common.{◌≡◌, ℕ, ◌+◌, ◌<◌, ◌∙◌, List, ◌∷◌, length, get_or, drop, sym, ap, subst, arith}
use Rattle.std.proofs.lemmas.List.{drop_more}
use Rattle.cr_row.specs.Rows.{Places}
use Rattle.cr_prune.specs.Rung.{IsRinging}
use Rattle.cr_prune.proofs.Ringing.{one_more, stood, has_room, cut_back}
use Rattle.cr_prune.proofs.rows.ring_lead.Goals as goal

-- the change that comes is the first of what is left
left : (changes : List Places) (index : ℕ) (item : Places) → index < length changes → item ≡ get_or changes index item →
    drop index changes ≡ item ∷ drop (index + 1) changes
left changes index item within is = drop_more changes index item within ∙ ap (λ x. x ∷ drop (index + 1) changes) (sym is)

pub returns-in-Again-clause-none : goal.returns-in-Again-clause-none
returns-in-Again-clause-none c nothing =
    let old = c.args.stack.now in
    let changes = c.args.changes.now in
    let index = c.loop-change.change-index in
    let within : index < length changes = omega (arith, c.loop-change-test.true) in
    let ringing = subst (IsRinging old c.loop-change.stack c.args.from c.loop-change.row changes) (left changes index c.change-item.result within c.change-item.is) c.loop-change.invariant.ringing in (
      c.cut_to.ensures ∙ cut_back old c.loop-change.stack c.push.new.self _ _ _ _ _ c.len-before.result ringing c.in-Again.ensures.1 c.len-before.ensures.is,
      stood old c.loop-change.stack c.args.from c.loop-change.row c.then-row.result changes (drop (index + 1) changes) c.change-item.result c.in-Again.field-0
          ringing c.then-row.ensures.is c.in-Again.ensures.0,
    )

pub unreachable-requires : goal.unreachable-requires
unreachable-requires c =
    let old = c.args.stack.now in
    let changes = c.args.changes.now in
    let index = c.loop-change.change-index in
    let within : index < length changes = omega (arith, c.loop-change-test.true) in
    let ringing = subst (IsRinging old c.loop-change.stack c.args.from c.loop-change.row changes) (left changes index c.change-item.result within c.change-item.is) c.loop-change.invariant.ringing in
    has_room old c.loop-change.stack c.args.from c.loop-change.row changes (drop (index + 1) changes) c.change-item.result ringing c.requires.room c.in-Full.ensures.1

pub loop-change-preserved : goal.loop-change-preserved
loop-change-preserved c =
    let old = c.args.stack.now in
    let changes = c.args.changes.now in
    let index = c.loop-change.change-index in
    let within : index < length changes = omega (arith, c.loop-change-test.true) in
    let ringing = subst (IsRinging old c.loop-change.stack c.args.from c.loop-change.row changes) (left changes index c.change-item.result within c.change-item.is) c.loop-change.invariant.ringing in
    record {
      stage = c.then-row.ensures.same_stage ∙ c.loop-change.invariant.stage;
      ringing = one_more old c.loop-change.stack c.push.new.self c.args.from c.loop-change.row c.then-row.result changes (drop (index + 1) changes) c.change-item.result
          ringing c.then-row.ensures.is c.in-Fresh.ensures;
    }
