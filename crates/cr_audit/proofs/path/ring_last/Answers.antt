use Rattle.std.proofs.Common.{◌≡◌, ℕ, ◌≤◌, List, ◌++◌, length, take, refl, ap, ap₂, sym, ◌∙◌, arith, length-append}
use Rattle.std.proofs.lemmas.List.{take_at}
use Rattle.std.proofs.lemmas.Result.{IfOk-weaker}
use Rattle.cr_row.specs.Rows.{rounds}
use Rattle.cr_model.specs.Callings.{last_of, rows_from}
use Rattle.cr_audit.specs.Paths.{front, last_lead}
use Rattle.cr_audit.proofs.Paths.{changes_fit, last_known, head_long, rung}
use Rattle.cr_audit.proofs.path.ring_last.Goals as goal

pub ring-requires : goal.ring-requires
ring-requires c =
    let p = c.args.problem.now in
    let node = c.args.path.now.node.items in
    changes_fit p c.stage.ensures.sound (last_lead node) c.last_changes-changes.result.now (length c.last_row-from.result) (last_known p node c.requires.known) c.last_changes-changes.ensures
    (ap length c.last_row-from.ensures ∙ ap₂ (λ (n : ℕ) (rows : List (List ℕ)). length (last_of (rounds n) rows)) c.stage.ensures.is c.deref.ensures.value
    ∙ head_long c.change_of_a_row.ensures.same_length c.rounds_is_neutral.ensures.length p (front node) c.args.path.now.rows.items c.requires.rows)

pub returns : goal.returns
returns c =
    let p = c.args.problem.now in
    let node = c.args.path.now.node.items in
    let old = c.args.path.now.rows.items in
    let more = rows_from c.last_row-from.result c.last_changes-changes.result.now in
    let head : c.last_row-from.result ≡ last_of (rounds p.stage) old =
    c.last_row-from.ensures ∙ ap₂ (λ (n : ℕ) (rows : List (List ℕ)). last_of (rounds n) rows) c.stage.ensures.is c.deref.ensures.value in
    IfOk-weaker c.ring.result _ _
    (λ _ is. record {
      node = refl;
      text = refl;
      taken = refl;
      changes = refl;
      fitting = refl;
      rows = is ∙ rung p node old c.last_row-from.result c.last_changes-changes.result.now c.requires.rows head c.last_changes-changes.ensures;
      before = ap (take (length old)) is ∙ take_at old more (length old) refl;
      long = omega (arith, ap length is, length-append old more);
    })
    c.ring.ensures
