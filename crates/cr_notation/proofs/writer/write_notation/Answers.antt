use Rattle.std.proofs.Common.{◌≡◌, ◌+◌, ◌≤◌, drop, All, ◌++◌, sym, subst, arith, string_bytes}
use Rattle.std.proofs.lemmas.List.{take_all}
use Rattle.std.proofs.lemmas.List.Elements.{All-more}
use Rattle.cr_row.specs.Rows.{IsChange}
use Rattle.cr_model.specs.Notation.{Spells}
use Rattle.cr_model.specs.NotationTexts.{canonical_text}
use Rattle.cr_notation.specs.Writing.{text_after}
use Rattle.cr_notation.proofs.Written.{change_written, changes_written}
use Rattle.cr_notation.proofs.Canonical.{canonical_spells}
use Rattle.cr_notation.proofs.writer.write_notation.Goals as goal

pub loop-change-preserved : goal.loop-change-preserved
loop-change-preserved c = record {
  text = subst (λ some. string_bytes c.push_change.new.text ++ text_after some (drop (c.loop-change.change-index + 1) c.args.changes.now) ≡ canonical_text c.args.changes.now) (sym c.in_ok-after_places.ensures.some)
      (change_written c.args.changes.now c.loop-change.change-index c.change-item.result (string_bytes c.loop-change.text) (string_bytes c.push_change.new.text) c.loop-change.after_places (canonical_text c.args.changes.now) c.loop-change-test.true c.change-item.is c.in_ok-after_places.ensures.text c.loop-change.invariant.text);
  are_changes = All-more IsChange c.args.changes.now c.loop-change.change-index c.change-item.result c.loop-change-test.true c.loop-change.invariant.are_changes (subst IsChange c.change-item.is c.in_ok-after_places.ensures.is_change);
}

pub returns-clause-spells : goal.returns-clause-spells
returns-clause-spells c =
    let few : c.args.stage ≤ 16 = omega arith in
    let are : All IsChange c.args.changes.now = subst (λ all. All IsChange all) (take_all c.loop-change.change-index c.args.changes.now c.loop-change-test.false) c.loop-change.invariant.are_changes in
    subst (λ text. Spells c.args.stage text c.args.changes.now) (sym (changes_written c.args.changes.now c.loop-change.change-index (string_bytes c.loop-change.text) c.loop-change.after_places (canonical_text c.args.changes.now) c.loop-change-test.false c.loop-change.invariant.text))
    (canonical_spells c.args.stage c.args.changes.now few c.requires.at_least c.requires.at_most c.requires.stages are)
