use Rattle.std.proofs.Common.{◌≡◌, ◌++◌, take, drop, string_bytes, All}
use Rattle.cr_row.specs.Rows.{IsChange}
use Rattle.cr_model.specs.NotationTexts.{canonical_text}
use Rattle.cr_notation.specs.Writing.{text_after}
use Rattle.cr_notation.proofs.writer.write_notation.Given as goal

abbrev pub invariant-loop-change : goal.invariant-loop-change
invariant-loop-change l = record {
  text : string_bytes l.text ++ text_after l.after_places (drop l.change-index l.changes) ≡ canonical_text l.changes;
  are_changes : All IsChange (take l.change-index l.changes);
}
