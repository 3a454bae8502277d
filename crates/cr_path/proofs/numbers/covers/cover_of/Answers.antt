use Rattle.std.proofs.Common.{◌≡◌, length, subst}
use Rattle.std.specs.Prelude.{IfOk}
use Rattle.std.specs.List.{range_with_len}
use Rattle.std.proofs.lemmas.Result.{IfOk-weaker}
use Rattle.cr_path.specs.Covers.{IsCover}
use Rattle.cr_path.proofs.Covering.{itself_covers}
use Rattle.cr_path.proofs.numbers.covers.cover_of.Goals as goal

pub returns-else-is_cover : goal.returns-else-is_cover
returns-else-is_cover c =
    let made = c.args.made.now in
    IfOk-weaker c.each_itself.result
    (λ cover. cover.items ≡ range_with_len 0 (length made.rows.rows))
    (λ cover. IsCover (length made.rows.rows) made.numbers.items made.records.items cover.items)
    (λ cover is. itself_covers (length made.rows.rows) made.numbers.items made.records.items cover.items is c.requires.some c.requires.within)
    (subst (λ rows. IfOk c.each_itself.result (λ cover. cover.items ≡ range_with_len 0 rows)) c.len.ensures.is c.each_itself.ensures)
