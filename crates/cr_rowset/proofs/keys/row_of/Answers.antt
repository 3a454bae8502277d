use Rattle.std.proofs.Common.{◌^◌, ◌<◌, List, ℕ, sym, ap, ◌∙◌, subst}
use Rattle.cr_row.specs.Rows.{IsRow}
use Rattle.cr_row.specs.Packed.{bells_of}
use Rattle.cr_rowset.specs.Keys.{stage_of, row_of}
use Rattle.cr_rowset.proofs.Known.{key_is_low, row_is}
use Rattle.cr_rowset.proofs.keys.row_of.Goals as goal

pub with_key-requires-clause-fits : goal.with_key-requires-clause-fits
with_key-requires-clause-fits c = subst (λ n. c.args.key < 16 ^ n) (sym (c.in-Some.ensures.is ∙ c.greatest_bell.ensures)) (key_is_low c.args.key c.requires)

pub with_key-requires-clause-row : goal.with_key-requires-clause-row
with_key-requires-clause-row c =
    subst (λ (bells : List ℕ). IsRow bells) (row_is c.args.key ∙ ap (λ n. bells_of n c.args.key) (sym (c.in-Some.ensures.is ∙ c.greatest_bell.ensures))) c.requires.row

pub returns : goal.returns
returns c = c.with_key.ensures ∙ ap (λ n. bells_of n c.args.key) (c.in-Some.ensures.is ∙ c.greatest_bell.ensures) ∙ sym (row_is c.args.key)
