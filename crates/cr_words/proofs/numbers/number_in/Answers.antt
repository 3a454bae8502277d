use Rattle.std.proofs.Common.{◌∙◌, sym}
use Rattle.cr_words.proofs.Digits.{parsed_is, not_number}
use Rattle.cr_words.proofs.numbers.number_in.Goals as goal

pub returns-then-is_number : goal.returns-then-is_number
returns-then-is_number c = c.ok.ensures.value ∙ parsed_is _ c.parse.result (sym c.is_number.ensures ∙ c.if-is_number.true) c.parse.ensures.value.0

pub returns-else-is_number : goal.returns-else-is_number
returns-else-is_number c = not_number _ (sym c.is_number.ensures ∙ c.if-is_number.false)
