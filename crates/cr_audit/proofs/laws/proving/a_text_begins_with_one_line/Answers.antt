use Rattle.cr_audit.proofs.OneLine.{one_line}
use Rattle.cr_audit.proofs.laws.proving.a_text_begins_with_one_line.Goals as goal

pub returns : goal.returns
returns c p text line other rest more sound begins also = one_line p sound text line other rest more begins also
