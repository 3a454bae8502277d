use Rattle.cr_false.proofs.Between.{told_apart}
use Rattle.cr_false.proofs.laws.telling_rows_tell_leads_apart.Goals as goal

pub returns : goal.returns
returns c = λ p told a b calling other tells. told_apart p told tells a b calling other
