use Rattle.cr_notation.proofs.Canonical.{canonical_spells}
use Rattle.cr_notation.proofs.laws.a_canonical_text_spells_its_changes.Goals as goal

pub returns : goal.returns
returns c = canonical_spells
