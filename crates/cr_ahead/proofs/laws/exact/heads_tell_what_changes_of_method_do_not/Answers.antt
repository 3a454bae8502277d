use Rattle.std.proofs.Common.{◌∙◌}
use Rattle.std.specs.List.{list_any}
use Rattle.std.proofs.lemmas.Bool.{or_left}
use Rattle.cr_ahead.specs.Items.{com_items, cannot_meet}
use Rattle.cr_ahead.specs.Exact.{exact_com, cannot_come_by_heads}
use Rattle.cr_ahead.proofs.Exact.{come_by_parts}
use Rattle.cr_ahead.proofs.laws.exact.heads_tell_what_changes_of_method_do_not.Goals as goal

pub returns : goal.returns
returns c = record {
  whole = come_by_parts;
  heads = λ p node cannot. come_by_parts p node ∙ or_left (cannot_come_by_heads p node) (list_any (cannot_meet p node) (com_items p (exact_com p))) cannot;
}
