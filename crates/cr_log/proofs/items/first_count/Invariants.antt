use Rattle.std.proofs.Common.{◌≡◌, ℕ, ◌<◌, false}
use Rattle.cr_audit.specs.declared.verdict.Item.TheVariants as item
use Rattle.cr_log.specs.FirstVerdicts.{is_missed}
use Rattle.cr_log.proofs.items.first_count.Given as goal

abbrev pub invariant-loop-index : goal.invariant-loop-index
invariant-loop-index l = (j : ℕ) → j < l.index → is_missed l.problem l.node l.few (item.Count j) ≡ false
