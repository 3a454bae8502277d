-- What the head does not tell the table of changes of method tells.
use Rattle.std.proofs.Common.{◌≡◌, Bool, ◌||◌, sym, ap, ◌∙◌}
use Rattle.std.specs.List.{list_any}
use Rattle.std.proofs.lemmas.Bool.{or_left}
use Rattle.cr_ahead.specs.Items.{com_items, cannot_meet}
use Rattle.cr_ahead.specs.Exact.{exact_com, cannot_come_by_heads}
use Rattle.cr_ahead.proofs.Exact.{come_by_parts}
use Rattle.cr_ahead.proofs.outlook.Outlook.cannot_come.Goals as goal

pub returns-then-cannot_come_by_heads : goal.returns-then-cannot_come_by_heads
returns-then-cannot_come_by_heads c = λ p heads node outlook at is has last counted.
    c.if-cannot_come_by_heads.true
    ∙ sym (come_by_parts p node ∙ or_left (cannot_come_by_heads p node) (list_any (cannot_meet p node) (com_items p (exact_com p)))
    (sym (c.cannot_come_by_heads.ensures p heads node outlook at is has) ∙ c.if-cannot_come_by_heads.true))

pub returns-else-cannot_come_by_heads : goal.returns-else-cannot_come_by_heads
returns-else-cannot_come_by_heads c = λ p heads node outlook at is has last counted.
    c.cannot_change.ensures p heads node outlook at is last counted
    ∙ ap (λ (b : Bool). b || list_any (cannot_meet p node) (com_items p (exact_com p))) (sym c.if-cannot_come_by_heads.false ∙ c.cannot_come_by_heads.ensures p heads node outlook at is has)
    ∙ sym (come_by_parts p node)
