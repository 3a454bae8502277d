use Rattle.cr_audit.proofs.RawLines.{no_item_after}
use Rattle.cr_audit.proofs.reading.item_behind.Goals as goal

pub returns-clause-none : goal.returns-clause-none
returns-clause-none c = no_item_after c.args.text.now c.args.word.now c.in_ok-rest.rest.now c.item_of.result c.in_ok-rest.ensures.some c.item_of.ensures.none
