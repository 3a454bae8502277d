use Rattle.cr_ahead.proofs.Items.{items_within, items_meet}
use Rattle.cr_ahead.proofs.laws.home.a_query_asks_for_items.Goals as goal

pub returns : goal.returns
returns c = λ p calling. (
  λ meets. (meets.long, meets.short, meets.parts, items_within p calling meets),
  λ asked. items_meet p calling asked.0 asked.1 asked.2 asked.3,
)
