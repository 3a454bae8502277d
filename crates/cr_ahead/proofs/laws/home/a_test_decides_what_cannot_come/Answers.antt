use Rattle.cr_ahead.proofs.Home.{end_decided, way_decided, each_tested, item_decided, come_decided}
use Rattle.cr_ahead.proofs.laws.home.a_test_decides_what_cannot_come.Goals as goal

pub returns : goal.returns
returns c = record { end = end_decided; way = way_decided; each = each_tested; item = item_decided; is = come_decided }
