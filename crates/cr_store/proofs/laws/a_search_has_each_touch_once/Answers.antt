use Rattle.cr_model.specs.Checkpoints.{nodes_of_jobs}
use Rattle.cr_store.proofs.laws.a_search_has_each_touch_once.Goals as goal

pub returns : goal.returns
returns c = record {
  touches = λ p found jobs now left spent way.
      c.each_touch_stands_once.ensures.parts p found (nodes_of_jobs jobs) now (nodes_of_jobs left) spent way.began.ascending way.began.independent way.nodes;
  boards = λ p found jobs boards can on. record {
    began = can;
    nodes = c.boards_follow_one_another.ensures.partition p found jobs boards can on;
    filled = c.boards_follow_one_another.ensures.filled p jobs boards can.filled on;
  };
}
