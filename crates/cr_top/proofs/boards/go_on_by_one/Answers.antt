use Rattle.std.proofs.Common.{ℕ, List, All, sym, subst}
use Rattle.std.specs.Global.{Vec}
use Rattle.cr_explore.specs.Searches.{searched}
use Rattle.cr_node.specs.Work.{IsJob}
use Rattle.cr_shifts.proofs.Together.{jobs_to_go_on}
use Rattle.cr_top.proofs.boards.go_on_by_one.Goals as goal

pub looking_ahead-requires : goal.looking_ahead-requires
looking_ahead-requires g c =
    let p = searched c.args.search.now in
    subst (All (λ (job : Vec (List ℕ)). IsJob p job.items)) (sym c.deref.ensures.value) (jobs_to_go_on p c.args.before.left.jobs.items c.requires.goes_on)
