use Rattle.std.proofs.Common.{sym, subst, ◌∙◌}
use Rattle.std.proofs.lemmas.Bool.{false≢true}
use Rattle.cr_explore.specs.Searches.{searched}
use Rattle.cr_store.specs.Written.{lists}
use Rattle.cr_trail.specs.Runs.{RunsOn}
use Rattle.cr_top.proofs.boards.+search_on_by_one.Goals as goal

pub returns-then-is_over : goal.returns-then-is_over
returns-then-is_over g t c =
    let p = searched c.args.search.now in
    let begun = c.args.before.left in
    let now = c.in_ok-went.went.left in
    c.runs_follow_one_another.ensures.over p begun.found.items (lists begun.jobs.items) c.args.turns c.first_turns-first.result now.found.items (lists now.jobs.items)
    c.in_ok-went.ensures c.first_turns-first.ensures (c.is_over.ensures.0 c.if-is_over.true)

pub returns : goal.returns
returns g t c =
    let p = searched c.args.search.now in
    let begun = c.args.before.left in
    let now = c.in_ok-went.went.left in
    let later = c.in_ok-end.end.left in
    c.runs_follow_one_another.ensures.more p begun.found.items (lists begun.jobs.items) c.args.turns c.first_turns-first.result now.found.items (lists now.jobs.items)
    later.found.items (lists later.jobs.items) c.in_ok-went.ensures
    c.first_turns-first.ensures (λ none. false≢true (sym c.if-is_over.false ∙ c.is_over.ensures.1 none))
    (subst (λ turns. RunsOn p now.found.items (lists now.jobs.items) turns later.found.items (lists later.jobs.items))
    c.rest_of-rest.ensures
    (subst (λ q. RunsOn q now.found.items (lists now.jobs.items) c.rest_of-rest.result later.found.items (lists later.jobs.items)) c.roomiest.ensures c.in_ok-end.ensures))
