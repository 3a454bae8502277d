use Rattle.cr_log.proofs.FirstOnes.{first_home, first_many, first_few, first_back, first_open}
use Rattle.cr_log.proofs.Places.{not_long, tests_valid, none_again}
use Rattle.cr_log.proofs.judging.judge.Goals as goal

pub returns-in-Some : goal.returns-in-Some
returns-in-Some c =
    let p = c.args.problem.now in
    let node = c.args.node.now in
    let stack = c.args.rows.now in
    first_home p node (not_long p node stack c.requires.at) (none_again p node stack c.requires.at c.len.ensures.different)
    c.in-Some.place c.in-Some.ensures.0 c.in-Some.ensures.1

pub returns-in-Some-first_missed : goal.returns-in-Some-first_missed
returns-in-Some-first_missed c =
    let p = c.args.problem.now in
    let node = c.args.node.now in
    let stack = c.args.rows.now in
    first_many p node (not_long p node stack c.requires.at) (none_again p node stack c.requires.at c.len.ensures.different)
    c.in_default.ensures (tests_valid p node stack c.requires.at)
    c.in-Some-first_missed.item c.in-Some-first_missed.ensures.0 c.in-Some-first_missed.ensures.1

pub returns-in-Some-first_missed-2 : goal.returns-in-Some-first_missed-2
returns-in-Some-first_missed-2 c =
    let p = c.args.problem.now in
    let node = c.args.node.now in
    let stack = c.args.rows.now in
    first_few p node (not_long p node stack c.requires.at) (none_again p node stack c.requires.at c.len.ensures.different)
    c.in_default.ensures (tests_valid p node stack c.requires.at) c.in_default-first_missed.ensures
    c.in-Some-first_missed-2.item c.in-Some-first_missed-2.ensures.0 c.in-Some-first_missed-2.ensures.1

pub returns-in-Some-first_back : goal.returns-in-Some-first_back
returns-in-Some-first_back c =
    let p = c.args.problem.now in
    let node = c.args.node.now in
    let stack = c.args.rows.now in
    first_back p node (not_long p node stack c.requires.at) (none_again p node stack c.requires.at c.len.ensures.different)
    c.in_default.ensures (tests_valid p node stack c.requires.at) c.in_default-first_missed.ensures c.in_default-first_missed-2.ensures
    c.in-Some-first_back.step c.in-Some-first_back.ensures.0 c.in-Some-first_back.ensures.1

pub returns-in-None : goal.returns-in-None
returns-in-None c =
    let p = c.args.problem.now in
    let node = c.args.node.now in
    let stack = c.args.rows.now in
    first_open p node (not_long p node stack c.requires.at) (none_again p node stack c.requires.at c.len.ensures.different)
    c.in_default.ensures (tests_valid p node stack c.requires.at) c.in_default-first_missed.ensures c.in_default-first_missed-2.ensures
    c.in-None.ensures
