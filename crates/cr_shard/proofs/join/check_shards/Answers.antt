use Rattle.std.proofs.Common.{refl}
use Rattle.cr_shard.proofs.JoinChecks.{at_bytes, read_of_one, read_meet, read_file}
use Rattle.cr_shard.proofs.join.check_shards.Goals as goal

pub check_overlaps-requires-clause-of_one : goal.check_overlaps-requires-clause-of_one
check_overlaps-requires-clause-of_one c =
    let first = c.index-shards-0.result in
    at_bytes c.bytes_have_one_answer.ensures.one_problem c.args.shards.now first c.requires.some c.requires.held c.in_ok-check_problems.ensures
    c.index-shards-0.is first.bytes c.problem_of.result.now refl c.problem_of.ensures

pub check_overlaps-requires-clause-can_meet : goal.check_overlaps-requires-clause-can_meet
check_overlaps-requires-clause-can_meet c =
    let first = c.index-shards-0.result in
    read_meet c.bytes_have_one_answer.ensures.one_problem c.args.shards.now first c.requires.some c.requires.held c.in_ok-check_problems.ensures
    c.index-shards-0.is first.bytes c.problem_of.result.now refl c.problem_of.ensures

pub returns : goal.returns
returns c =
    let shards = c.args.shards.now in
    let first = c.index-shards-0.result in
    let one = c.bytes_have_one_answer.ensures.one_problem in
    let same = c.in_ok-check_problems.ensures in
    let p = c.problem_of.result.now in
    record {
      bytes = first.bytes;
      p = p;
      file = read_file one shards first c.requires.some c.requires.held same c.index-shards-0.is first.bytes p refl c.problem_of.ensures;
      of_one = read_of_one one shards first c.requires.some c.requires.held same c.index-shards-0.is first.bytes p refl c.problem_of.ensures;
      can_meet = read_meet one shards first c.requires.some c.requires.held same c.index-shards-0.is first.bytes p refl c.problem_of.ensures;
      apart = c.in_ok-check_overlaps.ensures;
    }
