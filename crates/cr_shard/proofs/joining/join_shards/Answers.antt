use Rattle.std.proofs.Common.{ap, ◌∙◌}
use Rattle.cr_store.specs.Written.{jobs_seen}
use Rattle.cr_shard.proofs.Emptied.{first_file, first_touches, first_goes_on, rest_joined}
use Rattle.cr_shard.proofs.joining.join_shards.Goals as goal

pub write_in_order-requires-clause-file : goal.write_in_order-requires-clause-file
write_in_order-requires-clause-file c =
    first_file c.args.shards.now c.requires.some c.requires.can c.take_found.new.shards c.in_ok-found.ensures.left
    c.index-rest-0.result c.index-rest-0.is c.file_of.result.now c.problem_of.result.now c.file_of.ensures c.problem_of.ensures
    c.in_ok-found.found.items c.in_ok-found.ensures.found (jobs_seen c.deref.result.now) (ap jobs_seen c.deref.ensures.value ∙ c.in_ok-jobs.ensures)

pub write_in_order-requires-clause-touches : goal.write_in_order-requires-clause-touches
write_in_order-requires-clause-touches c =
    first_touches c.args.shards.now c.requires.some c.requires.can c.take_found.new.shards c.in_ok-found.ensures.left
    c.index-rest-0.result c.index-rest-0.is c.file_of.result.now c.problem_of.result.now c.file_of.ensures c.problem_of.ensures
    c.in_ok-found.found.items c.in_ok-found.ensures.found (jobs_seen c.deref.result.now) (ap jobs_seen c.deref.ensures.value ∙ c.in_ok-jobs.ensures)

pub write_in_order-requires-clause-goes_on : goal.write_in_order-requires-clause-goes_on
write_in_order-requires-clause-goes_on c =
    first_goes_on c.args.shards.now c.requires.some c.requires.can c.take_found.new.shards c.in_ok-found.ensures.left
    c.index-rest-0.result c.index-rest-0.is c.file_of.result.now c.problem_of.result.now c.file_of.ensures c.problem_of.ensures
    c.in_ok-found.found.items c.in_ok-found.ensures.found (jobs_seen c.deref.result.now) (ap jobs_seen c.deref.ensures.value ∙ c.in_ok-jobs.ensures)

pub returns : goal.returns
returns c =
    rest_joined c.args.shards.now c.requires.some c.requires.can c.take_found.new.shards c.in_ok-found.ensures.left
    c.index-rest-0.result c.index-rest-0.is c.file_of.result.now c.problem_of.result.now c.file_of.ensures c.problem_of.ensures
    c.in_ok-found.found.items c.in_ok-found.ensures.found (jobs_seen c.deref.result.now) (ap jobs_seen c.deref.ensures.value ∙ c.in_ok-jobs.ensures)
    c.in_ok-text.text.items c.in_ok-text.ensures
