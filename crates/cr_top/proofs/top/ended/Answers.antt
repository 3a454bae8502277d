use Rattle.std.proofs.Common.{inl, refl, sym, subst}
use Rattle.cr_words.specs.Commands.{texts_of}
use Rattle.cr_top.specs.Endings.{Ends}
use Rattle.cr_top.proofs.Wishing.{without_memory}
use Rattle.cr_top.proofs.Workers.{some_workers, few_workers, some_turns}
use Rattle.cr_top.proofs.ShardWishes.{some_shards}
use Rattle.cr_top.proofs.top.ended.Goals as goal

pub returns-in-Ok-clause-ends : goal.returns-in-Ok-clause-ends
returns-in-Ok-clause-ends g c = inl (c.in-Ok.wish, (rw c.in-Ok.is at c.read_words.ensures.ok), c.carried_out.ensures.ends)

pub carried_out-requires-clause-some_workers : goal.carried_out-requires-clause-some_workers
carried_out-requires-clause-some_workers g c = λ κs lives. some_workers _ c.in-Ok.wish (rw c.in-Ok.is at c.read_words.ensures.ok)

pub carried_out-requires-clause-few_workers : goal.carried_out-requires-clause-few_workers
carried_out-requires-clause-few_workers g c = λ κs lives. few_workers _ c.in-Ok.wish (rw c.in-Ok.is at c.read_words.ensures.ok)

pub carried_out-requires-clause-some_turns : goal.carried_out-requires-clause-some_turns
carried_out-requires-clause-some_turns g c = λ κs lives. some_turns _ c.in-Ok.wish (rw c.in-Ok.is at c.read_words.ensures.ok)

pub carried_out-requires-clause-some_shards : goal.carried_out-requires-clause-some_shards
carried_out-requires-clause-some_shards g c = λ κs lives. some_shards _ c.in-Ok.wish (rw c.in-Ok.is at c.read_words.ensures.ok)

pub returns-in-Err-NoMemory-clause-ends : goal.returns-in-Err-NoMemory-clause-ends
returns-in-Err-NoMemory-clause-ends g c = subst (Ends _ _ (texts_of c.args.words.now)) (sym c.status_for.ensures)
    (without_memory _ _ (g.met.S.Source.starts _) (g.met.K.Sink.starts _) refl refl (texts_of c.args.words.now) (c.words_are_accepted_or_have_a_fault.ensures.some (texts_of c.args.words.now)))
