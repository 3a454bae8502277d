use Rattle.std.proofs.Common.{inl, refl}
use Rattle.cr_model.specs.Checkpoints.{checkpoint_text}
use Rattle.cr_store.proofs.laws.what_is_written_is_read_back.Goals as goal

pub returns-clause-is : goal.returns-clause-is
returns-clause-is c = λ of problem goes. record { problem = problem; is = inl refl; goes_on = goes }

pub returns-clause-alone : goal.returns-clause-alone
returns-clause-alone c = λ of other problem goes few file.
    c.bytes_have_one_answer.ensures.one_checkpoint (checkpoint_text of.problem of.bytes of.found of.jobs) of other few
    (record { problem = problem; is = inl refl; goes_on = goes }) file
