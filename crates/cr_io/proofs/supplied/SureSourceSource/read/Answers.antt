use Rattle.std.proofs.lemmas.List.{take_rest}
use Rattle.cr_io.proofs.Bytes.{copied-front}
use Rattle.cr_io.proofs.supplied.SureSourceSource.read.Goals as goal

pub returns-clause-bytes : goal.returns-clause-bytes
returns-clause-bytes c =
    copied-front _ _ _ _ _ _ _ c.self.view_is (rw (c.deref.ensures.value, take_rest) c.self.view_is) c.copy_front-count.ensures.count c.copy_front-count.ensures.copied
