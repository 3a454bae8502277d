use Rattle.std.proofs.Common.{take}
use Rattle.cr_model.specs.Callings.{changes_of, rows_from, rows_of}
use Rattle.cr_prune.specs.Parts.{AreNew}
use Rattle.cr_prune.proofs.heads.Heads.are_new.Given as goal

abbrev pub invariant-loop-earlier : goal.invariant-loop-earlier
invariant-loop-earlier l = AreNew (rows_of l.self.problem (take l.earlier-index l.self.leads)) (rows_from l.from (changes_of l.self.problem l.step))
