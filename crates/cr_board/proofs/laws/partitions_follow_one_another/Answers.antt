use Rattle.cr_board.proofs.Covering.{covers_same}
use Rattle.cr_board.proofs.Parting.{begun, onward}
use Rattle.cr_board.proofs.laws.partitions_follow_one_another.Goals as goal

pub returns-clause-begun : goal.returns-clause-begun
returns-clause-begun c = begun

pub returns-clause-onward : goal.returns-clause-onward
returns-clause-onward c = onward

pub returns-clause-covers : goal.returns-clause-covers
returns-clause-covers c = λ p found nodes now left spent calling part. covers_same c.covers_are_counted.ensures p found nodes now left spent part calling
