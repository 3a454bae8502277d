use Rattle.cr_book.proofs.WrongPlaces.{one_place}
use Rattle.cr_book.proofs.laws.one_place_is_first_wrong.Goals as goal

pub returns : goal.returns
returns c = λ p text place other one two. one_place p text place other one two
