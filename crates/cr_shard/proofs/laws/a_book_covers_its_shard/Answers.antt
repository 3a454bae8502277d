use Rattle.std.proofs.Common.{inl, refl}
use Rattle.cr_shard.proofs.JoinedFacts.{book_goes_on, book_covers}
use Rattle.cr_shard.proofs.laws.a_book_covers_its_shard.Goals as goal

pub returns : goal.returns
returns c = record {
  checkpoint = λ bytes p found nodes book file is. record { problem = file; is = inl refl; goes_on = book_goes_on p found nodes book is };
  covers = book_covers;
}
