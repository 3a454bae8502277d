use Rattle.std.proofs.Common.{◌^◌, ◌<◌, length}
use Rattle.std.proofs.lemmas.List.Elements.{All-cons}
use Rattle.cr_trail.proofs.Resuming.{taken_covers, are_chain}
use Rattle.cr_trail.proofs.laws.what_is_left_of_a_trail_has_the_book.Goals as goal

pub returns : goal.returns
returns c =
    let tells = c.a_cut_trail_has_its_last_whole_checkpoint.ensures in
    record {
      covers = λ input text taken. (taken_covers tells input text taken).0;
      short = λ input text taken. (taken_covers tells input text taken).1;
      chain = λ input texts taken. (are_chain tells input texts taken).0;
      book = λ input texts bytes p found nodes book others q founds rest last few taken first end is that.
          let all = are_chain tells input texts taken in
          c.what_covers_the_same_has_one_book.ensures.end input texts bytes p found nodes book others q founds rest last
          (All-cons (λ t. length t < 2 ^ 63) input texts few all.1) all.0 first end is that;
    }
