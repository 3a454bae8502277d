use Rattle.cr_query.proofs.KeptCallings.{kept_where_part_least}
use Rattle.cr_query.proofs.laws.a_wanted_calling_is_kept_where_its_part_is_least.Goals as goal

pub returns : goal.returns
returns c = λ p calling free wanted.
    kept_where_part_least p calling (c.a_rotation_of_a_wanted_touch_is_wanted.ensures p calling) c.repeated_words_are_least_where_the_word_is.ensures
    (c.a_touch_is_its_part_repeated.ensures p calling wanted.meets) free wanted
