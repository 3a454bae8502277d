use Rattle.cr_model.proofs.Minimus.{course_kept, course_book, written}
use Rattle.cr_model.proofs.laws.examples.plain_bob_minimus_has_its_touch.Goals as goal

pub returns : goal.returns
returns c = record { kept = course_kept; book = course_book; text = written }
