use Rattle.std.proofs.Common.{refl}
use Rattle.std.specs.Fmt.{digits}
use Rattle.cr_model.specs.Examples.{minimus}
use Rattle.cr_audit.proofs.Minimus.{minimus_proved}
use Rattle.cr_audit.proofs.laws.examples.a_log_of_plain_bob_minimus.Goals as goal

pub returns : goal.returns
unfolding digits
returns c = record {
  text = refl;
  proved = minimus_proved (c.a_test_decides_what_is_wanted.ensures.steps minimus) c.plain_bob_minimus_has_its_touch.ensures.book (c.fresh_problem_covers_its_kept.ensures minimus);
}
