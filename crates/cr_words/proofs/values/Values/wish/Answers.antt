use Rattle.std.proofs.Common.{◌∙◌, sym}
use Rattle.cr_words.specs.Commands.{values_of}
use Rattle.cr_words.proofs.Faults.{first_workers, first_turns, first_number, first_mode, first_every, first_into, first_mixed, no_fault}
use Rattle.cr_words.proofs.Wishes.{of_task}
use Rattle.cr_words.proofs.values.Values.wish.Goals as goal

pub returns-in_default : goal.returns-in_default
returns-in_default c = first_workers (values_of c.args.self.now.matches.now) (sym c.in_default.ensures)

pub returns-in_default-turns : goal.returns-in_default-turns
returns-in_default-turns c = first_turns (values_of c.args.self.now.matches.now) _ (sym c.in-Some.ensures) (sym c.in_default-turns.ensures)

pub returns-in_default-number : goal.returns-in_default-number
returns-in_default-number c =
    first_number (values_of c.args.self.now.matches.now) _ _ (sym c.in-Some.ensures) (sym c.in-Some-turns.ensures) (sym c.in_default-number.ensures)

pub returns-in_default-task : goal.returns-in_default-task
returns-in_default-task c = first_mode (values_of c.args.self.now.matches.now) _ _ _ (sym c.in-Some.ensures) (sym c.in-Some-turns.ensures)
    (sym c.in-Some-number.ensures) (sym c.in_default-task.ensures)

pub returns-in_default-every : goal.returns-in_default-every
returns-in_default-every c = first_every (values_of c.args.self.now.matches.now) _ _ _ _ (sym c.in-Some.ensures) (sym c.in-Some-turns.ensures)
    (sym c.in-Some-number.ensures) (sym c.in-Some-task.ensures) (sym c.in_default-every.ensures)

pub returns-in_default-into_many : goal.returns-in_default-into_many
returns-in_default-into_many c = first_into (values_of c.args.self.now.matches.now) _ _ _ _ _ (sym c.in-Some.ensures) (sym c.in-Some-turns.ensures)
    (sym c.in-Some-number.ensures) (sym c.in-Some-task.ensures) (sym c.in-Some-every.ensures) (sym c.in_default-into_many.ensures)

pub returns-then-is_mixed : goal.returns-then-is_mixed
returns-then-is_mixed c = first_mixed (values_of c.args.self.now.matches.now) _ _ _ _ _ _ (sym c.in-Some.ensures) (sym c.in-Some-turns.ensures)
    (sym c.in-Some-number.ensures) (sym c.in-Some-task.ensures) (sym c.in-Some-every.ensures) (sym c.in-Some-into_many.ensures)
    (sym c.is_mixed.ensures ∙ c.if-is_mixed.true)

pub returns : goal.returns
returns c = record {
  has_workers = sym c.in-Some.ensures;
  has_turns = sym c.in-Some-turns.ensures;
  has_mode = of_task (values_of c.args.self.now.matches.now) _ _ (sym c.in-Some-task.ensures) (c.mode.ensures (values_of c.args.self.now.matches.now) (sym c.in-Some-number.ensures) (sym c.in-Some-every.ensures)
      (sym c.in-Some-into_many.ensures));
  right = no_fault (values_of c.args.self.now.matches.now) _ _ _ _ _ _ (sym c.in-Some.ensures) (sym c.in-Some-turns.ensures) (sym c.in-Some-number.ensures)
      (sym c.in-Some-task.ensures) (sym c.in-Some-every.ensures) (sym c.in-Some-into_many.ensures) (sym c.is_mixed.ensures ∙ c.if-is_mixed.false);
}
