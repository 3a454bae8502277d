use Rattle.cr_read.proofs.calls.check_calls.Goals as goal

pub returns-in-Some : goal.returns-in-Some
returns-in-Some c = λ n spell. (n, c.args.spellings.now, spell, c.in-Some.ensures)
