use Rattle.cr_hunter.proofs.together.run_by.Given as goal

abbrev pub ghosts-at_desk_by : goal.ghosts-at_desk_by
ghosts-at_desk_by g a = record { name = a.blank.name; parts = a.blank.parts }
