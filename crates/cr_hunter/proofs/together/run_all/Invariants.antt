use Rattle.cr_hunter.proofs.together.run_all.Given as goal

abbrev pub ghosts-at_desk : goal.ghosts-at_desk
ghosts-at_desk g a = record { name = a.blank.name; parts = a.blank.parts }
