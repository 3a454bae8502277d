use Rattle.cr_io.proofs.reading.read_all.Given as goal

abbrev pub ghosts-read_all_from : goal.ghosts-read_all_from
ghosts-read_all_from g a = record { name = a.blank.name; parts = a.blank.parts }
