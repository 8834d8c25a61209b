use Rattle.srs_plane_examples.proofs.counting.is_held.Given as goal

abbrev pub ghosts-holds : goal.ghosts-holds
ghosts-holds a = record { name = a.blank.name; parts = a.blank.parts }
