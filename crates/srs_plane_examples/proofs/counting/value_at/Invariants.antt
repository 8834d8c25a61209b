use Rattle.srs_plane_examples.proofs.counting.value_at.Given as goal

abbrev pub ghosts-value : goal.ghosts-value
ghosts-value a = record { name = a.blank.name; parts = a.blank.parts }
