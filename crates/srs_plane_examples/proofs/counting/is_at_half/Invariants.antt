use Rattle.srs_plane_examples.proofs.counting.is_at_half.Given as goal

abbrev pub ghosts-half_holds : goal.ghosts-half_holds
ghosts-half_holds a = record { name = a.blank.name; parts = a.blank.parts }
