use Rattle.srs_front_examples.proofs.fronts.slots_are_used_again.Given as goal

abbrev pub ghosts-slots : goal.ghosts-slots
ghosts-slots g a = record { name = a.blank.name; parts = a.blank.parts }
