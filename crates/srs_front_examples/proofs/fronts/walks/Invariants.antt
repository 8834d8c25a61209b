use Rattle.srs_front_examples.proofs.fronts.walks.Given as goal

abbrev pub ghosts-list : goal.ghosts-list
ghosts-list a = record { name = a.blank.name; parts = a.blank.parts }
