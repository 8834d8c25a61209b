use Rattle.srs_front_examples.proofs.links.numbers_of_links.Given as goal

abbrev pub ghosts-numbers : goal.ghosts-numbers
ghosts-numbers g a = record { name = a.blank.name; parts = a.blank.parts }
