use Rattle.srs_front_examples.proofs.plays.drawn_changes.Given as goal

abbrev pub ghosts-play : goal.ghosts-play
ghosts-play g a = record { name = a.blank.name; parts = a.blank.parts }
