use Rattle.srs_atlas.proofs.frontier.Frontier.remove.Given as goal

abbrev pub ghosts-remove_uncounted : goal.ghosts-remove_uncounted
ghosts-remove_uncounted a = record { name = a.blank.name; parts = a.blank.parts }
