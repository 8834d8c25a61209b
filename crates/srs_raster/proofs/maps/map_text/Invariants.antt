-- A ledger of its own.
use Rattle.srs_raster.proofs.maps.map_text.Given as goal

abbrev pub ghosts-drawn : goal.ghosts-drawn
ghosts-drawn a = record { name = a.blank.name; parts = a.blank.parts }
