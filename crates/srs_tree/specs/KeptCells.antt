-- What a version keeps of a cell.
use Rattle.std.specs.Prelude.{[], Option, Some, None}
use Rattle.srs_plane.specs.Regions.{Area}

-- its region, which is that of the cell where this is kept whole
abbrev pub region_kept : Option Area → Option Area → Area
region_kept (Some R) bare = R
region_kept None (Some R) = R
region_kept None None = []
