-- Sessions.
use Rattle.std.specs.Prelude.{◌<◌, List, AllPairs}
use Rattle.srs_tree.specs.declared.sessions.Segment.{Segment}

-- each segment's round is above those before it
abbrev pub AreAscending : List Segment → Type 0
AreAscending segments = AllPairs (λ (s t : Segment). s.at < t.at) segments
