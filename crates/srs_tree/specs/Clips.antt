-- What a cell has inside something.
use Rattle.std.specs.Prelude.{◌≡◌, ◌↔◌, false, IsTrue, MatchOption}
use Rattle.srs_num.specs.Points.{Point}
use Rattle.srs_plane.specs.Regions.{Area, IsIn}
use Rattle.srs_tree.specs.declared.meetings.Clip.{Clip}

-- of the points of Q the clip has those with the property P, and it tells whether Q has a point without it
pub record IsClip (Q : Area) (P : Point → Type 0) (c : Clip) : Type 0 where
  pub inside : MatchOption c.inside ((r : Point) → IsIn Q r → P r → ⊥) (λ I. (r : Point) → IsIn I r ↔ (IsIn Q r × P r))
  pub some_beyond : IsTrue c.beyond → (r : Point) × IsIn Q r × (P r → ⊥)
  pub none_beyond : c.beyond ≡ false → (r : Point) → IsIn Q r → P r
