-- What a valid certificate says of its polygon.
use Rattle.std.specs.Prelude.{◌≡◌, ⊤, ℕ, slice_get, Some}
use Rattle.srs_plane.specs.Polygons.{region_of}
use Rattle.srs_path.specs.Views.{Entry}
use Rattle.srs_tree.specs.Tree.{outcome_at, IsPartition}
use Rattle.srs_tree.specs.Growth.{IsProvedOf}
use Rattle.srs_cert.specs.Certificates.{CertView}
use Rattle.srs_check.specs.declared.faults.Checked.{Checked}
use Rattle.srs_check.specs.declared.faults.Checked.TheVariants.{Valid, Bad}
use Rattle.srs_check.specs.Proving.{node_region}

-- the leaves partition the polygon, and on the cell of each node its outcome is sound: inside each point is finite,
-- outside the pair of the cycle recurs at each point, and the form of a cut divides. Of what is left it says nothing
pub record IsCertified (c : CertView) : Type 0 where
  pub parts : IsPartition (region_of c.vertices) (outcome_at c.events)
  pub sound : (i : ℕ) (e : Entry) → slice_get c.events i ≡ Some e → IsProvedOf (node_region c e.path) e.outcome

-- where the answer is that each node proves itself
abbrev pub Certifies : CertView → Checked → Type 0
Certifies c (Valid counts) = IsCertified c
Certifies c (Bad line fault) = ⊤
