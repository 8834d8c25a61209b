-- A ring that grows by a vertex.
use Rattle.std.proofs.Common.{◌≡◌, ◌<◌, ◌-◌, ◌++◌, ℕ, List, [], ◌∷◌, arith, length-append}
use Rattle.std.proofs.lemmas.List.Elements.{All-nil, All-cons, All-append}
use Rattle.srs_plane.specs.declared.polygons.Vertex.{Vertex}
use Rattle.srs_plane.specs.Placed.{IsPlaced}
use Rattle.srs_line.specs.declared.slip.LineErr.{LineErr}
use Rattle.srs_line.specs.declared.slip.LineErr.TheVariants as lines
use Rattle.srs_line.specs.Refusal.{IsSlip}
use Rattle.srs_file.specs.Ring.{RingView, IsGrowing, IsTurn, SlipsAdd}

pub grows : (left : ℕ) (vs new : List Vertex) (v : Vertex) → IsGrowing left vs → 0 < left → IsPlaced v → new ≡ vs ++ v ∷ [] → IsGrowing (left - 1) new
grows left vs new v g more placed e = rw e (record {
  placed = All-append IsPlaced vs (v ∷ []) g.placed (All-cons IsPlaced v [] placed (All-nil IsPlaced));
  counted = λ still. let c = g.counted more in (omega (arith, length-append vs (v ∷ [])), omega (arith, length-append vs (v ∷ [])));
})

pub slips_add : (old : RingView) (v : Vertex) (vs : List Vertex) (e : LineErr) → old.left ≡ 1 → vs ≡ old.vertices ++ v ∷ [] → IsSlip (IsTurn vs) e → IsSlip (SlipsAdd old v) e
slips_add old v vs (lines.Slip slip back) last e turn = (last, rw e at turn)
slips_add old v vs lines.NoMemory last e turn = tt
