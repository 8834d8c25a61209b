-- How a listing of the witnesses, and of their ranks, is used.
use Rattle.std.proofs.Common.{◌≡◌, ◌≢◌, ℕ, zero, suc, ◌<◌, ◌≤◌, List, length, arith, refl, ap, ap₂, Bool, true, false, ◌&&◌, true≢false, le_trans, sym}
use Rattle.std.specs.Prelude.{Contains}
use Rattle.std.specs.Bool.{Decides}
use Rattle.std.specs.Ordering.{int_eq}
use Rattle.std.specs.Cmp.{decided, signed_Decides}
use Rattle.std.proofs.lemmas.Map.Made.{length-le_from_is_member, IsDistinct-from_AllPairs, is_member-Decides}
use Rattle.srs_num.specs.declared.pairs.V2.{V2}
use Rattle.srs_num.specs.Points.{Point}
use Rattle.srs_map.specs.Step.{pair, origin, IsNarrow}
use Rattle.srs_map.specs.Links.{IsUnit, IsLink}
use Rattle.srs_plane.specs.Regions.{Area, IsIn}
use Rattle.srs_path.specs.Witnesses.{IsWitness, unit, link, HasEdge, IsSmall, AreWitnesses}
use Rattle.srs_path.specs.Core.{Wanders, pair_eq}

-- a property of the units that each link keeps is one of each witness
pub witness_induction : (R : Area) (P : V2 → Type 0) → ((w : V2) → IsUnit w → P w) → ((w v : V2) (r : Point) → IsIn R r → IsLink r w v → P w → P v) → {w : V2} → IsWitness R w → P w
witness_induction R P u l (unit {w} h) = u w h
witness_induction R P u l (link {w} {v} r i k h) = l w v r i k (witness_induction R P u l h)

-- where a rank falls along each edge between nonzero pairs, no walk over nonzero pairs from w is longer than its rank
pub no_wander : (R : Area) (P : V2 → Type 0) (rank : V2 → ℕ) → ((w v : V2) → P w → w ≢ origin → HasEdge R w v → P v × (rank v < rank w)) → (n : ℕ) (w : V2) → P w → rank w ≤ n → ¬ Wanders R (suc n) w
no_wander R P rank falls zero w p h k = let f = falls w k.1.0 p k.0 k.1.1 in absurd (omega (arith, f.1))
no_wander R P rank falls (suc n) w p h k =
    let f = falls w k.1.0 p k.0 k.1.1 in no_wander R P rank falls n k.1.0 f.0 (omega (arith, f.1)) k.1.2

both : (s t : Bool) → (s && t) ≡ true → (s ≡ true) × (t ≡ true)
both true true e = (refl, refl)
both true false e = absurd (true≢false (sym e))
both false t e = absurd (true≢false (sym e))

pub pair-decides : (v w : V2) → Decides (pair_eq v w) (v ≡ w)
pair-decides v w = (
  λ e. let t = both (int_eq v.a w.a) (int_eq v.b w.b) e in ap₂ pair ((signed_Decides v.a w.a).0 t.0) ((signed_Decides v.b w.b).0 t.1),
  λ e. rw ((signed_Decides v.a w.a).1 (ap (λ (x : V2). x.a) e), (signed_Decides v.b w.b).1 (ap (λ (x : V2). x.b) e)) refl,
)

-- a region is small where its witnesses are among the pairs of a list that is short enough
pub small_from_list : (R : Area) (W : ℕ) (ws : List V2) → ((w : V2) → IsWitness R w → Contains ws w) → length ws ≤ W → ((w : V2) → IsWitness R w → IsNarrow w) → IsSmall R W
small_from_list R W ws all short narrow = record { few = few; narrow = narrow }
  where
    few : (vs : List V2) → AreWitnesses R vs → length vs ≤ W
    few vs are =
        le_trans (length-le_from_is_member (decided pair_eq pair-decides) vs ws (IsDistinct-from_AllPairs pair-decides vs are.different)
        (λ q e. (is_member-Decides pair-decides ws q).1 (all q (are.each q ((is_member-Decides pair-decides vs q).0 e))))) short
