use Rattle.std.proofs.Common.{FitsSigned, w64, ◌^◌, lit<, refl}
use Rattle.std.proofs.lemmas.Int.{to_z-of_z}
use Rattle.srs_num.proofs.Ranges.{small_fits}
use Rattle.srs_num.proofs.points.Pt.near.Goals as goal

pub returns-then-is_near : goal.returns-then-is_near
returns-then-is_near c =
    let p = c.self.inside.p in
    let q = c.self.inside.q in
    let d = c.self.inside.d in
    let fp : FitsSigned w64 p = small_fits w64 p (2 ^ 42) c.self.invariant.p_range (lit< tt) in
    let fq : FitsSigned w64 q = small_fits w64 q (2 ^ 42) c.self.invariant.q_range (lit< tt) in
    let fd : FitsSigned w64 d = small_fits w64 d (2 ^ 40) c.self.invariant.d_range (lit< tt) in
    let first = simp to_z-of_z at (c.if-is_near.ensures.0 refl) in
    let second = simp to_z-of_z at c.is_near-then-is_near.ensures in
    rw (← c.self.view_is) (
      (λ yes. record { p_low = first.0; p_high = first.1; q_low = (second.0 yes).0; q_high = (second.0 yes).1 }),
      (λ near. second.1 (near.q_low, near.q_high)),
    )
