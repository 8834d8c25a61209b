use Rattle.std.proofs.Common.{FitsSigned, w64, ◌∙◌, ◌^◌, lit<, lit≤}
use Rattle.std.proofs.lemmas.Int.{to_z-of_z}
use Rattle.srs_num.proofs.Ranges.{small_fits, within_more}
use Rattle.srs_plane.specs.Polygons.{point_of}
use Rattle.srs_plane.proofs.Sizes.{small, edge_form_is}
use Rattle.srs_plane.proofs.polygons.line.Goals as goal

pub unreachable-requires : goal.unreachable-requires
unreachable-requires c =
    let fa : FitsSigned w64 c.minor-a.result = small_fits w64 _ (2 ^ 37) c.minor-a.ensures.size (lit< tt) in
    let fb : FitsSigned w64 c.minor-b.result = small_fits w64 _ (2 ^ 37) c.minor-b.ensures.size (lit< tt) in
    let fc : FitsSigned w64 c.minor-c.result = small_fits w64 _ (2 ^ 37) c.minor-c.ensures.size (lit< tt) in
    let refused = simp to_z-of_z at c.in-None.ensures.none in
    refused (record {
      a_range = within_more c.minor-a.result _ (2 ^ 38) c.minor-a.ensures.size (lit≤ tt);
      b_range = within_more c.minor-b.result _ (2 ^ 38) c.minor-b.ensures.size (lit≤ tt);
      c_range = within_more c.minor-c.result _ (2 ^ 38) c.minor-c.ensures.size (lit≤ tt);
    })

pub returns : goal.returns
returns c =
    let u = c.args.from.now in
    let w = c.args.to.now in
    let s = small u c.requires.from in
    let t = small w c.requires.to in
    let fp : FitsSigned w64 u.p = small_fits w64 u.p (2 ^ 18) s.p_range (lit< tt) in
    let fq : FitsSigned w64 u.q = small_fits w64 u.q (2 ^ 18) s.q_range (lit< tt) in
    let fd : FitsSigned w64 u.d = small_fits w64 u.d (2 ^ 18) s.d_range (lit< tt) in
    let gp : FitsSigned w64 w.p = small_fits w64 w.p (2 ^ 18) t.p_range (lit< tt) in
    let gq : FitsSigned w64 w.q = small_fits w64 w.q (2 ^ 18) t.q_range (lit< tt) in
    let gd : FitsSigned w64 w.d = small_fits w64 w.d (2 ^ 18) t.d_range (lit< tt) in
    let fa : FitsSigned w64 c.minor-a.result = small_fits w64 _ (2 ^ 37) c.minor-a.ensures.size (lit< tt) in
    let fb : FitsSigned w64 c.minor-b.result = small_fits w64 _ (2 ^ 37) c.minor-b.ensures.size (lit< tt) in
    let fc : FitsSigned w64 c.minor-c.result = small_fits w64 _ (2 ^ 37) c.minor-c.ensures.size (lit< tt) in
    let a = simp to_z-of_z at c.minor-a.ensures.value in
    let b = simp to_z-of_z at c.minor-b.ensures.value in
    let k = simp to_z-of_z at c.minor-c.ensures.value in
    let made = simp to_z-of_z at c.in-Some.ensures.some in
    made ∙ edge_form_is (point_of u) (point_of w) _ _ _ a b k
