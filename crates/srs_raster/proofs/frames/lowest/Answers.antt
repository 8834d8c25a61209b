-- One vertex more.
use Rattle.std.proofs.Common.{◌≡◌, ◌+◌, FitsSigned, w64, to_z, of_z, arith, lit<, sym, subst, ◌∙◌}
use Rattle.std.specs.Int.{int_min}
use Rattle.std.proofs.lemmas.Int.{to_z-of_z}
use Rattle.srs_num.specs.Points.{IsWithin}
use Rattle.srs_num.proofs.Ranges.{small_fits}
use Rattle.srs_raster.proofs.Extremes.{IsLowest, placed, read, least_within, lowest_more}
use Rattle.srs_raster.proofs.frames.lowest.Goals as goal

pub floor_at-lowest-requires : goal.floor_at-lowest-requires
floor_at-lowest-requires c =
    let few = c.requires.counted.0 in
    placed c.args.vs.now c.requires 0 _ (omega (arith, few))

pub floor_at-requires : goal.floor_at-requires
floor_at-requires c = placed c.args.vs.now c.requires c.loop-v.v-index _ c.loop-v-test.true

pub loop-v-preserved : goal.loop-v-preserved
loop-v-preserved c =
    let vs = c.args.vs.now in
    let i = c.loop-v.v-index in
    let l = c.loop-v-test.true in
    let old = c.loop-v.invariant in
    let k = to_z w64 c.loop-v.lowest-bits in
    let f = c.floor_at.result in
    let ff : FitsSigned w64 f = small_fits w64 f 256 c.floor_at.ensures.narrow (lit< tt) in
    let e : c.min-lowest.result ≡ int_min k f = simp to_z-of_z at c.min-lowest.ensures.value in
    let within : IsWithin 256 c.min-lowest.result = subst (IsWithin 256) (sym e) (least_within 256 k f old.narrow c.floor_at.ensures.narrow) in
    let fm : FitsSigned w64 c.min-lowest.result = small_fits w64 c.min-lowest.result 256 within (lit< tt) in
    let end : IsLowest vs old.polygon c.args.axis (i + 1) (int_min k f) = lowest_more vs old.polygon c.args.axis i _ l (read vs old.polygon i _ l) k f old.end c.floor_at.ensures.floor in
    let same : to_z w64 (of_z w64 c.min-lowest.result) ≡ c.min-lowest.result = to_z-of_z w64 c.min-lowest.result fm in
    record {
      polygon = old.polygon;
      end = subst (IsLowest vs old.polygon c.args.axis (i + 1)) (sym (same ∙ e)) end;
      narrow = subst (IsWithin 256) (sym same) within;
    }
