-- One vertex more.
use Rattle.std.proofs.Common.{◌≡◌, ◌+◌, FitsSigned, w64, to_z, of_z, arith, lit<, sym, subst, ◌∙◌}
use Rattle.std.specs.Int.{int_max}
use Rattle.std.proofs.lemmas.Int.{to_z-of_z}
use Rattle.srs_num.specs.Points.{IsWithin}
use Rattle.srs_num.proofs.Ranges.{small_fits}
use Rattle.srs_raster.proofs.Extremes.{IsHighest, placed, read, greatest_within, highest_more}
use Rattle.srs_raster.proofs.frames.highest.Goals as goal

pub ceiling_at-highest-requires : goal.ceiling_at-highest-requires
ceiling_at-highest-requires c =
    let few = c.requires.counted.0 in
    placed c.args.vs.now c.requires 0 _ (omega (arith, few))

pub ceiling_at-requires : goal.ceiling_at-requires
ceiling_at-requires c = placed c.args.vs.now c.requires c.loop-v.v-index _ c.loop-v-test.true

pub loop-v-preserved : goal.loop-v-preserved
loop-v-preserved c =
    let vs = c.args.vs.now in
    let i = c.loop-v.v-index in
    let l = c.loop-v-test.true in
    let old = c.loop-v.invariant in
    let k = to_z w64 c.loop-v.highest-bits in
    let f = c.ceiling_at.result in
    let ff : FitsSigned w64 f = small_fits w64 f 256 c.ceiling_at.ensures.narrow (lit< tt) in
    let e : c.max-highest.result ≡ int_max k f = simp to_z-of_z at c.max-highest.ensures.value in
    let within : IsWithin 256 c.max-highest.result = subst (IsWithin 256) (sym e) (greatest_within 256 k f old.narrow c.ceiling_at.ensures.narrow) in
    let fm : FitsSigned w64 c.max-highest.result = small_fits w64 c.max-highest.result 256 within (lit< tt) in
    let end : IsHighest vs old.polygon c.args.axis (i + 1) (int_max k f) = highest_more vs old.polygon c.args.axis i _ l (read vs old.polygon i _ l) k f old.end c.ceiling_at.ensures.ceiling in
    let same : to_z w64 (of_z w64 c.max-highest.result) ≡ c.max-highest.result = to_z-of_z w64 c.max-highest.result fm in
    record {
      polygon = old.polygon;
      end = subst (IsHighest vs old.polygon c.args.axis (i + 1)) (sym (same ∙ e)) end;
      narrow = subst (IsWithin 256) (sym same) within;
    }
