use Rattle.std.proofs.Common.{rules, FitsSigned, w64, ◌^◌, lit<}
use Rattle.std.proofs.lemmas.Int.{to_z-of_z}
use Rattle.srs_num.proofs.Ranges.{small_fits}
use Rattle.srs_wit.proofs.pair_set.PairSet.add_one_way.Goals as goal

pub returns : goal.returns
returns c =
    let fa : FitsSigned w64 c.args.run.a = search rules in
    let ff : FitsSigned w64 c.args.run.first = small_fits w64 _ (2 ^ 41) c.requires.first (lit< tt) in
    simp to_z-of_z at c.add_far_run.ensures
