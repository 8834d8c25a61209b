use Rattle.std.proofs.Common.{to_z, ◌^◌, sym, ap, ◌∙◌, lit<}
use Rattle.std.proofs.lemmas.Bool.{eqb-true}
use Rattle.std.specs.Int.{w128}
use Rattle.srs_num.proofs.Ranges.{held_factors}
use Rattle.srs_cell.proofs.doubles.is_same_product.Goals as goal

pub returns : goal.returns
returns c =
    let left = held_factors w128 c.args.n c.args.e (2 ^ 62) (2 ^ 62) c.requires.n c.requires.e (lit< tt) (lit< tt) (lit< tt) in
    let right = held_factors w128 c.args.m c.args.d (2 ^ 62) (2 ^ 62) c.requires.m c.requires.d (lit< tt) (lit< tt) (lit< tt) in
    λ t. sym left.value ∙ ap (to_z w128) (eqb-true _ _ t) ∙ right.value
