use Rattle.std.proofs.Common.{◌≡◌, rules, List, [], ◌∷◌, ◌++◌, ap₂, sym, ◌∙◌, arith}
use Rattle.std.proofs.lemmas.List.FromFn.{map-range_with_len_more}
use Rattle.srs_num.specs.declared.pairs.V2.{V2}
use Rattle.srs_cell.specs.Spans.{pair_from}
use Rattle.srs_wit.proofs.spans.first_pairs.Goals as goal

pub loop-k-preserved : goal.loop-k-preserved
loop-k-preserved c =
    let e : c.push.new.self ≡ c.loop-k.pairs ++ c.pair.result ∷ [] = search rules in
    e
    ∙ ap₂ (λ (xs : List V2) (x : V2). xs ++ x ∷ []) c.loop-k.invariant c.pair.ensures
    ∙ sym (map-range_with_len_more (pair_from c.args.w c.args.span.low) 0 c.loop-k.k c.loop-k.k (omega arith))
