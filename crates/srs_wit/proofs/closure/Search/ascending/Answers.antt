use Rattle.std.proofs.Common.{◌≡◌, List, sym, ap, ◌∙◌, subst}
use Rattle.std.proofs.lemmas.Result.{IfOk-weaker}
use Rattle.srs_num.specs.declared.pairs.V2.{V2}
use Rattle.srs_wit.specs.Halves.{AreNarrow, with_opposites}
use Rattle.srs_wit.specs.Listing.{AreAllWitnesses}
use Rattle.srs_wit.specs.Search.{AreAll}
use Rattle.srs_wit.proofs.Sorting.{sorted_witnesses}
use Rattle.srs_wit.proofs.Permuting.{narrow_permuted}
use Rattle.srs_wit.proofs.closure.Search.ascending.Goals as goal

pub with_opposites-requires : goal.with_opposites-requires
with_opposites-requires c =
    let n = subst AreNarrow (sym c.in_ok-half.ensures) c.requires in
    subst AreNarrow (sym c.deref.ensures.value) (narrow_permuted c.in_ok-half.half.items c.sort_unstable.new.self.items c.sort_unstable.ensures.permutation n)

pub returns : goal.returns
returns c = λ R W a.
    let met = c.args.self.now.origin in
    let found : AreAll R W c.in_ok-half.half.items met = subst (λ (x : List V2). AreAll R W x met) (sym c.in_ok-half.ensures) a in
    let listed = sorted_witnesses R W c.in_ok-half.half.items c.sort_unstable.new.self.items met found c.sort_unstable.ensures.permutation c.sort_unstable.ensures.sorted in
    IfOk-weaker c.with_opposites.result (λ all. all.items ≡ with_opposites c.deref.result.now met) (λ all. AreAllWitnesses R all.items)
    (λ all e. subst (AreAllWitnesses R) (sym (e ∙ ap (λ (x : List V2). with_opposites x met) c.deref.ensures.value)) listed)
    c.with_opposites.ensures
