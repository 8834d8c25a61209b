use Rattle.std.proofs.Common.{◌≡◌, ◌≤◌, ℕ, List, length, sym, ap, ◌∙◌, subst}
use Rattle.std.proofs.lemmas.List.{length-take-le}
use Rattle.srs_num.specs.declared.pairs.V2.{V2}
use Rattle.srs_wit.specs.Halves.{AreNarrow, with_opposites}
use Rattle.srs_wit.proofs.BothSides.{length-both}
use Rattle.srs_wit.specs.PairSets.{all_of}
use Rattle.srs_wit.proofs.closure.Search.first.Goals as goal

pub slice_bounds-from_slice-end : goal.slice_bounds-from_slice-end
slice_bounds-from_slice-end c =
    let keys = (all_of c.args.self.now.found) in
    let met = c.args.self.now.origin in
    let e : c.deref-2.result.now ≡ with_opposites keys met = c.deref-2.ensures.value ∙ c.in_ok-all.ensures ∙ ap (λ (x : List V2). with_opposites x met) (c.deref.ensures.value ∙ c.in_ok-half.ensures) in
    sym (length-take-le c.args.n c.deref-2.result.now (subst (λ (x : List V2). c.args.n ≤ length x) (sym e) (subst (λ (k : ℕ). c.args.n ≤ k) (sym (length-both keys met)) c.requires.few)))

pub with_opposites-requires : goal.with_opposites-requires
with_opposites-requires c = subst AreNarrow (sym (c.deref.ensures.value ∙ c.in_ok-half.ensures)) c.requires.narrow
