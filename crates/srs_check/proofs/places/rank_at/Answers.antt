use Rattle.std.proofs.Common.{◌≡◌, ℕ, refl, sym, ap, ◌∙◌, slice_get, Some, true≢false, arith}
use Rattle.std.proofs.lemmas.Option.{same_Some, slice_get_within}
use Rattle.srs_num.specs.declared.pairs.V2.{V2}
use Rattle.srs_check.proofs.PlaceLemmas.{not_listed, next_place, from_place}
use Rattle.srs_check.proofs.places.rank_at.Goals as goal

pub returns-then-place-len-clause-none : goal.returns-then-place-len-clause-none
returns-then-place-len-clause-none c =
    not_listed c.args.ranks.now c.len.ensures.list c.args.w c.args.place c.requires
    (λ n e. omega (arith, slice_get_within c.args.ranks.now c.args.place (c.args.w, n) e, c.len.ensures.len, c.if-place-len.true))

pub returns-then-not-is_same-clause-none : goal.returns-then-not-is_same-clause-none
returns-then-not-is_same-clause-none c =
    not_listed c.args.ranks.now c.len.ensures.list c.args.w c.args.place c.requires
    (λ n e. true≢false (sym (c.if-not-is_same.ensures.1 (ap (λ (x : V2 × ℕ). x.0) (same_Some c.entry-rank.result (c.args.w, n) (sym c.entry-rank.ensures ∙ e))))))

pub returns-clause-some : goal.returns-clause-some
returns-clause-some c =
    let here : slice_get c.args.ranks.now c.args.place ≡ Some (c.args.w, c.entry-rank.result.1) = c.entry-rank.ensures ∙ ap (λ (x : V2). Some (x, c.entry-rank.result.1)) (c.if-not-is_same.ensures.0 refl) in
    from_place c.args.ranks.now c.args.place (c.args.w, c.entry-rank.result.1) here

pub returns-clause-next : goal.returns-clause-next
returns-clause-next c =
    let here : slice_get c.args.ranks.now c.args.place ≡ Some (c.args.w, c.entry-rank.result.1) = c.entry-rank.ensures ∙ ap (λ (x : V2). Some (x, c.entry-rank.result.1)) (c.if-not-is_same.ensures.0 refl) in
    λ _. next_place c.args.ranks.now c.len.ensures.list c.args.w c.args.place c.requires c.entry-rank.result.1 here
