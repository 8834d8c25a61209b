use Rattle.std.proofs.Common.{◌≡◌, ◌<◌, ◌-◌, ◌++◌, ◌∷◌, [], ℕ, ℤ, pos, negsuc, ◌≤ℤ◌, unsigned_abs, List, length, arith, FitsSigned, w64, refl}
use Rattle.std.proofs.lemmas.Int.{ints, to_z-of_z}
use Rattle.srs_num.specs.declared.pairs.V2.{V2}
use Rattle.srs_path.specs.Lists.{ranked}
use Rattle.srs_file.specs.Leaf.{LeafView, Follows}
use Rattle.srs_file.proofs.Leaves.{leaf_grows, ranked_push}
use Rattle.srs_file.proofs.leaf.Leaf.add.Goals as goal

pub invariant_of-self-2 : goal.invariant_of-self-2
invariant_of-self-2 c =
    let ps = c.self.inside.pairs in
    let zs = c.self.inside.ranks in
    let more : 0 < c.self.inside.left = rw (← c.self.view_is) at c.requires.more in
    let follows : Follows (ranked ps zs) c.args.pair = rw (← c.self.view_is) at c.requires.follows in
    let fit : FitsSigned w64 c.args.rank = c.ranges.rank in
    let ranks : c.push-2.new.self ≡ zs ++ c.args.rank ∷ [] = simp to_z-of_z at c.in-Ok-push.ensures.ok in
    leaf_grows c.self.inside.left ps c.push.new.self zs c.push-2.new.self c.args.pair c.args.rank c.self.invariant more c.requires.entry follows c.in-Ok.ensures.ok ranks

natural : (z : ℤ) → pos 0 ≤ℤ z → (n : ℕ) × (z ≡ pos n) × (unsigned_abs z ≡ n)
natural (pos n) h = (n, refl, refl)
natural (negsuc n) h = absurd (omega (arith, ints, h))

grown : (left : ℕ) (ps after : List V2) (zs more : List ℤ) (w : V2) (z : ℤ) (n : ℕ) → length ps ≡ length zs → after ≡ ps ++ w ∷ [] → more ≡ zs ++ z ∷ [] → unsigned_abs z ≡ n
    → (let v : LeafView = record { left = left - 1; entries = ranked after more } in v) ≡ (record { left = left - 1; entries = ranked ps zs ++ (w, n) ∷ [] })
grown left ps after zs more w z n same e f g = rw (e, f, ← g, ranked_push ps zs w z same) refl

pub returns-clause-ok : goal.returns-clause-ok
returns-clause-ok c =
    let ps = c.self.inside.pairs in
    let zs = c.self.inside.ranks in
    let n = natural c.args.rank c.requires.entry.1 in
    let fit : FitsSigned w64 c.args.rank = c.ranges.rank in
    let ranks : c.push-2.new.self ≡ zs ++ c.args.rank ∷ [] = simp to_z-of_z at c.in-Ok-push.ensures.ok in
    (n.0, n.1, rw (← c.self.view_is) (grown c.self.inside.left ps c.push.new.self zs c.push-2.new.self c.args.pair c.args.rank n.0 c.self.invariant.same c.in-Ok.ensures.ok ranks n.2))
