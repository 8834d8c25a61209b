use Rattle.std.proofs.Common.{◌≡◌, ◌≤◌, ◌≤ℤ◌, ℤ, pos, negsuc, [], ◌∷◌, unsigned_abs, refl, rules, arith, to_z-of_z, FitsSigned, w64}
use Rattle.std.proofs.lemmas.Int.{ints}
use Rattle.srs_num.specs.declared.pairs.V2.{V2}
use Rattle.srs_num.specs.Points.{Point, IsPtSized, IsNear}
use Rattle.srs_map.specs.Step.{IsNarrow}
use Rattle.srs_file.specs.Questions.{orbit_numbers}
use Rattle.srs_tree.specs.Questions.{IsOrbitAsked}
use Rattle.srs_file.proofs.questions.orbit_of.Goals as goal

counted : (n : ℤ) → pos 0 ≤ℤ n → n ≤ℤ pos 100000 → (n ≡ pos (unsigned_abs n)) × (unsigned_abs n ≤ 100000)
counted (pos n) low high = (refl, omega (arith, ints, high))
counted (negsuc n) low high = absurd (omega (arith, ints, low))

asked : (r : Point) (p q d a b n : ℤ) → (let s : Point = record { p = p; q = q; d = d } in r ≡ s) → IsPtSized r → IsNear r → (let z : V2 = record { a = a; b = b } in IsNarrow z)
    → pos 0 ≤ℤ n → n ≤ℤ pos 100000
    → (let z : V2 = record { a = a; b = b } in IsOrbitAsked r z (unsigned_abs n) × (p ∷ q ∷ d ∷ a ∷ b ∷ n ∷ [] ≡ orbit_numbers r z (pos (unsigned_abs n))))
asked r p q d a b n is sized near narrow low high =
    let steps = counted n low high in
    (record { sized = sized; near = near; narrow = narrow; few = steps.1 }, rw (is, ← steps.0) refl)

pub returns-clause-some : goal.returns-clause-some
returns-clause-some c =
    let said = c.args.said.now in
    let p : FitsSigned w64 said.0 = search rules in
    let q : FitsSigned w64 said.1 = search rules in
    let d : FitsSigned w64 said.2 = search rules in
    let a : FitsSigned w64 said.3 = search rules in
    let b : FitsSigned w64 said.4 = search rules in
    let n : FitsSigned w64 said.5 = search rules in
    let r : Point = record { p = said.0; q = said.1; d = said.2 } in
    let z : V2 = record { a = said.3; b = said.4 } in
    let is : c.in_ok-r.r ≡ r = rw (to_z-of_z p, to_z-of_z q, to_z-of_z d) at c.in_ok-r.ensures.some in
    let sized : IsPtSized c.in_ok-r.r = search rules in
    let near : IsNear c.in_ok-r.r = c.if-not-near.ensures.0 (search rules) in
    let narrow : IsNarrow z = rw (to_z-of_z a, to_z-of_z b) at (c.if-not-is_narrow.ensures.0 (search rules)) in
    let low : pos 0 ≤ℤ said.5 = let h = c.if-steps-lt0.false in omega (arith, ints, to_z-of_z n) in
    let high : said.5 ≤ℤ pos 100000 = let h = c.if-steps-from.false in omega (arith, ints, to_z-of_z n) in
    rw (to_z-of_z a, to_z-of_z b, to_z-of_z n) (asked c.in_ok-r.r said.0 said.1 said.2 said.3 said.4 said.5 is sized near narrow low high)
