-- The numbers of vertices are small, and so are the numbers of their lines.
use Rattle.std.proofs.Common.{◌≡◌, ◌^◌, ℤ, pos, neg_ℤ, ◌+ℤ◌, ◌-ℤ◌, ◌*ℤ◌, ◌≤ℤ◌, FitsSigned, w64, arith, lit<}
use Rattle.std.proofs.lemmas.Int.{ints, to_z-of_z}
use Rattle.srs_num.specs.Points.{Point, LinearForm, IsFormSized, IsWithin}
use Rattle.srs_num.specs.Lines.{edge_form}
use Rattle.srs_num.proofs.Ranges.{held, held_factors, within_product, within_sum, within_difference, small_fits}
use Rattle.srs_plane.specs.declared.polygons.Vertex.{Vertex}
use Rattle.srs_plane.specs.Placed.{IsPlaced}

-- what a vertex keeps
pub record IsSmall (v : Vertex) : Type 0 where
  pub p_range : IsWithin (2 ^ 18) v.p
  pub q_range : IsWithin (2 ^ 18) v.q
  pub d_range : IsWithin (2 ^ 18) v.d

pub small : (v : Vertex) → IsPlaced v → IsSmall v
small v placed = record {
  p_range = coordinate v.p v.d placed.small.d_low placed.small.d_high placed.near.p_low placed.near.p_high;
  q_range = coordinate v.q v.d placed.small.d_low placed.small.d_high placed.near.q_low placed.near.q_high;
  d_range = denominator v.d placed.small.d_low placed.small.d_high;
}
  where
    coordinate : (p d : ℤ) → pos 1 ≤ℤ d → d ≤ℤ pos 65536 → neg_ℤ (pos 4 *ℤ d) ≤ℤ p → p ≤ℤ (pos 4 *ℤ d) → IsWithin (2 ^ 18) p
    coordinate p d h k l m = omega (arith, ints)

    denominator : (d : ℤ) → pos 1 ≤ℤ d → d ≤ℤ pos 65536 → IsWithin (2 ^ 18) d
    denominator d h k = omega (arith, ints)

-- what 64 bits hold of a product
abbrev pub short_product : ℤ → ℤ → ℤ
short_product x y = held w64 (held w64 x *ℤ held w64 y)

-- three products and their sum, as 64 bits hold them
pub record HeldDot (a b c p q d : ℤ) : Type 0 where
  pub first : FitsSigned w64 (held w64 a *ℤ held w64 p)
  pub second : FitsSigned w64 (held w64 b *ℤ held w64 q)
  pub third : FitsSigned w64 (held w64 c *ℤ held w64 d)
  pub two : FitsSigned w64 (short_product a p +ℤ short_product b q)
  pub all : FitsSigned w64 (held w64 (short_product a p +ℤ short_product b q) +ℤ short_product c d)
  pub value : held w64 (held w64 (short_product a p +ℤ short_product b q) +ℤ short_product c d) ≡ a *ℤ p +ℤ b *ℤ q +ℤ c *ℤ d

-- those of a form and a vertex
pub held_dot : (f : LinearForm) (v : Vertex) → IsFormSized f → IsPlaced v → HeldDot f.a f.b f.c v.p v.q v.d
held_dot f v sized placed =
    let near = small v placed in
    let x = held_factors w64 f.a v.p (2 ^ 38) (2 ^ 18) sized.a_range near.p_range (lit< tt) (lit< tt) (lit< tt) in
    let y = held_factors w64 f.b v.q (2 ^ 38) (2 ^ 18) sized.b_range near.q_range (lit< tt) (lit< tt) (lit< tt) in
    let z = held_factors w64 f.c v.d (2 ^ 38) (2 ^ 18) sized.c_range near.d_range (lit< tt) (lit< tt) (lit< tt) in
    let size = within_sum (f.a *ℤ v.p) (f.b *ℤ v.q) _ _ (within_product f.a v.p (2 ^ 38) (2 ^ 18) sized.a_range near.p_range) (within_product f.b v.q (2 ^ 38) (2 ^ 18) sized.b_range near.q_range) in
    let two : FitsSigned w64 (f.a *ℤ v.p +ℤ f.b *ℤ v.q) = small_fits w64 _ _ size (lit< tt) in
    let all : FitsSigned w64 (f.a *ℤ v.p +ℤ f.b *ℤ v.q +ℤ f.c *ℤ v.d) =
    small_fits w64 _ _ (within_sum (f.a *ℤ v.p +ℤ f.b *ℤ v.q) (f.c *ℤ v.d) _ _ size (within_product f.c v.d (2 ^ 38) (2 ^ 18) sized.c_range near.d_range)) (lit< tt) in
    record {
      first = x.fits;
      second = y.fits;
      third = z.fits;
      two = rw (x.value, y.value) two;
      all = rw (x.value, y.value, z.value) (simp to_z-of_z all);
      value = rw (x.value, y.value, z.value) (simp to_z-of_z);
    }

-- a difference of two products of numbers of vertices, as 64 bits hold it
pub record HeldVertexMinor (a b c d : ℤ) : Type 0 where
  pub fits : FitsSigned w64 (short_product a d -ℤ short_product b c)
  pub value : held w64 (short_product a d -ℤ short_product b c) ≡ a *ℤ d -ℤ b *ℤ c
  pub size : IsWithin (2 ^ 37) (held w64 (short_product a d -ℤ short_product b c))

pub held_vertex_minor : (a b c d : ℤ) → IsWithin (2 ^ 18) a → IsWithin (2 ^ 18) b → IsWithin (2 ^ 18) c → IsWithin (2 ^ 18) d → HeldVertexMinor a b c d
held_vertex_minor a b c d ha hb hc hd =
    let x = held_factors w64 a d (2 ^ 18) (2 ^ 18) ha hd (lit< tt) (lit< tt) (lit< tt) in
    let y = held_factors w64 b c (2 ^ 18) (2 ^ 18) hb hc (lit< tt) (lit< tt) (lit< tt) in
    let size : IsWithin (2 ^ 37) (a *ℤ d -ℤ b *ℤ c) =
    within_difference (a *ℤ d) (b *ℤ c) _ _ (within_product a d (2 ^ 18) (2 ^ 18) ha hd) (within_product b c (2 ^ 18) (2 ^ 18) hb hc) in
    let all : FitsSigned w64 (a *ℤ d -ℤ b *ℤ c) = small_fits w64 _ _ size (lit< tt) in
    let value : held w64 (short_product a d -ℤ short_product b c) ≡ a *ℤ d -ℤ b *ℤ c = rw (x.value, y.value) (simp to_z-of_z) in
    record { fits = rw (x.value, y.value) all; value = value; size = rw value size }

-- the code of a line has the form of the line
pub edge_form_is : (u w : Point) (a b c : ℤ) → a ≡ u.q *ℤ w.d -ℤ u.d *ℤ w.q → b ≡ u.d *ℤ w.p -ℤ u.p *ℤ w.d → c ≡ u.p *ℤ w.q -ℤ u.q *ℤ w.p
    → ◌≡◌ {A = LinearForm} (record { a = a; b = b; c = c }) (edge_form u w)
unfolding edge_form
edge_form_is u w a b c e f g = same _ _ _ _ _ _ e f g
  where
    same : (a b c x y z : ℤ) → a ≡ x → b ≡ y → c ≡ z → ◌≡◌ {A = LinearForm} (record { a = a; b = b; c = c }) (record { a = x; b = y; c = z })
    same a b c x y z e f g = cc
