-- What a line of a ring says is determined, and so is what is wrong with it.
use Rattle.std.proofs.Common.{◌≡◌, ◌<◌, ℕ, ℤ, List, [], ◌∷◌, ◌++◌, codes, refl, sym, ◌∙◌, inl, inr, arith}
use Rattle.std.proofs.lemmas.Int.{ints}
use Rattle.srs_plane.specs.declared.halves.Kind.{Kind}
use Rattle.srs_plane.specs.declared.halves.Kind.TheVariants.{Ge, Gt}
use Rattle.srs_plane.specs.declared.polygons.Vertex.{Vertex}
use Rattle.srs_plane.specs.declared.polygons.PolyErr.TheVariants as polygons
use Rattle.srs_plane.specs.Polygons.{TurnsLeft, TurnsWrong, IsPolygon, IsPolygonErr}
use Rattle.srs_line.specs.declared.slip.Slip.{Slip}
use Rattle.srs_line.specs.Fields.{Says, HasWord}
use Rattle.srs_line.proofs.FieldLaws.{word_once, says_once, says_word, no_field_slip, field_slip_once, count_once}
use Rattle.srs_cert.specs.Texts.{kind_word}
use Rattle.srs_file.specs.Ring.{RingView, SaysVertex, IsVertexSlip, IsTurn, Opens, Adds, TakesVertex, SlipsVertex}

second : (a b c d : ℕ) → a ∷ b ∷ [] ≡ c ∷ d ∷ [] → b ≡ d
second a b c d e = cc

differ : (m n : ℕ) → m ≡ n → m < n → ⊥
differ m n e lt = omega arith

ge_gt : (line : List ℕ) → HasWord (codes "ge") line → HasWord (codes "gt") line → ⊥
ge_gt line p q = differ 101 116 (second 103 101 103 116 (word_once (codes "ge") (codes "gt") line p q)) (omega arith)

kind_once : (c d : Kind) (line : List ℕ) → HasWord (kind_word c) line → HasWord (kind_word d) line → c ≡ d
kind_once Ge Ge line p q = refl
kind_once Ge Gt line p q = absurd (ge_gt line p q)
kind_once Gt Ge line p q = absurd (ge_gt line q p)
kind_once Gt Gt line p q = refl

abbrev pub numbers_of : Vertex → List ℤ
numbers_of v = v.p ∷ v.q ∷ v.d ∷ []

has_kind : (v : Vertex) (line : List ℕ) → Says (kind_word v.kind) (numbers_of v) line → HasWord (kind_word v.kind) line
has_kind v line p = says_word (kind_word v.kind) line (numbers_of v) p

same_vertex : (p p' q q' d d' : ℤ) (k k' : Kind) → p ≡ p' → q ≡ q' → d ≡ d' → k ≡ k' → let v : Vertex = record { p = p; q = q; d = d; kind = k } in let w : Vertex = record { p = p'; q = q'; d = d'; kind = k' } in v ≡ w
same_vertex p p' q q' d d' k k' a b c f = rw (a, b, c, f) refl

said_once : (v w : Vertex) (line : List ℕ) → Says (kind_word v.kind) (numbers_of v) line → Says (kind_word w.kind) (numbers_of w) line → v ≡ w
said_once v w line p q =
    let kind : v.kind ≡ w.kind = kind_once v.kind w.kind line (has_kind v line p) (has_kind w line q) in
    let said : Says (kind_word w.kind) (numbers_of v) line = rw kind at p in
    let same = says_once (kind_word w.kind) line (numbers_of v) (numbers_of w) said q in
    let one : v.p ≡ w.p = cc in
    let two : v.q ≡ w.q = cc in
    let three : v.d ≡ w.d = cc in
    same_vertex v.p w.p v.q w.q v.d w.d v.kind w.kind one two three kind

pub vertex_once : (v w : Vertex) (line : List ℕ) → SaysVertex v line → SaysVertex w line → v ≡ w
vertex_once v w line p q = said_once v w line p.0 q.0

pub no_vertex_slip : (v : Vertex) (line : List ℕ) (slip : Slip) → SaysVertex v line → IsVertexSlip line slip → ⊥
no_vertex_slip v line slip p (inl (none, e)) = none v.kind (has_kind v line p.0)
no_vertex_slip v line slip p (inr (inl (kind, w, f))) =
    let same : kind ≡ v.kind = kind_once kind v.kind line w (has_kind v line p.0) in
    no_field_slip (kind_word v.kind) line (numbers_of v) slip p.0 (rw same at f)
no_vertex_slip v line slip p (inr (inr (w, said, out, e))) =
    let same : v ≡ w = said_once v w line p.0 said in
    out (rw same at p.1)

pub vertex_slip_once : (line : List ℕ) (d e : Slip) → IsVertexSlip line d → IsVertexSlip line e → d ≡ e
vertex_slip_once line d e (inl (none, f)) (inl (none', g)) = f ∙ sym g
vertex_slip_once line d e (inl (none, f)) (inr (inl (kind, w, g))) = absurd (none kind w)
vertex_slip_once line d e (inl (none, f)) (inr (inr (v, said, out, g))) = absurd (none v.kind (has_kind v line said))
vertex_slip_once line d e (inr (inl (kind, w, f))) (inl (none, g)) = absurd (none kind w)
vertex_slip_once line d e (inr (inr (v, said, out, f))) (inl (none, g)) = absurd (none v.kind (has_kind v line said))
vertex_slip_once line d e (inr (inl (kind, w, f))) (inr (inl (kind', w', g))) =
    let same : kind ≡ kind' = kind_once kind kind' line w w' in
    field_slip_once (kind_word kind') line 3 d e (rw same at f) g
vertex_slip_once line d e (inr (inl (kind, w, f))) (inr (inr (v, said, out, g))) =
    let same : kind ≡ v.kind = kind_once kind v.kind line w (has_kind v line said) in
    absurd (no_field_slip (kind_word v.kind) line (numbers_of v) d said (rw same at f))
vertex_slip_once line d e (inr (inr (v, said, out, f))) (inr (inl (kind, w, g))) =
    let same : kind ≡ v.kind = kind_once kind v.kind line w (has_kind v line said) in
    absurd (no_field_slip (kind_word v.kind) line (numbers_of v) e said (rw same at g))
vertex_slip_once line d e (inr (inr (v, said, out, f))) (inr (inr (w, said', out', g))) = f ∙ sym g

pub opens_once : (word : List ℕ) (t u : RingView) (line : List ℕ) → Opens word line t → Opens word line u → t ≡ u
opens_once word t u line (m, p, e) (n, q, f) = let same : m ≡ n = count_once word line 3 16 m n p q in rw (e, f, same) refl

adds_once : (s t u : RingView) (v : Vertex) → Adds s v t → Adds s v u → t ≡ u
adds_once s t u v (inl (a, e)) (inl (b, f)) = e ∙ sym f
adds_once s t u v (inl (a, e)) (inr (b, p, f)) = absurd (a b)
adds_once s t u v (inr (a, p, e)) (inl (b, f)) = absurd (b a)
adds_once s t u v (inr (a, p, e)) (inr (b, q, f)) = e ∙ sym f

pub takes_once : (s t u : RingView) (line : List ℕ) → TakesVertex s line t → TakesVertex s line u → t ≡ u
takes_once s t u line (v, p, a) (w, q, b) = let same : v ≡ w = vertex_once v w line p q in adds_once s t u w (rw same at a) b

turns_apart : (vs : List Vertex) (i : ℕ) → TurnsLeft vs i → TurnsWrong vs i → ⊥
turns_apart vs i left (j, off, wrong) = omega (arith, ints, left j off, wrong)

no_turn : (vs : List Vertex) (i : ℕ) → IsPolygon vs → IsPolygonErr vs (polygons.Turn i) → ⊥
no_turn vs i p t = turns_apart vs i (p.left i t.3) t.5

one_turn : (vs : List Vertex) (i j : ℕ) → IsPolygonErr vs (polygons.Turn i) → IsPolygonErr vs (polygons.Turn j) → i ≡ j
one_turn vs i j a b =
    let low : ¬ (i < j) = λ lt. turns_apart vs i (b.4 i lt) a.5 in
    let high : ¬ (j < i) = λ lt. turns_apart vs j (a.4 j lt) b.5 in
    omega arith

turn_once : (vs : List Vertex) (d e : Slip) (m n : ℕ) → IsTurn vs d m → IsTurn vs e n → (d ≡ e) × (m ≡ n)
turn_once vs d e m n (i, a, f, y) (j, b, g, z) = let same : i ≡ j = one_turn vs i j a b in (f ∙ sym g, rw (y, same, ← z) refl)

pub ring_apart : (s t : RingView) (line : List ℕ) (slip : Slip) (back : ℕ) → TakesVertex s line t → SlipsVertex s line slip back → ⊥
ring_apart s t line slip back (v, p, a) (inl (f, z)) = no_vertex_slip v line slip p f
ring_apart s t line slip back (v, p, inl (not_last, e)) (inr (w, q, f)) = not_last f.0
ring_apart s t line slip back (v, p, inr (a, polygon, e)) (inr (w, q, f)) =
    let same : v ≡ w = vertex_once v w line p q in
    no_turn (s.vertices ++ w ∷ []) f.1.0 (rw same at polygon) f.1.1

pub ring_slips_once : (s : RingView) (line : List ℕ) (d e : Slip) (m n : ℕ) → SlipsVertex s line d m → SlipsVertex s line e n → (d ≡ e) × (m ≡ n)
ring_slips_once s line d e m n (inl (f, z)) (inl (g, y)) = (vertex_slip_once line d e f g, z ∙ sym y)
ring_slips_once s line d e m n (inl (f, z)) (inr (w, q, g)) = absurd (no_vertex_slip w line d q f)
ring_slips_once s line d e m n (inr (w, q, f)) (inl (g, z)) = absurd (no_vertex_slip w line e q g)
ring_slips_once s line d e m n (inr (v, p, f)) (inr (w, q, g)) =
    let same : v ≡ w = vertex_once v w line p q in
    turn_once (s.vertices ++ w ∷ []) d e m n (rw same at f.1) g.1
