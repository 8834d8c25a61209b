-- How many LFs the parts of a certificate have.
use Rattle.std.proofs.Common.{◌≡◌, ◌==◌, ◌+◌, ◌/◌, ◌%◌, ◌++◌, true, false, cond, if◌then◌else◌, ℕ, zero, suc, ℤ, pos, negsuc, List, [], ◌∷◌, length, codes, flat_map, refl, ◌∙◌, arith}
use Rattle.std.specs.Fmt.{digit_glyph, digits_onto, digits, decimal, signed_decimal}
use Rattle.std.proofs.lemmas.Bool.Decides.{nat_tests}
use Rattle.std.proofs.lemmas.List.Sums.{sum_by-append}
use Rattle.srs_num.specs.declared.pairs.V2.{V2}
use Rattle.srs_plane.specs.declared.halves.Kind.{Kind}
use Rattle.srs_plane.specs.declared.halves.Kind.TheVariants.{Ge, Gt}
use Rattle.srs_plane.specs.declared.polygons.Vertex.{Vertex}
use Rattle.srs_path.specs.declared.outcomes.Why.TheVariants.{Cycle as CycleFails, Witness as WitnessFails}
use Rattle.srs_path.specs.declared.outcomes.Cause.{Cause}
use Rattle.srs_path.specs.declared.outcomes.Cause.TheVariants.{Depth, Cells, Thin, Memory}
use Rattle.srs_path.specs.declared.outcomes.Outcome.{Outcome}
use Rattle.srs_path.specs.declared.outcomes.Outcome.TheVariants.{Inside, Outside, Cut, Left}
use Rattle.srs_path.specs.Views.{Budget}
use Rattle.srs_line.specs.Fields.{line_of}
use Rattle.srs_cert.specs.Texts.{ended, count_text, kind_word, vertex_text, ring_text, limits_text, rank_text, cause_text, outcome_text, head_text}
use Rattle.srs_cert.specs.Heights.{height}
use Rattle.srs_cert.specs.Certificates.{lf_count}

-- the text has no LF
abbrev pub NoLf : List ℕ → Type 0
NoLf text = lf_count text ≡ 0

pub lf-append : (a b : List ℕ) → lf_count (a ++ b) ≡ lf_count a + lf_count b
lf-append a b = sum_by-append (λ byte. cond (byte == 10) 1 0) a b

glyph_clear : (d : ℕ) (acc : List ℕ) → NoLf acc → NoLf (digit_glyph false d ∷ acc)
glyph_clear d acc h = grind (arith, nat_tests)

digits_clear : (k n : ℕ) (acc : List ℕ) → NoLf acc → NoLf (digits_onto k 10 false n acc)
digits_clear zero n acc h = h
digits_clear (suc k) n acc h =
    let here : NoLf (digit_glyph false (n % 10) ∷ acc) = glyph_clear (n % 10) acc h in
    elim (n / 10 == 0) as (λ b. NoLf (if b then digit_glyph false (n % 10) ∷ acc else digits_onto k 10 false (n / 10) (digit_glyph false (n % 10) ∷ acc))) [
      | true ↦ here
      | false ↦ digits_clear k (n / 10) (digit_glyph false (n % 10) ∷ acc) here
    ]

decimal_clear : (n : ℕ) → NoLf (decimal n)
unfolding digits
decimal_clear n = digits_clear 64 n [] refl

number_clear : (z : ℤ) → NoLf (signed_decimal z)
number_clear (pos n) = decimal_clear n
number_clear (negsuc n) = decimal_clear (suc n)

numbers_clear : (zs : List ℤ) → NoLf (flat_map (λ z. 32 ∷ signed_decimal z) zs)
numbers_clear [] = refl
numbers_clear (z ∷ zs) = lf-append (32 ∷ signed_decimal z) (flat_map (λ y. 32 ∷ signed_decimal y) zs) ∙ omega (arith, number_clear z, numbers_clear zs)

line_clear : (word : List ℕ) (zs : List ℤ) → NoLf word → NoLf (line_of word zs)
line_clear word zs h = lf-append word (flat_map (λ z. 32 ∷ signed_decimal z) zs) ∙ omega (arith, h, numbers_clear zs)

ended_one : (line : List ℕ) → NoLf line → lf_count (ended line) ≡ 1
ended_one line h = let e : lf_count (ended line) ≡ lf_count line + 1 = lf-append line (10 ∷ []) in omega (arith, h, e)

said_one : (word : List ℕ) (zs : List ℤ) → NoLf word → lf_count (ended (line_of word zs)) ≡ 1
said_one word zs h = ended_one (line_of word zs) (line_clear word zs h)

vertex_one : (v : Vertex) → lf_count (vertex_text v) ≡ 1
vertex_one v = said_one (kind_word v.kind) (v.p ∷ v.q ∷ v.d ∷ []) (word v.kind)
  where
    word : (kind : Kind) → NoLf (kind_word kind)
    word Ge = refl
    word Gt = refl

vertices_all : (vs : List Vertex) → lf_count (flat_map vertex_text vs) ≡ length vs
vertices_all [] = refl
vertices_all (v ∷ vs) = lf-append (vertex_text v) (flat_map vertex_text vs) ∙ omega (arith, vertex_one v, vertices_all vs)

ranks_all : (ranks : List (V2 × ℕ)) → lf_count (flat_map rank_text ranks) ≡ length ranks
ranks_all [] = refl
ranks_all (r ∷ ranks) = lf-append (rank_text r) (flat_map rank_text ranks) ∙ omega (arith, said_one (codes "w") (r.0.a ∷ r.0.b ∷ pos r.1 ∷ []) refl, ranks_all ranks)

ring_lines : (vs : List Vertex) → lf_count (ring_text vs) ≡ length vs + 1
ring_lines vs = lf-append (count_text (codes "polygon") (length vs)) (flat_map vertex_text vs) ∙ omega (arith, said_one (codes "polygon") (pos (length vs) ∷ []) refl, vertices_all vs)

pub head_lines : (vs : List Vertex) (b : Budget) → lf_count (head_text vs b) ≡ length vs + 3
head_lines vs b =
    let front = count_text (codes "srs") 1 ++ ring_text vs in
    let first : lf_count front ≡ lf_count (count_text (codes "srs") 1) + lf_count (ring_text vs) = lf-append (count_text (codes "srs") 1) (ring_text vs) in
    let all : lf_count (head_text vs b) ≡ lf_count front + lf_count (limits_text b) = lf-append front (limits_text b) in
    omega (arith, first, all, said_one (codes "srs") (pos 1 ∷ []) refl, ring_lines vs, said_one (codes "limits") (pos b.depth ∷ pos b.cells ∷ pos b.wits ∷ []) refl)

cause_one : (cause : Cause) → lf_count (ended (codes "left " ++ cause_text cause)) ≡ 1
cause_one (Depth CycleFails) = refl
cause_one (Depth WitnessFails) = refl
cause_one (Cells CycleFails) = refl
cause_one (Cells WitnessFails) = refl
cause_one Thin = refl
cause_one Memory = refl

pub outcome_lines : (o : Outcome) → lf_count (outcome_text o) ≡ height o
outcome_lines (Inside ranks) = lf-append (count_text (codes "in") (length ranks)) (flat_map rank_text ranks) ∙ omega (arith, said_one (codes "in") (pos (length ranks) ∷ []) refl, ranks_all ranks)
outcome_lines (Outside cycle) = said_one (codes "out") (pos (length cycle) ∷ cycle) refl
outcome_lines (Cut h) = said_one (codes "cut") (h.a ∷ h.b ∷ h.c ∷ []) refl
outcome_lines (Left cause) = cause_one cause
