use Rattle.std.proofs.Common.{◌≡◌, ℕ, ◌+◌, [], ◌∷◌, ◌++◌, map, rules, arith, ◌∙◌, sym, ap}
use Rattle.std.specs.List.{range_with_len}
use Rattle.std.proofs.lemmas.List.FromFn.{map-range_with_len_more}
use Rattle.srs_num.specs.Points.{LinearForm}
use Rattle.srs_plane.specs.declared.halves.Kind.{Kind}
use Rattle.srs_plane.specs.declared.halves.Half.{Half}
use Rattle.srs_plane.specs.declared.polygons.Vertex.{Vertex}
use Rattle.srs_plane.specs.Polygons.{edge_at, vertex_at}
use Rattle.srs_plane.proofs.polygons.sides.Goals as goal

same_half : (f g : LinearForm) (k l : Kind) → f ≡ g → k ≡ l → ◌≡◌ {A = Half} (record { form = f; kind = k }) (record { form = g; kind = l })
same_half f g k l e h = cc

pub loop-i-preserved : goal.loop-i-preserved
loop-i-preserved c =
    let vs = c.args.vs.now in
    let side = λ (i : ℕ). let half : Half = record { form = edge_at vs i; kind = (vertex_at vs i).kind } in half in
    let i = c.loop-i.i in
    let more : map side (range_with_len 0 (i + 1)) ≡ map side (range_with_len 0 i) ++ side i ∷ [] = map-range_with_len_more side 0 i i (omega arith) in
    let half : Half = record { form = c.edge.result; kind = c.nth_vertex-from.result.now.kind } in
    let pushed : c.push.new.self.items ≡ c.loop-i.halves.items ++ half ∷ [] = search rules in
    let made : half ≡ side i = same_half _ _ _ _ c.edge.ensures (ap (λ (v : Vertex). v.kind) c.nth_vertex-from.ensures) in
    pushed ∙ ap (λ x. x ++ half ∷ []) c.loop-i.invariant ∙ ap (λ x. map side (range_with_len 0 i) ++ x ∷ []) made ∙ sym more
