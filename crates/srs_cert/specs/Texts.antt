-- The texts of values: lines, polygons, limits, outcomes and certificates.
use Rattle.std.specs.Prelude.{ℕ, List, [], ◌∷◌, ◌++◌, length, pos, codes}
use Rattle.std.specs.List.{flat_map}
use Rattle.srs_num.specs.declared.pairs.V2.{V2}
use Rattle.srs_plane.specs.declared.halves.Kind.{Kind}
use Rattle.srs_plane.specs.declared.halves.Kind.TheVariants.{Ge, Gt}
use Rattle.srs_plane.specs.declared.polygons.Vertex.{Vertex}
use Rattle.srs_path.specs.declared.outcomes.Why.{Why}
use Rattle.srs_path.specs.declared.outcomes.Why.TheVariants.{Cycle as CycleFails, Witness as WitnessFails}
use Rattle.srs_path.specs.declared.outcomes.Cause.{Cause}
use Rattle.srs_path.specs.declared.outcomes.Cause.TheVariants.{Depth, Cells, Thin, Memory}
use Rattle.srs_path.specs.declared.outcomes.Outcome.{Outcome}
use Rattle.srs_path.specs.declared.outcomes.Outcome.TheVariants.{Inside, Outside, Cut, Left}
use Rattle.srs_path.specs.Views.{Budget}
use Rattle.srs_line.specs.Fields.{line_of}

-- a line with its LF
abbrev pub ended : List ℕ → List ℕ
ended line = line ++ 10 ∷ []

-- a line of a word and one number
abbrev pub count_text : List ℕ → ℕ → List ℕ
count_text word n = ended (line_of word (pos n ∷ []))

abbrev pub kind_word : Kind → List ℕ
kind_word Ge = codes "ge"
kind_word Gt = codes "gt"

-- whether the edge from here is closed, and where the vertex stands
abbrev pub vertex_text : Vertex → List ℕ
vertex_text v = ended (line_of (kind_word v.kind) (v.p ∷ v.q ∷ v.d ∷ []))

-- after the word how many vertices, and the vertices
abbrev pub vertices_text : List ℕ → List Vertex → List ℕ
vertices_text word vs = count_text word (length vs) ++ flat_map vertex_text vs

-- the lines of a polygon
abbrev pub ring_text : List Vertex → List ℕ
ring_text vs = vertices_text (codes "polygon") vs

-- the input of `certify`: a polygon and `end`
abbrev pub polygon_text : List Vertex → List ℕ
polygon_text vs = ring_text vs ++ ended (codes "end")

abbrev pub limits_text : Budget → List ℕ
limits_text b = ended (line_of (codes "limits") (pos b.depth ∷ pos b.cells ∷ pos b.wits ∷ []))

-- a witness and its rank
abbrev pub rank_text : V2 × ℕ → List ℕ
rank_text e = ended (line_of (codes "w") (e.0.a ∷ e.0.b ∷ pos e.1 ∷ []))

abbrev pub why_word : Why → List ℕ
why_word CycleFails = codes "cycle"
why_word WitnessFails = codes "witness"

abbrev pub cause_text : Cause → List ℕ
cause_text (Depth why) = codes "depth " ++ why_word why
cause_text (Cells why) = codes "cells " ++ why_word why
cause_text Thin = codes "thin"
cause_text Memory = codes "memory"

-- the lines of one node of a certificate
abbrev pub outcome_text : Outcome → List ℕ
outcome_text (Inside entries) = count_text (codes "in") (length entries) ++ flat_map rank_text entries
outcome_text (Outside cycle) = ended (line_of (codes "out") (pos (length cycle) ∷ cycle))
outcome_text (Cut h) = ended (line_of (codes "cut") (h.a ∷ h.b ∷ h.c ∷ []))
outcome_text (Left cause) = ended (codes "left " ++ cause_text cause)

-- what stands before the tree: the version, the polygon and the limits
abbrev pub head_text : List Vertex → Budget → List ℕ
head_text vs b = count_text (codes "srs") 1 ++ ring_text vs ++ limits_text b

-- the text of a certificate: its version, the polygon, the limits, the outcomes of its cells in preorder, and `end`
abbrev pub certificate_text : List Vertex → Budget → List Outcome → List ℕ
certificate_text vs b outcomes = head_text vs b ++ flat_map outcome_text outcomes ++ ended (codes "end")
