-- What a certificate holds, its text, and where its nodes stand in it.
use Rattle.std.specs.Prelude.{◌≡◌, ⊤, ℕ, ◌+◌, ◌<◌, ◌==◌, All, List, [], ◌∷◌, ◌++◌, length, map, take, count_by, slice_get, slice_index, Some}
use Rattle.std.specs.List.{flat_map}
use Rattle.srs_num.specs.Points.{LinearForm, IsFormSized}
use Rattle.srs_plane.specs.declared.polygons.Vertex.{Vertex}
use Rattle.srs_plane.specs.Polygons.{IsPolygon, region_of}
use Rattle.srs_path.specs.declared.paths.Side.{Side}
use Rattle.srs_path.specs.declared.paths.Side.TheVariants.{Lt}
use Rattle.srs_path.specs.declared.outcomes.Outcome.{Outcome}
use Rattle.srs_path.specs.declared.outcomes.Outcome.TheVariants.{Inside, Outside, Cut, Left}
use Rattle.srs_path.specs.Lists.{IsRankList, IsCycle}
use Rattle.srs_path.specs.Views.{Budget, IsBudget, Entry}
use Rattle.srs_tree.specs.Tree.{History}
use Rattle.srs_tree.specs.WholeTrees.{ListsWholeTree, IsWithin}
use Rattle.srs_tree.specs.Snapshots.{Snapshot, StandsFor}
use Rattle.srs_tree.specs.Preorder.{preorder_of}
use Rattle.srs_cert.specs.Texts.{head_text, outcome_text, certificate_text}

-- what a certificate is seen as: the vertices of its polygon, its limits, and the events of its tree in preorder
pub record CertView : Type 0 where
  pub vertices : List Vertex
  pub limits : Budget
  pub events : History

-- the outcomes of the events, in their order
abbrev pub outcomes_of : History → List Outcome
outcomes_of H = map (λ e. e.outcome) H

-- the one text of a certificate
abbrev pub cert_text : CertView → List ℕ
cert_text c = certificate_text c.vertices c.limits (outcomes_of c.events)

-- the text is the certificate of the polygon with the events of H, whose order it doesn't show: they stand in preorder
pub record IsTextOf (vertices : List Vertex) (limits : Budget) (H : History) (text : List ℕ) : Type 0 where
  pub snapshot : Snapshot
  pub stands : StandsFor (region_of vertices) H snapshot
  pub written : text ≡ cert_text (record { vertices = vertices; limits = limits; events = preorder_of snapshot })

-- the numbers of the outcome are in their ranges
abbrev pub IsInRange : Outcome → Type 0
IsInRange (Inside entries) = IsRankList entries
IsInRange (Outside cycle) = IsCycle cycle
IsInRange (Cut h) = IsFormSized h
IsInRange (Left cause) = ⊤

-- a polygon, limits, and the events of a whole tree within the limits
pub record IsCertificate (c : CertView) : Type 0 where
  pub polygon : IsPolygon c.vertices
  pub limits_are : IsBudget c.limits
  pub ranges : All (λ e. IsInRange e.outcome) c.events
  pub tree : ListsWholeTree c.events
  pub within : IsWithin c.limits c.events

-- how many LFs the text has
abbrev pub lf_count : List ℕ → ℕ
lf_count text = count_by (λ byte. byte == 10) text

-- what stands before node i
abbrev pub text_before : CertView → ℕ → List ℕ
text_before c i = head_text c.vertices c.limits ++ flat_map outcome_text (outcomes_of (take i c.events))

-- the line on which node i begins, the first line being 1
unfoldable pub line_of_node : CertView → ℕ → ℕ
line_of_node c i = lf_count (text_before c i) + 1

-- the list has the line of each node
pub record ListsLines (c : CertView) (lines : List ℕ) : Type 0 where
  pub all : length lines ≡ length c.events
  pub each : (i : ℕ) → i < length c.events → slice_index lines i ≡ line_of_node c i

-- the event at the place is that of the path
pub record StandsAt (H : History) (path : List Side) (place : ℕ) : Type 0 where
  pub event : Entry
  pub there : slice_get H place ≡ Some event
  pub path_is : event.path ≡ path

-- the list has, for each cut, the place of the event of its Lt part
pub record ListsLtParts (H : History) (places : List ℕ) : Type 0 where
  pub all : length places ≡ length H
  pub each : (i : ℕ) (e : Entry) (h : LinearForm) → slice_get H i ≡ Some e → e.outcome ≡ Cut h → StandsAt H (e.path ++ Lt ∷ []) (slice_index places i)

-- what a certificate keeps beside its view: the line of each node, and where the Lt part of each cut begins
pub record IsKept (c : CertView) (lines lt_parts : List ℕ) : Type 0 where
  pub certificate : IsCertificate c
  pub lines_are : ListsLines c lines
  pub lt_parts_are : ListsLtParts c.events lt_parts
