-- The map that is drawn from the version of a certificate is that of the certificate.
use Rattle.std.proofs.Common.{◌≡◌, ℕ, List, refl, ap, subst, ◌∙◌}
use Rattle.std.specs.Prelude.{IfOk, Ok, Err}
use Rattle.std.specs.declared.option.Option.TheVariants.{Some, None}
use Rattle.std.specs.declared.result.Result.{Result}
use Rattle.srs_plane.specs.Polygons.{region_of}
use Rattle.srs_plane.specs.Regions.{Area}
use Rattle.srs_tree.specs.declared.answers.Reply.{Reply}
use Rattle.srs_tree.specs.declared.answers.Reply.TheVariants.{Inside, Outside, Undecided, Beyond}
use Rattle.srs_tree.specs.Tree.{outcome_at}
use Rattle.srs_tree.specs.Snapshots.{Snapshot, tree_of}
use Rattle.srs_raster.specs.Maps.{map_char, IsMapText}
use Rattle.srs_raster.proofs.Moved.{map_moved}
use Rattle.srs_cert.specs.Certificates.{CertView}
use Rattle.srs_check.specs.Builds.{IsBuilt}
use Rattle.srs_check.proofs.BuiltAnswers.{built_reply, built_answers}

same_char : (a : Reply) → map_char (built_reply a) ≡ map_char a
same_char Inside = refl
same_char (Outside cycle) = refl
same_char (Undecided None) = refl
same_char (Undecided (Some cause)) = refl
same_char Beyond = refl

drawn_map : (c : CertView) (v : Snapshot) (w h : ℕ) (text : List ℕ) → IsBuilt c v → IsMapText v.region (tree_of v) c.vertices w h text
    → IsMapText (region_of c.vertices) (outcome_at c.events) c.vertices w h text
drawn_map c v w h text built drawn =
    map_moved (region_of c.vertices) (region_of c.vertices) (tree_of v) (outcome_at c.events)
    (λ r a s. let t = built_answers (tree_of v) (outcome_at c.events) built.entries (region_of c.vertices) r a s in (t.0, t.1, ap map_char t.2 ∙ same_char t.0))
    c.vertices w h text (subst (λ (R : Area). IsMapText R (tree_of v) c.vertices w h text) built.region drawn)

pub drawn_maps : {E : Type 0} (c : CertView) (v : Snapshot) (w h : ℕ) (drawn : Result (List ℕ) E) → IsBuilt c v
    → IfOk drawn (λ text. IsMapText v.region (tree_of v) c.vertices w h text)
    → IfOk drawn (IsMapText (region_of c.vertices) (outcome_at c.events) c.vertices w h)
drawn_maps c v w h (Ok text) built is = drawn_map c v w h text built is
drawn_maps c v w h (Err e) built is = is
