-- The root of a tree without an outcome is open.
use Rattle.std.proofs.Common.{◌≡◌, [], inl, refl, sym, ap, ◌∙◌, subst}
use Rattle.std.specs.FinMap as finite
use Rattle.std.proofs.lemmas.List.{append-nil}
use Rattle.std.specs.Cmp.Lexicographic.{slice_cmp}
use Rattle.srs_plane.specs.Regions.{Area}
use Rattle.srs_path.specs.Views.{Found}
use Rattle.srs_tree.specs.Snapshots.{Snapshot, side_cmp}
use Rattle.srs_tree.specs.Growth.{MayEnter}
use Rattle.srs_version_examples.proofs.versions.built.Goals as goal

abbrev bare : Area → Snapshot
bare R = record { region = R; entries = finite.empty }

may_root : (R : Area) (f : Found) → f.region ≡ R → MayEnter (bare R) [] f
may_root R f e = record {
  is_open = record { cell = inl refl; open_yet = finite.get-empty (slice_cmp side_cmp) [] };
  same = e ∙ sym (append-nil R);
}

pub add-requires-clause-may : goal.add-requires-clause-may
add-requires-clause-may c = rw (c.in_ok-tree.ensures, c.root.ensures) (may_root _ c.in_ok-finding.finding c.in_ok-finding.ensures.region)
