-- What is wrong with a line of a certificate is more than that a line is wanted.
use Rattle.std.proofs.Common.{◌≡◌, ◌≢◌, ℕ, List, inl, inr}
use Rattle.srs_line.specs.declared.slip.Slip.{Slip}
use Rattle.srs_line.specs.declared.slip.Slip.TheVariants.{Missing, Word, Number, Version, Count, Range, Order, Turn}
use Rattle.srs_line.specs.Fields.{IsFieldSlip, IsCountSlip}
use Rattle.srs_line.specs.Many.{IsManySlip}
use Rattle.srs_file.specs.declared.tree.Tree.{Tree}
use Rattle.srs_file.specs.declared.outline.Outline.{Outline}
use Rattle.srs_file.specs.declared.cert_reader.CertPhase.{CertPhase}
use Rattle.srs_file.specs.declared.cert_reader.CertPhase.TheVariants.{First, Polygon, Nodes, Done}
use Rattle.srs_file.specs.declared.cert_reader.CertReader.{CertReader}
use Rattle.srs_file.specs.Ring.{RingView, SlipsVertex}
use Rattle.srs_file.specs.Leaf.{LeafView, SlipsEntry}
use Rattle.srs_file.specs.Outline.{SlipsOutline}
use Rattle.srs_file.specs.TreeReading.{SlipsNode, SlipsLine, SlipsCut, SlipsOut}
use Rattle.srs_file.specs.CertReading.{SlipsFrom}

of_word : (slip : Slip) → slip ≡ Word → slip ≢ Missing
of_word slip e m = cc

of_number : (slip : Slip) → slip ≡ Number → slip ≢ Missing
of_number slip e m = cc

of_version : (slip : Slip) → slip ≡ Version → slip ≢ Missing
of_version slip e m = cc

of_count : (slip : Slip) → slip ≡ Count → slip ≢ Missing
of_count slip e m = cc

of_range : (slip : Slip) → slip ≡ Range → slip ≢ Missing
of_range slip e m = cc

of_order : (slip : Slip) → slip ≡ Order → slip ≢ Missing
of_order slip e m = cc

of_turn : (slip : Slip) → slip ≡ Turn → slip ≢ Missing
of_turn slip e m = cc

of_field : (word : List ℕ) (n : ℕ) (line : List ℕ) (slip : Slip) → IsFieldSlip word n line slip → slip ≢ Missing
of_field word n line slip (inl (shape, e)) = of_word slip e
of_field word n line slip (inr (bad, e)) = of_number slip e

of_counted : (word : List ℕ) (low high : ℕ) (line : List ℕ) (slip : Slip) → IsCountSlip word low high Count line slip → slip ≢ Missing
of_counted word low high line slip (inl f) = of_field word 1 line slip f
of_counted word low high line slip (inr (z, says, none, e)) = of_count slip e

of_many : (word line : List ℕ) (slip : Slip) (back : ℕ) → IsManySlip word line slip back → slip ≢ Missing
of_many word line slip back (inl (none, e, b)) = of_word slip e
of_many word line slip back (inr (f, (none, e, b))) = of_number slip e

of_entry : (old : LeafView) (line : List ℕ) (slip : Slip) (back : ℕ) → SlipsEntry old line slip back → slip ≢ Missing
of_entry old line slip back (inl (inl f, b)) = of_field _ 3 line slip f
of_entry old line slip back (inl (inr (w, z, says, bad, e), b)) = of_range slip e
of_entry old line slip back (inr (w, z, says, bad, e, b)) = of_order slip e

of_cut : (old : Tree) (line : List ℕ) (slip : Slip) (back : ℕ) → SlipsCut old line slip back → slip ≢ Missing
of_cut old line slip back (inl (f, b)) = of_field _ 3 line slip f
of_cut old line slip back (inr (h, says, inl (full, e, b))) = of_count slip e
of_cut old line slip back (inr (h, says, inr (inl (room, bad, e, b)))) = of_range slip e
of_cut old line slip back (inr (h, says, inr (inr (room, sized, (path, rest, p, deep, e, b))))) = of_range slip e

of_out : (old : Tree) (line : List ℕ) (slip : Slip) (back : ℕ) → SlipsOut old line slip back → slip ≢ Missing
of_out old line slip back (inl f) = of_many _ line slip back f
of_out old line slip back (inr (inl (n, cycle, says, bad, e, b))) = of_count slip e
of_out old line slip back (inr (inr (n, cycle, says, counts, bad, e, b))) = of_range slip e

of_node : (old : Tree) (line : List ℕ) (slip : Slip) (back : ℕ) → SlipsNode old line slip back → slip ≢ Missing
of_node old line slip back (inl (w, f)) = of_cut old line slip back f
of_node old line slip back (inr (inl (w, (f, b)))) = of_counted _ 1 old.limits.wits line slip f
of_node old line slip back (inr (inr (inl (w, f)))) = of_out old line slip back f
of_node old line slip back (inr (inr (inr (inl (w, (none, e, b)))))) = of_word slip e
of_node old line slip back (inr (inr (inr (inr (none, e, b))))) = of_word slip e

of_line : (old : Tree) (line : List ℕ) (slip : Slip) (back : ℕ) → SlipsLine old line slip back → slip ≢ Missing
of_line old line slip back (inl (more, f)) = of_entry old.leaf line slip back f
of_line old line slip back (inr (none, f)) = of_node old line slip back f

of_vertex : (old : RingView) (line : List ℕ) (slip : Slip) (back : ℕ) → SlipsVertex old line slip back → slip ≢ Missing
of_vertex old line slip back (inl (inl (none, e), b)) = of_word slip e
of_vertex old line slip back (inl (inr (inl (kind, w, f)), b)) = of_field _ 3 line slip f
of_vertex old line slip back (inl (inr (inr (v, says, far, e)), b)) = of_range slip e
of_vertex old line slip back (inr (v, says, (last, (i, err, e, b)))) = of_turn slip e

of_outline : (old : Outline) (line : List ℕ) (slip : Slip) (back : ℕ) → SlipsOutline old line slip back → slip ≢ Missing
of_outline old line slip back (inl (closed, f, b)) = of_counted _ 3 16 line slip f
of_outline old line slip back (inr (opened, f)) = of_vertex old.ring line slip back f

-- a line's slip isn't that a line is wanted
pub not_missing : (phase : CertPhase) (s : CertReader) (line : List ℕ) (slip : Slip) (back : ℕ) → SlipsFrom phase s line slip back → slip ≢ Missing
not_missing First s line slip back (inl f, b) = of_field _ 1 line slip f
not_missing First s line slip back (inr (z, says, other, e), b) = of_version slip e
not_missing Polygon s line slip back (inl (more, f)) = of_outline s.outline line slip back f
not_missing Polygon s line slip back (inr (whole, inl f, b)) = of_field _ 3 line slip f
not_missing Polygon s line slip back (inr (whole, inr (d, c, w, says, none, e), b)) = of_range slip e
not_missing Nodes s line slip back (inl (more, f)) = of_line s.tree line slip back f
not_missing Nodes s line slip back (inr (none, other, e, b)) = of_word slip e
not_missing Done s line slip back f = absurd f
