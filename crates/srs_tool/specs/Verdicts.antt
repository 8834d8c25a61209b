-- The lines that a check prints.
use Rattle.std.specs.Prelude.{◌≡◌, ℕ, List, [], ◌∷◌, ◌++◌, pos, codes}
use Rattle.srs_line.specs.Fields.{line_of}
use Rattle.srs_check.specs.declared.faults.Counts.{Counts}
use Rattle.srs_check.specs.declared.faults.Fault.{Fault}
use Rattle.srs_check.specs.declared.faults.Checked.{Checked}
use Rattle.srs_check.specs.declared.faults.Checked.TheVariants.{Valid, Bad as BadNode}
use Rattle.srs_tool.specs.declared.status.Status.{Status}
use Rattle.srs_tool.specs.declared.status.Status.TheVariants.{Done, Bad}
use Rattle.srs_check.specs.declared.faults.Fault.TheVariants.{NoUnit, NotClosed, NoFall, NotCycle, NotProper, NoBudget}

-- how many nodes there are, and how many of each kind
abbrev pub counts_line : Counts → List ℕ
counts_line n =
    line_of (codes "cells") (pos n.cells ∷ []) ++ line_of (codes " in") (pos n.inside ∷ [])
    ++ line_of (codes " out") (pos n.outside ∷ [])
    ++ line_of (codes " cut") (pos n.cut ∷ []) ++ line_of (codes " left") (pos n.left ∷ [])
    ++ codes "\n"

-- each node proves itself, and how many there are of each kind
abbrev pub valid_line : Counts → List ℕ
valid_line n = codes "valid " ++ counts_line n

-- what is wrong with a node
abbrev pub fault_text : Fault → List ℕ
fault_text (NoUnit w) = line_of (codes " unit") (w.a ∷ w.b ∷ [])
fault_text (NotClosed w j) = line_of (codes " closed") (w.a ∷ w.b ∷ j ∷ [])
fault_text (NoFall w j) = line_of (codes " fall") (w.a ∷ w.b ∷ j ∷ [])
fault_text (NotCycle i) = line_of (codes " cycle") (pos i ∷ [])
fault_text NotProper = codes " proper"
fault_text NoBudget = codes " budget"

-- the line on which the node begins, and what is wrong with it
abbrev pub fault_line : ℕ → Fault → List ℕ
fault_line line fault = line_of (codes "line") (pos line ∷ []) ++ fault_text fault ++ codes "\n"

-- how a run ends at this answer of a check, and the line that it writes
abbrev pub IsVerdict : Checked → Status → List ℕ → Type 0
IsVerdict (Valid counts) status text = (status ≡ Done) × (text ≡ valid_line counts)
IsVerdict (BadNode line fault) status text = (status ≡ Bad) × (text ≡ fault_line line fault)
