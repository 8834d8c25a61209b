-- The lines of a tree, in preorder: cuts, leaves, and the witnesses of inside leaves.
use Rattle.std.specs.Prelude.{◌≡◌, ◌⊎◌, ℕ, ◌+◌, ◌<◌, ◌≤◌, ℤ, pos, List, [], ◌∷◌, ◌++◌, length, None, Some, codes}
use Rattle.std.specs.declared.option.Option.{Option}
use Rattle.srs_num.specs.Points.{LinearForm, IsFormSized}
use Rattle.srs_path.specs.declared.paths.Side.{Side}
use Rattle.srs_path.specs.declared.paths.Side.TheVariants.{Ge, Lt}
use Rattle.srs_path.specs.declared.outcomes.Cause.{Cause}
use Rattle.srs_path.specs.declared.outcomes.Outcome.{Outcome}
use Rattle.srs_path.specs.declared.outcomes.Outcome.TheVariants.{Inside, Outside, Cut, Left}
use Rattle.srs_path.specs.Lists.{IsCycle}
use Rattle.srs_path.specs.Views.{Budget, Entry}
use Rattle.srs_line.specs.declared.slip.Slip.{Slip}
use Rattle.srs_line.specs.declared.slip.Slip.TheVariants.{Word, Count, Range}
use Rattle.srs_line.specs.Fields.{Says, HasWord, IsFieldSlip, SaysCount, IsCountSlip}
use Rattle.srs_line.specs.Many.{IsManySlip}
use Rattle.srs_file.specs.declared.tree.Node.{Node}
use Rattle.srs_file.specs.declared.tree.Tree.{Tree}
use Rattle.srs_cert.specs.Texts.{cause_text}
use Rattle.srs_file.specs.Leaf.{LeafView, TakesEntry, SlipsEntry}

-- the line of a left leaf
abbrev pub left_line : Cause → List ℕ
left_line cause = codes "left " ++ cause_text cause

-- no witness is awaited
abbrev pub no_leaf : LeafView
no_leaf = record { left = 0; entries = [] }

-- no cell yet
abbrev pub no_tree : Tree
no_tree = record { limits = record { depth = 0; cells = 1; wits = 1 }; cells = 0; pending = []; leaf = no_leaf; events = [] }

-- the root alone, which waits for its event
abbrev pub only_root : Budget → Tree
only_root b = record { limits = b; cells = 1; pending = [] ∷ []; leaf = no_leaf; events = [] }

-- an outcome as the event at a path
abbrev pub at_path : List Side → Outcome → Entry
at_path path o = record { path = path; outcome = o }

-- the tree with the event of the node, if one was read
abbrev pub gathered : Tree → Option Node → Tree
gathered tree None = tree
gathered tree (Some node) = record tree { events = tree.events ++ at_path node.path node.outcome ∷ [] }

-- what isn't read from a line of the tree
pub record KeepsRest (old new : Tree) : Type 0 where
  pub limits : new.limits ≡ old.limits
  pub events : new.events ≡ old.events

-- the next cell has the outcome, and isn't cut
abbrev pub TakesOutcome : Tree → Outcome → Tree → Type 0
TakesOutcome old o new =
    (path : List Side) × (rest : List (List Side)) × (old.pending ≡ path ∷ rest) × (new ≡ record old { pending = rest; events = old.events ++ at_path path o ∷ [] })

-- the next cell is cut, above the greatest depth; its parts wait then, Ge first
abbrev pub Divides : Tree → LinearForm → Tree → Type 0
Divides old h new =
    (path : List Side) × (rest : List (List Side)) × (old.pending ≡ path ∷ rest) × (length path < old.limits.depth)
    × (new ≡ record old { cells = old.cells + 2; pending = (path ++ Ge ∷ []) ∷ (path ++ Lt ∷ []) ∷ rest; events = old.events ++ at_path path (Cut h) ∷ [] })

-- the next cell is at the greatest depth
abbrev pub SlipsDivide : Tree → Slip → ℕ → Type 0
SlipsDivide old slip back =
    (path : List Side) × (rest : List (List Side)) × (old.pending ≡ path ∷ rest) × (old.limits.depth ≤ length path) × (slip ≡ Range) × (back ≡ 0)

-- two cells more are allowed
abbrev pub HasRoom : Tree → Type 0
HasRoom old = old.cells + 2 ≤ old.limits.cells

-- the next cell is cut by the form, which is in its range
abbrev pub CutsBy : Tree → LinearForm → Tree → Type 0
CutsBy old h new = HasRoom old × IsFormSized h × Divides old h new

-- what is wrong with a cut by the form: too many cells, and else the form or the depth is out of its range
abbrev pub SlipsCutBy : Tree → LinearForm → Slip → ℕ → Type 0
SlipsCutBy old h slip back =
    ((¬ (HasRoom old)) × (slip ≡ Count) × (back ≡ 0))
    ⊎ ((HasRoom old × (¬ (IsFormSized h)) × (slip ≡ Range) × (back ≡ 0))
    ⊎ (HasRoom old × IsFormSized h × SlipsDivide old slip back))

-- the line is a cut, and cuts the next cell
abbrev pub StepsCut : Tree → List ℕ → Tree → Type 0
StepsCut old line new = (h : LinearForm) × Says (codes "cut") (h.a ∷ h.b ∷ h.c ∷ []) line × CutsBy old h new

-- what is wrong with a cut: its fields, and else what it would do
abbrev pub SlipsCut : Tree → List ℕ → Slip → ℕ → Type 0
SlipsCut old line slip back =
    (IsFieldSlip (codes "cut") 3 line slip × (back ≡ 0))
    ⊎ ((h : LinearForm) × Says (codes "cut") (h.a ∷ h.b ∷ h.c ∷ []) line × SlipsCutBy old h slip back)

-- an inside leaf begins
abbrev pub StepsIn : Tree → List ℕ → Tree → Type 0
StepsIn old line new = (n : ℕ) × SaysCount (codes "in") 1 old.limits.wits n line × (new ≡ record old { leaf = record { left = n; entries = [] } })

-- what is wrong with the line of an inside leaf
abbrev pub SlipsIn : Tree → List ℕ → Slip → ℕ → Type 0
SlipsIn old line slip back = IsCountSlip (codes "in") 1 old.limits.wits Count line slip × (back ≡ 0)

-- n is the number of the entries, of which there are 1 to W
pub record Counts (W : ℕ) (n : ℤ) (entries : List ℤ) : Type 0 where
  pub some : 1 ≤ length entries
  pub few : length entries ≤ W
  pub is : n ≡ pos (length entries)

-- the line is an outside leaf with its cycle
abbrev pub StepsOut : Tree → List ℕ → Tree → Type 0
StepsOut old line new =
    (n : ℤ) × (cycle : List ℤ) × Says (codes "out") (n ∷ cycle) line × Counts old.limits.wits n cycle × IsCycle cycle × TakesOutcome old (Outside cycle) new

-- what is wrong with an outside leaf: its fields, else how many entries there are, else their ranges
abbrev pub SlipsOut : Tree → List ℕ → Slip → ℕ → Type 0
SlipsOut old line slip back =
    IsManySlip (codes "out") line slip back
    ⊎ (((n : ℤ) × (cycle : List ℤ) × Says (codes "out") (n ∷ cycle) line × (¬ (Counts old.limits.wits n cycle)) × (slip ≡ Count) × (back ≡ 0))
    ⊎ ((n : ℤ) × (cycle : List ℤ) × Says (codes "out") (n ∷ cycle) line × Counts old.limits.wits n cycle × (¬ (IsCycle cycle)) × (slip ≡ Range) × (back ≡ 0)))

-- the line is a left leaf
abbrev pub StepsLeft : Tree → List ℕ → Tree → Type 0
StepsLeft old line new = (cause : Cause) × (line ≡ left_line cause) × TakesOutcome old (Left cause) new

-- the line is that of no left leaf
abbrev pub SlipsLeft : List ℕ → Slip → ℕ → Type 0
SlipsLeft line slip back = ((cause : Cause) → line ≡ left_line cause → ⊥) × (slip ≡ Word) × (back ≡ 0)

-- a node, by its first token
abbrev pub StepsNode : Tree → List ℕ → Tree → Type 0
StepsNode old line new =
    (HasWord (codes "cut") line × StepsCut old line new)
    ⊎ ((HasWord (codes "in") line × StepsIn old line new)
    ⊎ ((HasWord (codes "out") line × StepsOut old line new)
    ⊎ (HasWord (codes "left") line × StepsLeft old line new)))

-- the first token is none of the four
pub record HasNoWord (line : List ℕ) : Type 0 where
  pub cut : ¬ (HasWord (codes "cut") line)
  pub inside : ¬ (HasWord (codes "in") line)
  pub outside : ¬ (HasWord (codes "out") line)
  pub left : ¬ (HasWord (codes "left") line)

-- what is wrong with a node, by its first token
abbrev pub SlipsNode : Tree → List ℕ → Slip → ℕ → Type 0
SlipsNode old line slip back =
    (HasWord (codes "cut") line × SlipsCut old line slip back)
    ⊎ ((HasWord (codes "in") line × SlipsIn old line slip back)
    ⊎ ((HasWord (codes "out") line × SlipsOut old line slip back)
    ⊎ ((HasWord (codes "left") line × SlipsLeft line slip back)
    ⊎ (HasNoWord line × (slip ≡ Word) × (back ≡ 0)))))

-- a witness of an open leaf; with the last one the leaf is whole
abbrev pub StepsEntry : Tree → List ℕ → Tree → Type 0
StepsEntry old line new =
    (leaf : LeafView) × TakesEntry old.leaf line leaf
    × (((0 < leaf.left) × (new ≡ record old { leaf = leaf })) ⊎ ((leaf.left ≡ 0) × TakesOutcome (record old { leaf = no_leaf }) (Inside leaf.entries) new))

-- a witness where one is to come, and else a node
abbrev pub TakesLine : Tree → List ℕ → Tree → Type 0
TakesLine old line new = ((0 < old.leaf.left) × StepsEntry old line new) ⊎ ((old.leaf.left ≡ 0) × StepsNode old line new)

-- what is wrong with a witness, or with a node
abbrev pub SlipsLine : Tree → List ℕ → Slip → ℕ → Type 0
SlipsLine old line slip back = ((0 < old.leaf.left) × SlipsEntry old.leaf line slip back) ⊎ ((old.leaf.left ≡ 0) × SlipsNode old line slip back)
