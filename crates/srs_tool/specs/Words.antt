-- The words of the command line.
use Rattle.std.specs.Prelude.{◌≡◌, ⊤, ◌≤◌, ◌<◌, ◌^◌, ℕ, ℤ, List, [], ◌∷◌, ◌++◌, pos, codes}
use Rattle.srs_path.specs.Views.{Budget, IsBudget}
use Rattle.srs_line.specs.Fields.{AreNumbers}
use Rattle.srs_tool.specs.declared.commands.Command.{Command}
use Rattle.srs_tool.specs.declared.commands.Command.TheVariants.{Certify, Live, Check, Map, Ask, Make, Bench}

-- the first word
abbrev pub name_of : Command → List ℕ
name_of (Certify limits) = codes "certify"
name_of (Live limits workers) = codes "live"
name_of Check = codes "check"
name_of (Map columns rows) = codes "map"
name_of Ask = codes "ask"
name_of (Make s n) = codes "make"
name_of (Bench s n) = codes "bench"

-- limits as three numbers
abbrev pub limits_numbers : Budget → List ℤ
limits_numbers b = pos b.depth ∷ pos b.cells ∷ pos b.wits ∷ []

-- limits and a number of workers as four numbers
abbrev pub crew_numbers : Budget → ℕ → List ℤ
crew_numbers b workers = limits_numbers b ++ pos workers ∷ []

-- a seed and how many points as two numbers
abbrev pub sample_numbers : ℕ → ℕ → List ℤ
sample_numbers s n = pos s ∷ pos n ∷ []

-- the numbers behind the first word
abbrev pub numbers_of : Command → List ℤ
numbers_of (Certify limits) = limits_numbers limits
numbers_of (Live limits workers) = crew_numbers limits workers
numbers_of Check = []
numbers_of (Map columns rows) = pos columns ∷ pos rows ∷ []
numbers_of Ask = []
numbers_of (Make s n) = sample_numbers s n
numbers_of (Bench s n) = sample_numbers s n

-- 1 to 200
abbrev pub IsSide : ℕ → Type 0
IsSide n = (1 ≤ n) × (n ≤ 200)

-- 1 to 16 workers
abbrev pub IsCrew : ℕ → Type 0
IsCrew workers = (1 ≤ workers) × (workers ≤ 16)

-- a seed below 2^31, and at most 10000 points
abbrev pub IsSampleSize : ℕ → ℕ → Type 0
IsSampleSize s n = (s < 2 ^ 31) × (n ≤ 10000)

-- the words spell limits and a number of workers that `live` takes
abbrev pub SpellsCrew : List (List ℕ) → Budget → ℕ → Type 0
SpellsCrew words b workers = AreNumbers words (crew_numbers b workers) × (IsBudget b × IsCrew workers)

-- the numbers are ones that the command takes
abbrev pub IsInBounds : Command → Type 0
IsInBounds (Certify limits) = IsBudget limits
IsInBounds (Live limits workers) = IsBudget limits × IsCrew workers
IsInBounds Check = ⊤
IsInBounds (Map columns rows) = IsSide columns × IsSide rows
IsInBounds Ask = ⊤
IsInBounds (Make s n) = IsSampleSize s n
IsInBounds (Bench s n) = IsSampleSize s n

-- the words are the name and the numbers, each in its one spelling
abbrev pub AreWords : List (List ℕ) → List ℕ → List ℤ → Type 0
AreWords [] name numbers = ⊥
AreWords (first ∷ others) name numbers = (first ≡ name) × AreNumbers others numbers

-- the words spell a seed and a number of points
abbrev pub SpellsSample : List (List ℕ) → ℕ → ℕ → Type 0
SpellsSample words s n = AreNumbers words (sample_numbers s n) × IsSampleSize s n

-- the words are the name, a seed and a number of points
abbrev pub AsksForSample : List (List ℕ) → List ℕ → ℕ → ℕ → Type 0
AsksForSample words name s n = AreWords words name (sample_numbers s n) × IsSampleSize s n

-- the words ask for the command
abbrev pub SpellsCommand : List (List ℕ) → Command → Type 0
SpellsCommand words command = AreWords words (name_of command) (numbers_of command) × IsInBounds command

-- the command starts no thread
abbrev pub IsPlain : Command → Type 0
IsPlain (Certify limits) = ⊤
IsPlain (Live limits workers) = ⊥
IsPlain Check = ⊤
IsPlain (Map columns rows) = ⊤
IsPlain Ask = ⊤
IsPlain (Make s n) = ⊤
IsPlain (Bench s n) = ⊤

-- the words ask for the command, which starts no thread
abbrev pub AsksPlain : List (List ℕ) → Command → Type 0
AsksPlain words command = SpellsCommand words command × IsPlain command
