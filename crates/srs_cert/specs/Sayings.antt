-- The lines of what is said.
use Rattle.std.specs.Prelude.{ℕ, ◌<◌, ◌^◌, ℤ, unsigned_abs, List, Bool, [], ◌∷◌, ◌++◌, length, pos, codes, if◌then◌else◌, Some, None}
use Rattle.std.specs.List.{All}
use Rattle.std.specs.declared.option.Option.{Option}
use Rattle.srs_num.specs.Points.{Point as Place}
use Rattle.srs_map.specs.declared.orbits.OrbitEnd.{OrbitEnd}
use Rattle.srs_map.specs.declared.orbits.OrbitEnd.TheVariants.{Zero, Wide, Loop, Spent}
use Rattle.srs_path.specs.declared.outcomes.Cause.{Cause}
use Rattle.srs_tree.specs.declared.answers.Reply.{Reply}
use Rattle.srs_tree.specs.declared.answers.Reply.TheVariants.{Inside, Outside, Undecided, Beyond}
use Rattle.srs_tree.specs.declared.answers.Met.{Met}
use Rattle.srs_tree.specs.declared.queries.Said.{Said}
use Rattle.srs_tree.specs.declared.queries.Said.TheVariants.{At, Version, Point, Count, Polygon, Orbit}
use Rattle.srs_line.specs.Fields.{line_of}
use Rattle.srs_cert.specs.Texts.{ended, count_text, cause_text}

-- `open`, and the cause where there is one
abbrev pub open_text : Option Cause → List ℕ
open_text None = codes "open"
open_text (Some cause) = codes "open " ++ cause_text cause

-- the words of an answer
abbrev pub reply_text : Reply → List ℕ
reply_text Inside = codes "in"
reply_text (Outside cycle) = line_of (codes "out") (pos (length cycle) ∷ cycle)
reply_text (Undecided cause) = open_text cause
reply_text Beyond = codes "beyond"

-- the three numbers of a point
abbrev pub place_numbers : Place → List ℤ
place_numbers r = r.p ∷ r.q ∷ r.d ∷ []

-- which point it is
abbrev pub place_text : Place → List ℕ
place_text r = line_of (codes "point") (place_numbers r)

-- the answer at a point
abbrev pub answer_text : Place → Reply → List ℕ
answer_text r reply = ended (place_text r ++ 32 ∷ reply_text reply)

-- a space and the word, where it is met
abbrev pub word_if : Bool → List ℕ → List ℕ
word_if met word = if met then 32 ∷ word else []

-- the words that a polygon met
abbrev pub met_text : Met → List ℕ
met_text m = ended (
    codes "region" ++ word_if m.inside (codes "in") ++ word_if m.outside (codes "out") ++ word_if m.undecided (codes "open")
    ++ word_if m.beyond (codes "beyond")
    )

-- how an orbit ended
abbrev pub orbit_text : OrbitEnd → List ℕ
orbit_text (Zero k) = count_text (codes "orbit zero") k
orbit_text (Wide k) = count_text (codes "orbit wide") k
orbit_text (Loop j l) = ended (line_of (codes "orbit loop") (pos j ∷ pos l ∷ []))
orbit_text Spent = ended (codes "orbit spent")

-- the line of what is said
abbrev pub said_text : Said → List ℕ
said_text (At round) = count_text (codes "at") round
said_text (Version v) = count_text (codes "version") v
said_text (Point r reply) = answer_text r reply
said_text (Count n) = count_text (codes "count") n
said_text (Polygon met) = met_text met
said_text (Orbit end) = orbit_text end

-- the numbers that an answer's words say
abbrev pub reply_numbers : Reply → List ℤ
reply_numbers Inside = []
reply_numbers (Outside cycle) = pos (length cycle) ∷ cycle
reply_numbers (Undecided cause) = []
reply_numbers Beyond = []

-- the numbers that say how an orbit ended
abbrev pub end_numbers : OrbitEnd → List ℤ
end_numbers (Zero k) = pos k ∷ []
end_numbers (Wide k) = pos k ∷ []
end_numbers (Loop j l) = pos j ∷ pos l ∷ []
end_numbers Spent = []

-- the numbers that the line of what is said says
abbrev pub said_numbers : Said → List ℤ
said_numbers (At round) = pos round ∷ []
said_numbers (Version v) = pos v ∷ []
said_numbers (Point r reply) = place_numbers r ++ reply_numbers reply
said_numbers (Count n) = pos n ∷ []
said_numbers (Polygon met) = []
said_numbers (Orbit end) = end_numbers end

-- numbers of at most 64 bits
abbrev pub AreShort : List ℤ → Type 0
AreShort zs = All (λ z. unsigned_abs z < 2 ^ 64) zs

-- each number that it says has at most 64 bits
abbrev pub IsSayable : Said → Type 0
IsSayable said = AreShort (said_numbers said)
