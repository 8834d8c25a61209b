use Rattle.std.proofs.Common.{◌≡◌, [], ◌∷◌, map, string_bytes, codes, arith, Global}
use Rattle.std.proofs.lemmas.Grind.{common_steps}
use Rattle.std.proofs.lemmas.List.{length-map}
use Rattle.std.proofs.lemmas.Bool.{ltb-true, ltb-false}
use Rattle.srs_tool.specs.declared.commands.Command.TheVariants.{Certify}
use Rattle.srs_tool.proofs.Spelling.{asked_length, no_limits}
use Rattle.srs_tool.proofs.words.certify_limits.Goals.{in_default-via-then-words-lt4, in_default-via-else-words-lt4+else-words-lt5}
use Rattle.srs_tool.proofs.words.certify_limits.Goals as goal

pub returns-in_default-clause-none : goal.returns-in_default-clause-none
returns-in_default-clause-none c b asked =
    let size = asked_length _ (Certify b) asked in
    elim c.in_default.branch [
      | in_default-via-then-words-lt4 w ↦ absurd (omega (arith, size, length-map c.args.words.now (string_bytes {Z = Global}), ltb-true, ltb-false))
      | in_default-via-else-words-lt4+else-words-lt5 w ↦ absurd (omega (arith, size, length-map c.args.words.now (string_bytes {Z = Global}), ltb-true, ltb-false))
    ]

pub returns-clause-none : goal.returns-clause-none
returns-clause-none c =
    let is : map string_bytes c.args.words.now ≡ codes "certify" ∷ c.as_bytes.result.now ∷ c.as_bytes-2.result.now ∷ c.as_bytes-3.result.now ∷ [] = grind (arith, common_steps) in
    no_limits _ _ _ _ _ c.limits_of.result is c.limits_of.ensures.none
