use Rattle.std.proofs.Common.{◌≡◌, [], ◌∷◌, map, string_bytes, codes, arith, Global}
use Rattle.std.proofs.lemmas.Grind.{common_steps}
use Rattle.std.proofs.lemmas.List.{length-map}
use Rattle.srs_tool.specs.declared.commands.Command.TheVariants.{Map}
use Rattle.srs_tool.proofs.Spelling.{asked_length, no_size}
use Rattle.srs_tool.proofs.words.map_size.Goals as goal

pub returns-in_default-clause-none : goal.returns-in_default-clause-none
returns-in_default-clause-none c w h asked = let size = asked_length _ (Map w h) asked in absurd (omega (arith, size, length-map c.args.words.now (string_bytes {Z = Global})))

pub returns-in_default-2-clause-none : goal.returns-in_default-2-clause-none
returns-in_default-2-clause-none c w h asked = let size = asked_length _ (Map w h) asked in absurd (omega (arith, size, length-map c.args.words.now (string_bytes {Z = Global})))

pub returns-clause-none : goal.returns-clause-none
returns-clause-none c =
    let is : map string_bytes c.args.words.now ≡ codes "map" ∷ c.as_bytes.result.now ∷ c.as_bytes-2.result.now ∷ [] = grind (arith, common_steps) in
    no_size _ _ _ _ c.size_of.result is c.size_of.ensures.none
