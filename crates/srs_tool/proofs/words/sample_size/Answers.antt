use Rattle.std.proofs.Common.{◌≡◌, [], ◌∷◌, map, string_bytes, arith, Global}
use Rattle.std.proofs.lemmas.Grind.{common_steps}
use Rattle.std.proofs.lemmas.List.{length-map}
use Rattle.srs_tool.proofs.Spelling.{sample_length, no_sample}
use Rattle.srs_tool.proofs.words.sample_size.Goals as goal

pub returns-in_default-clause-none : goal.returns-in_default-clause-none
returns-in_default-clause-none c s n asked =
    let size = sample_length _ _ s n asked in absurd
    (omega (arith, size, length-map c.args.words.now (string_bytes {Z = Global})))

pub returns-in_default-2-clause-none : goal.returns-in_default-2-clause-none
returns-in_default-2-clause-none c s n asked =
    let size = sample_length _ _ s n asked in absurd
    (omega (arith, size, length-map c.args.words.now (string_bytes {Z = Global})))

pub returns-clause-none : goal.returns-clause-none
returns-clause-none c =
    let is : map string_bytes c.args.words.now ≡ c.args.name.now ∷ c.as_bytes.result.now ∷
    c.as_bytes-2.result.now ∷ [] = grind (arith, common_steps) in
    no_sample _ _ _ _ _ c.seed_and_points.result is c.seed_and_points.ensures.none
