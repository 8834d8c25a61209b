-- What is read where something is read.
use Rattle.std.proofs.Common.{◌≢◌, ℕ, ◌≤◌, ◌+◌, List, length, Option, refl, arith}
use Rattle.std.specs.Io.KnownBytes.{Consumes, IsAtEnd}
use Rattle.srs_text.specs.Ends.{TookJust, TookUpTo}
use Rattle.srs_tool.specs.declared.commands.Input.{Input}
use Rattle.srs_tool.specs.declared.commands.Input.TheVariants.{Nothing, Polygon, Sessions, Certificate, Questions}
use Rattle.srs_tool.specs.Inputs.{longest}
use Rattle.srs_tool.specs.Ends.{ReadsToEnd, Reads, IsOverlong, IsCut}

module _ (left left_after : Option (List ℕ)) where
  pub read_some : (input : Input) (text : List ℕ) → input ≢ Nothing
      → ReadsToEnd input left left_after text → Reads input left left_after text
  read_some Nothing text some read = absurd (some refl)
  read_some Polygon text some read = read
  read_some Sessions text some read = read
  read_some Certificate text some read = read
  read_some Questions text some read = read

  pub overlong_some : (input : Input) → input ≢ Nothing
      → TookJust left left_after (longest input + 1) → IsOverlong input left left_after
  overlong_some Nothing some over = absurd (some refl)
  overlong_some Polygon some over = over
  overlong_some Sessions some over = over
  overlong_some Certificate some over = over
  overlong_some Questions some over = over

  pub cut_some : (input : Input) → input ≢ Nothing → TookUpTo left left_after (longest input)
      → IsCut input left left_after
  cut_some Nothing some cut = absurd (some refl)
  cut_some Polygon some cut = cut
  cut_some Sessions some cut = cut
  cut_some Certificate some cut = cut
  cut_some Questions some cut = cut
