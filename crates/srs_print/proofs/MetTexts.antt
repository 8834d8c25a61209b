-- The words that a polygon met, of which a writer may stop in one.
use Rattle.std.proofs.Common.{◌≡◌, ◌++◌, ◌∷◌, [], ℕ, List, codes}
use Rattle.srs_tree.specs.declared.answers.Met.{Met}
use Rattle.srs_cert.specs.Sayings.{word_if, met_text}
use Rattle.srs_print.specs.Fronts.{StopsIn}
use Rattle.srs_print.proofs.FrontLemmas.{sooner, later, both}

module _ (old : List ℕ) (m : Met) where
  abbrev inside_word : List ℕ
  inside_word = word_if m.inside (codes "in")

  abbrev outside_word : List ℕ
  outside_word = word_if m.outside (codes "out")

  abbrev undecided_word : List ℕ
  undecided_word = word_if m.undecided (codes "open")

  abbrev beyond_word : List ℕ
  beyond_word = word_if m.beyond (codes "beyond")

  -- it stopped by the end of the fourth word, of the third, of the second, of the first
  by_beyond : (new : List ℕ) → StopsIn old (codes "region" ++ inside_word ++ outside_word ++ undecided_word ++ beyond_word) new → StopsIn old (met_text m) new
  by_beyond new stops = sooner old (codes "region" ++ inside_word ++ outside_word ++ undecided_word ++ beyond_word) (10 ∷ []) new stops

  by_undecided : (new : List ℕ) → StopsIn old (codes "region" ++ inside_word ++ outside_word ++ undecided_word) new → StopsIn old (met_text m) new
  by_undecided new stops = by_beyond new (sooner old (codes "region" ++ inside_word ++ outside_word ++ undecided_word) beyond_word new stops)

  by_outside : (new : List ℕ) → StopsIn old (codes "region" ++ inside_word ++ outside_word) new → StopsIn old (met_text m) new
  by_outside new stops = by_undecided new (sooner old (codes "region" ++ inside_word ++ outside_word) undecided_word new stops)

  -- it stopped in a word, with the parts before it written
  module _ (head : List ℕ) (wrote : head ≡ old ++ codes "region") where
    pub stops_inside : (new : List ℕ) → StopsIn head inside_word new → StopsIn old (met_text m) new
    stops_inside new stops =
        by_outside new (sooner old (codes "region" ++ inside_word) outside_word new (later old head (codes "region") inside_word new wrote stops))

    module _ (first : List ℕ) (wrote_first : first ≡ head ++ inside_word) where
      up_to_first : first ≡ old ++ (codes "region" ++ inside_word)
      up_to_first = both old head (codes "region") inside_word first wrote wrote_first

      pub stops_outside : (new : List ℕ) → StopsIn first outside_word new → StopsIn old (met_text m) new
      stops_outside new stops = by_outside new (later old first (codes "region" ++ inside_word) outside_word new up_to_first stops)

      module _ (second : List ℕ) (wrote_second : second ≡ first ++ outside_word) where
        up_to_second : second ≡ old ++ (codes "region" ++ inside_word ++ outside_word)
        up_to_second = both old first (codes "region" ++ inside_word) outside_word second up_to_first wrote_second

        pub stops_undecided : (new : List ℕ) → StopsIn second undecided_word new → StopsIn old (met_text m) new
        stops_undecided new stops = by_undecided new (later old second (codes "region" ++ inside_word ++ outside_word) undecided_word new up_to_second stops)

        pub stops_beyond : (third new : List ℕ) → third ≡ second ++ undecided_word → StopsIn third beyond_word new → StopsIn old (met_text m) new
        stops_beyond third new wrote_third stops =
            by_beyond new (later old third (codes "region" ++ inside_word ++ outside_word ++ undecided_word) beyond_word new
            (both old second (codes "region" ++ inside_word ++ outside_word) undecided_word third up_to_second wrote_third) stops)
