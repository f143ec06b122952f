-- The pattern at its lowest rate, 20: phases of 10 samples and a last one of 30. One joint statement, computed. Assumes nothing.
use mathlib.Core.Path.{◌≡◌, refl}
use mathlib.Core.Bool.{true, false}
use mathlib.Core.List.{[], ◌∷◌}
use Rattle.laws.specs.Runs.{given}
use Rattle.evacuation.specs.Pattern.{lengths, total, cycle_of, phase_at, sounds, samples_from, within_tenth, spelt}
use Rattle.evacuation.specs.Reader.{before, runs_of, in_order, whole_cycles}

pub record Examples : Type 0 where
  pub phases : lengths 20 ≡ 10 ∷ 10 ∷ 10 ∷ 10 ∷ 10 ∷ 30 ∷ []
  pub cycle : cycle_of 20 ≡ 80
  pub first : sounds 20 0 ≡ true
  pub pulse : sounds 20 9 ≡ true
  pub pause : sounds 20 10 ≡ false
  pub third : sounds 20 49 ≡ true
  pub rest : sounds 20 79 ≡ false
  pub again : sounds 20 80 ≡ true
  -- 9 and 11 of 10 samples are within the tenth, 8 and 12 are not
  pub least : within_tenth 500 20 9 ≡ true
  pub most : within_tenth 500 20 11 ≡ true
  pub below : within_tenth 500 20 8 ≡ false
  pub above : within_tenth 500 20 12 ≡ false
  pub none : whole_cycles 20 [] ≡ false
  pub read : whole_cycles 20 (samples_from 20 0 80) ≡ true
  pub bounds : whole_cycles 20 (spelt 0 (9 ∷ 11 ∷ 10 ∷ 9 ∷ 11 ∷ 33 ∷ [])) ≡ true
  pub short : whole_cycles 20 (spelt 0 (9 ∷ 11 ∷ 10 ∷ 9 ∷ 11 ∷ 26 ∷ [])) ≡ false
  pub half : whole_cycles 20 (samples_from 20 0 50) ≡ false
  pub later : whole_cycles 20 (samples_from 20 1 80) ≡ false

pub examples : Examples
unfolding lengths total cycle_of phase_at sounds within_tenth spelt before runs_of in_order whole_cycles given
examples =
    record {
      phases = refl;
      cycle = refl;
      first = refl;
      pulse = refl;
      pause = refl;
      third = refl;
      rest = refl;
      again = refl;
      least = refl;
      most = refl;
      below = refl;
      above = refl;
      none = refl;
      read = refl;
      bounds = refl;
      short = refl;
      half = refl;
      later = refl;
    }
