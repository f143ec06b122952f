-- Inner: a block of requests, one after another. Assumes nothing.
use Rattle.std.specs.Prelude.{ℕ, List, [], ◌∷◌, ℤ, Option}
use Rattle.laws.specs.Runs.{given}
use Rattle.fm.specs.declared.FmVoice.{FmVoice}
use Rattle.fm.specs.Fm.{fm_sample, advanced_fm, stepped_fm}

-- the oscillator after a request
abbrev pub next_fm : FmVoice → FmVoice
next_fm v = (stepped_fm v).voice

-- n requests: what they give
abbrev pub fm_run : ℕ → FmVoice → List (Option ℤ)
fm_run n v = given next_fm (λ (v : FmVoice). (stepped_fm v).given ∷ []) n v

-- the samples that an active oscillator gives: "FM never ends"
abbrev pub fm_samples : ℕ → FmVoice → List ℤ
fm_samples n v = given advanced_fm (λ (v : FmVoice). fm_sample v ∷ []) n v
