-- Inner: a block of ticks, one after another as document 01 counts them. Assumes nothing.
use Rattle.std.specs.Prelude.{ℕ, ◌+◌, ◌<◌, ◌≡◌, true, List, [], ◌∷◌}
use Rattle.envelope.specs.declared.Adsr.{Adsr}
use Rattle.envelope.specs.Adsrs.{ticked, advanced_toward, running}

-- the level that the next tick leaves
abbrev pub level_after : Adsr → List ℕ
level_after a = (ticked a).level_q8 ∷ []

-- the same of a tick towards a target that ends no phase
abbrev pub level_toward : ℕ → Adsr → List ℕ
level_toward target a = (advanced_toward target a).level_q8 ∷ []

-- n ticks end no phase
abbrev pub Stays : ℕ → Adsr → Type 0
Stays n a = running a.phase ≡ true → a.samples_in_phase + n < a.phase_length_samples
