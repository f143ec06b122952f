-- An envelope alone: the level after each tick, the release standing between. Assumes nothing.
use Rattle.std.specs.Prelude.{ℕ, List, [], ◌∷◌}
use Rattle.envelope.specs.Adsrs.{triggered, released, ticked}
use Rattle.envelope.specs.Alone.{opened}
use Rattle.envelope.specs.declared.AdsrSpec.{AdsrSpec}
use Rattle.envelope.specs.declared.Adsr.{Adsr}
use Rattle.laws.specs.Runs.{after, given}
use Rattle.error.specs.Told.{Told, value, and_then}

abbrev pub spec_of : ℕ → ℕ → ℕ → ℕ → AdsrSpec
spec_of attack decay sustain release =
    record { attack_ms = attack; decay_ms = decay; sustain_q8 = sustain; release_ms = release }

-- the level that the next tick leaves
abbrev pub next_level : Adsr → List ℕ
next_level e = (ticked e).level_q8 ∷ []

-- so many levels
abbrev pub levels_from : ℕ → Adsr → List ℕ
levels_from n e = given ticked next_level n e

-- a triggered envelope's levels in each cell of the first buffer, and after its release in each of the second. "An envelope opened alone
-- gets number 2 as an engine does."
abbrev pub levels_told : ℕ → ℕ → AdsrSpec → ℕ → Told (List ℕ × List ℕ)
levels_told held left spec rate =
    and_then (opened spec rate)
    (λ e.
    let t = triggered e in
    value (levels_from held t, levels_from left (released (after ticked held t))))
