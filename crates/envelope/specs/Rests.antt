-- Where an envelope comes to rest: in sustain, which ticks no longer change. Assumes nothing.
use Rattle.std.specs.Prelude.{ℕ, ◌≡◌}
use Rattle.envelope.specs.declared.AdsrSpec.{AdsrSpec}
use Rattle.envelope.specs.declared.Adsr.{Adsr}
use Rattle.envelope.specs.declared.AdsrPhase.TheVariants as P
use Rattle.envelope.specs.Adsrs.{ticked}

-- a, of these durations and this rate, rests in sustain at this height
pub record Resting (times : AdsrSpec) (hz height : ℕ) (a : Adsr) : Type 0 where
  pub phase : a.phase ≡ P.Sustain
  pub level : a.level_q8 ≡ height
  pub spec : a.spec ≡ times
  pub rate : a.sample_rate_hz ≡ hz
  pub still : ticked a ≡ a
