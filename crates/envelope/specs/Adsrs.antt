-- Document 01, "Envelope": what each call makes of an envelope, field by field as the source leaves it. Assumes nothing.
use Rattle.std.specs.Prelude.{ℕ, ◌+◌, ◌≤◌, ◌<◌, ◌≡◌, Bool, true, false, cond, ltb, eqb, pos, nat_abs, ◌+ℤ◌, ◌-ℤ◌, ◌*ℤ◌}
use Rattle.laws.specs.Whole.{trunc_div}
use Rattle.laws.specs.Durations.{samples_of}
use Rattle.envelope.specs.declared.AdsrSpec.{AdsrSpec}
use Rattle.envelope.specs.declared.Adsr.{Adsr}
use Rattle.envelope.specs.declared.AdsrPhase.{AdsrPhase}
use Rattle.envelope.specs.declared.AdsrPhase.TheVariants as P

-- "a click envelope (attack 2 ms, decay 40 ms, sustain 0, release 10 ms)"
abbrev pub click_spec : AdsrSpec
click_spec = record { attack_ms = 2; decay_ms = 40; sustain_q8 = 0; release_ms = 10 }

-- envelope.rs: what stands where none is chosen
abbrev pub default_spec : AdsrSpec
default_spec = record { attack_ms = 0; decay_ms = 0; sustain_q8 = 0; release_ms = 0 }

-- the source's other envelope
abbrev pub pad_spec : AdsrSpec
pad_spec = record { attack_ms = 5; decay_ms = 80; sustain_q8 = 200; release_ms = 120 }

-- a new envelope: idle at level 0
abbrev pub idle_adsr : AdsrSpec → ℕ → Adsr
idle_adsr spec rate =
    record {
      spec = spec;
      phase = P.Idle;
      level_q8 = 0;
      samples_in_phase = 0;
      phase_length_samples = 0;
      sample_rate_hz = rate;
    }

-- a with another phase, level, count and length; the durations and the rate stay
abbrev pub in_phase : Adsr → AdsrPhase → ℕ → ℕ → ℕ → Adsr
in_phase a phase level count length =
    record {
      spec = a.spec;
      phase = phase;
      level_q8 = level;
      samples_in_phase = count;
      phase_length_samples = length;
      sample_rate_hz = a.sample_rate_hz;
    }

abbrev pub active_in : AdsrPhase → Bool
active_in P.Idle = false
active_in P.Attack = true
active_in P.Decay = true
active_in P.Sustain = true
active_in P.Release = true

-- not idle
unfoldable pub active : Adsr → Bool
active a = active_in a.phase

-- "Phase length = floor(ms × rate ÷ 1000)"
abbrev pub attack_length : Adsr → ℕ
attack_length a = samples_of a.spec.attack_ms a.sample_rate_hz

abbrev pub decay_length : Adsr → ℕ
decay_length a = samples_of a.spec.decay_ms a.sample_rate_hz

abbrev pub release_length : Adsr → ℕ
release_length a = samples_of a.spec.release_ms a.sample_rate_hz

-- decay begins at the level that was reached; "a length of 0 passes .. to sustain at the sustain level"
unfoldable pub began_decay : Adsr → Adsr
began_decay a =
    cond (eqb (decay_length a) 0)
    (in_phase a P.Sustain a.spec.sustain_q8 0 0)
    (in_phase a P.Decay a.level_q8 0 (decay_length a))

-- "Trigger enters attack at level 0; a length of 0 passes to decay"
unfoldable pub triggered : Adsr → Adsr
triggered a =
    let b = in_phase a P.Attack 0 0 (attack_length a) in
    cond (eqb (attack_length a) 0) (began_decay b) b

-- "A release of length 0 is idle at level 0"
abbrev pub began_release : Adsr → Adsr
began_release a =
    cond (eqb (release_length a) 0)
    (in_phase a P.Idle 0 0 0)
    (in_phase a P.Release a.level_q8 0 (release_length a))

-- "Release from idle does nothing"
unfoldable pub released : Adsr → Adsr
released a = cond (active a) (began_release a) a

-- "level becomes level + truncated((target − level) × c ÷ length)". It lies between level and
-- target (Levels.rising, falling), so nat_abs takes no sign away (Levels.level-is).
unfoldable pub next_level : ℕ → ℕ → ℕ → ℕ → ℕ
next_level level target c length = nat_abs (pos level +ℤ trunc_div ((pos target -ℤ pos level) *ℤ pos c) length)

-- "each tick counts c, 0 when the phase begins, up by one, then level becomes .."
unfoldable pub advanced_toward : ℕ → Adsr → Adsr
advanced_toward target a =
    let c = a.samples_in_phase + 1 in
    in_phase a a.phase (next_level a.level_q8 target c a.phase_length_samples) c a.phase_length_samples

-- "At c = length the phase ends": a, or what comes after it
abbrev pub or_at_end : Adsr → Adsr → Adsr
or_at_end a after = cond (ltb a.samples_in_phase a.phase_length_samples) a after

-- after decay, sustain at the sustain level; after release, idle at level 0
abbrev pub sustained : Adsr → Adsr
sustained a = in_phase a P.Sustain a.spec.sustain_q8 0 a.phase_length_samples

abbrev pub ended : Adsr → Adsr
ended a = in_phase a P.Idle 0 a.samples_in_phase a.phase_length_samples

-- "Targets: 255, sustain level, 0"
abbrev pub ticked_in : AdsrPhase → Adsr → Adsr
ticked_in P.Attack a = let b = advanced_toward 255 a in or_at_end b (began_decay b)
ticked_in P.Decay a = let b = advanced_toward a.spec.sustain_q8 a in or_at_end b (sustained b)
ticked_in P.Release a = let b = advanced_toward 0 a in or_at_end b (ended b)
ticked_in P.Sustain a = a
ticked_in P.Idle a = a

unfoldable pub ticked : Adsr → Adsr
ticked a = ticked_in a.phase a

-- a phase that counts
abbrev pub running : AdsrPhase → Bool
running P.Attack = true
running P.Decay = true
running P.Release = true
running P.Sustain = false
running P.Idle = false

-- What every envelope that a call takes or gives has. No ghost field says it: each definition that builds such a record would hold a proof.
-- In a phase that counts, "c = length" has not been reached
pub record Valid (a : Adsr) : Type 0 where
  pub rate : a.sample_rate_hz ≤ 65537
  pub counts : running a.phase ≡ true → a.samples_in_phase < a.phase_length_samples
