-- The source's shorter ways to open an engine (engine.rs). Assumes nothing.
use Rattle.config.specs.declared.AudioConfig.{AudioConfig}
use Rattle.config.specs.Config.{default_duty}
use Rattle.mixer.specs.Mixers.{opened, fresh, default_policy}
use Rattle.mixer.specs.declared.Mixer.{Mixer}
use Rattle.mixer.specs.declared.Changed.{Changed}

-- two voices, under the policy that stands where none is chosen; turned down as any opening is
abbrev pub opened_two : AudioConfig → Changed
opened_two config = opened 2 config default_policy

-- 16,000 Hz, a period of 1,000, first-order shaper, master gain 255
abbrev pub default_engine : Mixer
default_engine = fresh 2 default_duty default_policy
