-- The box that a script has open, and each call on it as that box's contract has it. "10 opens document 01's box, 70 .. one of the present
-- rules, at any time; the one opened last is the one that the records .. go to, each with that box's rules". Assumes nothing.
use Rattle.std.specs.Prelude.{ℕ, Bool, true, false, List, [], replicate, Option, None, Result, Ok, Err}
use Rattle.allocate.specs.Allocation.{allocated, allocated_oldest}
use Rattle.config.specs.declared.AudioConfig.{AudioConfig}
use Rattle.entering.specs.Lined as L
use Rattle.envelope.specs.declared.AdsrSpec.{AdsrSpec}
use Rattle.error.specs.Told.{Told}
use Rattle.error.specs.declared.AudioError.{AudioError}
use Rattle.mixer.specs.Mixers as M
use Rattle.mixer.specs.declared.Changed.{Changed}
use Rattle.mixer.specs.declared.Mixer.{Mixer}
use Rattle.mixer.specs.declared.VoiceStealingPolicy.{VoiceStealingPolicy}
use Rattle.play.specs.Fades as F
use Rattle.play.specs.Plays as P
use Rattle.play.specs.declared.Played.{Played}
use Rattle.polyblep.specs.declared.PolyBlepWaveform.{PolyBlepWaveform}
use Rattle.sounder.specs.Calls as C
use Rattle.sounder.specs.Calls.{ranks_in}
use Rattle.sounder.specs.Sounders.{After}
use Rattle.start.specs.declared.Request.{Request}
use Rattle.tone.specs.declared.Waveform.{Waveform}
use Rattle.waiting.specs.Lines.{in_line}
use Rattle.waiting.specs.declared.Waiting.{Waiting}
use Rattle.replay_box.specs.declared.OpenBox.{OpenBox}
use Rattle.replay_box.specs.declared.OpenBox.TheVariants.{Engine, Sounder}
use Rattle.replay_box.specs.declared.Rules.{Rules}
use Rattle.replay_box.specs.declared.Rules.TheVariants.{First, Present}

-- what each state keeps; the boxes' types carry it
abbrev pub ValidBox : OpenBox → Type 0
ValidBox (Engine m) = M.Valid m
ValidBox (Sounder s) = L.Valid s

-- whether it is one of the present rules
abbrev pub is_present : OpenBox → Bool
is_present (Engine m) = false
is_present (Sounder s) = true

-- the mixer's state in it
unfoldable pub mixer_of : OpenBox → Mixer
mixer_of (Engine m) = m
mixer_of (Sounder s) = s.present.mixer

-- the place that a request of this priority would get, by that box's rules
unfoldable pub place_in : OpenBox → ℕ → Told ℕ
place_in (Engine m) priority = allocated m priority
place_in (Sounder s) priority = allocated_oldest s.present priority

-- the ranks of its voices; document 01's has none
unfoldable pub ranks_of : OpenBox → List ℕ
ranks_of (Engine m) = replicate 16 255
ranks_of (Sounder s) = ranks_in s

-- those that wait, next first, and the kept refusal; document 01's has none
unfoldable pub waiting_in : OpenBox → List Waiting
waiting_in (Engine m) = []
waiting_in (Sounder s) = in_line s.line

unfoldable pub kept_in : OpenBox → Option (AudioError × ℕ)
kept_in (Engine m) = None
kept_in (Sounder s) = s.kept

-- ---- opening, of either kind: the box, where it is not refused
abbrev pub accepted : OpenBox → Result (Unit {0}) AudioError → Result OpenBox AudioError
accepted b (Ok tt) = Ok b
accepted b (Err e) = Err e

unfoldable pub opened : Rules → ℕ → AudioConfig → VoiceStealingPolicy → Result OpenBox AudioError
opened First n config policy = let c = M.opened n config policy in accepted (Engine c.mixer) c.outcome
opened Present n config policy = let c = C.opened n config policy in accepted (Sounder c.lined) c.gave

-- ---- the calls

-- the box after a call, and what the call gave
pub record Gave (A : Type 0) : Type 0 where
  pub held : OpenBox
  pub gave : A

unfoldable pub panned : OpenBox → ℕ → ℕ → OpenBox
panned (Engine m) i pan = Engine (M.panned m i pan)
panned (Sounder s) i pan = Sounder (C.panned s i pan)

unfoldable pub with_master_gain : OpenBox → ℕ → OpenBox
with_master_gain (Engine m) gain = Engine (M.with_master_gain m gain)
with_master_gain (Sounder s) gain = Sounder (C.with_master_gain s gain)

unfoldable pub stopped : OpenBox → OpenBox
stopped (Engine m) = Engine (M.stopped m)
stopped (Sounder s) = Sounder (C.stopped s)

unfoldable pub toned : OpenBox → ℕ → ℕ → Waveform → OpenBox
toned (Engine m) hz ms w = Engine (P.toned m hz ms w)
toned (Sounder s) hz ms w = Sounder (C.toned s hz ms w)

unfoldable pub poly_bleped : OpenBox → ℕ → ℕ → PolyBlepWaveform → OpenBox
poly_bleped (Engine m) hz ms w = Engine (P.poly_bleped m hz ms w)
poly_bleped (Sounder s) hz ms w = Sounder (C.poly_bleped s hz ms w)

abbrev pub engine_changed : Changed → Gave (Result (Unit {0}) AudioError)
engine_changed c = record { held = Engine c.mixer; gave = c.outcome }

abbrev pub sounder_gave : {A : Type 0} → After A → Gave A
sounder_gave x = record { held = Sounder x.lined; gave = x.gave }

unfoldable pub banked : OpenBox → ℕ → ℕ → ℕ → Gave (Result (Unit {0}) AudioError)
banked (Engine m) rate count len = engine_changed (M.banked m rate count len)
banked (Sounder s) rate count len = sounder_gave (C.banked s rate count len)

unfoldable pub faded : OpenBox → List ℕ → ℕ → ℕ → AdsrSpec → Gave (Result (Unit {0}) AudioError)
faded (Engine m) bytes id ms adsr = engine_changed (F.faded m bytes id ms adsr)
faded (Sounder s) bytes id ms adsr = sounder_gave (C.faded s bytes id ms adsr)

abbrev pub engine_played : Played → Gave (Result ℕ AudioError)
engine_played p = record { held = Engine p.mixer; gave = p.outcome }

unfoldable pub played : OpenBox → List ℕ → Request → Gave (Result ℕ AudioError)
played (Engine m) bytes r = engine_played (P.played m bytes r)
played (Sounder s) bytes r = sounder_gave (C.played s bytes r)
