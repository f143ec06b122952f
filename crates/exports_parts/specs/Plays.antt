-- A box that is opened, gets a bank, plays requests and gives frames, all in one call: of any kind that has these calls. Assumes nothing.
use Rattle.std.specs.Prelude.{ℕ, suc, Bool, cond, List, [], ◌∷◌, ◌++◌, map, ltb, ℤ, length, drop, Result}
use Rattle.std.proofs.lemmas.List.Edits.{sets}
use Rattle.buffers.specs.Shapes.{Frames, frames_in, cells_in, shape_step, shape_raw, level_next, level_cell}
use Rattle.buffers.specs.declared.Level.{Level}
use Rattle.buffers.specs.declared.Shape.{Shape}
use Rattle.config.specs.Config.{configured, with_master_gain}
use Rattle.config.specs.declared.AudioConfig.{AudioConfig}
use Rattle.error.specs.Told.{told, Told, value, and_then}
use Rattle.laws.specs.Runs.{given}
use Rattle.mixer.specs.Mixers.{audible_count}
use Rattle.mixer.specs.declared.VoiceStealingPolicy.{VoiceStealingPolicy}
use Rattle.mixer.specs.declared.VoiceStealingPolicy.TheVariants as P
use Rattle.output.specs.declared.DutyMode.{DutyMode}
use Rattle.output.specs.declared.DutyMode.TheVariants as M
use Rattle.polyblep.specs.declared.PolyBlepWaveform.{PolyBlepWaveform}
use Rattle.replay_fields.specs.Read.{poly_blep_waveform}
use Rattle.requests.specs.Players.{Player, played_all}
use Rattle.requests.specs.Slices.{requests_of, outcomes_of}
use Rattle.error.specs.declared.AudioError.{AudioError}

-- a choice of two policies, and of three duty modes, in flags, of which every combination means something
abbrev pub policy_of : Bool → VoiceStealingPolicy
policy_of free_only = cond free_only P.FreeChannelOnly P.LowestPriorityOldest

abbrev pub mode_of : Bool → Bool → DutyMode
mode_of shaped second_order = cond shaped (cond second_order M.SigmaDelta2ndOrder M.SigmaDelta) M.Linear

abbrev pub settings : ℕ → ℕ → DutyMode → ℕ → AudioConfig
settings rate period mode gain = with_master_gain (configured rate period mode) gain

-- the box that an opening or a bank gives, or the refusal's number
abbrev pub told_box : {Box : Type 0} → Result (Unit {0}) AudioError → Box → Told Box
told_box outcome box = and_then (told outcome) (λ _. value box)

-- The calls of a box that are made here, each as the box's contract has it: its requests, its state and the frames of that.
pub record Calls (Box State : Type 0) : Type 0 where
  pub opened : ℕ → AudioConfig → VoiceStealingPolicy → Told Box
  pub banked : Box → ℕ → ℕ → ℕ → Told Box
  pub player : Player Box
  pub poly_bleped : Box → ℕ → ℕ → PolyBlepWaveform → Box
  pub panned : Box → ℕ → ℕ → Box
  pub state : Box → State
  -- lent the bank's bytes, which document 01's box does not look at
  pub frames : List ℕ → Frames State

module _ {Box State : Type 0} (b : Calls Box State) where
  -- "Opening an engine", then "Setting a bank"
  unfoldable pub readied : ℕ → VoiceStealingPolicy → AudioConfig → List ℕ → ℕ → Told Box
  readied n policy config bytes count = and_then (b.opened n config policy) (λ s. b.banked s config.sample_rate_hz count (length bytes))

  -- PolyBLEP on voice 0: 0 sine, 1 sawtooth, 2 square, 3 triangle; of any other number none is started
  unfoldable pub with_poly_blep : Box → ℕ → ℕ → ℕ → Box
  with_poly_blep s waveform hz ms = cond (ltb 3 waveform) s (b.poly_bleped s hz ms (poly_blep_waveform waveform))

  -- the requests one after another, then PolyBLEP
  abbrev pub sounded : List ℕ → List ℕ → ℕ → ℕ → ℕ → Box → Box
  sounded bytes requests waveform hz ms s = with_poly_blep (played_all b.player s bytes (requests_of requests)) waveform hz ms

  -- pans of the voices from voice i on
  unfoldable pub panned_from : ℕ → List ℕ → Box → Box
  panned_from i [] s = s
  panned_from i (pan ∷ pans) s = panned_from (suc i) pans (b.panned s i pan)

  -- the cells of a buffer of frames by their shape and scale, of a box that sounds so, or the refusal; those after them as they were
  abbrev pub cells_told : {A : Type 0} → (ℤ → A) → Shape → List ℕ → Told Box → (Box → Box) → List A → Told (List A)
  cells_told scale shape bytes ready sound cells =
      and_then ready
      (λ s.
      value
      (given (shape_step (b.frames bytes) shape) (λ f. map scale (shape_raw (b.frames bytes) shape f)) (frames_in shape (length cells)) (b.state (sound s))
      ++ drop (cells_in shape (length cells)) cells))

  -- the same of cells without a sign, by their level
  abbrev pub levels_told : Level → List ℕ → Told Box → (Box → Box) → List ℕ → Told (List ℕ)
  levels_told level bytes ready sound cells =
      and_then ready
      (λ s.
      value
      (given (level_next (b.frames bytes) level) (level_cell (b.frames bytes) level) (length cells) (b.state (sound s)) ++ drop (length cells) cells))

  -- each request's outcome in the cells from the front on, as far as there are cells, and how many voices are audible then
  abbrev pub play_told : Told Box → List ℕ → List ℕ → List ℕ → Told (List ℕ × ℕ)
  play_told ready bytes requests cells =
      and_then ready
      (λ s.
      value (
        sets cells 0 (outcomes_of b.player s bytes (requests_of requests)),
        audible_count (b.player.mixer (played_all b.player s bytes (requests_of requests))),
      ))
