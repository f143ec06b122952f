-- How long a fade takes: in every box that keeps the two laws of `frame/Lasting`, and so in one whose calls do to its fade what document 01's do.
-- Assumes nothing.
use Prim.Native.Nat.{ℕ, zero, suc, ◌≤◌}
use native.Mathlib.Omega.{arith}
use mathlib.Core.Path.{◌≡◌, refl, ap, sym, ◌∙◌}
use mathlib.Core.Bool.{true}
use mathlib.Core.List.{List, [], ◌∷◌, map}
use lib.ListN.{replicate}
use Rattle.config.specs.Config.{fade_step}
use Rattle.config.proofs.Laws.{step-least}
use Rattle.envelope.specs.declared.AdsrSpec.{AdsrSpec}
use Rattle.error.specs.Told.{told, passed}
use Rattle.frame.specs.Lasting.{fade_count, frames_left, SameFade, Box, Step, frame, call, Lawful, after_all, unbroken, Lasts}
use Rattle.frame.proofs.Lasting.{Moves, valid-moves, up-some, same_left, lasts}
use Rattle.laws.specs.Runs.{after}
use Rattle.laws.proofs.Bools.{never}
use Rattle.mixer.specs.Mixers.{Valid}
use Rattle.mixer.specs.declared.Mixer.{Mixer}
use Rattle.play.specs.Fades.{first_released, begun, faded}
use Rattle.requests.specs.Players.{Player, played_all}
use Rattle.start.specs.declared.Request.{Request}
use Rattle.voice.specs.declared.Voice.{Voice}
use Rattle.steps.specs.Steps.{fade, turned_down, Stepper, box, ByRule, FadeTakes}
use Rattle.steps.proofs.Calls.{Fading, down, begins, fading-by, leaves}

-- a fade that has begun has its count left, and a step
module _ (m : Mixer) (v : Voice) (step : ℕ) (p : 1 ≤ step) {b : Mixer} (f : SameFade b (begun m v step)) where
  begun-left : frames_left b ≡ fade_count step
  unfolding begun frames_left
  begun-left = let u = up-some 255 step p (omega arith) in same_left f ∙ omega arith

  begun-moves : Moves b
  unfolding begun
  begun-moves a = rw f.step p

both : {a b c : Mixer} → SameFade a b → SameFade b c → SameFade a c
both f g = record { active = f.active ∙ g.active; t = f.t ∙ g.t; step = f.step ∙ g.step }

-- ---- in any box that keeps the two laws, whatever calls it has
module _ {State Frames Calls : Type 0} (b : Box State Frames Calls) where
  module _ (w : Lawful b) where
    -- ---- T-02: a fade that has begun
    pub begun-takes : (s after : State) (ms : ℕ) (m : Mixer) (v : Voice) → SameFade (b.mixer after) (begun m v (fade_step ms (b.mixer s).config.sample_rate_hz))
        → FadeTakes b s after ms
    begun-takes s after ms m v f =
        let step = fade_step ms (b.mixer s).config.sample_rate_hz in
        let p = step-least ms (b.mixer s).config.sample_rate_hz in
        record { takes = λ ss u. lasts b w (fade_count step) after ss (begun-moves m v step p f) (begun-left m v step p f) u }

    -- of a fade under way, what is left of it
    pub fade-lasts : (s : State) (ss : List (Step Frames Calls)) → Valid (b.mixer s) → unbroken b ss s ≡ true → Lasts b (frames_left (b.mixer s)) s ss
    fade-lasts s ss h u = lasts b w (frames_left (b.mixer s)) s ss (valid-moves h) refl u

  -- ---- a buffer call is so many frames (`buffers/Buffers` Fills): of what is in the box, where a frame of the box is a step of that
  pub frame-run : {Inside : Type 0} (boxed : Inside → State) (f : Frames) (step : Inside → Inside) → ((i : Inside) → b.framed f (boxed i) ≡ boxed (step i)) → (n : ℕ) (i : Inside)
      → after_all b (replicate n (frame f)) (boxed i) ≡ boxed (after step n i)
  unfolding after_all after
  frame-run boxed f step h zero i = refl
  frame-run boxed f step h (suc n) i = ap (after_all b (replicate n (frame f))) (h i) ∙ frame-run boxed f step h n (step i)

  -- ---- a list of requests is so many plays (`requests/Players` played_all)
  pub play-run : (p : Player State) (plays : List ℕ → Request → Calls) → ((bytes : List ℕ) (r : Request) (s : State) → p.next s bytes r ≡ b.called (plays bytes r) s)
      → (bytes : List ℕ) (rs : List Request) (s : State) → after_all b (map (λ r. call (plays bytes r)) rs) s ≡ played_all p s bytes rs
  unfolding after_all played_all
  play-run p plays h bytes [] s = refl
  play-run p plays h bytes (r ∷ rs) s = rw (h bytes r s) (play-run p plays h bytes rs (b.called (plays bytes r) s))

-- the fade's fields of a state are those of a fade that has just begun
pub record Begins (after m : Mixer) (step : ℕ) : Type 0 where
  pub voice : Voice
  pub same : SameFade after (begun m voice step)

-- ---- in a box by document 01's rule
module _ {State : Type 0} (b : Stepper State) (w : ByRule b) where
  pub lawful : Lawful (box b)
  lawful = record { advances = w.advances; leaves = λ c s g. both (w.calls c s) (leaves c (b.mixer s) g) }

  -- the old fade call, also as one of a box that has other calls too
  pub fade-begins : (s : State) (bytes : List ℕ) (id ms : ℕ) (adsr : AdsrSpec) → told (faded (b.mixer s) bytes id ms adsr).outcome ≡ passed
      → Begins (b.mixer (b.called (fade bytes id ms adsr) s)) (first_released (b.mixer s)) (fade_step ms (b.mixer s).config.sample_rate_hz)
  fade-begins s bytes id ms adsr a = by-fading (fading-by (b.mixer s) bytes id ms adsr)
    where
      by-fading : Fading (b.mixer s) ms (faded (b.mixer s) bytes id ms adsr)
          → Begins (b.mixer (b.called (fade bytes id ms adsr) s)) (first_released (b.mixer s)) (fade_step ms (b.mixer s).config.sample_rate_hz)
      by-fading (down d f) = never (sym (ap turned_down a) ∙ d)
      by-fading (begins d v e) = record { voice = v; same = rw (← e) (w.calls (fade bytes id ms adsr) s) }

  pub fade-takes : (s : State) (bytes : List ℕ) (id ms : ℕ) (adsr : AdsrSpec) → told (faded (b.mixer s) bytes id ms adsr).outcome ≡ passed
      → FadeTakes (box b) s (b.called (fade bytes id ms adsr) s) ms
  fade-takes s bytes id ms adsr a = let f = fade-begins s bytes id ms adsr a in begun-takes (box b) lawful s _ ms _ f.voice f.same
