-- The cells of a voice's block: its source's, shaped by level and gain. Assumes nothing.
use Prim.Native.Nat.{ℕ, zero, suc, ◌+◌, ◌≤◌, ◌<◌}
use native.Mathlib.Numerals.{add-one}
use native.Mathlib.Omega.{arith}
use mathlib.Core.Path.{◌≡◌, refl, sym, ap, ◌∙◌}
use mathlib.Core.Bool.{Bool, false, cond, ◌||◌}
use mathlib.Core.List.{List, [], ◌∷◌, ◌++◌}
use lib.Dec.{leb}
use lib.IntN.{ℤ}
use lib.ListN.{length, get_or, set, drop}
use Rattle.laws.specs.Runs.{after, given}
use Rattle.laws.proofs.Made.{made}
use Rattle.envelope.specs.declared.Adsr.{Adsr}
use Rattle.envelope.specs.Adsrs as A
use Rattle.envelope.specs.Blocks.{level_after}
use Rattle.laws.proofs.Stores.{length-cells}
use Rattle.std.specs.Prelude.{Option, Some, None}
use Rattle.fixed.specs.Fixed.{gained_by}
use Rattle.fixed.specs.declared.Step.{Step}
use Rattle.fixed.specs.Answers.{heard, Stops, Filled}
use Rattle.voice.specs.Sources.{active_source}
use Rattle.voice.specs.Voices.{Valid, sounding}
use Rattle.voice.specs.Blocks.{source_step, source_run, voice_step, voice_run, kept, sounded_source, rested_source, shaped_answers, shaped_first, SourceBlock, VoiceBlock}
use Rattle.voice.specs.declared.source.VoiceSource.{VoiceSource}
use Rattle.voice.specs.declared.Voice.{Voice}
use Rattle.voice.proofs.Requests.{lasts, length_run, source-stops}
use Rattle.voice.proofs.Runs.{none-shaped, voice-after, voice-run, valid-frames}

-- ---- how a block's last tick is told
module _ (s : VoiceSource) (a : Adsr) where
  pub rested-at : (n : ℕ) → 0 < n → rested_source n s a ≡ kept (active_source s || A.active (after A.ticked n a)) s
  unfolding rested_source
  rested-at zero h = absurd (omega arith)
  rested-at (suc n) h = refl

module _ (s : VoiceSource) (a : Adsr) where
  pub sounded-at : (n : ℕ) → 0 < n → sounded_source n s a
      ≡ kept (cond (active_source s) (leb n (length (heard (source_run n s)) + 1)) false || A.active (after A.ticked n a)) (after source_step n s)
  unfolding sounded_source
  sounded-at zero h = absurd (omega arith)
  sounded-at (suc n) h = rw (lasts n s (active_source s) refl)

-- ---- shaped cells
length-shaped : (whole : Bool) (gain : ℕ) (gs : List (Option ℤ)) (ls : List ℕ) → length gs ≤ length ls → length (heard (shaped_answers whole gain gs ls)) ≡ length (heard gs)
unfolding heard shaped_answers
length-shaped whole gain [] ls h = refl
length-shaped whole gain (g ∷ gs) [] h = absurd (omega arith)
length-shaped whole gain (Some x ∷ gs) (l ∷ ls) h = ap suc (length-shaped whole gain gs ls (omega arith))
length-shaped whole gain (None ∷ gs) (l ∷ ls) h = length-shaped whole gain gs ls (omega arith)

cells-shaped : (whole : Bool) (gain : ℕ) (gs : List (Option ℤ)) (ls : List ℕ) (rest : List ℤ) (more : List ℕ) → Stops gs → length gs ≤ length ls
    → shaped_first whole gain (length (heard gs)) (heard gs ++ rest) (ls ++ more) ≡ heard (shaped_answers whole gain gs ls) ++ rest
unfolding heard shaped_answers shaped_first
cells-shaped whole gain [] ls rest more s h = refl
cells-shaped whole gain (g ∷ gs) [] rest more s h = absurd (omega arith)
cells-shaped whole gain (Some x ∷ gs) (l ∷ ls) rest more s h =
    ap (λ (xs : List ℤ). gained_by whole (gained_by whole x l) gain ∷ xs) (cells-shaped whole gain gs ls rest more s (omega arith))
cells-shaped whole gain (None ∷ gs) (l ∷ ls) rest more s h = rw (none-shaped whole gain gs ls s, s)

-- a source's block, its first cells shaped, is the voice's
filled-shaped : (whole : Bool) (gain : ℕ) (gs : List (Option ℤ)) (ls more : List ℕ) (cells filled : List ℤ) (n : ℕ) → Stops gs → length gs ≤ length ls
    → Filled gs cells n filled → Filled (shaped_answers whole gain gs ls) cells n (shaped_first whole gain n filled (ls ++ more))
filled-shaped whole gain gs ls more cells filled n s h f =
    record {
      count = f.count ∙ sym (length-shaped whole gain gs ls h);
      taken = rw (f.count, f.taken, length-shaped whole gain gs ls h) (cells-shaped whole gain gs ls (drop (length (heard gs)) cells) more s h);
    }

levels-cover : (n : ℕ) (s : VoiceSource) (a : Adsr) → length (source_run n s) ≤ length (given A.ticked level_after n a)
levels-cover n s a = omega (arith, length_run n s, length-cells A.ticked (λ a. (A.ticked a).level_q8) n a)

-- the parts of a block, put together
module _ {n : ℕ} (whole : Bool) (v : Voice) {cells filled : List ℤ} {f : Step VoiceSource ℕ} (h : SourceBlock v.source n cells f filled) where
  block-voice : {next : VoiceSource} {adsr : Adsr} → 0 < n → adsr ≡ after A.ticked n v.adsr
      → next ≡ kept (cond (active_source v.source) (leb n (f.given + 1)) false || A.active adsr) f.voice
      → sounding v next adsr ≡ after voice_step n v
  block-voice k a e = rw (e, h.voice, h.given.count, a, ← sounded-at v.source v.adsr n k) (sym (voice-after n v))

  block-cells : {levels : List ℕ} (more : List ℕ) → levels ≡ given A.ticked level_after n v.adsr ++ more
      → Filled (voice_run whole n v) cells f.given (shaped_first whole v.gain_q8 f.given filled levels)
  block-cells more e =
      let s = v.source in
      rw (e, voice-run whole n v)
      (filled-shaped whole v.gain_q8 (source_run n s) (given A.ticked level_after n v.adsr) more cells filled f.given (source-stops n s) (levels-cover n s v.adsr) h.given)

  pub voice-block : {next : VoiceSource} {adsr : Adsr} {levels : List ℕ} (more : List ℕ) → Valid v → 0 < n → adsr ≡ after A.ticked n v.adsr
      → next ≡ kept (cond (active_source v.source) (leb n (f.given + 1)) false || A.active adsr) f.voice
      → levels ≡ given A.ticked level_after n v.adsr ++ more
      → VoiceBlock whole v n cells (record { voice = sounding v next adsr; given = f.given }) (shaped_first whole v.gain_q8 f.given filled levels)
  voice-block more p k a e l = record { voice = made (block-voice k a e) (valid-frames n v p); given = block-cells more l }

-- no frame
pub empty_block : (whole : Bool) (v : Voice) (cells : List ℤ) → Valid v → VoiceBlock whole v 0 cells (record { voice = v; given = 0 }) cells
unfolding after given heard
empty_block whole v cells p = record { voice = made refl p; given = record { count = refl; taken = refl } }

-- a turn of the loop over the cells
shaped-suc : (whole : Bool) (gain n : ℕ) (xs : List ℤ) (ls : List ℕ) (d : ℤ)
    → set (shaped_first whole gain n xs ls) n (gained_by whole (gained_by whole (get_or (shaped_first whole gain n xs ls) n d) (get_or ls n 0)) gain) ≡ shaped_first whole gain (suc n) xs ls
unfolding shaped_first
shaped-suc whole gain zero [] ls d = refl
shaped-suc whole gain (suc n) [] ls d = refl
shaped-suc whole gain zero (x ∷ xs) [] d = refl
shaped-suc whole gain (suc n) (x ∷ xs) [] d = ap (λ (r : List ℤ). gained_by whole (gained_by whole x 0) gain ∷ r) (shaped-suc whole gain n xs [] d)
shaped-suc whole gain zero (x ∷ xs) (l ∷ ls) d = refl
shaped-suc whole gain (suc n) (x ∷ xs) (l ∷ ls) d = ap (λ (r : List ℤ). gained_by whole (gained_by whole x l) gain ∷ r) (shaped-suc whole gain n xs ls d)

pub shaped-step : (whole : Bool) (gain n : ℕ) (xs : List ℤ) (ls : List ℕ) (d : ℤ)
    → set (shaped_first whole gain n xs ls) n (gained_by whole (gained_by whole (get_or (shaped_first whole gain n xs ls) n d) (get_or ls n 0)) gain) ≡ shaped_first whole gain (n + 1) xs ls
shaped-step whole gain n xs ls d = rw add-one (shaped-suc whole gain n xs ls d)
