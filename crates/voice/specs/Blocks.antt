-- Inner: frames one after another, of one voice alone: "tick all envelopes (a voice then inaudible gets the idle source), take
-- samples". Assumes nothing.
use Rattle.std.specs.Prelude.{ℕ, zero, suc, Bool, cond, ◌||◌, List, [], ◌∷◌, ℤ, ◌≡◌, Option}
use Rattle.laws.specs.Made.{Made}
use Rattle.laws.specs.Runs.{after, given}
use Rattle.envelope.specs.declared.Adsr.{Adsr}
use Rattle.envelope.specs.Adsrs as A
use Rattle.fixed.specs.declared.Step.{Step}
use Rattle.fixed.specs.Fixed.{gained_by}
use Rattle.fixed.specs.Answers.{Filled}
use Rattle.voice.specs.Sources.{active_source, stepped_source}
use Rattle.voice.specs.Voices.{Valid, shaped_by, ticked_voice, stepped_voice, sample_by}
use Rattle.voice.specs.declared.source.VoiceSource.{VoiceSource}
use Rattle.voice.specs.declared.source.VoiceSource.TheVariants as S
use Rattle.voice.specs.declared.Voice.{Voice}

-- ---- a source, request by request
unfoldable pub source_step : VoiceSource → VoiceSource
source_step s = (stepped_source s).voice

unfoldable pub source_answer : VoiceSource → List (Option ℤ)
source_answer s = (stepped_source s).given ∷ []

-- the answers to n requests
abbrev pub source_run : ℕ → VoiceSource → List (Option ℤ)
source_run n s = given source_step source_answer n s

-- what n requests at once give back
pub record SourceBlock (s : VoiceSource) (n : ℕ) (cells : List ℤ) (r : Step VoiceSource ℕ) (filled : List ℤ) : Type 0 where
  pub voice : r.voice ≡ after source_step n s
  pub given : Filled (source_run n s) cells r.given filled

-- ---- a voice, frame by frame: its envelope's tick, then a request
unfoldable pub voice_step : Voice → Voice
voice_step v = (stepped_voice (ticked_voice v)).voice

unfoldable pub voice_answer : Bool → Voice → List (Option ℤ)
voice_answer whole v = sample_by whole (ticked_voice v) ∷ []

-- the answers of n frames, by a rule of gain 255
abbrev pub voice_run : Bool → ℕ → Voice → List (Option ℤ)
voice_run whole n v = given voice_step (voice_answer whole) n v

-- what n frames at once give back
pub record VoiceBlock (whole : Bool) (v : Voice) (n : ℕ) (cells : List ℤ) (r : Step Voice ℕ) (filled : List ℤ) : Type 0 where
  pub voice : Made Valid (after voice_step n v) r.voice
  pub given : Filled (voice_run whole n v) cells r.given filled

-- ---- the same, part by part
-- "a voice then inaudible gets the idle source"
abbrev pub kept : Bool → VoiceSource → VoiceSource
kept heard s = cond heard s S.Idle

-- the source after n frames: it is the idle one where, at the last tick, nothing could be heard
unfoldable pub sounded_source : ℕ → VoiceSource → Adsr → VoiceSource
sounded_source zero s a = s
sounded_source (suc n) s a =
    kept (active_source (after source_step n s) || A.active (after A.ticked (suc n) a)) (after source_step (suc n) s)

-- the same with no request made
unfoldable pub rested_source : ℕ → VoiceSource → Adsr → VoiceSource
rested_source zero s a = s
rested_source (suc n) s a = kept (active_source s || A.active (after A.ticked (suc n) a)) s

-- answers, each "by envelope first, then voice"
unfoldable pub shaped_answers : Bool → ℕ → List (Option ℤ) → List ℕ → List (Option ℤ)
shaped_answers whole gain [] levels = []
shaped_answers whole gain (g ∷ gs) [] = []
shaped_answers whole gain (g ∷ gs) (l ∷ levels) = shaped_by (gained_by whole) l gain g ∷ shaped_answers whole gain gs levels

-- the first n cells shaped, by level 0 where there is no more; the rest stays
unfoldable pub shaped_first : Bool → ℕ → ℕ → List ℤ → List ℕ → List ℤ
shaped_first whole gain zero cells levels = cells
shaped_first whole gain (suc n) [] levels = []
shaped_first whole gain (suc n) (x ∷ cells) [] = gained_by whole (gained_by whole x 0) gain ∷ shaped_first whole gain n cells []
shaped_first whole gain (suc n) (x ∷ cells) (l ∷ levels) = gained_by whole (gained_by whole x l) gain ∷ shaped_first whole gain n cells levels
