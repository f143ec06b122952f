-- A source, request by request. Assumes nothing.
use Prim.Native.Nat.{ℕ, zero, suc, ◌+◌, ◌≤◌, ◌<◌}
use native.Mathlib.Omega.{arith}
use mathlib.Core.Path.{◌≡◌, refl, sym, ap, ◌∙◌}
use mathlib.Core.Bool.{Bool, true, false, cond}
use mathlib.Core.List.{List, [], ◌∷◌}
use lib.Dec.{eqb, leb}
use borrow.Author.Tests.{leb-true, leb-false}
use lib.IntN.{ℤ}
use lib.ListN.{length}
use Rattle.laws.specs.Runs.{after, given}
use Rattle.laws.proofs.Stores.{length-cells}
use Rattle.std.specs.Prelude.{Option, Some, None}
use Rattle.fixed.specs.declared.Step.{Step}
use Rattle.fixed.specs.Answers.{heard, Stops, Filled}
use Rattle.fixed.proofs.Answers.{heard-short}
use Rattle.fm.specs.declared.FmVoice.{FmVoice}
use Rattle.fm.specs.Fm.{stepped_fm}
use Rattle.polyblep.specs.declared.PolyBlepVoice.{PolyBlepVoice}
use Rattle.polyblep.specs.Oscillators as B
use Rattle.tone.specs.declared.ToneVoice.{ToneVoice}
use Rattle.tone.specs.Tones as T
use Rattle.voice.specs.Sources.{active_source, stepped_source}
use Rattle.voice.specs.Blocks.{source_step, source_answer, source_run, SourceBlock}
use Rattle.voice.specs.declared.source.VoiceSource.{VoiceSource}
use Rattle.voice.specs.declared.source.VoiceSource.TheVariants as S

-- ---- one request
-- whether an answer is a sample
abbrev answered : Option ℤ → Bool
answered (Some s) = true
answered None = false

-- an inactive source stays as it is, and gives none
pub source-quiet : (s : VoiceSource) → active_source s ≡ false → stepped_source s ≡ record { voice = s; given = None }
unfolding stepped_source active_source T.stepped_tone B.stepped_voice B.float_given stepped_fm
source-quiet S.Idle e = refl
source-quiet (S.Tone v) e = rw e
source-quiet (S.PolyBlep v) e = rw e
source-quiet (S.Fm v) e = rw e

tone-answers : (v : ToneVoice) (a l : Bool) → v.active ≡ a → eqb v.samples_left 0 ≡ l
    → (T.stepped_tone v).voice.active ≡ answered (T.stepped_tone v).given
unfolding T.stepped_tone
tone-answers v false l h k = rw h
tone-answers v true true h k = rw (h, k)
tone-answers v true false h k = rw (h, k)

blep-answers : (v : PolyBlepVoice) (a l : Bool) → v.active ≡ a → eqb v.samples_left 0 ≡ l
    → (B.stepped_voice v).active ≡ answered (B.cut_given (B.float_given v))
unfolding B.stepped_voice B.float_given
blep-answers v false l h k = rw h
blep-answers v true true h k = rw (h, k)
blep-answers v true false h k = rw (h, k)

fm-answers : (v : FmVoice) (a : Bool) → v.active ≡ a → (stepped_fm v).voice.active ≡ answered (stepped_fm v).given
unfolding stepped_fm
fm-answers v false h = rw h
fm-answers v true h = rw h

-- a source is active after a request that it answered, and after no other
pub source-answers : (s : VoiceSource) → active_source (stepped_source s).voice ≡ answered (stepped_source s).given
unfolding stepped_source active_source
source-answers S.Idle = refl
source-answers (S.Tone v) = tone-answers v _ _ refl refl
source-answers (S.PolyBlep v) = blep-answers v _ _ refl refl
source-answers (S.Fm v) = fm-answers v _ refl

-- a request that gave none leaves the source inactive
none-inactive : (s : VoiceSource) → (stepped_source s).given ≡ None → active_source (source_step s) ≡ false
unfolding source_step
none-inactive s e = source-answers s ∙ ap answered e

sample-active : (s : VoiceSource) (x : ℤ) → (stepped_source s).given ≡ Some x → active_source (source_step s) ≡ true
unfolding source_step
sample-active s x e = source-answers s ∙ ap answered e

pub step-quiet : (s : VoiceSource) → active_source s ≡ false → source_step s ≡ s
unfolding source_step
step-quiet s e = ap (λ (x : Step VoiceSource (Option ℤ)). x.voice) (source-quiet s e)

answer-quiet : (s : VoiceSource) → active_source s ≡ false → source_answer s ≡ None ∷ []
unfolding source_answer
answer-quiet s e = ap (λ (x : Step VoiceSource (Option ℤ)). x.given ∷ []) (source-quiet s e)

-- ---- request by request
-- an inactive source never changes, and gives none
pub quiet-after : (n : ℕ) (s : VoiceSource) → active_source s ≡ false → after source_step n s ≡ s
unfolding after
quiet-after zero s e = refl
quiet-after (suc n) s e = rw (step-quiet s e) (quiet-after n s e)

pub quiet-run : (n : ℕ) (s : VoiceSource) → active_source s ≡ false → heard (source_run n s) ≡ []
unfolding given heard
quiet-run zero s e = refl
quiet-run (suc n) s e = rw (step-quiet s e, answer-quiet s e) (quiet-run n s e)

pub quiet_same : (n : ℕ) (s t : VoiceSource) → active_source s ≡ false → active_source t ≡ false → source_run n s ≡ source_run n t
unfolding given
quiet_same zero s t e f = refl
quiet_same (suc n) s t e f =
    rw (step-quiet s e, answer-quiet s e, step-quiet t f, answer-quiet t f) (ap (λ (gs : List (Option ℤ)). None ∷ gs) (quiet_same n s t e f))

pub run-suc : (n : ℕ) (s : VoiceSource) (g : Option ℤ) → (stepped_source s).given ≡ g → source_run (suc n) s ≡ g ∷ source_run n (source_step s)
unfolding given source_answer
run-suc n s g e = rw e

-- by its first answer, what holds of a source's run
by_answer : (P : List (Option ℤ) → Type 0) (n : ℕ) (s : VoiceSource)
    → ((x : ℤ) → (stepped_source s).given ≡ Some x → P (Some x ∷ source_run n (source_step s)))
    → (active_source (source_step s) ≡ false → P (None ∷ source_run n (source_step s)))
    → P (source_run (suc n) s)
by_answer P n s f g = go (stepped_source s).given refl
  where
    go : (a : Option ℤ) → (stepped_source s).given ≡ a → P (source_run (suc n) s)
    go (Some x) e = rw (run-suc n s _ e) (f x e)
    go None e = rw (run-suc n s _ e) (g (none-inactive s e))

pub length_run : (n : ℕ) (s : VoiceSource) → length (source_run n s) ≡ n
unfolding source_answer
length_run n s = length-cells source_step (λ s. (stepped_source s).given) n s

pub source-stops : (n : ℕ) (s : VoiceSource) → Stops (source_run n s)
unfolding given
source-stops zero s = tt
source-stops (suc n) s = by_answer Stops n s (λ x e. source-stops n (source_step s)) (λ q. quiet-run n (source_step s) q)

-- a source that left one of suc n requests unanswered before the last was inactive before the last
pub source-ended : (n : ℕ) (s : VoiceSource) → length (heard (source_run (suc n) s)) < n → active_source (after source_step n s) ≡ false
unfolding after heard
source-ended zero s = λ h. absurd (omega arith)
source-ended (suc n) s =
    by_answer (λ gs. length (heard gs) < suc n → active_source (after source_step n (source_step s)) ≡ false) (suc n) s
    (λ x e h. source-ended n (source_step s) (omega arith))
    (λ q h. rw (quiet-after n (source_step s) q) q)

-- one that was active, and left none of them unanswered, was active
pub source-goes-on : (n : ℕ) (s : VoiceSource) → active_source s ≡ true → n ≤ length (heard (source_run (suc n) s))
    → active_source (after source_step n s) ≡ true
unfolding after heard
source-goes-on zero s a = λ h. a
source-goes-on (suc n) s a =
    by_answer (λ gs. suc n ≤ length (heard gs) → active_source (after source_step n (source_step s)) ≡ true) (suc n) s
    (λ x e h. source-goes-on n (source_step s) (sample-active s x e) (omega arith))
    (λ q h. let z : length (heard (source_run (suc n) (source_step s))) ≡ 0 = rw (quiet-run (suc n) (source_step s) q) in absurd (omega arith))

-- ---- the idle source
pub idle-inactive : active_source S.Idle ≡ false
unfolding active_source
idle-inactive = refl

-- by the answers to suc n requests, whether the source was active before the last
pub lasts : (n : ℕ) (s : VoiceSource) (b : Bool) → active_source s ≡ b
    → cond b (leb (suc n) (length (heard (source_run (suc n) s)) + 1)) false ≡ active_source (after source_step n s)
lasts n s false q = sym (rw (quiet-after n s q) q)
lasts n s true q = go (leb (suc n) (length (heard (source_run (suc n) s)) + 1)) refl
  where
    count : ℕ
    count = length (heard (source_run (suc n) s))

    go : (t : Bool) → leb (suc n) (count + 1) ≡ t → t ≡ active_source (after source_step n s)
    go true e = let h = leb-true (suc n) (count + 1) e in sym (source-goes-on n s q (omega arith))
    go false e = let h = leb-false (suc n) (count + 1) e in sym (source-ended n s (omega arith))

-- ---- a source of each kind runs as its own voice does
module _ {X : Type 0} (case : X → VoiceSource) (step : X → X) (answer : X → Option ℤ)
    (h : (x : X) → stepped_source (case x) ≡ record { voice = case (step x); given = answer x }) where
  case_step : (x : X) → source_step (case x) ≡ case (step x)
  unfolding source_step
  case_step x = ap (λ (r : Step VoiceSource (Option ℤ)). r.voice) (h x)

  case-answer : (x : X) → source_answer (case x) ≡ answer x ∷ []
  unfolding source_answer
  case-answer x = ap (λ (r : Step VoiceSource (Option ℤ)). r.given ∷ []) (h x)

  pub case-after : (n : ℕ) (x : X) → after source_step n (case x) ≡ case (after step n x)
  unfolding after
  case-after zero x = refl
  case-after (suc n) x = rw (case_step x) (case-after n (step x))

  pub case-run : (n : ℕ) (x : X) → source_run n (case x) ≡ given step (λ x. answer x ∷ []) n x
  unfolding given
  case-run zero x = refl
  case-run (suc n) x = rw (case_step x, case-answer x) (ap (λ (gs : List (Option ℤ)). answer x ∷ gs) (case-run n (step x)))

  -- a block of the kind's own requests is the source's
  case-block : {n : ℕ} {x next : X} {cells filled : List ℤ} {k : ℕ} → next ≡ after step n x → Filled (given step (λ x. answer x ∷ []) n x) cells k filled
      → SourceBlock (case x) n cells (record { voice = case next; given = k }) filled
  case-block {n} {x} e f = record { voice = rw (e, case-after n x); given = rw (case-run n x) f }

-- and so is that of a source that gives none
pub quiet-block : (n : ℕ) (s : VoiceSource) (cells : List ℤ) → active_source s ≡ false → SourceBlock s n cells (record { voice = s; given = 0 }) cells
quiet-block n s cells q =
    record {
      voice = sym (quiet-after n s q);
      given = record { count = rw (quiet-run n s q); taken = rw (quiet-run n s q) };
    }

pub tone-stepped : (v : ToneVoice) → stepped_source (S.Tone v) ≡ record { voice = S.Tone (T.stepped_tone v).voice; given = (T.stepped_tone v).given }
unfolding stepped_source
tone-stepped v = refl

pub blep-stepped : (v : PolyBlepVoice) → stepped_source (S.PolyBlep v) ≡ record { voice = S.PolyBlep (B.stepped_voice v); given = B.cut_given (B.float_given v) }
unfolding stepped_source
blep-stepped v = refl

pub fm-stepped : (v : FmVoice) → stepped_source (S.Fm v) ≡ record { voice = S.Fm (stepped_fm v).voice; given = (stepped_fm v).given }
unfolding stepped_source
fm-stepped v = refl

module _ {n : ℕ} {cells filled : List ℤ} {k : ℕ} where
  pub tone-block : {v next : ToneVoice} → next ≡ after (λ v. (T.stepped_tone v).voice) n v
      → Filled (given (λ v. (T.stepped_tone v).voice) (λ v. (T.stepped_tone v).given ∷ []) n v) cells k filled
      → SourceBlock (S.Tone v) n cells (record { voice = S.Tone next; given = k }) filled
  tone-block e f = case-block _ _ _ tone-stepped e f

  pub blep-block : {v next : PolyBlepVoice} → next ≡ after B.stepped_voice n v
      → Filled (given B.stepped_voice (λ v. B.cut_given (B.float_given v) ∷ []) n v) cells k filled
      → SourceBlock (S.PolyBlep v) n cells (record { voice = S.PolyBlep next; given = k }) filled
  blep-block e f = case-block _ _ _ blep-stepped e f

  pub fm-block : {v next : FmVoice} → next ≡ after (λ v. (stepped_fm v).voice) n v
      → Filled (given (λ v. (stepped_fm v).voice) (λ v. (stepped_fm v).given ∷ []) n v) cells k filled
      → SourceBlock (S.Fm v) n cells (record { voice = S.Fm next; given = k }) filled
  fm-block e f = case-block _ _ _ fm-stepped e f

-- a block gives at most a sample a request
pub block-short : {n : ℕ} {s : VoiceSource} {cells filled : List ℤ} {f : Step VoiceSource ℕ} → SourceBlock s n cells f filled → f.given ≤ n
block-short {n} {s} h = omega (arith, h.given.count, heard-short (source_run n s), length_run n s)
