-- Many requests, one after another: what they give, and what a block of them stores. Assumes nothing.
use Rattle.std.proofs.Common.{◌≡◌, ℕ, zero, suc, ◌≤◌, Bool, true, false, cond, List, [], ◌∷◌, map, length, replicate, ℤ, refl, ap, ◌∙◌}
use lib.Seq.{sets}
use Rattle.laws.specs.Runs.{after, given}
use Rattle.laws.proofs.Stores.{length-cells, sets-front}
use Rattle.fixed.specs.Answers.{heard, Filled}
use Rattle.fixed.specs.declared.Step.{Step}
use Rattle.std.specs.Prelude.{Option, Some, None}
use Rattle.fm.specs.declared.FmVoice.{FmVoice}
use Rattle.fm.specs.Fm.{fm_sample, advanced_fm, stepped_fm}
use Rattle.fm.specs.Blocks.{next_fm, fm_run, fm_samples}

-- ---- answers that are all samples, or all none
heard-samples : (l : List ℤ) → heard (map Some l) ≡ l
unfolding heard
heard-samples [] = refl
heard-samples (s ∷ l) = ap (λ (r : List ℤ). s ∷ r) (heard-samples l)

heard-none : (n : ℕ) → heard (replicate n None) ≡ []
unfolding heard
heard-none zero = refl
heard-none (suc n) = heard-none n

-- ---- an active oscillator: "FM never ends"
next-active : (v : FmVoice) → v.active ≡ true → next_fm v ≡ advanced_fm v
unfolding stepped_fm
next-active v e = rw e

gives-active : (v : FmVoice) → v.active ≡ true → (stepped_fm v).given ≡ Some (fm_sample v)
unfolding stepped_fm
gives-active v e = rw e

pub fm-after : (n : ℕ) (v : FmVoice) → v.active ≡ true → after next_fm n v ≡ after advanced_fm n v
unfolding after
fm-after zero v e = refl
fm-after (suc n) v e = ap (λ (x : FmVoice). after next_fm n x) (next-active v e) ∙ fm-after n (advanced_fm v) e

pub fm-run : (n : ℕ) (v : FmVoice) → v.active ≡ true → fm_run n v ≡ map Some (fm_samples n v)
unfolding given
fm-run zero v e = refl
fm-run (suc n) v e =
    ap (λ (g : Option ℤ). g ∷ fm_run n (next_fm v)) (gives-active v e)
    ∙ ap (λ (l : List (Option ℤ)). Some (fm_sample v) ∷ l) (ap (λ (x : FmVoice). fm_run n x) (next-active v e) ∙ fm-run n (advanced_fm v) e)

pub fm-heard : (n : ℕ) (v : FmVoice) → v.active ≡ true → heard (fm_run n v) ≡ fm_samples n v
fm-heard n v e = ap heard (fm-run n v e) ∙ heard-samples (fm_samples n v)

-- ---- an inactive one
next-inactive : (v : FmVoice) → v.active ≡ false → next_fm v ≡ v
unfolding stepped_fm
next-inactive v e = rw e

gives-inactive : (v : FmVoice) → v.active ≡ false → (stepped_fm v).given ≡ None
unfolding stepped_fm
gives-inactive v e = rw e

pub fm-stays : (n : ℕ) (v : FmVoice) → v.active ≡ false → after next_fm n v ≡ v
unfolding after
fm-stays zero v e = refl
fm-stays (suc n) v e = ap (λ (x : FmVoice). after next_fm n x) (next-inactive v e) ∙ fm-stays n v e

pub fm-run-none : (n : ℕ) (v : FmVoice) → v.active ≡ false → fm_run n v ≡ replicate n None
unfolding given
fm-run-none zero v e = refl
fm-run-none (suc n) v e =
    ap (λ (g : Option ℤ). g ∷ fm_run n (next_fm v)) (gives-inactive v e)
    ∙ ap (λ (l : List (Option ℤ)). None ∷ l) (ap (λ (x : FmVoice). fm_run n x) (next-inactive v e) ∙ fm-run-none n v e)

pub fm-silent : (n : ℕ) (v : FmVoice) → v.active ≡ false → heard (fm_run n v) ≡ []
fm-silent n v e = ap heard (fm-run-none n v e) ∙ heard-none n

-- ---- either
active-kept : (v : FmVoice) → (next_fm v).active ≡ v.active
unfolding stepped_fm
active-kept v = by-test v.active
  where
    by-test : (b : Bool) →
        (cond {A = Step FmVoice (Option ℤ)} b (record { voice = advanced_fm v; given = Some (fm_sample v) }) (record { voice = v; given = None })).voice.active
        ≡ v.active
    by-test true = refl
    by-test false = refl

pub fm-active : (n : ℕ) (v : FmVoice) → (after next_fm n v).active ≡ v.active
unfolding after
fm-active zero v = refl
fm-active (suc n) v = fm-active n (next_fm v) ∙ active-kept v

-- ---- what a block stores
module _ (n : ℕ) (v : FmVoice) (before : List ℤ) where
  pub filled-active : v.active ≡ true → n ≤ length before → {cells : List ℤ} → cells ≡ sets before 0 (fm_samples n v) → Filled (fm_run n v) before n cells
  filled-active e h s =
      let l : length (fm_samples n v) ≡ n = length-cells advanced_fm fm_sample n v in
      record {
        count = rw (fm-heard n v e, l);
        taken = rw (fm-heard n v e, l) (s ∙ sets-front before (fm_samples n v) n l h);
      }

  pub filled-silent : v.active ≡ false → Filled (fm_run n v) before 0 before
  filled-silent e = record { count = rw (fm-silent n v e); taken = rw (fm-silent n v e) }
