-- In a phase that counts, the ticks towards its target; in the others nothing changes. Assumes nothing.
use mathlib.Core.Path.{◌≡◌, refl, sym, ◌∙◌}
use Prim.Native.Nat.{ℕ, ◌+◌, ◌<◌}
use mathlib.Core.List.{List}
use lib.ListN.{length, replicate}
use Rattle.laws.specs.Made.{Made}
use Rattle.laws.specs.Runs.{after, given}
use Rattle.laws.proofs.Made.{made}
use Rattle.envelope.specs.declared.Adsr.{Adsr}
use Rattle.envelope.specs.declared.AdsrPhase.{AdsrPhase}
use Rattle.envelope.specs.declared.AdsrPhase.TheVariants as P
use Rattle.envelope.specs.Adsrs.{Valid, ticked, ticked_in, advanced_toward, or_at_end, began_decay, sustained, ended}
use Rattle.envelope.specs.Blocks.{level_after, level_toward}
use Rattle.envelope.proofs.Laws.{ticked-still}
use Rattle.envelope.proofs.Ticks.{valid-ticks, after-within, given-within, still_after, still-given}
use Rattle.envelope.proofs.Adsr.within.Goals as goal

pub ramp-requires : goal.ramp-requires
ramp-requires c = c.requires.1 (rw c.in-Attack.is)

pub ramp-requires-in-Decay : goal.ramp-requires-in-Decay
ramp-requires-in-Decay c = c.requires.1 (rw c.in-Decay.is)

pub ramp-requires-in-Release : goal.ramp-requires-in-Release
ramp-requires-in-Release c = c.requires.1 (rw c.in-Release.is)

module _ (a : Adsr) (n : ℕ) (h : Valid a) where
  abbrev Ticked : Adsr → List ℕ → Type 0
  Ticked r cells = Made Valid (after ticked n a) r × (cells ≡ given ticked level_after n a)

  ramped : (p : AdsrPhase) (t : ℕ) (next : Adsr → Adsr) → ((x : Adsr) → x.spec ≡ a.spec → ticked_in p x ≡ or_at_end (advanced_toward t x) (next (advanced_toward t x))) →
      a.phase ≡ p → a.samples_in_phase + n < a.phase_length_samples → {r : Adsr} {cells : List ℕ} →
      (r ≡ after (advanced_toward t) n a) × (cells ≡ given (advanced_toward t) (level_toward t) n a) → Ticked r cells
  ramped p t next form e k g = (
    made (g.0 ∙ after-within p a.spec t next form n a e refl k) (valid-ticks n h),
    g.1 ∙ given-within p a.spec t next form n a e refl k,
  )

  stood : ticked a ≡ a → {cells : List ℕ} → cells ≡ replicate n a.level_q8 → Ticked a cells
  stood e g =
      (made (sym (still_after n e)) (valid-ticks n h), g ∙ sym (still-given n a e))

pub returns-in-Attack : goal.returns-in-Attack
returns-in-Attack c =
    let e = c.in-Attack.is in let both = ramped c.args.self (length c.args.out.now) c.requires.0 P.Attack 255 began_decay (λ x f. refl) e (c.requires.1 (rw e)) (c.ramp.ensures.value, c.ramp.ensures.out_after) in
    record { made = both.0; out_after = both.1 }

pub returns-in-Decay : goal.returns-in-Decay
returns-in-Decay c =
    let e = c.in-Decay.is in let both = ramped c.args.self (length c.args.out.now) c.requires.0 P.Decay c.args.self.spec.sustain_q8 sustained (λ x f. rw (← f)) e (c.requires.1 (rw e)) (c.ramp-in-Decay.ensures.value, c.ramp-in-Decay.ensures.out_after) in
    record { made = both.0; out_after = both.1 }

pub returns-in-Release : goal.returns-in-Release
returns-in-Release c =
    let e = c.in-Release.is in let both = ramped c.args.self (length c.args.out.now) c.requires.0 P.Release 0 ended (λ x f. refl) e (c.requires.1 (rw e)) (c.ramp-in-Release.ensures.value, c.ramp-in-Release.ensures.out_after) in
    record { made = both.0; out_after = both.1 }

pub returns-in-Sustain : goal.returns-in-Sustain
returns-in-Sustain c =
    let both = stood c.args.self (length c.args.out.now) c.requires.0 (ticked-still c.in-Sustain.is) (c.fill.ensures.after (λ y e. e)) in
    record { made = both.0; out_after = both.1 }
