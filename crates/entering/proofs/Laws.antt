-- The start of a frame where nothing happens, and a turn of its loop. Assumes nothing.
use Rattle.std.specs.Prelude.{Option}
use Prim.Native.Nat.{ℕ, ◌≤◌}
use native.Mathlib.Omega.{arith}
use lib.ListN.{length, take}
use mathlib.Core.Path.{◌≡◌, refl, ap, sym, ◌∙◌}
use mathlib.Core.Bool.{true, false}
use mathlib.Core.List.{List, [], ◌∷◌}
use Rattle.marks.specs.declared.Present.{Present}
use Rattle.requests.specs.Presents.{played_present}
use Rattle.start.specs.declared.Request.{Request}
use Rattle.waiting.specs.Lines as W
use Rattle.waiting.specs.Lines.{in_line, line_of, without, Apart, Falls}
use Rattle.waiting.specs.declared.Waiting.{Waiting}
use Rattle.waiting.proofs.Laws.{own, in-line-of, without-first, valid-line, length-line}
use Rattle.waiting.proofs.Lists.{by-test}
use Rattle.entering.specs.Lined.{lined}
use Rattle.entering.specs.Entering.{voice_free, kept_after, entered, entered_in, tried_in}
use Rattle.entering.specs.declared.Lined.{Lined}
use Rattle.error.specs.declared.AudioError.{AudioError}

module _ (bytes : List ℕ) (p : Present) (k : Option (AudioError × ℕ)) where
  pub entered-none : entered bytes p k [] ≡ lined p k (line_of [])
  unfolding entered
  entered-none = refl

  pub entered-free : (w : Waiting) (ws : List Waiting) → voice_free p ≡ true
      → entered bytes p k (w ∷ ws) ≡ (let q = played_present p bytes w.request in entered bytes q.present (kept_after q.outcome w.label k) ws)
  unfolding entered
  entered-free w ws e = rw e

  pub entered-busy : (ws : List Waiting) → voice_free p ≡ false → entered bytes p k ws ≡ lined p k (line_of ws)
  unfolding entered
  entered-busy [] e = refl
  entered-busy (w ∷ ws) e = rw e

-- with none waiting nothing happens, whatever stands past the line's end
pub none-enters : (bytes : List ℕ) (s : Lined) → s.line.count ≡ 0 → entered_in bytes s ≡ lined s.present s.kept (line_of [])
none-enters bytes s e = ap (λ (n : ℕ). entered bytes s.present s.kept (take n s.line.places)) e ∙ entered-none bytes s.present s.kept

-- what a play request to a state with a free voice keeps, the start of a frame keeps
module _ (bytes : List ℕ) (Q : Present → Type 0) (keeps : (p : Present) (r : Request) → voice_free p ≡ true → Q p → Q (played_present p bytes r).present) where
  entered-keeps : (ws : List Waiting) (p : Present) (k : Option (AudioError × ℕ)) → Q p → Q (entered bytes p k ws).present
  entered-keeps [] p k h = rw (entered-none bytes p k) h
  entered-keeps (w ∷ ws) p k h =
      let q = played_present p bytes w.request in
      by-test voice_free p
      (λ e. rw (entered-free bytes p k w ws e) (entered-keeps ws q.present (kept_after q.outcome w.label k) (keeps p w.request e h)))
      (λ e. rw (entered-busy bytes p k (w ∷ ws) e) h)

  pub enter-keeps : (s : Lined) → Q s.present → Q (entered_in bytes s).present
  enter-keeps s h = entered-keeps (in_line s.line) s.present s.kept h

module _ (bytes : List ℕ) (s : Lined) (h : W.Valid s.line) where
  pub none_left : in_line s.line ≡ [] → entered_in bytes s ≡ s
  none_left n =
      ap (entered bytes s.present s.kept) n ∙ entered-none bytes s.present s.kept
      ∙ ap (lined s.present s.kept) (ap line_of (sym n) ∙ sym (own h))

  -- "With none waiting, a frame is as before."
  pub none-waiting : s.line.count ≡ 0 → entered_in bytes s ≡ s
  none-waiting e = none_left (rw e)

  pub no-voice-free : voice_free s.present ≡ false → entered_in bytes s ≡ s
  no-voice-free e = entered-busy bytes s.present s.kept (in_line s.line) e ∙ ap (lined s.present s.kept) (sym (own h))

  module _ (w : Waiting) (ws : List Waiting) (f : in_line s.line ≡ w ∷ ws) where
    pub tried-line : in_line (tried_in bytes w s).line ≡ ws
    tried-line = in-line-of (without w.label (in_line s.line)) ∙ ap (without w.label) f ∙ without-first w ws (rw f at h.apart)

    pub tried-turn : voice_free s.present ≡ true → entered_in bytes s ≡ entered_in bytes (tried_in bytes w s)
    tried-turn e =
        let q = played_present s.present bytes w.request in
        ap (entered bytes s.present s.kept) f ∙ entered-free bytes s.present s.kept w ws e
        ∙ ap (entered bytes q.present (kept_after q.outcome w.label s.kept)) (sym tried-line)

-- the line that is left is valid
pub valid-left : (bytes : List ℕ) (ws : List Waiting) (p : Present) (k : Option (AudioError × ℕ)) → length ws ≤ 32 → Apart ws → Falls ws → W.Valid (entered bytes p k ws).line
valid-left bytes [] p k h a f = rw (entered-none bytes p k) (valid-line [] h a f)
valid-left bytes (w ∷ ws) p k h a f =
    by-test voice_free p
    (λ e. rw (entered-free bytes p k w ws e) (valid-left bytes ws (played_present p bytes w.request).present (kept_after (played_present p bytes w.request).outcome w.label k) (omega arith) a.1 f.1))
    (λ e. rw (entered-busy bytes p k (w ∷ ws) e) (valid-line (w ∷ ws) h a f))

pub valid-line-left : (bytes : List ℕ) (s : Lined) → W.Valid s.line → W.Valid (entered_in bytes s).line
valid-line-left bytes s h = valid-left bytes (in_line s.line) s.present s.kept (omega (arith, length-line h, h.few)) h.apart h.falls
