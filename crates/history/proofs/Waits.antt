-- Who waits, after any calls and frames from an opening on. Assumes nothing.
use Prim.Native.Nat.{ℕ, ◌-◌, ◌≤◌}
use native.Mathlib.Omega.{arith}
use mathlib.Core.Path.{◌≡◌, refl, ap, sym, ◌∙◌}
use mathlib.Core.List.{List, [], ◌∷◌, ◌++◌, map}
use lib.ListN.{length, length-append}
use lib.Seq.{take-append_seam}
use Rattle.config.specs.declared.AudioConfig.{AudioConfig}
use Rattle.entering.specs.Entering.{entered_in}
use Rattle.entering.proofs.Fates.{enters-in}
use Rattle.entering.proofs.Laws.{valid-line-left, none-waiting}
use Rattle.error.specs.Told.{Told, value, refused}
use Rattle.frame.specs.Lasting.{Step, frame, call, after_all}
use Rattle.mixer.specs.declared.VoiceStealingPolicy.{VoiceStealingPolicy}
use Rattle.marks.specs.declared.Present.{Present}
use Rattle.requests.specs.Players as R
use Rattle.requests.specs.Presents.{played_present}
use Rattle.steps.specs.Steps as S01
use Rattle.steps.specs.Steps.{Frame, mono, duty, stereo}
use Rattle.sounder.specs.Calls.{opened}
use Rattle.sounder.specs.Requests.{played_all}
use Rattle.sounder.specs.Steps as S
use Rattle.sounder.specs.Steps.{Lent, framed, Call, by01, fade_on, called01, called, box}
use Rattle.entering.specs.declared.Lined.{Lined}
use Rattle.waiting.specs.History as W
use Rattle.waiting.specs.History.{Event, value_or, line_after}
use Rattle.waiting.specs.Lines as L
use Rattle.waiting.specs.Lines.{in_line, left, withdrawn, changed_line}
use Rattle.waiting.specs.declared.Line.{Line}
use Rattle.waiting.specs.declared.Waiting.{Waiting}
use Rattle.waiting.proofs.Accounts.{none-lost}
use Rattle.waiting.proofs.Afresh.{sorted-afresh}
use Rattle.waiting.proofs.Laws.{in-line-of, without-first, valid-none, valid-left, valid-withdrawn}
use Rattle.history.specs.Waits.{waiting_in, call_events, gone, gone_in, events_of, Told as Gone, Lines, AsBefore, Asked, plays, leaves, withdraws, step_of, requests_in, PlaysAlone}
use Rattle.history.proofs.Calls.{from-opening}

-- a box whose line is what its events say
record Stands (s : Lined) (es : List Event) : Type 0 where
  same : waiting_in s ≡ line_after es
  valid : L.Valid s.line

-- ---- a call
changed-line : (l : Line) (t : Told (List Waiting)) → in_line (changed_line l t).line ≡ value_or (in_line l) t
changed-line l (value ws) = in-line-of ws
changed-line l (refused n) = refl

unmoved : (c : S01.Call) (s : Lined) → (called01 c s).line ≡ s.line
unmoved (S01.play bytes r) s = refl
unmoved (S01.tone hz ms w) s = refl
unmoved (S01.poly_blep hz ms w) s = refl
unmoved (S01.bank rate count len) s = refl
unmoved (S01.pan i q) s = refl
unmoved (S01.master_gain gain) s = refl
unmoved S01.stop s = refl
unmoved (S01.fade bytes id ms adsr) s = refl
unmoved S01.look s = refl

call-stands : (c : Call) (s : Lined) (es : List Event) → Stands s es → Stands (called c s) (call_events c ++ es)
unfolding line_after
call-stands (by01 c) s es h = record { same = ap in_line (unmoved c s) ∙ h.same; valid = rw (unmoved c s) h.valid }
call-stands (fade_on bytes id ms adsr) s es h = record { same = h.same; valid = h.valid }
call-stands (S.leave label r) s es h =
    let x : Waiting = record { label = label; request = r } in
    record { same = changed-line s.line (left x (waiting_in s)) ∙ ap (λ (ws : List Waiting). value_or ws (left x ws)) h.same; valid = valid-left x h.valid }
call-stands (S.withdraw label) s es h =
    record {
      same = changed-line s.line (withdrawn label (waiting_in s)) ∙ ap (λ (ws : List Waiting). value_or ws (withdrawn label ws)) h.same;
      valid = valid-withdrawn label h.valid;
    }

-- ---- a frame
goes : (ts ws : List Waiting) (es : List Event) → L.Apart (ts ++ ws) → line_after es ≡ ts ++ ws → line_after (gone_in ts es) ≡ ws
unfolding line_after
goes [] ws es a e = e
goes (t ∷ ts) ws es a e = goes ts ws (W.go_in t.label ∷ es) a.1 (ap (L.without t.label) e ∙ without-first t (ts ++ ws) a)

-- those that stood first, of what there was
front : (ts ws : List Waiting) → gone (ts ++ ws) ws ≡ ts
front ts ws = let e : length (ts ++ ws) - length ws ≡ length ts = omega (arith, length-append ts ws) in rw e (take-append_seam ts ws)

left-line : (f : Frame) (bytes : List ℕ) (s : Lined) → (S.frame_step f bytes s).line ≡ (entered_in bytes s).line
left-line mono bytes s = refl
left-line duty bytes s = refl
left-line stereo bytes s = refl

abbrev Room : Lined → Type 0
Room s = s.present.mixer.n ≤ length s.present.mixer.voices

tells : (f : Lent) (s : Lined) → Room s → Gone f s
tells f s h =
    let e = enters-in f.bytes s h in
    let ts = map (λ t. t.who) e.tried in
    let after = in_line (entered_in f.bytes s).line in
    record {
      enters = e;
      same =
          sym (front ts after)
          ∙ ap (λ (ws : List Waiting). gone ws after) e.line
          ∙ ap (λ (l : Line). gone (waiting_in s) (in_line l)) (sym (left-line f.kind f.bytes s));
    }

frame-stands : (f : Lent) (s : Lined) (es : List Event) → Room s → Stands s es → Stands (framed f s) (gone_in (gone (waiting_in s) (waiting_in (framed f s))) es)
frame-stands f s es r h =
    let g = tells f s r in
    let e = g.enters in
    let ts = map (λ t. t.who) e.tried in
    let after = waiting_in (framed f s) in
    let split : ts ++ after ≡ waiting_in s = ap (λ (l : Line). ts ++ in_line l) (left-line f.kind f.bytes s) ∙ e.line in
    record {
      same = sym (ap (λ (ws : List Waiting). line_after (gone_in ws es)) (sym g.same) ∙ goes ts after es (rw split h.valid.apart) (sym h.same ∙ sym split));
      valid = rw (left-line f.kind f.bytes s) (valid-line-left f.bytes s h.valid);
    }

-- ---- in any order, from an opening on
-- every state on the way has its voices
abbrev Roomy : List (Step Lent Call) → Lined → Type 0
Roomy ss s = (ts us : List (Step Lent Call)) → ss ≡ ts ++ us → Room (after_all box ts s)

roomy-on : (x : Step Lent Call) (ss : List (Step Lent Call)) (s : Lined) → Roomy (x ∷ ss) s → Roomy ss (after_all box (x ∷ []) s)
unfolding after_all
roomy-on (frame f) ss s h ts us e = h (frame f ∷ ts) us (ap (λ (l : List (Step Lent Call)). frame f ∷ l) e)
roomy-on (call c) ss s h ts us e = h (call c ∷ ts) us (ap (λ (l : List (Step Lent Call)). call c ∷ l) e)

roomy-now : (ss : List (Step Lent Call)) (s : Lined) → Roomy ss s → Room s
unfolding after_all
roomy-now ss s h = h [] ss refl

stands-all : (ss : List (Step Lent Call)) (s : Lined) (es : List Event) → Roomy ss s → Stands s es → Stands (after_all box ss s) (events_of ss s es)
unfolding after_all events_of
stands-all [] s es r h = h
stands-all (frame f ∷ ss) s es r h =
    stands-all ss (framed f s) (gone_in (gone (waiting_in s) (waiting_in (framed f s))) es) (roomy-on (frame f) ss s r) (frame-stands f s es (roomy-now (frame f ∷ ss) s r) h)
stands-all (call c ∷ ss) s es r h = stands-all ss (called c s) (call_events c ++ es) (roomy-on (call c) ss s r) (call-stands c s es h)

module _ (n : ℕ) (config : AudioConfig) (policy : VoiceStealingPolicy) where
  room : (ss : List (Step Lent Call)) → Room (after_all box ss (opened n config policy).lined)
  room ss = let r = (from-opening n config policy ss).ready.sized in omega (arith, r.few, r.full)

  pub line_kept : (ss : List (Step Lent Call)) → Lines ss (opened n config policy).lined
  unfolding line_after
  line_kept ss =
      let s = (opened n config policy).lined in
      let h = stands-all ss s [] (λ ts us e. room ts) (record { same = in-line-of []; valid = valid-none }) in
      record {
        line = h.same;
        afresh = sorted-afresh (events_of ss s []);
        lost = none-lost (events_of ss s []);
        told = λ f. tells f (after_all box ss s) (room ss);
      }

-- ---- "With none waiting, a frame is as before."
pub as_before : (f : Frame) (bytes : List ℕ) (s : Lined) → L.Valid s.line → s.line.count ≡ 0 → AsBefore f bytes s
as_before mono bytes s h e = rw (none-waiting bytes s h e)
as_before duty bytes s h e = rw (none-waiting bytes s h e)
as_before stereo bytes s h e = rw (none-waiting bytes s h e)

-- ---- leaving and withdrawing between play requests
alone : (bytes : List ℕ) (xs : List Asked) (s t : Lined) → s.present ≡ t.present
    → (after_all box (map (step_of bytes) xs) s).present ≡ (played_all t bytes (requests_in xs)).present
unfolding after_all R.played_all
alone bytes [] s t e = e
alone bytes (plays r ∷ xs) s t e =
    alone bytes xs (called (by01 (S01.play bytes r)) s) (called (by01 (S01.play bytes r)) t) (ap (λ (p : Present). (played_present p bytes r).present) e)
alone bytes (leaves label r ∷ xs) s t e = alone bytes xs (called (S.leave label r) s) t e
alone bytes (withdraws label ∷ xs) s t e = alone bytes xs (called (S.withdraw label) s) t e

pub plays-alone : (bytes : List ℕ) (xs : List Asked) (s : Lined) → PlaysAlone bytes xs s
plays-alone bytes xs s = alone bytes xs s s refl
