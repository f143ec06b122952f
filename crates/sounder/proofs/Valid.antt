-- Each definition keeps a state valid; so what a step of the parts promises, the call promises of the box. Assumes nothing.
use Rattle.std.specs.Prelude.{Err, None, Ok, Some}
use Prim.Native.Nat.{ℕ}
use mathlib.Core.Path.{◌≡◌, refl, ap, ◌∙◌}
use native.Mathlib.Omega.{arith}
use mathlib.Core.Bool.{Bool, true, false, cond}
use mathlib.Core.List.{[], map}
use lib.Dec.{ltb}
use lib.ListN.{length, get_or}
use lib.Seq.{map-set_same}
use Rattle.bank.specs.Banks.{bank_of}
use Rattle.bank.specs.declared.SoundBank.{SoundBank}
use Rattle.config.specs.Config.{default_duty}
use Rattle.config.specs.declared.AudioConfig.{AudioConfig}
use Rattle.entering.specs.Lined as E
use Rattle.entering.specs.declared.Lined.{Lined}
use Rattle.error.specs.Told.{Told, value, refused}
use Rattle.laws.specs.Made.{Made}
use Rattle.laws.proofs.Made.{made}
use Rattle.laws.specs.Lists.{All}
use Rattle.laws.proofs.Lists.{all_replicate}
use Rattle.marks.specs.Marks.{Valid, Ordered, beside, no_marks, started_mark, marked_at, settled}
use Rattle.marks.specs.declared.Marks.{Marks}
use Rattle.marks.specs.declared.Present.{Present}
use Rattle.marks.proofs.Laws.{settled-valid, none-valid, changed-valid, fewer-order, marked-length}
use Rattle.marks.proofs.Starts.{begun-order}
use Rattle.mixer.specs.Mixers as M
use Rattle.mixer.specs.declared.Changed.{Changed}
use Rattle.mixer.specs.declared.Mixer.{Mixer}
use Rattle.voice.specs.Voices.{audible, with_pan, silent_voice}
use Rattle.voice.specs.declared.Voice.{Voice}
use Rattle.waiting.specs.Lines as W
use Rattle.waiting.specs.declared.Line.{Line}
use Rattle.sounder.specs.Sounders.{After, Gives, unwaited, with_present}
use Rattle.sounder.specs.Calls.{Outcome, changed, opened_two, default_sounder, panned, with_master_gain, bank_marks, banked, fade_marks, faded_by}
use Rattle.sounder.proofs.Heard.{Others, HeardBy}
use Rattle.sounder.proofs.Settled.{silent}

-- a box whose line stays
kept_line : {s : Lined} {p : Present} → E.Valid s → Valid p → E.Valid (with_present s p)
kept_line h g = record { present = g; line = h.line }

-- ---- opening
pub made-opened : {x c : Changed} {k : Marks} {l : Line} → Made M.ValidChanged x c → All (λ v. audible v ≡ false) x.mixer.voices → k ≡ no_marks true false
    → Made W.Valid (W.line_of []) l
    → Gives (changed x.outcome (unwaited (beside x.mixer (no_marks true false)))) c.outcome (E.lined (beside c.mixer k) None l)
made-opened {c = c} h a e n =
    record {
      same = rw (e, h.same, n.same);
      valid = record { present = rw e (none-valid c.mixer true false h.valid (rw h.same a)); line = n.valid };
    }

default-opens : (opened_two default_duty).lined ≡ default_sounder
unfolding M.opened
default-opens = refl

pub made-default : {config : AudioConfig} {r : Outcome} {s : Lined} → config ≡ default_duty → Gives (opened_two config) r s → Made E.Valid default_sounder s
made-default {config} {r} {s} e h =
    let k : Gives (opened_two default_duty) r s = rw e at h in
    record { same = ap (λ (x : After Outcome). x.lined) k.same ∙ default-opens; valid = k.valid }

-- ---- what starts and silences nothing
pan-alike : (v : Voice) (pan : ℕ) → audible (with_pan v pan) ≡ audible v
unfolding audible with_pan
pan-alike v pan = refl

pub panned-alike : (m : Mixer) (i pan : ℕ) → map audible (M.panned m i pan).voices ≡ map audible m.voices
unfolding M.panned M.voice_read
panned-alike m i pan = by_place (ltb i m.n)
  where
    v : Voice
    v = get_or m.voices i (silent_voice 0)

    by_place : (t : Bool) → map audible (M.panned_at m i pan (cond t (Some v) None)).voices ≡ map audible m.voices
    by_place true = map-set_same audible m.voices i (with_pan v pan) (silent_voice 0) (pan-alike v pan)
    by_place false = refl

pub made-panned : {s : Lined} (i pan : ℕ) {m : Mixer} → E.Valid s → Made M.Valid (M.panned s.present.mixer i pan) m
    → Made E.Valid (panned s i pan) (with_present s (beside m s.present.marks))
made-panned {s} i pan h g =
    record { same = rw g.same; valid = kept_line h (changed-valid h.present _ g.valid (rw g.same (panned-alike s.present.mixer i pan))) }

pub made-gain : {s : Lined} (gain : ℕ) {m : Mixer} → E.Valid s → Made M.Valid (M.with_master_gain s.present.mixer gain) m
    → Made E.Valid (with_master_gain s gain) (with_present s (beside m s.present.marks))
unfolding M.with_master_gain
made-gain gain h g = record { same = rw g.same; valid = kept_line h (changed-valid h.present _ g.valid (rw g.same refl)) }

-- ---- what silences all
pub made-stopped : {s : Lined} (on : Bool) {x m : Mixer} {k : Marks} → E.Valid s → Made M.Valid x m → All (λ v. audible v ≡ false) x.voices → k ≡ no_marks true on
    → Made E.Valid (with_present s (beside x (no_marks true on))) (with_present s (beside m k))
made-stopped on {m = m} h g a e = record { same = rw (e, g.same); valid = kept_line h (rw e (none-valid m true on g.valid (rw g.same a))) }

banked-valid : (p : Present) (b : Told SoundBank) → Valid p → M.Valid (M.banked_by p.mixer b).mixer
    → Valid (beside (M.banked_by p.mixer b).mixer (bank_marks (M.banked_by p.mixer b).outcome p.marks))
banked-valid p (refused n) h g = h
banked-valid p (value b) h g =
    let v = silent_voice b.sample_rate_hz in
    none-valid _ p.marks.master p.marks.sounds_on g (all_replicate (λ (w : Voice). audible w ≡ false) 16 v (silent b.sample_rate_hz))

pub made-banked : {s : Lined} (rate count len : ℕ) {c : Changed} {k : Marks} → E.Valid s → Made M.ValidChanged (M.banked s.present.mixer rate count len) c
    → k ≡ bank_marks c.outcome s.present.marks → Gives (banked s rate count len) c.outcome (with_present s (beside c.mixer k))
unfolding M.banked
made-banked {s} rate count len h g e =
    let v = rw g.same at g.valid in
    made (rw (e, g.same)) (kept_line h (banked-valid s.present (bank_of rate count len) h.present v))

-- ---- a fade, of either call
fade-length : (on : Bool) (o : Outcome) (k : Marks) → length (fade_marks on o k).voices ≡ length k.voices
fade-length on (Ok tt) k = marked-length 1 started_mark k
fade-length on (Err e) k = refl

fade-order : (on : Bool) (p : Present) (o : Outcome) (after : Mixer) → Valid p → HeardBy o p.mixer after
    → Ordered (map audible after.voices) (fade_marks on o p.marks).voices
fade-order on p (Ok tt) after h sub = begun-order h 1 (omega arith) after sub
fade-order on p (Err e) after h sub = fewer-order h.order sub

-- what the part gave keeps the order
pub faded-order : (on : Bool) {p : Present} {x c : Changed} → Valid p → Made M.ValidChanged x c → HeardBy x.outcome p.mixer x.mixer
    → Ordered (map audible c.mixer.voices) (fade_marks on c.outcome p.marks).voices
faded-order on {p} {c = c} h g a = fade-order on p c.outcome c.mixer h (rw g.same a)

pub made-settled : (on : Bool) {s : Lined} {c : Changed} {k : Marks} {p : Present} → E.Valid s → M.ValidChanged c
    → Ordered (map audible c.mixer.voices) (fade_marks on c.outcome s.present.marks).voices → k ≡ fade_marks on c.outcome s.present.marks
    → p ≡ settled (beside c.mixer k) → Gives (faded_by on s c) c.outcome (with_present s p)
made-settled on {s} {c} h v o e f =
    record {
      same = rw (f, e);
      valid = kept_line h (rw (f, e) (settled-valid _ v (fade-length on c.outcome s.present.marks ∙ h.present.full) o));
    }

pub made-faded : (on : Bool) (s : Lined) {x c : Changed} {r : Outcome} {after : Lined} → Made M.ValidChanged x c → Gives (faded_by on s c) r after
    → Gives (faded_by on s x) r after
made-faded on s g h = rw (← g.same) h

-- voice 0 started, in a state that a step of the parts gave
module _ {s : Lined} {x m : Mixer} {k : Marks} (h : E.Valid s) (g : Made M.Valid x m) (a : Others 0 s.present.mixer x) (e : k ≡ marked_at 0 started_mark s.present.marks) where
  pub first-order : Ordered (map audible m.voices) k.voices
  first-order = rw e (begun-order h.present 0 (omega arith) m (rw g.same a))

  pub made-first : {p : Present} → p ≡ settled (beside m k)
      → Made E.Valid (with_present s (settled (beside x (marked_at 0 started_mark s.present.marks)))) (with_present s p)
  made-first f =
      record {
        same = rw (f, e, g.same);
        valid = kept_line h (rw f (settled-valid _ g.valid (rw e (marked-length 0 started_mark s.present.marks ∙ h.present.full)) first-order));
      }
