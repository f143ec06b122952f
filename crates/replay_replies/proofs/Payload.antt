-- A payload's length and text, and a voice that is read. Assumes nothing.
use Rattle.std.specs.Prelude.{None, Option, Some}
use mathlib.Core.Path.{◌≡◌, refl}
use mathlib.Core.Bool.{Bool, true, false, cond}
use mathlib.Core.List.{List}
use Prim.Native.Nat.{ℕ, ◌≤◌, ◌<◌}
use native.Mathlib.Omega.{arith}
use borrow.Author.Tests.{ltb-true}
use lib.Dec.{ltb}
use lib.ListN.{length, get_or, length-take}
use Rattle.laws.proofs.Lists.{all-get}
use Rattle.voice.specs.Voices as S
use Rattle.voice.specs.declared.Voice.{Voice}
use Rattle.mixer.specs.Mixers.{Valid, voice_read}
use Rattle.mixer.specs.declared.Mixer.{Mixer}
use Rattle.bank.specs.Banks.{payload_under, payload_given, part_of, payload_part}
use Rattle.error.specs.Told.{Told, value, refused, number_in}
use Rattle.hex_digits.specs.Hex.{wide_at, long_at, Wrote}
use Rattle.replay_cells.specs.Cells.{byte_text, numbered_text}
use Rattle.replay_replies.specs.Texts.{payload_text}
use Rattle.bank.specs.declared.SoundBank.{SoundBank}

-- no longer than was asked for
pub part-short : (bank : Option SoundBank) (bytes : List ℕ) (offset len : ℕ) → length (payload_part bank bytes offset len) ≤ len
part-short bank bytes offset len = by (payload_given bank bytes offset len)
  where
    by : (t : Told (Unit {0})) → length (part_of t bytes offset len) ≤ len
    by (value _) = simp length-take (omega arith)
    by (refused n) = omega arith

pub payload-laid : (parted : Bool) (bank : Option SoundBank) (l bytes : List ℕ) {part before after : List ℕ} {offset len number next : ℕ} {told : Told (Unit {0})} → offset ≡ long_at l 1 → len ≡ wide_at l 5 → told ≡ payload_under parted bank bytes offset len → number ≡ number_in told → part ≡ payload_part bank bytes offset len → Wrote before 0 (numbered_text 2 number byte_text part) after next → Wrote before 0 (payload_text parted bank l bytes) after next
unfolding payload_text
payload-laid parted bank l bytes o k r n p w = rw (← o, ← k) (rw (n, r, p) at w)

-- a voice that is read is one of the box's
pub read-valid : (m : Mixer) (i : ℕ) {v : Voice} → Valid m → voice_read m i ≡ Some v → S.Valid v
unfolding voice_read
read-valid m i {v} h e = by (ltb i m.n) refl e
  where
    by : (t : Bool) → ltb i m.n ≡ t → cond t (Some (get_or m.voices i (S.silent_voice 0))) None ≡ Some v → S.Valid v
    by true k e =
        let same : get_or m.voices i (S.silent_voice 0) ≡ v = cc in
        let less : i < length m.voices = omega (arith, ltb-true i m.n k, h.few, h.full) in
        rw same at (all-get S.Valid m.voices i (S.silent_voice 0) h.each less)
    by false k e = let z : ◌≡◌ {A = ℕ} 0 1 = cc in absurd (omega arith)
