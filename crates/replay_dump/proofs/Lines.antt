-- The voices' lines, as a loop goes through them. Assumes nothing.
use mathlib.Core.Path.{◌≡◌}
use mathlib.Core.List.{List, ◌++◌}
use Prim.Native.Nat.{ℕ, ◌+◌, ◌≤◌, ◌<◌}
use native.Mathlib.Numerals.{add-one}
use lib.ListN.{length, get_or, drop, drop_of_length-le}
use lib.Seq.{drop-cons}
use Rattle.hex_digits.specs.Hex.{Laid}
use Rattle.hex_digits.proofs.Texts.{Left, left-turn, left_end}
use Rattle.voice.specs.declared.Voice.{Voice}
use Rattle.replay_dump.specs.Dumps.{voice_line, voice_lines}

lines-one : (i : ℕ) (vs : List Voice) (d : Voice) → i < length vs → voice_lines (drop i vs) ≡ voice_line (get_or vs i d) ++ voice_lines (drop (i + 1) vs)
unfolding voice_lines
lines-one i vs d h = rw (drop-cons vs i d h, add-one i)

pub lines-turn : {before text after new : List ℕ} {at next place : ℕ} (i : ℕ) (vs : List Voice) (d : Voice) → i < length vs → Left before at text after next (voice_lines (drop i vs)) → Laid after next (voice_line (get_or vs i d)) new place → Left before at text new place (voice_lines (drop (i + 1) vs))
lines-turn i vs d h g w = left-turn (rw (lines-one i vs d h) at g) w

pub lines_end : {before text after : List ℕ} {at next : ℕ} (i : ℕ) (vs : List Voice) → length vs ≤ i → Left before at text after next (voice_lines (drop i vs)) → Laid before at text after next
unfolding voice_lines
lines_end i vs h g = left_end (rw (drop_of_length-le vs h) at g)
