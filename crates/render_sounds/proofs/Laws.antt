-- How long a line sounds: at most 2,048 frames, of two cells each. Assumes nothing.
use mathlib.Core.Path.{◌≡◌, refl}
use mathlib.Core.Bool.{Bool, true, false, cond, ◌&&◌}
use mathlib.Core.List.{List}
use Prim.Native.Nat.{ℕ, ◌*◌, ◌/◌, ◌≤◌}
use native.Mathlib.Omega.{arith}
use borrow.Author.Tests.{leb-true}
use lib.Dec.{leb, eqb}
use lib.ListN.{length}
use Rattle.std.specs.Prelude.{None, Option, Some, is_some}
use Rattle.laws.proofs.Bools.{never}
use Rattle.buffers.specs.Buffers.{to_i16}
use Rattle.buffers.specs.declared.Shape.TheVariants.{Doubled, Sides}
use Rattle.hex_digits.specs.Hex.{byte_at, wide_at}
use Rattle.replay_box.specs.Frames.{frames}
use Rattle.replay_box.specs.declared.OpenBox.{OpenBox}
use Rattle.replay_fills.specs.Fills.{buffer_of}
use Rattle.replay_session.specs.Runs.{Run, lent_in}
use Rattle.replay_session.specs.Sessions.{fill_allowed, is_line}
use Rattle.render_sounds.specs.Sounds.{is_stereo, filled_frames, is_one_frame, frames_for, frames_of, cells_of, sound_by, sound_of}
use Rattle.render_sounds.proofs.Pairs.{pairs-length}

cells-length : (stereo : Bool) (n : ℕ) (bytes : List ℕ) (b : OpenBox) → length (cells_of (cond stereo Sides Doubled) n bytes b) ≡ 2 * n
cells-length true n bytes b = let f = frames bytes in pairs-length f.stereo (λ b. to_i16 (f.left b)) (λ b. to_i16 (f.right b)) n b
cells-length false n bytes b = let f = frames bytes in pairs-length f.mono (λ b. to_i16 (f.pcm b)) (λ b. to_i16 (f.pcm b)) n b

-- two cells a frame
pub sound-length : (bytes l : List ℕ) (b : OpenBox) → length (sound_by bytes l (Some b)) ≡ 2 * frames_of l
sound-length bytes l b = cells-length (is_stereo (byte_at l 0)) (frames_of l) bytes b

-- the frames that a line makes of a run: none before a box is open
abbrev pub run_frames : Option OpenBox → List ℕ → ℕ
run_frames None l = 0
run_frames (Some b) l = frames_of l

by-box : (bytes l : List ℕ) (held : Option OpenBox) → length (sound_by bytes l held) ≡ 2 * run_frames held l
by-box bytes l None = refl
by-box bytes l (Some b) = sound-length bytes l b

pub sound_whole : (s : Run) (l : List ℕ) → length (sound_of s l) ≡ 2 * run_frames s.held l
unfolding sound_of
sound_whole s l = by-box (lent_in s) l s.held

both_right : (a b : Bool) → (a && b) ≡ true → b ≡ true
both_right true b e = e
both_right false b e = never e

few-cells : (l : List ℕ) → fill_allowed l ≡ true → wide_at l 1 ≤ 2048
few-cells l e = leb-true (wide_at l 1) 2048 (both_right (eqb (length l) 6) (leb (wide_at l 1) 2048) e)

either : (t : Bool) (a b : ℕ) → (t ≡ true → a ≤ 2048) → b ≤ 2048 → cond t a b ≤ 2048
either true a b h k = h refl
either false a b h k = k

few-filled : (code : ℕ) (l : List ℕ) → filled_frames code l ≤ 2048
unfolding filled_frames
few-filled code l =
    let n = wide_at l 1 in
    either (fill_allowed l) (cond (leb code 0x26) n (n / 2)) 0
    (λ e. let f = few-cells l e in either (leb code 0x26) n (n / 2) (λ _. f) (omega arith))
    (omega arith)

few-for : (code : ℕ) (l : List ℕ) → frames_for code l ≤ 2048
unfolding frames_for
few-for code l =
    either (is_some (buffer_of code)) (filled_frames code l) (cond (is_one_frame code l) 1 0) (λ _. few-filled code l)
    (either (is_one_frame code l) 1 0 (λ _. omega arith) (omega arith))

pub few-frames : (l : List ℕ) → frames_of l ≤ 2048
unfolding frames_of
few-frames l = either (is_line l) (frames_for (byte_at l 0) l) 0 (λ _. few-for (byte_at l 0) l) (omega arith)

-- so a line sounds at most 4,096 cells, whatever the run
few-run : (held : Option OpenBox) (l : List ℕ) → run_frames held l ≤ 2048
few-run None l = omega arith
few-run (Some b) l = few-frames l

pub few_cells : (s : Run) (l : List ℕ) → length (sound_of s l) ≤ 4096
few_cells s l =
    let n = sound_whole s l in
    let few = few-run s.held l in
    omega (arith, n, few)
