-- What a reader finds in a file. Assumes nothing.
use mathlib.Core.Path.{◌≡◌, refl, ◌∙◌}
use mathlib.Core.Bool.{Bool, true, false, ◌&&◌, cond}
use mathlib.Core.List.{List, [], ◌∷◌}
use Prim.Native.Nat.{ℕ, zero, suc, ◌+◌, ◌*◌, ◌/◌, ◌^◌, ◌<◌}
use native.Mathlib.Omega.{arith}
use lib.IntN.{ℤ}
use lib.ListN.{length}
use mir.Syntax.{w16}
use mir.Val.{of_z, SFits}
use mir.ValLaws.{to_z-of_z, of_z_fits}
use lib.Dec.{leb}
use borrow.Author.Tests.{leb-true}
use Rattle.laws.proofs.Bools.{never}
use Rattle.laws.specs.Lists.{All}
use Rattle.std.proofs.Common.{Some, None}
use Rattle.wav.specs.Wav.{little, wav_header, wav_fits, header_of, cell_bytes}
use Rattle.wav.specs.File.{number_in, cells_in, wav_file, Reads}
use Rattle.wav.proofs.Bytes.{length-cells}

pub number-back : (k n : ℕ) → n < 256 ^ k → number_in (little k n) ≡ n
unfolding number_in little
number-back zero n h = omega arith
number-back (suc k) n h = omega (arith, number-back k (n / 256) (omega arith))

pub cells-back : (cells : List ℤ) → All (SFits w16) cells → cells_in (cell_bytes cells) ≡ cells
unfolding cells_in cell_bytes little
cells-back [] h = refl
cells-back (z ∷ zs) h = rw (number-back 2 (of_z w16 z) (of_z_fits w16 z h.0).fits, to_z-of_z w16 z h.0, cells-back zs h.1)

both : (a b : Bool) → (a && b) ≡ true → (a ≡ true) × (b ≡ true)
both true true e = (refl, refl)
both true false e = never e
both false b e = never e

-- whole frames, and every number of the header in its field
pub reads : (rate frames : ℕ) (cells : List ℤ) → length cells ≡ 2 * frames → wav_fits rate frames ≡ true → All (SFits w16) cells
    → Reads rate cells (wav_file rate cells)
unfolding wav_header little
reads rate frames cells n f h =
    let half : length cells / 2 ≡ frames = omega arith in
    let b = both (leb (4 * rate) 0xFFFF_FFFF) (leb (36 + 4 * frames) 0xFFFF_FFFF) f in
    let r = leb-true (4 * rate) 0xFFFF_FFFF b.0 in
    let d = leb-true (36 + 4 * frames) 0xFFFF_FFFF b.1 in
    let k = length-cells cells in
    rw half
    (record {
      size = omega (arith, k);
      riff_size = number-back 4 (36 + 4 * frames) (omega arith) ∙ omega (arith, k);
      data_size = number-back 4 (4 * frames) (omega arith) ∙ omega (arith, k);
      rate_field = number-back 4 rate (omega arith);
      cells_field = cells-back cells h;
    })

-- a header is given where its numbers fit, and else none is
module _ (rate frames : ℕ) where
  pub fits-some : (b : List ℕ) → header_of rate frames ≡ Some b → wav_fits rate frames ≡ true
  unfolding header_of
  fits-some b e = by (wav_fits rate frames) e
    where
      by : (t : Bool) → cond t (Some (wav_header rate frames)) None ≡ Some b → t ≡ true
      by true e = refl
      by false e = cc

  pub fits-none : header_of rate frames ≡ None → wav_fits rate frames ≡ false
  unfolding header_of
  fits-none e = by (wav_fits rate frames) e
    where
      by : (t : Bool) → cond t (Some (wav_header rate frames)) None ≡ None → t ≡ false
      by true e = cc
      by false e = refl
