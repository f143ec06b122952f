-- `hex_digits::bytes_from` meets its contract: what is stored so far is the first i bytes.
use mathlib.Core.Path.{◌≡◌}
use mathlib.Core.List.{List, [], ◌++◌}
use Prim.Native.Nat.{ℕ, suc, ◌+◌, ◌≤◌}
use native.Mathlib.Nat.{add-zero}
use native.Mathlib.Omega.{arith}
use lib.ListN.{length, take, drop, length-take, drop_of_length-le}
use lib.Seq.{sets}
use Rattle.std.proofs.Common.{append-nil}
use Rattle.laws.proofs.Stores.{length-cells, wrote_none, front-one, sets-front}
use Rattle.hex_digits.specs.Hex.{byte_at, bytes_from}
use Rattle.hex_digits.proofs.bytes_from.Goals as goal

-- a front part that is filled is filled in the whole
filled : (cells part xs : List ℕ) (m : ℕ) → length xs ≡ m → m ≤ length cells → part ≡ sets (take m cells) 0 xs → part ++ drop m cells ≡ sets cells 0 xs
filled cells part xs m n h e =
    let k : length (take m cells) ≡ m = omega (arith, length-take m cells) in
    let none : drop m (take m cells) ≡ [] = drop_of_length-le (take m cells) (omega arith) in
    rw (e, sets-front (take m cells) xs m n (omega arith), none, sets-front cells xs m n h, append-nil)

pub loop-i-init : goal.loop-i-init
loop-i-init c = rw (add-zero c.args.k) (wrote_none _ _)

pub loop-i-preserved : goal.loop-i-preserved
loop-i-preserved c =
    let e : c.args.k + (c.loop-i.i + 1) ≡ suc (c.args.k + c.loop-i.i) = omega arith in
    rw (c.byte_at.ensures, c.from.ensures, e) (front-one _ _ c.loop-i.invariant)

pub returns : goal.returns
returns c =
    let a = c.args in
    let m = c.min.result in
    let k : length (take m a.cells.now) ≡ m = omega (arith, length-take m a.cells.now, c.min.ensures) in
    let e : c.loop-i.i ≡ m = omega arith in
    rw (← c.min.ensures) (filled a.cells.now c.loop-i.cell-items (bytes_from a.l.now a.k m) m (length-cells suc (λ (j : ℕ). byte_at a.l.now j) m a.k) (omega (arith, c.min.ensures)) (rw e at c.loop-i.invariant.stored))
