-- Bytes of a line that were stored from the front on: what is taken there. Assumes nothing.
use mathlib.Core.Path.{◌≡◌}
use mathlib.Core.List.{List}
use Prim.Native.Nat.{ℕ, suc, ◌≤◌, min}
use native.Mathlib.Omega.{arith}
use lib.ListN.{length, take, drop}
use lib.Seq.{sets, take_at}
use Rattle.laws.proofs.Stores.{length-cells, sets-front}
use Rattle.hex_digits.specs.Hex.{byte_at, bytes_from}

pub front_bytes : (l cells : List ℕ) (k n : ℕ) → n ≤ 4096 → n ≤ length cells → take n (sets cells 0 (bytes_from l k (min n 4096))) ≡ bytes_from l k n
front_bytes l cells k n h e =
    let m : min n 4096 ≡ n = omega arith in
    let xs = bytes_from l k n in
    let z : length xs ≡ n = length-cells suc (λ (j : ℕ). byte_at l j) n k in
    rw m (rw (sets-front cells xs n z e) (take_at xs (drop n cells) n z))
