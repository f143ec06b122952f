-- The bytes of a line, as a loop copies them. Assumes nothing.
use Prim.Native.Nat.{ℕ, zero, suc, ◌+◌}
use mathlib.Core.Path.{◌≡◌, ap, ◌∙◌}
use mathlib.Core.List.{List, [], ◌∷◌, ◌++◌}
use native.Mathlib.Nat.{zero-add}
use native.Mathlib.Omega.{arith}
use Rattle.hex_digits.specs.Hex.{byte_at}
use Rattle.replay_session.specs.Sessions.{bytes_at}

pub bytes-last : (l : List ℕ) (k n : ℕ) → bytes_at l k (suc n) ≡ bytes_at l k n ++ byte_at l (n + k) ∷ []
unfolding bytes_at
bytes-last l k zero = rw (zero-add k)
bytes-last l k (suc n) =
    let e : n + (k + 1) ≡ suc n + k = omega arith in
    ap (λ (bs : List ℕ). byte_at l k ∷ bs) (bytes-last l (k + 1) n) ∙ rw e
