-- A loop that writes a wave at phases a step apart. Assumes nothing.
use Rattle.std.proofs.Common.{◌≡◌, ℕ, ◌+◌, ◌<◌, ◌≤◌, List, [], ◌∷◌, ◌++◌, length, take, set, ℤ, arith, w8, SFits, to_z, of_z}
use borrow.Rule.Slice.PartMut.{post_of}
use mir.ValLaws.{to_z-of_z}
use lib.Seq.{length-take-le}
use Rattle.laws.specs.Runs.{given}
use Rattle.laws.proofs.Parts.{front-filled}
use Rattle.laws.proofs.Stores.{Wrote, wrote_none, front-one}
use Rattle.tone.specs.Blocks.{Waved}

abbrev pub waves : {P : Type 0} → (P → P) → (P → ℤ) → ℕ → P → List ℤ
waves move wave n p = given move (λ p. wave p ∷ []) n p

-- before turn k of n, at the phase p
pub record Left {P : Type 0} (move : P → P) (wave : P → ℤ) (n : ℕ) (first : P) (before : List ℤ) (k : ℕ) (p : P) (cells : List ℤ) : Type 0 where
  pub most : k ≤ n
  pub wrote : Wrote move wave first before 0 k p cells

module _ {P : Type 0} {move : P → P} {wave : P → ℤ} where
  pub left-start : (n : ℕ) (p : P) (cells : List ℤ) → Left move wave n p cells 0 p cells
  left-start n p cells = record { most = omega arith; wrote = wrote_none move wave }

  -- a turn that stores s and goes on from the phase next
  pub left-turn : {n : ℕ} {first : P} {before : List ℤ} {k : ℕ} {p next : P} {cells : List ℤ} {s : ℤ}
      → Left move wave n first before k p cells → k < n → next ≡ move p → s ≡ wave p → SFits w8 s
      → Left move wave n first before (k + 1) next (set cells k (to_z w8 (of_z w8 s)))
  left-turn {s = s} l h m w f = record { most = omega arith; wrote = rw (to_z-of_z w8 s f, m, w) (front-one move wave l.wrote) }

  pub left_end : {n : ℕ} {first : P} {before : List ℤ} {k : ℕ} {p : P} {cells : List ℤ} → Left move wave n first before k p cells → n ≤ k → Waved move wave n first before p cells
  left_end {n = n} {k = k} l h = let e : k ≡ n = omega (arith, l.most) in record { moved = rw e at l.wrote.state; taken = rw e at l.wrote.stored }

  -- the first n cells of a block, lent and filled
  pub waved_front : (n : ℕ) {first : P} (before : List ℤ) {p : P} {cells : List ℤ} → n ≤ length before
      → Waved move wave (length (take n before)) first (take n before) p cells → Waved move wave n first before p (cells ++ post_of 0 n before)
  waved_front n before h w =
      let v = front-filled before n h (length-take-le n before h) (record { state = w.moved; stored = w.taken }) in
      record { moved = v.state; taken = v.stored }
