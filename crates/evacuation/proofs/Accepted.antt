-- What the reader accepts: whole cycles of phases within their tenths, and nothing else; so every run of whole cycles that the pattern emits.
-- Assumes nothing.
use Prim.Native.Nat.{ℕ, zero, suc, ◌+◌, ◌*◌, ◌%◌, ◌≤◌, ◌<◌}
use native.Mathlib.Nat.{add-zero, zero-add, add-suc, suc-add, add_comm, suc-mul, zero-mul, mod-lt, mul-pos, add-mod_left}
use native.Mathlib.Omega.{arith}
use mathlib.Core.Path.{◌≡◌, refl, sym, ap, ◌∙◌}
use mathlib.Core.Bool.{Bool, true, false, cond, ◌&&◌}
use mathlib.Core.List.{List, [], ◌∷◌, ◌++◌, map, append_assoc}
use borrow.Author.Tests.{eq-eqb, eqb-true, lt-ltb, ltb-true}
use lib.Dec.{eqb, ltb}
use lib.ListN.{length, get_or, replicate, length-append}
use Rattle.laws.specs.Runs.{given}
use Rattle.laws.proofs.Bools.{never}
use Rattle.evacuation.specs.Pattern.{is_on, byte_of, lengths, cycle_of, samples_from, within_tenth, spelt}
use Rattle.evacuation.specs.Reader.{Run, before, runs_of, ms_of, is_phase, in_order, whole_cycles, AllWithin, Cycles}
use Rattle.evacuation.specs.Opened.{ValidRate}
use Rattle.evacuation.proofs.Tenths.{within_low}
use Rattle.evacuation.proofs.Cycles.{at_least, phase-within, size, run-parts, cycle-run}
use Rattle.evacuation.proofs.Runs.{one, phase_byte, befores, befores-none, befores-other, runs-replicate, turned, byte-later, ms-later}

-- both of two tests
both : (a b : Bool) → (a && b) ≡ true → (a ≡ true) × (b ≡ true)
both true b e = (refl, e)
both false b e = never e

-- ---- only whole cycles
counts : List Run → List ℕ
counts rs = map (λ (r : Run). r.count) rs

-- the list that has these runs
bytes_of : List Run → List ℕ
bytes_of [] = []
bytes_of (r ∷ rs) = replicate r.count r.byte ++ bytes_of rs

bytes-before : (b : ℕ) (rs : List Run) → bytes_of (before b rs) ≡ b ∷ bytes_of rs
unfolding before bytes_of
bytes-before b [] = refl
bytes-before b (r ∷ rs) = by-test (eqb b r.byte) refl
  where
    by-test : (t : Bool) → eqb b r.byte ≡ t → bytes_of (cond t (one b (suc r.count) ∷ rs) (one b 1 ∷ r ∷ rs)) ≡ b ∷ (replicate r.count r.byte ++ bytes_of rs)
    by-test true e = rw (eqb-true b r.byte e)
    by-test false e = refl

bytes_runs : (l : List ℕ) → bytes_of (runs_of l) ≡ l
unfolding runs_of bytes_of
bytes_runs [] = refl
bytes_runs (b ∷ l) = bytes-before b (runs_of l) ∙ ap (λ (r : List ℕ). b ∷ r) (bytes_runs l)

-- the bytes of phases are 1 and 0
byte_low : (t : Bool) → byte_of t ≤ 1
byte_low true = omega arith
byte_low false = omega arith

held_low : (b n : ℕ) (l : List ℕ) → b ≤ 1 → ((i : ℕ) → get_or l i 0 ≤ 1) → (i : ℕ) → get_or (replicate n b ++ l) i 0 ≤ 1
held_low b zero l h rest i = rest i
held_low b (suc n) l h rest zero = h
held_low b (suc n) l h rest (suc i) = held_low b n l h rest i

spelt-low : (k : ℕ) (ns : List ℕ) (i : ℕ) → get_or (spelt k ns) i 0 ≤ 1
unfolding spelt
spelt-low k [] i = omega arith
spelt-low k (n ∷ ns) i = held_low (phase_byte k) n (spelt (suc k) ns) (byte_low (is_on k)) (spelt-low (suc k) ns) i

module _ (rate : ℕ) where
  -- the first of runs in order, and the others
  in-first : (k : ℕ) (r : Run) (rs : List Run) → in_order rate k (r ∷ rs) ≡ true →
      (eqb r.byte (phase_byte k) ≡ true) × (within_tenth (ms_of k) rate r.count ≡ true) × (in_order rate (suc k) rs ≡ true)
  unfolding in_order
  in-first k r rs e =
      let t = both (is_phase rate k r) (in_order rate (suc k) rs) e in
      let p = both (eqb r.byte (phase_byte k)) (within_tenth (ms_of k) rate r.count) t.0 in
      (p.0, p.1, t.1)

  spelt-order : (k : ℕ) (rs : List Run) → in_order rate k rs ≡ true → bytes_of rs ≡ spelt k (counts rs)
  unfolding in_order bytes_of spelt counts
  spelt-order k [] e = refl
  spelt-order k (r ∷ rs) e =
      let t = in-first k r rs e in
      let b : r.byte ≡ phase_byte k = eqb-true r.byte (phase_byte k) t.0 in
      rw (b, spelt-order (suc k) rs t.2)

  within-order : (k : ℕ) (rs : List Run) → in_order rate k rs ≡ true → AllWithin rate k (counts rs)
  unfolding in_order counts
  within-order k [] e = tt
  within-order k (r ∷ rs) e =
      let t = in-first k r rs e in
      (t.1, within-order (suc k) rs t.2)

  whole-order : (k : ℕ) (rs : List Run) → in_order rate k rs ≡ true → (k + length (counts rs)) % 6 ≡ 0
  unfolding in_order counts
  whole-order k [] e = rw add-zero (eqb-true (k % 6) 0 e)
  whole-order k (r ∷ rs) e = rw (add-suc, ← suc-add) (whole-order (suc k) rs (in-first k r rs e).2)

  -- a recording that is accepted is whole cycles: phase by phase the right byte, and a length within its tenth
  pub accepted : (l : List ℕ) → whole_cycles rate l ≡ true → (ns : List ℕ) × Cycles rate l ns
  unfolding whole_cycles spelt
  accepted l e =
      let t = both (ltb 0 (length l)) (in_order rate 0 (runs_of l)) e in
      let o : in_order rate 0 (runs_of l) ≡ true = t.1 in
      let b : l ≡ spelt 0 (counts (runs_of l)) = sym (bytes_runs l) ∙ spelt-order 0 (runs_of l) o in
      let s : 0 < length l = ltb-true 0 (length l) t.0 in
      (counts (runs_of l), record { bytes = b; tenths = within-order 0 (runs_of l) o; some = some (counts (runs_of l)) (rw b at s); whole = rw zero-add at (whole-order 0 (runs_of l) o) })
    where
      some : (ns : List ℕ) → 0 < length (spelt 0 ns) → 0 < length ns
      some [] h = h
      some (n ∷ ns) h = omega arith

  -- an empty one is not, and none with a byte above 1
  pub empty-no : whole_cycles rate [] ≡ false
  unfolding whole_cycles
  empty-no = refl

  pub above-no : (l : List ℕ) (i : ℕ) → 1 < get_or l i 0 → whole_cycles rate l ≡ false
  above-no l i h = by-test (whole_cycles rate l) refl
    where
      by-test : (t : Bool) → whole_cycles rate l ≡ t → t ≡ false
      by-test true e =
          let c = accepted l e in
          let b : 1 < get_or (spelt 0 c.0) i 0 = rw (← c.1.bytes) h in
          absurd (omega (arith, spelt-low 0 c.0 i))
      by-test false e = refl

-- ---- every one of whole cycles
-- phases of these lengths as runs
run_list : ℕ → List ℕ → List Run
run_list k [] = []
run_list k (n ∷ ns) = one (phase_byte k) n ∷ run_list (suc k) ns

module _ {rate : ℕ} (r : 0 < rate) where
  -- no phase is empty
  never-none : (k : ℕ) → within_tenth (ms_of k) rate 0 ≡ false
  never-none k =
      let l = at_least (k % 6) (mod-lt k (omega arith)) in
      let m : 0 < ms_of k * rate = mul-pos (omega arith) r in
      within_low (ms_of k) rate 0 (omega arith)

  runs-spelt : (k : ℕ) (ns : List ℕ) → AllWithin rate k ns → runs_of (spelt k ns) ≡ run_list k ns
  unfolding spelt run_list runs_of
  runs-spelt k [] a = refl
  runs-spelt k (zero ∷ ns) a = never (sym (never-none k) ∙ a.0)
  runs-spelt k (suc n ∷ ns) a =
      runs-replicate (phase_byte k) (suc n) (spelt (suc k) ns)
      ∙ ap (befores (phase_byte k) (suc n)) (runs-spelt (suc k) ns a.1)
      ∙ behind ns
    where
      behind : (ns : List ℕ) → befores (phase_byte k) (suc n) (run_list (suc k) ns) ≡ one (phase_byte k) (suc n) ∷ run_list (suc k) ns
      behind [] = befores-none (phase_byte k) n
      behind (m ∷ ns) = befores-other (phase_byte k) (phase_byte (suc k)) n m (run_list (suc (suc k)) ns) (turned k)

  order-list : (k : ℕ) (ns : List ℕ) → AllWithin rate k ns → (k + length ns) % 6 ≡ 0 → in_order rate k (run_list k ns) ≡ true
  unfolding in_order run_list
  order-list k [] a e = eq-eqb (k % 6) 0 (rw add-zero at e)
  order-list k (n ∷ ns) a e =
      rw (eq-eqb (phase_byte k) (phase_byte k) refl, a.0) (order-list (suc k) ns a.1 (rw (add-suc, ← suc-add) at e))

  some_bytes : (ns : List ℕ) → AllWithin rate 0 ns → 0 < length ns → 0 < length (spelt 0 ns)
  unfolding spelt
  some_bytes [] a h = h
  some_bytes (zero ∷ ns) a h = never (sym (never-none 0) ∙ a.0)
  some_bytes (suc n ∷ ns) a h = omega arith

  pub accepts : (l ns : List ℕ) → Cycles rate l ns → whole_cycles rate l ≡ true
  unfolding whole_cycles
  accepts l ns c =
      rw (c.bytes, lt-ltb 0 (length (spelt 0 ns)) (some_bytes ns c.tenths c.some), runs-spelt 0 ns c.tenths)
      (order-list 0 ns c.tenths (rw zero-add c.whole))

-- ---- the pattern's own
-- so many cycles of lengths
repeated : ℕ → List ℕ → List ℕ
repeated zero ns = []
repeated (suc m) ns = ns ++ repeated m ns

spelt-parts : (k : ℕ) (a b : List ℕ) → spelt k (a ++ b) ≡ spelt k a ++ spelt (k + length a) b
unfolding spelt
spelt-parts k [] b = rw add-zero
spelt-parts k (n ∷ a) b = rw (spelt-parts (suc k) a b, add-suc, suc-add, append_assoc)

spelt-later : (k : ℕ) (ns : List ℕ) → spelt (6 + k) ns ≡ spelt k ns
unfolding spelt
spelt-later k [] = refl
spelt-later k (n ∷ ns) = rw (byte-later k, ← add-suc, spelt-later (suc k) ns)

module _ (rate : ℕ) where
  within-parts : (k : ℕ) (a b : List ℕ) → AllWithin rate k a → AllWithin rate (k + length a) b → AllWithin rate k (a ++ b)
  within-parts k [] b p q = rw add-zero at q
  within-parts k (n ∷ a) b p q = (p.0, within-parts (suc k) a b p.1 (rw (add-suc, ← suc-add) at q))

  within-later : (k : ℕ) (ns : List ℕ) → AllWithin rate k ns → AllWithin rate (6 + k) ns
  within-later k [] a = tt
  within-later k (n ∷ ns) a = (rw ms-later a.0, rw (← add-suc) (within-later (suc k) ns a.1))

  run_none : (first : ℕ) → samples_from rate first 0 ≡ []
  unfolding given
  run_none first = refl

  -- m cycles from the start of a cycle on
  cycles-run : (m q : ℕ) → samples_from rate (q * cycle_of rate) (m * cycle_of rate) ≡ spelt 0 (repeated m (lengths rate))
  unfolding repeated spelt
  cycles-run zero q = rw zero-mul (run_none (q * cycle_of rate))
  cycles-run (suc m) q =
      rw (suc-mul m (cycle_of rate), add_comm (m * cycle_of rate) (cycle_of rate), run-parts rate (q * cycle_of rate) (cycle_of rate) (m * cycle_of rate), cycle-run rate q, ← suc-mul q (cycle_of rate), cycles-run m (suc q))
      (sym (spelt-parts 0 (lengths rate) (repeated m (lengths rate)) ∙ rw (size, zero-add) (ap (λ (r : List ℕ). spelt 0 (lengths rate) ++ r) (spelt-later 0 (repeated m (lengths rate))))))

module _ {rate : ℕ} (v : ValidRate rate) where
  within-own : AllWithin rate 0 (lengths rate)
  unfolding lengths
  within-own =
      (phase-within v 0 (omega arith), (phase-within v 1 (omega arith), (phase-within v 2 (omega arith), (phase-within v 3 (omega arith), (phase-within v 4 (omega arith), (phase-within v 5 (omega arith), tt))))))

  within-repeated : (m : ℕ) → AllWithin rate 0 (repeated m (lengths rate))
  unfolding repeated
  within-repeated zero = tt
  within-repeated (suc m) = within-parts rate 0 (lengths rate) (repeated m (lengths rate)) within-own (rw (size, zero-add) (within-later rate 0 (repeated m (lengths rate)) (within-repeated m)))

  whole-repeated : (m : ℕ) → length (repeated m (lengths rate)) % 6 ≡ 0
  unfolding repeated
  whole-repeated zero = refl
  whole-repeated (suc m) = rw (length-append, size, add-mod_left) (whole-repeated m)

  some-repeated : (m : ℕ) → 0 < length (repeated (suc m) (lengths rate))
  unfolding repeated
  some-repeated m = rw (length-append, size) (omega arith)

  rate-some : 0 < rate
  rate-some = let l = v.least in omega arith

  -- one or more whole cycles that the pattern emits are accepted
  pub accepts-own : (m q : ℕ) → whole_cycles rate (samples_from rate (q * cycle_of rate) (suc m * cycle_of rate)) ≡ true
  accepts-own m q =
      accepts rate-some (samples_from rate (q * cycle_of rate) (suc m * cycle_of rate)) (repeated (suc m) (lengths rate))
      (record {
        bytes = cycles-run rate (suc m) q;
        tenths = within-repeated (suc m);
        some = some-repeated m;
        whole = whole-repeated (suc m);
      })
