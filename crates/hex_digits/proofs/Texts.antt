-- Runs of digits laid over a buffer. Assumes nothing.
use mathlib.Core.Path.{◌≡◌, refl, sym, ◌∙◌}
use mathlib.Core.List.{List, [], ◌∷◌, ◌++◌}
use Prim.Native.Nat.{ℕ, zero, suc, ◌+◌, ◌-◌, ◌*◌, ◌/◌, ◌%◌, ◌≤◌, ◌<◌, min}
use native.Mathlib.Nat.{lt_irrefl, add_assoc, add-zero}
use native.Mathlib.Omega.{arith}
use lib.ListN.{length, take, get_or, get_or-eq_default, set, drop, length-append, length-take}
use lib.Seq.{sets, sets-eq, take_all, take-nil, take-append-le}
use Rattle.laws.proofs.Lists.{sets-append, sets_last}
use Rattle.hex_digits.specs.Hex.{between, digit_of, byte_at, wide_at, long_at, three_at, digit_char, hex_of, four_of, newline, fitting, Laid, Wrote}

-- past a line's end every digit is 0, so every field is
no_digit : (l : List ℕ) (i : ℕ) → length l ≤ i → digit_of (get_or l i 0) ≡ 0
unfolding digit_of between
no_digit l i h = rw (get_or-eq_default l 0 h)

pub no_byte : (l : List ℕ) (k : ℕ) → length l / 2 < k → byte_at l k ≡ 0
no_byte l k h = omega (arith, no_digit l (2 * k) (omega arith), no_digit l (2 * k + 1) (omega arith))

pub no_wide : (l : List ℕ) (k : ℕ) → length l / 2 < k → wide_at l k ≡ 0
no_wide l k h = omega (arith, no_byte l k h, no_byte l (k + 1) (omega arith))

pub no_long : (l : List ℕ) (k : ℕ) → length l / 2 < k → long_at l k ≡ 0
no_long l k h = omega (arith, no_wide l k h, no_wide l (k + 2) (omega arith))

pub no_three : (l : List ℕ) (k : ℕ) → length l / 2 < k → three_at l k ≡ 0
no_three l k h = omega (arith, no_wide l k h, no_byte l (k + 2) (omega arith))

pub length-hex_of : (d n : ℕ) → length (hex_of d n) ≡ d
unfolding hex_of
length-hex_of zero n = refl
length-hex_of (suc d) n = rw (length-append, length-hex_of d (n / 16)) (omega arith)

pub length-four_of : (a b c d : ℕ) → length (four_of a b c d) ≡ 64
length-four_of a b c d = simp (length-append, length-hex_of)

-- the last digit by itself
pub hex_of-last : (d n : ℕ) → 0 < d → hex_of d n ≡ hex_of (d - 1) (n / 16) ++ (digit_char (n % 16) ∷ [])
unfolding hex_of
hex_of-last zero n h = absurd (lt_irrefl 0 h)
hex_of-last (suc d) n h = let e : suc d - 1 ≡ d = omega arith in rw e

-- the digits of an equal value
pub shown : (d : ℕ) {u v at n : ℕ} {a b : List ℕ} → u ≡ v → Laid a at (hex_of d u) b n → Laid a at (hex_of d v) b n
shown d e w = rw e at w

pub shown-four : {a a' b b' c c' d d' at n : ℕ} {x y : List ℕ} → a ≡ a' → b ≡ b' → c ≡ c' → d ≡ d' → Laid x at (four_of a b c d) y n → Laid x at (four_of a' b' c' d') y n
shown-four p q r s w = rw (p, q, r, s) at w

-- what fits of a text: how much, all of it where there is room, nothing past the end, and a text after another
pub length-fitting : (at : ℕ) (text : List ℕ) → length (fitting at text) ≡ min (262144 - at) (length text)
unfolding fitting
length-fitting at text = length-take (262144 - at) text

pub fitting-all : (at : ℕ) (text : List ℕ) → length text ≤ 262144 - at → fitting at text ≡ text
unfolding fitting
fitting-all at text h = take_all (262144 - at) text h

pub fitting-none : (at : ℕ) (text : List ℕ) → 262144 ≤ at → fitting at text ≡ []
unfolding fitting
fitting-none at text h = let z : 262144 - at ≡ 0 = omega arith in rw z

pub fitting-nil : (at : ℕ) → fitting at [] ≡ []
unfolding fitting
fitting-nil at = take-nil (262144 - at)

pub fitting-more : (at : ℕ) (x y : List ℕ) → 262144 - at ≤ length x → fitting at (x ++ y) ≡ fitting at x
unfolding fitting
fitting-more at x y h = take-append-le (262144 - at) x y h

take-append : {A : Type 0} (n : ℕ) (x y : List A) → take n (x ++ y) ≡ take n x ++ take (n - length x) y
take-append zero x y = let z : 0 - length x ≡ 0 = omega arith in rw z
take-append (suc n) [] y = let e : suc n - 0 ≡ suc n = omega arith in rw e
take-append (suc n) (a ∷ x) y = let e : suc n - suc (length x) ≡ n - length x = omega arith in rw (e, take-append n x y)

pub fitting-append : (at : ℕ) (x y : List ℕ) → fitting at (x ++ y) ≡ fitting at x ++ fitting (at + length (fitting at x)) y
unfolding fitting
fitting-append at x y =
    let e : 262144 - (at + length (take (262144 - at) x)) ≡ 262144 - at - length x = omega (arith, length-take (262144 - at) x) in
    rw e (take-append (262144 - at) x y)

-- the place after a text of so many digits is no further
pub placed : {before text after : List ℕ} {at next : ℕ} (digits : ℕ) → length text ≡ digits → Laid before at text after next → next ≤ at + digits
placed {text = text} {at = at} digits e w = let k = length-fitting at text in omega (arith, w.place)

-- where there is room for all of it, all of it was laid
pub all : {before text after : List ℕ} {at next : ℕ} → Laid before at text after next → at + length text ≤ 262144 → Wrote before at text after next
all {before} {text} {after} {at} {next} w h =
    let e = fitting-all at text (omega arith) in
    record { laid = rw e at w.laid; place = rw e at w.place; room = omega (arith, rw e at w.place) }

-- so it is where the place after it is before the buffer's end
pub whole : {before text after : List ℕ} {at next : ℕ} → Laid before at text after next → next < 262144 → Wrote before at text after next
whole {before} {text} {after} {at} {next} w h =
    all w (let k = length-fitting at text in omega (arith, w.place))

pub part : {before text after : List ℕ} {at next : ℕ} → Wrote before at text after next → Laid before at text after next
part {before} {text} {after} {at} {next} w =
    let e = fitting-all at text (omega (arith, w.place, w.room)) in
    record { laid = rw e w.laid; place = rw e w.place }

-- two texts laid one after the other are one
pub then : {a b c : List ℕ} {at m n : ℕ} {x y : List ℕ} → Laid a at x b m → Laid b m y c n → Laid a at (x ++ y) c n
then {a} {b} {c} {at} {m} {n} {x} {y} p q =
    record {
      laid = rw (q.laid, p.place, p.laid, sets-append a at (fitting at x) (fitting (at + length (fitting at x)) y), ← fitting-append at x y);
      place = rw (fitting-append at x y, length-append, q.place, p.place, add_assoc);
    }

-- the line's end fits where the place before it is before the buffer's end
pub whole-line : {a b c : List ℕ} {at m n : ℕ} {x : List ℕ} → Laid a at x b m → m < 262144 → Laid b m newline c n → Wrote a at (x ++ newline) c n
whole-line {at = at} {x = x} p h q = let w = whole p h in all (then p q) (omega (arith, w.place, length-append x newline))

-- what is left to lay, from where a loop stands, is what there was to lay
pub record Left (before : List ℕ) (at : ℕ) (text after : List ℕ) (next : ℕ) (rest : List ℕ) : Type 0 where
  pub laid : sets after next (fitting next rest) ≡ sets before at (fitting at text)
  pub place : next + length (fitting next rest) ≡ at + length (fitting at text)

pub left-start : (out : List ℕ) (at : ℕ) (text : List ℕ) → Left out at text out at text
left-start out at text = record { laid = refl; place = refl }

pub left-turn : {before text after new x rest : List ℕ} {at next place : ℕ} → Left before at text after next (x ++ rest) → Laid after next x new place → Left before at text new place rest
left-turn {before} {text} {after} {new} {x} {rest} {at} {next} {place} g w =
    let k = rw fitting-append at g.place in
    record {
      laid = rw (w.laid, w.place, sets-append after next (fitting next x) (fitting (next + length (fitting next x)) rest), ← fitting-append next x rest) g.laid;
      place = rw (w.place, add_assoc) (rw length-append at k);
    }

pub left_end : {before text after : List ℕ} {at next : ℕ} → Left before at text after next [] → Laid before at text after next
left_end {before} {text} {after} {at} {next} g =
    record { laid = rw fitting-nil at g.laid; place = sym (add-zero next) ∙ rw fitting-nil at g.place }

-- the digits laid from the last one on: all are left at the start, one less after a turn, none at the end
abbrev pub Digits : List ℕ → ℕ → ℕ → ℕ → List ℕ → ℕ → ℕ → Type 0
Digits before at digits value out place rest =
    sets out at (fitting at (hex_of (place - at) rest)) ≡ sets before at (fitting at (hex_of digits value))

pub put-start : (out : List ℕ) (at digits value : ℕ) → Digits out at digits value out (at + digits) value
put-start out at digits value = let e : at + digits - at ≡ digits = omega arith in rw e

last-digit : (at place rest : ℕ) → at < place → hex_of (place - at) rest ≡ hex_of (place - 1 - at) (rest / 16) ++ (digit_char (rest % 16) ∷ [])
last-digit at place rest h =
    let f : place - at - 1 ≡ place - 1 - at = omega arith in
    rw (hex_of-last (place - at) rest (omega arith), f)

module _ (before out : List ℕ) (at digits value place rest : ℕ) (h : at < place) (g : Digits before at digits value out place rest) where
  -- a digit that fits is stored
  pub put_in : place - 1 < 262144 → Digits before at digits value (set out (place - 1) (digit_char (rest % 16))) (place - 1) (rest / 16)
  put_in k =
      let x = hex_of (place - 1 - at) (rest / 16) in
      let d = digit_char (rest % 16) in
      let l = length-hex_of (place - 1 - at) (rest / 16) in
      let e : place - 1 ≡ at + length x = omega arith in
      let s : sets (set out (place - 1) d) at x ≡ sets out at (x ++ (d ∷ [])) = rw (← sets_last out at x d, ← e) in
      let t : fitting at (hex_of (place - at) rest) ≡ x ++ (d ∷ []) =
      rw (last-digit at place rest h) (fitting-all at (x ++ (d ∷ [])) (omega (arith, length-append x (d ∷ [])))) in
      rw (fitting-all at x (omega arith)) (s ∙ (rw t at g))

  -- one past the end is not
  pub put-out : 262144 ≤ place - 1 → Digits before at digits value out (place - 1) (rest / 16)
  put-out k =
      let x = hex_of (place - 1 - at) (rest / 16) in
      let l = length-hex_of (place - 1 - at) (rest / 16) in
      rw (← fitting-more at x (digit_char (rest % 16) ∷ []) (omega arith), ← last-digit at place rest h) g

pub put-end : (before out : List ℕ) (at digits value place rest : ℕ) {next : ℕ} → place ≤ at → Digits before at digits value out place rest → next ≡ at + min (262144 - at) digits → Laid before at (hex_of digits value) out next
unfolding hex_of
put-end before out at digits value place rest k e n =
    let z : place - at ≡ 0 = omega arith in
    record { laid = rw (z, fitting-nil) at e; place = n ∙ rw (length-fitting, length-hex_of) }

-- nothing is laid past the end
pub laid_none : (out : List ℕ) (at : ℕ) (text : List ℕ) → 262144 ≤ at → Laid out at text out at
laid_none out at text h = record { laid = rw (fitting-none at text h); place = rw (fitting-none at text h) (sym (add-zero at)) }

-- a text from place 0 on stands before the rest of what there was
pub record Front (before text after : List ℕ) (n : ℕ) : Type 0 where
  pub stands : after ≡ text ++ drop (length text) before
  pub count : n ≡ length text

pub front : {before text after : List ℕ} {n : ℕ} → length before ≡ 262144 → Wrote before 0 text after n → Front before text after n
front {before} {text} {after} {n} e w =
    let z : 0 + length text ≡ length text = omega arith in
    let c = w.place ∙ z in
    record {
      stands = w.laid ∙ sets-eq text before 0 (omega (arith, w.room, w.place)) ∙ rw z;
      count = c;
    }
