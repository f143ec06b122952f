-- Hexadecimal as the replay format writes it: digits 0–9 and A–F, two to a byte, fields big-endian. Assumes nothing.
use Rattle.std.specs.Prelude.{◌≡◌, ℕ, zero, suc, ◌+◌, ◌-◌, ◌*◌, ◌/◌, ◌%◌, ◌≤◌, Bool, cond, ◌&&◌, ◌||◌, List, [], ◌∷◌, ◌++◌, leb, ltb, length, get_or, take}
use Rattle.std.proofs.lemmas.List.Edits.{sets}
use Rattle.std.specs.List.{list_all}
use Rattle.laws.specs.Runs.{given}

unfoldable pub between : ℕ → ℕ → ℕ → Bool
between lo hi c = leb lo c && leb c hi

-- '0'..'9' and 'A'..'F'
abbrev pub is_digit : ℕ → Bool
is_digit c = between 48 57 c || between 65 70 c

unfoldable pub all_digits : List ℕ → Bool
all_digits l = list_all is_digit l

-- a digit's value; 0 for what is none
unfoldable pub digit_of : ℕ → ℕ
digit_of c = cond (between 48 57 c) (c - 48) (cond (between 65 70 c) (c - 55) 0)

-- the fields of a line of digits: one byte, two, four and three, from byte k on; past the end every digit is 0
abbrev pub byte_at : List ℕ → ℕ → ℕ
byte_at l k = 16 * digit_of (get_or l (2 * k) 0) + digit_of (get_or l (2 * k + 1) 0)

abbrev pub wide_at : List ℕ → ℕ → ℕ
wide_at l k = 256 * byte_at l k + byte_at l (k + 1)

abbrev pub long_at : List ℕ → ℕ → ℕ
long_at l k = 65536 * wide_at l k + wide_at l (k + 2)

abbrev pub three_at : List ℕ → ℕ → ℕ
three_at l k = 256 * wide_at l k + byte_at l (k + 2)

-- so many bytes from byte k on
abbrev pub bytes_from : List ℕ → ℕ → ℕ → List ℕ
bytes_from l k n = given suc (λ (i : ℕ). byte_at l i ∷ []) n k

abbrev pub digit_char : ℕ → ℕ
digit_char n = cond (ltb n 10) (48 + n) (55 + n)

-- the low d digits of n
unfoldable pub hex_of : ℕ → ℕ → List ℕ
hex_of zero n = []
hex_of (suc d) n = hex_of d (n / 16) ++ (digit_char (n % 16) ∷ [])

-- four fields of a state, 16 digits each
abbrev pub four_of : ℕ → ℕ → ℕ → ℕ → List ℕ
four_of a b c d = hex_of 16 a ++ hex_of 16 b ++ hex_of 16 c ++ hex_of 16 d

abbrev pub newline : List ℕ
newline = 10 ∷ []

-- as much of a text as the buffer has room for, from a place on
unfoldable pub fitting : ℕ → List ℕ → List ℕ
fitting at text = take (262144 - at) text

-- as much was laid over what stood from the place on; next is the place after it
pub record Laid (before : List ℕ) (at : ℕ) (text after : List ℕ) (next : ℕ) : Type 0 where
  pub laid : after ≡ sets before at (fitting at text)
  pub place : next ≡ at + length (fitting at text)

-- all of the text was laid so
pub record Wrote (before : List ℕ) (at : ℕ) (text after : List ℕ) (next : ℕ) : Type 0 where
  pub laid : after ≡ sets before at text
  pub place : next ≡ at + length text
  pub room : next ≤ 262144
