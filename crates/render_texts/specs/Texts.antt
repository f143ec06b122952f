-- Words, numbers and times as bytes of ASCII. Assumes nothing.
use Rattle.std.specs.Prelude.{ℕ, zero, suc, ◌*◌, ◌/◌, ◌%◌, ◌+◌, ◌≤◌, ◌≡◌, cond, List, [], ◌∷◌, ◌++◌, ltb, eqb, take}
use Prim.Native.Char.{code}
use Prim.Native.String.{String, [] as end, ◌∷◌ as ◌then◌}
use Rattle.render_texts.specs.declared.Text.{Text}
use Rattle.render_texts.specs.declared.Clock.{Clock}

abbrev pub words : String → List ℕ
words end = []
words (c then s) = code c ∷ words s

abbrev pub digit : ℕ → ℕ
digit n = 48 + n % 10

-- a number of at most so many digits, without zeros in front
unfoldable pub spelled : ℕ → ℕ → List ℕ
spelled zero n = []
spelled (suc k) n = cond (ltb n 10) [] (spelled k (n / 10)) ++ (digit n ∷ [])

-- a number below 2^64 has at most 20 digits
abbrev pub decimal : ℕ → List ℕ
decimal = spelled 20

-- "1 voice", "3 voices"
unfoldable pub things : ℕ → List ℕ → List ℕ
things n name = decimal n ++ name ++ cond (eqb n 1) [] (words "s")

-- whole milliseconds; 0 where there is no rate yet
abbrev pub milliseconds_of : Clock → ℕ
milliseconds_of c = cond (eqb c.rate 0) 0 (c.frames * 1000 / c.rate)

-- "12.500 s"
unfoldable pub seconds_text : ℕ → List ℕ
seconds_text ms = decimal (ms / 1000) ++ (46 ∷ digit (ms / 100) ∷ digit (ms / 10) ∷ digit ms ∷ []) ++ words " s"

-- tenths, as "4.7"
unfoldable pub tenths_text : ℕ → List ℕ
tenths_text n = decimal (n / 10) ++ (46 ∷ digit n ∷ [])

-- so that seconds below 100,000 end in one column
abbrev pub indent : ℕ → List ℕ
indent ms =
    cond (ltb ms 10_000) (words "    ")
    (cond (ltb ms 100_000) (words "   ")
    (cond (ltb ms 1_000_000) (words "  ")
    (cond (ltb ms 10_000_000) (words " ") [])))

-- the time at the head of a line
unfoldable pub time_text : Clock → List ℕ
time_text c = indent (milliseconds_of c) ++ seconds_text (milliseconds_of c) ++ words "  "

abbrev pub text_of : Text → List ℕ
text_of t = take t.len t.bytes

-- the text says these bytes, the first 256 of them; what stands past its length is left open, here and below
pub record Says (bytes : List ℕ) (t : Text) : Type 0 where
  pub text : text_of t ≡ take 256 bytes
  pub short : t.len ≤ 256

-- the text says these bytes, all of them
pub record Tells (bytes : List ℕ) (t : Text) : Type 0 where
  pub text : text_of t ≡ bytes
  pub short : t.len ≤ 256

-- what a text says and then these bytes, the first 256 in all
pub record Adds (t : Text) (bytes : List ℕ) (r : Text) : Type 0 where
  pub text : text_of r ≡ take 256 (text_of t ++ bytes)
  pub short : r.len ≤ 256
