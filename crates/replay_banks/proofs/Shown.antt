-- What a call that writes a bank tells and leaves of a part of a blank buffer, as it is printed. Assumes nothing.
use Rattle.std.specs.Prelude.{Err, Ok}
use mathlib.Core.Path.{◌≡◌, refl, sym, ap, ◌∙◌}
use mathlib.Core.List.{List, ◌∷◌, ◌++◌}
use Prim.Native.Nat.{ℕ, zero, suc, ◌+◌, ◌*◌, ◌≤◌, ◌<◌}
use native.Mathlib.Omega.{arith}
use lib.ListN.{length, take, drop, replicate, length-replicate, length-append}
use lib.Seq.{take-append_seam}
use Rattle.error.specs.Numbers.{number_of}
use Rattle.error.specs.Told.{Told}
use Rattle.error.specs.declared.AudioError.{AudioError}
use Rattle.bank_writer.specs.Refusals.{Wrote, cells_after}
use Rattle.bank_writer.proofs.Answers.{wrote-refused, wrote-length}
use Rattle.hex_digits.specs.Hex as hex
use Rattle.hex_digits.proofs.Texts.{length-hex_of}
use Rattle.replay_cells.specs.Cells.{byte_text, numbered_text}
use Rattle.replay_cells.proofs.Turns.{numbered-all}
use Rattle.replay_banks.specs.Record.{word_of, Left}

pub left-refused : {t : Told (List ℕ)} {before after : List ℕ} {e : AudioError} → Wrote t before after (Err e) → Left t before after (number_of e * 4294967296)
left-refused w = record { word = rw (wrote-refused w); cells = w.cells }

pub left-length : {t : Told (List ℕ)} {before after : List ℕ} {n : ℕ} → Wrote t before after (Ok n) → Left t before after n
left-length w = let b = wrote-length w in record { word = rw b.told b.size; cells = w.cells }

take-replicate : (k n : ℕ) (x : ℕ) → n ≤ k → take n (replicate k x) ≡ replicate n x
take-replicate k zero x h = refl
take-replicate zero (suc n) x h = absurd (omega arith)
take-replicate (suc k) (suc n) x h = ap (λ (l : List ℕ). x ∷ l) (take-replicate k n x (omega arith))

-- the first n of the cells are lent
module _ {n : ℕ} {cells : List ℕ} (h : n ≤ 4096) (fresh : cells ≡ replicate 4096 0xA5) where
  lent-blank : take n cells ≡ replicate n 0xA5
  lent-blank = ap (λ (l : List ℕ). take n l) fresh ∙ take-replicate 4096 n 0xA5 h

  pub lent_length : length (take n cells) ≡ n
  lent_length = ap length lent-blank ∙ length-replicate n 0xA5

  -- and come back as a part of the same length
  module _ (part : List ℕ) (kept : length part ≡ length (take n cells)) where
    back-all : length part ≡ n
    back-all = kept ∙ lent_length

    pub back_fits : n ≤ length (part ++ drop n cells)
    back_fits = omega (arith, length-append part (drop n cells), back-all)

    back-same : take n (part ++ drop n cells) ≡ part
    back-same = ap (λ (i : ℕ). take i (part ++ drop n cells)) (sym back-all) ∙ take-append_seam part (drop n cells)

    pub back-length : length (take n (part ++ drop n cells)) ≡ n
    back-length = ap length back-same ∙ back-all

    pub shown : {t : Told (List ℕ)} {word next : ℕ} {before after : List ℕ}
        → Left t (take n cells) part word
        → hex.Laid before 0 (numbered_text 10 word byte_text (take n (part ++ drop n cells))) after next
        → hex.Wrote before 0 (numbered_text 10 (word_of t) byte_text (cells_after t (replicate n 0xA5))) after next
    shown {word = word} f l =
        let room : 10 + 2 * length (take n (part ++ drop n cells)) < 262144 = rw back-length (omega arith) in
        let all = numbered-all byte_text 10 word 2 (λ x. length-hex_of 2 x) (take n (part ++ drop n cells)) room l in
        rw (f.word, back-same, f.cells, lent-blank) at all
