-- Document 02, T-05: "13: more than 64 entries, a kind above 5, a payload over 65,535 bytes, lengths that don't add up to the payloads
-- lent, or two entries that share an id, checked first. 14: the lent buffer is shorter than the bank." Assumes nothing.
use Rattle.std.specs.Prelude.{ℕ, ◌+◌, ◌≡◌, Bool, false, cond, not, ◌||◌, List, [], ◌∷◌, ◌++◌, eqb, ltb, length, take, drop, Result}
use Rattle.error.specs.Told.{Told, value, refused, told, and_then}
use Rattle.bank_writer.specs.declared.NewEntry.{NewEntry}
use Rattle.error.specs.declared.AudioError.{AudioError}
use Rattle.bank_writer.specs.Order.{paired}
use Rattle.bank_writer.specs.Layout.{bank_bytes}

unfoldable pub some_of : {A : Type 0} → (A → Bool) → List A → Bool
some_of test [] = false
some_of test (x ∷ l) = test x || some_of test l

-- "a kind above 5, a payload over 65,535 bytes"
abbrev pub outside : NewEntry → Bool
outside e = ltb 5 e.kind || ltb 65535 e.len

unfoldable pub total_of : List NewEntry → ℕ
total_of [] = 0
total_of (e ∷ es) = e.len + total_of es

-- "two entries that share an id"
unfoldable pub share_id : List NewEntry → Bool
share_id [] = false
share_id (e ∷ es) = some_of (λ (f : NewEntry). eqb e.id f.id) es || share_id es

-- what is refused with 13, of the entries given and of so many bytes lent
unfoldable pub barred : List NewEntry → ℕ → Bool
barred es lent = some_of outside es || not (eqb (total_of es) lent) || share_id es

-- the bank, for a buffer of so many cells: count entries are given, at the front of es
unfoldable pub bank_given : List ℕ → List NewEntry → ℕ → List ℕ → ℕ → Told (List ℕ)
bank_given header es count payloads room =
    cond (ltb 64 count || barred (take count es) (length payloads)) (refused 13)
    (cond (ltb room (length (bank_bytes header (paired (take count es) payloads)))) (refused 14)
    (value (bank_bytes header (paired (take count es) payloads))))

-- "its length is returned", and "cells after the bank are not written"; where it is refused, no cell is
abbrev pub length_in : Told (List ℕ) → Told ℕ
length_in bank = and_then bank (λ bytes. value (length bytes))

abbrev pub cells_after : Told (List ℕ) → List ℕ → List ℕ
cells_after (value bytes) cells = bytes ++ drop (length bytes) cells
cells_after (refused n) cells = cells

pub record Wrote (bank : Told (List ℕ)) (before after : List ℕ) (r : Result ℕ AudioError) : Type 0 where
  pub answer : told r ≡ length_in bank
  pub cells : after ≡ cells_after bank before
