-- Inner: where in its cycle a sample of the pattern stands, from which a run of samples is made with no division. Assumes nothing.
use Rattle.std.specs.Prelude.{ℕ, suc, ◌+◌, ◌-◌, ◌%◌, ◌≤◌, ◌<◌, ◌≡◌, cond, List, ltb, eqb, get_or, take}
use Rattle.evacuation.specs.declared.Place.{Place}
use Rattle.evacuation.specs.Pattern.{lengths, total, cycle_of}

-- after the last phase, the first
abbrev pub next_phase : ℕ → ℕ
next_phase k = cond (eqb k 5) 0 (k + 1)

-- sample n stands in this phase, with so many of its samples left, n among them
pub record Stands (rate n : ℕ) (p : Place) : Type 0 where
  pub phase : p.phase < 6
  pub some : 0 < p.left
  pub within : p.left ≤ get_or (lengths rate) p.phase 0
  pub ends : n % cycle_of rate + p.left ≡ total (take (suc p.phase) (lengths rate))

-- a sample further, with the phases' lengths given
unfoldable pub next_place : List ℕ → Place → Place
next_place ns p =
    cond (ltb 1 p.left)
    (record { phase = p.phase; left = p.left - 1 })
    (record { phase = next_phase p.phase; left = get_or ns (next_phase p.phase) 0 })
