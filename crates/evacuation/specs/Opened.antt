-- Document 02, T-01: "12: pattern or reader opened at a rate below 20; above 65,537 it is 2". Assumes nothing.
use Rattle.std.specs.Prelude.{ℕ, ◌≤◌, cond, ltb}
use Rattle.error.specs.Told.{Told, value, refused}

-- the rate at which both open, or the refusal's number
unfoldable pub opened_at : ℕ → Told ℕ
opened_at rate = cond (ltb rate 20) (refused 12) (cond (ltb 65537 rate) (refused 2) (value rate))

-- a rate at which both open
pub record ValidRate (rate : ℕ) : Type 0 where
  pub least : 20 ≤ rate
  pub most : rate ≤ 65537
