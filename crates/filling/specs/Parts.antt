-- Inner: how many frames are made at once. Assumes nothing.
use Rattle.std.specs.Prelude.{ℕ, min, cond, eqb}
use Rattle.entering.specs.declared.Lined.{Lined}
use Rattle.spans.specs.Spans.{steady_frames}

-- after entering, of those that are left: all where none waits, else as many as surely leave no voice free
abbrev pub at_once : Lined → ℕ → ℕ
at_once s left = cond (eqb s.line.count 0) left (min (steady_frames s.present.mixer) left)
