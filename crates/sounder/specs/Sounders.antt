-- The box around a state of the present rules, with the requests that wait: a clause sees that state in its place. Assumes nothing.
use Rattle.std.specs.Prelude.{ℕ, [], None}
use Rattle.entering.specs.Lined.{Valid, lined}
use Rattle.entering.specs.declared.Lined.{Lined}
use Rattle.envelope.specs.declared.AdsrSpec.{AdsrSpec}
use Rattle.laws.specs.Made.{Made}
use Rattle.marks.specs.declared.Present.{Present}
use Rattle.start.specs.declared.Request.{Request}
use Rattle.waiting.specs.Lines.{line_of}

-- what a call gives, and the state after it
pub record After (A : Type 0) : Type 0 where
  pub gave : A
  pub lined : Lined

abbrev pub ValidAfter : {A : Type 0} → After A → Type 0
ValidAfter x = Valid x.lined

-- what such a call promises: it gives x's, and the state after it is x's, which is valid
abbrev pub Gives : {A : Type 0} → After A → A → Lined → Type 0
Gives x r s = Made ValidAfter x (record { gave = r; lined = s })

-- nobody waits, and no refusal is kept
abbrev pub unwaited : Present → Lined
unwaited p = lined p None (line_of [])

-- what a call makes of the mixer and the marks, beside the line and the kept refusal, which stay
abbrev pub with_present : Lined → Present → Lined
with_present s p = lined p s.kept s.line

-- a play request's id, envelope and priority; `play` asks at priority 128
abbrev pub request_of : ℕ → AdsrSpec → ℕ → Request
request_of id adsr priority = record { id = id; adsr = adsr; priority = priority }
