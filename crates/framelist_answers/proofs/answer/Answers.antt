-- The tests are the definition's. Assumes nothing.
use borrow.Author.Rules.{rules}
use mathlib.Core.Path.{sym, ◌∙◌}
use Rattle.framelist_answers.specs.Lines.{line_answer}
use Rattle.framelist_answers.proofs.Done.{done}
use Rattle.framelist_answers.proofs.answer.Goals as goal

pub returns-then-not-all_digits : goal.returns-then-not-all_digits
unfolding line_answer
returns-then-not-all_digits c = rw (sym c.all_digits.ensures ∙ c.if-not-all_digits.true) (done (search rules) c.bad.ensures)

pub returns-then-is_tone : goal.returns-then-is_tone
unfolding line_answer
returns-then-is_tone c =
    rw (sym c.all_digits.ensures ∙ c.if-not-all_digits.false, sym c.is_tone.ensures ∙ c.if-is_tone.true)
    (done (search rules) c.tone_answer.ensures)

pub returns-then-is_frames : goal.returns-then-is_frames
unfolding line_answer
returns-then-is_frames c =
    rw (
      sym c.all_digits.ensures ∙ c.if-not-all_digits.false,
      sym c.is_tone.ensures ∙ c.if-is_tone.false,
      sym c.is_frames.ensures ∙ c.if-is_frames.true,
      sym c.byte_at.ensures,
    ) (done (search rules) c.frames_answer.ensures)

pub returns : goal.returns
unfolding line_answer
returns c =
    rw (
      sym c.all_digits.ensures ∙ c.if-not-all_digits.false,
      sym c.is_tone.ensures ∙ c.if-is_tone.false,
      sym c.is_frames.ensures ∙ c.if-is_frames.false,
    ) (done (search rules) c.bad-2.ensures)
