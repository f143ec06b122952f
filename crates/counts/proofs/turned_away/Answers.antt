-- `counts::turned_away` meets its contract: what it takes from its row is what trying every list gives. Assumes nothing.
use Rattle.std.proofs.Common.{arith, ◌≡◌, sym, ◌∙◌}
use Rattle.error.proofs.Told.{answered}
use Rattle.counts.specs.Counts.{turned_away, counted_by}
use Rattle.counts.proofs.Laws.{counted-is-within, counted-adds, counted-past}
use Rattle.counts.proofs.Rows.{none-kept, some-kept, refused_below, answer}
use Rattle.counts.proofs.turned_away.Goals.{then-requests-voices, else-requests-voices}
use Rattle.counts.proofs.turned_away.Goals as goal

pub returns-then-past : goal.returns-then-past
returns-then-past c = answered (sym (counted-past _ _ _ _ (sym c.past.ensures ∙ c.if-past.true))) (counted-adds _ _ _ _)

pub overflow_sub-priorities : goal.overflow_sub-priorities
overflow_sub-priorities c = let w = counted-is-within _ _ _ _ (sym c.past.ensures ∙ c.if-past.false) in omega arith

pub row_of-row-requires : goal.row_of-row-requires
row_of-row-requires c = let w = counted-is-within _ _ _ _ (sym c.past.ensures ∙ c.if-past.false) in (w.short, omega arith)

pub bounds-row-from : goal.bounds-row-from
bounds-row-from c = let w = counted-is-within _ _ _ _ (sym c.past.ensures ∙ c.if-past.false) in omega arith

pub overflow_sub-result : goal.overflow_sub-result
overflow_sub-result c =
    let w = counted-is-within _ _ _ _ (sym c.past.ensures ∙ c.if-past.false) in
    let e : c.if-requests-voices.refused ≡ (counted_by (turned_away c.args.voices c.args.priority) c.args.priorities c.args.requests).refused =
    elim c.if-requests-voices.branch [
      | then-requests-voices b ↦ b.refused-is ∙ none-kept w b.if-requests-voices.true
      | else-requests-voices b ↦
          b.refused-is ∙ rw (c.row_of-row.ensures, c.from.ensures, c.from-2.ensures, b.from-else-requests-voices.ensures) (some-kept w b.if-requests-voices.false)
    ] in
    rw (c.row_of-row.ensures, c.from.ensures, c.from-2.ensures) (refused_below w _ e)

pub returns : goal.returns
returns c =
    let w = counted-is-within _ _ _ _ (sym c.past.ensures ∙ c.if-past.false) in
    let e : c.if-requests-voices.refused ≡ (counted_by (turned_away c.args.voices c.args.priority) c.args.priorities c.args.requests).refused =
    elim c.if-requests-voices.branch [
      | then-requests-voices b ↦ b.refused-is ∙ none-kept w b.if-requests-voices.true
      | else-requests-voices b ↦
          b.refused-is ∙ rw (c.row_of-row.ensures, c.from.ensures, c.from-2.ensures, b.from-else-requests-voices.ensures) (some-kept w b.if-requests-voices.false)
    ] in
    answered (rw (c.row_of-row.ensures, c.from.ensures, c.from-2.ensures) (answer w _ e)) (counted-adds _ _ _ _)
