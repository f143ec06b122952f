-- What is said after what. Assumes nothing.
use Prim.Native.Nat.{ℕ}
use mathlib.Core.Path.{◌∙◌}
use mathlib.Core.List.{List, [], ◌++◌, append_assoc, append-nil}
use Rattle.render_texts.specs.Texts.{Says, Adds, text_of}
use Rattle.render_texts.specs.declared.Text.{Text}
use Rattle.render_texts.proofs.Cut.{cut-cut}

-- a piece after what was said
pub then : {x b : List ℕ} {r s : Text} → Says x r → Adds r b s → Says (x ++ b) s
then {x} {b} h k = record { text = k.text ∙ rw h.text (cut-cut 256 x b); short = k.short }

-- two pieces are one
pub joined : {a b : List ℕ} {t r s : Text} → Adds t a r → Adds r b s → Adds t (a ++ b) s
joined {a} {b} {t} h k = record { text = k.text ∙ rw (h.text, ← append_assoc (text_of t) a b) (cut-cut 256 (text_of t ++ a) b); short = k.short }

-- the empty piece
pub nothing : {a : List ℕ} {t r : Text} → Adds t a r → Adds t (a ++ []) r
nothing {a} {t} {r} h = rw (append-nil a) h
