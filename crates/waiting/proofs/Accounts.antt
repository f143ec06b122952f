-- None is lost: each that was accepted waits, was withdrawn, or left the line to go in or to be dropped. Assumes nothing.
use Prim.Native.Nat.{ℕ, suc, ◌<◌}
use native.Mathlib.Omega.{arith}
use mathlib.Core.Path.{◌≡◌, refl, ap}
use mathlib.Core.Bool.{Bool, not}
use mathlib.Core.List.Permᴰ
use mathlib.Core.List.{List, [], ◌∷◌, ◌++◌, append_assoc, Permᴰ}
use lib.Dec.{eqb}
use lib.ListN.{length}
use Rattle.error.specs.Told.{Told, value, refused}
use Rattle.laws.specs.Lists.{All, only}
use Rattle.laws.proofs.Lists.{all-imp}
use Rattle.waiting.specs.Lines.{left}
use Rattle.waiting.specs.History.{Event, leave, withdraw, go_in, Left, Apart, who_of, also_left, others, under, waiting_after, accepted_after, withdrawn_after, tried_after, NoneLost}
use Rattle.waiting.specs.declared.Waiting.{Waiting}
use Rattle.waiting.proofs.Lists.{only_none, only_yes, only_no, by-test}

-- ---- those that pass a test and those that do not are all
parted : {A : Type 0} (test : A → Bool) (l : List A) → Permᴰ l (only (λ x. not (test x)) l ++ only test l)
parted test [] = rw (only_none test, only_none (λ x. not (test x))) Permᴰ.nil
parted test (x ∷ l) =
    by-test test x
    (λ e.
    rw (only_yes test x l e, only_no (λ y. not (test y)) x l (ap not e))
    (Permᴰ.trans (Permᴰ.cons refl (parted test l)) (Permᴰ.symm (Permᴰ.middle x (only (λ y. not (test y)) l) (only test l)))))
    (λ e. rw (only_no test x l e, only_yes (λ y. not (test y)) x l (ap not e)) (Permᴰ.cons refl (parted test l)))

across : {A : Type 0} (a b c : List A) → Permᴰ (a ++ (b ++ c)) (b ++ (a ++ c))
across [] b c = Permᴰ.refl (b ++ c)
across (x ∷ a) b c = Permᴰ.trans (Permᴰ.cons refl (across a b c)) (Permᴰ.symm (Permᴰ.middle x b (a ++ c)))

-- ---- each event
module _ (label : ℕ) (ls ws ts : List Left) {xs : List Left} (d : Permᴰ xs (ls ++ (ws ++ ts))) where
  out : Permᴰ xs (others label ls ++ (under label ls ++ (ws ++ ts)))
  out = rw (← append_assoc (others label ls) (under label ls) (ws ++ ts)) (Permᴰ.trans d (Permᴰ.append_right (ws ++ ts) (parted (λ x. eqb x.who.label label) ls)))

  by-withdrawal : Permᴰ xs (others label ls ++ ((under label ls ++ ws) ++ ts))
  by-withdrawal = rw (append_assoc (under label ls) ws ts) out

  by-trial : Permᴰ xs (others label ls ++ (ws ++ (under label ls ++ ts)))
  by-trial = Permᴰ.trans out (Permᴰ.append_left (others label ls) (across (under label ls) ws ts))

also-both : (x : Left) (t : Told (List Waiting)) (xs ls rest : List Left) → Permᴰ xs (ls ++ rest) → Permᴰ (also_left xs x t) (also_left ls x t ++ rest)
also-both x (value ws) xs ls rest d = Permᴰ.cons refl d
also-both x (refused n) xs ls rest d = d

all_told : (es : List Event) → Permᴰ (accepted_after es) (waiting_after es ++ (withdrawn_after es ++ tried_after es))
unfolding accepted_after waiting_after withdrawn_after tried_after
all_told [] = Permᴰ.nil
all_told (leave x ∷ es) =
    also-both (record { when = length es; who = x }) (left x (who_of (waiting_after es))) (accepted_after es) (waiting_after es) (withdrawn_after es ++ tried_after es) (all_told es)
all_told (withdraw label ∷ es) = by-withdrawal label (waiting_after es) (withdrawn_after es) (tried_after es) (all_told es)
all_told (go_in label ∷ es) = by-trial label (waiting_after es) (withdrawn_after es) (tried_after es) (all_told es)

-- ---- no two at one time
record Past (now : ℕ) (ls : List Left) : Type 0 where
  past : All (λ x. x.when < now) ls
  apart : Apart ls

later : {now : ℕ} {ls : List Left} → Past now ls → Past (suc now) ls
later {now} {ls} p = record { past = all-imp (λ x. x.when < now) (λ x. x.when < suc now) (λ x k. omega arith) ls p.past; apart = p.apart }

also-past : (x : Waiting) (now : ℕ) (t : Told (List Waiting)) (ls : List Left) → Past now ls → Past (suc now) (also_left ls (record { when = now; who = x }) t)
also-past x now (value ws) ls p =
    record {
      past = (omega arith, (later p).past);
      apart = (all-imp (λ y. y.when < now) (λ y. now ≡ y.when → ⊥) (λ y k q. omega arith) ls p.past, p.apart);
    }
also-past x now (refused n) ls p = later p

in-time : (es : List Event) → Past (length es) (accepted_after es)
unfolding accepted_after
in-time [] = record { past = tt; apart = tt }
in-time (leave x ∷ es) = also-past x (length es) (left x (who_of (waiting_after es))) (accepted_after es) (in-time es)
in-time (withdraw label ∷ es) = later (in-time es)
in-time (go_in label ∷ es) = later (in-time es)

pub none-lost : (es : List Event) → NoneLost es
none-lost es = record { all = all_told es; once = (in-time es).apart }
